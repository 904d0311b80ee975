-- What a MemInbox tells: the files shown in it, its part, and the names that are free.
use Rattle.std.specs.Prelude.{ℕ, Bool, true, false, not, ◌||◌, List, map, Option, None, Some, option_map}
use Rattle.std.specs.List.{list_any}
use Rattle.std.specs.Str.{bytes_eq}
use Rattle.disk_model.specs.Disk.{Meaning}
use Rattle.file_messages.specs.Files.{File}
use Rattle.folders.specs.Placing.{Placing, Part, Missing, Lying, Given}
use Rattle.folders.specs.declared.mem_inbox.MemInbox.{MemInbox}
use Rattle.folders.specs.declared.mem_inbox.Entry.{Entry}

-- a file under its name
abbrev pub file_at : {D : Type 0} → Meaning D → Entry D → File
file_at m entry = record { name = entry.name.bytes; bytes = m.reading entry.disk }

-- where the part is
abbrev pub part_at : {D : Type 0} → Meaning D → Bool → Option D → Part
part_at m true part = Given
part_at m false None = Missing
part_at m false (Some disk) = Lying (m.reading disk)

-- a file that is shown has this name
abbrev pub is_shown_in : {D : Type 0} → MemInbox D → List ℕ → Bool
is_shown_in i name = list_any (λ e. bytes_eq e.name.bytes name) i.shown.items

-- another file has it
abbrev pub is_other_in : {D : Type 0} → MemInbox D → List ℕ → Bool
is_other_in i name = list_any (λ other. bytes_eq other.bytes name) i.others.items

abbrev pub is_free_in : {D : Type 0} → MemInbox D → List ℕ → Bool
is_free_in i name = not (is_shown_in i name || is_other_in i name)

-- what it tells: no images
abbrev pub mem_placing : {D : Type 0} → Meaning D → Placing (MemInbox D)
mem_placing m = record {
  tells = m.tells;
  shown = λ i. map (file_at m) i.shown.items;
  part = λ i. part_at m i.is_given i.part;
  free = is_free_in;
  register = λ i. option_map m.reading i.register;
  tells_images = ⊥;
  images = λ i x. Unit {0};
  moment = λ i. 0;
  since = λ i t x. Unit {0};
  count = λ i. i.faults;
  images_tell = λ no. absurd no;
  names_are_image = λ no i. tt;
  counts_now = λ no i t x le is. tt;
  only_now = λ no i x left. tt;
}

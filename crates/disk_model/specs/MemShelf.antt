-- What a MemShelf tells: the disks on it, those that are out, and its files.
use Rattle.std.specs.Prelude.{ℕ, Bool, not, if◌then◌else◌, List, [], ◌∷◌, ◌++◌, filter, find, Option, None, Some}
use Rattle.std.specs.Prelude.{option_map, is_some, String, Vec, string_bytes}
use Rattle.std.specs.Str.{bytes_eq}
use Rattle.std.specs.declared.alloc.Global.{Global}
use Rattle.pump_frame.specs.Counts.{raised}
use Rattle.disk_model.specs.Disk.{Meaning}
use Rattle.disk_model.specs.DiskNames.{same_name}
use Rattle.disk_model.specs.Shelf.{Holdings, Whereabouts, OnShelf, Out, Nowhere}
use Rattle.disk_model.specs.declared.name.DiskName.{DiskName}

-- the entry is of this name
abbrev pub has_name : {T : Type 0} → DiskName → DiskName × T → Bool
has_name name entry = same_name entry.0 name

-- what the first entry of a name has
abbrev pub under : {T : Type 0} → DiskName → List (DiskName × T) → Option T
under name entries = option_map (λ entry. entry.1) (find (has_name name) entries)

-- the entries without the first one of a name
abbrev pub without_first : {T : Type 0} → DiskName → List (DiskName × T) → List (DiskName × T)
without_first name [] = []
without_first name (entry ∷ rest) = if has_name name entry then rest else entry ∷ without_first name rest

-- the entries without all those of a name
abbrev pub without : {T : Type 0} → DiskName → List (DiskName × T) → List (DiskName × T)
without name = filter (λ entry. not (has_name name entry))

-- the bytes of the first file of a name
abbrev pub file_of : List ℕ → List (String Global × Vec ℕ Global) → Option (List ℕ)
file_of name files = option_map (λ file. file.1.items) (find (λ file. bytes_eq (string_bytes file.0) name) files)

-- What a contract sees of a MemShelf: the disks handed in or put back; those that are out, with the counts that they
-- had when they were given; the files; the calls of `whole` and `disk` made, the numbers of those that fail, and the
-- two counts.
pub record MemoryShelf (D : Type 0) : Type 0 where
  pub disks : List (DiskName × D)
  pub outs : List (DiskName × ℕ)
  pub files : List (String Global × Vec ℕ Global)
  pub calls : ℕ
  pub fails : List ℕ
  pub faults : ℕ
  pub disk_faults : ℕ

-- the disk of a name, where it is on the shelf
abbrev pub home_of : {D : Type 0} → MemoryShelf D → DiskName → Option D
home_of s name = if is_some (under name s.outs) then None else under name s.disks

-- where a disk is, by its entry among those that are out, and by the one among those that are not
abbrev pub whereabouts : {D : Type 0} → Meaning D → Option ℕ → Option D → Whereabouts
whereabouts m (Some given) home = Out given
whereabouts m None (Some disk) = OnShelf (m.reading disk)
whereabouts m None None = Nowhere

-- what a MemShelf tells
abbrev pub mem_holdings : {D : Type 0} → Meaning D → Holdings (MemoryShelf D)
mem_holdings m = record {
  tells = Unit {0};
  disk = λ s name. whereabouts m (under name s.outs) (under name s.disks);
  file = λ s name. file_of name s.files;
  faults = λ s. s.faults;
  disk_faults = λ s. s.disk_faults;
}

-- a call was made
abbrev pub with_call_made : {D : Type 0} → MemoryShelf D → MemoryShelf D
with_call_made s = record s { calls = raised s.calls }

-- the disk of a name was taken off the shelf, when it had failed so often
abbrev pub with_disk_out : {D : Type 0} → MemoryShelf D → DiskName → ℕ → MemoryShelf D
with_disk_out s name given = record s { disks = without_first name s.disks; outs = s.outs ++ (name, given) ∷ [] }

-- the disk of a name was put back, in front of any other that was handed in under that name
abbrev pub with_disk_home : {D : Type 0} → MemoryShelf D → DiskName → D → MemoryShelf D
with_disk_home s name disk = record s { disks = (name, disk) ∷ s.disks; outs = without name s.outs }

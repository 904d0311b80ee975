-- How a call of a MemShelf ends, by what it answers. It serves private clauses and proofs alone.
use Rattle.std.specs.Prelude.{◌≡◌, ℕ, ◌≤◌, ◌⊎◌, List, Option, None, Some, Result, Ok, Err, Contains}
use Rattle.pump_frame.specs.Counts.{raised}
use Rattle.disk_model.specs.Disk.{Meaning}
use Rattle.disk_model.specs.Shelf.{ReadsFile}
use Rattle.disk_model.specs.MemShelf.{MemoryShelf, file_of, home_of, with_call_made, with_disk_out}
use Rattle.disk_model.specs.declared.name.DiskName.{DiskName}
use Rattle.disk_model.specs.declared.shelf.ShelfFault.{ShelfFault}
use Rattle.disk_model.specs.declared.shelf.ShelfFault.TheVariants.{Failed, Memory}

-- the call is one of those that fail, or what it asks for isn't there
abbrev pub IsRefused : {D A : Type 0} → MemoryShelf D → Option A → Type 0
IsRefused s found = Contains s.fails s.calls ⊎ (found ≡ None)

abbrev pub ReadsWhole : {D : Type 0} → List ℕ → MemoryShelf D → MemoryShelf D → List ℕ → List ℕ → Result ℕ ShelfFault
    → Type 0
ReadsWhole name old new before after (Ok n) =
    (IsRefused old (file_of name old.files) → ⊥) × ReadsFile (file_of name old.files) before after n
    × (new ≡ with_call_made old)
ReadsWhole name old new before after (Err Failed) =
    IsRefused old (file_of name old.files) × (old.faults ≤ new.faults)
    × (new ≡ record (with_call_made old) { faults = raised old.faults }) × (after ≡ before)
ReadsWhole name old new before after (Err Memory) = ⊥

abbrev pub TakesDisk : {D : Type 0} → Meaning D → DiskName → MemoryShelf D → MemoryShelf D → Result D ShelfFault
    → Type 0
TakesDisk m name old new (Ok disk) =
    (IsRefused old (home_of old name) → ⊥) × (home_of old name ≡ Some disk)
    × (new ≡ with_disk_out (with_call_made old) name (m.count disk))
TakesDisk m name old new (Err Failed) =
    IsRefused old (home_of old name) × (old.disk_faults ≤ new.disk_faults)
    × (new ≡ record (with_call_made old) { disk_faults = raised old.disk_faults })
TakesDisk m name old new (Err Memory) = (IsRefused old (home_of old name) → ⊥) × (new ≡ with_call_made old)

-- What is left in a folder, as a collector that opens it finds it.
use Rattle.std.specs.Prelude.{◌≡◌, List, ℕ, ◌+◌, length, Option, None, Some, Result, Ok, Err}
use Rattle.disk_model.specs.Disk.{Meaning}
use Rattle.file_messages.specs.Files.{State, Between, Inside}
use Rattle.folders.specs.Placing.{Placing, Part, is_there, first_of}
use Rattle.file_collector.specs.Collecting.{Fits}
use Rattle.file_collector.specs.Opening.{lying_part}
use Rattle.file_collector.specs.Gathering.{IsGathering, PartStands}
use Rattle.file_collector.specs.Registers.{IsKept}
use Rattle.file_collector.specs.declared.collector.Collector.{Collector}

-- a register, a folder and its part that fit messages
pub record OpensOn {I : Type 0} (m : Placing I) (inbox : I) (messages : List (List ℕ)) : Type 0 where
  pub bytes : List ℕ
  pub register : m.register inbox ≡ Some bytes
  pub fits : Fits messages bytes (record { shown = m.shown inbox; has_part = is_there (m.part inbox) })
      (lying_part (m.part inbox))

-- the inbox that an opening hands on
abbrev pub inbox_of : {I D E : Type 0} → Result (Collector I D) (I × E) → I
inbox_of (Ok c) = c.gatherer.inbox
inbox_of (Err refused) = refused.0

-- a collector opened so: so many messages are counted, which led to a state; and this file was lost, or none
pub record IsOpenedAs {I D : Type 0} (mi : Placing I) (md : Meaning D) (c : Collector I D) (count : ℕ) (state : State)
    (file : Option (List ℕ)) : Type 0 where
  pub gathering : IsGathering mi md c.gatherer state
  pub kept : IsKept md c.register count state
  pub lost : c.lost ≡ file

-- a collector that begins: no message is counted, no file has begun, and none was lost
abbrev pub IsNew : {I D : Type 0} → Placing I → Meaning D → Collector I D → Type 0
IsNew mi md c = IsOpenedAs mi md c 0 Between None

-- What an opening makes of a file that had begun, of which these bytes were counted. Where its part has them it goes
-- on. Else it is shown already where all had come, and is counted; and where not it is lost, and the count stays.
pub record TakesUp {I D : Type 0} (mi : Placing I) (md : Meaning D) (c : Collector I D) (count : ℕ) (name : List ℕ)
    (size : ℕ) (held : List ℕ) (part : Part) : Type 0 where
  pub here : PartStands (Inside name size held) (lying_part part)
      → IsOpenedAs mi md c count (Inside name size held) None
  pub shown : first_of (length held) part ≡ None → length held ≡ size → IsOpenedAs mi md c (count + 1) Between None
  pub lost : first_of (length held) part ≡ None → (length held ≡ size → ⊥)
      → IsOpenedAs mi md c count Between (Some name)

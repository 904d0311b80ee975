-- What a MemOutbox tells.
use Rattle.std.specs.Prelude.{◌≡◌, ◌⊎◌, ℕ, ◌≤◌, List, ◌∷◌, length, Option, None, Some, Result, Ok, Err, Contains}
use Rattle.pump_frame.specs.Counts.{raised}
use Rattle.folders.specs.Marks.{HasNumbers}
use Rattle.folders.specs.Outboxes.{Dropping, Marked}
use Rattle.folders.specs.OutboxLog.{IsImage, WasImage, standing}
use Rattle.folders.specs.OutboxLogLaws.{standing_image, counts_now, only_now}
use Rattle.folders.specs.declared.mark.Mark.{Mark}
use Rattle.folders.specs.declared.mark.Stage.TheVariants.{Fresh}
use Rattle.folders.specs.declared.outbox.OutboxFault.{OutboxFault}
use Rattle.folders.specs.declared.outbox_log.Change.{Change}
use Rattle.folders.specs.declared.outbox_log.Change.TheVariants.{Take, Mark as Marks, Remove}
use Rattle.folders.specs.declared.outbox_log.Entry.{Entry}
use Rattle.folders.specs.declared.outbox_log.Entry.TheVariants.{Done, Missed}

-- What a contract sees of a MemOutbox: what happened to it, the newest first; the number of the next
-- call, the numbers of the calls that fail, and the count of the failed ones. Which files wait, and
-- what their openings give, it does not see.
pub record MemoryOutbox : Type 0 where
  pub log : List Entry
  pub number : ℕ
  pub fails : List ℕ
  pub faults : ℕ

abbrev pub mem_dropping : Dropping MemoryOutbox
mem_dropping = record {
  tells = Unit {0};
  stands = λ o. standing o.log;
  images = λ o s. IsImage o.log s;
  moment = λ o. length o.log;
  since = λ o t s. WasImage o.log t s;
  several = λ o. ⊥;
  count = λ o. o.faults;
  stands_image = λ yes o. standing_image o.log;
  counts_now = λ yes o t s le is. counts_now o.log t s is;
  only_now = λ yes o s left. only_now o.log s left;
}

abbrev pub mark_in : Option Marked → Option Mark
mark_in None = None
mark_in (Some marked) = Some marked.mark

-- the numbers of a mark that is kept are in their ranges
abbrev pub HasGoodNumbers : Option Mark → Type 0
HasGoodNumbers None = Unit {0}
HasGoodNumbers (Some mark) = HasNumbers mark.stage

-- ---- how its calls end ----

-- the mark after a change
abbrev pub mark_after : Change → Option Mark
mark_after (Take name) = Some (record { stage = Fresh; name = name })
mark_after (Marks mark) = Some mark
mark_after Remove = None

-- the numbers of a mark that a change gives are in their ranges
abbrev pub HasGoodMark : Change → Type 0
HasGoodMark change = HasGoodNumbers (mark_after change)

-- a call was made
abbrev pub with_call : MemoryOutbox → MemoryOutbox
with_call o = record o { number = raised o.number }

-- a call was made, and failed
abbrev pub with_fault : MemoryOutbox → MemoryOutbox
with_fault o = record o { number = raised o.number; faults = raised o.faults }

abbrev pub with_entry : Entry → MemoryOutbox → MemoryOutbox
with_entry entry o = record o { log = entry ∷ o.log }

-- a change is made and kept; or its call failed, which is kept where there is memory
abbrev pub Changes : Change → MemoryOutbox → MemoryOutbox → Result (Unit {0}) OutboxFault → Type 0
Changes change old new (Ok x) =
    (Contains old.fails old.number → ⊥) × (new ≡ with_call (with_entry (Done change) old))
Changes change old new (Err e) =
    (old.faults ≤ new.faults)
    × ((new ≡ with_fault (with_entry (Missed change) old)) ⊎ (new ≡ with_fault old))

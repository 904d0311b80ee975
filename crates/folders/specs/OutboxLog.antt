-- What happened to an outbox in memory, the newest first, and what a crash may leave of it.
use Rattle.std.specs.Prelude.{◌≡◌, ◌⊎◌, ℕ, ◌≤◌, Bool, if◌then◌else◌, List, [], ◌∷◌, length, None}
use Rattle.folders.specs.Outboxes.{Standing, MayBe, taken, with_mark, opened, without_marked}
use Rattle.folders.specs.declared.outbox_log.Change.{Change}
use Rattle.folders.specs.declared.outbox_log.Change.TheVariants.{Take, Mark, Remove}
use Rattle.folders.specs.declared.outbox_log.Entry.{Entry}
use Rattle.folders.specs.declared.outbox_log.Entry.TheVariants.{Done, Missed, Opened, Crashed}

-- nothing is marked, and nothing was removed
abbrev pub at_first : Standing
at_first = record { marked = None; removed = [] }

abbrev pub changed : Change → Standing → Standing
changed (Take name) s = taken name s
changed (Mark mark) s = with_mark mark s
changed Remove s = without_marked s

-- what stands, and what a crash leaves that makes the changes of failed calls
pub record Outcomes : Type 0 where
  pub stands : Standing
  pub kept : Standing

abbrev pub crashed : Bool → Outcomes → Standing
crashed kept outcomes = if kept then outcomes.kept else outcomes.stands

abbrev pub outcomes : List Entry → Outcomes
outcomes [] = record { stands = at_first; kept = at_first }
outcomes (Done change ∷ older) =
    record { stands = changed change (outcomes older).stands; kept = changed change (outcomes older).stands }
outcomes (Missed change ∷ older) =
    record { stands = (outcomes older).stands; kept = changed change (outcomes older).kept }
outcomes (Opened bytes ∷ older) =
    record { stands = opened bytes.items (outcomes older).stands; kept = opened bytes.items (outcomes older).kept }
outcomes (Crashed kept ∷ older) =
    record { stands = crashed kept (outcomes older); kept = crashed kept (outcomes older) }

-- what stands
abbrev pub standing : List Entry → Standing
standing log = (outcomes log).stands

-- what a crash may leave
abbrev pub IsImage : List Entry → Standing → Type 0
IsImage [] s = s ≡ at_first
IsImage (Done change ∷ older) s = s ≡ changed change (standing older)
IsImage (Missed change ∷ older) s = (d : Standing) × IsImage older d × MayBe (changed change) d s
IsImage (Opened bytes ∷ older) s = (d : Standing) × IsImage older d × (s ≡ opened bytes.items d)
IsImage (Crashed kept ∷ older) s = s ≡ crashed kept (outcomes older)

-- what a crash may have left since there were t entries
abbrev pub WasImage : List Entry → ℕ → Standing → Type 0
WasImage [] t s = IsImage [] s
WasImage (e ∷ older) t s = IsImage (e ∷ older) s ⊎ ((t ≤ length older) × WasImage older t s)

-- How a replay ends, by its status: what it printed, what was written of that, and what is read of the disks then.
use Rattle.std.specs.Prelude.{◌≡◌, ◌⊎◌, ℕ, List, Option, Some}
use Rattle.disk_model.specs.declared.name.Role.{Role}
use Rattle.pump_frame.specs.Counts.{Rose}
use Rattle.script_replay.specs.Replays.{IsFinished, IsWaiting, IsUnread, IsFaulted, IsFailed, IsDown, IsBarred}
use Rattle.script_replay.specs.Replays.{IsOverfilled, IsCutOff, Wrote, WrotePrefix, EndedWith, HaveOutlived}
use Rattle.script_replay.specs.Replays.{HaveReceived}
use Rattle.script_replay.specs.Shelves.{Places, shelved}
use Rattle.script_replay.specs.Statuses.{CanFinish, HasStatus, status_of}
use Rattle.script_replay.specs.declared.ended.Ended.{Ended}
use Rattle.script_replay.specs.declared.ended.Ended.TheVariants.{Done, Memory, Write, Stopped}

abbrev pub end_status : Ended → ℕ
end_status Done = 0
end_status Memory = 1
end_status Write = 4
end_status (Stopped fault) = status_of (Some fault)

-- `before` and `after` say where each disk is, and `fails` which failed; `all` and `left` what the source had at the
-- call and has after it, and `was` and `now` how often a read had failed; `old` and `new` what the sink had and has.
-- At 0, 5 and 10 the bytes of the script have no other status on the disks that were found
pub record EndsReplay (status : ℕ) (before after : Places) (fails : ℕ → Role
    → Type 0) (all left old new : Option (List ℕ)) (was now : ℕ) : Type 0 where
  pub done : status ≡ 0 → Wrote all old new (λ r output. IsFinished (shelved before after) r output
      × HasStatus 0 r output)
  pub memory : status ≡ 1 → Wrote all old new (IsWaiting (shelved before after) left)
  pub unread : status ≡ 3 → Wrote all old new (IsUnread (shelved before after) left was now)
  pub cut_off : status ≡ 4 → WrotePrefix all old new (IsCutOff (shelved before after) left was now)
  pub faulted : status ≡ 5 → Wrote all old new (λ r output. IsFaulted (shelved before after) left r output
      × HasStatus 5 r output)
  pub down : status ≡ 7 → Wrote all old new (λ r output. IsDown (shelved before after) fails left r output
      × (IsFailed (shelved before after) left r output → HasStatus 7 r output))
  pub barred : status ≡ 8 → Wrote all old new (IsBarred (shelved before after) left)
  pub full : status ≡ 10 → Wrote all old new (λ r output. IsOverfilled (shelved before after) left r output
      × HasStatus 10 r output)
  -- a script whose lines can all be applied, on disks that were found so, is replayed to its end, unless memory is
  -- wanting, a read or a write fails, or a disk
  pub completes : (bytes : List ℕ) → all ≡ Some bytes → CanFinish before bytes → (Rose was now → ⊥) → (status ≡ 4 → ⊥)
      → ((session : ℕ) (role : Role) → fails session role → ⊥) → (status ≡ 0) ⊎ (status ≡ 1)
  -- The headline, unless memory was wanting: each message whose acknowledgement was written is on the disks of its
  -- session, at 4 so is each whose acknowledgement was still to be written; and the receiver of each session has a
  -- prefix of what the session accepted
  pub outlives : (status ≡ 1 → ⊥) → EndedWith status (shelved before after) all left old new was now
      (HaveOutlived after)
  pub prefix : (status ≡ 1 → ⊥) → EndedWith status (shelved before after) all left old new was now (HaveReceived after)

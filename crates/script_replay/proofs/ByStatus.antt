-- How a replay ends by its status, from how it ends.
use Rattle.std.proofs.Common.{◌≡◌, ℕ, ◌==◌, Bool, true, false, List, [], Option, None, Some, refl, subst, arith}
use Rattle.disk_model.specs.declared.name.Role.{Role}
use Rattle.script_reader.specs.declared.fault.Fault.TheVariants as faults
use Rattle.script_replay.specs.Ends.{end_status, EndsReplay}
use Rattle.pump_link.proofs.Known.{Appends-none}
use Rattle.script_reader.specs.Openings.{new_disks}
use Rattle.script_reader.specs.Sessions.{no_sessions}
use Rattle.script_replay.proofs.SoFar.{Keeps-same, replayed}
use Rattle.script_replay.specs.Replays.{Replayed, IsNear, IsDown, Wrote, EndedWith, HaveOutlived, HaveReceived}
use Rattle.script_replay.specs.Runners.{EndsAs}
use Rattle.script_replay.specs.Shelves.{Places, shelved}
use Rattle.script_replay.specs.declared.ended.Ended.{Ended}
use Rattle.script_replay.specs.declared.ended.Ended.TheVariants as ended
use Rattle.script_replay.proofs.Headline.{HoldsAtEnds, outlives, prefixes, wrote_finished, wrote_unread, wrote_prefix, wrote_faulted, wrote_down, wrote_barred, wrote_full}
use Rattle.script_replay.proofs.Completes.{completes}
use Rattle.script_replay.proofs.OneStatus.{done_only, faulted_only, full_only, told_only}

-- ---- the end that has a status ----

abbrev Where : Bool → Type 0 → Type 0 → Type 0
Where true A B = A
Where false A B = B

abbrev IsOfStatus : ℕ → Ended → Type 0
IsOfStatus status end =
    Where (status == 0) (end ≡ ended.Done)
    (Where (status == 1) (end ≡ ended.Memory)
    (Where (status == 2) (end ≡ ended.Stopped faults.Words)
    (Where (status == 3) (end ≡ ended.Stopped faults.Read)
    (Where (status == 4) (end ≡ ended.Write)
    (Where (status == 5) ((line : ℕ) × (end ≡ ended.Stopped (faults.Script line)))
    (Where (status == 7) ((session : ℕ) × (role : Role) × (end ≡ ended.Stopped (faults.Device session role)))
    (Where (status == 8) ((session : ℕ) × (role : Role) × (number first second : ℕ) × (end ≡ ended.Stopped (faults.Disk session role number first second)))
    (Where (status == 10) ((session at length size : ℕ) × (end ≡ ended.Stopped (faults.Full session at length size))) (Unit {0})))))))))

of_its_status : (end : Ended) → IsOfStatus (end_status end) end
of_its_status ended.Done = refl
of_its_status ended.Memory = refl
of_its_status ended.Write = refl
of_its_status (ended.Stopped faults.Words) = refl
of_its_status (ended.Stopped faults.Read) = refl
of_its_status (ended.Stopped (faults.Script line)) = (line, refl)
of_its_status (ended.Stopped (faults.Device session role)) = (session, role, refl)
of_its_status (ended.Stopped (faults.Disk session role number first second)) = (session, role, number, first, second, refl)
of_its_status (ended.Stopped (faults.Full session at length size)) = (session, at, length, size, refl)

pub of_status : (status : ℕ) (end : Ended) → end_status end ≡ status → IsOfStatus status end
of_status status end is = subst (λ (n : ℕ). IsOfStatus n end) is (of_its_status end)

-- ---- nothing was read ----

near_none : (all : Option (List ℕ)) → IsNear all all
near_none None = ([], tt, omega arith)
near_none (Some bytes) = ([], refl, omega arith)

abbrev nothing_replayed : (all : Option (List ℕ)) → Replayed all
nothing_replayed all = replayed new_disks all all [] [] no_sessions (record { spelled = Keeps-same all; leads = (refl, refl) }) (omega arith)

-- ---- how it ends ----

module _ (before after : Places) (fails : ℕ → Role → Type 0) (all left old new : Option (List ℕ)) (was now : ℕ) where
  abbrev Ends : Ended → Type 0
  Ends end = EndsAs (shelved before after) all left old new was now end

  holds : (Holds : _) → HoldsAtEnds before after Holds → (end : Ended) → Ends end → (end_status end ≡ 1 → ⊥) → EndedWith (end_status end) (shelved before after) all left old new was now Holds
  holds Holds h ended.Done ends wrote = wrote_finished before after all left was now Holds h old new ends
  holds Holds h ended.Memory ends wrote = absurd (wrote refl)
  holds Holds h ended.Write ends wrote = wrote_prefix before after all left was now Holds h old new ends
  holds Holds h (ended.Stopped faults.Words) ends wrote = absurd ends
  holds Holds h (ended.Stopped faults.Read) ends wrote = wrote_unread before after all left was now Holds h old new ends
  holds Holds h (ended.Stopped (faults.Script line)) ends wrote = wrote_faulted before after all left was now Holds h old new ends
  holds Holds h (ended.Stopped (faults.Device session role)) ends wrote = wrote_down before after all left was now Holds h old new session role ends
  holds Holds h (ended.Stopped (faults.Disk session role number first second)) ends wrote = wrote_barred before after all left was now Holds h old new ends
  holds Holds h (ended.Stopped (faults.Full session at length size)) ends wrote = wrote_full before after all left was now Holds h old new ends

  pub ends_by_status : (end : Ended) → Ends end → ((session : ℕ) (role : Role) → end ≡ ended.Stopped (faults.Device session role) → Wrote all old new (IsDown (shelved before after) fails left))
      → EndsReplay (end_status end) before after fails all left old new was now
  ends_by_status end ends downs = record {
    done = λ is. done_only (shelved before after) all old new (subst Ends (of_status 0 end is) ends);
    memory = λ is. subst Ends (of_status 1 end is) ends;
    unread = λ is. subst Ends (of_status 3 end is) ends;
    cut_off = λ is. subst Ends (of_status 4 end is) ends;
    faulted = λ is. let (line, e) = of_status 5 end is in faulted_only (shelved before after) all old new left (subst Ends e ends);
    down = λ is. let (session, role, e) = of_status 7 end is in told_only (shelved before after) all old new left fails (downs session role e);
    barred = λ is. let (session, role, number, first, second, e) = of_status 8 end is in subst Ends e ends;
    full = λ is. let (session, at, length, size, e) = of_status 10 end is in full_only (shelved before after) all old new left (subst Ends e ends);
    completes = λ bytes told can. completes before after fails all left old new was now bytes told can end ends downs;
    outlives = holds (HaveOutlived after) (outlives before after) end ends;
    prefix = holds (HaveReceived after) (prefixes before after) end ends;
  }

-- where there was no memory before anything was read
pub ends_at_once : (before : Places) (fails : ℕ → Role → Type 0) (all old : Option (List ℕ)) (was : ℕ) → EndsReplay 1 before before fails all all old old was was
ends_at_once before fails all old was =
    ends_by_status before before fails all all old old was was ended.Memory (nothing_replayed all, [], record { taken = near_none all; output_is = refl; disks = λ number role. refl }, Appends-none old) (λ session role e. cc)

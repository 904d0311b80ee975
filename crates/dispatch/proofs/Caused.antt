-- What a status of a command tells of its causes.
use Rattle.std.proofs.Common.{◌≡◌, ◌⊎◌, ℕ, ◌≤◌, false, nat_eq, zero, suc, List, [], Option, inl, inr, refl, sym, ◌∙◌, subst, arith}
use Rattle.std.specs.Io.KnownBytes.{Appends}
use Rattle.command_ends.specs.Causes.{HasEndCause}
use Rattle.command_ends.specs.CommandEnds.{IsSessionEnd, IsUnwrapEnd, IsWrapEnd, TellsWords, end_status}
use Rattle.command_ends.proofs.CommandEnds.{session_status}
use Rattle.command_ends.specs.declared.command_end.CommandEnd.{CommandEnd}
use Rattle.command_ends.specs.declared.command_end.CommandEnd.TheVariants as ends
use Rattle.disk_model.specs.declared.name.Role.{Role}
use Rattle.dispatch.specs.Batch.{HasBatchCause}
use Rattle.dispatch.specs.Racing.{EndsRace}
use Rattle.dispatch.proofs.Asked.{is_not}
use Rattle.script_reader.specs.declared.fault.Fault.TheVariants as faults
use Rattle.script_replay.specs.Ends.{end_status as chain_status}
use Rattle.script_replay.specs.declared.ended.Ended.{Ended}
use Rattle.script_replay.specs.declared.ended.Ended.TheVariants as chains

-- what a status tells of the causes: of want of memory, a disk, a read and a write; and it does not tell of the words
pub record Causes (Wants Disk Read Write : Type 0) (status : ℕ) : Type 0 where
  pub memory : status ≡ 1 → Wants
  pub words : status ≡ 2 → ⊥
  pub read : status ≡ 3 → Read
  pub write : status ≡ 4 → Write
  pub disk : status ≡ 7 → Disk

abbrev pub Cause : (Wants Disk Read Write : Type 0) → ℕ → Type 0
Cause Wants Disk Read Write zero = Unit
Cause Wants Disk Read Write (suc zero) = Wants
Cause Wants Disk Read Write (suc (suc zero)) = ⊥
Cause Wants Disk Read Write (suc (suc (suc zero))) = Read
Cause Wants Disk Read Write (suc (suc (suc (suc zero)))) = Write
Cause Wants Disk Read Write (suc (suc (suc (suc (suc zero))))) = Unit
Cause Wants Disk Read Write (suc (suc (suc (suc (suc (suc zero)))))) = Unit
Cause Wants Disk Read Write (suc (suc (suc (suc (suc (suc (suc zero))))))) = Disk
Cause Wants Disk Read Write (suc (suc (suc (suc (suc (suc (suc (suc n)))))))) = Unit

pub causes : (Wants Disk Read Write : Type 0) (status number : ℕ) → status ≡ number → Cause Wants Disk Read Write number → Causes Wants Disk Read Write status
causes Wants Disk Read Write status number is cause = record {
  memory = λ e. subst (λ n. Cause Wants Disk Read Write n) (sym is ∙ e) cause;
  words = λ e. subst (λ n. Cause Wants Disk Read Write n) (sym is ∙ e) cause;
  read = λ e. subst (λ n. Cause Wants Disk Read Write n) (sym is ∙ e) cause;
  write = λ e. subst (λ n. Cause Wants Disk Read Write n) (sym is ∙ e) cause;
  disk = λ e. subst (λ n. Cause Wants Disk Read Write n) (sym is ∙ e) cause;
}

-- .. as `batch` says it
pub batch_cause : (Wants Disk Read Write : Type 0) (status : ℕ) → Causes Wants Disk Read Write status → HasBatchCause Wants Read Disk status
batch_cause Wants Disk Read Write status c = record { memory = c.memory; words = c.words; read = c.read; disk = c.disk }

-- ---- of a command over the disks of a session ----

-- no folder failed, nor a name in one
abbrev pub IsNoFolder : CommandEnd → Type 0
IsNoFolder ends.Folder = ⊥
IsNoFolder (ends.NameTaken number) = ⊥
IsNoFolder end = Unit {0}

pub session_no_folder : (end : CommandEnd) → IsSessionEnd end → IsNoFolder end
session_no_folder ends.Folder only = only
session_no_folder (ends.NameTaken number) only = only
session_no_folder end only = tt

pub unwrap_no_folder : (end : CommandEnd) → IsUnwrapEnd end → IsNoFolder end
unwrap_no_folder ends.Folder only = only
unwrap_no_folder (ends.NameTaken number) only = only
unwrap_no_folder end only = tt

pub wrap_no_folder : (end : CommandEnd) → IsWrapEnd end → IsNoFolder end
wrap_no_folder ends.Folder only = only
wrap_no_folder (ends.NameTaken number) only = only
wrap_no_folder end only = tt

end_cause : (Ends : CommandEnd → Type 0) (Device : Role → Type 0) (Disk Read Write : Type 0) (end : CommandEnd) → HasEndCause Ends Device Read Write end → IsNoFolder end → ((role : Role) → Device role → Disk)
    → Cause Unit Disk Read Write (end_status end)
end_cause Ends Device Disk Read Write ends.Unread c only disk = c.read refl
end_cause Ends Device Disk Read Write ends.Unwritten c only disk = c.unwritten refl
end_cause Ends Device Disk Read Write (ends.Failed role) c only disk = disk role (c.device role refl)
end_cause Ends Device Disk Read Write ends.Folder c only disk = absurd only
end_cause Ends Device Disk Read Write (ends.NameTaken number) c only disk = absurd only
end_cause Ends Device Disk Read Write end c only disk = tt

pub end_causes : (Ends : CommandEnd → Type 0) (Device : Role → Type 0) (Disk Read Write : Type 0) (end : CommandEnd) (status : ℕ) → status ≡ end_status end → HasEndCause Ends Device Read Write end → IsNoFolder end
    → ((role : Role) → Device role → Disk) → Causes Unit Disk Read Write status
end_causes Ends Device Disk Read Write end status is c only disk = causes Unit Disk Read Write status (end_status end) is (end_cause Ends Device Disk Read Write end c only disk)

chain_cause : (Wants Disk Read Write : Type 0) (end : Ended) → (end ≡ chains.Memory → Wants) → (end ≡ chains.Stopped faults.Words → ⊥)
    → ((session : ℕ) (role : Role) → end ≡ chains.Stopped (faults.Device session role) → Disk) → (end ≡ chains.Stopped faults.Read → Read) → (end ≡ chains.Write → Write)
    → Cause Wants Disk Read Write (chain_status end)
chain_cause Wants Disk Read Write chains.Done memory words disk read write = tt
chain_cause Wants Disk Read Write chains.Memory memory words disk read write = memory refl
chain_cause Wants Disk Read Write chains.Write memory words disk read write = write refl
chain_cause Wants Disk Read Write (chains.Stopped faults.Words) memory words disk read write = words refl
chain_cause Wants Disk Read Write (chains.Stopped faults.Read) memory words disk read write = read refl
chain_cause Wants Disk Read Write (chains.Stopped (faults.Script line)) memory words disk read write = tt
chain_cause Wants Disk Read Write (chains.Stopped (faults.Device session role)) memory words disk read write = disk session role refl
chain_cause Wants Disk Read Write (chains.Stopped (faults.Disk session role number a b)) memory words disk read write = tt
chain_cause Wants Disk Read Write (chains.Stopped (faults.Full session end length size)) memory words disk read write = tt

pub chain_causes : (Wants Disk Read Write : Type 0) (end : Ended) (status : ℕ) → status ≡ chain_status end → (end ≡ chains.Memory → Wants) → (end ≡ chains.Stopped faults.Words → ⊥)
    → ((session : ℕ) (role : Role) → end ≡ chains.Stopped (faults.Device session role) → Disk) → (end ≡ chains.Stopped faults.Read → Read) → (end ≡ chains.Write → Write)
    → Causes Wants Disk Read Write status
chain_causes Wants Disk Read Write end status is memory words disk read write =
    causes Wants Disk Read Write status (chain_status end) is (chain_cause Wants Disk Read Write end memory words disk read write)

-- the status where the words are no command that is run is none but 2 and 4
pub told_not : (old new : Option (List ℕ)) (status k : ℕ) → TellsWords old new status → nat_eq 2 k ≡ false → nat_eq 4 k ≡ false → status ≡ k → ⊥
told_not old new status k (inl (two, line)) no2 no4 = is_not 2 k status no2 two
told_not old new status k (inr (four, prefix)) no2 no4 = is_not 4 k status no4 four

-- the status of an exercise
pub exercise_not : (status k : ℕ) → (status ≡ 0) ⊎ ((status ≡ 1) ⊎ (status ≡ 4)) → nat_eq 0 k ≡ false → nat_eq 1 k ≡ false → nat_eq 4 k ≡ false → status ≡ k → ⊥
exercise_not status k (inl e) no0 no1 no4 = is_not 0 k status no0 e
exercise_not status k (inr (inl e)) no0 no1 no4 = is_not 1 k status no1 e
exercise_not status k (inr (inr e)) no0 no1 no4 = is_not 4 k status no4 e

-- .. of an audit and of a comparison
pub audit_not : (status k : ℕ) → (status ≡ 0) ⊎ ((status ≡ 1) ⊎ ((status ≡ 3) ⊎ ((status ≡ 4) ⊎ (status ≡ 15))))
    → nat_eq 0 k ≡ false → nat_eq 1 k ≡ false → nat_eq 3 k ≡ false → nat_eq 4 k ≡ false → nat_eq 15 k ≡ false → status ≡ k → ⊥
audit_not status k (inl e) no0 no1 no3 no4 no15 = is_not 0 k status no0 e
audit_not status k (inr (inl e)) no0 no1 no3 no4 no15 = is_not 1 k status no1 e
audit_not status k (inr (inr (inl e))) no0 no1 no3 no4 no15 = is_not 3 k status no3 e
audit_not status k (inr (inr (inr (inl e)))) no0 no1 no3 no4 no15 = is_not 4 k status no4 e
audit_not status k (inr (inr (inr (inr e)))) no0 no1 no3 no4 no15 = is_not 15 k status no15 e

pub compare_not : (status k : ℕ) → (status ≡ 0) ⊎ ((status ≡ 1) ⊎ ((status ≡ 3) ⊎ ((status ≡ 4) ⊎ ((status ≡ 5) ⊎ (status ≡ 16)))))
    → nat_eq 0 k ≡ false → nat_eq 1 k ≡ false → nat_eq 3 k ≡ false → nat_eq 4 k ≡ false → nat_eq 5 k ≡ false → nat_eq 16 k ≡ false → status ≡ k → ⊥
compare_not status k (inl e) no0 no1 no3 no4 no5 no16 = is_not 0 k status no0 e
compare_not status k (inr (inl e)) no0 no1 no3 no4 no5 no16 = is_not 1 k status no1 e
compare_not status k (inr (inr (inl e))) no0 no1 no3 no4 no5 no16 = is_not 3 k status no3 e
compare_not status k (inr (inr (inr (inl e)))) no0 no1 no3 no4 no5 no16 = is_not 4 k status no4 e
compare_not status k (inr (inr (inr (inr (inl e))))) no0 no1 no3 no4 no5 no16 = is_not 5 k status no5 e
compare_not status k (inr (inr (inr (inr (inr e))))) no0 no1 no3 no4 no5 no16 = is_not 16 k status no16 e

-- ---- the statuses of `batch` ----

abbrev pub IsStatus : ℕ → Type 0
IsStatus status = (status ≤ 8) ⊎ ((status ≡ 10) ⊎ ((13 ≤ status) × (status ≤ 16)))

pub end_in : (status : ℕ) (end : CommandEnd) → status ≡ end_status end → IsSessionEnd end → IsStatus status
end_in status end is only = let small = session_status end only in inl (omega (arith, is, small))

unwrap_status : (end : CommandEnd) → IsUnwrapEnd end → IsStatus (end_status end)
unwrap_status (ends.NotWrapped number) only = inr (inr (omega arith, omega arith))
unwrap_status ends.PartOfFile only = inr (inr (omega arith, omega arith))
unwrap_status ends.Done only = inl (omega arith)
unwrap_status ends.Memory only = inl (omega arith)
unwrap_status ends.Unread only = inl (omega arith)
unwrap_status ends.Unwritten only = inl (omega arith)
unwrap_status (ends.NoRow why) only = inl (omega arith)
unwrap_status (ends.Failed role) only = inl (omega arith)
unwrap_status (ends.Refused role why) only = inl (omega arith)
unwrap_status end only = absurd only

pub unwrap_in : (status : ℕ) (end : CommandEnd) → status ≡ end_status end → IsUnwrapEnd end → IsStatus status
unwrap_in status end is only = subst IsStatus (sym is) (unwrap_status end only)

wrap_status : (end : CommandEnd) → IsWrapEnd end → IsStatus (end_status end)
wrap_status (ends.Wrapped bytes messages) only = inl (omega arith)
wrap_status (ends.FileDiffers number) only = inr (inr (omega arith, omega arith))
wrap_status ends.TooLong only = inr (inr (omega arith, omega arith))
wrap_status (ends.BadLine line) only = inl (omega arith)
wrap_status (ends.Full end length size) only = inr (inl refl)
wrap_status ends.Memory only = inl (omega arith)
wrap_status ends.Unread only = inl (omega arith)
wrap_status ends.Unwritten only = inl (omega arith)
wrap_status (ends.NoRow why) only = inl (omega arith)
wrap_status (ends.Failed role) only = inl (omega arith)
wrap_status (ends.Refused role why) only = inl (omega arith)
wrap_status end only = absurd only

pub wrap_in : (status : ℕ) (end : CommandEnd) → status ≡ end_status end → IsWrapEnd end → IsStatus status
wrap_in status end is only = subst IsStatus (sym is) (wrap_status end only)

pub replay_in : (status : ℕ) → (status ≤ 8) ⊎ (status ≡ 10) → IsStatus status
replay_in status (inl small) = inl small
replay_in status (inr e) = inr (inl e)

pub told_in : (old new : Option (List ℕ)) (status : ℕ) → TellsWords old new status → IsStatus status
told_in old new status (inl (two, line)) = inl (omega arith)
told_in old new status (inr (four, prefix)) = inl (omega arith)

pub exercise_in : (status : ℕ) → (status ≡ 0) ⊎ ((status ≡ 1) ⊎ (status ≡ 4)) → IsStatus status
exercise_in status (inl e) = inl (omega arith)
exercise_in status (inr (inl e)) = inl (omega arith)
exercise_in status (inr (inr e)) = inl (omega arith)

pub audit_in : (status : ℕ) → (status ≡ 0) ⊎ ((status ≡ 1) ⊎ ((status ≡ 3) ⊎ ((status ≡ 4) ⊎ (status ≡ 15)))) → IsStatus status
audit_in status (inl e) = inl (omega arith)
audit_in status (inr (inl e)) = inl (omega arith)
audit_in status (inr (inr (inl e))) = inl (omega arith)
audit_in status (inr (inr (inr (inl e)))) = inl (omega arith)
audit_in status (inr (inr (inr (inr e)))) = inr (inr (omega arith, omega arith))

pub compare_in : (status : ℕ) → (status ≡ 0) ⊎ ((status ≡ 1) ⊎ ((status ≡ 3) ⊎ ((status ≡ 4) ⊎ ((status ≡ 5) ⊎ (status ≡ 16))))) → IsStatus status
compare_in status (inl e) = inl (omega arith)
compare_in status (inr (inl e)) = inl (omega arith)
compare_in status (inr (inr (inl e))) = inl (omega arith)
compare_in status (inr (inr (inr (inl e)))) = inl (omega arith)
compare_in status (inr (inr (inr (inr (inl e))))) = inl (omega arith)
compare_in status (inr (inr (inr (inr (inr e))))) = inr (inr (omega arith, omega arith))

-- ---- of a race ----

pub race_memory : (IsRecord : List ℕ → Type 0) (old new : Option (List ℕ)) (status : ℕ) → EndsRace IsRecord old new status → status ≡ 1 → Appends old new []
race_memory IsRecord old new status (inl (zero_is, record_is)) one = absurd (is_not 0 1 status refl zero_is one)
race_memory IsRecord old new status (inr (inl (same, appends))) one = appends
race_memory IsRecord old new status (inr (inr (four, prefix))) one = absurd (is_not 4 1 status refl four one)

-- What `batch` promises of each command where memory was wanting before anything was done.
use Rattle.std.proofs.Common.{ℕ, List, [], Option, None, Some, IfSome, inl, inr, refl}
use Rattle.std.specs.Io.KnownBytes.{Appends}
use Rattle.command_line.specs.declared.command.Command.{Command}
use Rattle.command_line.specs.declared.command.Command.TheVariants.{Replay, Chain, Format, Show, Migrate, Wrap, Unwrap, Messages, Status, Exercise, Audit, Compare}
use Rattle.disk_model.specs.Disk.{Meaning}
use Rattle.disk_model.specs.Shelf.{Holdings}
use Rattle.pump_frame.specs.Counts.{Rose}
use Rattle.command_ends.specs.declared.command_end.CommandEnd.TheVariants as ends
use Rattle.commands.specs.Auditing.{EndsAudit, EndsComparison}
use Rattle.commands.proofs.Wrapped.{nothing_given}
use Rattle.script_replay.specs.Failing.{FailsAt}
use Rattle.script_replay.proofs.ByStatus.{ends_at_once}
use Rattle.dispatch.specs.Batch.{BatchCause, BatchEnds, HasBatchCause}
use Rattle.dispatch.proofs.Caused.{batch_cause, causes}

only_memory : (Memory Read Disk : Type 0) → Memory → HasBatchCause Memory Read Disk 1
only_memory Memory Read Disk memory = batch_cause Memory Disk Read Unit 1 (causes Memory Disk Read Unit 1 1 refl memory)

if_some : (x : Option (List ℕ)) (P : List ℕ → Type 0) → ((bytes : List ℕ) → P bytes) → IfSome x P
if_some None P every = tt
if_some (Some bytes) P every = every bytes

module _ {H D : Type 0} (m : Holdings H) (d : Meaning D) (shelf : H) (left : Option (List ℕ)) (faults : ℕ) (written : Option (List ℕ)) (nothing : Appends written written []) where
  pub cause_unmoved : (c : Command) → BatchCause m d shelf shelf (record { left = left; now_left = left; faults = faults; now_faults = faults }) written written 1 c
  cause_unmoved Replay = only_memory _ _ _ nothing
  cause_unmoved Chain = only_memory _ _ _ nothing
  cause_unmoved Audit = only_memory _ _ _ nothing
  cause_unmoved Compare = only_memory _ _ _ nothing
  cause_unmoved (Wrap table session) = only_memory _ _ _ tt
  cause_unmoved (Messages table session from) = only_memory _ _ _ tt
  cause_unmoved (Status table session) = only_memory _ _ _ tt
  cause_unmoved c = only_memory _ _ _ tt

  pub ends_unmoved : (c : Command) → BatchEnds m d shelf shelf (record { left = left; now_left = left; faults = faults; now_faults = faults }) written written 1 c
  ends_unmoved Replay = λ told tells. ends_at_once (m.disk shelf) (FailsAt m d shelf shelf) left written faults
  ends_unmoved Chain = λ told tells. inr (refl, (λ name. refl), nothing)
  ends_unmoved (Format table session) = λ told tells. (ends.Memory, refl, ([], (record { spares = λ name some. refl; others = λ name other. refl }, refl), nothing))
  ends_unmoved (Show table session) = λ told tells. (ends.Memory, refl, ([], ((λ name. refl), refl), nothing))
  ends_unmoved (Migrate table session new_table new_session) = λ told tells. (ends.Memory, refl, ([], ((λ name. refl), refl), nothing))
  ends_unmoved (Wrap table session) = λ told tells. (ends.Memory, refl, ([], (inl ((tt, λ e. cc), refl), nothing_given left, tt, refl), nothing))
  ends_unmoved (Unwrap table session) = λ told tells. (ends.Memory, refl, ((λ name. refl), tt, inl (tt, nothing)))
  ends_unmoved (Messages table session from) = (refl, λ told. (ends.Memory, refl, ([], refl, nothing)))
  ends_unmoved (Status table session) = (refl, λ told. (ends.Memory, refl, ([], refl, nothing)))
  ends_unmoved (Exercise seed count) = (refl, inr (inl (refl, nothing)))
  ends_unmoved Audit = (refl, if_some left (λ bytes. EndsAudit bytes (Rose faults faults) written written 1) (λ bytes. inr (inl (refl, nothing))))
  ends_unmoved Compare = (refl, if_some left (λ bytes. EndsComparison bytes (Rose faults faults) written written 1) (λ bytes. inr (inl (refl, nothing))))
  ends_unmoved c = tt

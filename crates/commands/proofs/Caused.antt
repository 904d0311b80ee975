-- By which cause a command over the disks of a session ends.
use Rattle.std.proofs.Common.{◌≡◌, ℕ, Option, Some, Result, Ok, Err, IfErr, refl, sym, ap, subst}
use Rattle.disk_model.specs.declared.name.Role.{Role}
use Rattle.disk_model.specs.declared.shelf.ShelfFault.{ShelfFault}
use Rattle.disk_model.specs.declared.shelf.ShelfFault.TheVariants as shelf_faults
use Rattle.recovery.specs.declared.why.Why.{Why}
use Rattle.recovery.specs.declared.why.Why.TheVariants as whys
use Rattle.command_ends.specs.Causes.{HasEndCause}
use Rattle.command_ends.specs.CommandEnds.{IsSessionEnd}
use Rattle.command_ends.specs.declared.command_end.CommandEnd.{CommandEnd}
use Rattle.command_ends.specs.declared.command_end.CommandEnd.TheVariants.{Memory, Failed, Refused}
use Rattle.commands.specs.Formatting.{IsDiskEnd}
use Rattle.commands.specs.Showing.{end_at}
use Rattle.commands.specs.declared.migrate.Halt.{Halt}

-- ---- the end of a disk ----

-- of one that is not opened
pub at_disk : (role : Role) (why : Why) → IsDiskEnd (end_at role (Some why))
at_disk role (whys.Device faults) = tt
at_disk role (whys.NotABuffer size bytes) = tt
at_disk role (whys.WrongShape field at wanted) = tt
at_disk role (whys.BadRegister first second) = tt
at_disk role (whys.Mismatch removed accepted) = tt
at_disk role (whys.BadSlot number length) = tt
at_disk role (whys.Apart count bound) = tt
at_disk role (whys.Differs number) = tt
at_disk role (whys.NotEmpty size) = tt
at_disk role (whys.Small held capacity) = tt
at_disk role (whys.TooLong number size) = tt

-- .. or not taken off the shelf
pub at_shelf : (fault : ShelfFault) (role : Role) (end : CommandEnd) → (fault ≡ shelf_faults.Memory → end ≡ Memory) → (fault ≡ shelf_faults.Failed → end ≡ Failed role) → IsDiskEnd end
at_shelf shelf_faults.Memory role end memory failed = subst IsDiskEnd (sym (memory refl)) tt
at_shelf shelf_faults.Failed role end memory failed = subst IsDiskEnd (sym (failed refl)) tt

-- ---- its cause ----

pub disk_only : (end : CommandEnd) → IsDiskEnd end → IsSessionEnd end
disk_only Memory only = tt
disk_only (Failed role) only = tt
disk_only (Refused role why) only = tt
disk_only end only = absurd only

pub disk_cause : (Ends : CommandEnd → Type 0) (Device : Role → Type 0) (Read Write : Type 0) (end : CommandEnd) → IsDiskEnd end → ((e : CommandEnd) → IsDiskEnd e → Ends e) → ((role : Role) → end ≡ Failed role → Device role)
    → HasEndCause Ends Device Read Write end
disk_cause Ends Device Read Write end only known device = record {
  only = known end only;
  device = device;
  read = λ is. absurd (subst IsDiskEnd is only);
  unwritten = λ is. absurd (subst IsDiskEnd is only);
}

pub if_disk_cause : {T : Type 0} (r : Result T CommandEnd) (Device : Role → Type 0) (Read : Type 0) → IfErr r IsDiskEnd → ((role : Role) → r ≡ Err (Failed role) → Device role) → IfErr r (HasEndCause IsSessionEnd Device Read ⊥)
if_disk_cause (Ok done) Device Read only device = tt
if_disk_cause (Err end) Device Read only device = disk_cause IsSessionEnd Device Read ⊥ end only disk_only (λ role is. device role (ap Err is))

pub if_halt_cause : {T : Type 0} (r : Result T Halt) (fails : ℕ → Role → Type 0) (Read : Type 0) → IfErr r (λ halt. IsDiskEnd halt.end) → IfErr r (λ halt. (role : Role) → halt.end ≡ Failed role → fails halt.session role)
    → IfErr r (λ halt. HasEndCause IsSessionEnd (fails halt.session) Read ⊥ halt.end)
if_halt_cause (Ok done) fails Read only device = tt
if_halt_cause (Err halt) fails Read only device = disk_cause IsSessionEnd (fails halt.session) Read ⊥ halt.end only disk_only device

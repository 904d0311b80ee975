use Rattle.std.proofs.Common.{◌≡◌, ◌≤◌, ℕ, List, false}
use Rattle.disk_model.specs.declared.name.Role.{Role}
use Rattle.disk_model.specs.declared.name.Role.TheVariants as roles
use Rattle.pump_frame.specs.Rows.{IsLawfulRow}
use Rattle.script_reader.specs.Openings.{Found, CanOpen, accepted_in, first_past}
use Rattle.two_worlds.specs.Pumps.{StandsFor, disk_at, is_down, row_of}
use Rattle.pump_wrapper.specs.Comparing.{Begins}
use Rattle.pump_wrapper.specs.Crashes.{KeepsPrefix}
use Rattle.pump_wrapper.proofs.Drained.{Turned}
use Rattle.pump_wrapper.proofs.drain.drain.Given as goal

abbrev pub invariant-loop-number : goal.invariant-loop-number
invariant-loop-number g l =
    let m = g.D.Disk.told in
    let r = row_of l.fn.pump in
    record {
      up : is_down l.pump ≡ false;
      row : row_of l.pump ≡ r;
      later : (role : Role) → m.count (disk_at role l.fn.pump) ≤ m.count (disk_at role l.pump);
      turned : m.tells → (f : Found) → IsLawfulRow r → CanOpen r f → StandsFor m l.fn.pump (first_past r f) → Turned m l.pump r f l.number;
      keeps : m.tells → (f : Found) → IsLawfulRow r → CanOpen r f → StandsFor m l.fn.pump (first_past r f) → (all : List (List ℕ)) → Begins (accepted_in f) all
          → KeepsPrefix m r all (disk_at roles.Recv l.fn.pump) (disk_at roles.Recv l.pump);
    }

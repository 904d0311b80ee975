use Rattle.std.proofs.Common.{◌≡◌, ℕ, ◌+◌, ◌≤◌, List, ◌++◌, length, false}
use Rattle.disk_model.specs.declared.name.Role.{Role}
use Rattle.disk_model.specs.declared.name.Role.TheVariants as roles
use Rattle.std.specs.Io.KnownBytes.{Consumes}
use Rattle.pump_frame.specs.Rows.{IsLawfulRow}
use Rattle.script_reader.specs.Openings.{CanOpen, first_past}
use Rattle.two_worlds.specs.Pumps.{StandsFor, disk_at, is_down, row_of}
use Rattle.pump_wrapper.specs.Comparing.{Begins, SameBytes}
use Rattle.pump_wrapper.specs.Crashes.{KeepsPrefix}
use Rattle.pump_wrapper.specs.Cutting.{MayCut, cut_bytes, cut_message}
use Rattle.pump_wrapper.specs.Wraps.{AreFirst, all_taken}
use Rattle.pump_wrapper.proofs.Sent.{Sending}
use Rattle.pump_wrapper.proofs.sending.send_rest.Given as goal

abbrev pub invariant-loop-number : goal.invariant-loop-number
invariant-loop-number g l =
    let m = g.D.Disk.told in
    let r = row_of l.fn.pump in
    record {
      up : is_down l.pump ≡ false;
      row : row_of l.pump ≡ r;
      may : MayCut l.cutter;
      message : cut_message l.cutter ≡ r.message;
      from : l.first ≤ l.number;
      taken : (bytes : List ℕ) × Consumes (g.I.Source.left l.fn.file) (g.I.Source.left l.file) bytes × (cut_bytes l.cutter ≡ cut_bytes l.fn.cutter + length bytes);
      same : SameBytes l.fn.cutter l.cutter (g.I.Source.left l.fn.file) (g.I.Source.left l.file);
      reads : g.I.Source.faults l.fn.file ≤ g.I.Source.faults l.file;
      counts : (role : Role) → m.count (disk_at role l.fn.pump) ≤ m.count (disk_at role l.pump);
      sending : m.tells → (messages : List (List ℕ)) → IsLawfulRow r → CanOpen r (all_taken messages) → StandsFor m l.fn.pump (first_past r (all_taken messages))
          → Sending m l.pump r messages l.fn.cutter l.cutter (g.I.Source.left l.fn.file) (g.I.Source.left l.file) l.number;
      keeps : m.tells → (messages : List (List ℕ)) → IsLawfulRow r → CanOpen r (all_taken messages) → StandsFor m l.fn.pump (first_past r (all_taken messages))
          → (all : List (List ℕ)) → ((more : List (List ℕ)) → AreFirst l.fn.cutter (g.I.Source.left l.fn.file) more → Begins (messages ++ more) all)
          → KeepsPrefix m r all (disk_at roles.Recv l.fn.pump) (disk_at roles.Recv l.pump);
    }

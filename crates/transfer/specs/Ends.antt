-- By which causes a command that carries files ends.
use Rattle.std.specs.Prelude.{ℕ, List, [], Option}
use Rattle.std.specs.Io.KnownBytes.{Appends}
use Rattle.pump_frame.specs.Counts.{Rose}
use Rattle.command_ends.specs.Causes.{Causes}

-- want of memory, before anything was written; a read of the table's file; or one that the sink's counts and the
-- ports' tell, of which the second is that at the end. No disk is named
abbrev pub causes : Type 0 → Option (List ℕ) → Option (List ℕ) → ℕ → ℕ → ℕ → ℕ → Causes
causes read old new out_faults now_out_faults faults now_faults = record {
  memory = Appends old new [];
  read = read;
  unwritten = Rose out_faults now_out_faults;
  device = λ role. Unit {0};
  link = Rose faults now_faults;
}

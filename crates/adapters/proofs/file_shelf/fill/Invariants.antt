use Rattle.std.proofs.Common.{◌≤◌, length}
use Rattle.adapters.proofs.file_shelf.fill.Given as goal

abbrev pub invariant-loop : goal.invariant-loop
invariant-loop l = l.count ≤ length l.into

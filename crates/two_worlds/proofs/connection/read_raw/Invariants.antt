use Rattle.std.proofs.Common.{◌+◌, ◌≤◌, take, List}
use Rattle.pump_core.specs.History.{Arrival}
use Rattle.script_reader.specs.Steps.{coming}
use Rattle.two_worlds.specs.Private.Arrivals.{IsFed, Gathers}
use Rattle.two_worlds.proofs.connection.read_raw.Given as goal

abbrev pub invariant-loop-byte : goal.invariant-loop-byte
invariant-loop-byte l = record {
  gathers : (added : List Arrival) × IsFed l.fn.reader (take l.byte-index l.bytes) (coming added l.reader) × Gathers l.fn.waits added l.waits l.count;
  count : l.count ≤ 64 + l.byte-index;
}

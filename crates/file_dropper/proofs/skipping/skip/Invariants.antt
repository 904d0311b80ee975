use Rattle.std.proofs.Common.{◌≡◌, ℕ, ◌≤◌, true, List}
use Rattle.file_cutter.specs.Cutting.{MayCut, cut_message}
use Rattle.file_dropper.specs.Readings.{HasRead}
use Rattle.file_dropper.specs.Works.{Skips}
use Rattle.file_dropper.proofs.skipping.skip.Given as goal

abbrev pub invariant-loop : goal.invariant-loop
invariant-loop g l = record {
  may : MayCut l.sender.reading.pieces;
  message : cut_message l.sender.reading.pieces ≡ cut_message l.fn.sender.reading.pieces;
  sent : l.sender.sent ≡ l.fn.sender.sent;
  started : l.sender.started ≡ true;
  skips : (bytes read : List ℕ) → HasRead g.F.Source.left l.fn.sender.reading bytes read → Skips g.F.Source.left l.fn.sender l.sender bytes l.counter;
  later : g.F.Source.faults l.fn.sender.reading.file ≤ g.F.Source.faults l.sender.reading.file;
}

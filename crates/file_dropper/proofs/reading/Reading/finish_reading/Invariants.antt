use Rattle.std.proofs.Common.{ℕ, ◌-◌, ◌^◌, ◌≤◌, List}
use Rattle.file_cutter.specs.Cutting.{MayCut, cut_bytes}
use Rattle.file_dropper.specs.Readings.{HasRead}
use Rattle.file_dropper.proofs.reading.Reading.finish_reading.Given as goal

abbrev pub invariant-pieces : goal.invariant-pieces
invariant-pieces g l = record {
  may : MayCut l.self.pieces;
  reads : (bytes given : List ℕ) → HasRead g.F.Source.left l.fn.self bytes given → (more : List ℕ) × HasRead g.F.Source.left l.self bytes more;
  later : g.F.Source.faults l.fn.self.file ≤ g.F.Source.faults l.self.file;
}

abbrev pub decreases-pieces : goal.decreases-pieces
decreases-pieces g l = 2 ^ 48 - cut_bytes l.self.pieces

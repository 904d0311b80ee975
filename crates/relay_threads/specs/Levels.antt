-- The low end of a passage, where each average that it reads is that of some times.
use Rattle.std.specs.Prelude.{◌≡◌}
use Rattle.std.specs.List.{All}
use Rattle.pump_frame.specs.Averages.{averaging_of}
use Rattle.pump_frame.specs.declared.row.SessionRow.{SessionRow}
use Rattle.pump_core.specs.Passage.{Shape, Low, High}
use Rattle.relay_ring.specs.PairRule.{IsAveraged}

-- whatever such an end stands for, each average that it has read comes down of some times, as its passage
-- averages them
abbrev pub ReadsAverages : {E : Type 0} → (E → Low → High → Type 0) → (E → Shape) → Type 0
ReadsAverages {E} stands shape = (e : E) (l : Low) (h : High) → stands e l h
    → All (λ p. IsAveraged (shape e).averaging p.1) l.pairs

-- .. and this one's passage averages as the row says
abbrev pub IsEndOf : {E : Type 0} → (E → Low → High → Type 0) → (E → Shape) → E → SessionRow → Type 0
IsEndOf stands shape end row = ReadsAverages stands shape × ((shape end).averaging ≡ averaging_of row)

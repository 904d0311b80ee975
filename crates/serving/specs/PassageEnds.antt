-- What the ends of a passage tell.
use Rattle.std.specs.Prelude.{◌≡◌}
use Rattle.pump_core.specs.Passage.{Shape, Low, High}

-- what an end stands for, the shape of its passage, and which passage that is
pub record EndTells (E Place : Type 0) : Type 1 where
  pub stands : E → Low → High → Type 0
  pub shape : E → Shape
  pub place : E → Place

abbrev pub end_tells : {E Place : Type 0} → (E → Low → High → Type 0) → (E → Shape) → (E → Place) → EndTells E Place
end_tells stands shape place = record { stands = stands; shape = shape; place = place }

-- it is still an end of this passage
abbrev pub IsStillOf : {E Place : Type 0} → EndTells E Place → E → E → Type 0
IsStillOf e old new = (e.shape new ≡ e.shape old) × (e.place new ≡ e.place old)

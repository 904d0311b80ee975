-- What looks leave of a racer, look by look.
use Rattle.std.proofs.Common.{List, ◌∙◌}
use Rattle.atomic_table.specs.Seated.{TableId}
use Rattle.pump_core.specs.Passage.{Shape}
use Rattle.race.specs.HighRacers.{HighStays}
use Rattle.race.specs.declared.high.HighRacer.{HighRacer}

pub stays_on : {H : Type 0} (place : H → List TableId) (shape : H → Shape) (u v w : HighRacer H) → HighStays place shape u v → HighStays place shape v w → HighStays place shape u w
stays_on place shape u v w before later = record {
  place_is = later.place_is ∙ before.place_is;
  shape_is = later.shape_is ∙ before.shape_is;
  count = later.count ∙ before.count;
  times = later.times ∙ before.times;
}

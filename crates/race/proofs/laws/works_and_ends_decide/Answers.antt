use Rattle.race.proofs.Derived.{printed, received_is}
use Rattle.race.proofs.laws.works_and_ends_decide.Goals as goal

pub returns-clause-printed : goal.returns-clause-printed
returns-clause-printed c = λ seed count times made low high received l h a. printed seed count times made low high received l h a

pub returns-clause-received : goal.returns-clause-received
returns-clause-received c = λ seed count times made low high received l h a. received_is seed count times made low high received l h a

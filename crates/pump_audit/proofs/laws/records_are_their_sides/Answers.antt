use Rattle.pump_audit.proofs.AgreeLaws.{are_pair, is_life}
use Rattle.pump_audit.proofs.laws.records_are_their_sides.Goals as goal

pub returns-clause-pair : goal.returns-clause-pair
returns-clause-pair c = λ xs ys r q h k. are_pair xs ys r q h k

pub returns-clause-whole : goal.returns-clause-whole
returns-clause-whole c = λ bytes r h. is_life bytes r h

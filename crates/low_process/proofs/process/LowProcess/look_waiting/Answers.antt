-- The whole look is that of its head.
use Rattle.std.proofs.Common.{ap, ◌∙◌}
use Rattle.low_process.specs.Heads.{look_with}
use Rattle.low_process.proofs.Wholes.{whole_of}
use Rattle.low_process.proofs.process.LowProcess.look_waiting.Goals as goal

pub returns : goal.returns
returns g c = let e = c.look_waiting_into.ensures in whole_of e (c.whole.ensures.value ∙ ap (λ row. look_with row c.look_waiting_into.new.head) e.row) (c.whole.ensures.lawful e.lawful)

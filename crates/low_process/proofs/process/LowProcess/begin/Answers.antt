-- The whole first half is that of its head.
use Rattle.std.proofs.Common.{ap, ◌∙◌}
use Rattle.low_process.specs.Heads.{ask_with}
use Rattle.low_process.proofs.Wholes.{half_of}
use Rattle.low_process.proofs.process.LowProcess.begin.Goals as goal

pub returns : goal.returns
returns g c =
    let b = c.begin_into-asked in
    let e = b.ensures in
    half_of e (c.ask.ensures.value ∙ ap (λ row. ask_with row b.new.self b.new.head b.result) e.row) (c.ask.ensures.lawful e.lawful)

use Rattle.std.proofs.Common.{false, None}
use Rattle.two_worlds.proofs.pump.parts.Parts.look_high.Goals as goal

pub returns-clause-step : goal.returns-clause-step
returns-clause-step g c =
    let e = c.look_with.ensures in
    record { does = λ p s. e.does p s false None tt; works = e.works; serve = e.serve; row = e.row }

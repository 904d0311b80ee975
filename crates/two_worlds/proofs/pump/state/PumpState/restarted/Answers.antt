use Rattle.std.proofs.Common.{sym, subst}
use Rattle.two_worlds.specs.declared.pump.state.PumpState.{PumpState}
use Rattle.two_worlds.specs.Private.Restarting.{RestartsFrom}
use Rattle.two_worlds.specs.States.{disks_in, StandsIn}
use Rattle.two_worlds.proofs.pump.state.PumpState.restarted.Goals as goal

pub returns-clause-does : goal.returns-clause-does
returns-clause-does g c = λ told p s.
    let m = g.D.Disk.told in
    let r = c.restarted.result in
    subst (λ (x : PumpState _). RestartsFrom m (disks_in x) r.0 c.args.moment p r.1) (sym c.in-Open.is)
    (c.restarted.ensures.does told p (subst (λ (x : PumpState _). StandsIn m x p) c.in-Open.is s))

use Rattle.std.proofs.Common.{sym, ap, ◌∙◌, subst}
use Rattle.two_worlds.specs.declared.pump.state.PumpState.{PumpState}
use Rattle.two_worlds.specs.States.{coarse_disks, disks_in, is_down_in, kept_moment_in, IsOpenWith, StandsIn}
use Rattle.two_worlds.specs.Working.{IsAble}
use Rattle.two_worlds.proofs.pump.state.PumpState.make_coarse.Goals as goal

pub returns-in-Open-clause-disks : goal.returns-in-Open-clause-disks
returns-in-Open-clause-disks g c = c.make_coarse.ensures.disks ∙ ap (λ (x : PumpState _). coarse_disks (disks_in x)) (sym c.in-Open.is)

pub returns-in-Open-clause-able : goal.returns-in-Open-clause-able
returns-in-Open-clause-able g c = λ a. c.make_coarse.ensures.able (subst (λ (x : PumpState _). IsOpenWith (IsAble g.D.Disk.told) x) c.in-Open.is a)

pub returns-in-Open-clause-stands : goal.returns-in-Open-clause-stands
returns-in-Open-clause-stands g c = λ p s. c.make_coarse.ensures.stands p (subst (λ (x : PumpState _). StandsIn g.D.Disk.told x p) c.in-Open.is s)

pub returns-in-Open-clause-down : goal.returns-in-Open-clause-down
returns-in-Open-clause-down g c = c.make_coarse.ensures.down ∙ ap (λ (x : PumpState _). is_down_in x) (sym c.in-Open.is)

pub returns-in-Open-clause-moment : goal.returns-in-Open-clause-moment
returns-in-Open-clause-moment g c = c.make_coarse.ensures.moment ∙ ap (λ (x : PumpState _). kept_moment_in x) (sym c.in-Open.is)

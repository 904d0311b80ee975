use Rattle.std.proofs.Common.{◌≡◌, ◌≤◌, List, [], ◌∷◌, length, refl, sym, subst, arith}
use Rattle.script_reader.specs.declared.event.Event.{Event}
use Rattle.script_reader.specs.declared.event.EventHead.{EventHead}
use Rattle.two_worlds.specs.Doing.{NeverOverfills}
use Rattle.two_worlds.specs.Private.PartSteps.{PartStep}
use Rattle.two_worlds.specs.Printing.{lines_in}
use Rattle.two_worlds.specs.Private.HighLooks.{Attaches, BreaksAttaching}
use Rattle.two_worlds.specs.Private.Reopening.{Reattaches}
use Rattle.two_worlds.specs.States.{IsOpenWith}
use Rattle.two_worlds.specs.Working.{IsAble}
use Rattle.two_worlds.specs.declared.pump.state.PumpState.{PumpState}
use Rattle.two_worlds.proofs.pump.state.PumpState.attach.Goals as goal

no_lines : (heads : List EventHead) → length heads ≤ 0 → lines_in heads ≡ []
no_lines [] le = refl
no_lines (x ∷ xs) le = absurd (omega (arith, le))

pub attach-requires-clause-able : goal.attach-requires-clause-able
attach-requires-clause-able g c = subst (λ (x : PumpState _). IsOpenWith (IsAble g.D.Disk.told) x) c.in-Open.is c.requires.able

pub attach-requires-clause-order : goal.attach-requires-clause-order
attach-requires-clause-order g c = subst (λ (x : PumpState _). IsOpenWith (λ p. p.moment ≤ c.args.moment) x) c.in-Open.is c.requires.order

pub returns : goal.returns
returns g c =
    let m = g.D.Disk.told in
    let e = c.attach.ensures in
    subst (λ (x : PumpState _). IsOpenWith (λ p. Reattaches m p c.attach.new.self c.args.moment (lines_in c.attach.new.out.items) c.attach.result) x) (sym c.in-Open.is)
    (record {
      step = subst (λ (printed : List Event). PartStep (Attaches c.in-Open.parts.row c.args.moment) (BreaksAttaching c.in-Open.parts.row c.args.moment) NeverOverfills m c.in-Open.parts c.attach.new.self printed (lines_in c.attach.new.out.items) c.attach.result)
          (no_lines c.args.out.now.items c.requires.out) e.step;
      low = e.low;
      recv = e.recv;
    })

use Rattle.std.proofs.Common.{sym, ap, subst}
use Rattle.low_process.specs.Looks.{is_down}
use Rattle.low_process.specs.declared.process.LowProcess.{LowProcess}
use Rattle.two_worlds.specs.LowPumpParts.{PartsStand}
use Rattle.two_worlds.specs.declared.low_pump.parts.LowPumpParts.{LowPumpParts}
use Rattle.two_worlds.proofs.Coarse.{coarse_row, low_parts_stand}
use Rattle.two_worlds.proofs.low_pump.parts.LowPumpParts.make_coarse.Goals as goal

pub returns-clause-stands : goal.returns-clause-stands
returns-clause-stands c = λ p s.
    let old = c.args.self.now in
    subst (λ (x : LowPumpParts). PartsStand x p)
    (λ i. record old { row = coarse_row old.row; process = sym c.make_coarse.ensures.same i; store = sym c.make_coarse-2.ensures.same i }) (low_parts_stand old p s)

pub returns-clause-up : goal.returns-clause-up
returns-clause-up c = ap (λ (x : LowProcess). is_down x) c.make_coarse.ensures.same

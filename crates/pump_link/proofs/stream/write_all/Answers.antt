use Rattle.std.proofs.Common.{arith, length, drop, ◌-◌, length-drop, length-take}
use Rattle.std.proofs.lemmas.List.{take_rest}
use Rattle.std.proofs.lemmas.Result.{err_from_is_err_and}
use Rattle.pump_link.proofs.Known.{AppendsPrefix-stops, Appends-piece}
use Rattle.pump_link.proofs.stream.write_all.Goals as goal

pub returns-in_err-at-clause-err : goal.returns-in_err-at-clause-err
returns-in_err-at-clause-err g c =
    let p = err_from_is_err_and c.from_residual.result c.from_residual.ensures.1 in
    rw p.1 (AppendsPrefix-stops _ _ _ _ _ c.loop-at.invariant.1 c.in_err-at.ensures.bytes)

pub loop-at-preserved : goal.loop-at-preserved
loop-at-preserved g c = (
  omega (arith, c.in_ok-at.ensures.some, take_rest c.args.bytes.now c.loop-at.at, length-drop c.loop-at.at c.args.bytes.now, length-take (length c.args.bytes.now - c.loop-at.at) (drop c.loop-at.at c.args.bytes.now)),
  Appends-piece _ _ _ _ _ _ c.loop-at.invariant.1 (simp take_rest at c.in_ok-at.ensures.bytes),
  omega (arith, c.write.ensures.cause),
)

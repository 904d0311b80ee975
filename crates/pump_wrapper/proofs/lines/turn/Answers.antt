use Rattle.std.proofs.Common.{[], ◌∷◌, subst}
use Rattle.pump_frame.specs.declared.row.SessionRow.{SessionRow}
use Rattle.script_reader.specs.declared.line.Line.TheVariants as lines
use Rattle.two_worlds.specs.Pumps.{row_of}
use Rattle.pump_wrapper.specs.Sending.{Goes, empty_look}
use Rattle.pump_wrapper.proofs.Going.{goes_then, goes_stop}
use Rattle.pump_wrapper.proofs.lines.turn.Goals as goal

pub returns-in-Err-clause-goes : goal.returns-in-Err-clause-goes
returns-in-Err-clause-goes g c =
    let row = row_of c.args.pump.now in
    goes_stop g.D.Disk.told c.args.pump.now c.look.new.pump (empty_look row c.args.moment ∷ []) (lines.Done row.id c.args.moment 1 ∷ []) c.in-Err.stop c.in-Err.ensures.goes

pub returns-in-Ok-clause-goes : goal.returns-in-Ok-clause-goes
returns-in-Ok-clause-goes g c =
    let m = g.D.Disk.told in
    let row = row_of c.args.pump.now in
    let first = c.in-Ok.ensures.goes in
    let then_done = subst (λ (r : SessionRow). Goes m c.look.new.pump c.done.new.pump (lines.Done r.id c.args.moment 1 ∷ []) c.done.result) first.row c.done.ensures.goes in
    goes_then m c.args.pump.now c.look.new.pump c.done.new.pump (empty_look row c.args.moment ∷ []) (lines.Done row.id c.args.moment 1 ∷ []) c.done.result first then_done

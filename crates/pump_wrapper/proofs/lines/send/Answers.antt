use Rattle.std.proofs.Common.{◌≡◌, ℕ, ◌+◌, List, [], ◌∷◌, ◌++◌, Ok, Err, ap, ◌∙◌, subst}
use Rattle.pump_frame.specs.declared.row.SessionRow.{SessionRow}
use Rattle.script_reader.specs.declared.line.Arriving.TheVariants.{Data}
use Rattle.script_reader.specs.declared.line.Line.TheVariants as lines
use Rattle.two_worlds.specs.Pumps.{row_of}
use Rattle.pump_wrapper.specs.Sending.{Goes, empty_look, turn_lines, pause}
use Rattle.pump_wrapper.proofs.Going.{goes_then, goes_stop}
use Rattle.pump_wrapper.proofs.lines.send.Goals as goal

pub returns-in-Err-clause-goes : goal.returns-in-Err-clause-goes
returns-in-Err-clause-goes g c =
    let m = g.D.Disk.told in
    let row = row_of c.args.pump.now in
    let first = subst (λ (bytes : List ℕ). Goes m c.args.pump.now c.look.new.pump (lines.Look row.id c.args.moment 0 (Data c.args.number bytes) ∷ []) (Err c.in-Err.stop)) c.as_slice.ensures.value c.in-Err.ensures.goes in
    goes_stop m c.args.pump.now c.look.new.pump (lines.Look row.id c.args.moment 0 (Data c.args.number c.args.message.now) ∷ []) (turn_lines row c.args.moment ++ empty_look row (c.args.moment + pause row) ∷ []) c.in-Err.stop first

pub returns-in-Err-turn-clause-goes : goal.returns-in-Err-turn-clause-goes
returns-in-Err-turn-clause-goes g c =
    let m = g.D.Disk.told in
    let row = row_of c.args.pump.now in
    let store = lines.Look row.id c.args.moment 0 (Data c.args.number c.args.message.now) ∷ [] in
    let first = subst (λ (bytes : List ℕ). Goes m c.args.pump.now c.look.new.pump (lines.Look row.id c.args.moment 0 (Data c.args.number bytes) ∷ []) (Ok tt)) c.as_slice.ensures.value c.in-Ok.ensures.goes in
    let second = subst (λ (r : SessionRow). Goes m c.look.new.pump c.turn.new.pump (turn_lines r c.args.moment) (Err c.in-Err-turn.stop)) first.row c.in-Err-turn.ensures.goes in
    goes_stop m c.args.pump.now c.turn.new.pump (store ++ turn_lines row c.args.moment) (empty_look row (c.args.moment + pause row) ∷ []) c.in-Err-turn.stop
    (goes_then m c.args.pump.now c.look.new.pump c.turn.new.pump store (turn_lines row c.args.moment) (Err c.in-Err-turn.stop) first second)

pub returns-in-Ok-turn-clause-goes : goal.returns-in-Ok-turn-clause-goes
returns-in-Ok-turn-clause-goes g c =
    let m = g.D.Disk.told in
    let row = row_of c.args.pump.now in
    let store = lines.Look row.id c.args.moment 0 (Data c.args.number c.args.message.now) ∷ [] in
    let first = subst (λ (bytes : List ℕ). Goes m c.args.pump.now c.look.new.pump (lines.Look row.id c.args.moment 0 (Data c.args.number bytes) ∷ []) (Ok tt)) c.as_slice.ensures.value c.in-Ok.ensures.goes in
    let second = subst (λ (r : SessionRow). Goes m c.look.new.pump c.turn.new.pump (turn_lines r c.args.moment) (Ok tt)) first.row c.in-Ok-turn.ensures.goes in
    let both = goes_then m c.args.pump.now c.look.new.pump c.turn.new.pump store (turn_lines row c.args.moment) (Ok tt) first second in
    let due : c.pause.result ≡ pause row = c.pause.ensures.value ∙ ap pause c.row.ensures in
    let third = subst (λ (r : SessionRow). Goes m c.turn.new.pump c.look-in-Ok-turn.new.pump (empty_look r (c.args.moment + c.pause.result) ∷ []) c.look-in-Ok-turn.result) both.row c.look-in-Ok-turn.ensures.goes in
    let last = subst (λ (k : ℕ). Goes m c.turn.new.pump c.look-in-Ok-turn.new.pump (empty_look row (c.args.moment + k) ∷ []) c.look-in-Ok-turn.result) due third in
    goes_then m c.args.pump.now c.turn.new.pump c.look-in-Ok-turn.new.pump (store ++ turn_lines row c.args.moment) (empty_look row (c.args.moment + pause row) ∷ []) c.look-in-Ok-turn.result both last

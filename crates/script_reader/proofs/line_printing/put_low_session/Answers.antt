use Rattle.std.proofs.Common.{refl, arith}
use Rattle.script_reader.specs.declared.line.Line.TheVariants.{LowSession}
use Rattle.script_reader.proofs.Behind.{field_put}
use Rattle.script_reader.proofs.Spellings.{line_put}
use Rattle.script_reader.proofs.line_printing.put_low_session.Goals as goal

pub returns : goal.returns
returns g c =
    let row = c.put_row.ensures in
    line_put (LowSession c.args.row.now c.args.next c.args.held) _ _ _ _ refl
    (field_put _ _ _ _ _ _ (field_put _ _ _ _ _ _ row.fields c.put_field.ensures.items) c.put_held.ensures.items)
    (omega arith) row.typed

use Rattle.std.proofs.Common.{refl, arith}
use Rattle.script_reader.specs.declared.line.Line.TheVariants.{Session, Coarse, Carry}
use Rattle.script_reader.proofs.Spellings.{line_put}
use Rattle.script_reader.proofs.line_printing.put_line.Goals as goal

pub returns-in-Session : goal.returns-in-Session
returns-in-Session g c =
    let line = c.in-Session in
    let put = c.put_row.ensures in
    rw line.is (line_put (Session line.row) _ _ _ _ refl put.fields (omega arith) put.typed)

pub returns-in-Coarse : goal.returns-in-Coarse
returns-in-Coarse g c =
    let line = c.in-Coarse in
    let put = c.put_coarse.ensures in
    rw line.is (line_put (Coarse line.session) _ _ _ _ refl put.fields (omega arith) put.session)

pub returns-in-Carry : goal.returns-in-Carry
returns-in-Carry g c =
    let line = c.in-Carry in
    let put = c.put_prefix.ensures in
    rw line.is (line_put (Carry line.session line.back) _ _ _ _ refl put.fields (omega arith) (put.session, put.number))

pub returns-in-At : goal.returns-in-At
returns-in-At g c = rw c.in-At.is c.put_act.ensures

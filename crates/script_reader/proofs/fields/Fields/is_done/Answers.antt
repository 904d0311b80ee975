use Rattle.script_reader.proofs.Splits.{done_none}
use Rattle.script_reader.proofs.fields.Fields.is_done.Goals as goal

pub returns : goal.returns
returns c = rw (← c.self.view_is) (done_none c.self.inside.rest c.is_none.result c.is_none.ensures)

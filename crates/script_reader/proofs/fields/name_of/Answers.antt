use Rattle.script_reader.proofs.FieldLaws.{name_is}
use Rattle.script_reader.proofs.fields.name_of.Goals as goal

pub returns : goal.returns
returns c = name_is c.args.field.now c.from_slice.result c.from_slice.ensures.some c.from_slice.ensures.value

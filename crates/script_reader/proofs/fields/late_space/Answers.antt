use Rattle.script_reader.proofs.LineEnds.{first_byte}
use Rattle.script_reader.proofs.fields.late_space.Goals as goal

pub returns : goal.returns
returns c = first_byte 32 c.args.bytes.now c.memchr.result c.memchr.ensures

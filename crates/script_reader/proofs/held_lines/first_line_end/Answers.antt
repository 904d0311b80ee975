use Rattle.script_reader.proofs.LineEnds.{first_byte}
use Rattle.script_reader.proofs.held_lines.first_line_end.Goals as goal

pub returns : goal.returns
returns c = first_byte 10 c.args.bytes.now c.memchr.result c.memchr.ensures

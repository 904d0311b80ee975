use Rattle.std.proofs.Common.{Some, true, false, ap, ◌∙◌}
use Rattle.script_reader.proofs.DigitLaws.{word_of_bytes}
use Rattle.script_reader.proofs.fields.word_of.Goals as goal

pub returns-else-decode : goal.returns-else-decode
returns-else-decode c = word_of_bytes c.args.field.now c.decode.new.room false c.if-decode.ensures.read

pub returns-then-decode : goal.returns-then-decode
returns-then-decode c = ap Some c.from_be_bytes.ensures ∙ word_of_bytes c.args.field.now c.decode.new.room true c.if-decode.ensures.read

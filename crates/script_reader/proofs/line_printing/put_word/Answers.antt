use Rattle.std.proofs.Common.{arith}
use Rattle.script_reader.proofs.Spellings.{printed_word}
use Rattle.script_reader.proofs.line_printing.put_word.Goals as goal

pub returns-clause-word : goal.returns-clause-word
returns-clause-word g c = printed_word c.args.word (omega arith)

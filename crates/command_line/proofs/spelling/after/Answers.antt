use Rattle.std.proofs.Common.{rules}
use Rattle.command_line.proofs.Texts.{first_word}
use Rattle.command_line.proofs.spelling.after.Goals as goal

pub returns-then-eq-clause-some : goal.returns-then-eq-clause-some
returns-then-eq-clause-some c = first_word c.args.words.now c.first-item.result c.args.text.now c.in-len1-up.len_at_least c.first-item.is (search rules)

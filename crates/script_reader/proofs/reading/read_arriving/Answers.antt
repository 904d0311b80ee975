use Rattle.std.proofs.Common.{rules}
use Rattle.script_reader.specs.Parsing.{arriving_of}
use Rattle.script_reader.proofs.reading.read_arriving.Goals as goal

pub returns-then-is_word-clause-value : goal.returns-then-is_word-clause-value
unfolding arriving_of
returns-then-is_word-clause-value c = rw (c.read_hello.ensures.value c.args.body.now) (search rules)

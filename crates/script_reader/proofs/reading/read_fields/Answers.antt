use Rattle.std.proofs.Common.{rules}
use Rattle.script_reader.specs.Parsing.{line_of}
use Rattle.script_reader.proofs.reading.read_fields.Goals as goal

pub returns-then-is_word-clause-value : goal.returns-then-is_word-clause-value
unfolding line_of
returns-then-is_word-clause-value c = rw (c.read_session.ensures.value c.args.body.now) (search rules)

pub returns-then-is_word-2-clause-value : goal.returns-then-is_word-2-clause-value
unfolding line_of
returns-then-is_word-2-clause-value c = rw (c.read_low_session.ensures.value c.args.body.now) (search rules)

pub returns-then-is_word-3-clause-value : goal.returns-then-is_word-3-clause-value
unfolding line_of
returns-then-is_word-3-clause-value c = rw (c.read_coarse.ensures.value c.args.body.now) (search rules)

pub returns-then-is_word-4-clause-value : goal.returns-then-is_word-4-clause-value
unfolding line_of
returns-then-is_word-4-clause-value c = rw (c.read_carry.ensures.value c.args.body.now) (search rules)

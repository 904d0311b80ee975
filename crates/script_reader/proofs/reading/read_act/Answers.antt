use Rattle.std.proofs.Common.{rules}
use Rattle.script_reader.specs.Parsing.{act_of}
use Rattle.script_reader.proofs.reading.read_act.Goals as goal

pub returns-in_err-act-clause-value : goal.returns-in_err-act-clause-value
unfolding act_of
returns-in_err-act-clause-value c = λ session moment. rw (c.in_err-act.ensures.value c.args.body.now session moment) (search rules)

pub returns-then-not-is_done-clause-value : goal.returns-then-not-is_done-clause-value
unfolding act_of
returns-then-not-is_done-clause-value c = λ session moment. rw (c.in_ok-act.ensures.value c.args.body.now session moment) (search rules)

use Rattle.std.proofs.Common.{rules, inr, refl, List, ◌++◌, subst}
use Rattle.pump_link.specs.Causes.{AppendsPrefix}
use Rattle.script_reader.specs.declared.event.Event.{Event}
use Rattle.script_reader.specs.Transcript.{text}
use Rattle.script_replay.specs.Outputs.{held_of}
use Rattle.chain_replay.proofs.running.finish.Goals as goal

pub returns-in-Err-clause-closes : goal.returns-in-Err-clause-closes
returns-in-Err-clause-closes g c = λ d stands. inr (
  refl,
  subst (λ (events : List Event). AppendsPrefix (g.O.Sink.written c.args.out.now) (g.O.Sink.written c.write_last.new.out) (held_of c.args.output.now ++ text events)) (c.ends.ensures d stands) c.in-Err.ensures.err,
  search rules,
)

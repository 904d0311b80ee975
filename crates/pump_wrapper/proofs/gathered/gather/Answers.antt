use Rattle.pump_wrapper.proofs.Flushed.{flushed, unflushed, unwritten}
use Rattle.pump_wrapper.proofs.gathered.gather.Goals as goal

pub returns-then-is_unwritten-clause-gathers : goal.returns-then-is_unwritten-clause-gathers
returns-then-is_unwritten-clause-gathers g c = λ told messages stands.
    unwritten _ _ (g.O.Sink.written c.gather_held-gathered.new.out) _ c.args.message messages c.gather_held-gathered.result (c.is_unwritten.ensures.yes c.if-is_unwritten.true) (c.gather_held-gathered.ensures.gathers told messages stands)

pub returns-in-Ok-clause-gathers : goal.returns-in-Ok-clause-gathers
returns-in-Ok-clause-gathers g c = λ told messages stands.
    flushed _ _ _ _ c.args.message messages c.gather_held-gathered.result (c.is_unwritten.ensures.no c.if-is_unwritten.false) (c.gather_held-gathered.ensures.gathers told messages stands) c.in-Ok.ensures.ok

pub returns-in-Err-clause-gathers : goal.returns-in-Err-clause-gathers
returns-in-Err-clause-gathers g c = λ told messages stands.
    unflushed _ _ _ _ c.args.message messages c.gather_held-gathered.result (c.is_unwritten.ensures.no c.if-is_unwritten.false) (c.gather_held-gathered.ensures.gathers told messages stands) c.in-Err.ensures.err

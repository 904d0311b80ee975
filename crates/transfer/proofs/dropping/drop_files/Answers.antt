use Rattle.transfer.proofs.Told.{status_caused}
use Rattle.transfer.proofs.dropping.drop_files.Goals as goal

pub returns-clause-ends : goal.returns-clause-ends
returns-clause-ends g c = λ told. record {
  end = c.run_drop-end.result;
  mid = g.O.Sink.written c.run_drop-end.new.out;
  mid_faults = g.O.Sink.faults c.run_drop-end.new.out;
  comes = c.run_drop-end.ensures.comes told;
  last = c.finish.ensures.closes;
  later = c.finish.ensures.later;
}

pub returns-clause-cause : goal.returns-clause-cause
returns-clause-cause g c =
    let e = c.run_drop-end in
    let f = c.finish.ensures in
    status_caused _ (g.O.Sink.written c.args.out.now) (g.O.Sink.written e.new.out) _ (g.O.Sink.faults c.args.out.now) (g.O.Sink.faults e.new.out) _ _ _ _ _ e.result e.ensures.later f.later f.closes f.cause e.ensures.cause

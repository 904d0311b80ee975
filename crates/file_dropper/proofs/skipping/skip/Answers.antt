use Rattle.std.proofs.Common.{arith, ◌∙◌, refl, subst}
use Rattle.file_dropper.specs.Works.{Skips}
use Rattle.file_dropper.proofs.Passing.{skips_start, skips_more, skips_all}
use Rattle.file_dropper.proofs.ReadingSteps.{read_long}
use Rattle.file_dropper.proofs.skipping.skip.Goals as goal

pub loop-init : goal.loop-init
loop-init g c = record {
  may = c.requires.may;
  message = refl;
  sent = refl;
  started = refl;
  skips = λ bytes read has. skips_start g.F.Source.left c.args.sender.now bytes read c.requires.started has;
  later = omega arith;
}

pub returns-in-Done-clause-done : goal.returns-in-Done-clause-done
returns-in-Done-clause-done g c = λ done bytes read has.
    let n = skips_all g.F.Source.left c.args.sender.now c.loop.sender c.next-cut.new.self bytes c.next-cut.new.into c.loop.counter c.next-cut.result (c.loop.invariant.skips bytes read has) c.loop.invariant.started c.next-cut.ensures.reads done in
    omega (arith, n)

pub loop-preserved : goal.loop-preserved
loop-preserved g c = record {
  may = c.next-cut.ensures.may c.in-Message.is;
  message = c.next-cut.ensures.message ∙ c.loop.invariant.message;
  sent = c.loop.invariant.sent;
  started = c.loop.invariant.started;
  skips = λ bytes read has. skips_more g.F.Source.left c.args.sender.now c.loop.sender (record c.loop.sender { reading = c.next-cut.new.self }) bytes c.next-cut.new.into c.loop.counter c.next-cut.result (c.loop.invariant.skips bytes read has) c.loop.invariant.started c.loop.invariant.started c.next-cut.ensures.reads c.in-Message.is;
  later = omega (arith, c.loop.invariant.later, c.next-cut.ensures.later);
}

pub returns-clause-skipped : goal.returns-clause-skipped
returns-clause-skipped g c = λ is bytes read has. subst (Skips g.F.Source.left c.args.sender.now c.loop.sender bytes) (omega (arith, c.if-count-eq0.false)) (c.loop.invariant.skips bytes read has)

pub returns-in-Done-clause-too_long : goal.returns-in-Done-clause-too_long
returns-in-Done-clause-too_long g c = λ long bytes read has.
    let s = c.loop.invariant.skips bytes read has in
    read_long g.F.Source.left c.loop.sender.reading c.next-cut.new.self c.next-cut.new.into bytes s.read c.next-cut.result c.next-cut.ensures.reads long s.reading

use Rattle.std.proofs.Common.{◌-◌, arith, [], refl}
use Rattle.pump_link.specs.declared.link.Looked.TheVariants.{Byte, Ended, Failed}
use Rattle.pump_link.proofs.Grown.{Grows-nil, Grows-then}
use Rattle.peers.proofs.Hearing.{none_read, read_byte, read_nothing, heard, bad, ended, failed, more, longer, used}
use Rattle.peers.proofs.looks.await_frame.Goals as goal

pub loop-left-init : goal.loop-left-init
loop-left-init g c = record { reads = none_read _ _ _ c.new-reader.ensures.value; sent = Grows-nil _; later = omega arith }

pub returns-in-Whole-clause-wait : goal.returns-in-Whole-clause-wait
returns-in-Whole-clause-wait g c =
    let was = c.loop-left.invariant.reads in (
      _,
      more _ _ _ _ _ _ was _ c.in-Byte.ensures.gives,
      longer _ _ _ (λ log. Unit {0}) _ _ was (Byte c.in-Byte.byte) (c.loop-left.left - 1) (omega (arith, c.loop-left-test.true)),
      heard _ _ _ (λ log. Unit {0}) _ _ was c.in-Byte.byte c.feed_into.new.into _ c.in-Whole.ensures.answer,
    )

pub returns-in-Bad-clause-wait : goal.returns-in-Bad-clause-wait
returns-in-Bad-clause-wait g c =
    let was = c.loop-left.invariant.reads in (
      _,
      more _ _ _ _ _ _ was _ c.in-Byte.ensures.gives,
      longer _ _ _ (λ log. Unit {0}) _ _ was (Byte c.in-Byte.byte) (c.loop-left.left - 1) (omega (arith, c.loop-left-test.true)),
      bad _ _ _ (λ log. Unit {0}) _ _ was c.in-Byte.byte c.in-Bad.at _ _ _ c.in-Bad.ensures.answer,
    )

pub returns-in-Ended-clause-wait : goal.returns-in-Ended-clause-wait
returns-in-Ended-clause-wait g c =
    let was = c.loop-left.invariant.reads in (
      _,
      more _ _ _ _ _ _ was Ended c.in-Ended.ensures.gives,
      longer _ _ _ (λ log. Unit {0}) _ _ was Ended (c.loop-left.left - 1) (omega (arith, c.loop-left-test.true)),
      ended _ _ _ (λ log. Unit {0}) _ _ was _ _,
    )

pub returns-in-Failed-clause-wait : goal.returns-in-Failed-clause-wait
returns-in-Failed-clause-wait g c =
    let was = c.loop-left.invariant.reads in (
      _,
      more _ _ _ _ _ _ was Failed c.in-Failed.ensures.gives,
      longer _ _ _ (λ log. Unit {0}) _ _ was Failed (c.loop-left.left - 1) (omega (arith, c.loop-left-test.true)),
      failed _ _ _ (λ log. Unit {0}) _ _ was _ _ (omega (arith, c.loop-left.invariant.later, c.in-Failed.ensures.failed refl)),
    )

pub returns-clause-wait : goal.returns-clause-wait
returns-clause-wait g c =
    let was = c.loop-left.invariant.reads in (was.looks, was.gave, was.count, (used _ _ _ (λ log. Unit {0}) _ _ was, omega (arith, c.loop-left-test.false)))

pub loop-left-preserved-in-More : goal.loop-left-preserved-in-More
loop-left-preserved-in-More g c =
    let was = c.loop-left.invariant in
    record {
      reads = read_byte _ _ _ _ _ _ was.reads c.in-Byte.byte (c.loop-left.left - 1) _ (omega (arith, c.loop-left-test.true)) c.in-More.ensures.answer c.in-Byte.ensures.gives;
      sent = Grows-then _ _ _ [] [] was.sent c.look.ensures.sent;
      later = omega (arith, was.later, c.look.ensures.later);
    }

pub loop-left-preserved : goal.loop-left-preserved
loop-left-preserved g c =
    let was = c.loop-left.invariant in
    record {
      reads = read_nothing _ _ _ _ _ _ was.reads (c.loop-left.left - 1) (omega (arith, c.loop-left-test.true)) c.in-NotYet.ensures.gives;
      sent = Grows-then _ _ _ [] [] was.sent c.look.ensures.sent;
      later = omega (arith, was.later, c.look.ensures.later);
    }

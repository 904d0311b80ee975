use Rattle.std.proofs.Common.{refl, le_refl, le_trans, arith, []}
use Rattle.pump_link.proofs.Grown.{Grows-nil, Grows-then}
use Rattle.relay_threads.proofs.Hearing.{none_read, read_more, hears_frame, hears_bad, hears_nothing, hears_end, hears_failure, hears_most, lawful_frame, frame_no_failure, bad_no_failure, nothing_no_failure, end_no_failure}
use Rattle.relay_threads.proofs.Reaching.{rose_later}
use Rattle.relay_threads.proofs.hear.hear.Goals as goal

pub loop-count-init : goal.loop-count-init
loop-count-init g c = record { reads = none_read c.args.reader.now _ c.requires.within c.requires.begun; begun = c.requires.begun; sent = Grows-nil _; later = le_refl _ }

pub loop-count-preserved : goal.loop-count-preserved
loop-count-preserved g c =
    let was = c.loop-count.invariant in
    record {
      reads = read_more _ _ _ _ _ _ was.reads c.in-Byte.byte _ _ refl c.in-More.ensures.answer c.in-Byte.ensures.gives;
      begun = c.in-More.ensures.begun;
      sent = Grows-then _ _ _ [] [] was.sent c.look.ensures.sent;
      later = le_trans was.later c.look.ensures.later;
    }

pub returns-in-Whole : goal.returns-in-Whole
returns-in-Whole g c = record {
  heard = hears_frame _ _ _ _ _ _ c.loop-count.invariant.reads c.in-Byte.byte c.feed_into.new.into _ c.loop-count-test.true c.in-Whole.ensures.answer c.in-Byte.ensures.gives;
  lawful = lawful_frame _ _ _ _ (λ log. Unit {0}) _ c.loop-count.invariant.reads c.in-Byte.byte c.feed_into.new.into _ c.in-Whole.ensures.answer;
  begun = c.in-Whole.ensures.begun;
  sent = Grows-then _ _ _ [] [] c.loop-count.invariant.sent c.look.ensures.sent;
  later = le_trans c.loop-count.invariant.later c.look.ensures.later;
  failed = λ is. absurd (frame_no_failure is);
}

pub returns-in-Bad : goal.returns-in-Bad
returns-in-Bad g c = record {
  heard = hears_bad _ _ _ _ _ _ c.loop-count.invariant.reads c.in-Byte.byte c.in-Bad.at _ c.loop-count-test.true c.in-Bad.ensures.answer c.in-Byte.ensures.gives;
  lawful = tt;
  begun = c.in-Bad.ensures.begun;
  sent = Grows-then _ _ _ [] [] c.loop-count.invariant.sent c.look.ensures.sent;
  later = le_trans c.loop-count.invariant.later c.look.ensures.later;
  failed = λ is. absurd (bad_no_failure is);
}

pub returns-in-NotYet : goal.returns-in-NotYet
returns-in-NotYet g c = record {
  heard = hears_nothing _ _ _ _ _ _ c.loop-count.invariant.reads c.loop-count.auto._count-end c.in-NotYet.ensures.gives;
  lawful = tt;
  begun = c.loop-count.invariant.begun;
  sent = Grows-then _ _ _ [] [] c.loop-count.invariant.sent c.look.ensures.sent;
  later = le_trans c.loop-count.invariant.later c.look.ensures.later;
  failed = λ is. absurd (nothing_no_failure is);
}

pub returns-in-Ended : goal.returns-in-Ended
returns-in-Ended g c = record {
  heard = hears_end _ _ _ _ _ _ c.loop-count.invariant.reads c.loop-count.auto._count-end c.in-Ended.ensures.gives;
  lawful = tt;
  begun = c.loop-count.invariant.begun;
  sent = Grows-then _ _ _ [] [] c.loop-count.invariant.sent c.look.ensures.sent;
  later = le_trans c.loop-count.invariant.later c.look.ensures.later;
  failed = λ is. absurd (end_no_failure is);
}

pub returns-in-Failed : goal.returns-in-Failed
returns-in-Failed g c = record {
  heard = hears_failure _ _ _ _ _ _ c.loop-count.invariant.reads c.loop-count.auto._count-end c.in-Failed.ensures.gives;
  lawful = tt;
  begun = c.loop-count.invariant.begun;
  sent = Grows-then _ _ _ [] [] c.loop-count.invariant.sent c.look.ensures.sent;
  later = le_trans c.loop-count.invariant.later c.look.ensures.later;
  failed = λ _. rose_later _ _ _ c.loop-count.invariant.later (c.in-Failed.ensures.failed refl);
}

pub returns : goal.returns
returns g c = record {
  heard = hears_most _ _ _ _ _ c.loop-count.invariant.reads (omega (arith, c.loop-count-test.false, c.loop-count.auto._count-end));
  lawful = tt;
  begun = c.loop-count.invariant.begun;
  sent = c.loop-count.invariant.sent;
  later = c.loop-count.invariant.later;
  failed = λ is. absurd (nothing_no_failure is);
}

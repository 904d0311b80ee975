use Rattle.std.proofs.Common.{◌≡◌, ℕ, ◌+◌, ◌<◌, Bool, true, false, List, [], length, take, refl, sym, ◌∙◌, ap, subst, arith}
use Rattle.std.specs.Prelude.{not}
use Rattle.std.proofs.KnownBytes.{Consumes-nil}
use Rattle.std.proofs.lemmas.List.{take_all}
use Rattle.std.proofs.lemmas.Slice.Eq.{bytes_eq-Decides}
use Rattle.high_receiver.proofs.Places.{first_record}
use Rattle.pump_wrapper.specs.declared.compare.CompareFault.TheVariants.{Device, Differs, Read, TooLong}
use Rattle.pump_wrapper.proofs.Compared.{passed, none_passed, none_counted, one_passed, one_counted, ends_before, differs_there, takes_stopped, takes_long, takes_on}
use Rattle.pump_wrapper.proofs.Unseen.{stops_unseen}
use Rattle.pump_wrapper.proofs.Takings.{kept_first, kept_on, stands_on, count_is, next_message}
use Rattle.pump_wrapper.proofs.compare.skip_received.Goals as goal

not_false : (b : Bool) → not b ≡ false → b ≡ true
not_false true e = refl
not_false false e = sym e

pub loop-number-init : goal.loop-number-init
loop-number-init g c = record {
  ready = c.requires.ready;
  keeps = kept_first g.D.Disk.told c.args.receiver.now;
  place = first_record g.D.Disk.told _ c.requires.ready;
  later = omega arith;
  may = c.requires.may;
  message = refl;
  passed = λ told messages stands. none_passed c.args.cutter.now (g.I.Source.left c.args.file.now);
  same = none_counted c.args.cutter.now (g.I.Source.left c.args.file.now);
  bytes = ([], Consumes-nil (g.I.Source.left c.args.file.now), omega arith);
}

pub at-requires : goal.at-requires
at-requires g c =
    let kept = c.loop-number.invariant in
    record {
      ready = kept.ready;
      taken = omega (arith, c.loop-number-test.true, c.count-number-end.ensures, kept.keeps.log.count);
      place = kept.place;
    }

pub next-requires : goal.next-requires
next-requires g c = c.loop-number.invariant.may

pub returns-in-Err : goal.returns-in-Err
returns-in-Err g c =
    let m = g.D.Disk.told in
    let kept = c.loop-number.invariant in
    let e = c.in-Err.ensures in
    record {
      compares = λ told messages stands. stops_unseen messages c.args.cutter.now c.loop-number.cutter (g.I.Source.left c.args.file.now) (g.I.Source.left c.loop-number.file) (Device c.in-Err.device.faults) (λ before after. tt);
      same = tt;
      takes = (kept.bytes.0, kept.bytes.1, (λ long. absurd cc), (λ other. omega (arith, kept.may.few, kept.bytes.2)), λ ok. absurd cc);
      may = tt;
      message = kept.message;
      ready = λ other. absurd (other tt);
      closed = λ device. e.closed;
      keeps = kept_on m _ _ _ kept.keeps e.keeps e.answers.counts;
      cause = (e.device, omega (arith, kept.keeps.counts, e.answers.rose refl));
      later = kept.later;
    }

pub returns-in-Done : goal.returns-in-Done
returns-in-Done g c =
    let m = g.D.Disk.told in
    let kept = c.loop-number.invariant in
    let n = c.loop-number.number in
    let e = c.in-Ok.ensures in
    let next = c.in-Done.ensures in
    let t = next.takes in
    record {
      compares = λ told messages stands.
          let on = stands_on m c.args.receiver.now c.loop-number.receiver messages kept.keeps.log.row kept.keeps.log.moves told stands in
          let lt : n < length messages = omega (arith, c.loop-number-test.true, c.count-number-end.ensures, kept.keeps.log.count, count_is m c.loop-number.receiver messages kept.ready told on) in
          let more = next_message messages n c.at.new.into c.at.new.into lt (e.message told messages on) refl in
          ends_before messages n c.at.new.into c.next.new.into c.args.cutter.now c.loop-number.cutter c.next.new.self _ _ _ kept.bytes.0 kept.bytes.1 lt more (kept.passed told messages stands) next.gives;
      same = tt;
      takes = takes_stopped c.args.cutter.now c.loop-number.cutter c.next.new.self _ _ _ kept.bytes.0 t.0 _ kept.bytes.1 kept.bytes.2 t.1 t.2 (Differs n) (λ e. cc) (λ e. cc);
      may = tt;
      message = next.same ∙ kept.message;
      ready = λ other. e.ready;
      closed = λ device. absurd device;
      keeps = kept_on m _ _ _ kept.keeps e.keeps e.answers.counts;
      cause = tt;
      later = omega (arith, kept.later, next.later);
    }

pub returns-in-Failed : goal.returns-in-Failed
returns-in-Failed g c =
    let m = g.D.Disk.told in
    let kept = c.loop-number.invariant in
    let n = c.loop-number.number in
    let e = c.in-Ok.ensures in
    let next = c.in-Failed.ensures in
    let t = next.takes in
    record {
      compares = λ told messages stands.
          stops_unseen messages c.args.cutter.now c.next.new.self (g.I.Source.left c.args.file.now) (g.I.Source.left c.next.new.file) Read (λ before after. tt);
      same = tt;
      takes = takes_stopped c.args.cutter.now c.loop-number.cutter c.next.new.self _ _ _ kept.bytes.0 t.0 _ kept.bytes.1 kept.bytes.2 t.1 t.2 Read (λ e. cc) (λ e. cc);
      may = tt;
      message = next.same ∙ kept.message;
      ready = λ other. e.ready;
      closed = λ device. absurd device;
      keeps = kept_on m _ _ _ kept.keeps e.keeps e.answers.counts;
      cause = omega (arith, kept.later, next.failed refl);
      later = omega (arith, kept.later, next.later);
    }

pub returns-in-TooLong : goal.returns-in-TooLong
returns-in-TooLong g c =
    let m = g.D.Disk.told in
    let kept = c.loop-number.invariant in
    let n = c.loop-number.number in
    let e = c.in-Ok.ensures in
    let next = c.in-TooLong.ensures in
    let t = next.takes in
    record {
      compares = λ told messages stands.
          stops_unseen messages c.args.cutter.now c.next.new.self (g.I.Source.left c.args.file.now) (g.I.Source.left c.next.new.file) TooLong (λ before after. tt);
      same = tt;
      takes = takes_long c.args.cutter.now c.loop-number.cutter c.next.new.self _ _ _ kept.bytes.0 t.0 _ kept.bytes.1 kept.bytes.2 t.1 t.2 refl;
      may = tt;
      message = next.same ∙ kept.message;
      ready = λ other. e.ready;
      closed = λ device. absurd device;
      keeps = kept_on m _ _ _ kept.keeps e.keeps e.answers.counts;
      cause = tt;
      later = omega (arith, kept.later, next.later);
    }

pub returns-then-ne : goal.returns-then-ne
returns-then-ne g c =
    let m = g.D.Disk.told in
    let kept = c.loop-number.invariant in
    let n = c.loop-number.number in
    let e = c.in-Ok.ensures in
    let next = c.in-Message.ensures in
    let t = next.takes in
    record {
      compares = λ told messages stands.
          let on = stands_on m c.args.receiver.now c.loop-number.receiver messages kept.keeps.log.row kept.keeps.log.moves told stands in
          let lt : n < length messages = omega (arith, c.loop-number-test.true, c.count-number-end.ensures, kept.keeps.log.count, count_is m c.loop-number.receiver messages kept.ready told on) in
          let more = next_message messages n c.at.new.into c.at.new.into lt (e.message told messages on) refl in
          let other : c.at.new.into ≡ c.next.new.into → ⊥ =
          λ is.
          let same = (bytes_eq-Decides c.as_slice.result.now c.as_slice-in-loop-number.result.now).1 (c.as_slice.ensures.value ∙ is ∙ sym c.as_slice-in-loop-number.ensures.value) in
          let differs = sym c.if-ne.true ∙ c.ne.ensures ∙ ap not same in cc in
          differs_there messages n c.at.new.into c.next.new.into c.args.cutter.now c.loop-number.cutter c.next.new.self _ _ _ kept.bytes.0 kept.bytes.1 lt more other (kept.passed told messages stands) next.gives;
      same = tt;
      takes = takes_stopped c.args.cutter.now c.loop-number.cutter c.next.new.self _ _ _ kept.bytes.0 t.0 _ kept.bytes.1 kept.bytes.2 t.1 t.2 (Differs n) (λ e. cc) (λ e. cc);
      may = tt;
      message = next.same ∙ kept.message;
      ready = λ other. e.ready;
      closed = λ device. absurd device;
      keeps = kept_on m _ _ _ kept.keeps e.keeps e.answers.counts;
      cause = tt;
      later = omega (arith, kept.later, next.later);
    }

pub loop-number-preserved : goal.loop-number-preserved
loop-number-preserved g c =
    let m = g.D.Disk.told in
    let kept = c.loop-number.invariant in
    let n = c.loop-number.number in
    let e = c.in-Ok.ensures in
    let next = c.in-Message.ensures in
    let t = next.takes in
    let same : c.at.new.into ≡ c.next.new.into = sym c.as_slice.ensures.value ∙ (bytes_eq-Decides c.as_slice.result.now c.as_slice-in-loop-number.result.now).0 (not_false _ (sym c.ne.ensures ∙ c.if-ne.false)) ∙ c.as_slice-in-loop-number.ensures.value in
    record {
      ready = e.ready;
      keeps = kept_on m _ _ _ kept.keeps e.keeps e.answers.counts;
      place = e.next;
      later = omega (arith, kept.later, next.later);
      may = next.may refl;
      message = next.same ∙ kept.message;
      passed = λ told messages stands.
          let on = stands_on m c.args.receiver.now c.loop-number.receiver messages kept.keeps.log.row kept.keeps.log.moves told stands in
          let lt : n < length messages = omega (arith, c.loop-number-test.true, c.count-number-end.ensures, kept.keeps.log.count, count_is m c.loop-number.receiver messages kept.ready told on) in
          let more = next_message messages n c.at.new.into c.next.new.into lt (e.message told messages on) (sym same) in
          one_passed (take n messages) (take (n + 1) messages) c.next.new.into c.args.cutter.now c.loop-number.cutter c.next.new.self _ _ _ kept.bytes.0 kept.bytes.1 (kept.passed told messages stands) next.gives more;
      same = one_counted c.args.cutter.now c.loop-number.cutter c.next.new.self _ _ _ kept.bytes.0 kept.bytes.1 kept.same next.counts;
      bytes = takes_on c.args.cutter.now c.loop-number.cutter c.next.new.self _ _ _ kept.bytes.0 t.0 _ kept.bytes.1 kept.bytes.2 t.1 t.2 (λ e. cc);
    }

pub returns : goal.returns
returns g c =
    let m = g.D.Disk.told in
    let kept = c.loop-number.invariant in
    let n = c.loop-number.number in
    record {
      compares = λ told messages stands.
          let on = stands_on m c.args.receiver.now c.loop-number.receiver messages kept.keeps.log.row kept.keeps.log.moves told stands in
          let all : take n messages ≡ messages = take_all n messages (omega (arith, c.loop-number-test.false, c.count-number-end.ensures, kept.keeps.log.count, count_is m c.loop-number.receiver messages kept.ready told on)) in
          subst (λ (ms : List (List ℕ)). passed ms c.args.cutter.now c.loop-number.cutter (g.I.Source.left c.args.file.now) (g.I.Source.left c.loop-number.file)) all (kept.passed told messages stands);
      same = kept.same;
      takes = (kept.bytes.0, kept.bytes.1, (λ long. absurd cc), (λ other. omega (arith, kept.may.few, kept.bytes.2)), λ ok. kept.bytes.2);
      may = kept.may;
      message = kept.message;
      ready = λ other. kept.ready;
      closed = λ device. absurd device;
      keeps = kept.keeps;
      cause = tt;
      later = kept.later;
    }

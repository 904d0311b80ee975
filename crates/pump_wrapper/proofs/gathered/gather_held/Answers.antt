use Rattle.std.proofs.Common.{◌≡◌, ℕ, ◌+◌, ◌<◌, List, [], ◌∷◌, ◌++◌, length, take, slice_index_or, sym, ◌∙◌, ap, subst, arith, length-append, append_assoc}
use Rattle.std.proofs.lemmas.List.{take_all}
use Rattle.stable_buffer.specs.Log.{RecvStands}
use Rattle.std.proofs.KnownBytes.{Appends-nil}
use Rattle.pump_link.specs.Causes.{AppendsPrefix}
use Rattle.high_receiver.specs.LogReading.{given_message}
use Rattle.pump_wrapper.specs.HeldBack.{Held, held_in}
use Rattle.pump_wrapper.specs.Wrapped.{unwrapped, BeginsFile}
use Rattle.pump_wrapper.specs.Gathering.{HasTaken}
use Rattle.pump_wrapper.proofs.Following.{begins, begins_no, one_taken, whole_file, file_whole}
use Rattle.pump_wrapper.proofs.Takings.{kept_first, kept_on, length_of_piece, stands_on, count_is, next_message, next_bytes, prefix_behind}
use Rattle.pump_wrapper.proofs.gathered.gather_held.Goals as goal

pub returns-in-Err : goal.returns-in-Err
returns-in-Err g c =
    let m = g.D.Disk.told in
    let kept = c.loop-number.invariant in
    let e = c.in-Err.ensures in
    record {
      gathers = λ told messages stands.
          let n = c.loop-number.number in
          let on = stands_on m c.args.receiver.now c.loop-number.receiver messages kept.keeps.log.row kept.keeps.log.moves told stands in
          let lt : n < length messages = omega (arith, c.loop-number-test.true, c.count-number-end.ensures, kept.keeps.log.count, count_is m c.loop-number.receiver messages kept.ready told on) in
          (n, lt, begins c.args.message (take n messages) c.loop-number.gathering (kept.taken told messages stands), kept.wrote told messages stands);
      ready = λ other. absurd (other tt);
      closed = λ device. e.closed;
      keeps = kept_on m _ _ _ kept.keeps e.keeps e.answers.counts;
      cause = (e.device, omega (arith, kept.keeps.counts, e.answers.rose));
      later = kept.later;
    }

pub returns-in_default : goal.returns-in_default
returns-in_default g c =
    let m = g.D.Disk.told in
    let kept = c.loop-number.invariant in
    let e = c.in-Ok.ensures in
    record {
      gathers = λ told messages stands.
          let n = c.loop-number.number in
          let on = stands_on m c.args.receiver.now c.loop-number.receiver messages kept.keeps.log.row kept.keeps.log.moves told stands in
          let lt : n < length messages = omega (arith, c.loop-number-test.true, c.count-number-end.ensures, kept.keeps.log.count, count_is m c.loop-number.receiver messages kept.ready told on) in
          let more = next_message messages n (given_message c.advance.new.self) c.message.result.now lt (c.in-Ok.ensures.message told messages on ∙ ap (λ k. slice_index_or messages k []) kept.given) c.message.ensures.message in
          let has = kept.taken told messages stands in
          let never = begins_no c.args.message (take n messages) c.message.result.now c.loop-number.gathering has c.in_default.ensures.taken in
          (lt, begins c.args.message (take n messages) c.loop-number.gathering has, subst (λ (ms : List (List ℕ)). BeginsFile c.args.message ms → ⊥) more never, kept.wrote told messages stands);
      ready = λ other. e.ready;
      closed = λ device. absurd device;
      keeps = kept_on m _ _ _ kept.keeps e.keeps e.answers.counts;
      cause = tt;
      later = kept.later;
    }

pub returns-in-Err-put : goal.returns-in-Err-put
returns-in-Err-put g c =
    let m = g.D.Disk.told in
    let kept = c.loop-number.invariant in
    let e = c.in-Ok.ensures in
    record {
      gathers = λ told messages stands.
          let n = c.loop-number.number in
          let asl = c.message.result.now in
          let piece = c.in-Some.piece.now in
          let step = c.in-Some.ensures.taken in
          let on = stands_on m c.args.receiver.now c.loop-number.receiver messages kept.keeps.log.row kept.keeps.log.moves told stands in
          let lt : n < length messages = omega (arith, c.loop-number-test.true, c.count-number-end.ensures, kept.keeps.log.count, count_is m c.loop-number.receiver messages kept.ready told on) in
          let more = next_message messages n (given_message c.advance.new.self) asl lt (c.in-Ok.ensures.message told messages on ∙ ap (λ k. slice_index_or messages k []) kept.given) c.message.ensures.message in
          let has = one_taken c.args.message (take n messages) asl c.loop-number.gathering c.take.new.self (kept.taken told messages stands) step.0 in
          let held = kept.wrote told messages stands in
          let bytes : held.0 ++ (held_in c.loop-number.room ++ piece) ≡ unwrapped (take (n + 1) messages) =
          sym (append_assoc held.0 (held_in c.loop-number.room) piece) ∙ ap (λ (bs : List ℕ). bs ++ piece) (sym held.2) ∙ next_bytes messages n asl piece more step.1 in (
            n + 1,
            omega (arith, lt),
            subst (λ (ms : List (List ℕ)). BeginsFile c.args.message ms) more (begins c.args.message (take n messages ++ asl ∷ []) c.take.new.self has),
            subst (λ (bs : List ℕ). AppendsPrefix (g.O.Sink.written c.args.out.now) (g.O.Sink.written c.put.new.out) bs) bytes
                (prefix_behind _ _ _ held.0 (held_in c.loop-number.room ++ piece) held.1 c.in-Err-put.ensures.err),
          );
      ready = λ other. e.ready;
      closed = λ device. absurd device;
      keeps = kept_on m _ _ _ kept.keeps e.keeps e.answers.counts;
      cause = omega (arith, kept.later, c.in-Err-put.ensures.cause.failed);
      later = omega (arith, kept.later, c.in-Err-put.ensures.cause.later);
    }

pub put-requires : goal.put-requires
put-requires g c =
    let asl = c.message.result.now in
    omega (arith, c.message.ensures.short, length_of_piece asl, ap length c.in-Some.ensures.taken.1)

pub loop-number-init : goal.loop-number-init
loop-number-init g c =
    let m = g.D.Disk.told in
    let log = c.reader-log.ensures in
    let new = c.new-gathering.ensures in
    record {
      ready = c.requires.ready;
      keeps = kept_first m c.args.receiver.now;
      reading = log.reading;
      given = log.given;
      later = omega arith;
      piece = new.size;
      few = omega (arith, new.bytes);
      taken = λ told messages stands. new.taken;
      bytes = λ told messages stands. new.bytes;
      wrote = λ told messages stands. ([], Appends-nil (g.O.Sink.written c.args.out.now), sym c.requires.empty);
    }

pub loop-number-preserved : goal.loop-number-preserved
loop-number-preserved g c =
    let m = g.D.Disk.told in
    let kept = c.loop-number.invariant in
    let n = c.loop-number.number in
    let message = c.args.message in
    let e = c.in-Ok.ensures in
    let step = c.in-Some.ensures.taken in
    let asl = c.message.result.now in
    let piece = c.in-Some.piece.now in
    let on = λ (told : m.tells) (messages : List (List ℕ)) (stands : RecvStands c.args.receiver.now.row messages (m.reading c.args.receiver.now.register.disk)). stands_on m c.args.receiver.now c.loop-number.receiver messages kept.keeps.log.row kept.keeps.log.moves told stands in
    let more = λ (told : m.tells) (messages : List (List ℕ)) (stands : RecvStands c.args.receiver.now.row messages (m.reading c.args.receiver.now.register.disk)).
    next_message messages n (given_message c.advance.new.self) asl (omega (arith, c.loop-number-test.true, c.count-number-end.ensures, kept.keeps.log.count, count_is m c.loop-number.receiver messages kept.ready told (on told messages stands))) (e.message told messages (on told messages stands) ∙ ap (λ k. slice_index_or messages k []) kept.given) c.message.ensures.message in
    let bytes = λ (told : m.tells) (messages : List (List ℕ)) (stands : RecvStands c.args.receiver.now.row messages (m.reading c.args.receiver.now.register.disk)). next_bytes messages n asl piece (more told messages stands) step.1 in
    record {
      ready = e.ready;
      keeps = kept_on m _ _ _ kept.keeps e.keeps e.answers.counts;
      reading = e.reading;
      given = e.given ∙ ap (λ k. k + 1) kept.given;
      later = omega (arith, kept.later, c.put.ensures.cause.later);
      piece = c.take.ensures.size ∙ kept.piece;
      few = omega (arith, kept.few, c.in-Some.ensures.bytes, c.message.ensures.short, length_of_piece asl, ap length step.1);
      taken = λ told messages stands. subst (λ (ms : List (List ℕ)). HasTaken message ms c.take.new.self) (more told messages stands) (one_taken message (take n messages) asl c.loop-number.gathering c.take.new.self (kept.taken told messages stands) step.0);
      bytes = λ told messages stands. c.in-Some.ensures.bytes ∙ ap (λ k. k + length piece) (kept.bytes told messages stands) ∙ sym (length-append (unwrapped (take n messages)) piece) ∙ ap length (bytes told messages stands);
      wrote = λ told messages stands. subst (Held _ _ _) (bytes told messages stands) (c.in-Ok-put.ensures.ok _ (unwrapped (take n messages)) (kept.wrote told messages stands));
    }

pub returns : goal.returns
returns g c =
    let m = g.D.Disk.told in
    let kept = c.loop-number.invariant in
    record {
      gathers = λ told messages stands.
          let n = c.loop-number.number in
          let on = stands_on m c.args.receiver.now c.loop-number.receiver messages kept.keeps.log.row kept.keeps.log.moves told stands in
          let all : take n messages ≡ messages = take_all n messages (omega (arith, c.loop-number-test.false, c.count-number-end.ensures, kept.keeps.log.count, count_is m c.loop-number.receiver messages kept.ready told on)) in
          let has = subst (λ (ms : List (List ℕ)). HasTaken c.args.message ms c.loop-number.gathering) all (kept.taken told messages stands) in
          let is = c.is_whole.ensures in (
            begins c.args.message messages c.loop-number.gathering has,
            subst (λ (ms : List (List ℕ)). Held (g.O.Sink.written c.args.out.now) (g.O.Sink.written c.loop-number.out) (held_in c.loop-number.room) (unwrapped ms)) all (kept.wrote told messages stands),
            c.bytes.ensures ∙ kept.bytes told messages stands ∙ ap (λ (ms : List (List ℕ)). length (unwrapped ms)) all,
            (λ whole. whole_file c.args.message messages c.loop-number.gathering has (is.0 whole), λ file. is.1 (file_whole c.args.message messages c.loop-number.gathering has file)),
          );
      ready = λ other. kept.ready;
      closed = λ device. absurd device;
      keeps = kept.keeps;
      cause = tt;
      later = kept.later;
    }

pub advance-requires : goal.advance-requires
advance-requires g c =
    let kept = c.loop-number.invariant in
    record {
      ready = kept.ready;
      reading = kept.reading;
      more = omega (arith, c.loop-number-test.true, c.count-number-end.ensures, kept.keeps.log.count, kept.given);
    }

use Rattle.std.proofs.Common.{◌≡◌, ℕ, ◌+◌, ◌<◌, false, List, [], ◌++◌, length, drop, take, slice_index_or, inl, inr, refl, sym, ap, ◌∙◌, subst, arith}
use Rattle.std.proofs.KnownBytes.{Appends-trans}
use Rattle.std.proofs.lemmas.List.{take_all}
use Rattle.std.specs.Io.KnownBytes.{Appends}
use Rattle.disk_model.specs.Plain.{plain_meaning}
use Rattle.high_receiver.specs.Receiving.{recv_disk, recv_row, recv_count}
use Rattle.stable_buffer.specs.Log.{RecvStands}
use Rattle.commands.specs.Messages.{message_lines, line_from}
use Rattle.commands.proofs.Printed.{walked_more, count_is, stands_still, printed_none, printed_prefix}
use Rattle.commands.proofs.messages.write_messages.Goals as goal

pub loop-number-init : goal.loop-number-init
loop-number-init g c =
    let log = c.reader-log.ensures in
    record {
      ready = c.requires.ready;
      calm = c.requires.calm;
      count = refl;
      row = refl;
      same = refl;
      reading = log.reading;
      given = log.given;
      later = omega arith;
      wrote = λ messages stands. printed_none (g.O.Sink.written c.args.out.now) c.args.session c.args.from messages;
    }

pub loop-number-preserved : goal.loop-number-preserved
loop-number-preserved g c =
    let kept = c.loop-number.invariant in
    let e = c.in-Ok.ensures in
    let w = c.write_from.ensures in
    let here = λ (messages : List (List ℕ)) (stands : RecvStands (recv_row c.args.receiver) messages (recv_disk c.args.receiver).bytes). stands_still c.args.receiver c.loop-number.receiver messages kept.row kept.same stands in
    record {
      ready = e.ready;
      calm = e.answers.armed tt ∙ kept.calm;
      count = e.keeps.count ∙ kept.count;
      row = e.keeps.row ∙ kept.row;
      same = e.keeps.moves.reads tt ∙ kept.same;
      reading = e.reading;
      given = e.given ∙ ap (λ k. k + 1) kept.given;
      later = omega (arith, kept.later, w.cause.later);
      wrote = λ messages stands.
          let n = c.loop-number.number in
          let on = here messages stands in
          let low : n < length messages = omega (arith, c.loop-number-test.true, c.count-number-end.ensures, kept.count, count_is c.loop-number.receiver messages kept.ready on) in
          let is : c.message.result.now ≡ slice_index_or messages n [] = c.message.ensures.message ∙ e.message tt messages on ∙ ap (λ k. slice_index_or messages k []) kept.given in
          subst (Appends (g.O.Sink.written c.args.out.now) (g.O.Sink.written c.write_from.new.out)) (walked_more c.args.session c.args.from n messages c.message.result.now low is)
          (Appends-trans (g.O.Sink.written c.args.out.now) (g.O.Sink.written c.loop-number.out) (g.O.Sink.written c.write_from.new.out) _ _ (kept.wrote messages stands) c.in-Ok-write_from.ensures.ok);
    }

pub returns-in-Err-write_from : goal.returns-in-Err-write_from
returns-in-Err-write_from g c = λ messages stands.
    let kept = c.loop-number.invariant in
    let e = c.in-Ok.ensures in
    let n = c.loop-number.number in
    let on = stands_still c.args.receiver c.loop-number.receiver messages kept.row kept.same stands in
    let low : n < length messages = omega (arith, c.loop-number-test.true, c.count-number-end.ensures, kept.count, count_is c.loop-number.receiver messages kept.ready on) in
    let is : c.message.result.now ≡ slice_index_or messages n [] = c.message.ensures.message ∙ e.message tt messages on ∙ ap (λ k. slice_index_or messages k []) kept.given in
    let cause = c.in-Err-write_from.ensures.cause in
    inr (
      refl,
      printed_prefix (g.O.Sink.written c.args.out.now) (g.O.Sink.written c.loop-number.out) (g.O.Sink.written c.write_from.new.out) c.args.session c.args.from n messages c.message.result.now low is (kept.wrote messages stands) c.in-Err-write_from.ensures.err,
      omega (arith, kept.later, cause.later, cause.failed),
    )

pub returns : goal.returns
returns g c = λ messages stands.
    let kept = c.loop-number.invariant in
    let n = c.loop-number.number in
    let on = stands_still c.args.receiver c.loop-number.receiver messages kept.row kept.same stands in
    let all : take n messages ≡ messages = take_all n messages (omega (arith, c.loop-number-test.false, c.count-number-end.ensures, kept.count, count_is c.loop-number.receiver messages kept.ready on)) in
    inl (refl, subst (λ (ms : List (List ℕ)). Appends (g.O.Sink.written c.args.out.now) (g.O.Sink.written c.loop-number.out) (message_lines c.args.session c.args.from (drop c.args.from ms))) all (kept.wrote messages stands))

use Rattle.std.proofs.Common.{◌∷◌, true, ◌∙◌, ◌<◌, ◌+◌, ap, refl, sym, subst, arith}
use Rattle.file_dropper.specs.Works.{bytes_of, SendsPart}
use Rattle.file_dropper.specs.declared.work.Work.TheVariants.{Sending}
use Rattle.file_dropper.proofs.Behind.{sends_none_more}
use Rattle.file_dropper.proofs.Steps.{marked_fits, gives_message, gave, counted, next_weaker, sends_past}
use Rattle.file_dropper.proofs.Passing.{begun}
use Rattle.file_dropper.proofs.ReadingSteps.{read_more, read_end, read_long}
use Rattle.file_dropper.specs.Works.{still_of}
use Rattle.file_dropper.proofs.sending.Dropper+O+O+File.send_piece.Goals as goal

pub returns-then-self-sender-clause-behind : goal.returns-then-self-sender-clause-behind
returns-then-self-sender-clause-behind g c = λ tells messages stands.
    let d = c.args.self.now in
    let old = c.args.sender in
    let new = record old { reading = c.next.new.self } in
    let left = g.O.File.Source.left in
    let bytes = bytes_of (g.O.Outbox.told.stands d.outbox).marked in
    let is = counted g.O.Outbox.told tells left messages (record d { work = Sending old }) c.requires.may.not_awaited stands.count in
    let more = read_more left old.reading new.reading c.next.new.into bytes stands.work.read c.next.result c.next.ensures.reads c.in-Message.is stands.work.reading in
    let gives = begun left old c.requires.started ∙ more.2 ∙ ap (λ l. c.next.new.into ∷ l) (sym (begun left new c.requires.started)) in
    gave g.O.Outbox.told tells left messages d c.give.new.self (record d { work = Sending new; awaited = true }) c.next.new.into _ c.give.result d.number
    c.give.ensures.value c.give.ensures.message refl
    (gives_message g.O.Outbox.told tells left messages d.outbox d.message d.number old new _ c.next.new.into is stands.settled stands.work refl more.1 gives
    (subst (λ k. d.number + 1 < old.sent.start + k) c.cut_length.ensures.value c.if-self-sender.true))

pub returns-else-self-sender-clause-behind : goal.returns-else-self-sender-clause-behind
returns-else-self-sender-clause-behind g c = λ tells messages stands.
    let d = c.args.self.now in
    let old = c.args.sender in
    let m = g.O.Outbox.told in
    let left = g.O.File.Source.left in
    let s = m.stands d.outbox in
    let bytes = bytes_of s.marked in
    let is = counted m tells left messages (record d { work = Sending old }) c.requires.may.not_awaited stands.count in
    let more = read_more left old.reading c.next.new.self c.next.new.into bytes stands.work.read c.next.result c.next.ensures.reads c.in-Message.is stands.work.reading in
    let upto = subst (SendsPart d.message old.sent bytes s.removed messages) (begun left old c.requires.started ∙ more.2) stands.work.upto in
    let other = sends_past d.message old.sent bytes s.removed messages _ c.next.new.into c.requires.may.on.least upto (omega (arith, is, c.cut_length.ensures.value, c.if-self-sender.false)) in
    let later = c.stop.ensures.behind tells messages is stands.settled
    (marked_fits d.message old.sent s.marked s.removed messages (still_of left old) c.requires.may.on.least (c.requires.may.on.marked tells) stands.work.upto)
    (sends_none_more d.message old.sent bytes s.removed messages (still_of left old) stands.work.upto) other in
    (later.0, next_weaker m left c.stop.new.self messages c.stop.new.into _ _ c.stop.result (λ start name o. (c.requires.started, o)) later.1)

pub returns-in-TooLong-clause-behind : goal.returns-in-TooLong-clause-behind
returns-in-TooLong-clause-behind g c = λ tells messages stands.
    let d = c.args.self.now in
    let old = c.args.sender in
    let m = g.O.Outbox.told in
    let left = g.O.File.Source.left in
    let s = m.stands d.outbox in
    let bytes = bytes_of s.marked in
    let is = counted m tells left messages (record d { work = Sending old }) c.requires.may.not_awaited stands.count in
    let long = read_long left old.reading c.next.new.self c.next.new.into bytes stands.work.read c.next.result c.next.ensures.reads c.in-TooLong.is stands.work.reading in
    let later = c.stop-in-TooLong.ensures.behind tells messages is stands.settled
    (marked_fits d.message old.sent s.marked s.removed messages (still_of left old) c.requires.may.on.least (c.requires.may.on.marked tells) stands.work.upto)
    (sends_none_more d.message old.sent bytes s.removed messages (still_of left old) stands.work.upto)
    (λ same. omega (arith, long, same.0, c.requires.may.on.work.sent.size)) in
    (later.0, next_weaker m left c.stop-in-TooLong.new.self messages c.stop-in-TooLong.new.into _ _ c.stop-in-TooLong.result (λ start name o. (c.requires.started, o)) later.1)

pub returns-in-Done-clause-behind : goal.returns-in-Done-clause-behind
returns-in-Done-clause-behind g c = λ tells messages stands.
    let d = c.args.self.now in
    let old = c.args.sender in
    let m = g.O.Outbox.told in
    let left = g.O.File.Source.left in
    let s = m.stands d.outbox in
    let bytes = bytes_of s.marked in
    let is = counted m tells left messages (record d { work = Sending old }) c.requires.may.not_awaited stands.count in
    let last = read_end left old.reading c.next.new.self c.next.new.into bytes stands.work.read c.next.result c.next.ensures.reads c.in-Done.is stands.work.reading in
    let later = c.send_end.ensures.behind tells messages is stands.settled (c.finish-measure.ensures.measure bytes bytes last.0)
    (subst (SendsPart d.message old.sent bytes s.removed messages) (begun left old c.requires.started ∙ last.1) stands.work.upto) in
    (later.0, next_weaker m left c.send_end.new.self messages c.send_end.new.into _ _ c.send_end.result (λ start name o. (c.requires.started, o)) later.1)

use Rattle.std.proofs.Common.{◌≡◌, ◌∙◌, [], refl, sym, true, false}
use Rattle.std.proofs.KnownBytes.{Appends-nil}
use Rattle.pump_link.proofs.Grown.{Grows-nil}
use Rattle.peers.specs.Receiving.{Passed, is_wanted}
use Rattle.peers.proofs.Outgoing.{whole_sent, whole_printed}
use Rattle.peers.proofs.Taking.{grows_nothing, take_case, case_of, turn_made, device_failed, ahead, log_full}
use Rattle.peers.proofs.receive.serve_frame.Goals as goal

pub returns-then-not-is_wanted-clause-step : goal.returns-then-not-is_wanted-clause-step
returns-then-not-is_wanted-clause-step g c =
    let no : is_wanted c.args.row.now c.args.frame.now ≡ false = sym c.is_wanted.ensures ∙ c.if-not-is_wanted.true in (
      record { sent = []; printed = [] },
      (
        Passed c.args.frame.now,
        refl,
        record { turn = no; place = refl; ready = c.requires.ready; same_row = refl; same_size = refl; grows = grows_nothing _ _ _ },
        refl,
        refl,
      ),
      Grows-nil _,
      Appends-nil _,
    )

pub returns-in-Err-Device-clause-step : goal.returns-in-Err-Device-clause-step
returns-in-Err-Device-clause-step g c =
    let yes : is_wanted c.args.row.now c.args.frame.now ≡ true = sym c.is_wanted.ensures ∙ c.if-not-is_wanted.false in
    let e = c.in-Err-Device.ensures in
    let failed = device_failed _ _ c.args.frame.now _ _ _ c.requires.row c.requires.ready.settled (case_of _ _ _ _ _ _ _ c.in-Err-Device.field-0-is (take_case _ _ _ _ _ _ e.at_once e.unchanged e.stores)) in (
      record { sent = []; printed = [] },
      (yes, failed.next, failed.closed, e.row, e.size, failed.rose, failed.faults_are, failed.grows, (refl, refl)),
      Grows-nil _,
      Appends-nil _,
    )

pub returns-in-Err-Ahead-clause-step : goal.returns-in-Err-Ahead-clause-step
returns-in-Err-Ahead-clause-step g c =
    let yes : is_wanted c.args.row.now c.args.frame.now ≡ true = sym c.is_wanted.ensures ∙ c.if-not-is_wanted.false in
    let e = c.in-Err-Ahead.ensures in
    let why = ahead _ _ _ _ _ _ _ (case_of _ _ _ _ _ _ _ c.in-Err-Ahead.field-0-is (take_case _ _ _ _ _ _ e.at_once e.unchanged e.stores)) in (
      record { sent = []; printed = [] },
      ((yes, why.3), why.0, why.1, why.2, (refl, refl)),
      Grows-nil _,
      Appends-nil _,
    )

pub returns-in-Err-LogFull-clause-step : goal.returns-in-Err-LogFull-clause-step
returns-in-Err-LogFull-clause-step g c =
    let yes : is_wanted c.args.row.now c.args.frame.now ≡ true = sym c.is_wanted.ensures ∙ c.if-not-is_wanted.false in
    let e = c.in-Err-LogFull.ensures in
    let why = log_full _ _ _ _ _ _ _ _ (case_of _ _ _ _ _ _ _ c.in-Err-LogFull.field-0-is (take_case _ _ _ _ _ _ e.at_once e.unchanged e.stores)) in (
      record { sent = []; printed = [] },
      ((yes, why.5), why.0, why.1, why.2, why.3, why.4, (refl, refl)),
      Grows-nil _,
      Appends-nil _,
    )

pub returns-then-not-print_taken-clause-step : goal.returns-then-not-print_taken-clause-step
returns-then-not-print_taken-clause-step g c =
    let yes : is_wanted c.args.row.now c.args.frame.now ≡ true = sym c.is_wanted.ensures ∙ c.if-not-is_wanted.false in
    let e = c.in-Ok.ensures in
    let made = turn_made _ _ c.args.frame.now _ _ c.in-Ok.taken yes c.requires.row c.requires.ready.settled (e.ready refl) e.row e.size (take_case _ _ _ _ _ _ e.at_once e.unchanged e.stores) in
    let printed = c.print_taken.ensures.printed in (
      record { sent = []; printed = printed.0 },
      (
        made.t,
        made.is,
        made.made,
        refl,
        (printed.1.0, made.line ∙ printed.1.1),
        c.print_taken.ensures.failed c.if-not-print_taken.true,
      ),
      Grows-nil _,
      printed.3,
    )

pub returns-then-not-send_frame-clause-step : goal.returns-then-not-send_frame-clause-step
returns-then-not-send_frame-clause-step g c =
    let yes : is_wanted c.args.row.now c.args.frame.now ≡ true = sym c.is_wanted.ensures ∙ c.if-not-is_wanted.false in
    let e = c.in-Ok.ensures in
    let made = turn_made _ _ c.args.frame.now _ _ c.in-Ok.taken yes c.requires.row c.requires.ready.settled (e.ready refl) e.row e.size (take_case _ _ _ _ _ _ e.at_once e.unchanged e.stores) in
    let sent = rw c.plain_frame.ensures at c.send_frame.ensures.sent in (
      record { sent = sent.0; printed = _ },
      (
        made.t,
        made.is,
        made.made,
        (sent.1.0, made.answer ∙ sent.1.1),
        sym made.line,
        c.send_frame.ensures.failed c.if-not-send_frame.true,
      ),
      sent.3,
      whole_printed _ _ _ _ c.if-not-print_taken.false c.print_taken.ensures.printed,
    )

pub returns-clause-step : goal.returns-clause-step
returns-clause-step g c =
    let yes : is_wanted c.args.row.now c.args.frame.now ≡ true = sym c.is_wanted.ensures ∙ c.if-not-is_wanted.false in
    let e = c.in-Ok.ensures in
    let made = turn_made _ _ c.args.frame.now _ _ c.in-Ok.taken yes c.requires.row c.requires.ready.settled (e.ready refl) e.row e.size (take_case _ _ _ _ _ _ e.at_once e.unchanged e.stores) in
    let sent = rw c.plain_frame.ensures at c.send_frame.ensures.sent in (
      record { sent = _; printed = _ },
      (made.t, made.is, made.made, sym made.answer, sym made.line),
      whole_sent _ _ _ _ c.if-not-send_frame.false sent,
      whole_printed _ _ _ _ c.if-not-print_taken.false c.print_taken.ensures.printed,
    )

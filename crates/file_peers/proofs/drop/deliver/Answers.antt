use Rattle.std.proofs.Common.{◌+◌, ◌∙◌, ap, sym, refl, []}
use Rattle.std.proofs.KnownBytes.{Appends-nil}
use Rattle.peers.proofs.Outgoing.{whole_printed}
use Rattle.file_peers.specs.Dropping.{ended_line}
use Rattle.file_peers.proofs.drop.deliver.Goals as goal

pub returns-in-Refused-clause-delivers : goal.returns-in-Refused-clause-delivers
returns-in-Refused-clause-delivers g c =
    let a = c.in-Refused.ensures.asks in
    (record { looks = a.0.looks; sent = a.1; printed = [] }, (a.0, (a.2.0, a.2.1), refl, refl, refl), a.3, a.4, a.5, Appends-nil _)

pub returns-in-Unanswered-clause-delivers : goal.returns-in-Unanswered-clause-delivers
returns-in-Unanswered-clause-delivers g c =
    let a = c.in-Unanswered.ensures.asks in
    (record { looks = a.0.looks; sent = a.1; printed = [] }, (a.0, (a.2, refl), refl, refl, refl), a.3, a.4, a.5, Appends-nil _)

pub returns-in-Err-clause-delivers : goal.returns-in-Err-clause-delivers
returns-in-Err-clause-delivers g c =
    let a = c.in-Came.ensures.asks in
    (record { looks = a.0.looks; sent = a.1; printed = [] }, (a.0, a.2.0, record { answers = a.2.1; looks = refl; sent = a.2.3 }, c.in-Err.ensures.cause, refl), a.3, a.4, a.5, Appends-nil _)

pub returns-then-print_ended-clause-delivers : goal.returns-then-print_ended-clause-delivers
returns-then-print_ended-clause-delivers g c =
    let a = c.in-Came.ensures.asks in (
      record { looks = a.0.looks; sent = a.1; printed = _ },
      (a.0, a.2.0, record { answers = a.2.1; looks = refl; sent = a.2.3 }, ap (ended_line c.args.frame.now.session) c.in-Ok.ensures.sent, (c.in-Ok.ensures.ask.0, c.in-Ok.ensures.ask.1 ∙ ap (λ k. k + 1) c.requires.number)),
      a.3,
      a.4,
      a.5,
      whole_printed _ _ _ _ c.if-print_ended.true c.print_ended.ensures.printed,
    )

pub returns-else-print_ended-clause-delivers : goal.returns-else-print_ended-clause-delivers
returns-else-print_ended-clause-delivers g c =
    let a = c.in-Came.ensures.asks in
    let p = c.print_ended.ensures.printed in (
      record { looks = a.0.looks; sent = a.1; printed = p.0 },
      (a.0, a.2.0, record { answers = a.2.1; looks = refl; sent = a.2.3 }, ((p.1.0, ap (ended_line c.args.frame.now.session) (sym c.in-Ok.ensures.sent) ∙ p.1.1), c.print_ended.ensures.failed c.if-print_ended.false), (c.in-Ok.ensures.ask.0, c.in-Ok.ensures.ask.1 ∙ ap (λ k. k + 1) c.requires.number)),
      a.3,
      a.4,
      a.5,
      p.3,
    )

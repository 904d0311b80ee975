use Rattle.std.proofs.Common.{[], refl}
use Rattle.std.proofs.KnownBytes.{Appends-nil}
use Rattle.peers.proofs.Outgoing.{whole_printed}
use Rattle.peers.proofs.send.send_message.Goals as goal

pub returns-in-Refused-clause-line : goal.returns-in-Refused-clause-line
returns-in-Refused-clause-line g c =
    let a = c.in-Refused.ensures.asks in (record { wait = a.0; left = c.ask.new.left; sent = a.1; printed = [] }, (a.2.0, a.2.1, refl), refl, a.3, a.4, a.5, Appends-nil _)

pub returns-in-Unanswered-clause-line : goal.returns-in-Unanswered-clause-line
returns-in-Unanswered-clause-line g c =
    let a = c.in-Unanswered.ensures.asks in (record { wait = a.0; left = c.ask.new.left; sent = a.1; printed = [] }, (a.2, refl, refl), refl, a.3, a.4, a.5, Appends-nil _)

pub returns-then-print_ack-clause-line : goal.returns-then-print_ack-clause-line
returns-then-print_ack-clause-line g c =
    let a = c.in-Came.ensures.asks in (
      record { wait = a.0; left = c.ask.new.left; sent = a.1; printed = _ },
      (a.2.0, a.2.1, a.2.3, refl),
      refl,
      a.3,
      a.4,
      a.5,
      whole_printed _ _ _ _ c.if-print_ack.true c.print_ack.ensures.printed,
    )

pub returns-else-print_ack-clause-line : goal.returns-else-print_ack-clause-line
returns-else-print_ack-clause-line g c =
    let a = c.in-Came.ensures.asks in
    let p = c.print_ack.ensures.printed in (
      record { wait = a.0; left = c.ask.new.left; sent = a.1; printed = p.0 },
      (a.2.0, a.2.1, a.2.3, p.1, c.print_ack.ensures.failed c.if-print_ack.false),
      refl,
      a.3,
      a.4,
      a.5,
      p.3,
    )

use Rattle.std.proofs.Common.{◌++◌, Ok, sym, [], arith}
use Rattle.file_peers.specs.declared.drop.DropEnd.TheVariants.{Ended, Looks}
use Rattle.std.proofs.KnownBytes.{Appends-nil, Appends-trans}
use Rattle.pump_link.proofs.Grown.{Draws-nil, Grows-nil}
use Rattle.peers.proofs.Outgoing.{whole_printed}
use Rattle.file_peers.specs.Dropping.{Given, given_line}
use Rattle.file_peers.proofs.Delivering.{turn_delivered}
use Rattle.file_peers.proofs.Giving.{giving_ends, is_given, may_answer, may_ask, rest_ends, rest_longer, telling_ends, turn_rested}
use Rattle.file_peers.proofs.drop.take_turn.Goals as goal

pub returns-in-Err-clause-turn : goal.returns-in-Err-clause-turn
returns-in-Err-clause-turn g c =
    let e = c.in-Err.ensures in (
      record { looks = []; sent = []; printed = [] },
      giving_ends _ _ _ _ _ _ _ _ c.in-Err.fault e.cause (λ tells accepted stands. (e.behind tells accepted stands).0),
      omega arith,
      Draws-nil _,
      Grows-nil _,
      Appends-nil _,
    )

pub returns-in-Done-clause-turn : goal.returns-in-Done-clause-turn
returns-in-Done-clause-turn g c =
    let e = c.in-Ok.ensures in
    let r = c.in-Done.ensures.rests in (
      record { looks = r.0; sent = []; printed = [] },
      turn_rested _ _ g.O.File.Source.faults _ c.take_rest.new.left _ _ c.in-Ok.next c.next.new.into (sym c.in_default.ensures) e.next (λ is. e.idle (λ i. Ok (is i))) e.behind r.0 r.1 (record { link = 0; now_link = 0; out = 0; now_out = 0; other = 0; now_other = 0 }) r.2,
      r.3,
      r.4,
      c.take_rest.ensures.sent,
      Appends-nil _,
    )

pub returns-in-Over-clause-turn : goal.returns-in-Over-clause-turn
returns-in-Over-clause-turn g c =
    let e = c.in-Ok.ensures in
    let r = c.in-Over.ensures.rests in (
      record { looks = r.0; sent = []; printed = [] },
      rest_ends _ _ _ _ _ _ _ c.in-Ok.next c.next.new.into (sym c.in_default.ensures) e.next (λ is. e.idle (λ i. Ok (is i))) e.behind r.0 r.1 _ Ended r.2,
      r.3,
      r.4,
      c.take_rest.ensures.sent,
      Appends-nil _,
    )

pub returns-in-Used-clause-turn : goal.returns-in-Used-clause-turn
returns-in-Used-clause-turn g c =
    let e = c.in-Ok.ensures in
    let r = c.in-Used.ensures.rests in (
      record { looks = r.0; sent = []; printed = [] },
      rest_ends _ _ _ _ _ _ _ c.in-Ok.next c.next.new.into (sym c.in_default.ensures) e.next (λ is. e.idle (λ i. Ok (is i))) e.behind r.0 r.1 _ Looks r.2,
      r.3,
      r.4,
      c.take_rest.ensures.sent,
      Appends-nil _,
    )

pub returns-then-not-print_given-clause-turn : goal.returns-then-not-print_given-clause-turn
returns-then-not-print_given-clause-turn g c =
    let e = c.in-Ok.ensures in
    let p = c.print_given.ensures.printed in
    let given : Given g.row.O.Denot g.row.O-File.Denot = record { next = c.in-Ok.next; payload = c.next.new.into; dropper = c.next.new.self } in (
      record { looks = []; sent = []; printed = p.0 },
      telling_ends _ _ _ _ _ _ given p.0 _ (is_given _ c.args.dropper.now given c.in-Some.number (sym c.in-Some.ensures) e.next e.room) e.behind (p.1, c.print_given.ensures.failed c.if-not-print_given.true),
      omega arith,
      Draws-nil _,
      Grows-nil _,
      p.3,
    )

pub returns-clause-turn : goal.returns-clause-turn
returns-clause-turn g c =
    let e = c.in-Ok.ensures in
    let given : Given g.row.O.Denot g.row.O-File.Denot = record { next = c.in-Ok.next; payload = c.next.new.into; dropper = c.next.new.self } in
    let may = may_answer _ c.args.dropper.now _ c.in-Some.number c.in-Ok.next (sym c.in-Some.ensures) e.next in
    let d = c.deliver.ensures.delivers in
    let whole = whole_printed _ _ _ _ c.if-not-print_given.false c.print_given.ensures.printed in (
      record { looks = d.0.looks; sent = d.0.sent; printed = given_line c.args.frame.now.session c.in-Ok.next ++ d.0.printed },
      turn_delivered _ _ _ _ _ c.args.dropper.now _ given (is_given _ c.args.dropper.now given c.in-Some.number (sym c.in-Some.ensures) e.next e.room) e.behind d.0 _ _ _ _ _ _ c.deliver.result
          (λ i. record { kind = c.requires.kind i; session = c.args.frame.now.session; number = may.2 i; payload = c.next.new.into }) c.print_given.ensures.later d.1 c.deliver.ensures.behind (λ is. (c.deliver.ensures.ask is).1) may.1,
      d.2,
      d.3,
      d.4,
      Appends-trans _ _ _ (given_line c.args.frame.now.session c.in-Ok.next) d.0.printed whole d.5,
    )

pub returns-in-Done-clause-smaller : goal.returns-in-Done-clause-smaller
returns-in-Done-clause-smaller g c = λ is.
    let e = c.in-Ok.ensures in
    let r = c.in-Done.ensures.rests in
    let longer = rest_longer r.0 r.1 r.2 in
    let same = (may_ask _ _ g.O.File.Source.faults c.args.frame.now.session c.take_rest.new.left _ _ c.in-Ok.next c.next.new.into (sym c.in_default.ensures) e.next (λ is. e.idle (λ i. Ok (is i))) e.behind).1 in
    omega (arith, longer, same, r.3)

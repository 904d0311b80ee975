use Rattle.std.proofs.Common.{[], refl, arith}
use Rattle.peers.proofs.SendingLines.{ungreeted, greeted}
use Rattle.peers.proofs.send.send_with.Goals as goal

pub returns-in-Came : goal.returns-in-Came
returns-in-Came g c =
    let e = c.hello-hello.ensures in
    let a = c.in-Came.ensures.asks in
    record {
      sends = greeted c.args.row.now _ _ _ _ _ _ _ _ _ _ _ _ c.hello-hello.result a.2.0 a.0 c.in-Came.first a.1 _ _ _ _ _ _ _ _
          (λ i. record { kind = e.kind i; session = e.session i; number = e.number i; payload = e.payload i }) a.2.1 a.2.2 a.2.3 a.3 a.4 a.5 c.ask.ensures.later c.send_lines.ensures.lines;
      out_later = c.send_lines.ensures.out_later;
    }

pub returns-in-Refused : goal.returns-in-Refused
returns-in-Refused g c =
    let e = c.hello-hello.ensures in
    let a = c.in-Refused.ensures.asks in
    record {
      sends = ungreeted c.args.row.now _ _ _ _ _ _ _ c.hello-hello.result _ _ (record { wait = a.0; left = c.ask.new.left; sent = a.1; printed = [] })
          (λ i. record { kind = e.kind i; session = e.session i; number = e.number i; payload = e.payload i }) (a.2.0, a.2.1, refl) refl a.3 a.4 a.5;
      out_later = omega arith;
    }

pub returns-in-Unanswered : goal.returns-in-Unanswered
returns-in-Unanswered g c =
    let e = c.hello-hello.ensures in
    let a = c.in-Unanswered.ensures.asks in
    record {
      sends = ungreeted c.args.row.now _ _ _ _ _ _ _ c.hello-hello.result _ _ (record { wait = a.0; left = c.ask.new.left; sent = a.1; printed = [] })
          (λ i. record { kind = e.kind i; session = e.session i; number = e.number i; payload = e.payload i }) (a.2, refl, refl) refl a.3 a.4 a.5;
      out_later = omega arith;
    }

use Rattle.std.proofs.Common.{[], Some, None, refl, arith}
use Rattle.std.proofs.KnownBytes.{Consumes-nil}
use Rattle.peers.specs.declared.append.AppendEnd.TheVariants.{Refused}
use Rattle.peers.proofs.Appending.{answer_looks}
use Rattle.peers.proofs.Visiting.{ungreeted, welcome_ends, lines_sent, ready_for, ready_ended}
use Rattle.peers.proofs.append.Appender.visit.Goals as goal

pub returns-in-Refused-clause-visits : goal.returns-in-Refused-clause-visits
returns-in-Refused-clause-visits g c =
    let e = c.hello-hello.ensures in
    let a = c.in-Refused.ensures.asks in
    ungreeted c.args.row.now c.args.self.now _ _ _ _ (g.I.Source.left c.args.script.now) _ c.hello-hello.result (record { wait = a.0; left = c.ask-reply.new.left; sent = a.1 }) _ _ (Some (Refused c.in-Refused.code c.in-Refused.number))
    (λ i. record { kind = e.kind i; session = e.session i; number = e.number i; payload = e.payload i }) a.2 a.3 a.4 a.5 (λ rest. ([], Consumes-nil rest, omega arith)) (λ first. refl)

pub returns-in-Unanswered-clause-visits : goal.returns-in-Unanswered-clause-visits
returns-in-Unanswered-clause-visits g c =
    let e = c.hello-hello.ensures in
    let a = c.in-Unanswered.ensures.asks in
    ungreeted c.args.row.now c.args.self.now _ _ _ _ (g.I.Source.left c.args.script.now) _ c.hello-hello.result (record { wait = a.0; left = c.ask-reply.new.left; sent = a.1 }) _ _ None
    (λ i. record { kind = e.kind i; session = e.session i; number = e.number i; payload = e.payload i }) a.2 a.3 a.4 a.5 (λ rest. refl) (λ first. refl)

pub welcome-requires-clause-few : goal.welcome-requires-clause-few
welcome-requires-clause-few g c = let a = c.in-Came.ensures.asks in omega (arith, c.requires.ready.few, a.3, answer_looks _ _ a.0 a.2.0 a.2.1)

pub returns-in-Some-clause-visits : goal.returns-in-Some-clause-visits
returns-in-Some-clause-visits g c =
    let e = c.hello-hello.ensures in
    let a = c.in-Came.ensures.asks in
    let t = c.in-Some.ensures.takes in
    welcome_ends c.args.row.now c.args.self.now c.ask-reply.new.left _ _ _ _ (g.I.Source.left c.args.script.now) _ _ c.hello-hello.result a.2.0 a.0 c.in-Came.number a.1 _ _ (λ i. record { kind = e.kind i; session = e.session i; number = e.number i; payload = e.payload i }) a.2.1 a.2.2 a.2.3 a.3 a.4 a.5
    c.welcome.new.self t.0 t.1 c.in-Some.end t.2 t.3 t.4

pub returns-in-Some-clause-ready : goal.returns-in-Some-clause-ready
returns-in-Some-clause-ready g c =
    let a = c.in-Came.ensures.asks in
    let t = c.in-Some.ensures.takes in
    ready_ended c.args.self.now c.welcome.new.self c.ask-reply.new.left c.in-Came.number _ t.0 c.in-Some.end c.requires.ready t.2 a.3 (answer_looks _ _ a.0 a.2.0 a.2.1)

pub send_lines-requires : goal.send_lines-requires
send_lines-requires g c =
    let a = c.in-Came.ensures.asks in
    let t = c.in_default.ensures.takes in
    record { ready = ready_for c.args.self.now c.welcome.new.self c.ask-reply.new.left c.in-Came.number _ t.0 c.requires.ready t.2 a.3 (answer_looks _ _ a.0 a.2.0 a.2.1) }

pub returns-clause-visits : goal.returns-clause-visits
returns-clause-visits g c =
    let e = c.hello-hello.ensures in
    let a = c.in-Came.ensures.asks in
    let t = c.in_default.ensures.takes in
    lines_sent c.args.row.now c.args.self.now c.ask-reply.new.left _ _ _ _ (g.I.Source.left c.args.script.now) _ _ c.hello-hello.result a.2.0 a.0 c.in-Came.number a.1 _ _ (λ i. record { kind = e.kind i; session = e.session i; number = e.number i; payload = e.payload i }) a.2.1 a.2.2 a.2.3 a.3 a.4 a.5
    c.welcome.new.self c.send_lines.new.self _ _ _ _ t.0 t.1 _ c.send_lines.result c.requires.session t.2 t.3 t.4 c.ask-reply.ensures.later c.send_lines.ensures.lines

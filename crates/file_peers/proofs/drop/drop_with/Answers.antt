use Rattle.std.proofs.Common.{◌∙◌, refl, arith}
use Rattle.peers.specs.Outputs.{counts}
use Rattle.file_peers.proofs.Greeting.{welcome_few, ungreeted, settle_ends, greeted}
use Rattle.file_peers.proofs.drop.drop_with.Goals as goal

pub returns-in-Refused-clause-drops : goal.returns-in-Refused-clause-drops
returns-in-Refused-clause-drops g c =
    let e = c.hello-hello.ensures in
    let a = c.in-Refused.ensures.asks in
    ungreeted _ _ g.O.File.Source.faults c.args.row.now _ c.ask.new.left _ _ _ _ _ c.args.dropper.now c.hello-hello.result
    (λ i. record { kind = e.kind i; session = e.session i; number = e.number i; payload = e.payload i }) a.0 a.1 a.3 a.4 a.5 _ _ (a.2.0, a.2.1)

pub returns-in-Unanswered-clause-drops : goal.returns-in-Unanswered-clause-drops
returns-in-Unanswered-clause-drops g c =
    let e = c.hello-hello.ensures in
    let a = c.in-Unanswered.ensures.asks in
    ungreeted _ _ g.O.File.Source.faults c.args.row.now _ c.ask.new.left _ _ _ _ _ c.args.dropper.now c.hello-hello.result
    (λ i. record { kind = e.kind i; session = e.session i; number = e.number i; payload = e.payload i }) a.0 a.1 a.3 a.4 a.5 _ _ (a.2, refl)

pub settle-requires-clause-few : goal.settle-requires-clause-few
settle-requires-clause-few g c =
    let a = c.in-Came.ensures.asks in
    let few = welcome_few _ a.0 a.2.0 a.2.1 in
    omega (arith, few, a.2.2)

pub returns-in-Some-clause-drops : goal.returns-in-Some-clause-drops
returns-in-Some-clause-drops g c =
    let e = c.hello-hello.ensures in
    let a = c.in-Came.ensures.asks in
    let s = c.in-Some.ensures.settles in
    settle_ends _ _ _ c.args.row.now _ c.ask.new.left _ _ _ _ _ c.args.dropper.now c.hello-hello.result
    (λ i. record { kind = e.kind i; session = e.session i; number = e.number i; payload = e.payload i }) a.0 a.1 a.3 a.4 a.5
    a.2.0 a.2.1 a.2.3 _ a.2.2 _ _ s.0 s.2 (counts 0 0 (g.W.Sink.faults c.args.out.now) (g.W.Sink.faults c.settle.new.out)) _ _ _ _ _ c.in-Some.end (omega arith) refl refl s.1

pub returns-clause-drops : goal.returns-clause-drops
returns-clause-drops g c =
    let e = c.hello-hello.ensures in
    let a = c.in-Came.ensures.asks in
    let d = c.in_default.ensures in
    let s = d.settles in
    greeted _ _ _ c.args.row.now _ c.ask.new.left _ _ _ _ _ c.args.dropper.now c.hello-hello.result
    (λ i. record { kind = e.kind i; session = e.session i; number = e.number i; payload = e.payload i }) a.0 a.1 a.3 a.4 a.5
    a.2.0 a.2.1 a.2.3 _ a.2.2 _ _ s.0 s.2 (counts 0 0 0 0) s.1 (d.ask refl).1 (d.message ∙ c.requires.row) _ _ _ _ _ _ _ _ _ _ _ _ c.ask.ensures.later d.out_later c.send_files.ensures.sends

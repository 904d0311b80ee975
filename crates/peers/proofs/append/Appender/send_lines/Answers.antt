use Rattle.std.proofs.Common.{[], refl, sym, ap, subst, arith, None, Some}
use Rattle.std.proofs.KnownBytes.{Consumes-nil}
use Rattle.peers.specs.declared.append.Appender.{Appender}
use Rattle.peers.specs.declared.append.AppendEnd.TheVariants.{Write}
use Rattle.peers.specs.Appender.{IsReady, coming}
use Rattle.peers.proofs.Appending.{answer_looks}
use Rattle.peers.proofs.SendingLines.{unfinished_earlier}
use Rattle.peers.proofs.Streaming.{SoFar, Told, none_so_far, no_line, held, unanswered, acked, unprinted, lawful_data, ready_more}
use Rattle.peers.proofs.append.Appender.send_lines.Goals as goal

pub lines-init : goal.lines-init
lines-init g c = record { so_far = none_so_far _ _ _ _ _; ready = c.requires.ready; link_later = omega arith; source_later = omega arith; out_later = omega arith }

pub returns-in-Some-clause-lines : goal.returns-in-Some-clause-lines
returns-in-Some-clause-lines g c =
    let s = c.in-Some.ensures.holds in
    no_line c.args.self.now c.lines.self c.hold.new.self _ _ _ _ _ _ _ _ c.lines.invariant.so_far c.hold.ensures.keeps s.0 s.1 s.3 _ c.in-Some.end _ _ s.2 s.4

pub ask-reply-requires : goal.ask-reply-requires
ask-reply-requires g c = record { lawful = lawful_data c.hold.new.self.frame c.hold.ensures.ready.kind c.hold.ensures.ready.session (c.hold.ensures.ready.below c.in_default.ensures.holds.2.2) (c.hold.ensures.ready.short c.in_default.ensures.holds.2.2) }

pub returns-in-Refused-clause-lines : goal.returns-in-Refused-clause-lines
returns-in-Refused-clause-lines g c =
    let s = c.in_default.ensures.holds in
    let a = c.in-Refused.ensures.asks in
    let ready = c.hold.ensures.ready in
    let so = held c.args.self.now c.lines.self c.hold.new.self _ _ _ _ _ _ _ _ c.lines.invariant.so_far c.hold.ensures.keeps s.0 s.1 s.3 _ s.2 in
    unanswered c.args.self.now c.hold.new.self c.ask-reply.new.left _ _ _ _ _ _ _ _ _ _ so s.2.2
    (λ i. record { kind = ready.kind i; session = so.session i; number = c.hold.new.self.frame.number; payload = c.hold.new.self.frame.payload }) a.0 a.1 a.3 a.4 a.5 _ _ _ (ready.below s.2.2) a.2 (λ f. f) refl ([], Consumes-nil _, omega arith)

pub returns-in-Unanswered-clause-lines : goal.returns-in-Unanswered-clause-lines
returns-in-Unanswered-clause-lines g c =
    let s = c.in_default.ensures.holds in
    let a = c.in-Unanswered.ensures.asks in
    let ready = c.hold.ensures.ready in
    let so = held c.args.self.now c.lines.self c.hold.new.self _ _ _ _ _ _ _ _ c.lines.invariant.so_far c.hold.ensures.keeps s.0 s.1 s.3 _ s.2 in
    unanswered c.args.self.now c.hold.new.self c.ask-reply.new.left _ _ _ _ _ _ _ _ _ _ so s.2.2
    (λ i. record { kind = ready.kind i; session = so.session i; number = c.hold.new.self.frame.number; payload = c.hold.new.self.frame.payload }) a.0 a.1 a.3 a.4 a.5 (g.C.Link.faults c.args.link.now) _ None (ready.below s.2.2)
    (unfinished_earlier _ _ _ _ _ _ _ _ _ c.lines.invariant.link_later a.2) (λ f. f) refl refl

pub acknowledge-requires-clause-few : goal.acknowledge-requires-clause-few
acknowledge-requires-clause-few g c = let a = c.in-Came.ensures.asks in omega (arith, c.hold.ensures.ready.few, a.3, answer_looks _ _ a.0 a.2.0 a.2.1)

pub returns-then-not-acknowledge-clause-lines : goal.returns-then-not-acknowledge-clause-lines
returns-then-not-acknowledge-clause-lines g c =
    let s = c.in_default.ensures.holds in
    let a = c.in-Came.ensures.asks in
    let ready = c.hold.ensures.ready in
    let so = held c.args.self.now c.lines.self c.hold.new.self _ _ _ _ _ _ _ _ c.lines.invariant.so_far c.hold.ensures.keeps s.0 s.1 s.3 _ s.2 in
    subst
    (λ (n : Appender). Told c.args.self.now n (g.C.Link.gives c.args.link.now) (g.C.Link.gives c.ask-reply.new.link) (g.C.Link.sent c.args.link.now) (g.C.Link.sent c.ask-reply.new.link)
    (coming c.args.self.now (g.I.Source.left c.args.script.now)) (coming n (g.I.Source.left c.hold.new.script)) (g.O.Sink.written c.args.out.now) (g.O.Sink.written c.acknowledge.new.out)
    (g.C.Link.faults c.args.link.now) (g.C.Link.faults c.ask-reply.new.link) (Some Write))
    (sym c.acknowledge.ensures.after)
    (unprinted c.args.self.now c.hold.new.self c.ask-reply.new.left _ _ _ _ _ _ _ _ _ _ so s.2.2
    (λ i. record { kind = ready.kind i; session = so.session i; number = c.hold.new.self.frame.number; payload = c.hold.new.self.frame.payload }) a.0 a.1 a.3 a.4 a.5 a.2.0 a.2.1 a.2.3 _ _ _
    (rw c.if-not-acknowledge.true at c.acknowledge.ensures.printed) ([], Consumes-nil _, omega arith))

pub returns-then-not-acknowledge-clause-ready : goal.returns-then-not-acknowledge-clause-ready
returns-then-not-acknowledge-clause-ready g c =
    let a = c.in-Came.ensures.asks in subst IsReady (sym c.acknowledge.ensures.after) (ready_more c.hold.new.self _ _ c.hold.ensures.ready a.3 (answer_looks _ _ a.0 a.2.0 a.2.1))

pub lines-smaller : goal.lines-smaller
lines-smaller g c =
    let a = c.in-Came.ensures.asks in
    let left_is = ap (λ (n : Appender). n.left) c.acknowledge.ensures.after in omega (arith, left_is, a.3, c.hold.ensures.keeps.left, answer_looks _ _ a.0 a.2.0 a.2.1)

pub lines-preserved : goal.lines-preserved
lines-preserved g c =
    let was = c.lines.invariant in
    let s = c.in_default.ensures.holds in
    let a = c.in-Came.ensures.asks in
    let ready = c.hold.ensures.ready in
    let so = held c.args.self.now c.lines.self c.hold.new.self _ _ _ _ _ _ _ _ was.so_far c.hold.ensures.keeps s.0 s.1 s.3 _ s.2 in
    record {
      so_far = subst
          (λ (n : Appender). SoFar c.args.self.now n (g.C.Link.gives c.args.link.now) (g.C.Link.gives c.ask-reply.new.link) (g.C.Link.sent c.args.link.now) (g.C.Link.sent c.ask-reply.new.link)
          (coming c.args.self.now (g.I.Source.left c.args.script.now)) (coming n (g.I.Source.left c.hold.new.script)) (g.O.Sink.written c.args.out.now) (g.O.Sink.written c.acknowledge.new.out))
          (sym c.acknowledge.ensures.after)
          (acked c.args.self.now c.hold.new.self c.ask-reply.new.left _ _ _ _ _ _ _ _ _ _ so s.2.2
          (λ i. record { kind = ready.kind i; session = so.session i; number = c.hold.new.self.frame.number; payload = c.hold.new.self.frame.payload }) a.0 a.1 a.3 a.4 a.5 a.2.0 a.2.1 a.2.3 _
          (rw c.if-not-acknowledge.false at c.acknowledge.ensures.printed));
      ready = subst IsReady (sym c.acknowledge.ensures.after) (ready_more c.hold.new.self _ _ ready a.3 (answer_looks _ _ a.0 a.2.0 a.2.1));
      link_later = omega (arith, was.link_later, c.ask-reply.ensures.later);
      source_later = omega (arith, was.source_later, c.hold.ensures.later);
      out_later = omega (arith, was.out_later, c.acknowledge.ensures.later);
    }

use Rattle.std.proofs.Common.{◌∙◌, sym, ◌∷◌, [], ap, refl, inr, arith}
use Rattle.std.proofs.KnownBytes.{Consumes-nil}
use Rattle.peers.specs.Appending.{flying}
use Rattle.peers.proofs.SendingLines.{comes_some}
use Rattle.peers.proofs.Streaming.{no_flight}
use Rattle.peers.proofs.append.Appender.hold.Goals as goal

pub returns-then-self-ge-LIMIT-clause-holds : goal.returns-then-self-ge-LIMIT-clause-holds
returns-then-self-ge-LIMIT-clause-holds g c =
    let p = c.in-Payload.ensures.next in ([], _, ((c.if-self.false, c.if-self.false, refl), inr (omega (arith, c.if-self-ge-LIMIT.true), comes_some _ _ p.0 p.2)), Consumes-nil _, c.next.ensures.taken)

pub returns-clause-holds : goal.returns-clause-holds
returns-clause-holds g c =
    let p = c.in-Payload.ensures.next in (
      record { payload = c.next.new.payload; text = p.0 } ∷ [],
      _,
      ((p.1, tt), ap (λ f. c.next.new.payload ∷ flying f) (no_flight c.args.self.now.is_held c.args.self.now.frame c.if-self.false), refl, refl),
      p.2,
      ([], Consumes-nil _, omega arith),
    )

pub returns-in-Bad-clause-ready : goal.returns-in-Bad-clause-ready
returns-in-Bad-clause-ready g c = record { kind = c.requires.ready.kind; session = c.requires.ready.session; short = λ held. (let e = sym c.if-self.false ∙ held in cc); below = c.requires.ready.below; ahead = c.next.ensures.ahead; few = c.requires.ready.few }

pub returns-in-End-clause-ready : goal.returns-in-End-clause-ready
returns-in-End-clause-ready g c = record { kind = c.requires.ready.kind; session = c.requires.ready.session; short = λ held. (let e = sym c.if-self.false ∙ held in cc); below = c.requires.ready.below; ahead = c.next.ensures.ahead; few = c.requires.ready.few }

pub returns-in-Failed-clause-ready : goal.returns-in-Failed-clause-ready
returns-in-Failed-clause-ready g c = record { kind = c.requires.ready.kind; session = c.requires.ready.session; short = λ held. (let e = sym c.if-self.false ∙ held in cc); below = c.requires.ready.below; ahead = c.next.ensures.ahead; few = c.requires.ready.few }

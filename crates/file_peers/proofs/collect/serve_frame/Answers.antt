use Rattle.std.proofs.Common.{◌≡◌, ◌∙◌, ◌<◌, [], true, false, refl, sym, subst}
use Rattle.std.proofs.KnownBytes.{Appends-nil}
use Rattle.pump_link.proofs.Grown.{Grows-nil}
use Rattle.peers.specs.Receiving.{is_wanted}
use Rattle.file_peers.specs.Collecting.{Passed, Took, Again}
use Rattle.file_peers.proofs.Taking.{count_is, passed, there, next_ends, turn_answered}
use Rattle.file_peers.proofs.collect.serve_frame.Goals as goal

pub returns-then-not-is_wanted-clause-step : goal.returns-then-not-is_wanted-clause-step
returns-then-not-is_wanted-clause-step g c = λ before has.
    let f = c.args.frame.now in
    let no : is_wanted c.args.row.now f ≡ false = sym c.is_wanted.ensures ∙ c.if-not-is_wanted.true in (
      record { sent = []; printed = [] },
      (Passed f, refl, passed _ _ _ before f _ has no, refl, refl),
      Grows-nil _,
      Appends-nil _,
    )

pub returns-then-number-count-clause-step : goal.returns-then-number-count-clause-step
returns-then-number-count-clause-step g c = λ before has.
    let f = c.args.frame.now in
    let yes : is_wanted c.args.row.now f ≡ true = sym c.is_wanted.ensures ∙ c.if-not-is_wanted.false in
    let is = c.taken-count.ensures ∙ count_is _ _ c.args.row.now before f _ has in (
      record { sent = []; printed = [] },
      (yes, refl, subst (λ n. n < f.number) is c.if-number-count.true, refl, is, (refl, refl)),
      Grows-nil _,
      Appends-nil _,
    )

pub returns-then-number-count-2-clause-step : goal.returns-then-number-count-2-clause-step
returns-then-number-count-2-clause-step g c = λ before has.
    let f = c.args.frame.now in
    let yes : is_wanted c.args.row.now f ≡ true = sym c.is_wanted.ensures ∙ c.if-not-is_wanted.false in
    let is = c.taken-count.ensures ∙ count_is _ _ c.args.row.now before f _ has in
    let a = c.answer.ensures.answers in (
      record { sent = a.0; printed = [] },
      turn_answered _ _ _ before f _ _ (Again f) a.0 [] _ _ _ _ _ refl (there _ _ _ before f _ has yes (subst (λ n. f.number < n) is c.if-number-count-2.true)) refl refl a.1,
      a.2,
      Appends-nil _,
    )

pub returns-in-Some-clause-step : goal.returns-in-Some-clause-step
returns-in-Some-clause-step g c = λ before has.
    let f = c.args.frame.now in
    let yes : is_wanted c.args.row.now f ≡ true = sym c.is_wanted.ensures ∙ c.if-not-is_wanted.false in
    let t = c.in-Some.ensures.takes c.args.row.now before refl yes has in (
      record { sent = []; printed = t.0 },
      next_ends _ _ _ before f _ _ t.0 _ _ _ _ _ t.1,
      Grows-nil _,
      t.2,
    )

pub returns-clause-step : goal.returns-clause-step
returns-clause-step g c = λ before has.
    let f = c.args.frame.now in
    let yes : is_wanted c.args.row.now f ≡ true = sym c.is_wanted.ensures ∙ c.if-not-is_wanted.false in
    let t = c.in_default.ensures.takes c.args.row.now before refl yes has in
    let a = c.answer-2.ensures.answers in (
      record { sent = a.0; printed = t.0 },
      turn_answered _ _ _ before f _ _ (Took f t.1.0) a.0 t.0 _ _ _ _ _ refl t.1.1 refl t.1.2 a.1,
      a.2,
      t.2,
    )

use Rattle.std.proofs.Common.{◌≡◌, ◌++◌, ◌+◌, ◌-◌, ◌∷◌, [], refl, arith}
use Rattle.pump_link.proofs.Grown.{Grows-nil, Grows-then}
use Rattle.pump_link.specs.declared.link.Looked.TheVariants.{Byte, NotYet, Ended, Failed}
use Rattle.file_peers.proofs.Looking.{resting_none, used_up, all_gave, all_count, looked_quiet, looked_byte, looked_frame, looked_bad, looked_ended, looked_failed}
use Rattle.file_peers.proofs.resting.take_rest.Goals as goal
use Rattle.file_peers.proofs.resting.take_rest.Goals.{else-some-eq0-via-then-some-eq0+else-not-begun, else-some-eq0-via-else-some-eq0}

pub looks-init : goal.looks-init
looks-init g c = record { rests = resting_none _ _ _ c.new-reader.ensures.value; sent = Grows-nil _; later = omega arith }

pub returns-then-left-eq0-clause-rests : goal.returns-then-left-eq0-clause-rests
returns-then-left-eq0-clause-rests g c =
    let was = c.looks.invariant.rests in
    (was.heard ++ was.now, was.passed, (used_up _ _ _ _ _ _ _ was, omega (arith, c.if-left-eq0.true)), was.count, was.gave)

pub looks-preserved-in-More : goal.looks-preserved-in-More
looks-preserved-in-More g c =
    let was = c.looks.invariant in
    let fewer : c.looks.left ≡ (c.looks.left - 1) + 1 = omega (arith, c.if-left-eq0.false) in
    record {
      rests = looked_byte _ _ _ _ _ _ _ was.rests (Byte c.in-Byte.byte) (c.looks.left - 1) _ _ fewer c.saturating_sub-some.ensures
          (λ none. elim c.else-some-eq0.branch [ else-some-eq0-via-then-some-eq0+else-not-begun w ↦ w.if-not-begun.false | else-some-eq0-via-else-some-eq0 w ↦ absurd (omega (arith, none, w.if-some-eq0.false)) ])
          c.in-Byte.ensures.gives c.in-Byte.byte refl _ c.in-More.ensures.answer;
      sent = Grows-then _ _ _ [] [] was.sent c.look.ensures.sent;
      later = omega (arith, was.later, c.look.ensures.later);
    }

pub looks-preserved-in-Whole : goal.looks-preserved-in-Whole
looks-preserved-in-Whole g c =
    let was = c.looks.invariant in
    let fewer : c.looks.left ≡ (c.looks.left - 1) + 1 = omega (arith, c.if-left-eq0.false) in
    record {
      rests = looked_frame _ _ _ _ _ _ _ was.rests (Byte c.in-Byte.byte) (c.looks.left - 1) _ _ fewer c.saturating_sub-some.ensures
          (λ none. elim c.else-some-eq0.branch [ else-some-eq0-via-then-some-eq0+else-not-begun w ↦ w.if-not-begun.false | else-some-eq0-via-else-some-eq0 w ↦ absurd (omega (arith, none, w.if-some-eq0.false)) ])
          c.in-Byte.ensures.gives c.in-Byte.byte refl _ c.feed_into.new.into c.in-Whole.ensures.answer;
      sent = Grows-then _ _ _ [] [] was.sent c.look.ensures.sent;
      later = omega (arith, was.later, c.look.ensures.later);
    }

pub looks-preserved : goal.looks-preserved
looks-preserved g c =
    let was = c.looks.invariant in
    let fewer : c.looks.left ≡ (c.looks.left - 1) + 1 = omega (arith, c.if-left-eq0.false) in
    record {
      rests = looked_quiet _ _ _ _ _ _ _ was.rests NotYet (c.looks.left - 1) _ _ fewer c.saturating_sub-some.ensures
          (λ none. elim c.else-some-eq0.branch [ else-some-eq0-via-then-some-eq0+else-not-begun w ↦ w.if-not-begun.false | else-some-eq0-via-else-some-eq0 w ↦ absurd (omega (arith, none, w.if-some-eq0.false)) ])
          c.in-NotYet.ensures.gives refl;
      sent = Grows-then _ _ _ [] [] was.sent c.look.ensures.sent;
      later = omega (arith, was.later, c.look.ensures.later);
    }

pub returns-in-Bad-clause-rests : goal.returns-in-Bad-clause-rests
returns-in-Bad-clause-rests g c =
    let was = c.looks.invariant.rests in
    let fewer : c.looks.left ≡ (c.looks.left - 1) + 1 = omega (arith, c.if-left-eq0.false) in (
      was.heard ++ (was.now ++ Byte c.in-Byte.byte ∷ []),
      was.passed,
      looked_bad _ _ _ _ _ _ _ was c.in-Byte.byte _ c.in-Bad.at _ _ _ c.looks.invariant.later c.in-Bad.ensures.answer,
      all_count _ _ _ _ _ _ _ was (Byte c.in-Byte.byte) (c.looks.left - 1) fewer,
      all_gave _ _ _ _ _ _ _ was (Byte c.in-Byte.byte) _ c.in-Byte.ensures.gives,
    )

pub returns-in-Ended-clause-rests : goal.returns-in-Ended-clause-rests
returns-in-Ended-clause-rests g c =
    let was = c.looks.invariant.rests in
    let fewer : c.looks.left ≡ (c.looks.left - 1) + 1 = omega (arith, c.if-left-eq0.false) in (
      was.heard ++ (was.now ++ Ended ∷ []),
      was.passed,
      looked_ended _ _ _ _ _ _ _ was _ _ _ c.looks.invariant.later,
      all_count _ _ _ _ _ _ _ was Ended (c.looks.left - 1) fewer,
      all_gave _ _ _ _ _ _ _ was Ended _ c.in-Ended.ensures.gives,
    )

pub returns-in-Failed-clause-rests : goal.returns-in-Failed-clause-rests
returns-in-Failed-clause-rests g c =
    let was = c.looks.invariant.rests in
    let fewer : c.looks.left ≡ (c.looks.left - 1) + 1 = omega (arith, c.if-left-eq0.false) in (
      was.heard ++ (was.now ++ Failed ∷ []),
      was.passed,
      looked_failed _ _ _ _ _ _ _ was _ _ _ c.looks.invariant.later (c.in-Failed.ensures.failed refl),
      all_count _ _ _ _ _ _ _ was Failed (c.looks.left - 1) fewer,
      all_gave _ _ _ _ _ _ _ was Failed _ c.in-Failed.ensures.gives,
    )

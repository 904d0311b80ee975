-- What calls of an outbox leave, behind messages that are accepted.
use Rattle.std.proofs.Common.{◌∙◌, ℕ, inl, inr, List, sym, ap, subst, arith}
use Rattle.folders.specs.Outboxes.{Dropping, Standing, Moves, Settled, Is, MayBe}
use Rattle.file_dropper.specs.Leaving.{Fits, Leaves}

module _ {O : Type 0} (m : Dropping O) (tells : m.tells) (accepted : List (List ℕ)) where
  pub leaves_none : (o : O) → Leaves m accepted o o
  leaves_none o = record { later = omega arith; each = λ t s le was. inl was }

  pub leaves_then : (old mid new : O) → Leaves m accepted old mid → Leaves m accepted mid new → Leaves m accepted old new
  leaves_then old mid new f g = record {
    later = omega (arith, f.later, g.later);
    each = λ t s le was. elim (g.each t s (omega (arith, le, f.later)) was) [ inl before ↦ f.each t s le before | inr fits ↦ inr fits ];
  }

  -- a call whose every outcome fits
  pub leaves_by : (step : Standing → Standing → Type 0) (old new : O) → Settled m old → Moves m step old new → ((s : Standing) → step (m.stands old) s → Fits accepted s) → Leaves m accepted old new
  leaves_by step old new settled moves fits = record {
    later = moves.later;
    each = λ t s le was. elim (moves.each tells t s le was) [
      | inl before ↦ inl before
      | inr (d, image, is) ↦ inr (fits s (subst (λ (x : Standing). step x s) (settled tells d image) is))
    ];
  }

  -- a call with one outcome
  pub settled_by : (change : Standing → Standing) (old new : O) → Settled m old → Moves m (Is change) old new → Settled m new
  settled_by change old new settled moves = λ tells s image.
      let (d, was, is) = moves.now tells s image in
      is ∙ ap change (settled tells d was) ∙ sym (moves.stands tells)

  pub leaves_is : (change : Standing → Standing) (old new : O) → Settled m old → Moves m (Is change) old new → Fits accepted (change (m.stands old)) → Leaves m accepted old new
  leaves_is change old new settled moves fits = leaves_by (Is change) old new settled moves (λ s is. subst (Fits accepted) (sym is) fits)

  pub leaves_maybe : (change : Standing → Standing) (old new : O) → Settled m old → Moves m (MayBe change) old new → Fits accepted (m.stands old) → Fits accepted (change (m.stands old)) → Leaves m accepted old new
  leaves_maybe change old new settled moves fits then_fits =
      leaves_by (MayBe change) old new settled moves (λ s maybe. elim maybe [ inl is ↦ subst (Fits accepted) (sym is) fits | inr is ↦ subst (Fits accepted) (sym is) then_fits ])

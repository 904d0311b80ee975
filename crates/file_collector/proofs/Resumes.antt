-- What is durable after a part was taken up again.
use Rattle.std.proofs.Common.{◌≡◌, inl, ⊎_elim, ℕ, true, List, Option, None, Some, option_map, IfSome, Result, Ok, refl, sym, ◌∙◌, ap, arith}
use Rattle.folders.specs.Placing.{Placing, Part, Missing, Lying, Given, Turns, IsDurable, is_there, first_of}

pub there_by : (n : ℕ) (p : Part) (x : List ℕ) → Some x ≡ first_of n p → is_there p ≡ true
there_by n Missing x e = absurd (cc e)
there_by n (Lying bytes) x e = refl
there_by n Given x e = absurd (cc e)

pub there_same : {D E : Type 0} (reading : D → List ℕ) (tells : Type 0) (part : Option D) (n : ℕ) (old new : Part) → tells → option_map reading part ≡ first_of n old → IfSome part (λ disk. tells → new ≡ Given)
    → (◌≡◌ {A = Result (Option D) E} (Ok part) (Ok None) → tells → new ≡ old) → is_there new ≡ is_there old
there_same reading tells None n old new told found given left = ap is_there (left refl told)
there_same reading tells (Some d) n old new told found given left = ap is_there (given told) ∙ sym (there_by n old (reading d) found)

module _ {I : Type 0} (m : Placing I) where
  pub turns_none : (i : I) → Turns m (λ names. ⊥) i i
  turns_none i = record { later = omega arith; each = λ told t x le is. inl is; keeps = λ told t x le is. is }

  pub turns_on : (i j k : I) → Turns m (λ names. ⊥) i j → Turns m (λ names. ⊥) j k → Turns m (λ names. ⊥) i k
  turns_on i j k first second = record {
    later = omega (arith, first.later, second.later);
    each = λ told t x le is. ⊎_elim (λ was. first.each told t x le was) (λ no. absurd no) (second.each told t x (omega (arith, le, first.later)) is);
    keeps = λ told t x le was. second.keeps told t x (omega (arith, le, first.later)) (first.keeps told t x le was);
  }

  pub still_durable : (old new : I) → IsDurable m old → Turns m (λ names. ⊥) old new → m.shown new ≡ m.shown old → (m.tells → is_there (m.part new) ≡ is_there (m.part old)) → IsDurable m new
  still_durable old new durable turns shown there = λ told x is.
      let since : m.since new (m.moment old) x = m.counts_now told new (m.moment old) x turns.later is in
      let was : m.since old (m.moment old) x = ⊎_elim (λ s. s) (λ no. absurd no) (turns.each told (m.moment old) x (omega arith) since) in
      let here = durable told x (m.only_now told old x was) in
      here ∙ (λ i. record { shown = sym shown i; has_part = sym (there (m.images_tell told)) i })

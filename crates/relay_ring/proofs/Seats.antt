-- What a call knows of its seat between two steps.
use Rattle.std.proofs.Common.{◌≡◌, ◌≢◌, ℕ, ◌+◌, ◌%◌, List, [], ◌∷◌, length, Some, sym, refl, ap, ◌∙◌, subst, arith}
use Rattle.pump_frame.specs.declared.frame.Item.{Item}
use Rattle.relay_ring.specs.declared.ring.RingView.{RingView}
use Rattle.relay_ring.specs.RingRule.{Mine, HoldsFirst, first_in}

-- a fact of what a seat knows and holds, where it holds just this
pub at_me : {V X : Type 0} (P : V × List X → Type 0) (m : V × List X) (c : List X) → m.1 ≡ c → P (m.0, c) → P m
at_me P m c e p = subst P (λ i. (m.0, sym e i)) p

nil_of : {A : Type 0} (xs : List A) → length xs ≡ 0 → xs ≡ []
nil_of [] e = refl
nil_of (x ∷ xs) e = absurd (omega (arith, e))

some_of : {A : Type 0} (xs : List A) → length xs ≢ 0 → (x : A) × (ys : List A) × (xs ≡ x ∷ ys)
some_of [] ne = absurd (ne refl)
some_of (x ∷ xs) ne = (x, xs, refl)

-- a high end knows of items where it has not taken up all that it found
pub none_ahead : (taken limit : ℕ) (v : RingView) → limit ≡ taken + length v.ahead → taken ≡ limit → v.ahead ≡ []
none_ahead taken limit v is e = nil_of v.ahead (omega (arith, is, e))

pub some_ahead : (taken limit : ℕ) (v : RingView) → limit ≡ taken + length v.ahead → taken ≢ limit → (x : Item) × (xs : List Item) × (v.ahead ≡ x ∷ xs)
some_ahead taken limit v is ne = some_of v.ahead (λ e. ne (omega (arith, is, e)))

-- .. and then it has the slot of the first
pub slot_of_first : (places taken : ℕ) (m : Mine) (x : Item) (xs : List Item) → m.0.ahead ≡ x ∷ xs → HoldsFirst places m → taken ≡ length m.0.taken → m.1 ≡ (taken % places, Some x) ∷ []
slot_of_first places taken m x xs e holds count = holds ∙ ap (first_in (length m.0.taken % places)) e ∙ ap (λ (z : ℕ). (z % places, Some x) ∷ []) (sym count)

-- A fact of each view, where one view changes or comes; and of each try, where one may come.
use Rattle.std.proofs.Common.{◌≡◌, ◌≢◌, ℕ, ◌⊎◌, inl, inr, zero, suc, Bool, true, false, List, [], ◌∷◌, ◌++◌, length, set, sym, refl, ap, subst, ⊎_elim, if◌then◌else◌, append-nil}
use Rattle.std.specs.List.{All}
use Rattle.pump_core.proofs.PassageSteps.{all_snoc}
use mathlib.Core.Option.{some, some-ne-none, some-injective}
use lib.ListN.{get_elem?}
use Rattle.atomic_table.proofs.Lists.{at_set}

module _ {V : Type 0} where
  abbrev pub Each : (ℕ → V → Type 0) → List V → Type 0
  Each F views = (pass : ℕ) (v : V) → get_elem? views pass ≡ some v → F pass v

  pub each_set : (F : ℕ → V → Type 0) (views : List V) (pass : ℕ) (w : V) → F pass w → ((j : ℕ) (u : V) → j ≢ pass → get_elem? views j ≡ some u → F j u) → Each F (set views pass w)
  each_set F views pass w mine others j u e = ⊎_elim (λ (x : (j ≡ pass) × (w ≡ u)). subst (λ (y : ℕ × V). F y.0 y.1) (λ i. (sym x.0 i, x.1 i)) mine)
      (λ (x : (j ≢ pass) × (get_elem? views j ≡ some u)). others j u x.0 x.1) (at_set views pass j w u e)

  -- the new view stands at the end
  at_end : (l : List V) (a b : V) (j : ℕ) → get_elem? (l ++ a ∷ []) j ≡ some b → (get_elem? l j ≡ some b) ⊎ ((j ≡ length l) × (a ≡ b))
  at_end [] a b zero e = inr (refl, some-injective a b e)
  at_end [] a b (suc j) e = absurd (some-ne-none b (sym e))
  at_end (x ∷ xs) a b zero e = inl e
  at_end (x ∷ xs) a b (suc j) e = ⊎_elim (λ t. inl t) (λ t. inr (ap suc t.0, t.1)) (at_end xs a b j e)

  pub each_snoc : (F : ℕ → V → Type 0) (views : List V) (w : V) → Each F views → F (length views) w → Each F (views ++ w ∷ [])
  each_snoc F views w old new j u e = ⊎_elim (λ (x : get_elem? views j ≡ some u). old j u x)
      (λ (x : (j ≡ length views) × (w ≡ u)). subst (λ (y : ℕ × V). F y.0 y.1) (λ i. (sym x.0 i, x.1 i)) new) (at_end views w u j e)

  -- two views change
  pub was : (views : List V) (pass other : ℕ) (v w : V) → ¬ (other ≡ pass) → get_elem? (set views pass v) other ≡ some w → get_elem? views other ≡ some w
  was views pass other v w two e = ⊎_elim (λ x. absurd (two x.0)) (λ x. x.1) (at_set views pass other v w e)

  pub each_alone : (F : ℕ → V → Type 0) (w : V) → F 0 w → Each F (w ∷ [])
  each_alone F w f zero u e = subst (F zero) (some-injective w u e) f
  each_alone F w f (suc j) u e = absurd (some-ne-none u (sym e))

-- a try is told, or none
pub all_maybe : {X : Type 0} (P : X → Type 0) (xs : List X) (x : X) (b : Bool) → All P xs → P x → All P (xs ++ (if b then x ∷ [] else []))
all_maybe P xs x true h p = all_snoc P xs x h p
all_maybe P xs x false h p = subst (All P) (sym (append-nil xs)) h

-- Which names are free once one file more is shown.
use Rattle.std.proofs.Common.{◌≡◌, ℕ, Bool, true, false, not, ◌||◌, List, [], ◌∷◌, ◌++◌, refl, sym, ◌∙◌, ap}
use Rattle.std.specs.List.{list_any}
use Rattle.std.specs.Str.{bytes_eq}
use Rattle.std.proofs.lemmas.Slice.Eq.{bytes_eq-Decides}
use Rattle.folders.specs.declared.mem_inbox.Entry.{Entry}

or_false : (b : Bool) → (b || false) ≡ b
or_false true = refl
or_false false = refl

or_assoc : (a b c : Bool) → (a || (b || c)) ≡ ((a || b) || c)
or_assoc true b c = refl
or_assoc false b c = refl

any_on : {X : Type 0} (p : X → Bool) (xs : List X) (x : X) → list_any p (xs ++ x ∷ []) ≡ (list_any p xs || p x)
any_on p [] x = or_false (p x)
any_on p (y ∷ xs) x = ap (λ b. p y || b) (any_on p xs x) ∙ or_assoc (p y) (list_any p xs) (p x)

not_true : (b : Bool) → (b ≡ true → ⊥) → b ≡ false
not_true true h = absurd (h refl)
not_true false h = refl

or_true : (a b : Bool) → ((a || true) || b) ≡ true
or_true true b = refl
or_true false b = refl

-- the name is taken
pub taken_now : {D : Type 0} (shown now : List (Entry D)) (e : Entry D) (others : Bool) (name : List ℕ) → now ≡ shown ++ e ∷ [] → e.name.bytes ≡ name
    → not (list_any (λ x. bytes_eq x.name.bytes name) now || others) ≡ false
taken_now shown now e others name is named =
    ap (λ l. not (list_any (λ x. bytes_eq x.name.bytes name) l || others)) is
    ∙ ap (λ b. not (b || others)) (any_on (λ x. bytes_eq x.name.bytes name) shown e)
    ∙ ap (λ b. not ((list_any (λ x. bytes_eq x.name.bytes name) shown || b) || others)) ((bytes_eq-Decides e.name.bytes name).1 named)
    ∙ ap not (or_true (list_any (λ x. bytes_eq x.name.bytes name) shown) others)

-- another name is as free as it was
pub free_as_before : {D : Type 0} (shown now : List (Entry D)) (e : Entry D) (others : Bool) (name other : List ℕ) → now ≡ shown ++ e ∷ [] → e.name.bytes ≡ name → (other ≡ name → ⊥)
    → not (list_any (λ x. bytes_eq x.name.bytes other) now || others) ≡ not (list_any (λ x. bytes_eq x.name.bytes other) shown || others)
free_as_before shown now e others name other is named differ =
    ap (λ l. not (list_any (λ x. bytes_eq x.name.bytes other) l || others)) is
    ∙ ap (λ b. not (b || others)) (any_on (λ x. bytes_eq x.name.bytes other) shown e)
    ∙ ap (λ b. not ((list_any (λ x. bytes_eq x.name.bytes other) shown || b) || others))
    (not_true (bytes_eq e.name.bytes other) (λ h. differ (sym ((bytes_eq-Decides e.name.bytes other).0 h) ∙ named)))
    ∙ ap (λ b. not (b || others)) (or_false (list_any (λ x. bytes_eq x.name.bytes other) shown))

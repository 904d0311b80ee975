-- Prefixes of lists.
use Rattle.std.proofs.Common.{◌≡◌, ℕ, zero, suc, Bool, true, false, List, [], ◌∷◌, ◌++◌, length, slice_get, Option, Some, None, refl, sym, ap, ◌∙◌, subst, append_assoc, append-nil}
use Rattle.pump_frame.specs.declared.payload.Payload.{Payload}
use Rattle.pump_core.specs.Events.{with_kept}
use Rattle.pump_core.specs.Lawful.{IsPrefixOf}

pub prefix_same : (xs ys : List Payload) → xs ≡ ys → IsPrefixOf xs ys
prefix_same xs ys e = ([], append-nil xs ∙ e)

pub prefix_more : (xs more : List Payload) → IsPrefixOf xs (xs ++ more)
prefix_more xs more = (more, refl)

pub prefix_then : (xs ys zs : List Payload) → IsPrefixOf xs ys → IsPrefixOf ys zs → IsPrefixOf xs zs
prefix_then xs ys zs (a, e) (b, f) = (a ++ b, sym (append_assoc xs a b) ∙ ap (λ (l : List Payload). l ++ b) e ∙ f)

-- a list with what is kept
pub kept_prefix : (kept : Bool) (o : Option Payload) (ps : List Payload) → IsPrefixOf ps (with_kept kept o ps)
kept_prefix true (Some p) ps = prefix_more ps (p ∷ [])
kept_prefix true None ps = prefix_same ps ps refl
kept_prefix false o ps = prefix_same ps ps refl

pub kept_most : (kept : Bool) (o : Option Payload) (ps : List Payload) → IsPrefixOf (with_kept kept o ps) (with_kept true o ps)
kept_most true o ps = prefix_same _ _ refl
kept_most false o ps = kept_prefix true o ps

-- what stands in a prefix stands in the list
pub in_longer : (xs ys : List Payload) (n : ℕ) (x : Payload) → IsPrefixOf xs ys → slice_get xs n ≡ Some x → slice_get ys n ≡ Some x
in_longer xs ys n x (more, e) at = subst (λ (l : List Payload). slice_get l n ≡ Some x) e (later xs n at)
  where
    later : (xs : List Payload) (n : ℕ) → slice_get xs n ≡ Some x → slice_get (xs ++ more) n ≡ Some x
    later [] n at = absurd (cc)
    later (y ∷ xs) zero at = at
    later (y ∷ xs) (suc n) at = later xs n at

-- the element behind a prefix makes it longer by one
pub prefix_next : (xs ys : List Payload) (x : Payload) → IsPrefixOf xs ys → slice_get ys (length xs) ≡ Some x → IsPrefixOf (xs ++ x ∷ []) ys
prefix_next xs ys x (more, e) at = by xs ys more e at
  where
    by : (xs ys more : List Payload) → xs ++ more ≡ ys → slice_get ys (length xs) ≡ Some x → IsPrefixOf (xs ++ x ∷ []) ys
    by [] [] more e at = absurd (cc)
    by [] (y ∷ ys) more e at = (let same : y ≡ x = cc in (ys, ap (λ z. z ∷ ys) (sym same)))
    by (z ∷ xs) [] more e at = absurd (cc)
    by (z ∷ xs) (y ∷ ys) more e at =
        let head : z ≡ y = cc in
        let tail : xs ++ more ≡ ys = cc in
        let (rest, f) = by xs ys more tail at in
        (rest, λ i. head i ∷ f i)

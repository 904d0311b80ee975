-- The words of a table, and the slots by their places.
use Rattle.std.proofs.Common.{◌≡◌, ◌≢◌, ℕ, ◌+◌, ◌%◌, ◌≤◌, ◌<◌, ◌⊎◌, inl, inr, zero, suc, Bool, true, false, List, [], ◌∷◌, ◌++◌, length, set, slice_get, slice_index, Option, Some, MatchBool, sym, refl, ap, ◌∙◌, subst, ⊎_elim, arith}
use Rattle.std.proofs.lemmas.Bool.{cases_lt}
use Rattle.std.proofs.lemmas.List.{set-get_or, get_or-set_same, get_or-set_other}
use Rattle.std.proofs.Math.Nat.{add-mul-mod_self_right}
use mathlib.Core.Option.{some}
use lib.ListN.{get_elem?}
use Rattle.atomic_table.proofs.Lists.{one_turn, set_here, set_else}
use Rattle.pump_frame.specs.declared.frame.Item.{Item}
use Rattle.relay_ring.specs.RingRule.{IsHome}

-- a word that is stored has the number, and no other word changes
pub word_set : (ws : List ℕ) (i n : ℕ) → i < length ws → slice_index (set ws i n) i ≡ n
word_set ws i n lt = get_or-set_same ws i n 0 lt

pub word_else : (ws : List ℕ) (i j n : ℕ) → j ≢ i → slice_index (set ws i n) j ≡ slice_index ws j
word_else ws i j n ne = get_or-set_other ws i j n 0 ne

-- a load changes no word
pub word_kept : (ws : List ℕ) (i : ℕ) → set ws i (slice_index ws i) ≡ ws
word_kept ws i = set-get_or ws i 0

-- two places of one turn have two slots
pub apart : (n lo a b : ℕ) → lo ≤ a → a < lo + n → lo ≤ b → b < lo + n → a ≢ b → a % n ≢ b % n
apart n lo a b la ua lb ub ne e = ⊎_elim (λ (lt : a < b). ne (one_turn a b n (omega (arith, lt)) (omega (arith, la, ub)) e)) (λ (ge : b ≤ a). ne (sym (one_turn b a n ge (omega (arith, lb, ua)) (sym e)))) (cases_lt a b)

pub same_or_not : (a b : ℕ) → (a ≡ b) ⊎ (a ≢ b)
same_or_not a b = ⊎_elim (λ (lt : a < b). inr (λ e. omega (arith, lt, e))) (λ (ge : b ≤ a). ⊎_elim (λ (lt : b < a). inr (λ e. omega (arith, lt, e))) (λ (le : a ≤ b). inl (omega (arith, ge, le))) (cases_lt b a)) (cases_lt a b)

-- one turn on is the same slot
pub around : (a n : ℕ) → (a + n) % n ≡ a % n
around a n = subst (λ z. (a + z) % n ≡ a % n) (omega arith) (add-mul-mod_self_right a 1 n)

module _ {A : Type 0} where
  pub get_last : (xs : List A) (x : A) (ys : List A) → slice_get (xs ++ x ∷ ys) (length xs) ≡ Some x
  get_last [] x ys = refl
  get_last (y ∷ zs) x ys = get_last zs x ys

  pub get_other : (xs : List A) (x : A) (p : ℕ) → p ≢ length xs → slice_get (xs ++ x ∷ []) p ≡ slice_get xs p
  get_other [] x zero ne = absurd (ne refl)
  get_other [] x (suc p) ne = refl
  get_other (y ∷ ys) x zero ne = refl
  get_other (y ∷ ys) x (suc p) ne = get_other ys x p (λ e. ne (ap suc e))

-- a slot other than the one that changes is as it was
pub other_home : (homes : List (mathlib.Core.Option.Option (Option Item))) (n lo p q k : ℕ) (x : mathlib.Core.Option.Option (Option Item)) (sent : List Item)
    → k ≡ q % n → lo ≤ p → p < lo + n → lo ≤ q → q < lo + n → p ≢ q → IsHome homes n sent p → IsHome (set homes k x) n sent p
other_home homes n lo p q k x sent is lp up lq uq ne h = (
  h.0,
  subst (λ (z : ℕ). get_elem? (set homes z x) (p % n) ≡ some (some h.0)) (sym is) (set_else homes (q % n) (p % n) x (apart n lo p q lp up lq uq ne) ∙ h.1),
  h.2,
)

-- the slot that comes back has its value
pub this_home : (homes : List (mathlib.Core.Option.Option (Option Item))) (n q k : ℕ) (y : Option Item) → k ≡ q % n → q % n < length homes
    → get_elem? (set homes k (some y)) (q % n) ≡ some (some y)
this_home homes n q k y is lt = subst (λ (z : ℕ). get_elem? (set homes z (some y)) (q % n) ≡ some (some y)) (sym is) (set_here homes (q % n) (some y) lt)

-- one fact or the other, by what is tested
pub match_bool : (b c : Bool) (A B : Type 0) → b ≡ c → MatchBool c A B → MatchBool b A B
match_bool b c A B e m = subst (λ z. MatchBool z A B) (sym e) m

pub when_true : (b : Bool) (A B : Type 0) → b ≡ true → MatchBool b A B → A
when_true b A B e m = subst (λ z. MatchBool z A B) e m

pub when_false : (b : Bool) (A B : Type 0) → b ≡ false → MatchBool b A B → B
when_false b A B e m = subst (λ z. MatchBool z A B) e m

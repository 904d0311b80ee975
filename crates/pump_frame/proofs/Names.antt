-- The colon of a HELLO's payload is its first one.
use Rattle.std.proofs.Common.{◌≡◌, ◌≢◌, ℕ, ◌+◌, ◌<◌, IsTrue, List, [], ◌∷◌, ◌++◌, length, get_or, take, drop, refl, sym, ap, ◌∙◌, subst, arith, zero, suc, inl, inr}
use Rattle.std.proofs.lemmas.Bool.{cases_order, and_parts}
use Rattle.std.proofs.lemmas.Bool.Decides.{nat_tests}
use Rattle.std.proofs.lemmas.List.{length-append, get_or_at, take_at, drop_at, append_assoc, get_or_append_left, take-append-drop, drop_more}
use Rattle.std.specs.List.{list_all}
use Rattle.pump_frame.specs.Names.{IsName, is_name_byte}
use Rattle.pump_frame.specs.Frames.{AreNames, greeting}

plain_at : (bytes : List ℕ) (k : ℕ) → IsTrue (list_all is_name_byte bytes) → k < length bytes → get_or bytes k 0 ≢ 58
plain_at [] k plain h e = omega arith
plain_at (b ∷ bytes) zero plain h e =
    let each = and_parts (is_name_byte b) (list_all is_name_byte bytes) plain in
    let first = each.0 in
    grind (arith, nat_tests)
plain_at (b ∷ bytes) (suc k) plain h e = plain_at bytes k (and_parts (is_name_byte b) (list_all is_name_byte bytes) plain).1 (omega arith) e

-- no name has a colon, so the first colon stands behind the low name
pub colon_at : (low high : List ℕ) (i : ℕ) → IsName low → get_or (greeting low high) i 0 ≡ 58 → ((k : ℕ) → k < i → get_or (greeting low high) k 0 ≢ 58) → i ≡ length low
colon_at low high i name here first =
    elim (cases_order i (length low)) [
      | inl e ↦ e
      | inr (inl l) ↦ absurd (plain_at low i name.plain l (sym (get_or_append_left low (58 ∷ high) 0 i l) ∙ here))
      | inr (inr l) ↦ absurd (first (length low) l (get_or_at low 58 high 0 (length low) refl))
    ]

pub colon_there : (low high : List ℕ) → ((k : ℕ) → k < length (greeting low high) → get_or (greeting low high) k 0 ≢ 58) → ⊥
colon_there low high none =
    none (length low) (omega (arith, length-append low (58 ∷ high))) (get_or_at low 58 high 0 (length low) refl)

pub colon_nowhere : (bytes : List ℕ) → AreNames bytes → ((k : ℕ) → k < length bytes → get_or bytes k 0 ≢ 58) → ⊥
colon_nowhere bytes (low, high, is_low, is_high, e) none =
    colon_there low high (subst (λ (x : List ℕ). (k : ℕ) → k < length x → get_or x k 0 ≢ 58) e none)

-- the parts on both sides of that colon are the names
pub names_at : (bytes : List ℕ) (i : ℕ) → get_or bytes i 0 ≡ 58 → ((k : ℕ) → k < i → get_or bytes k 0 ≢ 58) → AreNames bytes → IsName (take i bytes) × IsName (drop (i + 1) bytes)
names_at bytes i here first (low, high, is_low, is_high, e) =
    let at_greeting : (get_or (greeting low high) i 0 ≡ 58) × ((k : ℕ) → k < i → get_or (greeting low high) k 0 ≢ 58) = subst (λ (x : List ℕ). (get_or x i 0 ≡ 58) × ((k : ℕ) → k < i → get_or x k 0 ≢ 58)) e (here, first) in
    let place = colon_at low high i is_low at_greeting.0 at_greeting.1 in
    let prefix : take i bytes ≡ low = rw e (take_at low (58 ∷ high) i (sym place)) in
    let back : drop (i + 1) bytes ≡ high = rw (e, ← append_assoc low (58 ∷ []) high) (drop_at (low ++ 58 ∷ []) high (i + 1) (rw (length-append low (58 ∷ [])) (omega arith))) in
    (rw prefix is_low, rw back is_high)

-- two names round a colon
pub names_split : (bytes : List ℕ) (i : ℕ) → i < length bytes → get_or bytes i 0 ≡ 58 → IsName (take i bytes) → IsName (drop (i + 1) bytes) → AreNames bytes
names_split bytes i within here low high =
    (take i bytes, drop (i + 1) bytes, low, high, sym (take-append-drop i bytes) ∙ ap (λ (x : List ℕ). take i bytes ++ x) (drop_more bytes i 0 within ∙ ap (λ (b : ℕ). b ∷ drop (i + 1) bytes) here))

pub names_are_one : (low high low' high' : List ℕ) → IsName low → IsName low' → greeting low high ≡ greeting low' high' → (low ≡ low') × (high ≡ high')
names_are_one low high low' high' a b e =
    let here : get_or (greeting low' high') (length low) 0 ≡ 58 = subst (λ (x : List ℕ). get_or x (length low) 0 ≡ 58) e (get_or_at low 58 high 0 (length low) refl) in
    let before : (k : ℕ) → k < length low → get_or (greeting low' high') k 0 ≢ 58 = λ k l h.
    plain_at low k a.plain l (sym (get_or_append_left low (58 ∷ high) 0 k l) ∙ subst (λ (x : List ℕ). get_or x k 0 ≡ 58) (sym e) h) in
    let place = colon_at low' high' (length low) b here before in
    let prefix : low ≡ low' = sym (take_at low (58 ∷ high) (length low) refl) ∙ ap (λ (x : List ℕ). take (length low) x) e ∙ take_at low' (58 ∷ high') (length low) (sym place) in
    let back : drop (length low) (greeting low high) ≡ drop (length low) (greeting low' high') = ap (λ (x : List ℕ). drop (length low) x) e in
    let left = drop_at low (58 ∷ high) (length low) refl in
    let right = drop_at low' (58 ∷ high') (length low) (sym place) in
    (prefix, cc)

-- What a write to the register may leave.
use Rattle.std.proofs.Common.{◌≡◌, ◌⊎◌, inl, inr, ℕ, zero, suc, ◌+◌, ◌-◌, ◌*◌, ◌%◌, ◌^◌, ◌<◌, ◌≤◌, List, [], ◌∷◌, ◌++◌, length, get_or, take, drop, refl, sym, ◌∙◌, ap, subst, arith, length-append}
use Rattle.std.proofs.lemmas.List.{get_or-drop, get_or-take, get_or_append_left, get_or-append-add, length-take-le, take-take, drop-drop}
use Rattle.byteorder.specs.Endian.{big_bytes}
use Rattle.disk_model.specs.Disk.{Torn, IsWritten}
use Rattle.stable_buffer.specs.Numbers.{number_at}
use Rattle.stable_buffer.specs.Register.{cell_at, place_of, value_of, SameOutside, KeepsValue, MayTurnTo, Selects, HoldsNext}
use Rattle.stable_buffer.proofs.Numbers.{number_at-agree, number_at-written}

module _ (at n : ℕ) (old new : List ℕ) (torn : Torn at n old new) where
  torn_before : (k : ℕ) → k < at → get_or new k 0 ≡ get_or old k 0
  torn_before k lt = sym (get_or-take at new k 0 lt) ∙ ap (λ (l : List ℕ). get_or l k 0) torn.before ∙ get_or-take at old k 0 lt

  torn_after : (k : ℕ) → at + n ≤ k → get_or new k 0 ≡ get_or old k 0
  torn_after k le =
      let e : at + n + (k - (at + n)) ≡ k = omega arith in
      let there : get_or new (at + n + (k - (at + n))) 0 ≡ get_or old (at + n + (k - (at + n))) 0 =
      sym (get_or-drop (at + n) new (k - (at + n)) 0) ∙ ap (λ (l : List ℕ). get_or l (k - (at + n)) 0) torn.after ∙ get_or-drop (at + n) old (k - (at + n)) 0 in
      subst (λ j. get_or new j 0 ≡ get_or old j 0) e there

  -- a number beside the range stays
  pub number_before : (p : ℕ) → p + 8 ≤ at → number_at new p ≡ number_at old p
  number_before p le = number_at-agree new p old p (λ i lt. torn_before (p + i) (omega arith))

  pub number_after : (p : ℕ) → at + n ≤ p → number_at new p ≡ number_at old p
  number_after p le = number_at-agree new p old p (λ i lt. torn_after (p + i) (omega arith))

  pub byte_before : (k : ℕ) → k < at → get_or new k 0 ≡ get_or old k 0
  byte_before = torn_before

  -- a write inside the register keeps what is outside
  pub same_outside : 32 ≤ at → at + n ≤ 80 → 80 ≤ length old → SameOutside old new
  same_outside from to size = record {
    prefix = sym (take-take 32 at new from) ∙ ap (λ (l : List ℕ). take 32 l) torn.before ∙ take-take 32 at old from;
    rest =
        let e : at + n + (80 - (at + n)) ≡ 80 = omega arith in
        let there : drop (at + n + (80 - (at + n))) new ≡ drop (at + n + (80 - (at + n))) old =
        sym (drop-drop (80 - (at + n)) (at + n) new) ∙ ap (λ (l : List ℕ). drop (80 - (at + n)) l) torn.after ∙ drop-drop (80 - (at + n)) (at + n) old in
        subst (λ j. drop j new ≡ drop j old) e there;
    size = omega (arith, torn.no_shorter, torn.no_longer);
  }

-- what is written stands there
holds_inside : (old : List ℕ) (at : ℕ) (bytes new : List ℕ) → at ≤ length old → IsWritten old at bytes new → (k : ℕ) → k < length bytes → get_or new (at + k) 0 ≡ get_or bytes k 0
holds_inside old at bytes new within holds k lt =
    let rest = drop (at + length bytes) old in
    let size : length (take at old) ≡ at = length-take-le at old within in
    let both : length (take at old ++ bytes) ≡ at + length bytes = omega (arith, length-append (take at old) bytes, size) in
    let there : get_or (take at old ++ bytes) (length (take at old) + k) 0 ≡ get_or bytes k 0 = get_or-append-add (take at old) bytes k 0 in
    ap (λ (l : List ℕ). get_or l (at + k) 0) holds
    ∙ get_or_append_left (take at old ++ bytes) rest 0 (at + k) (omega (arith, both))
    ∙ subst (λ j. get_or (take at old ++ bytes) (j + k) 0 ≡ get_or bytes k 0) size there

-- two numbers of which each has its bytes
cell_of_bytes : (a b : List ℕ) (old : List ℕ) (at : ℕ) (new : List ℕ) → length a ≡ 8 → length b ≡ 8 → at ≤ length old → IsWritten old at (a ++ b) new
    → ((i : ℕ) → i < 8 → get_or new (at + i) 0 ≡ get_or a i 0) × ((i : ℕ) → i < 8 → get_or new (at + 8 + i) 0 ≡ get_or b i 0)
cell_of_bytes a b old at new a_size b_size within holds = (
  λ i lt. holds_inside old at (a ++ b) new within holds i (omega (arith, length-append a b)) ∙ get_or_append_left a b 0 i (omega arith),
  λ i lt.
      let e : at + (8 + i) ≡ at + 8 + i = omega arith in
      let there : get_or (a ++ b) (length a + i) 0 ≡ get_or b i 0 = get_or-append-add a b i 0 in
      subst (λ j. get_or new j 0 ≡ get_or b i 0) e
      (holds_inside old at (a ++ b) new within holds (8 + i) (omega (arith, length-append a b)) ∙ subst (λ j. get_or (a ++ b) (j + i) 0 ≡ get_or b i 0) a_size there),
)

-- one number after the other, as they are written
pub cell_written : (x y : ℕ) (old : List ℕ) (at : ℕ) (new : List ℕ) → x < 2 ^ 64 → y < 2 ^ 64 → at ≤ length old → IsWritten old at (big_bytes 8 x ++ big_bytes 8 y) new → cell_at new at ≡ (x, y)
cell_written x y old at new x_fits y_fits within holds =
    let both = cell_of_bytes (big_bytes 8 x) (big_bytes 8 y) old at new refl refl within holds in
    let first : number_at new at ≡ x = number_at-written new at x x_fits both.0 in
    let second : number_at new (at + 8) ≡ y = number_at-written new (at + 8) y y_fits both.1 in (λ i. (first i, second i))

-- a cell beside the range of a write
pub cell_beside : (at n p : ℕ) (old new : List ℕ) → Torn at n old new → (p + 16 ≤ at) ⊎ (at + n ≤ p) → cell_at new p ≡ cell_at old p
cell_beside at n p old new torn (inl before) =
    λ i. (number_before at n old new torn p (omega arith) i, number_before at n old new torn (p + 8) (omega arith) i)
cell_beside at n p old new torn (inr after) =
    λ i. (number_after at n old new torn p (omega arith) i, number_after at n old new torn (p + 8) (omega arith) i)

beside : (parity : ℕ) → parity ≤ 1 → (place_of parity + 16 ≤ place_of (1 - parity)) ⊎ (place_of (1 - parity) + 16 ≤ place_of parity)
beside zero le = inl (omega arith)
beside (suc zero) le = inr (omega arith)
beside (suc (suc n)) le = absurd (omega arith)

-- what a register that selects a cell holds
pub value-selects : (parity first second : ℕ) (disk : List ℕ) → Selects parity first second disk → value_of disk ≡ (first, second)
value-selects parity first second disk is = ap (λ p. cell_at disk (place_of p)) is.selector ∙ is.cell

-- a write of the other cell, as far as a crash lets it come
pub staging : (parity first second : ℕ) (old new : List ℕ) → parity ≤ 1 → Selects parity first second old → Torn (place_of (1 - parity)) 16 old new → Selects parity first second new
staging parity first second old new le was torn = record {
  size = omega (arith, was.size, torn.no_shorter);
  selector = ap (λ b. b % 2) (torn_before (place_of (1 - parity)) 16 old new torn 32 (omega arith)) ∙ was.selector;
  cell = cell_beside (place_of (1 - parity)) 16 (place_of parity) old new torn (beside parity le) ∙ was.cell;
}

pub staging_keeps : (parity first second : ℕ) (old new : List ℕ) → parity ≤ 1 → Selects parity first second old → Torn (place_of (1 - parity)) 16 old new → KeepsValue old new
staging_keeps parity first second old new le was torn = record {
  outside = same_outside (place_of (1 - parity)) 16 old new torn (omega arith) (omega arith) was.size;
  value = value-selects parity first second new (staging parity first second old new le was torn) ∙ sym (value-selects parity first second old was);
}

mod2 : (n : ℕ) → (n % 2 ≡ 0) ⊎ (n % 2 ≡ 1)
mod2 n = grind arith

two_ways : (parity b : ℕ) → parity ≤ 1 → (b % 2 ≡ parity) ⊎ (b % 2 ≡ 1 - parity)
two_ways zero b le = mod2 b
two_ways (suc zero) b le = elim (mod2 b) [ inl even ↦ inr even | inr odd ↦ inl odd ]
two_ways (suc (suc n)) b le = absurd (omega arith)

-- a write of the selector, whatever a crash makes of it
pub committing : (parity first second x y : ℕ) (old new : List ℕ) → parity ≤ 1 → Selects parity first second old → HoldsNext parity x y old → Torn 32 1 old new → MayTurnTo (x, y) old new
committing parity first second x y old new le was next torn = record {
  outside = same_outside 32 1 old new torn (omega arith) (omega arith) was.size;
  value = elim (two_ways parity (get_or new 32 0) le) [
    | inl stays ↦
        inl
        (ap (λ p. cell_at new (place_of p)) stays
        ∙ cell_beside 32 1 (place_of parity) old new torn (inr (omega arith))
        ∙ was.cell
        ∙ sym (value-selects parity first second old was))
    | inr turns ↦
        inr (ap (λ p. cell_at new (place_of p)) turns ∙ cell_beside 32 1 (place_of (1 - parity)) old new torn (inr (omega arith)) ∙ next)
  ];
}

-- the selector is written
pub committed : (parity first second x y : ℕ) (old new : List ℕ) → parity ≤ 1 → Selects parity first second old → HoldsNext parity x y old → IsWritten old 32 ((1 - parity) ∷ []) new → Torn 32 1 old new
    → Selects (1 - parity) x y new
committed parity first second x y old new le was next holds torn = record {
  size = omega (arith, was.size, torn.no_shorter);
  selector = ap (λ b. b % 2) (holds_inside old 32 ((1 - parity) ∷ []) new (omega (arith, was.size)) holds 0 (omega arith)) ∙ flips parity le;
  cell = cell_beside 32 1 (place_of (1 - parity)) old new torn (inr (omega arith)) ∙ next;
}
  where
    flips : (p : ℕ) → p ≤ 1 → (1 - p) % 2 ≡ 1 - p
    flips zero l = refl
    flips (suc zero) l = refl
    flips (suc (suc n)) l = absurd (omega arith)

-- what is read of the register's 48 bytes
pub selects_read : (disk area : List ℕ) (first second : ℕ) → 80 ≤ length disk → area ≡ take 48 (drop 32 disk)
    → first ≡ number_at area (16 + 16 * (get_or area 0 0 % 2)) → second ≡ number_at area (16 + 16 * (get_or area 0 0 % 2) + 8) → Selects (get_or area 0 0 % 2) first second disk
selects_read disk area first second size is first_is second_is = record {
  size = size;
  selector = ap (λ b. b % 2) (sym (byte 0 (omega arith)));
  cell = λ i. (
    (number (48 + 16 * parity) (16 + 16 * parity) (omega arith) (omega arith) ∙ sym first_is) i,
    (number (48 + 16 * parity + 8) (16 + 16 * parity + 8) (omega arith) (omega arith) ∙ sym second_is) i,
  );
}
  where
    byte : (k : ℕ) → k < 48 → get_or area k 0 ≡ get_or disk (32 + k) 0
    byte k lt = ap (λ (l : List ℕ). get_or l k 0) is ∙ get_or-take 48 (drop 32 disk) k 0 lt ∙ get_or-drop 32 disk k 0

    parity : ℕ
    parity = get_or area 0 0 % 2

    number : (q p : ℕ) → q ≡ 32 + p → p + 8 ≤ 48 → number_at disk q ≡ number_at area p
    number q p at le =
        number_at-agree disk q area p (λ i lt. let e : q + i ≡ 32 + (p + i) = omega arith in ap (λ j. get_or disk j 0) e ∙ sym (byte (p + i) (omega arith)))

-- a write beside the register
pub selects_beside : (parity first second at n : ℕ) (old new : List ℕ) → parity ≤ 1 → 80 ≤ at → Selects parity first second old → Torn at n old new → Selects parity first second new
selects_beside parity first second at n old new le beside' was torn = record {
  size = omega (arith, was.size, torn.no_shorter);
  selector = ap (λ b. b % 2) (torn_before at n old new torn 32 (omega arith)) ∙ was.selector;
  cell = cell_beside at n (place_of parity) old new torn (inl (omega arith)) ∙ was.cell;
}

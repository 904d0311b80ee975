-- Numbers that are read from bytes.
use Rattle.std.proofs.Common.{◌≡◌, ℕ, zero, suc, ◌+◌, ◌*◌, ◌^◌, ◌<◌, List, [], get_or, take, drop, refl, sym, ◌∙◌, ap, subst, arith}
use Rattle.std.proofs.lemmas.List.{get_or-drop, get_or-take, append-nil}
use Rattle.byteorder.specs.Endian.{big_from, big_number, big_bytes}
use Rattle.byteorder.specs.Numbers.{big_number-reads_back}
use Rattle.stable_buffer.specs.Numbers.{number_at, length_at}

-- a number depends on its n bytes
big_from-agree : (i n : ℕ) (c d : List ℕ) → ((k : ℕ) → k < n → get_or c (i + k) 0 ≡ get_or d (i + k) 0) → big_from i n c ≡ big_from i n d
big_from-agree i zero c d same = refl
big_from-agree i (suc n) c d same =
    let e : i + 0 ≡ i = omega arith in
    let first : get_or c i 0 ≡ get_or d i 0 = subst (λ j. get_or c j 0 ≡ get_or d j 0) e (same 0 (omega arith)) in
    let rest : big_from (suc i) n c ≡ big_from (suc i) n d =
    big_from-agree (suc i) n c d (λ k lt. let e' : i + suc k ≡ suc i + k = omega arith in subst (λ j. get_or c j 0 ≡ get_or d j 0) e' (same (suc k) (omega arith))) in
    (λ j. first j * 256 ^ n + rest j)

big_number-agree : (n : ℕ) (c : List ℕ) (p : ℕ) (d : List ℕ) (q : ℕ) → ((i : ℕ) → i < n → get_or c (p + i) 0 ≡ get_or d (q + i) 0) → big_number n (drop p c) ≡ big_number n (drop q d)
big_number-agree n c p d q same = big_from-agree 0 n (drop p c) (drop q d)
    (λ k lt. let e : k ≡ 0 + k = omega arith in
    subst (λ j. get_or (drop p c) j 0 ≡ get_or (drop q d) j 0) e (get_or-drop p c k 0 ∙ same k lt ∙ sym (get_or-drop q d k 0)))

-- what the bytes of a number give back
big_number-back : (n x : ℕ) → x < 256 ^ n → big_number n (big_bytes n x) ≡ x
big_number-back n x fits = ap (λ (l : List ℕ). big_number n l) (sym (append-nil (big_bytes n x))) ∙ big_number-reads_back n x [] fits

pub number_at-agree : (c : List ℕ) (p : ℕ) (d : List ℕ) (q : ℕ) → ((i : ℕ) → i < 8 → get_or c (p + i) 0 ≡ get_or d (q + i) 0) → number_at c p ≡ number_at d q
unfolding number_at
number_at-agree c p d q same = big_number-agree 8 c p d q same

number_at-back : (n : ℕ) → n < 2 ^ 64 → number_at (big_bytes 8 n) 0 ≡ n
unfolding number_at
number_at-back n fits = big_number-back 8 n (omega arith)

-- the bytes of a number, wherever they stand
pub number_at-written : (c : List ℕ) (p n : ℕ) → n < 2 ^ 64 → ((i : ℕ) → i < 8 → get_or c (p + i) 0 ≡ get_or (big_bytes 8 n) i 0) → number_at c p ≡ n
number_at-written c p n fits same =
    number_at-agree c p (big_bytes 8 n) 0 (λ i lt. let e : i ≡ 0 + i = omega arith in subst (λ j. get_or c (p + i) 0 ≡ get_or (big_bytes 8 n) j 0) e (same i lt)) ∙ number_at-back n fits

pub length_at-agree : (c : List ℕ) (p : ℕ) (d : List ℕ) (q : ℕ) → ((i : ℕ) → i < 2 → get_or c (p + i) 0 ≡ get_or d (q + i) 0) → length_at c p ≡ length_at d q
unfolding length_at
length_at-agree c p d q same = big_number-agree 2 c p d q same

-- the length that two bytes are, wherever they were read
pub length_at-read : (disk : List ℕ) (at : ℕ) (head : List ℕ) → head ≡ take 2 (drop at disk) → length_at head 0 ≡ length_at disk at
length_at-read disk at head is = length_at-agree head 0 disk at
    (λ i lt. let e : i ≡ 0 + i = omega arith in
    subst (λ j. get_or head j 0 ≡ get_or disk (at + i) 0) e (ap (λ (l : List ℕ). get_or l i 0) is ∙ get_or-take 2 (drop at disk) i 0 lt ∙ get_or-drop at disk i 0))

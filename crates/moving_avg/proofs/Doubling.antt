-- The level of a mean.
use Rattle.std.proofs.Common.{◌≡◌, ℕ, zero, suc, ◌+◌, ◌*◌, ◌/◌, ◌^◌, ◌≤◌, ◌<◌, Bool, true, false, max, if◌then◌else◌, nat_le, nat_lt, pow_mono, le_refl, ◌⊎◌, inl, inr, arith, refl, ap, sym, ◌∙◌}
use Rattle.std.proofs.lemmas.Bool.Decides.{nat_tests}
use native.Mathlib.Nat.{pow-succ'}
use Rattle.pump_frame.specs.Averages.{level_from, level}

doubled : (i : ℕ) → 2 * 2 ^ i ≡ 2 ^ suc i
doubled i = sym (pow-succ' 2 i)

step : (many i mean : ℕ) (b : Bool) → nat_le mean (2 ^ i) ≡ b
    → level_from (suc many) (2 ^ i) mean ≡ (if b then 2 ^ i else level_from many (2 ^ suc i) mean)
unfolding level_from
step many i mean b e =
    ap (λ t. if t then 2 ^ i else level_from many (2 * 2 ^ i) mean) e ∙ ap (λ n. if b then 2 ^ i else level_from many n mean) (doubled i)

-- where all numbers are below
above_all : (many i mean : ℕ) → 2 ^ (i + many) < 2 * mean → level_from many (2 ^ i) mean ≡ 10 ^ 9
unfolding level_from
above_all zero i mean below = refl
above_all (suc many) i mean below =
    let next : suc i + many ≡ i + suc many = omega arith in
    let most : 2 ^ suc i ≤ 2 ^ (i + suc many) = pow_mono (omega arith) in
    let low : 2 ^ i < mean = omega (arith, doubled i, most, below) in
    let less : nat_le mean (2 ^ i) ≡ false = grind (arith, nat_tests) in
    step many i mean false less ∙ above_all many (suc i) mean (rw next below)

-- the first that is not below
found : (k many i mean q : ℕ) → k < many → q ≡ 2 ^ (i + k) → mean ≤ q → q / 2 < max (2 ^ i) mean
    → level_from many (2 ^ i) mean ≡ q
found k zero i mean q few is above near = absurd (omega arith)
found zero (suc many) i mean q few is above near =
    let same : q ≡ 2 ^ i = is ∙ ap (λ n. 2 ^ n) (omega arith) in
    let reached : nat_le mean (2 ^ i) ≡ true = grind (arith, nat_tests) in
    step many i mean true reached ∙ sym same
found (suc k) (suc many) i mean q few is above near =
    let most : 2 ^ suc i ≤ 2 ^ (i + suc k) = pow_mono (omega arith) in
    let half : 2 ^ i ≤ q / 2 = omega (arith, doubled i, most, is) in
    let low : 2 ^ i < mean = omega (arith, half, near) in
    let less : nat_le mean (2 ^ i) ≡ false = grind (arith, nat_tests) in
    let nearer : q / 2 < max (2 ^ suc i) mean = omega (arith, half, low, near) in
    step many i mean false less ∙ found k many (suc i) mean q (omega arith) (is ∙ ap (λ n. 2 ^ n) (omega arith)) above nearer

small_or : (k : ℕ) (b : Bool) → nat_lt k 30 ≡ b → 2 ^ k < 2 ^ 30 → k < 30
small_or k true e below = grind (arith, nat_tests)
small_or k false e below =
    let far : 30 ≤ k = grind (arith, nat_tests) in
    let most : 2 ^ 30 ≤ 2 ^ k = pow_mono far in
    absurd (omega (arith, most, below))

pub level_above : (mean : ℕ) → 2 ^ 29 < mean → level mean ≡ 10 ^ 9
unfolding level
level_above mean high = above_all 30 0 mean (omega arith)

-- such a power of two is at most the last of the levels but one
small_power : (k mean q : ℕ) → q ≡ 2 ^ k → mean ≤ 2 ^ 29 → q / 2 < max 1 mean → k < 30
small_power k mean q is low near =
    let below : 2 ^ k < 2 ^ 30 = omega (arith, is, low, near) in
    small_or k (nat_lt k 30) refl below

pub bounded : (k mean q : ℕ) → q ≡ 2 ^ k → mean ≤ 2 ^ 29 → q / 2 < max 1 mean → q ≤ 2 ^ 29
bounded k mean q is low near =
    let few : k ≤ 29 = let f = small_power k mean q is low near in omega arith in
    let most : 2 ^ k ≤ 2 ^ 29 = pow_mono few in
    omega (arith, is, most)

pub level_found : (k mean q : ℕ) → q ≡ 2 ^ k → mean ≤ 2 ^ 29 → mean ≤ q → q / 2 < max 1 mean → level mean ≡ q
unfolding level
level_found k mean q is low above near =
    found k 30 0 mean q (small_power k mean q is low near) (is ∙ ap (λ n. 2 ^ n) (omega arith)) above near

-- a power of two below 2^30, or the greatest level
abbrev IsPower : ℕ → Type 0
IsPower n = ((k : ℕ) × (k < 30) × (n ≡ 2 ^ k)) ⊎ (n ≡ 10 ^ 9)

power_by : (many i mean : ℕ) (b : Bool) → i < 30 → nat_le mean (2 ^ i) ≡ b → IsPower (level_from many (2 ^ suc i) mean) → IsPower (level_from (suc many) (2 ^ i) mean)
power_by many i mean true few e later = inl (i, few, step many i mean true e)
power_by many i mean false few e later = elim later [
  | inl (k, below, is) ↦ inl (k, below, step many i mean false e ∙ is)
  | inr is ↦ inr (step many i mean false e ∙ is)
]

-- a level is one of these
level_is : (many i mean : ℕ) → i + many ≤ 30 → IsPower (level_from many (2 ^ i) mean)
unfolding level_from
level_is zero i mean few = inr refl
level_is (suc many) i mean few = power_by many i mean (nat_le mean (2 ^ i)) (omega (arith, few)) refl (level_is many (suc i) mean (omega (arith, few)))

power_stays : (k : ℕ) → k < 30 → level (2 ^ k) ≡ 2 ^ k
power_stays k below =
    let most : 2 ^ k ≤ 2 ^ 29 = pow_mono {j = 29} (omega (arith, below)) in
    let some : 2 ^ 0 ≤ 2 ^ k = pow_mono {i = 0} (omega arith) in
    level_found k (2 ^ k) (2 ^ k) refl most (le_refl (2 ^ k)) (omega (arith, some))

-- a level is its own level
pub own_level : (mean : ℕ) → level (level mean) ≡ level mean
unfolding level
own_level mean = elim (level_is 30 0 mean (omega arith)) [
  | inl (k, below, is) ↦ ap level is ∙ power_stays k below ∙ sym is
  | inr is ↦ ap level is ∙ level_above (10 ^ 9) (omega arith) ∙ sym is
]

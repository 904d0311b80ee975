-- Counts of rounds, over plain variables.
use Rattle.std.proofs.Common.{◌≡◌, ℕ, suc, ◌+◌, ◌≤◌, ◌<◌, arith}

pub none_at_most : (n : ℕ) → 0 ≤ n
none_at_most n = omega arith

pub one_more : (n most : ℕ) → n < most → n + 1 ≤ most
one_more n most lt = omega (arith, lt)

pub same_more : (n size : ℕ) → n ≡ size → n + 1 ≡ suc size
same_more n size e = omega (arith, e)

-- of the rounds that are allowed, one at least is left
pub some_left : (n size most : ℕ) → n ≡ size → n < most → size < most
some_left n size most e lt = omega (arith, e, lt)

pub next_at_most : (n size most : ℕ) → n ≡ size → n < most → suc size ≤ most
next_at_most n size most e lt = omega (arith, e, lt)

-- .. and none is
pub none_left : (n size most : ℕ) → n ≡ size → n ≤ most → most ≤ n → size ≡ most
none_left n size most e le over = omega (arith, e, le, over)

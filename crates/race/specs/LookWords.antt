-- The words of the looks of a race: draws of their own, which begin with the seed.
use Rattle.std.specs.Prelude.{ℕ, zero, suc, ◌+◌}
use Rattle.script_reader.specs.Generated.{drawn}

-- the seed, or the last of so many draws
abbrev pub word_after : ℕ → ℕ → ℕ
word_after seed zero = seed
word_after seed (suc n) = drawn (word_after seed n)

-- the word of the look with this number, from 0
abbrev pub word_of_look : ℕ → ℕ → ℕ
word_of_look seed k = word_after seed (k + 1)

-- A list of times as a word.
use Rattle.std.specs.Prelude.{ℕ, ◌≤◌, ◌^◌, List, [], ◌∷◌, ◌++◌, length, decimal}
use Rattle.std.specs.List.{AllByRecursion}

-- each time is at most 10^9
abbrev pub AreShort : List ℕ → Type 0
AreShort times = AllByRecursion (λ t. t ≤ 10 ^ 9) times

-- 1 to 16 of them
abbrev pub AreTimes : List ℕ → Type 0
AreTimes times = (1 ≤ length times) × (length times ≤ 16) × AreShort times

-- decimal numbers, with a comma between each two
abbrev pub times_word : List ℕ → List ℕ
times_word [] = []
times_word (t ∷ []) = decimal t
times_word (t ∷ u ∷ times) = decimal t ++ 44 ∷ times_word (u ∷ times)

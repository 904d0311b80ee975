-- Delays over all classes of words.
use Rattle.std.specs.Prelude.{◌≡◌, ℕ, ◌*◌, ◌/◌, ◌^◌, ◌≤◌, List, map}
use Rattle.std.specs.List.{All, range_with_len}
use Rattle.pump_frame.specs.Delays.{quantile, class_of}

-- one word of each class, in the order of the classes
abbrev pub IsOfEachClass : List ℕ → Type 0
IsOfEachClass words = map class_of words ≡ range_with_len 0 256

-- no delay of these words reaches the longest
abbrev pub AreUncut : ℕ → ℕ → List ℕ → Type 0
AreUncut average longest words = All (λ word. average * quantile (class_of word) / 2 ^ 24 ≤ longest) words

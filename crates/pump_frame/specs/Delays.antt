-- The delay of an acknowledgement: a quantile of an exponential law with a given mean, in fixed point.
use Rattle.std.specs.Prelude.{ℕ, ◌+◌, ◌-◌, ◌*◌, ◌/◌, ◌^◌, min, map, sum}
use Rattle.std.specs.List.{range_with_len}

-- Rényi's form of the expected order statistics of 256 unit exponentials, times 2^24:
-- the sum of 2^24 / (256 - j), each rounded down, for j from 0 to i
abbrev pub quantile : ℕ → ℕ
quantile i = sum (map (λ j. 2 ^ 24 / (256 - j)) (range_with_len 0 (i + 1)))

-- a word is of one of 256 classes, by its greatest byte
abbrev pub class_of : ℕ → ℕ
class_of word = word / 2 ^ 24

-- the delay, in the unit of the average, cut at the longest
abbrev pub delay_of : ℕ → ℕ → ℕ → ℕ
delay_of average word longest = min longest (average * quantile (class_of word) / 2 ^ 24)

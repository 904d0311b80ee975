-- The classes of averages: what comes down in a coarse session is one of 31.
use Rattle.std.specs.Prelude.{ℕ, zero, suc, ◌*◌, ◌≤◌, nat_le, if◌then◌else◌}

-- how many of so many numbers, each twice the one before, are below this one, up to the first that is not
unfoldable pub class_from : (many first average : ℕ) → ℕ
class_from zero first average = 0
class_from (suc many) first average = if nat_le average first then 0 else suc (class_from many (2 * first) average)

-- the class of an average: how many of the levels 1, 2, 4 and so on to 2^29 are below it
unfoldable pub class_of : ℕ → ℕ
class_of average = class_from 30 1 average

-- a class is a number below 31
abbrev pub ClassesAreFew : Type 0
ClassesAreFew = (average : ℕ) → class_of average ≤ 30

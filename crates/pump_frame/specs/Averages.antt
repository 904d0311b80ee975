-- The moving average of High's times, and what of it comes down to Low.
use Rattle.std.specs.Prelude.{◌≡◌, ℕ, zero, suc, ◌-◌, ◌*◌, ◌/◌, ◌==◌, nat_le, List, length, drop, sum, min}
use Rattle.std.specs.Prelude.{if◌then◌else◌}
use Rattle.pump_frame.specs.declared.averaging.Averaging.{Averaging}
use Rattle.pump_frame.specs.declared.row.SessionRow.{SessionRow}

-- as a row says
abbrev pub averaging_of : SessionRow → Averaging
averaging_of row = record { window = row.window; start = row.start; coarse = row.coarse }

-- the last n of the times
abbrev pub latest : ℕ → List ℕ → List ℕ
latest n times = drop (length times - n) times

-- the start where there is no time, else the mean of the last `window` of them, rounded down
abbrev pub mean_of : Averaging → List ℕ → ℕ
mean_of a times = if length times == 0 then a.start else sum (latest a.window times) / min a.window (length times)

-- so many numbers, each twice the one before: the first that is not below the mean; 10^9 where all are
unfoldable pub level_from : (many first mean : ℕ) → ℕ
level_from zero first mean = 1000000000
level_from (suc many) first mean = if nat_le mean first then first else level_from many (2 * first) mean

-- the levels are 1, 2, 4 and so on to 2^29, and 10^9: the least that is not below the mean
unfoldable pub level : ℕ → ℕ
level mean = level_from 30 1 mean

-- a number is a level where it is its own level
abbrev pub IsLevel : ℕ → Type 0
IsLevel n = level n ≡ n

-- what comes down of a mean: its level in a coarse session, else the mean itself
unfoldable pub down : Averaging → ℕ → ℕ
down a mean = if a.coarse then level mean else mean

-- the average that comes down
abbrev pub average_of : Averaging → List ℕ → ℕ
average_of a times = down a (mean_of a times)

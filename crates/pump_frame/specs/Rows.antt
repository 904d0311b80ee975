-- The ranges of a row's numbers, and what a row permits.
use Rattle.std.specs.Prelude.{◌≡◌, ℕ, nat_le, ◌&&◌, ◌==◌, Bool, if◌then◌else◌, List, Option, None, Some}
use Rattle.std.specs.Str.{bytes_eq}
use Rattle.pump_frame.specs.declared.row.SessionRow.{SessionRow}
use Rattle.pump_frame.specs.declared.row.RowKey.{RowKey}
use Rattle.pump_frame.specs.declared.row.RowKey.TheVariants.{Capacity, Message, Window, Start, Longest, Resend}

-- how many messages a row lets the relay hold: from the least to the greatest
abbrev pub least_capacity : ℕ
least_capacity = 3

abbrev pub greatest_capacity : ℕ
greatest_capacity = 256

-- a number from `least` to `greatest`
abbrev pub is_within : ℕ → ℕ → ℕ → Bool
is_within least greatest value = nat_le least value && nat_le value greatest

-- the first key whose number is outside its range
abbrev pub first_bad : SessionRow → Option RowKey
first_bad row =
    if is_within least_capacity greatest_capacity row.capacity then
    if is_within 1 1024 row.message then
    if is_within 1 256 row.window then
    if is_within 0 1000000000 row.start then
    if is_within 0 1000000000 row.longest then
    if is_within 1 1000000000 row.resend then None
    else Some Resend
    else Some Longest
    else Some Start
    else Some Window
    else Some Message
    else Some Capacity

-- a row whose six numbers are in their ranges
abbrev pub IsLawfulRow : SessionRow → Type 0
IsLawfulRow row = first_bad row ≡ None

-- a row permits its own session with its own two names, and nothing else
abbrev pub permits : SessionRow → ℕ → List ℕ → List ℕ → Bool
permits row id low high = id == row.id && bytes_eq low row.low && bytes_eq high row.high

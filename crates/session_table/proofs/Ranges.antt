-- The ranges that a refusal's sentence names are those of a row.
use Rattle.std.proofs.Common.{◌≡◌, ℕ, Bool, true, Option, Some, None, if◌then◌else◌, refl}
use Rattle.pump_frame.specs.Rows.{is_within, first_bad}
use Rattle.pump_frame.specs.declared.row.SessionRow.{SessionRow}
use Rattle.pump_frame.specs.declared.row.RowKey.TheVariants.{Capacity, Message, Window, Start, Longest, Resend}
use Rattle.session_table.specs.Faults.{range_of}

-- a number in a range; where there is none, any
abbrev is_in : Option (ℕ × ℕ) → ℕ → Bool
is_in None number = true
is_in (Some range) number = is_within range.0 range.1 number

pub first_bad-range_of : (row : SessionRow) → first_bad row ≡
    (if is_in (range_of Capacity) row.capacity then
    if is_in (range_of Message) row.message then
    if is_in (range_of Window) row.window then
    if is_in (range_of Start) row.start then
    if is_in (range_of Longest) row.longest then
    if is_in (range_of Resend) row.resend then None
    else Some Resend
    else Some Longest
    else Some Start
    else Some Window
    else Some Message
    else Some Capacity)
first_bad-range_of row = refl

-- What a lawful row's numbers are.
use Rattle.std.proofs.Common.{◌≡◌, ◌≤◌, nat_le, if◌then◌else◌, Bool, true, false, Option, None, Some, refl, arith}
use Rattle.std.proofs.lemmas.Bool.{and_parts}
use Rattle.std.proofs.lemmas.Bool.Decides.{nat_tests}
use Rattle.pump_frame.specs.Rows.{least_capacity, greatest_capacity, is_within, IsLawfulRow}
use Rattle.pump_frame.specs.declared.row.SessionRow.{SessionRow}
use Rattle.pump_frame.specs.declared.row.RowKey.{RowKey}
use Rattle.pump_frame.specs.declared.row.RowKey.TheVariants.{Capacity, Message}

capacity_within : (b : Bool) (rest : Option RowKey) → (if b then rest else Some Capacity) ≡ None → b ≡ true
capacity_within true rest e = refl
capacity_within false rest e = absurd (cc)

pub row_capacity : (row : SessionRow) → IsLawfulRow row → (least_capacity ≤ row.capacity) × (row.capacity ≤ greatest_capacity)
row_capacity row h =
    let parts = and_parts (nat_le least_capacity row.capacity) (nat_le row.capacity greatest_capacity) (capacity_within (is_within least_capacity greatest_capacity row.capacity) _ h) in
    let a = parts.0 in
    let b = parts.1 in
    (grind (arith, nat_tests), grind (arith, nat_tests))

message_within : (a b : Bool) (rest : Option RowKey) → (if a then (if b then rest else Some Message) else Some Capacity) ≡ None → b ≡ true
message_within true true rest e = refl
message_within true false rest e = absurd (cc)
message_within false b rest e = absurd (cc)

pub row_message : (row : SessionRow) → IsLawfulRow row → row.message ≤ 1024
row_message row h =
    let parts = and_parts (nat_le 1 row.message) (nat_le row.message 1024) (message_within (is_within least_capacity greatest_capacity row.capacity) (is_within 1 1024 row.message) _ h) in
    let b = parts.1 in
    grind (arith, nat_tests)

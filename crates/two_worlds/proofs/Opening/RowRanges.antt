-- The longest message that a lawful row permits.
use Rattle.std.proofs.Common.{◌≡◌, ◌<◌, ◌≤◌, ◌^◌, Bool, true, false, Option, Some, None, refl, arith}
use Rattle.std.specs.Prelude.{nat_le, if◌then◌else◌}
use Rattle.std.proofs.lemmas.Bool.{and_parts}
use Rattle.std.proofs.lemmas.Bool.Decides.{nat_tests}
use Rattle.pump_frame.specs.Rows.{least_capacity, greatest_capacity, is_within, IsLawfulRow}
use Rattle.pump_frame.specs.declared.row.RowKey.{RowKey}
use Rattle.pump_frame.specs.declared.row.RowKey.TheVariants.{Capacity, Message}
use Rattle.pump_frame.specs.declared.row.SessionRow.{SessionRow}

message_within : (a b : Bool) (rest : Option RowKey) → (if a then (if b then rest else Some Message) else Some Capacity) ≡ None → b ≡ true
message_within true true rest e = refl
message_within true false rest e = absurd (cc)
message_within false b rest e = absurd (cc)

pub short_messages : (row : SessionRow) → IsLawfulRow row → row.message < 2 ^ 16
short_messages row h =
    let most = (and_parts (nat_le 1 row.message) (nat_le row.message 1024) (message_within (is_within least_capacity greatest_capacity row.capacity) (is_within 1 1024 row.message) _ h)).1 in
    let le : row.message ≤ 1024 = grind (arith, nat_tests) in
    omega (arith, le)

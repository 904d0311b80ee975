-- A session begins in a lawful world, and on new disks in an empty one.
use Rattle.std.proofs.Common.{◌≡◌, ℕ, ◌-◌, ◌≤◌, Bool, true, false, length, Option, Some, None, refl, arith}
use Rattle.std.proofs.Math.Nat.{min-zero}
use Rattle.std.proofs.lemmas.List.Elements.{All-nil}
use Rattle.std.specs.List.{range_with_len}
use Rattle.std.specs.Prelude.{nat_le, min, ◌==◌, if◌then◌else◌}
use Rattle.std.proofs.lemmas.Bool.{and_parts, ne_eqb}
use Rattle.std.proofs.lemmas.Bool.Decides.{nat_tests}
use Rattle.pump_frame.specs.Rows.{least_capacity, greatest_capacity, is_within, IsLawfulRow}
use Rattle.pump_frame.specs.declared.row.RowKey.{RowKey}
use Rattle.pump_frame.specs.declared.row.RowKey.TheVariants.{Capacity}
use Rattle.pump_frame.specs.declared.row.SessionRow.{SessionRow}
use Rattle.pump_core.specs.World.{empty}
use Rattle.pump_core.specs.Lawful.{IsLawful}
use Rattle.pump_core.specs.Events.{Opened}
use Rattle.pump_core.proofs.Laws.{begins_lawful}
use Rattle.script_reader.specs.Openings.{Found, nothing_found, CanOpen, opened_world}

capacity_within : (b : Bool) (rest : Option RowKey) → (if b then rest else Some Capacity) ≡ None → b ≡ true
capacity_within true rest e = refl
capacity_within false rest e = absurd (cc)

pub row_capacity : (row : SessionRow) → IsLawfulRow row → (least_capacity ≤ row.capacity) × (row.capacity ≤ greatest_capacity)
row_capacity row h =
    let parts = and_parts (nat_le least_capacity row.capacity) (nat_le row.capacity greatest_capacity) (capacity_within (is_within least_capacity greatest_capacity row.capacity) _ h) in
    let a = parts.0 in
    let b = parts.1 in
    (grind (arith, nat_tests), grind (arith, nat_tests))

pub opened_lawful : (row : SessionRow) (f : Found) → IsLawfulRow row → CanOpen row f → IsLawful (opened_world row f)
opened_lawful row f h can =
    let r = row_capacity row h in
    begins_lawful (opened_world row f) (Opened row.capacity f.removed f.received f.later r.0 r.1 can.agree)

-- ---- new disks ----

pub new_disks_can : (row : SessionRow) → CanOpen row nothing_found
new_disks_can row = record {
  agree = record { taken = omega arith; fits = omega arith };
  count = omega arith;
  end = omega arith;
  short = All-nil (λ message. length message ≤ row.message);
}

opens_empty : (row : SessionRow) (least : ℕ) → least ≡ 0 → (0 == row.capacity) ≡ false → record (empty row.capacity) {
  held = range_with_len 1 least;
  low_hand = if 0 == row.capacity then Some 0 else None;
} ≡ empty row.capacity
opens_empty row least none big = rw (none, big) refl

pub new_disks : (row : SessionRow) → IsLawfulRow row → opened_world row nothing_found ≡ empty row.capacity
new_disks row h = opens_empty row (min (row.capacity - 2) 0) (min-zero (row.capacity - 2)) (ne_eqb 0 row.capacity (λ e. absurd (omega (arith, e, (row_capacity row h).0))))

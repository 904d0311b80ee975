use Rattle.std.proofs.Common.{arith}
use Rattle.recovery.proofs.Rows.{row_capacity, row_message}
use Rattle.recovery.proofs.fitting.place.Goals as goal

pub slot_place-requires : goal.slot_place-requires
slot_place-requires c =
    let capacity = row_capacity c.args.row.now c.requires.lawful in
    let message = row_message c.args.row.now c.requires.lawful in
    record { ranges = record { some = omega (arith, capacity.0); few = omega (arith, capacity.1); short = omega (arith, message) } }

use Rattle.std.proofs.Common.{◌≡◌}
use Rattle.std.specs.Prelude.{All, vec_len}
use Rattle.disk_model.specs.Spare.{HasSpare}
use Rattle.disk_model.proofs.spare.spare_buffers.Given as goal

abbrev pub invariant-loop : goal.invariant-loop
invariant-loop l = (vec_len l.spare ≡ l.counter) × All (HasSpare l.room) l.spare.items

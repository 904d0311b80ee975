use Rattle.std.proofs.Common.{refl, arith}
use Rattle.command_ends.proofs.TableRows.{row_read}
use Rattle.command_ends.proofs.table_row.row_over.Goals as goal

pub returns-else-length-clause-row : goal.returns-else-length-clause-row
returns-else-length-clause-row g c = λ told.
    row_read _ c.args.room.now c.whole.new.into _ c.in-Ok.length c.args.session c.row_among.result (c.in-Ok.ensures.reads told) c.requires (omega arith) refl c.row_among.ensures.row

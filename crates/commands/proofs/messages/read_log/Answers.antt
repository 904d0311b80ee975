use Rattle.std.proofs.Common.{arith}
use Rattle.command_ends.specs.CommandEnds.{IsSessionEnd}
use Rattle.command_ends.proofs.TableRows.{table_cause, table_only}
use Rattle.commands.proofs.Caused.{if_disk_cause}
use Rattle.commands.proofs.Failing.{rose_within}
use Rattle.commands.proofs.messages.read_log.Goals as goal

pub returns-in-Ok-clause-cause : goal.returns-in-Ok-clause-cause
returns-in-Ok-clause-cause g c = if_disk_cause c.row_log.result _ _ c.row_log.ensures.only (λ role is.
    rose_within (g.S.Shelf.told.faults c.args.shelf.now) (g.S.Shelf.told.faults c.row_in_file.new.shelf) (g.S.Shelf.told.faults c.row_log.new.shelf) _ c.row_in_file.ensures.later (omega arith) (c.row_log.ensures.device role is))

pub returns-in-Err-clause-cause : goal.returns-in-Err-clause-cause
returns-in-Err-clause-cause g c = table_cause IsSessionEnd _ _ _ c.in-Err.end c.in-Err.ensures.only table_only c.in-Err.ensures.read

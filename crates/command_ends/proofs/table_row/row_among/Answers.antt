use Rattle.command_ends.proofs.TableRows.{id_of_found}
use Rattle.command_ends.proofs.table_row.row_among.Goals as goal

pub returns-in-Ok-clause-id : goal.returns-in-Ok-clause-id
returns-in-Ok-clause-id c = id_of_found c.args.session _ c.row.result _ c.ok_or.result c.row.ensures.value c.ok_or.ensures.value

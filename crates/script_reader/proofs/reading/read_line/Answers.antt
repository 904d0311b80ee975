use Rattle.std.proofs.Common.{◌∙◌}
use Rattle.script_reader.proofs.LineLaws.{read_put, found_from, lawful_from}
use Rattle.script_reader.proofs.reading.read_line.Goals as goal

pub returns-clause-found : goal.returns-clause-found
returns-clause-found c = found_from c.args.bytes.now c.read.result c.read.ensures

pub returns-clause-only : goal.returns-clause-only
returns-clause-only c = λ line h. c.read.ensures ∙ read_put line c.args.bytes.now h

pub returns-clause-lawful : goal.returns-clause-lawful
returns-clause-lawful c = lawful_from c.args.bytes.now c.read.result c.read.ensures

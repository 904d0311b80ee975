use Rattle.std.proofs.Common.{◌∙◌, option_map}
use Rattle.script_reader.specs.Heads.{line_with}
use Rattle.script_reader.proofs.LineLaws.{read_put, found_from, lawful_from}
use Rattle.script_reader.proofs.reading.read_head.Goals as goal

pub returns-clause-found : goal.returns-clause-found
returns-clause-found c = found_from c.args.text.now (option_map (line_with c.read_text.new.body) c.read_text.result) c.read_text.ensures.value

pub returns-clause-only : goal.returns-clause-only
returns-clause-only c = λ line h. c.read_text.ensures.value ∙ read_put line c.args.text.now h

pub returns-clause-lawful : goal.returns-clause-lawful
returns-clause-lawful c = lawful_from c.args.text.now (option_map (line_with c.read_text.new.body) c.read_text.result) c.read_text.ensures.value

use Rattle.std.proofs.Common.{◌+◌, sym, ◌∙◌}
use Rattle.std.proofs.lemmas.List.{take_rest}
use Rattle.script_reader.proofs.Splits.{split_some, split_none}
use Rattle.script_reader.proofs.fields.Fields.take_field.Goals as goal

pub returns-in-Some : goal.returns-in-Some
returns-in-Some c =
    rw (c.requires.rest, take_rest c.args.rest.now (c.in-Some.at + 1)) (split_some c.args.rest.now c.in-Some.at (sym c.requires.space ∙ c.in-Some.is))

pub returns-in-None : goal.returns-in-None
returns-in-None c = rw c.requires.rest (split_none c.args.rest.now (sym c.requires.space ∙ c.in-None.is))

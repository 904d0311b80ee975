use Rattle.std.proofs.Common.{[], ◌∷◌, ap, ◌∙◌}
use Rattle.std.proofs.lemmas.List.{map-append}
use Rattle.script_reader.specs.EventHeads.{event_of}
use Rattle.two_worlds.specs.Printing.{lines_in}
use Rattle.two_worlds.proofs.printing.put.Goals as goal

pub returns-clause-items : goal.returns-clause-items
returns-clause-items c = ap lines_in c.push.ensures.items ∙ map-append event_of c.args.out.now.items (c.args.event ∷ [])

use Rattle.std.proofs.Common.{◌∙◌}
use Rattle.session_table.proofs.Entries.{has_other_view}
use Rattle.session_table.proofs.key.has_other.Goals as goal

pub returns : goal.returns
returns c = c.has_unnamed.ensures ∙ has_other_view c.args.keys.now c.args.members.now.entries

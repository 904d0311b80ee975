use Rattle.std.proofs.Common.{sym, ◌∙◌}
use Rattle.script_replay.proofs.Numbered.{place_some, place_none}
use Rattle.script_replay.proofs.sessions.Sessions.place_of.Goals as goal

pub returns-in-Some : goal.returns-in-Some
returns-in-Some g c = place_some c.args.number c.args.self.now.begun.items c.in-Some.place (sym c.in-Some.is ∙ c.first_from.ensures)

pub returns-in-None : goal.returns-in-None
returns-in-None g c = c.len.ensures ∙ c.args.self.now.begun.ok.0 ∙ place_none c.args.number c.args.self.now.begun.items (sym c.in-None.is ∙ c.first_from.ensures)

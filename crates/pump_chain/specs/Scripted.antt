-- A chain read as a script of two sessions.
use Rattle.std.specs.Prelude.{◌≡◌, List, [], ◌∷◌, Some}
use Rattle.pump_frame.specs.Rows.{IsLawfulRow}
use Rattle.pump_frame.specs.declared.row.SessionRow.{SessionRow}
use Rattle.script_reader.specs.declared.event.Event.{Event}
use Rattle.script_reader.specs.declared.line.Arriving.{Arriving}
use Rattle.script_reader.specs.declared.line.Line.{Line}
use Rattle.script_reader.specs.declared.line.Line.TheVariants as lines
use Rattle.script_reader.specs.Openings.{Openings, CanOpen}
use Rattle.script_reader.specs.Scripts.{Whole}
use Rattle.script_reader.specs.Sessions.{Sessions, no_sessions, session_at, ScriptLeadsTo}
use Rattle.pump_chain.specs.Chained.{Chained, added, ChainLeadsTo}
use Rattle.pump_chain.specs.Opening.{first_chained}

-- two sessions can begin on what their disks were found to hold
pub record CanChain (o : Openings) (one two : SessionRow) : Type 0 where
  pub first : IsLawfulRow one
  pub second : IsLawfulRow two
  pub apart : one.id ≡ two.id → ⊥
  pub first_opens : CanOpen one (o one.id)
  pub second_opens : CanOpen two (o two.id)

-- their chain before its first line
abbrev pub chain_of : Openings → SessionRow → SessionRow → Chained
chain_of o one two = first_chained one (o one.id) two (o two.id)

-- a `step` as the look that adds this, and any other line as it is
abbrev pub as_look : Arriving → Line → Line
as_look adds (lines.Step session m w) = lines.Look session m w adds
as_look adds line = line

-- the lines that led a chain, each step as the look that adds what the sender had when it came
abbrev pub looks_of : (c : Chained) (script : List Line) (d : Chained) (printed : List Event)
    → ChainLeadsTo c script d printed → List Line
looks_of c [] d printed leads = []
looks_of c (line ∷ later) d printed leads = as_look (added c) line ∷ looks_of leads.0 later d leads.2 leads.4

-- a script leads its two sessions to what these of a chain have come to, and prints this
abbrev pub LeadsBoth : Openings → List Line → Chained → List Event → Type 0
LeadsBoth o script d printed =
    (t : Sessions) × ScriptLeadsTo o no_sessions script t printed
    × (session_at d.first.row.id t.begun ≡ Some (Whole d.first))
    × (session_at d.second.row.id t.begun ≡ Some (Whole d.second))

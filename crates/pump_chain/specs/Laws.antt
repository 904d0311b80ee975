-- The laws of a chain.
use Rattle.std.specs.Prelude.{◌≡◌, List, ◌∷◌, None, Some}
use Rattle.pump_core.specs.Lawful.{IsPrefixOf}
use Rattle.pump_frame.specs.declared.row.SessionRow.{SessionRow}
use Rattle.script_reader.specs.declared.event.Event.{Event}
use Rattle.script_reader.specs.declared.line.Line.{Line}
use Rattle.script_reader.specs.declared.line.Line.TheVariants.{Session}
use Rattle.script_reader.specs.Openings.{Openings, accepted_in}
use Rattle.script_reader.specs.Readouts.{low_lines}
use Rattle.script_reader.specs.Scripts.{Whole, LeadTo}
use Rattle.script_reader.specs.Sessions.{lines_of, events_of}
use Rattle.script_reader.specs.Sides.{OpensAlike, low_side_of, told_to_low}
use Rattle.pump_chain.specs.Chained.{Chained, ChainLeadsTo}
use Rattle.pump_chain.specs.Scripted.{CanChain, chain_of, looks_of, LeadsBoth}

-- Lines that lead a chain from its beginning are, with each step as its look, a script of two sessions that leads
-- each of them to the same past and prints the same.
abbrev pub ChainsAreScripts : Type 0
ChainsAreScripts = (o : Openings) (one two : SessionRow) (script : List Line) (d : Chained) (printed : List Event)
    → CanChain o one two → (leads : ChainLeadsTo (chain_of o one two) script d printed)
    → LeadsBoth o (Session one ∷ Session two ∷ looks_of (chain_of o one two) script d printed leads) d printed

-- The lines of the first session, alone, lead it to the same past, and print just the lines of the chain that are its
-- own.
abbrev pub FirstIsItsOwn : Type 0
FirstIsItsOwn = (o : Openings) (one two : SessionRow) (script : List Line) (d : Chained) (printed : List Event)
    → CanChain o one two → ChainLeadsTo (chain_of o one two) script d printed
    → LeadTo o None (Session one ∷ lines_of one.id script) (Some (Whole d.first)) (events_of one.id printed)

-- So do those of the second session, with each step as its look.
abbrev pub SecondIsItsOwn : Type 0
SecondIsItsOwn = (o : Openings) (one two : SessionRow) (script : List Line) (d : Chained) (printed : List Event)
    → CanChain o one two → (leads : ChainLeadsTo (chain_of o one two) script d printed)
    → LeadTo o None (Session two ∷ lines_of two.id (looks_of (chain_of o one two) script d printed leads))
    (Some (Whole d.second)) (events_of two.id printed)

-- Two runs whose first sessions have one row, one low side and the same feedback have the same replies to the first
-- low, whatever second pump there is and does in each. The first session's disks open alike for Low.
abbrev pub SecondIsNoMatter : Type 0
SecondIsNoMatter = (o p : Openings) (one two other : SessionRow) (script lines : List Line) (c d : Chained)
    (xs ys : List Event)
    → CanChain o one two → ChainLeadsTo (chain_of o one two) script c xs
    → CanChain p one other → ChainLeadsTo (chain_of p one other) lines d ys
    → OpensAlike o p (Session one) → low_side_of (lines_of one.id script) ≡ low_side_of (lines_of one.id lines)
    → told_to_low (events_of one.id xs) ≡ told_to_low (events_of one.id ys)
    → low_lines (events_of one.id xs) ≡ low_lines (events_of one.id ys)

-- of four lists each is a prefix of the next: what the second receiver has, what the second pump has accepted, what
-- the first receiver has, and what the first pump has accepted
pub record ArePrefixes (c : Chained) : Type 0 where
  pub next_taken : IsPrefixOf c.second.past.world.received c.second.past.world.accepted
  pub sent_on : IsPrefixOf c.second.past.world.accepted c.first.past.world.received
  pub taken : IsPrefixOf c.first.past.world.received c.first.past.world.accepted

-- So it is whatever lines lead to, where it was so of what the disks were found to hold.
abbrev pub FourArePrefixes : Type 0
FourArePrefixes = (o : Openings) (one two : SessionRow) (script : List Line) (d : Chained) (printed : List Event)
    → CanChain o one two → IsPrefixOf (accepted_in (o two.id)) (o one.id).received
    → ChainLeadsTo (chain_of o one two) script d printed → ArePrefixes d

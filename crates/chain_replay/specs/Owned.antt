-- What the lines of each session of a chain print alone.
use Rattle.std.specs.Prelude.{◌≡◌, ℕ, List, ◌∷◌, ◌++◌}
use Rattle.pump_chain.specs.Chained.{Chained, ChainLeadsTo}
use Rattle.pump_chain.specs.Ends.{ends_of}
use Rattle.pump_chain.specs.Scripted.{chain_of, looks_of}
use Rattle.pump_frame.specs.declared.row.SessionRow.{SessionRow}
use Rattle.script_reader.specs.declared.event.Event.{Event}
use Rattle.script_reader.specs.declared.line.Line.{Line}
use Rattle.script_reader.specs.declared.line.Line.TheVariants.{Session}
use Rattle.script_reader.specs.Openings.{Openings}
use Rattle.script_reader.specs.Scripts.{IsTranscript}
use Rattle.script_reader.specs.Sessions.{lines_of, events_of}
use Rattle.world_laws.specs.Timelines.{IsAtRest}

-- behind the two `session` lines these lines lead the chain of the two rows, from what their disks were found to
-- hold, to what it has come to; and what is printed of either session, its end with it, is the transcript of a script
-- that has its lines alone: for the second one with each `step` read as the look that adds what the sender had when
-- it came. No call of a disk is unfinished
pub record AreTheirOwn (o : Openings) (one two : SessionRow) (lines : List Line) (c : Chained) (events : List Event) :
    Type 0 where
  pub script : List Line
  pub named : (number : ℕ) → lines_of number lines ≡ lines_of number (Session one ∷ Session two ∷ script)
  pub leads : ChainLeadsTo (chain_of o one two) script c events
  pub first : IsTranscript o (lines_of one.id lines) (events_of one.id (events ++ ends_of c))
  pub second : IsTranscript o (Session two ∷ lines_of two.id (looks_of (chain_of o one two) script c events leads))
      (events_of two.id (events ++ ends_of c))
  pub first_rests : IsAtRest c.first.past.world
  pub second_rests : IsAtRest c.second.past.world

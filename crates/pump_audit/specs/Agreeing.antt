-- Low's side of what the lines of a record tell.
use Rattle.std.specs.Prelude.{List, [], ◌∷◌, ◌++◌, ℕ}
use Rattle.pump_frame.specs.Averages.{averaging_of, average_of}
use Rattle.pump_frame.specs.Spellings.{spelling}
use Rattle.pump_frame.specs.declared.row.SessionRow.{SessionRow}
use Rattle.pump_core.specs.declared.feedback.Feedback.{Feedback}
use Rattle.pump_core.specs.declared.feedback.Feedback.TheVariants.{Quiet, Full, Passed, Released, Repeat}
use Rattle.pump_core.specs.History.{Look, Arrival}
use Rattle.pump_core.specs.History.{Nothing, Came, Bad, Gone}
use Rattle.script_reader.specs.declared.line.ToldFeedback.{ToldFeedback}
use Rattle.script_reader.specs.declared.line.ToldFeedback.TheVariants as told
use Rattle.pump_audit.specs.Comparing.{ItemTold, SideTold}
use Rattle.pump_audit.specs.Records.{Record}

-- what a look was offered, as bytes
abbrev pub offered_by : Arrival → List ℕ
offered_by Nothing = []
offered_by (Came f) = spelling f
offered_by Bad = 0 ∷ []
offered_by Gone = 1 ∷ []

-- what it was told, without a count
abbrev pub told_of : SessionRow → Feedback → ToldFeedback
told_of row Quiet = told.Quiet
told_of row Full = told.Full
told_of row (Passed seen) = told.Pair 0 seen.average
told_of row Released = told.Pair 0 (average_of (averaging_of row) [])
told_of row (Repeat seen) = told.Pair 0 seen.average

abbrev pub item_in : SessionRow → Look → ItemTold
item_in row x = record {
  moment = x.moment;
  word = x.word;
  offered = offered_by x.arrival;
  is_fault = x.is_fault;
  told = told_of row x.feedback;
}

-- the items of these looks, the oldest first
abbrev pub items_in : SessionRow → List Look → List ItemTold
items_in row [] = []
items_in row (x ∷ past) = items_in row past ++ item_in row x ∷ []

abbrev pub side_of : Record → SideTold
side_of r = record {
  row = r.row;
  opening = r.opening;
  place = r.place;
  lines = r.lines;
  items = items_in r.row
      r.looks;
}

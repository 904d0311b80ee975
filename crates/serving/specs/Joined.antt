-- What both workers of a session do, at the two ends of one passage.
use Rattle.std.specs.Prelude.{ℕ, List, [], ◌++◌, Option}
use Rattle.disk_model.specs.Disk.{Meaning}
use Rattle.pump_frame.specs.declared.row.SessionRow.{SessionRow}
use Rattle.pump_core.specs.Exchanges.{Part, IsCut}
use Rattle.pump_core.specs.Passage.{Low, High, Fits, new_high, shape_of_row}
use Rattle.relay_side.specs.Sides.{SideTells}
use Rattle.relay_threads.specs.HighEnds.{data_over}
use Rattle.relay_threads.specs.HighStays.{stayed}
use Rattle.relay_threads.specs.LowStays.{stayed as low_stayed}
use Rattle.relay_threads.specs.PairsRead.{pairs_of}
use Rattle.relay_threads.specs.Records.{life_made}
use Rattle.relay_threads.specs.StoredMessages.{payloads, stored_in}
use Rattle.relay_threads.specs.declared.rounds_end.RoundsEnd.{RoundsEnd}
use Rattle.serving.specs.Doors.{DoorsTell}
use Rattle.serving.specs.Finding.{AtOpening, FindsBoth, high_opening, low_opening}
use Rattle.serving.specs.HighServing.{HighServed}
use Rattle.serving.specs.LowServing.{LowServed}
use Rattle.serving.specs.PassageEnds.{EndTells, IsStillOf}
use Rattle.serving.specs.SentStored.{SentIsStored}

-- Both workers made their rounds, or ended before, from one opening on. What the low end of the passage did and what
-- the high end did fits one passage of the row, so what the high worker sent is what the low one stored.
pub record BothServed {D L S : Type 0} (t : DoorsTell D L) (m : Meaning S) (row : SessionRow) (rounds : ℕ)
    (key : List ℕ) (low_side high_side : SideTells D L)
    (written now_written : Option (List ℕ)) (faults now_faults : ℕ) (low_disk high_disk now_low_disk now_high_disk : S)
    (how_low how_high : RoundsEnd) : Type 0 where
  pub o : AtOpening
  pub found : FindsBoth m row o low_disk high_disk
  pub l : Low
  pub h : High
  pub low : LowServed t m row rounds key low_side written now_written faults now_faults o l low_disk now_low_disk
      how_low
  pub high : HighServed t m row rounds high_side o h high_disk now_high_disk how_high
  pub fits : Fits (shape_of_row row) l h
  -- what High sent are the messages that were found and those that Low's life stored; `low.made` has one such cut
  pub sent : (parts : List Part) → IsCut row (life_made (low_opening o) (low_stayed [] low.stays)) parts
      → SentIsStored row o.removed (o.messages ++ payloads (stored_in parts)) (data_over row.id high.stays)
      (stayed row (high_opening o) high.stays) (pairs_of (low_stayed [] low.stays))

-- The two ends, which come back when the workers have ended, stand for what the workers did, if that fits one passage.
pub record EndsAsDone {E F Place : Type 0} (e : EndTells E Place) (f : EndTells F Place) (row : SessionRow)
    (low_end : E) (high_end : F) (now_low_end : E) (now_high_end : F) (AreDone : Low → High → Type 0) : Type 0 where
  pub low_still : IsStillOf e low_end now_low_end
  pub high_still : IsStillOf f high_end now_high_end
  pub l : Low
  pub h : High
  pub low_stands : e.stands now_low_end l new_high
  pub high_stands : f.stands now_high_end l h
  pub done : Fits (shape_of_row row) l h → AreDone l h

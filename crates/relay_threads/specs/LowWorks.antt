-- What a call of the low worker did: on one connection, and at its door. Each relation is handed what the call told:
-- of the link or the door, of the clock, of the random words, of the tape, of the gate, and of its end of the passage
-- and its disk by the looks that it made.
use Rattle.std.specs.Prelude.{ℕ, Bool, List, [], Some}
use Rattle.std.specs.List.{AllByRecursion}
use Rattle.pump_link.specs.Doors.{DoorStep}
use Rattle.pump_link.specs.declared.link.Looked.{Looked}
use Rattle.pump_core.specs.History.{Opening}
use Rattle.low_process.specs.declared.process.LowProcess.{LowProcess}
use Rattle.low_process.specs.Looks.{row_of}
use Rattle.relay_threads.specs.declared.low_served.LowServed.{LowServed}
use Rattle.relay_threads.specs.declared.rounds_end.RoundsEnd.{RoundsEnd}
use Rattle.relay_threads.specs.LowRounds.{Round, made_in, looks_of_rounds, moments_of, words_of, reply_bytes}
use Rattle.relay_threads.specs.LowServes.{Serves, IsServed, Lives, all_sent, all_kept, asked_in}
use Rattle.relay_threads.specs.LowStays.{Stay, IsRecord, StaysSo, EndsStays, is_kept_by, steps, answers, moments_in}
use Rattle.relay_threads.specs.LowStays.{stayed, words_in, text_in}
use Rattle.relay_threads.specs.RecordLines.{looks_text}
use Rattle.relay_threads.specs.Records.{Made, record_of}
use Rattle.relay_threads.specs.Replays.{TellLevels}

-- on one connection: some rounds, and all that they say
pub record ServesLink (p q : LowProcess) (most : ℕ) (served : LowServed) (Gives : List Looked → Type 0)
    (Sends : Bool → List ℕ → Type 0) (Reads Draws : List ℕ → Type 0) (Writes : Bool → List ℕ → Type 0)
    (Asks : List (ℕ × ℕ) → Type 0) (IsEnd : Type 0) (Does Stores : List Made → Type 0) : Type 0 where
  pub rounds : List Round
  pub serves : Serves p q rounds
  pub is : IsServed rounds most served
  pub gave : Gives (looks_of_rounds rounds)
  pub replies : Sends (all_sent rounds) (reply_bytes (made_in rounds))
  pub moments : Reads (moments_of rounds)
  pub words : Draws (words_of rounds)
  pub lines : Writes (all_kept rounds) (looks_text (row_of p) (record_of (made_in rounds)))
  pub asks : Asks (asked_in rounds served.why)
  pub levels : IsEnd → TellLevels (row_of p) (made_in rounds)
  pub does : Does (made_in rounds)
  pub stores : Stores (made_in rounds)

-- at its door: some stays, and all that they say
pub record ServesDoor {L : Type 0} (p q : LowProcess) (most : ℕ) (end : RoundsEnd) (Did Gives : List (DoorStep L)
    → Type 0) (Visits : Stay L → Type 0) (Reads Draws : List ℕ → Type 0) (Writes : Bool → List ℕ → Type 0)
    (IsEnd : Type 0) (Does Stores : List Made → Type 0) (Rests : Type 0) : Type 0 where
  pub stays : List (Stay L)
  pub so : StaysSo p q stays
  pub ends : EndsStays stays most end
  pub did : Did (steps stays)
  pub gave : Gives (answers stays)
  pub links : AllByRecursion Visits stays
  pub moments : Reads (moments_in stays)
  pub words : Draws (words_in stays)
  pub lines : Writes (is_kept_by (Some end)) (text_in (row_of p) stays)
  pub is_record : (o : Opening) → Lives p o [] → IsRecord (row_of p) stays
  pub levels : IsEnd → TellLevels (row_of p) (stayed [] stays)
  pub does : Does (stayed [] stays)
  pub stores : Stores (stayed [] stays)
  -- the next look may be made
  pub rests : Rests

-- What a race prints and leaves.
use Rattle.std.specs.Prelude.{◌≡◌, ℕ, ◌≤◌, Bool, true, false, if◌then◌else◌, List, [], ◌∷◌, ◌++◌, length, take, map}
use Rattle.std.specs.Prelude.{codes, decimal}
use Rattle.std.specs.List.{All}
use Rattle.stable_buffer.specs.Low.{StandsForCount}
use Rattle.stable_buffer.specs.Stands.{HighStands}
use Rattle.stable_buffer.specs.Log.{RecvStands}
use Rattle.pump_core.specs.Passage.{Low, High, shape_of_row, IsAverage, NeverFall}
use Rattle.script_reader.specs.Generated.{generated_row}
use Rattle.script_reader.specs.Transcript.{line_with_end}
use Rattle.script_reader.specs.Spelling.{line_text}
use Rattle.relay_threads.specs.PairsRead.{pairs_of}
use Rattle.relay_threads.specs.Records.{Made, Shown, AreMade, is_recorded, recorded, made_of, record_of}
use Rattle.relay_threads.specs.RecordLines.{look_text, opening_line, record_text}
use Rattle.relay_threads.specs.Replays.{TakeLawful, is_lost, IsReadable, AreReadable}
use Rattle.race.specs.MadeLooks.{moments_of, acks_of, HaveWords, TakeAll, OnlyFrames, frames_of, FullFrom, NumbersFall}
use Rattle.race.specs.MadeLooks.{HasItsOwn}
use Rattle.race.specs.Messages.{race_items, race_frames, race_opening}
use Rattle.race.specs.Turns.{turns, payload_in, done_in, asks_of, asks_in_run}

-- ---- the two works ----

-- the looks of the low worker of a race, also of one that was stopped
pub record AreRaceLooks (seed : ℕ) (made : List Made) : Type 0 where
  pub are_made : AreMade generated_row race_opening made
  pub words : HaveWords seed made
  pub take_all : TakeAll made
  pub full : FullFrom 6 generated_row race_opening made
  -- nothing came but lawful frames, so each that was taken is one; and the device did not fail
  pub plain : OnlyFrames made
  pub lawful : TakeLawful made
  pub kept : is_lost (record_of made) ≡ false

-- what the low work did: these looks, while its end did this
pub record IsLowRun (seed count : ℕ) (made : List Made) (low : Low) : Type 0 where
  pub looks : AreRaceLooks seed made
  pub pairs : low.pairs ≡ pairs_of made
  pub frames : frames_of made ≡ race_frames seed count
  pub forwarded : low.forwarded ≡ race_items seed count

-- what the high work did: the receiver has these messages, while its end did this
pub record IsHighRun (count : ℕ) (times : List ℕ) (high : High) (received : List (List ℕ)) : Type 0 where
  pub times_are : high.times ≡ turns times count
  pub enough : count ≤ length high.taken
  pub received_are : received ≡ map payload_in (take count high.taken)

-- ---- what is printed ----

-- what the printed looks are
pub record ArePrinted (seed count : ℕ) (times readings : List ℕ) (shown : List Shown) : Type 0 where
  -- they are a life of exchanges, whose replies are the comments, look by look
  pub are_made : AreMade generated_row race_opening (made_of shown)
  -- every arrival is taken
  pub take_all : TakeAll (made_of shown)
  -- each has a number of its own, and the reading and the word of that number
  pub numbers : NumbersFall shown
  pub own : All (HasItsOwn seed readings) shown
  -- full is printed only for a message numbered 6 or more
  pub full : FullFrom 6 generated_row race_opening (made_of shown)
  -- the arrivals are the HELLO and the messages, each once and in this order
  pub frames : frames_of (made_of shown) ≡ race_frames seed count
  -- a pair with count C is the average of the first C times, and C never falls
  pub averages : All (IsAverage (shape_of_row generated_row) (turns times count)) (pairs_of (made_of shown))
  pub never_fall : NeverFall (pairs_of (made_of shown))

-- the lines of a look, where it is recorded after these
abbrev pub look_lines : List Made → Made → List ℕ
look_lines before m = if is_recorded before m then look_text generated_row m else []

-- .. read back
abbrev pub ReadsBack : List Made → Made → Type 0
ReadsBack before m = is_recorded before m ≡ true → IsReadable generated_row m

-- the line that the record begins with
abbrev pub opening_text : List ℕ
opening_text = line_text (opening_line generated_row race_opening)

abbrev pub number_line : List ℕ → ℕ → List ℕ
number_line word n = line_with_end (codes "#" ∷ word ∷ decimal n ∷ [])

-- a comment for each time
abbrev pub time_lines : List ℕ → List ℕ
time_lines [] = []
time_lines (t ∷ ts) = number_line (codes "time") t ++ time_lines ts

abbrev pub end_line : ℕ → ℕ → List ℕ
end_line accepted removed = line_with_end (codes "#" ∷ codes "end" ∷ decimal accepted ∷ decimal removed ∷ [])

-- the comments at the end
abbrev pub end_lines : List ℕ → ℕ → ℕ → ℕ → List ℕ
end_lines times received accepted removed = time_lines times ++ (number_line (codes "took") received ++ end_line
    accepted removed)

-- The bytes are the record of looks that had these readings, each behind one of these asks of the low
-- worker's gate: of all looks of the low process those are printed that a record has. Each line of it
-- reads back.
pub record IsRaceRecord (seed count : ℕ) (times readings : List ℕ) (asks : List (ℕ × ℕ)) (bytes : List ℕ) : Type 0 where
  pub made : List Made
  pub looks : AreRaceLooks seed made
  pub readings_are : moments_of made ≡ readings
  -- all messages were acknowledged in the end
  pub asks_are : asks ≡ asks_of (acks_of made)
  pub acked : done_in (acks_of made) ≡ count
  pub printed : ArePrinted seed count times readings (recorded made)
  pub readable : AreReadable generated_row race_opening made
  pub bytes_are : bytes ≡ record_text generated_row race_opening made ++ end_lines (turns times count) count count count

-- The same of a race of which the low worker or the high one was stopped: its record has no end. The last
-- ask stopped the low worker, or all messages were acknowledged.
pub record IsStoppedRecord (seed count : ℕ) (is_low_stopped : Bool) (readings : List ℕ) (asks : List (ℕ × ℕ))
    (bytes : List ℕ) : Type 0 where
  pub made : List Made
  pub looks : AreRaceLooks seed made
  pub readings_are : moments_of made ≡ readings
  pub asks_are : asks ≡ asks_in_run is_low_stopped (acks_of made)
  pub acked : is_low_stopped ≡ false → done_in (acks_of made) ≡ count
  pub readable : AreReadable generated_row race_opening made
  pub bytes_are : bytes ≡ record_text generated_row race_opening made

-- ---- what is left ----

-- the payloads of the messages
abbrev pub payloads : ℕ → ℕ → List (List ℕ)
payloads seed count = map payload_in (race_items seed count)

-- low's disk and high's stand for the count, and the receiver's for the payloads in order
pub record AreRaceDisks (seed count : ℕ) (low high recv : List ℕ) : Type 0 where
  pub low_stands : StandsForCount generated_row count low
  pub high_stands : HighStands generated_row count high
  pub recv_stands : RecvStands generated_row (payloads seed count) recv

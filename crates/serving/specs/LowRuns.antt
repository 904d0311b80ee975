-- What a run of the low worker makes of its half. It serves the private functions and the proofs.
use Rattle.std.specs.Prelude.{◌≡◌, ℕ, ◌≤◌, Bool, List, [], ◌∷◌, ◌++◌, Option, Some, None}
use Rattle.std.specs.List.{AllByRecursion}
use Rattle.std.specs.Io.KnownBytes.{Appends}
use Rattle.disk_model.specs.Disk.{Meaning}
use Rattle.pump_link.specs.Ports.{ShutDoor}
use Rattle.pump_link.specs.Tells.{Draws, Grows}
use Rattle.pump_core.specs.History.{Opening}
use Rattle.script_reader.specs.Grammar.{IsCount}
use Rattle.stable_buffer.specs.Low.{low_disk}
use Rattle.low_process.specs.Looks.{row_of, next_of}
use Rattle.low_process.specs.Whole.{HasStore}
use Rattle.relay_threads.specs.Levels.{IsEndOf}
use Rattle.relay_threads.specs.LowServes.{Lives}
use Rattle.relay_threads.specs.LowStays.{Stay, IsRecord, StaysSo, TellsVisit, is_kept_by, stayed, steps, answers}
use Rattle.relay_threads.specs.LowStays.{moments_in, words_in, text_in}
use Rattle.relay_threads.specs.LowEnds.{DoesSo, StoresSo}
use Rattle.relay_threads.specs.Reaching.{Reaches}
use Rattle.relay_threads.specs.RecordLines.{first_text}
use Rattle.relay_threads.specs.Replays.{BeginsReadable, TellLevels}
use Rattle.relay_threads.specs.Workers.{CountsEnd}
use Rattle.relay_threads.specs.declared.rounds_end.RoundsEnd.{RoundsEnd}
use Rattle.serving.specs.Doors.{DoorsTell, IsOpenedAndShut}
use Rattle.serving.specs.LowEnds.{EndsLow}
use Rattle.serving.specs.PassageEnds.{EndTells, IsStillOf}
use Rattle.relay_side.specs.Sides.{SideTells}
use Rattle.serving.specs.declared.low_half.LowParts.{LowParts}

-- what was found at the opening
abbrev pub found_in : {W S E : Type 0} → LowParts W S E → Opening
found_in parts = record { count = next_of parts.process; is_held = parts.is_held }

-- what the record begins with
abbrev pub opening_text : {W S E : Type 0} → LowParts W S E → List ℕ
opening_text parts = first_text (row_of parts.process) (found_in parts)

-- the stays at its door, which was the one and is the other, lead from these parts to those
pub record LowRan {R L W S E Place : Type 0} (t : DoorsTell R L) (m : Meaning S) (gives : W → List ℕ
    → Type 0) (e : EndTells E Place) (reads now_reads : List ℕ → Type 0)
    (written now_written : Option (List ℕ)) (faults now_faults rounds : ℕ) (opened shut : R) (v w : LowParts W S E)
    (end : RoundsEnd) : Type 0 where
  pub is_opened : Bool
  pub stays : List (Stay L)
  pub so : StaysSo v.process w.process stays
  pub ends : EndsLow is_opened stays rounds end
  pub did : Grows (t.did opened) (t.did shut) (steps stays)
  pub gave : Draws (t.gives opened) (t.gives shut) (answers stays)
  pub port : (n : ℕ) → t.port opened n → t.port shut n
  pub links : AllByRecursion (TellsVisit t.links.gives t.links.sent t.links.faults) stays
  pub moments : Draws reads now_reads (moments_in stays)
  pub words : Draws (gives v.words) (gives w.words) (words_in stays)
  pub tape : Reaches (Appends written now_written) faults now_faults (is_kept_by (Some end))
      (opening_text v ++ text_in (row_of v.process) stays)
  pub begins : IsCount (found_in v).count (found_in v).is_held → BeginsReadable (row_of v.process) (found_in v)
  pub levels : IsEndOf e.stands e.shape v.ends (row_of v.process) → TellLevels (row_of v.process) (stayed [] stays)
  pub still : IsStillOf e v.ends w.ends
  pub does : DoesSo e.stands e.shape v.ends w.ends v.process w.process (stayed [] stays)
  pub stores : StoresSo m v.store w.store v.process w.process (stayed [] stays)
  pub is_record : (o : Opening) → Lives v.process o [] → IsRecord (row_of v.process) stays
  pub store : HasStore m w.process w.store
  pub counts : m.count (low_disk v.store) ≤ m.count (low_disk w.store)
  pub device : CountsEnd (Some end) (m.count (low_disk v.store)) (m.count (low_disk w.store))

-- .. at the door that the half had, which it has no more: it was shut, and nothing else was done at the ports of the
-- side
pub record LowDone {R L W S E Place : Type 0} (t : DoorsTell R L) (m : Meaning S) (gives : W → List ℕ
    → Type 0) (e : EndTells E Place) (side : SideTells R L)
    (written now_written : Option (List ℕ)) (faults now_faults rounds : ℕ) (door now_door : Option R)
    (v w : LowParts W S E) (end : RoundsEnd) : Type 0 where
  pub opened : R
  pub shut : R
  pub had : door ≡ Some opened
  pub has_none : now_door ≡ None
  pub did : Grows side.ports.did side.ports.now_did (ShutDoor shut ∷ [])
  pub ran : LowRan t m gives e side.reads side.now_reads written now_written faults now_faults rounds opened shut v w
      end

-- .. at a door of this port that was opened and shut
pub record LowLent {R L W S E Place : Type 0} (t : DoorsTell R L) (m : Meaning S) (gives : W → List ℕ
    → Type 0) (e : EndTells E Place) (side : SideTells R L)
    (written now_written : Option (List ℕ)) (faults now_faults port rounds : ℕ) (v w : LowParts W S E) (end : RoundsEnd)
    : Type 0 where
  pub opened : R
  pub shut : R
  pub fresh : t.did opened []
  pub is_port : t.port opened port
  pub in_call : IsOpenedAndShut side.ports port opened shut
  pub ran : LowRan t m gives e side.reads side.now_reads written now_written faults now_faults rounds opened shut v w
      end

-- What the low worker of a race does.
use Rattle.std.specs.Prelude.{◌≡◌, ℕ, ◌≤◌, Bool, true, false, List, [], Option}
use Rattle.std.specs.List.{AllByRecursion}
use Rattle.atomic_table.specs.Seated.{TableId}
use Rattle.pump_link.specs.Tells.{Draws, Grows}
use Rattle.pump_core.specs.Passage.{Low, High, Shape}
use Rattle.low_process.specs.Looks.{last_of, next_of, is_idle}
use Rattle.relay_threads.specs.Records.{Made, record_of}
use Rattle.relay_threads.specs.RecordLines.{looks_text}
use Rattle.relay_threads.specs.Replays.{IsReadable}
use Rattle.script_reader.specs.Generated.{generated_row}
use Rattle.race.specs.LowRacers.{LowRests, LowStays}
use Rattle.race.specs.MadeLooks.{moments_of, acks_of}
use Rattle.race.specs.Tape.{row_in, Prints}
use Rattle.race.specs.Turns.{asks_in_run, CountsStop}
use Rattle.race.specs.declared.low.LowRacer.{LowRacer}
use Rattle.race.specs.declared.low_work.LowRaceWork.{LowRaceWork}

-- all messages are stored, passed on and acknowledged
abbrev pub IsLowDone : {L : Type 0} → LowRacer L → Type 0
IsLowDone w = (is_idle w.half.process ≡ true) × (w.count ≤ next_of w.half.process)

-- how the work of the racer ended: all of it was done, or its gate stopped it and counted that
pub record LowEnds {L : Type 0} (w : LowRacer L) (is_stopped : Bool) (stops_before stops_now : ℕ) : Type 0 where
  pub done : is_stopped ≡ false → IsLowDone w
  pub stops : CountsStop is_stopped stops_before stops_now

module _ {K O L G : Type 0} (reads : K → List ℕ → Type 0) (floor : K → ℕ) (written : O → Option (List ℕ)) (faults : O
    → ℕ)
    (stands : L → Low → High → Type 0) (place : L → List TableId) (shape : L → Shape) (asked : G → List (ℕ × ℕ)
    → Type 0) (stops : G → ℕ) where
  pub record LowCan (w : LowRaceWork K O L G) : Type 0 where
    pub at : LowRests stands shape w.racer.now []
    pub order : last_of w.racer.now.half.process ≤ floor w.clock.now
    pub row : row_in w.tape.now ≡ generated_row
    pub going : w.is_stopped ≡ false

  -- it has all that it borrowed; the racer has the same end and messages
  pub record KeepsLow (v w : LowRaceWork K O L G) : Type 0 where
    pub racer : w.racer.ghost_name ≡ v.racer.ghost_name
    pub clock : w.clock.ghost_name ≡ v.clock.ghost_name
    pub out : w.out.ghost_name ≡ v.out.ghost_name
    pub tape : w.tape.ghost_name ≡ v.tape.ghost_name
    pub gate : w.gate.ghost_name ≡ v.gate.ghost_name
    pub stays : LowStays place shape v.racer.now w.racer.now

  -- after these looks, which drew the clock's readings, and whose record was printed, while the gate was
  -- asked this, and counted a stop where it stopped the worker
  pub record LowSoFar (v w : LowRaceWork K O L G) (made : List Made) (asks : List (ℕ × ℕ)) : Type 0 where
    pub keeps : KeepsLow v w
    pub at : LowRests stands shape w.racer.now made
    pub order : last_of w.racer.now.half.process ≤ floor w.clock.now
    pub row : row_in w.tape.now ≡ generated_row
    pub draws : Draws (reads v.clock.now) (reads w.clock.now) (moments_of made)
    pub prints : Prints v.tape.now w.tape.now (written v.out.now) (written w.out.now) (faults v.out.now)
        (faults w.out.now) (looks_text generated_row (record_of made))
    pub readable : AllByRecursion (IsReadable generated_row) (record_of made)
    pub asks_are : Grows (asked v.gate.now) (asked w.gate.now) asks
    pub stops_so : CountsStop w.is_stopped (stops v.gate.now) (stops w.gate.now)

  -- the work is over: all messages were acknowledged, or its gate stopped it
  pub record LowRuns (v w : LowRaceWork K O L G) : Type 0 where
    pub made : List Made
    pub so_far : LowSoFar v w made (asks_in_run w.is_stopped (acks_of made))
    pub ended : w.is_stopped ≡ false → IsLowDone w.racer.now

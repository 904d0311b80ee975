-- What the high worker of a race does.
use Rattle.std.specs.Prelude.{◌≡◌, ℕ, ◌≤◌, Bool, false, List}
use Rattle.atomic_table.specs.Seated.{TableId}
use Rattle.pump_link.specs.Tells.{Grows}
use Rattle.pump_core.specs.Passage.{Low, High, Shape, new_low}
use Rattle.high_process.specs.States.{removed_of}
use Rattle.high_receiver.specs.Receiving.{recv_disk, recv_count}
use Rattle.race.specs.HighRacers.{HighAt, HighBegins, HighStays}
use Rattle.race.specs.Turns.{done_in, asks_of, AsksHigh, CountsStop}
use Rattle.race.specs.declared.high.HighRacer.{HighRacer}
use Rattle.race.specs.declared.high_work.HighRaceWork.{HighRaceWork}

-- How the work of the racer ended: all messages were removed, or its gate stopped it and counted that. What its
-- end did is beside a low end that did nothing.
pub record HighEnds {H : Type 0} (stands : H → Low → High → Type 0) (w : HighRacer H) (is_stopped : Bool)
    (stops_before stops_now : ℕ) : Type 0 where
  pub any : (high : High) × stands w.half.ends new_low high
  pub done : is_stopped ≡ false → HighAt stands false w × (w.count ≤ removed_of w.half.process)
  pub stops : CountsStop is_stopped stops_before stops_now

module _ {H G : Type 0} (stands : H → Low → High → Type 0) (place : H → List TableId) (shape : H → Shape) (asked : G
    → List (ℕ × ℕ) → Type 0) (stops : G → ℕ) where
  -- it stands before its first look
  abbrev pub HighCan : HighRaceWork H G → Type 0
  HighCan w = HighBegins stands w.racer.now × (w.is_stopped ≡ false)

  -- it has the racer and the gate that it had; the racer has the same end, messages and times
  pub record KeepsHigh (v w : HighRaceWork H G) : Type 0 where
    pub racer : w.racer.ghost_name ≡ v.racer.ghost_name
    pub gate : w.gate.ghost_name ≡ v.gate.ghost_name
    pub stays : HighStays place shape v.racer.now w.racer.now

  -- the work goes on, and stands between two looks, after those made in these turns
  pub record HighSoFar (v w : HighRaceWork H G) (has_taken : Bool) (turns_made : List Bool) : Type 0 where
    pub keeps : KeepsHigh v w
    pub at : HighAt stands has_taken w.racer.now
    pub going : w.is_stopped ≡ false
    pub taken : recv_count w.racer.now.receiver ≡ done_in turns_made
    pub asks : Grows (asked v.gate.now) (asked w.gate.now) (asks_of turns_made)
    pub stops_stay : stops w.gate.now ≡ stops v.gate.now

  -- the work is over: all messages were removed, or its gate stopped it
  pub record HighRuns (v w : HighRaceWork H G) : Type 0 where
    pub keeps : KeepsHigh v w
    pub ends : HighEnds stands w.racer.now w.is_stopped (stops v.gate.now) (stops w.gate.now)
    pub asks : AsksHigh w.racer.now.count w.is_stopped (asked v.gate.now) (asked w.gate.now)
        (recv_disk w.racer.now.receiver).bytes

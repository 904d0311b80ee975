-- What a run of the high worker makes of its half. It serves the private functions and the proofs.
use Rattle.std.specs.Prelude.{◌≡◌, ℕ, ◌≤◌, false, List, [], ◌∷◌, Option, Some, None}
use Rattle.std.specs.List.{AllByRecursion}
use Rattle.disk_model.specs.Disk.{Meaning}
use Rattle.pump_link.specs.Ports.{ShutDoor}
use Rattle.pump_link.specs.Tells.{Draws, Grows}
use Rattle.stable_buffer.specs.High.{IsHighReady, high_disk, high_count}
use Rattle.stable_buffer.specs.declared.high.HighStore.{HighStore}
use Rattle.high_process.specs.declared.process.HighProcess.{HighProcess}
use Rattle.high_process.specs.States.{row_of, removed_of, is_down}
use Rattle.relay_threads.specs.Workers.{CountsEnd}
use Rattle.relay_threads.specs.HighEnds.{StaysTake}
use Rattle.relay_threads.specs.HighStays.{Stay, StaysSo, EndsStays, TellsVisit, is_broken, steps, answers, moments_in}
use Rattle.relay_threads.specs.declared.rounds_end.RoundsEnd.{RoundsEnd}
use Rattle.serving.specs.Doors.{DoorsTell, IsOpenedAndShut}
use Rattle.serving.specs.PassageEnds.{EndTells, IsStillOf}
use Rattle.relay_side.specs.Sides.{SideTells}
use Rattle.serving.specs.declared.high_half.HighParts.{HighParts}

-- the process is not down, and its store is open and has the count that it has
pub record HasStore {S : Type 0} (m : Meaning S) (p : HighProcess) (store : HighStore S) : Type 0 where
  pub up : is_down p ≡ false
  pub ready : IsHighReady m store
  pub count : high_count store ≡ removed_of p

-- the stays at its door, which was the one and is the other, lead from these parts to those
pub record HighRan {R L S H Place : Type 0} (t : DoorsTell R L) (m : Meaning S) (e : EndTells H Place)
    (reads now_reads : List ℕ → Type 0) (rounds : ℕ) (opened shut : R) (v w : HighParts S H) (end : RoundsEnd) : Type 0
  where
    pub stays : List (Stay L)
    pub so : StaysSo v.process w.process stays
    pub ends : EndsStays stays rounds end
    pub did : Grows (t.did opened) (t.did shut) (steps stays)
    pub gave : Draws (t.gives opened) (t.gives shut) (answers stays)
    pub port : (n : ℕ) → t.port opened n → t.port shut n
    pub links : AllByRecursion (TellsVisit t.links.gives t.links.sent t.links.faults (row_of v.process).id) stays
    pub moments : Draws reads now_reads (moments_in stays)
    pub still : IsStillOf e v.ends w.ends
    pub takes : StaysTake e.stands v.ends w.ends v.process w.process stays
    pub device : CountsEnd (Some end) (m.count (high_disk v.store)) (m.count (high_disk w.store))
    pub store : is_broken (Some end) ≡ false → HasStore m w.process w.store
    pub counts : m.count (high_disk v.store) ≤ m.count (high_disk w.store)

-- .. at the door that the half had, which it has no more: it was shut, and nothing else was done at the ports of the
-- side
pub record HighDone {R L S H Place : Type 0} (t : DoorsTell R L) (m : Meaning S) (e : EndTells H Place)
    (side : SideTells R L) (rounds : ℕ) (door now_door : Option R) (v w : HighParts S H) (end : RoundsEnd) : Type 0
  where
    pub opened : R
    pub shut : R
    pub had : door ≡ Some opened
    pub has_none : now_door ≡ None
    pub did : Grows side.ports.did side.ports.now_did (ShutDoor shut ∷ [])
    pub ran : HighRan t m e side.reads side.now_reads rounds opened shut v w end

-- .. at a door of this port that was opened and shut
pub record HighLent {R L S H Place : Type 0} (t : DoorsTell R L) (m : Meaning S) (e : EndTells H Place)
    (side : SideTells R L) (port rounds : ℕ) (v w : HighParts S H) (end : RoundsEnd) : Type 0 where
  pub opened : R
  pub shut : R
  pub fresh : t.did opened []
  pub is_port : t.port opened port
  pub in_call : IsOpenedAndShut side.ports port opened shut
  pub ran : HighRan t m e side.reads side.now_reads rounds opened shut v w end

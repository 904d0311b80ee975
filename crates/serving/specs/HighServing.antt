-- What the high worker of a session does.
use Rattle.std.specs.Prelude.{◌≡◌, ℕ, false, List, length, Some}
use Rattle.std.specs.List.{AllByRecursion}
use Rattle.disk_model.specs.Disk.{Meaning}
use Rattle.pump_frame.specs.declared.row.SessionRow.{SessionRow}
use Rattle.pump_link.specs.Tells.{Draws}
use Rattle.pump_core.specs.Passage.{High}
use Rattle.stable_buffer.specs.High.{StandsForRemoved}
use Rattle.relay_threads.specs.Workers.{CountsEnd}
use Rattle.relay_threads.specs.HighEnds.{answers_over, given, misses}
use Rattle.relay_threads.specs.HighStays.{Stay, AreStays, EndsStays, TellsVisit, is_broken, stayed, steps, answers}
use Rattle.relay_threads.specs.HighStays.{moments_in}
use Rattle.relay_threads.specs.StoredMessages.{payloads}
use Rattle.relay_threads.specs.declared.rounds_end.RoundsEnd.{RoundsEnd}
use Rattle.serving.specs.Doors.{DoorsTell, AtDoor}
use Rattle.serving.specs.Finding.{AtOpening, high_opening}
use Rattle.relay_side.specs.Sides.{SideTells}

-- What a high end did from the opening on, by the stays that were made.
pub record DidHigh {L : Type 0} (row : SessionRow) (o : AtOpening) (stays : List (Stay L)) (h : High) : Type 0 where
  -- it took up the messages that came, and a try was in vain each time when nothing came
  pub taken : payloads h.taken ≡ given (answers_over row (high_opening o) stays)
  pub tries : length h.tries ≡ misses (answers_over row (high_opening o) stays)
  -- it published the times of the process
  pub times : h.times ≡ (stayed row (high_opening o) stays).times

-- The high worker made its rounds, or ended before: from this opening on, at a door of the row's high port, by the
-- readings of the high side's clock, over the high disk. `h` is what was done at its end of the passage.
pub record HighServed {D L S : Type 0} (t : DoorsTell D L) (m : Meaning S) (row : SessionRow) (rounds : ℕ)
    (side : SideTells D L) (o : AtOpening) (h : High) (disk now_disk : S) (end : RoundsEnd) : Type 0 where
  -- the stays, which go on from the opening
  pub stays : List (Stay L)
  pub are : AreStays row (high_opening o) stays
  pub ends : EndsStays stays rounds end
  pub at : AtDoor t side.ports row.high_port (steps stays) (answers stays)
  pub links : AllByRecursion (TellsVisit t.links.gives t.links.sent t.links.faults row.id) stays
  pub moments : Draws side.reads side.now_reads (moments_in stays)
  -- what they did at the end of the passage
  pub did : DidHigh row o stays h
  -- the disk counts what was removed, unless it failed
  pub left : is_broken (Some end) ≡ false → m.tells
      → StandsForRemoved (stayed row (high_opening o) stays).removed (m.reading now_disk)
  pub device : CountsEnd (Some end) (m.count disk) (m.count now_disk)

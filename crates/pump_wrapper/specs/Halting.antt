-- A pump that is stopped amid lines, and what its world holds.
use Rattle.std.specs.Prelude.{◌≡◌, ℕ, ◌+◌, ◌<◌, true, List, length, drop, slice_get, Some}
use Rattle.disk_model.specs.Disk.{Meaning}
use Rattle.pump_core.specs.Events.{with_kept}
use Rattle.pump_core.specs.World.{World}
use Rattle.pump_frame.specs.declared.payload.Payload.{Payload}
use Rattle.script_reader.specs.Highs.{log_end, receiver_size}
use Rattle.script_reader.specs.Openings.{Found, accepted_in}
use Rattle.script_reader.specs.Past.{Past}
use Rattle.two_worlds.specs.declared.applied.Stop.{Stop}
use Rattle.two_worlds.specs.declared.applied.Stop.TheVariants as stops
use Rattle.two_worlds.specs.declared.pump.Pump.{Pump}
use Rattle.two_worlds.specs.Pumps.{StandsFor, StandsOrFails}
use Rattle.pump_wrapper.specs.Comparing.{Begins}

-- what an opening finds of a world
abbrev pub found_of : World → Found
found_of w = record { removed = w.removed; received = w.received; later = drop (length w.received) w.accepted }

-- the receiver's next message does not fit on its disk of this size, where its records end here
pub record HasNoRoom (f : Found) (end size_of_message size : ℕ) : Type 0 where
  pub message : Payload
  pub next : slice_get (accepted_in f) (length f.received) ≡ Some message
  pub end_is : end ≡ log_end f.received
  pub length_is : size_of_message ≡ length message
  pub size_is : size ≡ receiver_size
  pub over : size < end + 2 + length message

-- all of the first messages were accepted, and none but the second ones, not even with one whose store is unfinished
pub record IsBetween (first most : List Payload) (w : World) : Type 0 where
  pub from : Begins first w.accepted
  pub to : Begins (with_kept true w.storing w.accepted) most

-- a disk's device stopped it, or want of room at the receiver
abbrev pub HaltsBy : {D : Type 0} {g : _} → Meaning D → Pump D g → Past → Stop → Type 0
HaltsBy m t q stops.Line = ⊥
HaltsBy m t q (stops.Device role faults) = Unit {0}
HaltsBy m t q (stops.Full end length size) = StandsFor m t q × HasNoRoom (found_of q.world) end length size
HaltsBy m t q (stops.Disk role why) = ⊥

-- the pump was stopped so, and has accepted messages between these
pub record Halts {D : Type 0} {g : _} (m : Meaning D) (t : Pump D g) (first most : List Payload) (stop : Stop) : Type 0
  where
    pub past : Past
    pub stands : StandsOrFails m t past
    pub between : IsBetween first most past.world
    pub by : HaltsBy m t past stop

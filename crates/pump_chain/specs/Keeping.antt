-- Where a chain goes on in the first receiver's log.
use Rattle.std.specs.Prelude.{◌≡◌, ◌≤◌, List, length}
use Rattle.disk_model.specs.Disk.{Meaning}
use Rattle.high_receiver.specs.Receiving.{record_at}
use Rattle.pump_frame.specs.declared.payload.Payload.{Payload}
use Rattle.script_reader.specs.Past.{Past}
use Rattle.two_worlds.specs.declared.pump.Pump.{Pump}
use Rattle.two_worlds.specs.Pumps.{StandsFor}
use Rattle.pump_chain.specs.declared.place.LogPlace.{LogPlace}

-- the record of this message begins at this offset of a log that has these messages
pub record KnowsPlace (place : LogPlace) (received : List Payload) : Type 0 where
  pub few : place.number ≤ length received
  pub at : place.at ≡ record_at received place.number

-- so in the log of the first receiver, whatever the first pump stands for
abbrev pub Keeps : {D : Type 0} {g : _} → Meaning D → Pump D g → LogPlace → Type 0
Keeps m first place = m.tells → (p : Past) → StandsFor m first p → KnowsPlace place p.world.received

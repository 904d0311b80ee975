-- What the code's world stands for, and what it makes anew after a crash. This serves the code alone.
use Rattle.std.specs.Prelude.{◌≡◌, Bool, Some}
use Rattle.pump_core.specs.World as worlds
use Rattle.pump_core.specs.Lawful.{IsLawful}
use Rattle.pump_core.specs.Events.{pump_crashed}
use Rattle.pump_core.specs.declared.world.World.TheInside.{Inside}
use Rattle.pump_core.specs.declared.refill.Refill.{Refill}

abbrev pub world_of : Inside → worlds.World
world_of w = record {
  capacity = w.capacity;
  accepted = w.accepted.items;
  storing = w.storing;
  low_hand = w.low_hand;
  held = w.held.items;
  high_hand = w.high_hand;
  removed = w.removed;
  due = w.due;
  removing = w.removing;
  received = w.received.items;
  packet = w.packet;
  taking = w.taking;
  sent = w.sent.items;
  returned = w.returned.items;
  acknowledged = w.acknowledged.items;
}

abbrev pub IsLawfulInside : Inside → Type 0
IsLawfulInside w = IsLawful (world_of w)

-- what a crash leaves in a pump
pub record IsRefill (w : worlds.World) (kept : Bool × Bool) (r : Refill) : Type 0 where
  pub removed : r.removed ≡ (pump_crashed w (Some kept)).removed
  pub high_hand : r.high_hand ≡ (pump_crashed w (Some kept)).high_hand
  pub held : r.held.items ≡ (pump_crashed w (Some kept)).held
  pub low_hand : r.low_hand ≡ (pump_crashed w (Some kept)).low_hand

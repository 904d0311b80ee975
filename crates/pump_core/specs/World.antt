-- All that a relay, its receiver and the network between them hold, as plain lists and numbers.
use Rattle.std.specs.Prelude.{ℕ, ◌+◌, ◌-◌, ◌≤◌, min, nat_lt, ◌==◌, if◌then◌else◌, Bool, false, List, [], ◌∷◌, ◌++◌}
use Rattle.std.specs.Prelude.{length, Option, Some, None}
use Rattle.std.specs.List.{range_with_len}
use Rattle.pump_frame.specs.declared.payload.Payload.{Payload}
use Rattle.pump_frame.specs.declared.frame.Item.{Item}

pub record World : Type 0 where
  -- how many messages the pump has places for
  pub capacity : ℕ
  -- the messages that were accepted, message n at n, and a store that is unfinished
  pub accepted : List Payload
  pub storing : Option Payload
  -- the numbers of the messages in the low hand, between the hands, and in the high hand
  pub low_hand : Option ℕ
  pub held : List ℕ
  pub high_hand : Option ℕ
  -- how many were removed, whether the high hand's message was returned as taken, and whether its
  -- removal is unfinished
  pub removed : ℕ
  pub due : Bool
  pub removing : Bool
  -- the messages that the receiver took, one that waits there, and whether its taking is unfinished
  pub received : List Payload
  pub packet : Option Payload
  pub taking : Bool
  -- all DATA and all TAKEN that were ever sent, in the order of sending
  pub sent : List Item
  pub returned : List ℕ
  -- the numbers that were acknowledged to the low party
  pub acknowledged : List ℕ

-- a world with nothing in it
abbrev pub empty : ℕ → World
empty capacity = record {
  capacity = capacity;
  accepted = [];
  storing = None;
  low_hand = None;
  held = [];
  high_hand = None;
  removed = 0;
  due = false;
  removing = false;
  received = [];
  packet = None;
  taking = false;
  sent = [];
  returned = [];
  acknowledged = [];
}

-- how many messages are in the pump
abbrev pub live : World → ℕ
live w = length w.accepted - w.removed

-- the pump as it is at an opening: nothing is unfinished, the first live message is in the high
-- hand, the next ones are held, and the last one is in the low hand where all places are full
abbrev pub refilled : World → World
refilled w = record w {
  storing = None;
  removing = false;
  due = false;
  high_hand = if nat_lt 0 (live w) then Some w.removed else None;
  held = range_with_len (w.removed + 1) (min (w.capacity - 2) (live w - 1));
  low_hand = if live w == w.capacity then Some (length w.accepted - 1) else None;
}

-- the TAKEN of the last message that the receiver took
abbrev pub last_taken : List Payload → List ℕ
last_taken [] = []
last_taken (p ∷ ps) = length ps ∷ []

-- the world that opens on disks with this number removed, this list at the receiver, and these
-- messages that the receiver has not
abbrev pub opened : ℕ → ℕ → List Payload → List Payload → World
opened capacity removed received later = refilled (record (empty capacity) {
  accepted = received ++ later;
  removed = removed;
  received = received;
  returned = last_taken received;
})

-- disks that agree: the receiver has what was removed, and no more is live than there are places
pub record Agree (capacity removed : ℕ) (received later : List Payload) : Type 0 where
  pub taken : removed ≤ length received
  pub fits : length (received ++ later) ≤ removed + capacity

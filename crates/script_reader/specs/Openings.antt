-- What a session's disks were found to hold, and the session that begins on them.
use Rattle.std.specs.Prelude.{ℕ, ◌^◌, ◌≤◌, false, List, [], ◌++◌, length}
use Rattle.std.specs.List.{All}
use Rattle.pump_frame.specs.Readings.{Within}
use Rattle.pump_frame.specs.declared.payload.Payload.{Payload}
use Rattle.pump_frame.specs.declared.row.SessionRow.{SessionRow}
use Rattle.pump_core.specs.History.{first_life, reopened}
use Rattle.pump_core.specs.Timed.{opening_in}
use Rattle.pump_core.specs.World as worlds
use Rattle.pump_core.specs.World.{World, Agree}
use Rattle.script_reader.specs.Past.{Past}
use Rattle.script_reader.specs.Highs.{log_end, receiver_size}

-- what three disks stand for: so many messages are removed, the receiver has this list, and the pump
-- these later messages, which the receiver has not
pub record Found : Type 0 where
  pub removed : ℕ
  pub received : List Payload
  pub later : List Payload

-- what new disks stand for
abbrev pub nothing_found : Found
nothing_found = record { removed = 0; received = []; later = [] }

-- what was found on the disks of each session, by the session's number
abbrev pub Openings : Type 0
Openings = ℕ → Found

abbrev pub new_disks : Openings
new_disks session = nothing_found

-- all messages that were accepted
abbrev pub accepted_in : Found → List Payload
accepted_in f = f.received ++ f.later

-- a session of the row can begin on them: they agree, no count and no end is beyond its disk, and no
-- message is longer than the row's
pub record CanOpen (row : SessionRow) (f : Found) : Type 0 where
  pub agree : Agree row.capacity f.removed f.received f.later
  pub count : length (accepted_in f) ≤ 2 ^ 48
  pub end : log_end f.received ≤ receiver_size
  pub short : All (λ message. length message ≤ row.message) (accepted_in f)

-- the world that opens on them
abbrev pub opened_world : SessionRow → Found → World
opened_world row f = worlds.opened row.capacity f.removed f.received f.later

-- a session before its first line. The TAKEN of the last message that its receiver had was sent before
abbrev pub first_past : SessionRow → Found → Past
first_past row f = record {
  history = first_life (opening_in (opened_world row f));
  waits = [];
  is_broken = false;
  reading = Within [];
  world = opened_world row f;
  returned_before = length (opened_world row f).returned;
  times = [];
  sends = [];
  moment = 0;
}

-- the past when both processes were opened again at m, on disks of the world w: a new life of the low
-- side on a new connection, and a high side that sent and published nothing yet. The packets stay
abbrev pub restarted : Past → World → ℕ → Past
restarted p w m = record {
  history = reopened p.history (opening_in w);
  waits = [];
  is_broken = false;
  reading = Within [];
  world = w;
  returned_before = p.returned_before;
  times = [];
  sends = [];
  moment = m;
}

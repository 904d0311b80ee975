-- What a high process holds.
use Rattle.std.specs.Prelude.{◌≡◌, ℕ, Bool, true, false, Option, Some, None}
use Rattle.pump_frame.specs.declared.frame.Frame.{Frame}
use Rattle.pump_frame.specs.declared.frame.Item.{Item}
use Rattle.pump_frame.specs.declared.row.SessionRow.{SessionRow}
use Rattle.high_process.specs.declared.values.Sent.{Sent}
use Rattle.high_process.specs.declared.values.Asking.{Asking}
use Rattle.high_process.specs.declared.values.Task.{Task}
use Rattle.high_process.specs.declared.process.HighProcess.{HighProcess}
use Rattle.high_process.specs.Tasks.{task_of, attaches_in}

-- the row of its session
abbrev pub row_of : HighProcess → SessionRow
row_of p = p.row

-- the process, with its row made coarse
abbrev pub made_coarse : HighProcess → HighProcess
made_coarse p = record p { row = record p.row { coarse = true } }

-- how many messages are removed
abbrev pub removed_of : HighProcess → ℕ
removed_of p = p.removed

-- a message, if it is in the hand
abbrev pub hand_in : Bool → Item → Option Item
hand_in true item = Some item
hand_in false item = None

-- the next message, if it was taken up
abbrev pub hand_of : HighProcess → Option Item
hand_of p = hand_in p.is_full p.hand

-- how many times were published since the opening
abbrev pub published_of : HighProcess → ℕ
published_of p = p.published

-- the moment of the last look, and 0 before one
abbrev pub last_of : HighProcess → ℕ
last_of p = p.last

-- a removal has failed
abbrev pub is_down : HighProcess → Bool
is_down p = p.is_down

-- no look is begun and not finished
abbrev pub IsBetweenLooks : HighProcess → Type 0
IsBetweenLooks p = p.asking ≡ None

-- what this frame, or none, asks of the process
abbrev pub task_at : HighProcess → Option Frame → Task
task_at p frame = task_of p.row.id p.removed (hand_of p) frame

-- a receiver of its session attaches
abbrev pub attaches_at : HighProcess → Option Frame → Bool
attaches_at p frame = attaches_in p.row.id frame

-- when the message in the hand was first sent, and last
abbrev pub first_sent : Option Sent → Option ℕ
first_sent None = None
first_sent (Some s) = Some s.first

abbrev pub last_sent : Option Sent → Option ℕ
last_sent None = None
last_sent (Some s) = Some s.last

-- all that changes
pub record State : Type 0 where
  pub removed : ℕ
  pub hand : Option Item
  pub sent : Option Sent
  pub published : ℕ
  pub last : ℕ
  pub asking : Option Asking
  pub is_down : Bool

abbrev pub state_of : HighProcess → State
state_of p = record {
  removed = p.removed;
  hand = hand_of p;
  sent = p.sent;
  published = p.published;
  last = p.last;
  asking = p.asking;
  is_down = p.is_down;
}

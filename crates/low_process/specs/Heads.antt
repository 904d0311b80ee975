-- A look without frames: the whole look of its head.
use Rattle.std.specs.Prelude.{◌≡◌, false, None, option_map}
use Rattle.pump_frame.specs.declared.row.SessionRow.{SessionRow}
use Rattle.pump_core.specs.declared.feedback.Feedback.TheVariants.{Quiet}
use Rattle.pump_core.specs.ReplyFrames.{frame_of}
use Rattle.low_process.specs.declared.values.LowLook.{LowLook}
use Rattle.low_process.specs.declared.values.Ask.{Ask}
use Rattle.low_process.specs.declared.values.Ask.TheVariants as asks
use Rattle.low_process.specs.declared.values.LookHead.{LookHead}
use Rattle.low_process.specs.declared.values.AskHead.{AskHead}
use Rattle.low_process.specs.declared.values.AskHead.TheVariants.{Done, Forward, Average}
use Rattle.low_process.specs.declared.process.LowProcess.{LowProcess}
use Rattle.low_process.specs.Looks.{row_of, next_of, last_of, is_down, hand_of, hand_passed, IsInBounds}

-- a look that did nothing yet
abbrev pub nothing_done : LookHead
nothing_done = record { taken = false; stored = None; reply = None; feedback = Quiet }

-- the look: its reply is a frame in the session of the row
abbrev pub look_with : SessionRow → LookHead → LowLook
look_with row h = record {
  taken = h.taken;
  stored = h.stored;
  reply = option_map (frame_of row.id) h.reply;
  feedback = h.feedback;
}

-- what the process asks: it offers the message in its hand
abbrev pub ask_with : SessionRow → LowProcess → LookHead → AskHead → Ask
ask_with row p h Done = asks.Done (look_with row h)
ask_with row p h Forward = asks.Forward p.hand
ask_with row p h Average = asks.Average

-- What the rest of a look that asked does with the process (p, then q), by the look's head.
pub record EndsLook (p q : LowProcess) (head : LookHead) : Type 0 where
  -- an average that was told is at most 10^9
  pub bounds : IsInBounds head.feedback
  -- nothing is replied, and nothing stored
  pub reply : head.reply ≡ None
  pub stored : head.stored ≡ None
  -- what was passed leaves the hand
  pub hand : hand_of q ≡ hand_passed (hand_of p) head.feedback
  -- all else is as before
  pub row : row_of q ≡ row_of p
  pub next : next_of q ≡ next_of p
  pub last : last_of q ≡ last_of p
  pub up : is_down q ≡ false

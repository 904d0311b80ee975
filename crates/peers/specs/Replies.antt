-- What the functions that await a frame or an answer give.
use Rattle.std.specs.Prelude.{◌≡◌, ℕ, ◌<◌, List, [], ◌∷◌, Option, None, Some}
use Rattle.pump_frame.specs.declared.frame.Frame.{Frame}
use Rattle.pump_frame.specs.Spellings.{spelling}
use Rattle.pump_link.specs.declared.link.Looked.{Looked}
use Rattle.peers.specs.declared.asking.Wanted.{Wanted}
use Rattle.peers.specs.declared.asking.Wanted.TheVariants as wanted
use Rattle.peers.specs.declared.asking.Reply.{Reply}
use Rattle.peers.specs.declared.asking.Reply.TheVariants.{Came, Refused, Unanswered}
use Rattle.peers.specs.declared.looks.Waited.{Waited}
use Rattle.peers.specs.declared.looks.Waited.TheVariants.{Frame as HeardFrame, Over, Used}
use Rattle.peers.specs.Looks.{Hears, HearsJust, IsOver}
use Rattle.peers.specs.declared.send.SendEnd.{SendEnd}
use Rattle.peers.specs.Outputs.{Counts}
use Rattle.peers.specs.Sending.{Wait, Last, Answers, IsRefused, IsUnanswered, IsUnfinished, MessageEnds, ack_line}

-- a wait for one frame
abbrev pub WaitsTo : List Looked → ℕ → ℕ → ℕ → Waited → Type 0
WaitsTo looks left before now (HeardFrame f) = HearsJust looks (f ∷ [])
WaitsTo looks left before now Over = IsOver looks [] before now
WaitsTo looks left before now Used = Hears looks [] × (left ≡ 0)

-- a wait that brought a frame used a look
abbrev pub IsFewer : Waited → ℕ → ℕ → Type 0
IsFewer (HeardFrame f) left most = left < most
IsFewer _ left most = Unit {0}

-- a wait for an answer
abbrev pub WaitsFor : ℕ → Wanted → Wait → ℕ → ℕ → ℕ → Reply → Type 0
WaitsFor session wanted w left before now (Came number) = (f : Frame) × Answers session wanted w f × (number ≡ f.number)
WaitsFor session wanted w left before now (Refused code number) = IsRefused session wanted w code number
WaitsFor session wanted w left before now Unanswered = IsUnanswered session wanted w left before now

-- .. after a frame was sent
abbrev pub AsksFor : ℕ → Frame → Wanted → Wait → ℕ → List ℕ → ℕ → ℕ → Reply → Type 0
AsksFor session ask wanted w left sent before now (Came number) = (f : Frame) × Answers session wanted w f
    × (number ≡ f.number) × (sent ≡ spelling ask)
AsksFor session ask wanted w left sent before now (Refused code number) = IsRefused session wanted w code number
    × (sent ≡ spelling ask)
AsksFor session ask wanted w left sent before now Unanswered = IsUnfinished session ask wanted w left sent before now

-- a message was sent: it was acknowledged and that was printed, or it ended the call
abbrev pub Sends : Frame → Last → Counts → Option SendEnd → Type 0
Sends f last n None = (ack : Frame) × Answers f.session (wanted.Ack f.number) last.wait ack × (last.sent ≡ spelling f)
    × (last.printed ≡ ack_line f.number)
Sends f last n (Some end) = MessageEnds f last n end

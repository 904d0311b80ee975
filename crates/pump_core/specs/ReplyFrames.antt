-- The frame of a reply.
use Rattle.std.specs.Prelude.{ℕ, ◌≤◌, ◌<◌, ◌^◌, [], ◌∷◌}
use Rattle.pump_frame.specs.declared.frame.Kind.TheVariants as kinds
use Rattle.pump_frame.specs.declared.frame.Frame.{Frame}
use Rattle.pump_core.specs.declared.reply.Refusal.{Refusal}
use Rattle.pump_core.specs.declared.reply.Refusal.TheVariants as refusals
use Rattle.pump_core.specs.declared.reply.Reply.{Reply}
use Rattle.pump_core.specs.declared.reply.Reply.TheVariants.{Welcome, Ack, Refuse}

-- the code of a refusal
abbrev pub code_of : Refusal → ℕ
code_of refusals.Pair = 1
code_of refusals.Frame = 2
code_of refusals.Size = 3
code_of refusals.Step = 4
code_of refusals.Device = 5

-- the frame of a reply in this session
abbrev pub frame_of : ℕ → Reply → Frame
frame_of session (Welcome n) = record { kind = kinds.Welcome; session = session; number = n; payload = [] }
frame_of session (Ack n) = record { kind = kinds.Ack; session = session; number = n; payload = [] }
frame_of session (Refuse why n) = record {
  kind = kinds.Refuse;
  session = session;
  number = n;
  payload = code_of
      why ∷ [];
}

-- the number is one that a frame of this kind may have
abbrev pub IsLawfulReply : Reply → Type 0
IsLawfulReply (Welcome n) = n ≤ 2 ^ 48
IsLawfulReply (Ack n) = n < 2 ^ 48
IsLawfulReply (Refuse why n) = n ≤ 2 ^ 48

-- The frame of a lawful reply is one that a comment can tell.
use Rattle.std.proofs.Common.{ℕ, ◌^◌, ◌<◌, [], ◌∷◌, Option, Some, None, refl, arith}
use Rattle.std.specs.Prelude.{IfSome, option_map}
use Rattle.pump_frame.specs.Frames.{IsCode}
use Rattle.pump_core.specs.declared.reply.Refusal.{Refusal}
use Rattle.pump_core.specs.declared.reply.Refusal.TheVariants as refusals
use Rattle.pump_core.specs.declared.reply.Reply.{Reply}
use Rattle.pump_core.specs.declared.reply.Reply.TheVariants.{Welcome, Ack, Refuse}
use Rattle.pump_core.specs.ReplyFrames.{code_of, frame_of, IsLawfulReply}
use Rattle.relay_threads.specs.RecordLines.{IsReplyFrame}

is_code : (why : Refusal) → IsCode (code_of why ∷ [])
is_code refusals.Pair = (1, omega arith, omega arith, refl)
is_code refusals.Frame = (2, omega arith, omega arith, refl)
is_code refusals.Size = (3, omega arith, omega arith, refl)
is_code refusals.Step = (4, omega arith, omega arith, refl)
is_code refusals.Device = (5, omega arith, omega arith, refl)

reply_frame : (session : ℕ) (r : Reply) → session < 2 ^ 32 → IsLawfulReply r → IsReplyFrame (frame_of session r)
reply_frame session (Welcome n) fits few = (record { session = fits; form = (few, refl) }, refl)
reply_frame session (Ack n) fits few = (record { session = fits; form = (few, refl) }, refl)
reply_frame session (Refuse why n) fits few = (record { session = fits; form = (few, is_code why) }, refl)

pub reply_frames : (session : ℕ) (r : Option Reply) → session < 2 ^ 32 → IfSome r IsLawfulReply → IfSome (option_map (frame_of session) r) IsReplyFrame
reply_frames session None fits lawful = tt
reply_frames session (Some r) fits lawful = reply_frame session r fits lawful

-- What one reading of a link brought, with its frame.
use Rattle.pump_frame.specs.declared.frame.Frame.{Frame as Sent}
use Rattle.relay_threads.specs.declared.hear.HeardHead.{HeardHead}
use Rattle.relay_threads.specs.declared.hear.HeardHead.TheVariants as heads

pub data Heard : Type 0 where
  Nothing : Heard
  Frame : (frame : Sent) → Heard
  Bad : Heard
  Ended : Heard
  Failed : Heard

-- what a reading brought that answered so, with this frame in its room
abbrev pub heard_with : Sent → HeardHead → Heard
heard_with frame heads.Nothing = Nothing
heard_with frame heads.Frame = Frame frame
heard_with frame heads.Bad = Bad
heard_with frame heads.Ended = Ended
heard_with frame heads.Failed = Failed

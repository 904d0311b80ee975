-- What a frame asks of the high process.
use Rattle.std.specs.Prelude.{ℕ, ◌-◌, Bool, true, false, ◌&&◌, ◌==◌, nat_lt, nat_le, if◌then◌else◌, Option, Some, None}
use Rattle.std.specs.Borrow.{Bor}
use Rattle.pump_frame.specs.declared.frame.Frame.{Frame}
use Rattle.pump_frame.specs.declared.frame.Kind.{Kind}
use Rattle.pump_frame.specs.declared.frame.Kind.TheVariants.{Taken, Attach}
use Rattle.pump_core.specs.Sendings.{expected}
use Rattle.high_process.specs.declared.values.HighFault.TheVariants.{Ahead, Behind}
use Rattle.high_process.specs.declared.values.Task.{Task}
use Rattle.high_process.specs.declared.values.Task.TheVariants.{Refuse, Remove, Keep}

-- the frame that is given, if there is one
abbrev pub frame_of : Option (Bor Frame) → Option Frame
frame_of None = None
frame_of (Some f) = Some f.now

-- what a receiver asks that has the message n, where so many are removed and `expected` is the first
-- number that was not sent: a removed one is ignored, and one that was not sent is refused
abbrev pub task_taken : ℕ → ℕ → ℕ → Task
task_taken n removed expected = if nat_lt n removed then Keep else if nat_le expected n then Refuse (Ahead n expected)
    else Remove

-- what a frame of the session asks: a TAKEN has its message, and an ATTACH those below its count
abbrev pub task_in : Kind → ℕ → ℕ → ℕ → Task
task_in Taken n removed expected = task_taken n removed expected
task_in Attach c removed expected = if nat_lt c removed then Refuse (Behind c removed) else if c == 0 then Keep else
    task_taken (c - 1) removed expected
task_in _ n removed expected = Keep

-- what a frame asks of a process with this session, count and hand; one of another session asks nothing
abbrev pub task_of : {X : Type 0} → ℕ → ℕ → Option X → Option Frame → Task
task_of session removed hand None = Keep
task_of session removed hand (Some f) = if f.session == session then task_in f.kind f.number removed
    (expected removed hand) else Keep

-- the frame is an ATTACH
abbrev pub is_attach : Kind → Bool
is_attach Attach = true
is_attach _ = false

-- whether a receiver of the session attaches
abbrev pub attaches_in : ℕ → Option Frame → Bool
attaches_in session None = false
attaches_in session (Some f) = f.session == session && is_attach f.kind

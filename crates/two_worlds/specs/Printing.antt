-- What is printed.
use Rattle.std.specs.Prelude.{ℕ, List, [], ◌∷◌, ◌++◌, map, Option, Some, None}
use Rattle.pump_frame.specs.declared.frame.Frame.{Frame}
use Rattle.low_process.specs.declared.values.LowLook.{LowLook}
use Rattle.script_reader.specs.declared.event.Event.{Event}
use Rattle.script_reader.specs.declared.event.Event.TheVariants.{Low}
use Rattle.script_reader.specs.declared.event.EventHead.{EventHead}
use Rattle.script_reader.specs.EventHeads.{event_of}
use Rattle.script_reader.specs.Lows.{printed_store, printed_feedback}

-- the lines that are in a list of heads
abbrev pub lines_in : List EventHead → List Event
lines_in heads = map event_of heads

abbrev pub printed_reply : ℕ → ℕ → Option Frame → List Event
printed_reply session m None = []
printed_reply session m (Some reply) = Low session m reply ∷ []

-- what the look stored, its feedback, and its reply
abbrev pub look_prints : ℕ → ℕ → LowLook → List Event
look_prints session m look =
    printed_store session m look.stored
    ++ (printed_feedback session m look.feedback ++ printed_reply session m look.reply)

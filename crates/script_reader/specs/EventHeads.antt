-- The event that a head stands for.
use Rattle.std.specs.Prelude.{Bool, true, false}
use Rattle.pump_core.specs.ReplyFrames.{frame_of}
use Rattle.script_reader.specs.declared.event.Event.{Event}
use Rattle.script_reader.specs.declared.event.Event.TheVariants as events
use Rattle.script_reader.specs.declared.event.EventHead.{EventHead}
use Rattle.script_reader.specs.declared.event.EventHead.TheVariants.{Stored, Full, Passed, Released, Repeat, Low}
use Rattle.script_reader.specs.declared.event.EventHead.TheVariants.{Removed, Sent, Took, Again, Attach, Restart, End}

-- the event, whose reply is a frame of its session
abbrev pub event_of : EventHead → Event
event_of (Stored session moment number) = events.Stored session moment number
event_of (Full session moment) = events.Full session moment
event_of (Passed session moment seen) = events.Passed session moment seen
event_of (Released session moment) = events.Released session moment
event_of (Repeat session moment seen) = events.Repeat session moment seen
event_of (Low session moment reply) = events.Low session moment (frame_of session reply)
event_of (Removed session moment number time) = events.Removed session moment number time
event_of (Sent session moment number) = events.Sent session moment number
event_of (Took session number) = events.Took session number
event_of (Again session number) = events.Again session number
event_of (Attach session moment count) = events.Attach session moment count
event_of (Restart session moment accepted removed held) = events.Restart session moment accepted removed held
event_of (End session accepted high) = events.End session accepted high

-- it has a head that tells it whole: a reply is a frame, and what a disk shows comes of no script
abbrev pub has_head : Event → Bool
has_head (events.Low session moment reply) = false
has_head (events.Show session accepted removed received) = false
has_head (events.Live session number payload) = false
has_head _ = true

-- Frames that come.
use Rattle.std.proofs.Common.{◌≡◌, ℕ, ◌^◌, ◌<◌, true, List, Option, Some, None}
use Rattle.std.specs.Prelude.{IfSome}
use Rattle.pump_frame.specs.Frames.{IsLawful, IsForm}
use Rattle.pump_frame.specs.declared.frame.Frame.{Frame}
use Rattle.pump_frame.specs.declared.frame.Kind.{Kind}
use Rattle.pump_frame.specs.declared.frame.Kind.TheVariants.{Hello, Welcome, Data, Ack, Refuse, Attach, Taken}
use Rattle.pump_core.specs.Exchanges.{is_data}
use Rattle.low_process.specs.Looks.{IsLawful as CanCome}
use Rattle.relay_threads.specs.RecordLines.{HasLawfulFrame}
use Rattle.race.specs.LowRacers.{arrival_in}
use Rattle.race.specs.MadeLooks.{IsPlainArrival}

number_of : (kind : Kind) (number : ℕ) (payload : List ℕ) → IsForm kind number payload → is_data kind ≡ true → number < 2 ^ 48
number_of Data number payload h e = h.0
number_of Hello number payload h e = absurd (cc)
number_of Welcome number payload h e = absurd (cc)
number_of Ack number payload h e = absurd (cc)
number_of Refuse number payload h e = absurd (cc)
number_of Attach number payload h e = absurd (cc)
number_of Taken number payload h e = absurd (cc)

pub can_come : (frame : Option Frame) → IfSome frame IsLawful → CanCome (arrival_in frame)
can_come None h = tt
can_come (Some f) h = number_of f.kind f.number f.payload h.form

pub has_lawful : (frame : Option Frame) → IfSome frame IsLawful → HasLawfulFrame (arrival_in frame)
has_lawful None h = tt
has_lawful (Some f) h = h

pub is_plain : (frame : Option Frame) → IfSome frame IsLawful → IsPlainArrival (arrival_in frame)
is_plain None h = tt
is_plain (Some f) h = h

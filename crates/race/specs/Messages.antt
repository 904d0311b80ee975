-- The messages of a generated script, which the low party of a race sends.
use Rattle.std.specs.Prelude.{ℕ, false, List, [], ◌∷◌, ◌++◌, map}
use Rattle.pump_frame.specs.Frames.{greeting}
use Rattle.pump_frame.specs.declared.frame.Frame.{Frame}
use Rattle.pump_frame.specs.declared.frame.Item.{Item}
use Rattle.pump_frame.specs.declared.frame.Kind.TheVariants as kinds
use Rattle.pump_core.specs.History.{Opening}
use Rattle.script_reader.specs.declared.line.Line.{Line}
use Rattle.script_reader.specs.declared.line.Line.TheVariants.{Look}
use Rattle.script_reader.specs.declared.line.Arriving.{Arriving}
use Rattle.script_reader.specs.declared.line.Arriving.TheVariants.{Data}
use Rattle.script_reader.specs.Generated.{generated_row, generated}

abbrev pub message_in : Arriving → List Item
message_in (Data number payload) = record { number = number; payload = payload } ∷ []
message_in _ = []

-- the message that a line brings
abbrev pub brought_by : Line → List Item
brought_by (Look session moment word arrival) = message_in arrival
brought_by _ = []

abbrev pub messages_in : List Line → List Item
messages_in [] = []
messages_in (line ∷ lines) = brought_by line ++ messages_in lines

-- the messages of a race
abbrev pub race_items : ℕ → ℕ → List Item
race_items seed count = messages_in (generated seed count)

-- its session opens with nothing stored
abbrev pub race_opening : Opening
race_opening = record { count = 0; is_held = false }

abbrev pub hello_frame : Frame
hello_frame = record {
  kind = kinds.Hello;
  session = generated_row.id;
  number = 0;
  payload = greeting generated_row.low
      generated_row.high;
}

abbrev pub data_frame : Item → Frame
data_frame x = record { kind = kinds.Data; session = generated_row.id; number = x.number; payload = x.payload }

-- what the low party sends: a HELLO, and a DATA for each message
abbrev pub race_frames : ℕ → ℕ → List Frame
race_frames seed count = hello_frame ∷ map data_frame (race_items seed count)

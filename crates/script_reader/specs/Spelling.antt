-- The one spelling in which a line of a script is printed: digits in lower case, and `-` for no bytes.
use Rattle.std.specs.Prelude.{ℕ, List, [], ◌∷◌, ◌++◌, codes, decimal}
use Rattle.script_reader.specs.declared.line.Line.{Line}
use Rattle.script_reader.specs.declared.line.Line.TheVariants.{Skip, Session, LowSession, Coarse, Look, Told, Step}
use Rattle.script_reader.specs.declared.line.Line.TheVariants.{Gone, High, Carry, Return, Done, Restart}
use Rattle.script_reader.specs.declared.line.Line.TheVariants.{ReceiverRestart}
use Rattle.script_reader.specs.declared.line.ToldFeedback.{ToldFeedback}
use Rattle.script_reader.specs.declared.line.ToldFeedback.TheVariants.{Quiet, Full, Pair}
use Rattle.script_reader.specs.declared.line.Arriving.{Arriving}
use Rattle.script_reader.specs.declared.line.Arriving.TheVariants.{Nothing, Hello, Data, Raw}
use Rattle.script_reader.specs.Grammar.{spaced, row_fields, held_field, outcome_field}
use Rattle.script_reader.specs.Transcript.{line_with_end}
pub use Rattle.script_reader.specs.HexFields.{word_field, hex_field}

-- what comes with a look
abbrev pub arriving_fields : Arriving → List (List ℕ)
arriving_fields Nothing = []
arriving_fields (Hello low high) = codes "hello" ∷ low ∷ high ∷ []
arriving_fields (Data number payload) = codes "data" ∷ decimal number ∷ hex_field payload ∷ []
arriving_fields (Raw bytes) = codes "raw" ∷ hex_field bytes.items ∷ []

-- what is told of the passage
abbrev pub feedback_field : ToldFeedback → List ℕ
feedback_field Quiet = codes "-"
feedback_field Full = codes "full"
feedback_field (Pair count average) = decimal count ++ 47 ∷ decimal average

-- the fields of a line; a skipped one has none
abbrev pub line_fields : Line → List (List ℕ)
line_fields Skip = []
line_fields (Session row) = codes "session" ∷ row_fields row
line_fields (LowSession row next held) = codes "low-session" ∷ (row_fields row ++ decimal next ∷ held_field held ∷ [])
line_fields (Coarse session) = codes "coarse" ∷ decimal session ∷ []
line_fields (Look session moment word arrival) =
    codes "look" ∷ decimal session ∷ decimal moment ∷ word_field word ∷ arriving_fields arrival
line_fields (Told session moment word fault feedback arrival) =
    codes "told" ∷ decimal session ∷ decimal moment ∷ word_field word ∷ outcome_field fault ∷ feedback_field
    feedback ∷ arriving_fields arrival
line_fields (Step session moment word) = codes "step" ∷ decimal session ∷ decimal moment ∷ word_field word ∷ []
line_fields (Gone session moment) = codes "gone" ∷ decimal session ∷ decimal moment ∷ []
line_fields (High session moment) = codes "high" ∷ decimal session ∷ decimal moment ∷ []
line_fields (Carry session back) = codes "carry" ∷ decimal session ∷ decimal back ∷ []
line_fields (Return session moment back) = codes "return" ∷ decimal session ∷ decimal moment ∷ decimal back ∷ []
line_fields (Done session moment time) = codes "done" ∷ decimal session ∷ decimal moment ∷ decimal time ∷ []
line_fields (Restart session moment) = codes "restart" ∷ decimal session ∷ decimal moment ∷ []
line_fields (ReceiverRestart session moment) = codes "receiver-restart" ∷ decimal session ∷ decimal moment ∷ []

-- the line without its line end, and with it
abbrev pub line_spelling : Line → List ℕ
line_spelling line = spaced (line_fields line)

abbrev pub line_text : Line → List ℕ
line_text line = line_with_end (line_fields line)

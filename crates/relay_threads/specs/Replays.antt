-- What a record is replayed to. A list of looks has its newest look first.
use Rattle.std.specs.Prelude.{◌≡◌, Bool, true, false, List, [], ◌∷◌, ◌++◌, filter, IfSome}
use Rattle.std.specs.List.{AllByRecursion}
use Rattle.disk_model.specs.declared.name.Role.TheVariants as roles
use Rattle.pump_frame.specs.declared.row.SessionRow.{SessionRow}
use Rattle.pump_core.specs.History.{Arrival, Opening}
use Rattle.pump_core.specs.History.{Nothing, Came, Bad, Gone}
use Rattle.script_reader.specs.declared.event.Event.{Event}
use Rattle.script_reader.specs.declared.event.Event.TheVariants as prints
use Rattle.script_reader.specs.declared.fault.Fault.TheVariants.{Device}
use Rattle.script_reader.specs.declared.line.Line.TheVariants as lines
use Rattle.script_reader.specs.Alone.{tells_level}
use Rattle.script_reader.specs.Grammar.{IsLine}
use Rattle.script_reader.specs.Lows.{printed_replies}
use Rattle.script_reader.specs.Openings.{Openings}
use Rattle.script_reader.specs.Spelling.{line_spelling}
use Rattle.script_reader.specs.Sessions.{Sessions, no_sessions, ScriptLeadsTo, ScriptStops, IsScriptTranscript}
use Rattle.relay_threads.specs.Records.{Made, is_recorded, record_of, replies_made}
use Rattle.relay_threads.specs.RecordLines.{taken_by, tells_fault, told_of, line_of, opening_line, coarse_lines}
use Rattle.relay_threads.specs.RecordLines.{looks_script, record_script, HasLawfulFrame, IsReplyFrame}

-- ---- the connections of a life ----

-- whether bad bytes were taken on the connection, after this was taken
abbrev pub breaks : Arrival → Bool → Bool
breaks Bad was = true
breaks Gone was = false
breaks Nothing was = was
breaks (Came f) was = was

abbrev pub is_broken : List Made → Bool
is_broken [] = false
is_broken (m ∷ before) = breaks (taken_by m) (is_broken before)

-- bytes of the connection
abbrev pub has_bytes : Arrival → Bool
has_bytes (Came f) = true
has_bytes Bad = true
has_bytes Nothing = false
has_bytes Gone = false

-- after bad bytes nothing more is taken of a connection but its loss
abbrev pub AreConnected : List Made → Type 0
AreConnected [] = Unit {0}
AreConnected (m ∷ before) = (is_broken before ≡ true → has_bytes (taken_by m) ≡ false) × AreConnected before

-- each frame that was taken is lawful
abbrev pub TakeLawful : List Made → Type 0
TakeLawful made = AllByRecursion (λ m. HasLawfulFrame (taken_by m)) made

-- an average that was told is a level, where the session is coarse
abbrev pub TellsLevel : SessionRow → Made → Type 0
TellsLevel row m = tells_level row (told_of row m.look.feedback) ≡ true

-- so is each
abbrev pub TellLevels : SessionRow → List Made → Type 0
TellLevels row made = AllByRecursion (TellsLevel row) made

-- the newest look lost its message: the device failed
abbrev pub is_lost : List Made → Bool
is_lost [] = false
is_lost (m ∷ before) = tells_fault m.reply

-- ---- what is printed ----

-- a `low` line
abbrev pub is_reply : Event → Bool
is_reply (prints.Low session moment reply) = true
is_reply _ = false

-- the `low` lines of a transcript
abbrev pub low_events : List Event → List Event
low_events printed = filter is_reply printed

-- the replies of these looks as `low` lines, which are the comments of their record
abbrev pub reply_events : SessionRow → List Made → List Event
reply_events row made = printed_replies row.id (replies_made made)

-- the record's script has a transcript, whose `low` lines are the replies
pub record Replays (opens : Openings) (row : SessionRow) (o : Opening) (made : List Made) : Type 0 where
  pub printed : List Event
  pub transcript : IsScriptTranscript opens (record_script row o made) printed
  pub low : low_events printed ≡ reply_events row made

-- the last recorded look stops the record's script, as one whose device failed, and the `low` lines up to
-- and with it are the replies
pub record StopsAtLast (opens : Openings) (row : SessionRow) (o : Opening) (made : List Made) : Type 0 where
  pub last : Made
  pub before : List Made
  pub recorded : record_of made ≡ last ∷ before
  pub sessions : Sessions
  pub first : List Event
  pub leads : ScriptLeadsTo opens no_sessions (opening_line row o ∷ (coarse_lines row ++ looks_script row before))
      sessions first
  pub after : Sessions
  pub second : List Event
  pub stops : ScriptStops sessions (line_of row last) after second (Device row.id roles.Low)
  pub low : low_events (first ++ second) ≡ reply_events row made

-- ---- what a reader finds ----

-- the line of this look reads back, and its reply is one that a comment can tell
pub record IsReadable (row : SessionRow) (m : Made) : Type 0 where
  pub line : IsLine (line_of row m) (line_spelling (line_of row m))
  pub reply : IfSome m.reply IsReplyFrame

-- where a record has the look behind these
abbrev pub ReadsBack : SessionRow → List Made → Made → Type 0
ReadsBack row before m = is_recorded before m ≡ true → IsReadable row m

-- the lines that a record begins with read back
pub record BeginsReadable (row : SessionRow) (o : Opening) : Type 0 where
  pub opening : IsLine (opening_line row o) (line_spelling (opening_line row o))
  pub coarse : row.coarse ≡ true → IsLine (lines.Coarse row.id) (line_spelling (lines.Coarse row.id))

-- so do all lines of a record
pub record AreReadable (row : SessionRow) (o : Opening) (made : List Made) : Type 0 where
  pub opening : IsLine (opening_line row o) (line_spelling (opening_line row o))
  pub coarse : row.coarse ≡ true → IsLine (lines.Coarse row.id) (line_spelling (lines.Coarse row.id))
  pub looks : AllByRecursion (IsReadable row) (record_of made)

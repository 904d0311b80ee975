-- A record: the looks that are recorded, as a script of the low side alone. A list of looks has its newest
-- look first, a script its oldest line.
use Rattle.std.specs.Prelude.{◌≡◌, ℕ, Bool, true, false, ◌&&◌, ◌==◌, if◌then◌else◌, List, [], ◌∷◌, ◌++◌, Option, Some}
use Rattle.std.specs.Prelude.{None, option_map, codes, slice_index}
use Rattle.pump_frame.specs.Averages.{averaging_of, average_of}
use Rattle.pump_frame.specs.Frames.{IsLawful}
use Rattle.pump_frame.specs.Spellings.{spelling}
use Rattle.pump_frame.specs.declared.frame.Frame.{Frame}
use Rattle.pump_frame.specs.declared.frame.Kind.{Kind}
use Rattle.pump_frame.specs.declared.frame.Kind.TheVariants.{Welcome, Ack, Refuse}
use Rattle.pump_frame.specs.declared.row.SessionRow.{SessionRow}
use Rattle.pump_core.specs.declared.feedback.Feedback.{Feedback}
use Rattle.pump_core.specs.declared.feedback.Feedback.TheVariants.{Quiet, Full, Passed, Released, Repeat}
use Rattle.pump_core.specs.History.{Arrival, Opening}
use Rattle.pump_core.specs.History.{Nothing, Came, Bad, Gone}
use Rattle.pump_core.specs.Exchanges.{is_gone}
use Rattle.pump_core.specs.ReplyFrames.{frame_of}
use Rattle.low_process.specs.Looks.{arrival_of, look_of}
use Rattle.script_reader.specs.declared.line.Arriving.{Arriving}
use Rattle.script_reader.specs.declared.line.Arriving.TheVariants as arriving
use Rattle.script_reader.specs.declared.line.Line.{Line}
use Rattle.script_reader.specs.declared.line.Line.TheVariants as lines
use Rattle.script_reader.specs.declared.line.ToldFeedback.{ToldFeedback}
use Rattle.script_reader.specs.declared.line.ToldFeedback.TheVariants as told
use Rattle.script_reader.specs.declared.event.Event.TheVariants.{Low}
use Rattle.script_reader.specs.Spelling.{line_text}
use Rattle.script_reader.specs.Transcript.{event_line}
use Rattle.relay_threads.specs.Records.{Made, record_of}
use Rattle.relay_threads.specs.declared.record.LookMade.{LookMade}

-- ---- a look as a line ----

-- what the passage told; a release tells that no time was published
abbrev pub told_of : SessionRow → Feedback → ToldFeedback
told_of row Quiet = told.Quiet
told_of row Full = told.Full
told_of row (Passed seen) = told.Pair seen.count seen.average
told_of row Released = told.Pair 0 (average_of (averaging_of row) [])
told_of row (Repeat seen) = told.Pair seen.count seen.average

-- the arrival that a look took
abbrev pub taken_by : Made → Arrival
taken_by m = if m.taken then m.look.arrival else Nothing

-- .. as bytes for the reader of frames; bad bytes are one byte that begins no frame
abbrev pub arriving_of : Arrival → Arriving
arriving_of Nothing = arriving.Nothing
arriving_of (Came f) = arriving.Raw (record { items = spelling f })
arriving_of Bad = arriving.Raw (record { items = 0 ∷ [] })
arriving_of Gone = arriving.Nothing

abbrev pub is_refuse : Kind → Bool
is_refuse Refuse = true
is_refuse _ = false

-- the reply refuses because the device failed
abbrev pub tells_fault : Option Frame → Bool
tells_fault None = false
tells_fault (Some reply) = is_refuse reply.kind && slice_index reply.payload 0 == 5

-- the look as a line
abbrev pub line_of : SessionRow → Made → Line
line_of row m =
    if is_gone m.look.arrival then lines.Gone row.id m.look.moment
    else lines.Told row.id m.look.moment m.look.word (tells_fault m.reply) (told_of row m.look.feedback)
    (arriving_of (taken_by m))

-- the row without its ports, which no line has
abbrev pub without_ports : SessionRow → SessionRow
without_ports row = record row { low_port = 0; high_port = 0 }

-- .. and as the line of a session tells it, which is never coarse
abbrev pub told_row : SessionRow → SessionRow
told_row row = record row { low_port = 0; high_port = 0; coarse = false }

-- the line that a record begins with: what was found at the opening
abbrev pub opening_line : SessionRow → Opening → Line
opening_line row o = lines.LowSession (told_row row) o.count o.is_held

-- the record of a coarse session says so in its second line
abbrev pub coarse_lines : SessionRow → List Line
coarse_lines row = if row.coarse then lines.Coarse row.id ∷ [] else []

-- ---- a record as text ----

-- the comment of a reply
abbrev pub comment : SessionRow → ℕ → Option Frame → List ℕ
comment row moment None = []
comment row moment (Some reply) = codes "# " ++ event_line (Low row.id moment reply)

-- a look with the comment of its reply right behind it
abbrev pub look_text : SessionRow → Made → List ℕ
look_text row m = line_text (line_of row m) ++ comment row m.look.moment m.reply

abbrev pub looks_text : SessionRow → List Made → List ℕ
looks_text row [] = []
looks_text row (m ∷ before) = looks_text row before ++ look_text row m

-- the second line of a coarse session's record
abbrev pub coarse_text : SessionRow → List ℕ
coarse_text row = if row.coarse then line_text (lines.Coarse row.id) else []

-- what a record begins with
abbrev pub first_text : SessionRow → Opening → List ℕ
first_text row o = line_text (opening_line row o) ++ coarse_text row

-- the record of the looks that were made
abbrev pub record_text : SessionRow → Opening → List Made → List ℕ
record_text row o made = line_text (opening_line row o) ++ (coarse_text row ++ looks_text row (record_of made))

-- ---- a record as a script ----

-- a comment is a line that is skipped
abbrev pub comment_lines : Option Frame → List Line
comment_lines None = []
comment_lines (Some reply) = lines.Skip ∷ []

abbrev pub looks_script : SessionRow → List Made → List Line
looks_script row [] = []
looks_script row (m ∷ before) = looks_script row before ++ line_of row m ∷ comment_lines m.reply

abbrev pub record_script : SessionRow → Opening → List Made → List Line
record_script row o made = opening_line row o ∷ (coarse_lines row ++ looks_script row (record_of made))

-- ---- what is handed over ----

-- a look that the code made: its reply is a frame in the session of the row, and its device failed
-- exactly where it refuses so
abbrev pub made_by : SessionRow → LookMade → Made
made_by row m =
    let reply : Option Frame = option_map (frame_of row.id) m.look.reply in
    record {
      look = look_of m.moment m.word (arrival_of m.arrival) (tells_fault reply) m.look.feedback;
      taken = m.look.taken;
      reply = reply;
    }

-- a frame that came is lawful
abbrev pub HasLawfulFrame : Arrival → Type 0
HasLawfulFrame (Came f) = IsLawful f
HasLawfulFrame _ = Unit {0}

abbrev pub is_reply_kind : Kind → Bool
is_reply_kind Welcome = true
is_reply_kind Ack = true
is_reply_kind Refuse = true
is_reply_kind _ = false

-- a lawful WELCOME, ACK or REFUSE
abbrev pub IsReplyFrame : Frame → Type 0
IsReplyFrame f = IsLawful f × (is_reply_kind f.kind ≡ true)

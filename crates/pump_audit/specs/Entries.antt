-- The lines of a record, and which text each of them is.
use Rattle.std.specs.Prelude.{◌≡◌, ℕ, ◌^◌, ◌<◌, ◌≤◌, false, List, [], ◌∷◌, length, codes, decimal}
use Rattle.pump_frame.specs.Frames.{IsLawful}
use Rattle.pump_frame.specs.Rows.{IsLawfulRow}
use Rattle.pump_frame.specs.Spellings.{spelling}
use Rattle.pump_core.specs.History.{Arrival}
use Rattle.pump_core.specs.History.{Nothing, Came, Bad, Gone}
use Rattle.pump_core.specs.ReplyFrames.{frame_of, IsLawfulReply}
use Rattle.script_reader.specs.declared.line.Arriving.{Arriving}
use Rattle.script_reader.specs.declared.line.Arriving.TheVariants as arriving
use Rattle.script_reader.specs.declared.line.Line.{Line}
use Rattle.script_reader.specs.declared.line.Line.TheVariants as lines
use Rattle.script_reader.specs.declared.line.ToldFeedback.TheVariants as told
use Rattle.script_reader.specs.declared.event.Event.TheVariants as events
use Rattle.script_reader.specs.Grammar.{spaced, IsLine}
use Rattle.script_reader.specs.Transcript.{event_fields}
use Rattle.pump_audit.specs.Texts.{longest}
use Rattle.pump_audit.specs.declared.entry.Coming.{Coming}
use Rattle.pump_audit.specs.declared.entry.Coming.TheVariants as coming
use Rattle.pump_audit.specs.declared.entry.LookLine.{LookLine}
use Rattle.pump_audit.specs.declared.entry.Note.{Note}
use Rattle.pump_audit.specs.declared.entry.Note.TheVariants as notes
use Rattle.pump_audit.specs.declared.entry.Entry.{Entry}
use Rattle.pump_audit.specs.declared.entry.Entry.TheVariants as entries

-- ---- looks ----

-- what the look was offered, in the words of a history
abbrev pub arrival_of : Coming → Arrival
arrival_of coming.Nothing = Nothing
arrival_of (coming.Frame f) = Came f
arrival_of coming.Bad = Bad
arrival_of coming.Gone = Gone

-- the line of a look with a connection: a frame is told by its bytes, and bad bytes by one byte that
-- begins no frame
abbrev pub told_line : LookLine → Arriving → Line
told_line l a = lines.Told l.session l.moment l.word l.is_fault l.told a

abbrev pub line_in : LookLine → Coming → Line
line_in l coming.Nothing = told_line l arriving.Nothing
line_in l (coming.Frame f) = told_line l (arriving.Raw (record { items = spelling f }))
line_in l coming.Bad = told_line l (arriving.Raw (record { items = 0 ∷ [] }))
line_in l coming.Gone = lines.Gone l.session l.moment

abbrev pub line_of : LookLine → Line
line_of l = line_in l l.coming

-- a frame is lawful, and a look without a connection has no word, no fault and nothing told
abbrev pub IsPlainIn : LookLine → Coming → Type 0
IsPlainIn l coming.Nothing = Unit {0}
IsPlainIn l (coming.Frame f) = IsLawful f
IsPlainIn l coming.Bad = Unit {0}
IsPlainIn l coming.Gone = (l.word ≡ 0) × (l.is_fault ≡ false) × (l.told ≡ told.Quiet)

abbrev pub IsPlain : LookLine → Type 0
IsPlain l = IsPlainIn l l.coming

-- ---- comments ----

-- the fields of a comment behind its mark: a `low` line, or a number of a race
abbrev pub note_fields : Note → List (List ℕ)
note_fields (notes.Low session moment reply) = event_fields (events.Low session moment (frame_of session reply))
note_fields (notes.Time micros) = codes "time" ∷ decimal micros ∷ []
note_fields (notes.Took count) = codes "took" ∷ decimal count ∷ []
note_fields (notes.End accepted removed) = codes "end" ∷ decimal accepted ∷ decimal removed ∷ []

-- its numbers are in their ranges
abbrev pub IsInRange : Note → Type 0
IsInRange (notes.Low session moment reply) = (session < 2 ^ 32) × (moment ≤ 2 ^ 62) × IsLawfulReply reply
IsInRange (notes.Time micros) = micros ≤ 10 ^ 9
IsInRange (notes.Took count) = count < 2 ^ 64
IsInRange (notes.End accepted removed) = (accepted < 2 ^ 64) × (removed < 2 ^ 64)

abbrev pub note_text : Note → List ℕ
note_text note = spaced (codes "#" ∷ note_fields note)

-- ---- lines ----

-- the text, without a line end, is this line of a record
abbrev pub IsEntry : Entry → List ℕ → Type 0
IsEntry (entries.Opening row next is_held) text = IsLine (lines.LowSession row next is_held) text × IsLawfulRow row
IsEntry (entries.Coarse session) text = IsLine (lines.Coarse session) text
IsEntry (entries.Look line) text = IsLine (line_of line) text × IsPlain line
IsEntry (entries.Comment note) text = IsInRange note × (text ≡ note_text note) × (length text ≤ longest)

-- Reading a comment field by field, as the code does it, and the lines that a script's reader gives. It serves
-- private clauses and proofs alone.
use Rattle.std.specs.Prelude.{◌≡◌, ℕ, ◌+◌, ◌^◌, ◌≤◌, ◌==◌, if◌then◌else◌, List, [], ◌∷◌, codes, Option, None, Some}
use Rattle.std.specs.List.{slice_split}
use Rattle.std.specs.Str.{bytes_eq}
use Rattle.pump_frame.specs.Frames.{IsLawful}
use Rattle.pump_frame.specs.Rows.{IsLawfulRow}
use Rattle.pump_frame.specs.Spellings.{spelling}
use Rattle.pump_core.specs.declared.reply.Refusal.{Refusal}
use Rattle.pump_core.specs.declared.reply.Refusal.TheVariants as refusals
use Rattle.pump_core.specs.declared.reply.Reply.{Reply}
use Rattle.pump_core.specs.declared.reply.Reply.TheVariants.{Welcome, Ack, Refuse}
use Rattle.script_reader.specs.Fields.{is_space}
use Rattle.script_reader.specs.Parsing.{◌>>=◌, field_at, number, at_end}
use Rattle.script_reader.specs.Lawful.{IsLawfulFeedback, IsLawfulLine}
use Rattle.script_reader.specs.declared.line.Arriving.{Arriving}
use Rattle.script_reader.specs.declared.line.Arriving.TheVariants as arriving
use Rattle.script_reader.specs.declared.line.Line.{Line}
use Rattle.script_reader.specs.declared.line.Line.TheVariants as lines
use Rattle.pump_audit.specs.declared.entry.Coming.{Coming}
use Rattle.pump_audit.specs.declared.entry.Coming.TheVariants as coming
use Rattle.pump_audit.specs.declared.entry.Note.{Note}
use Rattle.pump_audit.specs.declared.entry.Note.TheVariants.{Low, Time, Took, End}
use Rattle.pump_audit.specs.declared.entry.Entry.{Entry}
use Rattle.pump_audit.specs.declared.entry.Entry.TheVariants as entries
use Rattle.pump_audit.specs.Entries.{line_of, IsPlain, IsInRange}

-- ---- comments ----

unfoldable pub refusal_of : ℕ → Option Refusal
refusal_of code =
    if code == 1 then Some refusals.Pair
    else if code == 2 then Some refusals.Frame
    else if code == 3 then Some refusals.Size
    else if code == 4 then Some refusals.Step
    else if code == 5 then Some refusals.Device
    else None

unfoldable pub welcome_of : List (List ℕ) → Option Reply
welcome_of fields = do
  n ← field_at (number (2 ^ 48 + 1)) fields
  at_end (Welcome n.0) n.1

unfoldable pub ack_of : List (List ℕ) → Option Reply
ack_of fields = do
  n ← field_at (number (2 ^ 48)) fields
  at_end (Ack n.0) n.1

unfoldable pub refuse_of : List (List ℕ) → Option Reply
refuse_of fields = do
  code ← field_at (number 6) fields
  why ← refusal_of code.0
  n ← field_at (number (2 ^ 48 + 1)) code.1
  at_end (Refuse why n.0) n.1

unfoldable pub reply_of : List (List ℕ) → Option Reply
reply_of [] = None
reply_of (word ∷ fields) =
    if bytes_eq word (codes "welcome") then welcome_of fields
    else if bytes_eq word (codes "ack") then ack_of fields
    else if bytes_eq word (codes "refuse") then refuse_of fields
    else None

unfoldable pub low_of : List (List ℕ) → Option Note
low_of fields = do
  session ← field_at (number (2 ^ 32)) fields
  moment ← field_at (number (2 ^ 62 + 1)) session.1
  reply ← reply_of moment.1
  Some (Low session.0 moment.0 reply)

unfoldable pub time_of : List (List ℕ) → Option Note
time_of fields = do
  micros ← field_at (number (10 ^ 9 + 1)) fields
  at_end (Time micros.0) micros.1

unfoldable pub took_of : List (List ℕ) → Option Note
took_of fields = do
  count ← field_at (number (2 ^ 64)) fields
  at_end (Took count.0) count.1

unfoldable pub end_of : List (List ℕ) → Option Note
end_of fields = do
  accepted ← field_at (number (2 ^ 64)) fields
  removed ← field_at (number (2 ^ 64)) accepted.1
  at_end (End accepted.0 removed.0) removed.1

-- behind the mark
unfoldable pub marked : List (List ℕ) → Option Note
marked [] = None
marked (word ∷ fields) =
    if bytes_eq word (codes "low") then low_of fields
    else if bytes_eq word (codes "time") then time_of fields
    else if bytes_eq word (codes "took") then took_of fields
    else if bytes_eq word (codes "end") then end_of fields
    else None

unfoldable pub note_of : List (List ℕ) → Option Note
note_of [] = None
note_of (mark ∷ fields) = if bytes_eq mark (codes "#") then marked fields else None

unfoldable pub note_at : List ℕ → Option Note
note_at text = note_of (slice_split is_space text)

-- ---- lines of a script ----

-- what comes with the line of a look
abbrev pub IsComing : Coming → Arriving → Type 0
IsComing coming.Nothing a = a ≡ arriving.Nothing
IsComing (coming.Frame f) a = (a ≡ arriving.Raw (record { items = spelling f })) × IsLawful f
IsComing coming.Bad a = a ≡ arriving.Raw (record { items = 0 ∷ [] })
IsComing coming.Gone a = ⊥

-- a line of a script is this line of a record
abbrev pub IsScript : Entry → Line → Type 0
IsScript (entries.Opening row next is_held) line = (line ≡ lines.LowSession row next is_held) × IsLawfulRow row
IsScript (entries.Coarse session) line = line ≡ lines.Coarse session
IsScript (entries.Look look) line = (line ≡ line_of look) × IsPlain look
IsScript (entries.Comment note) line = ⊥

-- a moment is at most 2^62, an average at most 10^9, and a count at most 2^48
abbrev pub IsSmall : Entry → Type 0
IsSmall (entries.Opening row next is_held) = IsLawfulLine (lines.LowSession row next is_held)
IsSmall (entries.Coarse session) = Unit {0}
IsSmall (entries.Look look) = (look.moment ≤ 2 ^ 62) × IsLawfulFeedback look.told
IsSmall (entries.Comment note) = IsInRange note

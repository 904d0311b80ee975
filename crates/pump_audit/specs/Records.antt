-- What the lines of a record tell so far, and what may come next. Looks and claims stand with the newest
-- first, comments and times with the oldest.
use Rattle.std.specs.Prelude.{◌≡◌, ℕ, ◌+◌, ◌≤◌, Bool, true, false, ◌&&◌, ◌==◌, List, [], ◌∷◌, ◌++◌, Option, Some, None}
use Rattle.std.specs.Prelude.{option_map, is_some, slice_index}
use Rattle.pump_frame.specs.Averages.{averaging_of, average_of}
use Rattle.pump_frame.specs.declared.frame.Frame.{Frame}
use Rattle.pump_frame.specs.declared.frame.Kind.{Kind}
use Rattle.pump_frame.specs.declared.frame.Kind.TheVariants.{Refuse}
use Rattle.pump_frame.specs.declared.row.SessionRow.{SessionRow}
use Rattle.pump_core.specs.declared.feedback.Feedback.{Feedback}
use Rattle.pump_core.specs.declared.feedback.Feedback.TheVariants.{Quiet, Full, Passed, Released, Repeat}
use Rattle.pump_core.specs.History.{Look, Opening, History, looked}
use Rattle.pump_core.specs.Exchanges.{Part, IsCut}
use Rattle.pump_core.specs.Comings.{is_nothing}
use Rattle.pump_core.specs.ReplyFrames.{frame_of}
use Rattle.pump_core.specs.Replies.{Sent, sent, LowReplies, takes}
use Rattle.pump_core.specs.Standing.{last_moment}
use Rattle.script_reader.specs.declared.line.ToldFeedback.{ToldFeedback}
use Rattle.script_reader.specs.declared.line.ToldFeedback.TheVariants as told
use Rattle.script_reader.specs.Alone.{tells_level}
use Rattle.pump_audit.specs.declared.claims.Claim.{Claim}
use Rattle.pump_audit.specs.declared.entry.Note.{Note}
use Rattle.pump_audit.specs.declared.entry.Note.TheVariants as notes
use Rattle.pump_audit.specs.declared.entry.LookLine.{LookLine}
use Rattle.pump_audit.specs.declared.entry.Entry.{Entry}
use Rattle.pump_audit.specs.declared.entry.Entry.TheVariants as entries
use Rattle.pump_audit.specs.declared.form.RecordPlace.{RecordPlace}
use Rattle.pump_audit.specs.declared.form.RecordPlace.TheVariants as places
use Rattle.pump_audit.specs.declared.form.Form.{Form}
use Rattle.pump_audit.specs.Entries.{arrival_of}
use Rattle.pump_audit.specs.Places.{behind}

pub record Record : Type 0 where
  -- the row, coarse where a line says so, and what was found at the opening
  pub row : SessionRow
  pub opening : Opening
  -- where it stands, and how many lines it has
  pub place : RecordPlace
  pub lines : ℕ
  pub looks : List Look
  -- the replies that its comments tell
  pub comments : List Sent
  -- the pairs of count and average that its looks tell
  pub claims : List Claim
  pub times : List ℕ
  -- the numbers at its end, and 0 before
  pub taken : ℕ
  pub accepted : ℕ
  pub removed : ℕ

abbrev pub form_of : Record → Form
form_of r = record { session = r.row.id; place = r.place }

-- .. of a record that may have no line yet
abbrev pub form_in : Option Record → Option Form
form_in r = option_map form_of r

abbrev pub lines_in : Option Record → ℕ
lines_in None = 0
lines_in (Some r) = r.lines

-- the looks so far are one life
abbrev pub history_of : Record → History
history_of r = record { life = record { opening = r.opening; looks = r.looks }; earlier = [] }

-- ---- looks ----

-- what a line tells of the passage may be this feedback: a pair is what was read of High's times, or, as
-- one of no time, that a message was released
abbrev pub Means : SessionRow → ToldFeedback → Feedback → Type 0
Means row t Quiet = t ≡ told.Quiet
Means row t Full = t ≡ told.Full
Means row t (Passed seen) = (t ≡ told.Pair seen.count seen.average) × (tells_level row t ≡ true)
Means row t Released = t ≡ told.Pair 0 (average_of (averaging_of row) [])
Means row t (Repeat seen) = (t ≡ told.Pair seen.count seen.average) × (tells_level row t ≡ true)

-- the look of a line, with this feedback
abbrev pub look_of : LookLine → Feedback → Look
look_of l feedback = record {
  moment = l.moment;
  word = l.word;
  arrival = arrival_of l.coming;
  is_fault = l.is_fault;
  feedback = feedback;
}

-- the newest look lost its message
abbrev pub is_lost : List Look → Bool
is_lost [] = false
is_lost (x ∷ past) = x.is_fault

abbrev pub is_refuse : Kind → Bool
is_refuse Refuse = true
is_refuse _ = false

-- the reply refuses because the device failed
abbrev pub tells_fault : Option Frame → Bool
tells_fault None = false
tells_fault (Some reply) = is_refuse reply.kind && slice_index reply.payload 0 == 5

-- the look goes on with the life
pub record IsNextLook (row : SessionRow) (h : History) (x : Look) : Type 0 where
  -- no moment falls, and no look follows one that lost its message
  pub order : last_moment h.life.looks ≤ x.moment
  pub goes_on : is_lost h.life.looks ≡ false
  -- the life with it is cut into exchanges, so it has the feedback of its part; and it takes what it is offered
  pub parts : List Part
  pub cut : IsCut row (looked h x).life parts
  pub taken : is_nothing x.arrival ≡ false → takes parts ≡ true
  -- it is told as a fault where its reply says so, and only there
  pub reply : Option Frame
  pub replies : (before : List Sent) → LowReplies row h before → LowReplies row (looked h x) (before ++ sent x reply)
  pub outcome : x.is_fault ≡ tells_fault reply

-- the look of this line goes on with the record's life, with this feedback
abbrev pub GoesOn : Record → LookLine → Feedback → Type 0
GoesOn r l f = Means r.row l.told f × IsNextLook r.row (history_of r) (look_of l f)

-- ---- comments ----

-- the reply that a line tells, if it is the comment of one
abbrev pub told_by_note : Note → List Sent
told_by_note (notes.Low session moment reply) = record { moment = moment; reply = frame_of session reply } ∷ []
told_by_note _ = []

abbrev pub told_by : Entry → List Sent
told_by (entries.Comment note) = told_by_note note
told_by _ = []

-- the comments, with these more, are all replies of the looks so far
abbrev pub AreTold : Record → List Sent → Type 0
AreTold r more = LowReplies r.row (history_of r) (r.comments ++ more)

-- ---- one more line ----

-- what the opening line tells
abbrev pub begun : SessionRow → ℕ → Bool → Record
begun row next is_held = record {
  row = row;
  opening = record { count = next; is_held = is_held };
  place = places.Opening;
  lines = 1;
  looks = [];
  comments = [];
  claims = [];
  times = [];
  taken = 0;
  accepted = 0;
  removed = 0;
}

-- the record with one more line, behind which it stands there
abbrev pub with_line : Record → RecordPlace → Record
with_line r place = record r { place = place; lines = r.lines + 1 }

-- the pair that a feedback tells, with the number of its line
abbrev pub claims_of : Feedback → ℕ → List Claim
claims_of (Passed seen) line = record { count = seen.count; average = seen.average; line = line } ∷ []
claims_of (Repeat seen) line = record { count = seen.count; average = seen.average; line = line } ∷ []
claims_of _ line = []

abbrev pub with_look : Record → Look → Record
with_look r x = record (with_line r places.Looks) {
  looks = x ∷ r.looks;
  claims = claims_of x.feedback
      (r.lines + 1) ++ r.claims;
}

abbrev pub with_note : Record → Note → Record
with_note r (notes.Low session moment reply) =
    record (with_line r places.Looks) { comments = r.comments ++ told_by_note (notes.Low session moment reply) }
with_note r (notes.Time micros) = record (with_line r places.Times) { times = r.times ++ micros ∷ [] }
with_note r (notes.Took count) = record (with_line r places.Taken) { taken = count }
with_note r (notes.End accepted removed) = record (with_line r places.End) { accepted = accepted; removed = removed }

abbrev pub made_coarse : Record → Record
made_coarse r = record (with_line r places.Looks) { row = record r.row { coarse = true } }

-- q is r with this line
abbrev pub Adds : Record → Entry → Record → Type 0
Adds r (entries.Opening row next is_held) q = ⊥
Adds r (entries.Coarse session) q = q ≡ made_coarse r
Adds r (entries.Look line) q = (f : Feedback) × GoesOn r line f × (q ≡ with_look r (look_of line f))
Adds r (entries.Comment note) q = q ≡ with_note r note

-- the line stands in its place, and the comments up to it, and with it, are all replies up to there; and
-- then q is the record with it
abbrev pub Follows : Option Record → Entry → Record → Type 0
Follows None (entries.Opening row next is_held) q = q ≡ begun row next is_held
Follows None _ q = ⊥
Follows (Some r) e q = (is_some (behind (Some (form_of r)) e) ≡ true) × AreTold r (told_by e) × Adds r e q

-- .. in its place, and the life goes on with it, whatever the comments are
abbrev pub Continues : Option Record → Entry → Record → Type 0
Continues None (entries.Opening row next is_held) q = q ≡ begun row next is_held
Continues None _ q = ⊥
Continues (Some r) e q = (is_some (behind (Some (form_of r)) e) ≡ true) × Adds r e q

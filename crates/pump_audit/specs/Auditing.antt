-- What the code that checks a record stands for. It serves private clauses and proofs alone.
use Rattle.std.specs.Prelude.{◌≡◌, ◌⊎◌, ℕ, ◌+◌, ◌^◌, ◌≤◌, true, List, [], ◌∷◌, ◌++◌, length, Option, None, Some}
use Rattle.pump_frame.specs.Averages.{averaging_of}
use Rattle.pump_frame.specs.declared.row.SessionRow.{SessionRow}
use Rattle.moving_avg.specs.Windows.{HoldsTimes, averaging_in}
use Rattle.moving_avg.specs.declared.Window.{Window}
use Rattle.pump_core.specs.declared.feedback.Feedback.{Feedback}
use Rattle.pump_core.specs.declared.reply.Reply.{Reply}
use Rattle.pump_core.specs.History.{Look, Opening, History}
use Rattle.pump_core.specs.ReplyFrames.{frame_of}
use Rattle.pump_core.specs.Replies.{Sent, LowReplies}
use Rattle.pump_core.specs.Standing.{StandsAt}
use Rattle.pump_core.specs.Step.{opened}
use Rattle.pump_audit.specs.declared.state.Audit.{Audit}
use Rattle.pump_audit.specs.declared.claims.Claim.{Claim}
use Rattle.pump_audit.specs.declared.claims.Claims.{Claims}
use Rattle.pump_audit.specs.declared.entry.LookLine.{LookLine}
use Rattle.pump_audit.specs.declared.entry.Note.{Note}
use Rattle.pump_audit.specs.declared.form.Form.{Form}
use Rattle.pump_audit.specs.declared.form.RecordPlace.{RecordPlace}
use Rattle.pump_audit.specs.declared.form.RecordPlace.TheVariants as places
use Rattle.pump_audit.specs.declared.life.Life.{Life}
use Rattle.script_reader.specs.Lawful.{IsLawfulFeedback}
use Rattle.pump_frame.specs.Rows.{IsLawfulRow}
use Rattle.pump_audit.specs.declared.entry.Entry.{Entry}
use Rattle.pump_audit.specs.declared.entry.Entry.TheVariants as entries
use Rattle.pump_audit.specs.declared.verdict.Verdict.{Verdict}
use Rattle.pump_audit.specs.declared.verdict.Verdict.TheVariants.{Yes, No}
use Rattle.pump_audit.specs.Claims.{has_end, AreRight, IsFirstWrong}
use Rattle.pump_audit.specs.Entries.{IsEntry, IsPlain, IsInRange}
use Rattle.pump_audit.specs.Machine.{state_of, is_down}
use Rattle.pump_audit.specs.Pairs.{Keeps, Fell, Meets}
use Rattle.pump_audit.specs.Places.{is_opening, may_end}
use Rattle.pump_audit.specs.Records.{Record, begun, is_lost, GoesOn, told_by_note, AreTold, look_of, with_look}
use Rattle.pump_audit.specs.Records.{with_note, form_of, Follows}
use Rattle.pump_audit.specs.Verdicts.{acknowledgements, Begins, HasCause, IsMisplaced, IsBroken, IsMistold, EndHasCause}
use Rattle.pump_audit.specs.Verdicts.{IsRightEnd}

-- one life with these looks
abbrev pub history_in : Opening → List Look → History
history_in o looks = record { life = record { opening = o; looks = looks }; earlier = [] }

-- the reply of the last look, which has no comment yet
abbrev pub owed_in : SessionRow → ℕ → Option Reply → List Sent
owed_in row moment None = []
owed_in row moment (Some reply) = record { moment = moment; reply = frame_of row.id reply } ∷ []

-- the process stands for the life, and the comments tell all its replies but the one that is owed
pub record LivesIn (life : Life) (owed : Option Reply) (row : SessionRow) (o : Opening) (looks : List Look)
    (comments : List Sent) : Type 0 where
  pub own_row : life.row ≡ row
  pub stands : StandsAt row (state_of life) life.last (history_in o looks)
  pub lost : is_down (state_of life).phase ≡ is_lost looks
  pub replies : LowReplies row (history_in o looks) (comments ++ owed_in row life.last owed)

-- which of the claims the times have met, by where the record stands
abbrev pub MeetsAt : RecordPlace → SessionRow → List ℕ → List Claim → ℕ → Type 0
MeetsAt places.Opening row times pairs met = (met ≡ 0) × (times ≡ [])
MeetsAt places.Looks row times pairs met = (met ≡ 0) × (times ≡ [])
MeetsAt places.Times row times pairs met = Meets (averaging_of row) times (length times) pairs met
MeetsAt places.Taken row times pairs met = Meets (averaging_of row) times (length times + 1) pairs met
MeetsAt places.End row times pairs met = Meets (averaging_of row) times (length times + 1) pairs met

-- the claims are kept, and the times
pub record Held (kept : Claims) (window : Window) (place : RecordPlace) (row : SessionRow) (claims : List Claim)
    (times : List ℕ) : Type 0 where
  pub keeps : Keeps claims kept.pairs.items
  pub fell : Fell claims kept.greatest kept.fall
  pub holds : HoldsTimes window times
  pub averaging : averaging_in window ≡ averaging_of row
  pub meets : MeetsAt place row times kept.pairs.items kept.met

-- nothing came behind the opening
pub record IsFresh (a : Audit) (r : Record) : Type 0 where
  pub is_begun : r ≡ begun r.row r.opening.count r.opening.is_held
  pub state : state_of a.life ≡ opened r.opening
  pub last : a.life.last ≡ 0
  pub owed : a.owed ≡ None

-- all that was told, as numbers
pub record Counts (a : Audit) (r : Record) : Type 0 where
  pub place : a.place ≡ r.place
  pub lines : a.lines ≡ r.lines
  pub looks : a.looks ≡ length r.looks
  pub acks : a.acks ≡ acknowledgements r.comments
  pub taken : a.taken ≡ r.taken
  pub accepted : a.accepted ≡ r.accepted
  pub removed : a.removed ≡ r.removed

pub record Audits (a : Audit) (r : Record) : Type 0 where
  pub life : LivesIn a.life a.owed r.row r.opening r.looks r.comments
  pub held : Held a.claims a.window r.place r.row r.claims r.times
  pub counts : Counts a r
  pub fresh : is_opening r.place ≡ true → IsFresh a r

abbrev pub form_of_audit : Audit → Form
form_of_audit a = record { session = a.life.row.id; place = a.place }

-- ---- what a line makes of it ----

-- the cause on the line of a look, or what stands behind it
abbrev pub LookIs : Record → LookLine → Audit → Option ℕ → Type 0
LookIs r line new None = (f : Feedback) × GoesOn r line f × AreTold r [] × Audits new (with_look r (look_of line f))
LookIs r line new (Some cause) =
    ((cause ≡ 2) × ((f : Feedback) → GoesOn r line f → ⊥))
    ⊎ ((cause ≡ 3) × (f : Feedback) × GoesOn r line f × (AreTold r [] → ⊥))

-- .. of a comment
abbrev pub NoteIs : Record → Note → Audit → Option ℕ → Type 0
NoteIs r note new None = AreTold r (told_by_note note) × Audits new (with_note r note)
NoteIs r note new (Some cause) = (cause ≡ 3) × (AreTold r (told_by_note note) → ⊥)

-- .. of any line that stands in its place
abbrev pub EntryIs : Record → Entry → Audit → Option ℕ → Type 0
EntryIs r e new None = (q : Record) × Follows (Some r) e q × Audits new q
EntryIs r e new (Some cause) =
    ((cause ≡ 2) × IsBroken (Some r) e)
    ⊎ ((cause ≡ 3) × (IsBroken (Some r) e → ⊥) × IsMistold (Some r) e)

-- .. of a text
abbrev pub TextIs : Record → List ℕ → Audit → Option ℕ → Type 0
TextIs r text new None = (e : Entry) × IsEntry e text × (q : Record) × Follows (Some r) e q × Audits new q
TextIs r text new (Some cause) = HasCause (Some r) text cause

-- the numbers of a line are in their ranges
abbrev pub IsGood : Entry → Type 0
IsGood (entries.Opening row next is_held) = IsLawfulRow row
IsGood (entries.Coarse session) = Unit {0}
IsGood (entries.Look line) = (line.moment ≤ 2 ^ 62) × IsLawfulFeedback line.told × IsPlain line
IsGood (entries.Comment note) = IsInRange note

-- ---- the end ----

-- the record may end here, with a comment for each reply
pub record IsEnded (r : Record) : Type 0 where
  pub ends : may_end (Some (form_of r)) ≡ true
  pub told : AreTold r []

-- what is said of the record at the end of the bytes
abbrev pub EndIs : Record → Verdict → Type 0
EndIs r (Yes looks acks times) = IsEnded r × AreRight r r.claims × (has_end r ≡ true → IsRightEnd r)
    × (looks ≡ length r.looks) × (acks ≡ acknowledgements r.comments) × (times ≡ length r.times)
EndIs r (No line cause) =
    (EndHasCause (Some r) cause × (line ≡ r.lines + 1))
    ⊎ (IsEnded r × (cause ≡ 4) × IsFirstWrong r r.claims line)
    ⊎ (IsEnded r × AreRight r r.claims × (cause ≡ 5) × (has_end r ≡ true) × (IsRightEnd r → ⊥) × (line ≡ r.lines))

-- ---- a stream ----

-- the audit stands for what came of these bytes, and this is still to come
pub record Reads (bytes : List ℕ) (a : Audit) (to_come : Option (List ℕ)) : Type 0 where
  pub so_far : Record
  pub rest : List ℕ
  pub audits : Audits a so_far
  pub begins : Begins bytes (Some so_far) rest
  pub known : to_come ≡ Some rest

-- the text opens a record, or is no first line of one
abbrev pub OpensAs : List ℕ → Option Audit → Type 0
OpensAs text None = IsMisplaced None text
OpensAs text (Some a) = (e : Entry) × IsEntry e text × (q : Record) × Follows None e q × Audits a q × (q.lines ≡ 1)

-- When a record is clean, and what is wrong with one that is not. A fault has its line and its cause:
--   1  the line is none of a record, or out of its place
--   2  the looks so far are no beginning of a life
--   3  a reply has no comment, or a comment has no such reply
--   4  the count or the average that a look tells is wrong
--   5  the numbers at the end are wrong
-- The first line with one of the causes 1 to 3 counts, and on it the least cause; where there is none, the
-- first line with cause 4, and then cause 5. The end of the bytes stands in the line behind the last.
use Rattle.std.specs.Prelude.{◌≡◌, ◌≢◌, ◌⊎◌, ℕ, ◌+◌, ◌^◌, ◌<◌, ◌≤◌, Bool, true, false, List, [], ◌∷◌, ◌++◌, length}
use Rattle.std.specs.Prelude.{count_by, Option, Some, None, is_some}
use Rattle.pump_frame.specs.declared.frame.Kind.{Kind}
use Rattle.pump_frame.specs.declared.frame.Kind.TheVariants.{Ack}
use Rattle.pump_core.specs.declared.feedback.Feedback.{Feedback}
use Rattle.pump_core.specs.Exchanges.{Part, count_after, IsCut}
use Rattle.pump_core.specs.Replies.{Sent}
use Rattle.pump_audit.specs.declared.entry.Entry.{Entry}
use Rattle.pump_audit.specs.declared.entry.Entry.TheVariants as entries
use Rattle.pump_audit.specs.declared.verdict.Verdict.{Verdict}
use Rattle.pump_audit.specs.declared.verdict.Verdict.TheVariants.{Yes, No}
use Rattle.pump_audit.specs.Claims.{has_end, AreRight, IsFirstWrong}
use Rattle.pump_audit.specs.Entries.{IsEntry}
use Rattle.pump_audit.specs.Places.{behind, may_end}
use Rattle.pump_audit.specs.Records.{Record, form_of, form_in, lines_in, history_of, GoesOn, told_by, AreTold, Follows}
use Rattle.pump_audit.specs.Records.{Continues}
use Rattle.pump_audit.specs.Texts.{IsText, IsCut as IsCutOff}

-- ---- the lines that are right ----

-- the lines, without their ends, are those of this record, each with none of the causes 1 to 3
abbrev pub RecordOf : List (List ℕ) → Option Record → Type 0
RecordOf [] r = r ≡ None
RecordOf (text ∷ before) r = (was : Option Record) × RecordOf before was × IsText text × (e : Entry) × IsEntry e text
    × (q : Record) × Follows was e q × (r ≡ Some q)

-- the bytes of these lines, and then the rest
abbrev pub joined : List (List ℕ) → List ℕ → List ℕ
joined [] rest = rest
joined (text ∷ before) rest = joined before (text ++ 10 ∷ rest)

-- the bytes begin with lines of this record, and this is left; a line's number is below 2^32
pub record Begins (bytes : List ℕ) (r : Option Record) (rest : List ℕ) : Type 0 where
  pub texts : List (List ℕ)
  pub record_of : RecordOf texts r
  pub whole : bytes ≡ joined texts rest
  pub few : lines_in r < 2 ^ 32

-- ---- the causes 1 to 3 ----

-- the text is no line of a record that may stand behind this one
abbrev pub IsMisplaced : Option Record → List ℕ → Type 0
IsMisplaced r text = (e : Entry) → IsEntry e text → behind (form_in r) e ≡ None

-- the line is a look that does not go on with the life
abbrev pub IsBroken : Option Record → Entry → Type 0
IsBroken (Some r) (entries.Look line) = (f : Feedback) → GoesOn r line f → ⊥
IsBroken _ _ = ⊥

-- a comment is missing before the line, or the line is a wrong one
abbrev pub IsMistold : Option Record → Entry → Type 0
IsMistold None e = ⊥
IsMistold (Some r) e = AreTold r (told_by e) → ⊥

-- the line behind this record is one of a record and in its place
pub record IsPlaced (r : Option Record) (text : List ℕ) (e : Entry) : Type 0 where
  pub is_entry : IsEntry e text
  pub place : is_some (behind (form_in r) e) ≡ true

-- the text has this as its least cause
abbrev pub HasCause : Option Record → List ℕ → ℕ → Type 0
HasCause r text cause =
    ((cause ≡ 1) × IsMisplaced r text)
    ⊎ ((cause ≡ 2) × (e : Entry) × IsPlaced r text e × IsBroken r e)
    ⊎ ((cause ≡ 3) × (e : Entry) × IsPlaced r text e × (IsBroken r e → ⊥) × IsMistold r e)

-- .. and the end of the bytes
abbrev pub IsUncommented : Option Record → Type 0
IsUncommented None = ⊥
IsUncommented (Some r) = AreTold r [] → ⊥

abbrev pub EndHasCause : Option Record → ℕ → Type 0
EndHasCause r cause = ((cause ≡ 1) × (may_end (form_in r) ≡ false)) ⊎ ((cause ≡ 3) × (may_end (form_in r) ≡ true)
    × IsUncommented r)

-- what is left behind a record begins with a line that has this cause: bytes that begin with no line and a
-- line of number 2^32 have the first, whatever else is wrong with that line
abbrev pub RestHasCause : Option Record → List ℕ → ℕ → Type 0
RestHasCause r rest cause =
    ((text more : List ℕ) × IsText text × (rest ≡ text ++ 10 ∷ more) × (lines_in r + 1 < 2 ^ 32)
    × HasCause r text cause)
    ⊎ ((cause ≡ 1) × IsCutOff rest)
    ⊎ ((cause ≡ 1) × (rest ≢ []) × (lines_in r + 1 ≡ 2 ^ 32))
    ⊎ ((rest ≡ []) × EndHasCause r cause)

-- ---- the causes 4 and 5 ----

-- the bytes are this record, to its end, with none of the causes 1 to 3
pub record IsWhole (bytes : List ℕ) (r : Record) : Type 0 where
  pub begins : Begins bytes (Some r) []
  pub ends : may_end (Some (form_of r)) ≡ true
  pub told : AreTold r []

-- no more were removed than taken, no more taken than accepted, and no more accepted than there is room;
-- and as many were accepted as the opening found and the life stored
pub record IsRightEnd (r : Record) : Type 0 where
  pub removed : r.removed ≤ r.taken
  pub taken : r.taken ≤ r.accepted
  pub room : r.accepted ≤ r.removed + r.row.capacity
  pub parts : List Part
  pub cut : IsCut r.row (history_of r).life parts
  pub stored : r.accepted ≡ count_after r.opening parts

-- ---- records whose comments may be wrong ----

-- the lines, without their ends, are those of this record, each with none of the causes 1 and 2
abbrev pub LinesOf : List (List ℕ) → Option Record → Type 0
LinesOf [] r = r ≡ None
LinesOf (text ∷ before) r = (was : Option Record) × LinesOf before was × IsText text × (e : Entry) × IsEntry e text
    × (q : Record) × Continues was e q × (r ≡ Some q)

-- the bytes are this record, to its end, with none of the causes 1 and 2
pub record IsLife (bytes : List ℕ) (r : Record) : Type 0 where
  pub texts : List (List ℕ)
  pub lines_of : LinesOf texts (Some r)
  pub bytes_are : bytes ≡ joined texts []
  pub ends : may_end (Some (form_of r)) ≡ true

-- ---- the verdict ----

abbrev pub is_ack : Kind → Bool
is_ack Ack = true
is_ack _ = false

-- how many of the comments are acknowledgements
abbrev pub acknowledgements : List Sent → ℕ
acknowledgements comments = count_by (λ s. is_ack s.reply.kind) comments

pub record IsClean (bytes : List ℕ) (r : Record) : Type 0 where
  pub whole : IsWhole bytes r
  pub claims : AreRight r r.claims
  pub end : has_end r ≡ true → IsRightEnd r

-- the verdict on these bytes
abbrev pub IsVerdict : List ℕ → Verdict → Type 0
IsVerdict bytes (Yes looks acks times) = (r : Record) × IsClean bytes r
    × (looks ≡ length r.looks) × (acks ≡ acknowledgements r.comments) × (times ≡ length r.times)
IsVerdict bytes (No line cause) =
    ((r : Option Record) × (rest : List ℕ) × Begins bytes r rest × RestHasCause r rest cause × (line ≡ lines_in r + 1))
    ⊎ ((r : Record) × IsWhole bytes r × (cause ≡ 4) × IsFirstWrong r r.claims line)
    ⊎ ((r : Record) × IsWhole bytes r × AreRight r r.claims × (cause ≡ 5) × (has_end r ≡ true) × (IsRightEnd r → ⊥)
    × (line ≡ r.lines))

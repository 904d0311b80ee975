-- Low's side of a record, as a list of items with the oldest first, and how two such lists compare. Item 0 is
-- the row with what was found at the opening; the looks are the items from 1 on. Comments are no part of it.
use Rattle.std.specs.Prelude.{◌≡◌, ◌≢◌, ◌⊎◌, ℕ, ◌+◌, ◌^◌, Bool, true, false, ◌&&◌, ◌==◌, not, if◌then◌else◌, List, []}
use Rattle.std.specs.Prelude.{◌∷◌, ◌++◌, length, codes, Option, Some, None, option_map}
use Rattle.std.specs.Str.{bytes_eq}
use Rattle.pump_frame.specs.Spellings.{spelling}
use Rattle.pump_frame.specs.declared.row.SessionRow.{SessionRow}
use Rattle.pump_core.specs.History.{Opening}
use Rattle.script_reader.specs.declared.line.ToldFeedback.{ToldFeedback}
use Rattle.script_reader.specs.declared.line.ToldFeedback.TheVariants.{Quiet, Full, Pair}
use Rattle.pump_audit.specs.declared.compared.What.{What}
use Rattle.pump_audit.specs.declared.compared.What.TheVariants as what
use Rattle.pump_audit.specs.declared.compared.Compared.{Compared}
use Rattle.pump_audit.specs.declared.compared.Compared.TheVariants.{Agree, Differ, NotRecord}
use Rattle.pump_audit.specs.declared.entry.Coming.{Coming}
use Rattle.pump_audit.specs.declared.entry.Coming.TheVariants as coming
use Rattle.pump_audit.specs.declared.entry.LookLine.{LookLine}
use Rattle.pump_audit.specs.declared.entry.Entry.{Entry}
use Rattle.pump_audit.specs.declared.entry.Entry.TheVariants as entries
use Rattle.pump_audit.specs.declared.form.Form.{Form}
use Rattle.pump_audit.specs.declared.form.RecordPlace.{RecordPlace}
use Rattle.pump_audit.specs.declared.form.RecordPlace.TheVariants as places
use Rattle.pump_audit.specs.Entries.{IsEntry}
use Rattle.pump_audit.specs.Places.{behind, behind_line, may_end}
use Rattle.pump_audit.specs.Texts.{IsText, IsCut}

-- ---- items ----

-- a look's item: its moment and word, what it was offered, its outcome, and what it was told
pub record ItemTold : Type 0 where
  pub moment : ℕ
  pub word : ℕ
  pub offered : List ℕ
  pub is_fault : Bool
  pub told : ToldFeedback

-- what a look was offered, as bytes: none for nothing, a frame's own, one 0 for bad bytes, and one 1 where
-- the connection is gone; no frame has one byte
abbrev pub offered_bytes : Coming → List ℕ
offered_bytes coming.Nothing = []
offered_bytes (coming.Frame f) = spelling f
offered_bytes coming.Bad = 0 ∷ []
offered_bytes coming.Gone = 1 ∷ []

-- what is told without its count
abbrev pub uncounted : ToldFeedback → ToldFeedback
uncounted (Pair count average) = Pair 0 average
uncounted Quiet = Quiet
uncounted Full = Full

abbrev pub item_of : LookLine → ItemTold
item_of l = record {
  moment = l.moment;
  word = l.word;
  offered = offered_bytes l.coming;
  is_fault = l.is_fault;
  told = uncounted l.told;
}

-- ---- a side ----

pub record SideTold : Type 0 where
  pub row : SessionRow
  pub opening : Opening
  pub place : RecordPlace
  pub lines : ℕ
  pub items : List ItemTold

abbrev pub form_of : SideTold → Form
form_of s = record { session = s.row.id; place = s.place }

abbrev pub form_in : Option SideTold → Option Form
form_in s = option_map form_of s

abbrev pub lines_in : Option SideTold → ℕ
lines_in None = 0
lines_in (Some s) = s.lines

abbrev pub begun : SessionRow → ℕ → Bool → SideTold
begun row next is_held = record {
  row = row;
  opening = record { count = next; is_held = is_held };
  place = places.Opening;
  lines = 1;
  items = [];
}

-- the side with one more line, behind which it stands there
abbrev pub with_entry : SideTold → Entry → RecordPlace → SideTold
with_entry s (entries.Look l) place = record s { place = place; lines = s.lines + 1; items = s.items ++ item_of l ∷ [] }
with_entry s (entries.Coarse session) place = record s {
  row = record s.row { coarse = true };
  place = place;
  lines = s.lines + 1;
}
with_entry s (entries.Opening row next is_held) place = record s { place = place; lines = s.lines + 1 }
with_entry s (entries.Comment note) place = record s { place = place; lines = s.lines + 1 }

-- the line stands in its place, and q is the side with it
abbrev pub Lists : Option SideTold → Entry → SideTold → Type 0
Lists None (entries.Opening row next is_held) q = q ≡ begun row next is_held
Lists None _ q = ⊥
Lists (Some s) e q = (f : Form) × (behind_line (form_of s) e ≡ Some f) × (q ≡ with_entry s e f.place)

-- the lines, without their ends and the newest first, are those of this side
abbrev pub SideOf : List (List ℕ) → Option SideTold → Type 0
SideOf [] s = s ≡ None
SideOf (text ∷ before) s = (was : Option SideTold) × SideOf before was × IsText text × (e : Entry) × IsEntry e text
    × (q : SideTold) × Lists was e q × (s ≡ Some q)

abbrev pub joined : List (List ℕ) → List ℕ → List ℕ
joined [] rest = rest
joined (text ∷ before) rest = joined before (text ++ 10 ∷ rest)

-- the bytes begin with lines of this side, and this is left
pub record BeginsSide (bytes : List ℕ) (s : Option SideTold) (rest : List ℕ) : Type 0 where
  pub texts : List (List ℕ)
  pub side_of : SideOf texts s
  pub whole : bytes ≡ joined texts rest

-- ---- two records ----

-- the line between them
abbrev pub separator : List ℕ
separator = codes "# compare"

-- a record ends here: the first one behind which the separator comes, and the second with the bytes. This is left
abbrev pub EndsSide : Bool → SideTold → List ℕ → List ℕ → Type 0
EndsSide true s rest left = (may_end (Some (form_of s)) ≡ true) × (rest ≡ separator ++ 10 ∷ left)
EndsSide false s rest left = (may_end (Some (form_of s)) ≡ true) × (rest ≡ []) × (left ≡ [])

-- a line that is none of a record in its place, and not the separator in its own
pub record IsOutside (is_first : Bool) (s : Option SideTold) (text : List ℕ) : Type 0 where
  pub none : (e : Entry) → IsEntry e text → behind (form_in s) e ≡ None
  pub other : is_first ≡ true → may_end (form_in s) ≡ true → text ≢ separator

-- what is left does not go on: it begins with such a line, or with no line, or with one of number 2^32; or
-- nothing is left, and the record may not end there
abbrev pub BreaksSide : Bool → ℕ → Option SideTold → List ℕ → Type 0
BreaksSide is_first before s rest =
    ((text more : List ℕ) × IsText text × (rest ≡ text ++ 10 ∷ more) × IsOutside is_first s text)
    ⊎ IsCut rest
    ⊎ ((rest ≢ []) × (before + lines_in s + 1 ≡ 2 ^ 32))
    ⊎ ((rest ≡ []) × ((is_first ≡ true) ⊎ (may_end (form_in s) ≡ false)))

-- the bytes are one record behind so many lines, of which this is left
pub record AreSide (is_first : Bool) (bytes : List ℕ) (s : SideTold) (left : List ℕ) : Type 0 where
  pub rest : List ℕ
  pub begins : BeginsSide bytes (Some s) rest
  pub ends : EndsSide is_first s rest left

-- .. or the line of this number is none
pub record BreaksAt (is_first : Bool) (before : ℕ) (bytes : List ℕ) (line : ℕ) : Type 0 where
  pub so_far : Option SideTold
  pub rest : List ℕ
  pub begins : BeginsSide bytes so_far rest
  pub breaks : BreaksSide is_first before so_far rest
  pub number : line ≡ before + lines_in so_far + 1

-- the bytes are two records with the separator between
pub record ArePair (bytes : List ℕ) (a b : SideTold) : Type 0 where
  pub left : List ℕ
  pub first : AreSide true bytes a left
  pub second : AreSide false left b []

-- ---- the comparison ----

abbrev pub same_told : ToldFeedback → ToldFeedback → Bool
same_told Quiet Quiet = true
same_told Full Full = true
same_told (Pair c a) (Pair d b) = c == d && a == b
same_told _ _ = false

abbrev pub same_bool : Bool → Bool → Bool
same_bool true b = b
same_bool false b = not b

-- the first part in which two items differ
abbrev pub unlike : ItemTold → ItemTold → Option What
unlike x y =
    if not (x.moment == y.moment) then Some what.Moment
    else if not (x.word == y.word) then Some what.Word
    else if not (bytes_eq x.offered y.offered) then Some what.Arrival
    else if not (same_bool x.is_fault y.is_fault) then Some what.Outcome
    else if not (same_told x.told y.told) then Some what.Feedback
    else None

abbrev pub AreAlike : List ItemTold → List ItemTold → Type 0
AreAlike [] [] = Unit {0}
AreAlike (x ∷ xs) (y ∷ ys) = (unlike x y ≡ None) × AreAlike xs ys
AreAlike [] (y ∷ ys) = ⊥
AreAlike (x ∷ xs) [] = ⊥

-- the items of this number, from 0 on, are the first that differ, in this part; or one list ends there
abbrev pub DifferAt : List ItemTold → List ItemTold → ℕ → What → Type 0
DifferAt [] [] at w = ⊥
DifferAt (x ∷ xs) (y ∷ ys) at w = ((at ≡ 0) × (unlike x y ≡ Some w)) ⊎ ((unlike x y ≡ None) × (next : ℕ)
    × (at ≡ next + 1) × DifferAt xs ys next w)
DifferAt [] (y ∷ ys) at w = (at ≡ 0) × (w ≡ what.Length)
DifferAt (x ∷ xs) [] at w = (at ≡ 0) × (w ≡ what.Length)

-- item 0 is the same
pub record SameOpening (a b : SideTold) : Type 0 where
  pub row : a.row ≡ b.row
  pub opening : a.opening ≡ b.opening

-- what is said of two sides
abbrev pub SidesAre : SideTold → SideTold → Compared → Type 0
SidesAre a b (Agree items) = SameOpening a b × AreAlike a.items b.items × (items ≡ length a.items + 1)
SidesAre a b (Differ item w) =
    ((SameOpening a b → ⊥) × (item ≡ 0) × (w ≡ what.Opening))
    ⊎ (SameOpening a b × (at : ℕ) × (item ≡ at + 1) × DifferAt a.items b.items at w)
SidesAre a b (NotRecord line) = ⊥

-- .. and of these bytes
abbrev pub IsCompared : List ℕ → Compared → Type 0
IsCompared bytes (NotRecord line) =
    BreaksAt true 0 bytes line
    ⊎ ((a : SideTold) × (left : List ℕ) × AreSide true bytes a left × BreaksAt false (a.lines + 1) left line)
IsCompared bytes (Agree items) = (a b : SideTold) × ArePair bytes a b × SidesAre a b (Agree items)
IsCompared bytes (Differ item w) = (a b : SideTold) × ArePair bytes a b × SidesAre a b (Differ item w)

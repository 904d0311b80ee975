-- What the code's side of a record stands for. It serves private clauses and proofs alone.
use Rattle.std.specs.Prelude.{◌≡◌, ℕ, ◌+◌, Bool, true, false, ◌&&◌, ◌==◌, if◌then◌else◌, List, [], ◌∷◌, ◌++◌, length}
use Rattle.std.specs.Prelude.{map, Option, Some, None}
use Rattle.std.specs.Str.{bytes_eq}
use Rattle.pump_frame.specs.declared.row.SessionRow.{SessionRow}
use Rattle.pump_audit.specs.declared.entry.Entry.{Entry}
use Rattle.pump_audit.specs.declared.entry.Entry.TheVariants as entries
use Rattle.pump_audit.specs.declared.form.Form.{Form}
use Rattle.pump_audit.specs.declared.side.Item.{Item}
use Rattle.pump_audit.specs.declared.side.Looks.{Looks}
use Rattle.pump_audit.specs.declared.side.Looks.TheVariants.{Kept, Matched}
use Rattle.pump_audit.specs.declared.side.Matching.{Matching}
use Rattle.pump_audit.specs.declared.side.Opened.{Opened}
use Rattle.pump_audit.specs.declared.side.Side.{Side}
use Rattle.pump_audit.specs.declared.compared.What.{What}
use Rattle.pump_audit.specs.Comparing.{ItemTold, SideTold, DifferAt, unlike, Lists, form_in, same_bool, AreSide}
use Rattle.pump_audit.specs.Comparing.{BeginsSide, BreaksAt}
use Rattle.pump_audit.specs.Entries.{IsEntry, IsPlain}
use Rattle.pump_audit.specs.Places.{behind}

abbrev pub tells : Item → ItemTold
tells x = record { moment = x.moment; word = x.word; offered = x.offered.items; is_fault = x.is_fault; told = x.told }

-- these looks are alike with the first ones of us
abbrev pub AlikeSoFar : List ItemTold → List ItemTold → Type 0
AlikeSoFar [] [] = Unit {0}
AlikeSoFar (u ∷ us) [] = Unit {0}
AlikeSoFar [] (x ∷ xs) = ⊥
AlikeSoFar (u ∷ us) (x ∷ xs) = (unlike u x ≡ None) × AlikeSoFar us xs

-- so many looks are alike with those of us in their places, and no other came; or the next ones differ in this part,
-- whatever comes behind
abbrev pub MatchesTo : List ItemTold → ℕ → Option What → List ItemTold → Type 0
MatchesTo us alike None xs = AlikeSoFar us xs × (alike ≡ length xs)
MatchesTo us alike (Some w) xs = (rest : List ItemTold) → DifferAt us (xs ++ rest) alike w

abbrev pub Matches : List ItemTold → Matching → List ItemTold → Type 0
Matches us m xs = (map tells m.first.items ≡ us) × MatchesTo us m.alike m.difference xs

-- the looks that were kept are these; or these came, to be compared with those of a first record
abbrev pub LooksTell : Option (List ItemTold) → Looks → List ItemTold → Type 0
LooksTell None (Kept items) xs = map tells items.items ≡ xs
LooksTell None (Matched m) xs = ⊥
LooksTell (Some us) (Kept items) xs = ⊥
LooksTell (Some us) (Matched m) xs = Matches us m xs

pub record SideOpens (o : Opened) (s : SideTold) : Type 0 where
  pub row : o.row ≡ s.row
  pub next : o.next ≡ s.opening.count
  pub is_held : o.is_held ≡ s.opening.is_held

pub record Stands (first : Option (List ItemTold)) (v : Side) (s : SideTold) : Type 0 where
  pub opens : SideOpens v.opened s
  pub place : v.place ≡ s.place
  pub looks : LooksTell first v.looks s.items

abbrev pub form_of_side : Side → Form
form_of_side v = record { session = v.opened.row.id; place = v.place }

-- no line of a record in its place
abbrev pub IsNone : Option SideTold → List ℕ → Type 0
IsNone s text = (e : Entry) → IsEntry e text → behind (form_in s) e ≡ None

-- the text begins a side, or is no first line of one
abbrev pub BeginsAs : Option (List ItemTold) → List ℕ → Option Side → Type 0
BeginsAs first text None = IsNone None text
BeginsAs first text (Some v) = (e : Entry) × IsEntry e text × (q : SideTold) × Lists None e q × Stands first v q
    × (q.lines ≡ 1)

-- the side goes on with the text, or it is no line of one
abbrev pub GoesOnBy : Option (List ItemTold) → SideTold → List ℕ → Side → Bool → Type 0
GoesOnBy first s text new true = (e : Entry) × IsEntry e text × (q : SideTold) × Lists (Some s) e q × Stands first new q
    × (q.lines ≡ s.lines + 1)
GoesOnBy first s text new false = IsNone (Some s) text

-- the frame of a look is lawful
abbrev pub IsSound : Entry → Type 0
IsSound (entries.Look line) = IsPlain line
IsSound _ = Unit {0}

-- two rows have the same numbers, and are the same
abbrev pub has_same_numbers : SessionRow → SessionRow → Bool
has_same_numbers a b =
    a.id == b.id && a.capacity == b.capacity && a.message == b.message && a.window == b.window && a.start == b.start
    && a.longest == b.longest && a.resend == b.resend && a.low_port == b.low_port && a.high_port == b.high_port

abbrev pub has_same_row : SessionRow → SessionRow → Bool
has_same_row a b = has_same_numbers a b && bytes_eq a.low b.low && bytes_eq a.high b.high && same_bool a.coarse b.coarse

abbrev pub has_same_opening : Opened → Opened → Bool
has_same_opening v w = has_same_row v.row w.row && v.next == w.next && same_bool v.is_held w.is_held

-- ---- a stream ----

-- the side stands for what came of these bytes behind so many lines, and this is still to come
pub record SideGoes (first : Option (List ItemTold)) (is_first : Bool) (before : ℕ) (bytes : List ℕ) (v : Side)
    (lines : ℕ) (to_come : Option (List ℕ)) : Type 0 where
  pub so_far : SideTold
  pub rest : List ℕ
  pub stands : Stands first v so_far
  pub begins : BeginsSide bytes (Some so_far) rest
  pub known : to_come ≡ Some rest
  pub number : lines ≡ before + so_far.lines

-- the side came to its end
pub record SideEnds (first : Option (List ItemTold)) (is_first : Bool) (before : ℕ) (bytes : List ℕ) (v : Side)
    (lines : ℕ) (to_come : Option (List ℕ)) : Type 0 where
  pub side : SideTold
  pub left : List ℕ
  pub stands : Stands first v side
  pub are : AreSide is_first bytes side left
  pub known : is_first ≡ true → to_come ≡ Some left
  pub number : lines ≡ before + side.lines + (if is_first then 1 else 0)

-- .. or the next line is none of a record
abbrev pub SideComes : Option (List ItemTold) → Bool → ℕ → List ℕ → Option Side → ℕ → Option (List ℕ) → Type 0
SideComes first is_first before bytes None lines to_come = BreaksAt is_first before bytes (lines + 1)
SideComes first is_first before bytes (Some v) lines to_come = SideEnds first is_first before bytes v lines to_come

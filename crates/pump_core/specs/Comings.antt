-- What comes to a low process on its connections, and which arrival each of its looks is offered.
use Rattle.std.specs.Prelude.{◌≡◌, ℕ, ◌+◌, Bool, true, false, ◌&&◌, not, if◌then◌else◌, List, [], ◌∷◌, ◌++◌, take}
use Rattle.std.specs.Prelude.{Option, Some, None, slice_get}
use Rattle.std.specs.List.{list_any}
use Rattle.pump_frame.specs.declared.frame.Frame.{Frame}
use Rattle.pump_frame.specs.declared.row.SessionRow.{SessionRow}
use Rattle.pump_core.specs.declared.feedback.Feedback.{Feedback}
use Rattle.pump_core.specs.History.{Arrival}
use Rattle.pump_core.specs.History.{Nothing, Came, Bad}
use Rattle.pump_core.specs.History.{Look, Opening, Life, History}
use Rattle.pump_core.specs.Exchanges.{is_gone, Part, is_finished, is_left_by, IsCut}
use Rattle.pump_core.specs.Pairs.{uncounted}

-- what comes on a connection: a frame, or bytes that are none
pub data Coming : Type 0 where
  Whole : (f : Frame) → Coming
  Broken : Coming

-- a look that was made: its moment, its random word, whether the connection is gone in it, whether the
-- low disk failed in it, and the feedback; but not what it was offered
pub record LookMade : Type 0 where
  pub moment : ℕ
  pub word : ℕ
  pub is_gone : Bool
  pub is_fault : Bool
  pub feedback : Feedback

-- what happens on the low side: something comes on the connection that stands, or a look is made
pub data Timed : Type 0 where
  Comes : (c : Coming) → Timed
  Looks : (made : LookMade) → Timed

abbrev pub is_broken : Coming → Bool
is_broken (Whole f) = false
is_broken Broken = true

-- all that came on the connection that stands, the oldest first; a look with Gone begins another one
abbrev pub comings : List Timed → List Coming
comings [] = []
comings (Comes c ∷ past) = comings past ++ c ∷ []
comings (Looks made ∷ past) = if made.is_gone then [] else comings past

-- the arrival of what came, or of nothing
abbrev pub arrival_of_coming : Option Coming → Arrival
arrival_of_coming (Some (Whole f)) = Came f
arrival_of_coming (Some Broken) = Bad
arrival_of_coming None = Nothing

-- where the first `taken` of all that came were taken, the earliest of the others is offered; but what
-- came behind bad bytes waits, and is never offered
abbrev pub first_of : List Coming → ℕ → Arrival
first_of came taken = if list_any is_broken (take taken came) then Nothing else arrival_of_coming (slice_get came taken)

-- the arrival that is offered after these events, where so many were taken on the connection
abbrev pub offer : List Timed → ℕ → Arrival
offer past taken = first_of (comings past) taken

-- the next look may take what it is offered: it begins a part which is no release
abbrev pub may_take : Opening → List Part → Bool
may_take o [] = not o.is_held
may_take o (p ∷ before) = is_finished p && not (is_left_by p)

abbrev pub is_nothing : Arrival → Bool
is_nothing Nothing = true
is_nothing _ = false

-- the look x without what it was offered, and without the count in its feedback
abbrev pub look_made : Look → LookMade
look_made x = record {
  moment = x.moment;
  word = x.word;
  is_gone = is_gone x.arrival;
  is_fault = x.is_fault;
  feedback = uncounted x.feedback;
}

-- how many were taken on the connection that stands after a look, by whether it is gone in the look,
-- whether the look takes something, and how many were taken before it
abbrev pub taken_after : Bool → Bool → ℕ → ℕ
taken_after gone takes taken = if gone then 0 else if takes then taken + 1 else taken

-- x comes next in this life, after these events, and is offered what came first, if it may take that;
-- `taken` and `now` count what was taken on the connection before the look and after it
pub record IsOffered (row : SessionRow) (life : Life) (past : List Timed) (x : Look) (taken now : ℕ) : Type 0 where
  -- the life is cut into these parts, which say whether the look may take something
  pub before : List Part
  pub cut : IsCut row life before
  -- one that may, and keeps the connection, is offered the earliest of what was not taken
  pub arrival : is_gone x.arrival ≡ false → may_take life.opening before ≡ true → x.arrival ≡ offer past taken
  -- and what it is offered is taken then, unless it is nothing
  pub count : now ≡ taken_after (is_gone x.arrival) (may_take life.opening before && not (is_nothing x.arrival)) taken

-- after this opening these looks were made while this happened, each that may take was offered what came
-- first, and `now` was taken on the connection that stands
abbrev pub AreOffered : SessionRow → Opening → List Timed → List Look → ℕ → Type 0
AreOffered row o [] [] now = now ≡ 0
AreOffered row o [] (x ∷ looks) now = ⊥
AreOffered row o (Comes c ∷ past) looks now = AreOffered row o past looks now
AreOffered row o (Looks made ∷ past) [] now = ⊥
AreOffered row o (Looks made ∷ past) (x ∷ looks) now =
    (look_made x ≡ made)
    × (taken : ℕ) × IsOffered row (record { opening = o; looks = looks }) past x taken now
    × AreOffered row o past looks taken

-- the low side of a life: its opening and what happened since, the newest first
pub record Side : Type 0 where
  pub opening : Opening
  pub events : List Timed

-- the lives had these low sides, one by one
abbrev pub HaveSides : SessionRow → List Side → List Life → Type 0
HaveSides row [] [] = Unit {0}
HaveSides row (s ∷ ss) (l ∷ ls) = (l.opening ≡ s.opening) × ((now : ℕ) × AreOffered row s.opening s.events l.looks now)
    × HaveSides row ss ls
HaveSides row [] (l ∷ ls) = ⊥
HaveSides row (s ∷ ss) [] = ⊥

-- the history had these low sides, the newest first
abbrev pub HasSides : SessionRow → List Side → History → Type 0
HasSides row sides h = HaveSides row sides (h.life ∷ h.earlier)

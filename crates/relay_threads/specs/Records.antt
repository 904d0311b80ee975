-- Records: of all looks that a low process made, those that decide its replies. Each list has its
-- newest entry first, but for replies.
use Rattle.std.specs.Prelude.{◌≡◌, ℕ, ◌≤◌, Bool, true, false, ◌&&◌, ◌||◌, not, if◌then◌else◌, List, [], ◌∷◌, ◌++◌}
use Rattle.std.specs.Prelude.{length, Option, is_some}
use Rattle.pump_frame.specs.declared.frame.Frame.{Frame}
use Rattle.pump_frame.specs.declared.row.SessionRow.{SessionRow}
use Rattle.pump_core.specs.declared.feedback.Feedback.{Feedback}
use Rattle.pump_core.specs.declared.feedback.Feedback.TheVariants.{Passed, Released}
use Rattle.pump_core.specs.History.{Look, Opening, Life, History}
use Rattle.pump_core.specs.Exchanges.{Part, IsCut}
use Rattle.pump_core.specs.Replies.{Sent, sent, LowReplies, takes}
use Rattle.pump_core.specs.Standing.{last_moment}
use Rattle.pump_core.specs.Step.{is_full}

-- a look that was made: whether it took its arrival, and what it replied
pub record Made : Type 0 where
  pub look : Look
  pub taken : Bool
  pub reply : Option Frame

abbrev pub looks_made : List Made → List Look
looks_made [] = []
looks_made (m ∷ before) = m.look ∷ looks_made before

-- what they replied, the oldest reply first
abbrev pub replies_made : List Made → List Sent
replies_made [] = []
replies_made (m ∷ before) = replies_made before ++ sent m.look m.reply

-- the one life that they make
abbrev pub life_made : Opening → List Made → Life
life_made o made = record { opening = o; looks = looks_made made }

abbrev pub history_made : Opening → List Made → History
history_made o made = record { life = life_made o made; earlier = [] }

-- the look goes on with the life: it is cut into exchanges, which say whether the look takes its
-- arrival, and whose replies are those made
pub record IsMade (row : SessionRow) (o : Opening) (m : Made) (before : List Made) : Type 0 where
  pub order : last_moment (looks_made before) ≤ m.look.moment
  pub parts : List Part
  pub cut : IsCut row (life_made o (m ∷ before)) parts
  pub taken : m.taken ≡ takes parts
  pub replies : LowReplies row (history_made o (m ∷ before)) (replies_made (m ∷ before))

-- so it is at each look
abbrev pub AreMade : SessionRow → Opening → List Made → Type 0
AreMade row o [] = Unit {0}
AreMade row o (m ∷ before) = IsMade row o m before × AreMade row o before

-- a message went to the passage
abbrev pub passes_on : Feedback → Bool
passes_on (Passed seen) = true
passes_on Released = true
passes_on _ = false

-- the newest look found the passage full
abbrev pub was_full : List Made → Bool
was_full [] = false
was_full (m ∷ before) = is_full m.look.feedback

-- a look is recorded where it took an arrival, replied, passed a message on, or is the first that found
-- the passage full for its message on its connection: the look before it did not
abbrev pub is_recorded : List Made → Made → Bool
is_recorded before m = m.taken ||
    (is_some m.reply || (passes_on m.look.feedback || (is_full m.look.feedback && not (was_full before))))

-- a recorded look, with its number among all that were made, from 0
pub record Shown : Type 0 where
  pub number : ℕ
  pub made : Made

abbrev pub recorded : List Made → List Shown
recorded [] = []
recorded (m ∷ before) = if is_recorded before m then record { number = length before; made = m } ∷ recorded before else
    recorded before

abbrev pub made_of : List Shown → List Made
made_of [] = []
made_of (s ∷ before) = s.made ∷ made_of before

-- the looks that are recorded
abbrev pub record_of : List Made → List Made
record_of made = made_of (recorded made)

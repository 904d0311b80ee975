-- Two timed runs that agree in low's own, in which looks and openings found the buffer full, and in one list of
-- what came down for the exchanges: the averages, or of a coarse session their classes.
use Rattle.std.specs.Prelude.{◌≡◌, ℕ, true, List, [], ◌∷◌, ◌++◌, map, Option, Some, None, option_to_list}
use Rattle.pump_frame.specs.declared.row.SessionRow.{SessionRow}
use Rattle.pump_core.specs.declared.feedback.Feedback.{Feedback}
use Rattle.pump_core.specs.declared.feedback.Feedback.TheVariants.{Quiet, Full, Passed, Repeat}
use Rattle.pump_core.specs.Comings.{Timed, Comes, Looks, Side}
use Rattle.pump_core.specs.History.{History}
use Rattle.pump_core.specs.Replies.{Sent, LowReplies}
use Rattle.pump_core.specs.Timed.{Step, Point}
use Rattle.pump_core.specs.Runs.{sides, side_with, IsRun}
use Rattle.world_laws.specs.Classes.{class_of}

-- of the feedback no more than whether the buffer was full
abbrev pub only_full : Feedback → Feedback
only_full Full = Full
only_full _ = Quiet

-- the low sides with no more of their feedback than that: low's own, and which looks and openings found the
-- buffer full
abbrev pub full_sides : Point → List Side
full_sides t = map (side_with only_full) (sides t)

-- the average that a look was told: each that passes a message whose acknowledgement is owed, and each that
-- takes a repeat, was told one
abbrev pub average_in : Feedback → Option ℕ
average_in (Passed s) = Some s.average
average_in (Repeat s) = Some s.average
average_in _ = None

-- the averages that the looks among what happened were told, the oldest first
abbrev pub averages_told : List Timed → List ℕ
averages_told [] = []
averages_told (Comes c ∷ past) = averages_told past
averages_told (Looks made ∷ past) = averages_told past ++ option_to_list (average_in made.feedback)

-- .. in lives, of which the newest comes first
abbrev pub averages_of_sides : List Side → List ℕ
averages_of_sides [] = []
averages_of_sides (s ∷ earlier) = averages_of_sides earlier ++ averages_told s.events

-- .. in a run: one list for all its lives, which doesn't say in which looks they were told
abbrev pub averages_in : Point → List ℕ
averages_in t = averages_of_sides (sides t)

-- the runs agree in low's own, in which looks and openings found the buffer full, and in the list of averages
pub record AgreeInAverages (t u : Point) : Type 0 where
  pub own : full_sides t ≡ full_sides u
  pub averages : averages_in t ≡ averages_in u

-- .. in the list of their classes
pub record AgreeInListedClasses (t u : Point) : Type 0 where
  pub own : full_sides t ≡ full_sides u
  pub classes : map class_of (averages_in t) ≡ map class_of (averages_in u)

-- ---- the laws ----

-- two timed runs of one row that agree in the list of averages have the same replies, at the same moments
abbrev pub AveragesDecide : Type 0
AveragesDecide = (row : SessionRow) (steps others : List Step) (t u : Point) (h k : History)
    (xs ys : List Sent)
    → IsRun row steps t h → IsRun row others u k → AgreeInAverages t u
    → LowReplies row h xs → LowReplies row k ys → xs ≡ ys

-- .. so two of one coarse row that agree in the list of classes
abbrev pub CoarsePairsAgree : Type 0
CoarsePairsAgree = (row : SessionRow) (steps others : List Step) (t u : Point) (h k : History)
    (xs ys : List Sent)
    → row.coarse ≡ true → IsRun row steps t h → IsRun row others u k → AgreeInListedClasses t u
    → LowReplies row h xs → LowReplies row k ys → xs ≡ ys

-- Two timed runs that agree in all that is low's own, and in what comes down from High.
use Rattle.std.specs.Prelude.{◌≡◌, List, map}
use Rattle.pump_core.specs.declared.feedback.Feedback.{Feedback}
use Rattle.pump_core.specs.declared.feedback.Feedback.TheVariants.{Quiet}
use Rattle.pump_core.specs.Comings.{Side}
use Rattle.pump_core.specs.Pairs.{uncounted}
use Rattle.pump_core.specs.Timed.{Point}
use Rattle.pump_core.specs.Runs.{LifeFeedback, feedback_of, sides, side_with}

-- the feedback is forgotten
abbrev pub nothing_told : Feedback → Feedback
nothing_told f = Quiet

-- the low side without its feedback: what came on the connections and before which look; the moments,
-- words and device outcomes of the looks, and which of them were Gone; the places and counts of the
-- openings
abbrev pub own_sides : Point → List Side
own_sides t = map (side_with nothing_told) (sides t)

-- feedback with its counts forgotten
abbrev pub without_counts : LifeFeedback → LifeFeedback
without_counts f = record { is_held = f.is_held; looks = map uncounted f.looks }

-- the runs agree in low's own, and in the feedback up to its counts, held flags included
pub record AgreeForLow (t u : Point) : Type 0 where
  pub own : own_sides t ≡ own_sides u
  pub feedback : map without_counts (feedback_of t) ≡ map without_counts (feedback_of u)

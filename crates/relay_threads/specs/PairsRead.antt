-- The pairs of count and average that looks tell. A list of looks has its newest entry first, one of pairs its
-- oldest.
use Rattle.std.specs.Prelude.{ℕ, List, [], ◌∷◌, ◌++◌}
use Rattle.pump_core.specs.declared.feedback.Feedback.{Feedback}
use Rattle.pump_core.specs.declared.feedback.Feedback.TheVariants.{Passed, Repeat}
use Rattle.relay_threads.specs.Records.{Made}

abbrev pub pair_in : Feedback → List (ℕ × ℕ)
pair_in (Passed seen) = (seen.count, seen.average) ∷ []
pair_in (Repeat seen) = (seen.count, seen.average) ∷ []
pair_in _ = []

-- the pairs that these looks tell
abbrev pub pairs_of : List Made → List (ℕ × ℕ)
pairs_of [] = []
pairs_of (m ∷ before) = pairs_of before ++ pair_in m.look.feedback

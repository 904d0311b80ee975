-- Runs that agree for low have one low side, up to counts.
use Rattle.std.proofs.Common.{◌≡◌, List, [], ◌∷◌, map, refl, ap}
use Rattle.pump_core.specs.Pairs.{uncounted}
use Rattle.pump_core.specs.Comings.{Timed, Comes, Looks, Side}
use Rattle.pump_core.specs.Timed.{Point}
use Rattle.pump_core.specs.Runs.{LifeFeedback, feedbacks, feedback_of_side, sides, with_feedback, side_with}
use Rattle.world_laws.specs.Agreement.{nothing_told, without_counts, AgreeForLow}

same_events : (xs ys : List Timed)
    → map (with_feedback nothing_told) xs ≡ map (with_feedback nothing_told) ys
    → map uncounted (feedbacks xs) ≡ map uncounted (feedbacks ys)
    → map (with_feedback uncounted) xs ≡ map (with_feedback uncounted) ys
same_events [] [] e f = refl
same_events [] (Comes a ∷ ys) e f = absurd (cc)
same_events [] (Looks y ∷ ys) e f = absurd (cc)
same_events (Comes a ∷ xs) [] e f = absurd (cc)
same_events (Looks x ∷ xs) [] e f = absurd (cc)
same_events (Comes a ∷ xs) (Comes b ∷ ys) e f =
    let r : map (with_feedback uncounted) xs ≡ map (with_feedback uncounted) ys = same_events xs ys (cc) f in
    let s : a ≡ b = cc in
    λ i. Comes (s i) ∷ r i
same_events (Comes a ∷ xs) (Looks y ∷ ys) e f = absurd (cc)
same_events (Looks x ∷ xs) (Comes a ∷ ys) e f = absurd (cc)
same_events (Looks x ∷ xs) (Looks y ∷ ys) e f =
    let r : map (with_feedback uncounted) xs ≡ map (with_feedback uncounted) ys = same_events xs ys (cc) (cc) in
    let own : record x { feedback = nothing_told x.feedback } ≡ record y { feedback = nothing_told y.feedback } = cc in
    let told : uncounted x.feedback ≡ uncounted y.feedback = cc in
    λ i. Looks (record (own i) { feedback = told i }) ∷ r i

same_sides : (ss ts : List Side) → map (side_with nothing_told) ss ≡ map (side_with nothing_told) ts
    → map without_counts (map feedback_of_side ss) ≡ map without_counts (map feedback_of_side ts)
    → map (side_with uncounted) ss ≡ map (side_with uncounted) ts
same_sides [] [] e f = refl
same_sides [] (t ∷ ts) e f = absurd (cc)
same_sides (s ∷ ss) [] e f = absurd (cc)
same_sides (s ∷ ss) (t ∷ ts) e f =
    let r : map (side_with uncounted) ss ≡ map (side_with uncounted) ts = same_sides ss ts (cc) (cc) in
    let head : side_with nothing_told s ≡ side_with nothing_told t = cc in
    let told : without_counts (feedback_of_side s) ≡ without_counts (feedback_of_side t) = cc in
    let events : map (with_feedback uncounted) s.events ≡ map (with_feedback uncounted) t.events = same_events s.events t.events (ap (λ (x : Side). x.events) head) (ap (λ (l : LifeFeedback). l.looks) told) in
    λ i. record { opening = (head i).opening; events = events i } ∷ r i

-- .. so that the low sides of both runs are one, up to the counts that were told
pub same_low : (t u : Point) → AgreeForLow t u
    → map (side_with uncounted) (sides t) ≡ map (side_with uncounted) (sides u)
same_low t u a = same_sides (sides t) (sides u) a.own a.feedback

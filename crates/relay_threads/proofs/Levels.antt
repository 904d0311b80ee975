-- What an end tells of a coarse passage is a level.
use Rattle.std.proofs.Common.{◌≡◌, ℕ, Bool, true, false, List, [], ◌∷◌, ◌++◌, Option, Some, None, refl, sym, subst, eq-eqb}
use Rattle.std.specs.Prelude.{◌==◌, not, ◌||◌, if◌then◌else◌, IfSome}
use Rattle.std.specs.List.{All}
use Rattle.pump_frame.specs.Averages.{level, IsLevel, down, averaging_of, average_of, mean_of}
use Rattle.pump_frame.specs.declared.averaging.Averaging.{Averaging}
use Rattle.pump_frame.specs.declared.frame.Item.{Item}
use Rattle.pump_frame.specs.declared.row.SessionRow.{SessionRow}
use Rattle.pump_core.specs.declared.feedback.Feedback.{Feedback}
use Rattle.pump_core.specs.declared.feedback.Feedback.TheVariants.{Quiet, Full, Passed, Released, Repeat}
use Rattle.pump_core.specs.Passage.{Shape, Low, High, forwards, read_pair}
use Rattle.pump_core.proofs.PassageSteps.{all_head, all_tail}
use Rattle.low_process.specs.declared.process.LowProcess.{LowProcess}
use Rattle.low_process.specs.Ends.{StandsFitting, EndStep}
use Rattle.relay_ring.specs.PairRule.{IsAveraged}
use Rattle.script_reader.specs.Alone.{tells_level}
use Rattle.script_reader.proofs.Levels.{level_again}
use Rattle.relay_threads.specs.Records.{Made}
use Rattle.relay_threads.specs.RecordLines.{told_of}
use Rattle.relay_threads.specs.Replays.{TellsLevel, TellLevels}
use Rattle.relay_threads.specs.Levels.{ReadsAverages, IsEndOf}
use Rattle.relay_threads.specs.LowRounds.{Round, with_look, made_after}
use Rattle.relay_threads.specs.LowStays.{Stay, Alone, With, visited, stay_after, stayed}

-- ---- what comes down in a coarse session is a level ----

down_level : (a : Averaging) (mean : ℕ) → a.coarse ≡ true → IsLevel (down a mean)
unfolding down
down_level a mean coarse = subst (λ (b : Bool). IsLevel (if b then level mean else mean)) (sym coarse) (level_again mean)

averaged_level : (a : Averaging) (n : ℕ) → IsAveraged a n → a.coarse ≡ true → IsLevel n
averaged_level a n (times, is) coarse = subst IsLevel (sym is) (down_level a (mean_of a times) coarse)

plain_or_level : (b : Bool) (n : ℕ) → (b ≡ true → IsLevel n) → (not b || level n == n) ≡ true
plain_or_level true n h = eq-eqb _ _ (h refl)
plain_or_level false n h = refl

tells_averaged : (row : SessionRow) (n : ℕ) → IsAveraged (averaging_of row) n → (not row.coarse || level n == n) ≡ true
tells_averaged row n h = plain_or_level row.coarse n (averaged_level (averaging_of row) n h)

-- ---- what an end has read last ----

last_of : {X : Type 0} (P : X → Type 0) (xs : List X) (x : X) → All P (xs ++ x ∷ []) → P x
last_of P [] x h = all_head P x [] h
last_of P (y ∷ ys) x h = last_of P ys x (all_tail P y (ys ++ x ∷ []) h)

module _ {E : Type 0} (stands : E → Low → High → Type 0) (shape : E → Shape) (end : E) (row : SessionRow) (reads : ReadsAverages stands shape) (same : (shape end).averaging ≡ averaging_of row) where
  read_last : (l : Low) (h : High) (count average : ℕ) → stands end (read_pair l count average) h → IsAveraged (averaging_of row) average
  read_last l h count average s =
      subst (λ (a : Averaging). IsAveraged a average) same (last_of (λ p. IsAveraged (shape end).averaging p.1) l.pairs (count, average) (reads end (read_pair l count average) h s))

  -- what a look is told
  pub step_tells : (s : Shape) (b : Bool) (q : LowProcess) (l : Low) (h : High) (hand : Option Item) (f : Feedback) → EndStep s b (StandsFitting (stands end) q) l h hand f → tells_level row (told_of row f) ≡ true
  step_tells s b q l h hand Quiet step = refl
  step_tells s b q l h hand Full step = refl
  step_tells s b q l h None (Passed seen) step = absurd step
  step_tells s b q l h (Some item) (Passed seen) step = tells_averaged row seen.average (read_last (forwards l item) h seen.count seen.average step.1.2.0)
  step_tells s b q l h hand Released step = tells_averaged row (average_of (averaging_of row) []) ([], refl)
  step_tells s b q l h None (Repeat seen) step = tells_averaged row seen.average (read_last l h seen.count seen.average step.2.0)
  step_tells s b q l h (Some item) (Repeat seen) step = tells_averaged row seen.average (read_last l h seen.count seen.average step.2.0)

-- the end later, of which the shape is as before
pub still_end : {E : Type 0} (stands : E → Low → High → Type 0) (shape : E → Shape) (end end' : E) (row row' : SessionRow) → shape end' ≡ shape end → row' ≡ row → IsEndOf stands shape end row → IsEndOf stands shape end' row'
still_end stands shape end end' row row' same rows is = (is.0, subst (λ (x : Shape × SessionRow). x.0.averaging ≡ averaging_of x.1) (λ i. (sym same i, sym rows i)) is.1)

-- ---- one look more, and looks behind others ----

pub levels_with : (row : SessionRow) (x : Option Made) (before : List Made) → IfSome x (TellsLevel row) → TellLevels row before → TellLevels row (with_look x before)
levels_with row None before one all = all
levels_with row (Some m) before one all = (one, all)

-- by a later value of the end
pub levels_then : {E : Type 0} (stands : E → Low → High → Type 0) (shape : E → Shape) (end end' : E) (row row' : SessionRow) (x : Option Made) (before : List Made) → shape end' ≡ shape end → row' ≡ row
    → (IsEndOf stands shape end row → TellLevels row before) → (IsEndOf stands shape end' row' → IfSome x (TellsLevel row')) → IsEndOf stands shape end row → TellLevels row (with_look x before)
levels_then stands shape end end' row row' x before same rows was one is =
    levels_with row x before (subst (λ (z : SessionRow). IfSome x (TellsLevel z)) rows (one (still_end stands shape end end' row row' same rows is))) (was is)

levels_behind : (row : SessionRow) (x : Option Made) (some all : List Made) → (TellLevels row some → TellLevels row all) → TellLevels row (with_look x some) → TellLevels row (with_look x all)
levels_behind row None some all more h = more h
levels_behind row (Some m) some all more h = (h.0, more h.1)

levels_rounds : (row : SessionRow) (before : List Made) (rounds : List Round) → TellLevels row before → TellLevels row (made_after [] rounds) → TellLevels row (made_after before rounds)
levels_rounds row before [] was all = was
levels_rounds row before (r ∷ past) was all = levels_behind row r.made (made_after [] past) (made_after before past) (levels_rounds row before past was) all

levels_visit : (row : SessionRow) (before : List Made) (rounds : List Round) (x : Option Made) → TellLevels row before → TellLevels row (visited [] rounds x) → TellLevels row (visited before rounds x)
levels_visit row before rounds x was all = levels_behind row x (made_after [] rounds) (made_after before rounds) (levels_rounds row before rounds was) all

levels_stay : {L : Type 0} (row : SessionRow) (before : List Made) (x : Stay L) → TellLevels row before → TellLevels row (stay_after [] x) → TellLevels row (stay_after before x)
levels_stay row before (Alone m answer) was all = was
levels_stay row before (With m v) was all = levels_visit row before v.rounds v.gone was all

pub levels_stays : {L : Type 0} (row row' : SessionRow) (x : Stay L) (past : List (Stay L)) → row' ≡ row → TellLevels row (stayed [] past) → TellLevels row' (stay_after [] x) → TellLevels row (stayed [] (x ∷ past))
levels_stays row row' x past same was one = levels_stay row (stayed [] past) x was (subst (λ (z : SessionRow). TellLevels z (stay_after [] x)) same one)

-- In a run of a coarse session each average that was told is a level, so its class tells it.
use Rattle.std.proofs.Common.{◌≡◌, ℕ, zero, suc, ◌*◌, ◌≤◌, Bool, true, false, List, [], ◌∷◌, map, nat_le, if◌then◌else◌, Some, None, refl, sym, ap, ◌∙◌, subst, ◌^◌, arith}
use Rattle.std.specs.List.{AllByRecursion}
use Rattle.pump_frame.specs.declared.row.SessionRow.{SessionRow}
use Rattle.pump_frame.specs.Averages.{level_from, level, IsLevel, down, averaging_of, mean_of, average_of}
use Rattle.moving_avg.proofs.Doubling.{own_level}
use Rattle.pump_core.specs.declared.feedback.Seen.{Seen}
use Rattle.pump_core.specs.declared.feedback.Feedback.{Feedback}
use Rattle.pump_core.specs.declared.feedback.Feedback.TheVariants.{Quiet, Full, Passed, Released, Repeat}
use Rattle.pump_core.specs.declared.event.Event.{Event}
use Rattle.pump_core.specs.declared.event.Event.TheVariants as events
use Rattle.pump_core.specs.Comings.{Timed, Comes, Looks}
use Rattle.pump_core.specs.World.{World}
use Rattle.pump_core.specs.Timed.{Step, Arrives, LowLook, HighLook, Offer, Read, Publish, Occurs, Point, LowLife, offered, seen, with_read, felt, after_event, StepsTo, LeadsTo}
use Rattle.pump_core.specs.Runs.{feedbacks}
use Rattle.world_laws.specs.Classes.{class_from, class_of}

-- ---- a class tells the level ----

-- the level of a class
level_at : (many first class : ℕ) → ℕ
level_at zero first class = 10 ^ 9
level_at (suc many) first zero = first
level_at (suc many) first (suc class) = level_at many (2 * first) class

tells : (many first average : ℕ) → level_at many first (class_from many first average) ≡ level_from many first average
unfolding class_from level_from level_at
tells zero first average = refl
tells (suc many) first average = by_test (nat_le average first) (tells many (2 * first) average)
  where
    by_test : (b : Bool) → level_at many (2 * first) (class_from many (2 * first) average) ≡ level_from many (2 * first) average
        → level_at (suc many) first (if b then 0 else suc (class_from many (2 * first) average)) ≡ (if b then first else level_from many (2 * first) average)
    by_test true later = refl
    by_test false later = later

few_from : (many first average : ℕ) → class_from many first average ≤ many
unfolding class_from
few_from zero first average = omega arith
few_from (suc many) first average = by_test (nat_le average first) (few_from many (2 * first) average)
  where
    by_test : (b : Bool) → class_from many (2 * first) average ≤ many → (if b then 0 else suc (class_from many (2 * first) average)) ≤ suc many
    by_test true later = omega arith
    by_test false later = omega (arith, later)

pub few : (average : ℕ) → class_of average ≤ 30
unfolding class_of
few average = few_from 30 1 average

-- two levels of one class are one
same_level : (a b : ℕ) → IsLevel a → IsLevel b → class_of a ≡ class_of b → a ≡ b
unfolding class_of level
same_level a b is_level also same = sym is_level ∙ sym (tells 30 1 a) ∙ ap (level_at 30 1) same ∙ tells 30 1 b ∙ also

-- two lists of levels with one list of classes are one
pub same_averages : (ns ms : List ℕ) → AllByRecursion IsLevel ns → AllByRecursion IsLevel ms → map class_of ns ≡ map class_of ms → ns ≡ ms
same_averages [] [] h k e = refl
same_averages [] (m ∷ ms) h k e = absurd (cc)
same_averages (n ∷ ns) [] h k e = absurd (cc)
same_averages (n ∷ ns) (m ∷ ms) h k e =
    let first : class_of n ≡ class_of m = cc in
    let rest : map class_of ns ≡ map class_of ms = cc in
    λ i. same_level n m h.0 k.0 first i ∷ same_averages ns ms h.1 k.1 rest i

-- ---- what is told in a coarse session ----

abbrev pub TellsLevel : Feedback → Type 0
TellsLevel (Passed s) = IsLevel s.average
TellsLevel (Repeat s) = IsLevel s.average
TellsLevel Quiet = Unit {0}
TellsLevel Full = Unit {0}
TellsLevel Released = Unit {0}

abbrev pub TellLevels : List Timed → Type 0
TellLevels past = AllByRecursion TellsLevel (feedbacks past)

abbrev pub LifeTells : LowLife → Type 0
LifeTells l = TellLevels l.side.events

abbrev pub PointTells : Point → Type 0
PointTells t = LifeTells t.life × AllByRecursion LifeTells t.earlier

felt_tells : (f : Feedback → Feedback) → ((x : Feedback) → TellsLevel x → TellsLevel (f x)) → (past : List Timed) → TellLevels past → TellLevels (felt f past)
felt_tells f keeps [] all = tt
felt_tells f keeps (Comes c ∷ past) all = felt_tells f keeps past all
felt_tells f keeps (Looks made ∷ past) all = (keeps made.feedback all.0, all.1)

offer_tells : (full : Bool) → TellsLevel (if full then Full else Released)
offer_tells true = tt
offer_tells false = tt

seen_level : (row : SessionRow) (times : List ℕ) → row.coarse ≡ true → IsLevel (seen row times).average
unfolding down
seen_level row times coarse =
    let is : average_of (averaging_of row) times ≡ level (mean_of (averaging_of row) times) =
    ap (λ b. if b then level (mean_of (averaging_of row) times) else mean_of (averaging_of row) times) coarse in
    ap level is ∙ own_level (mean_of (averaging_of row) times) ∙ sym is

read_tells : (s : Seen) → IsLevel s.average → (f : Feedback) → TellsLevel f → TellsLevel (with_read s f)
read_tells s is_level Released told = is_level
read_tells s is_level Quiet told = is_level
read_tells s is_level Full told = told
read_tells s is_level (Passed x) told = told
read_tells s is_level (Repeat x) told = told

event_tells : (t : Point) (e : Event) (v : World) → PointTells t → PointTells (after_event t e v)
event_tells t events.Send v told = told
event_tells t events.RemoveEnd v told = told
event_tells t (events.Crash (Some kept) receiver) v told = (tt, told)
event_tells t (events.Crash None receiver) v told = told
event_tells t (events.StoreBegin p) v told = told
event_tells t events.StoreEnd v told = told
event_tells t events.Forward v told = told
event_tells t (events.Acknowledge n) v told = told
event_tells t _ v told = told

step_tells : (row : SessionRow) (t : Point) (s : Step) (u : Point) → row.coarse ≡ true → StepsTo row t s u → PointTells t → PointTells u
step_tells row t (Arrives c) u coarse is told = subst PointTells (sym is) told
step_tells row t (LowLook m w gone d) u coarse is told = subst PointTells (sym is.1) ((tt, told.0), told.1)
step_tells row t (HighLook m) u coarse is told = subst PointTells (sym is.2) told
step_tells row t Offer u coarse is told =
    subst PointTells (sym is) (felt_tells (offered t.world) (λ x own. offer_tells _) t.life.side.events told.0, told.1)
step_tells row t Read u coarse is told =
    subst PointTells (sym is) (felt_tells (with_read (seen row t.high.times)) (read_tells (seen row t.high.times) (seen_level row t.high.times coarse)) t.life.side.events told.0, told.1)
step_tells row t Publish u coarse is told = subst PointTells (sym is.2) told
step_tells row t (Occurs e) u coarse is told = subst PointTells (sym is.3) (event_tells t e is.0 told)

pub run_tells : (row : SessionRow) (steps : List Step) (t : Point) → row.coarse ≡ true → LeadsTo row steps t → PointTells t
run_tells row [] t coarse is = subst PointTells (sym is.3) (tt, tt)
run_tells row (s ∷ past) u coarse is = step_tells row is.0 s u coarse is.2 (run_tells row past is.0 coarse is.1)

-- What a low look is told is what the past says.
use Rattle.std.proofs.Common.{◌≡◌, ℕ, Bool, true, false, List, Option, Some, None, refl, ap}
use Rattle.std.specs.Prelude.{if◌then◌else◌, ◌&&◌, ◌==◌, ◌-◌, is_some, length}
use Rattle.pump_frame.specs.declared.frame.Item.{Item}
use Rattle.pump_frame.specs.declared.row.SessionRow.{SessionRow}
use Rattle.pump_core.specs.declared.feedback.Seen.{Seen}
use Rattle.pump_core.specs.declared.feedback.Feedback.{Feedback}
use Rattle.pump_core.specs.declared.feedback.Feedback.TheVariants.{Quiet, Full, Passed, Released, Repeat}
use Rattle.pump_core.specs.Phases.{Phase}
use Rattle.pump_core.specs.Phases.{Idle, Passing, Waiting as Waits, Down}
use Rattle.pump_core.specs.History.{Arrival}
use Rattle.pump_core.specs.History.{Nothing, Came, Bad, Gone}
use Rattle.pump_core.specs.Exchanges.{is_gone, is_repeat, has_average, Part, count_after, greeted_after}
use Rattle.pump_core.specs.Comings.{may_take}
use Rattle.low_process.specs.declared.values.Phase.{Phase as LowPhase}
use Rattle.low_process.specs.declared.values.Phase.TheVariants as low
use Rattle.low_process.specs.Looks.{look_of, phase_of, hand_in}
use Rattle.pump_core.specs.Step.{is_quiet, fits_passing, fits_idle, fits_in}
use Rattle.pump_core.specs.Standing.{State}
use Rattle.pump_core.proofs.MayTake.{is_idle}
use Rattle.script_reader.specs.Past.{Past, pair}
use Rattle.script_reader.specs.Lows.{is_owed, comes_again, feedback_at}
use Rattle.script_reader.proofs.Hearing.{is_passing, owes, quiet_is}

-- the message in the low hand was passed
abbrev pub moves : Feedback → Bool
moves (Passed s) = true
moves Released = true
moves _ = false

-- the feedback is what the passage told, if it was asked: it was full or not, and had this pair
abbrev pub LookHead : Bool → Seen → Feedback → Type 0
LookHead full seen Quiet = Unit {0}
LookHead full seen Full = full ≡ true
LookHead full seen (Passed s) = (full ≡ false) × (s ≡ seen)
LookHead full seen Released = full ≡ false
LookHead full seen (Repeat s) = s ≡ seen

-- an offer is told so
abbrev pub offer_told : Bool → Bool → Seen → Feedback
offer_told full owed seen = if full then Full else if owed then Passed seen else Released

passing_told : (owed : Option ℕ) (f : Feedback) (seen : Seen) (full : Bool) → fits_passing owed f ≡ true → LookHead full seen f → f ≡ offer_told full (owes (Passing owed)) seen
passing_told None Quiet seen full fit h = absurd (cc)
passing_told (Some n) Quiet seen full fit h = absurd (cc)
passing_told None (Repeat t) seen full fit h = absurd (cc)
passing_told (Some n) (Repeat t) seen full fit h = absurd (cc)
passing_told None (Passed t) seen full fit h = absurd (cc)
passing_told (Some n) Released seen full fit h = absurd (cc)
passing_told None Full seen true fit h = refl
passing_told (Some n) Full seen true fit h = refl
passing_told None Full seen false fit h = absurd (cc)
passing_told (Some n) Full seen false fit h = absurd (cc)
passing_told (Some n) (Passed t) seen false fit h = ap (λ (u : Seen). Passed u) h.1
passing_told (Some n) (Passed t) seen true fit h = let e = h.0 in absurd (cc)
passing_told None Released seen false fit h = refl
passing_told None Released seen true fit h = absurd (cc)

-- without an offer
abbrev pub read_told : Bool → Bool → Seen → Feedback
read_told may again seen = if may && again then Repeat seen else Quiet

average_told : (f : Feedback) (seen : Seen) (full again : Bool) → (if again then has_average f else is_quiet f) ≡ true → LookHead full seen f → f ≡ read_told true again seen
average_told f seen full false fit h = quiet_is f fit
average_told (Repeat t) seen full true fit h = ap (λ (u : Seen). Repeat u) h
average_told Quiet seen full true fit h = absurd (cc)
average_told Full seen full true fit h = absurd (cc)
average_told (Passed t) seen full true fit h = absurd (cc)
average_told Released seen full true fit h = absurd (cc)

abbrev pub told_at : Option ℕ → Bool → Bool → Bool → Bool → Seen → Feedback
told_at (Some n) may again full owed seen = offer_told full owed seen
told_at None may again full owed seen = read_told may again seen

abbrev pub told_by : Bool → Option ℕ → Bool → Bool → Bool → Bool → Seen → Feedback
told_by gone hand may again full owed seen = if gone then Quiet else told_at hand may again full owed seen

idle_told : (row : SessionRow) (st : State) (a : Arrival) (f : Feedback) (seen : Seen) (full owed : Bool) → fits_idle row st a f ≡ true → LookHead full seen f → f ≡ told_by (is_gone a) None true (comes_again row st.next st.greeted a) full owed seen
idle_told row st Nothing f seen full owed fit h = quiet_is f fit
idle_told row st Bad f seen full owed fit h = quiet_is f fit
idle_told row st Gone f seen full owed fit h = quiet_is f fit
idle_told row st (Came g) f seen full owed fit h = average_told f seen full (is_repeat row st.next st.greeted g) fit h

pub told_in : (row : SessionRow) (st : State) (ph : Phase) (hand : Option ℕ) (m w : ℕ) (a : Arrival) (d : Bool) (f : Feedback) (seen : Seen) (full : Bool)
    → is_passing ph ≡ is_some hand → LookHead full seen f → fits_in row st (look_of m w a d f) ph ≡ true
    → f ≡ told_by (is_gone a) hand (is_idle ph) (comes_again row st.next st.greeted a) full (owes ph) seen
told_in row st Down (Some n) m w a d f seen full e h fit = absurd (cc)
told_in row st (Waits k at) (Some n) m w a d f seen full e h fit = absurd (cc)
told_in row st Idle (Some n) m w a d f seen full e h fit = absurd (cc)
told_in row st (Passing owed) None m w a d f seen full e h fit = absurd (cc)
told_in row st Down None m w a d f seen full e h fit =
    elim (is_gone a) as (λ g. f ≡ (if g then Quiet else Quiet)) [ true ↦ quiet_is f fit | false ↦ quiet_is f fit ]
told_in row st (Waits k at) None m w a d f seen full e h fit =
    elim (is_gone a) as (λ g. f ≡ (if g then Quiet else Quiet)) [ true ↦ quiet_is f fit | false ↦ quiet_is f fit ]
told_in row st Idle None m w a d f seen full e h fit = idle_told row st a f seen full false fit h
told_in row st (Passing owed) (Some n) m w a d f seen full e h fit =
    elim (is_gone a) as (λ g. (if g then is_quiet f else fits_passing owed f) ≡ true → f ≡ (if g then Quiet else offer_told full (owes (Passing owed)) seen)) [
      | true ↦ λ k. quiet_is f k
      | false ↦ λ k. passing_told owed f seen full k h
    ] fit

-- ---- by the process and the past ----

-- a message is in the low hand exactly while it is to be passed
pub passing_is : (ph : LowPhase) (hand : Item) → is_passing (phase_of ph hand.number) ≡ is_some (hand_in ph hand)
passing_is low.Idle hand = refl
passing_is (low.Passing owed) hand = refl
passing_is (low.Waiting n t) hand = refl
passing_is low.Down hand = refl

-- what was passed found room
pub hears_room : (full : Bool) (seen : Seen) (f : Feedback) → LookHead full seen f → moves f ≡ true → full ≡ false
hears_room full seen Quiet h e = absurd (cc)
hears_room full seen Full h e = absurd (cc)
hears_room full seen (Passed s) h e = h.0
hears_room full seen Released h e = h
hears_room full seen (Repeat s) h e = absurd (cc)

pub feedback_is : (row : SessionRow) (p : Past) (before : List Part) (a : Arrival) (hand : Option ℕ)
    → told_at hand (may_take p.history.life.opening before) (comes_again row (count_after p.history.life.opening before) (greeted_after row before) a) (length p.world.held == row.capacity - 2) (is_owed before) (pair row p) ≡ feedback_at row p before hand a
feedback_is row p before a None = refl
feedback_is row p before a (Some n) = refl

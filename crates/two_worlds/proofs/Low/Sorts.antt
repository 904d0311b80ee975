-- Each low look is of one sort.
use Rattle.std.proofs.Common.{◌≡◌, ℕ, ◌+◌, ◌<◌, Bool, true, false, cond, List, [], ◌∷◌, length, Option, Some, None, refl, ap, subst, arith, nat_lt}
use Rattle.std.specs.Prelude.{if◌then◌else◌, ◌&&◌, ◌||◌, ◌==◌, ◌^◌, not, nat_le}
use Rattle.std.proofs.lemmas.Bool.{and_parts, eqb-true}
use Rattle.std.proofs.lemmas.Bool.Decides.{nat_tests}
use Rattle.pump_frame.specs.declared.row.SessionRow.{SessionRow}
use Rattle.pump_frame.specs.declared.frame.Frame.{Frame}
use Rattle.pump_core.specs.declared.feedback.Feedback.{Feedback}
use Rattle.pump_core.specs.declared.feedback.Feedback.TheVariants.{Quiet, Full, Passed, Released, Repeat}
use Rattle.pump_core.specs.Phases.{Phase}
use Rattle.pump_core.specs.Phases.{Idle, Passing, Waiting as Waits, Down}
use Rattle.pump_core.specs.History.{Arrival}
use Rattle.pump_core.specs.History.{Nothing, Came, Bad, Gone}
use Rattle.pump_core.specs.History.{Look, Opening}
use Rattle.pump_core.specs.Exchanges.{is_gone, is_hello, is_data, permits_frame, is_fit, is_repeat, is_next, has_average, Waiting, Over, Part, Holding, Release, Empty, Leaving, Answer, Repeated, Offering, Dropped, Delivery, Loss, IsFrame, AreParts, count_after}
use Rattle.pump_core.specs.Replies.{sent, welcome, refusal, answer_to, number_in}
use Rattle.low_process.specs.Looks.{look_of}
use Rattle.pump_core.specs.Step.{FeedbackFits, is_quiet, is_full as hears_full, fits_passing, after, reply_at, stores_at}
use Rattle.pump_core.specs.Standing.{State, phase_after}
use Rattle.pump_core.specs.declared.event.Event.TheVariants.{Acknowledge}
use Rattle.script_reader.specs.Lows.{acks_of}
use Rattle.script_reader.proofs.Hearing.{is_passing, quiet_is}
use Rattle.two_worlds.proofs.Low.Told.{moves}

abbrev pub at : ℕ → Bool → Phase → State
at n g p = record { next = n; greeted = g; phase = p }

pub record Same (row : SessionRow) (s : State) (x : Look) : Type 0 where
  pub still : moves x.feedback ≡ false
  pub stores : stores_at row s x ≡ None
  pub acks : acks_of (sent x (reply_at row s x)) ≡ []
  pub next : (after row s x).next ≡ s.next

pub record Moves (row : SessionRow) (s : State) (x : Look) : Type 0 where
  pub moves : moves x.feedback ≡ true
  pub stores : stores_at row s x ≡ None
  pub acks : acks_of (sent x (reply_at row s x)) ≡ []
  pub next : (after row s x).next ≡ s.next
  pub was : is_passing s.phase ≡ true

pub record Stores (row : SessionRow) (s : State) (x : Look) (f : Frame) : Type 0 where
  pub arrival : x.arrival ≡ Came f
  pub number : f.number ≡ s.next
  pub still : moves x.feedback ≡ false
  pub stores : stores_at row s x ≡ Some f.number
  pub acks : acks_of (sent x (reply_at row s x)) ≡ []
  pub next : (after row s x).next ≡ s.next + 1
  pub was : is_passing s.phase ≡ false

pub record Acks (row : SessionRow) (s : State) (x : Look) (n at : ℕ) : Type 0 where
  pub was : s.phase ≡ Waits n at
  pub still : moves x.feedback ≡ false
  pub stores : stores_at row s x ≡ None
  pub acks : acks_of (sent x (reply_at row s x)) ≡ Acknowledge n ∷ []
  pub next : (after row s x).next ≡ s.next

pub data Sort (row : SessionRow) (s : State) (x : Look) : Type 0 where
  IsSame : Same row s x → Sort row s x
  IsMoving : Moves row s x → Sort row s x
  IsStoring : (f : Frame) → Stores row s x f → Sort row s x
  IsAcking : (n at : ℕ) → Acks row s x n at → Sort row s x

still_quiet : (f : Feedback) → is_quiet f ≡ true → moves f ≡ false
still_quiet f e = ap moves (quiet_is f e)

still_average : (f : Feedback) → has_average f ≡ true → moves f ≡ false
still_average (Repeat t) e = refl
still_average Quiet e = refl
still_average Full e = refl
still_average (Passed t) e = absurd (cc)
still_average Released e = absurd (cc)

full_is : (f : Feedback) → hears_full f ≡ true → f ≡ Full
full_is Full e = refl
full_is Quiet e = absurd (cc)
full_is (Passed t) e = absurd (cc)
full_is Released e = absurd (cc)
full_is (Repeat t) e = absurd (cc)

moves_on : (owed : Option ℕ) (f : Feedback) → fits_passing owed f ≡ true → hears_full f ≡ false → moves f ≡ true
moves_on None Full e h = absurd (cc)
moves_on (Some n) Full e h = absurd (cc)
moves_on None Quiet e h = absurd (cc)
moves_on (Some n) Quiet e h = absurd (cc)
moves_on None (Passed t) e h = absurd (cc)
moves_on (Some n) (Passed t) e h = refl
moves_on None Released e h = refl
moves_on (Some n) Released e h = absurd (cc)
moves_on None (Repeat t) e h = absurd (cc)
moves_on (Some n) (Repeat t) e h = absurd (cc)

-- no answer is an acknowledgement
no_ack_in : (row : SessionRow) (x : Look) (k : ℕ) (a b c d e : Bool) → acks_of (sent x (if a then (if b then Some (welcome row k) else Some (refusal row 1 0)) else if c then Some (refusal row 2 0) else if d then Some (refusal row 3 0) else if e then Some (refusal row 4 k) else None)) ≡ []
no_ack_in row x k true true c d e = refl
no_ack_in row x k true false c d e = refl
no_ack_in row x k false b true d e = refl
no_ack_in row x k false b false true e = refl
no_ack_in row x k false b false false true = refl
no_ack_in row x k false b false false false = refl

no_ack : (row : SessionRow) (x : Look) (n : ℕ) (g : Bool) (f : Frame) → acks_of (sent x (answer_to row n g f)) ≡ []
no_ack row x n g f = no_ack_in row x n (is_hello f.kind) (permits_frame row f) (not (is_data f.kind) || not g || not (f.session == row.id)) (nat_lt row.message (length f.payload)) (nat_lt n f.number)

next_number : (row : SessionRow) (n : ℕ) (g : Bool) (f : Frame) → is_next row n g f ≡ true → f.number ≡ n
next_number row n g f h =
    let first = and_parts (is_fit row g f && f.number == n) (nat_lt n (2 ^ 48)) h in
    eqb-true f.number n (and_parts (is_fit row g f) (f.number == n) first.0).1

sort_came : (row : SessionRow) (n : ℕ) (g : Bool) (m w : ℕ) (f : Frame) (b : Feedback) → FeedbackFits row (at n g Idle) (look_of m w (Came f) false b) → Sort row (at n g Idle) (look_of m w (Came f) false b)
sort_came row n g m w f b fit =
    let x = look_of m w (Came f) false b in
    elim (is_repeat row n g f) as (λ r. is_repeat row n g f ≡ r → (if r then has_average b else is_quiet b) ≡ true → Sort row (at n g Idle) x) [
      | true ↦ λ r k. IsSame (record { still = still_average b k; stores = rw r refl; acks = rw r refl; next = rw r refl })
      | false ↦ λ r k. elim (is_next row n g f) as (λ t. is_next row n g f ≡ t → Sort row (at n g Idle) x) [
        | true ↦ λ t. IsStoring f (record { arrival = refl; number = next_number row n g f t; still = still_quiet b k; stores = rw (r, t) refl; acks = rw (r, t) refl; next = rw (r, t) refl; was = refl })
        | false ↦ λ t. IsSame (record { still = still_quiet b k; stores = rw (r, t) refl; acks = rw r (rw t (no_ack row x n g f)); next = rw (r, t) refl })
      ] refl
    ] refl fit

sort_in : (row : SessionRow) (n : ℕ) (g : Bool) (ph : Phase) (m w : ℕ) (a : Arrival) (b : Feedback) → FeedbackFits row (at n g ph) (look_of m w a false b) → Sort row (at n g ph) (look_of m w a false b)
sort_in row n g Down m w a b fit = IsSame (record { still = still_quiet b fit; stores = refl; acks = refl; next = refl })
sort_in row n g (Waits k t) m w a b fit =
    let x = look_of m w a false b in
    elim (is_gone a) as (λ e. is_gone a ≡ e → Sort row (at n g (Waits k t)) x) [
      | true ↦ λ e. IsSame (record { still = still_quiet b fit; stores = refl; acks = rw e refl; next = rw e refl })
      | false ↦ λ e. elim (nat_le t m) as (λ l. nat_le t m ≡ l → Sort row (at n g (Waits k t)) x) [
        | true ↦ λ l. IsAcking k t (record { was = refl; still = still_quiet b fit; stores = refl; acks = rw (e, l) refl; next = rw (e, l) refl })
        | false ↦ λ l. IsSame (record { still = still_quiet b fit; stores = refl; acks = rw (e, l) refl; next = rw (e, l) refl })
      ] refl
    ] refl
sort_in row n g (Passing owed) m w a b fit =
    let x = look_of m w a false b in
    elim (is_gone a) as (λ e. is_gone a ≡ e → (if e then is_quiet b else fits_passing owed b) ≡ true → Sort row (at n g (Passing owed)) x) [
      | true ↦ λ e k. IsSame (record { still = still_quiet b k; stores = refl; acks = refl; next = rw e refl })
      | false ↦ λ e k. elim (hears_full b) as (λ u. hears_full b ≡ u → Sort row (at n g (Passing owed)) x) [
        | true ↦ λ u. IsSame (record { still = ap moves (full_is b u); stores = refl; acks = refl; next = rw (e, u) refl })
        | false ↦ λ u. IsMoving (record { moves = moves_on owed b k u; stores = refl; acks = refl; next = rw (e, u) refl; was = refl })
      ] refl
    ] refl fit
sort_in row n g Idle m w Nothing b fit = IsSame (record { still = still_quiet b fit; stores = refl; acks = refl; next = refl })
sort_in row n g Idle m w Bad b fit = IsSame (record { still = still_quiet b fit; stores = refl; acks = refl; next = refl })
sort_in row n g Idle m w Gone b fit = IsSame (record { still = still_quiet b fit; stores = refl; acks = refl; next = refl })
sort_in row n g Idle m w (Came f) b fit = sort_came row n g m w f b fit

pub sort_of : (row : SessionRow) (s : State) (m w : ℕ) (a : Arrival) (b : Feedback) → FeedbackFits row s (look_of m w a false b) → Sort row s (look_of m w a false b)
sort_of row s m w a b fit = sort_in row s.next s.greeted s.phase m w a b fit

-- what waits for its acknowledgement is stored
repeat_below : (row : SessionRow) (n : ℕ) (g : Bool) (a : Arrival) → IsFrame (is_repeat row n g) a → number_in a < n
repeat_below row n g Nothing h = absurd h
repeat_below row n g Bad h = absurd h
repeat_below row n g Gone h = absurd h
repeat_below row n g (Came f) h = let k = (and_parts (is_fit row g f) (nat_lt f.number n) h).1 in grind (arith, nat_tests)

store_is : (row : SessionRow) (n : ℕ) (g : Bool) (a : Arrival) → IsFrame (is_next row n g) a → number_in a ≡ n
store_is row n g Nothing h = absurd h
store_is row n g Bad h = absurd h
store_is row n g Gone h = absurd h
store_is row n g (Came f) h = next_number row n g f h

same_number : (a b c d : ℕ) → Waits a b ≡ Waits c d → a ≡ c
same_number a b c d e = cc

pub waits_below : (row : SessionRow) (o : Opening) (parts : List Part) (n t : ℕ) → AreParts row o parts → phase_after row o parts ≡ Waits n t → n < count_after o parts
waits_below row o [] n t h e = elim o.is_held as (λ b. cond b (Passing None) Idle ≡ Waits n t → n < o.count) [ true ↦ λ k. absurd (cc) | false ↦ λ k. absurd (cc) ] e
waits_below row o (Holding newest older ∷ before) n t h e = absurd (cc)
waits_below row o (Release looks last ∷ before) n t h e = absurd (cc)
waits_below row o (Empty x ∷ before) n t h e = absurd (cc)
waits_below row o (Leaving x ∷ before) n t h e = absurd (cc)
waits_below row o (Answer x ∷ before) n t h e = absurd (cc)
waits_below row o (Repeated first (Waiting quiet) ∷ before) n t h e =
    subst (λ (k : ℕ). k < count_after o before) (same_number (number_in first.arrival) _ n t e) (repeat_below row _ _ first.arrival h.0.part.0)
waits_below row o (Repeated first (Over quiet last) ∷ before) n t h e = absurd (cc)
waits_below row o (Offering first full ∷ before) n t h e = absurd (cc)
waits_below row o (Dropped first full gone ∷ before) n t h e = absurd (cc)
waits_below row o (Delivery first full passing (Waiting quiet) ∷ before) n t h e =
    let k = store_is row _ _ first.arrival h.0.part.0.next in
    let f = same_number (number_in first.arrival) _ n t e in
    omega (arith, k, f)
waits_below row o (Delivery first full passing (Over quiet last) ∷ before) n t h e = absurd (cc)
waits_below row o (Loss first rest ∷ before) n t h e = absurd (cc)

-- ---- a repeat finds the low hand empty ----

quiet_average : (f : Feedback) → is_quiet f ≡ true → has_average f ≡ true → ⊥
quiet_average Quiet e h = absurd (cc)
quiet_average Full e h = absurd (cc)
quiet_average (Passed t) e h = absurd (cc)
quiet_average Released e h = absurd (cc)
quiet_average (Repeat t) e h = absurd (cc)

passing_average : (owed : Option ℕ) (f : Feedback) → fits_passing owed f ≡ true → has_average f ≡ true → ⊥
passing_average None (Repeat t) e h = absurd (cc)
passing_average (Some n) (Repeat t) e h = absurd (cc)
passing_average owed Quiet e h = absurd (cc)
passing_average owed Full e h = absurd (cc)
passing_average owed (Passed t) e h = absurd (cc)
passing_average owed Released e h = absurd (cc)

repeats_in : (row : SessionRow) (n : ℕ) (g : Bool) (ph : Phase) (m w : ℕ) (a : Arrival) (b : Feedback) → FeedbackFits row (at n g ph) (look_of m w a false b) → has_average b ≡ true → is_passing ph ≡ false
repeats_in row n g Idle m w a b fit h = refl
repeats_in row n g Down m w a b fit h = refl
repeats_in row n g (Waits k t) m w a b fit h = refl
repeats_in row n g (Passing owed) m w a b fit h =
    absurd (elim (is_gone a) as (λ e. (if e then is_quiet b else fits_passing owed b) ≡ true → ⊥) [
      | true ↦ λ k. quiet_average b k h
      | false ↦ λ k. passing_average owed b k h
    ] fit)

pub repeats : (row : SessionRow) (s : State) (m w : ℕ) (a : Arrival) (b : Feedback) → FeedbackFits row s (look_of m w a false b) → has_average b ≡ true → is_passing s.phase ≡ false
repeats row s m w a b fit h = repeats_in row s.next s.greeted s.phase m w a b fit h

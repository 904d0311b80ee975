-- What a look of a life does: what it is told, the events that it makes in the world, and the steps that
-- stand in it.
use Rattle.std.proofs.Common.{◌≡◌, ℕ, Bool, true, false, List, [], ◌∷◌, ◌++◌, length, Some, None, refl, sym, ap, ◌∙◌}
use Rattle.std.specs.Prelude.{if◌then◌else◌, ◌&&◌, ◌||◌, not, nat_lt, ◌==◌}
use Rattle.std.specs.List.{AllByRecursion}
use Rattle.pump_frame.specs.declared.payload.Payload.{Payload}
use Rattle.pump_frame.specs.declared.row.SessionRow.{SessionRow}
use Rattle.pump_frame.specs.declared.frame.Frame.{Frame}
use Rattle.pump_core.specs.declared.event.Event.{Event}
use Rattle.pump_core.specs.declared.event.Event.TheVariants.{StoreBegin, StoreEnd, Forward, Acknowledge}
use Rattle.pump_core.specs.declared.feedback.Seen.{Seen}
use Rattle.pump_core.specs.declared.feedback.Feedback.{Feedback}
use Rattle.pump_core.specs.declared.feedback.Feedback.TheVariants.{Quiet, Full, Passed, Released, Repeat}
use Rattle.pump_core.specs.History.{Arrival, Nothing, Came, Bad, Gone, Look, Opening}
use Rattle.pump_core.specs.Exchanges.{is_hello, is_data, permits_frame, is_next, has_average, is_passed, Part, is_finished, is_left, IsFrame, IsAnswered}
use Rattle.pump_core.specs.Replies.{sent, welcome, acknowledgement, refusal, number_in, answer}
use Rattle.pump_core.specs.Comings.{may_take, is_nothing}
use Rattle.pump_core.specs.Timed.{Step, Offer, Read, Occurs}
use Rattle.pump_core.specs.Runs.{payload_in}
use Rattle.script_reader.specs.Lows.{offers, stored_events, acks_of}

-- ---- what a look does ----

-- a look does nothing of the world, stores a message, finds all places full, passes a message that
-- nobody waits for or one that is to be acknowledged, reads the average, or acknowledges
pub data Deed : Type 0 where
  Rests : Deed
  Stores : (p : Payload) → Deed
  FindsFull : Deed
  Releases : Deed
  Passes : (s : Seen) → Deed
  Reads : (s : Seen) → Deed
  Acknowledges : (n : ℕ) → Deed

-- what it is told
abbrev pub feedback_by : Deed → Feedback
feedback_by Rests = Quiet
feedback_by (Stores p) = Quiet
feedback_by FindsFull = Full
feedback_by Releases = Released
feedback_by (Passes s) = Passed s
feedback_by (Reads s) = Repeat s
feedback_by (Acknowledges n) = Quiet

-- the events that it makes beside those of its offer
abbrev pub own_events : Deed → List Event
own_events (Stores p) = StoreBegin p ∷ StoreEnd ∷ []
own_events (Acknowledges n) = Acknowledge n ∷ []
own_events _ = []

abbrev pub events_by : Deed → List Event
events_by d = offers (feedback_by d) ++ own_events d

-- the steps that stand in it
abbrev pub steps_by : Deed → List Step
steps_by Rests = []
steps_by (Stores p) = Occurs (StoreBegin p) ∷ Occurs StoreEnd ∷ []
steps_by FindsFull = Offer ∷ []
steps_by Releases = Offer ∷ Occurs Forward ∷ []
steps_by (Passes s) = Offer ∷ Occurs Forward ∷ Read ∷ []
steps_by (Reads s) = Read ∷ []
steps_by (Acknowledges n) = Occurs (Acknowledge n) ∷ []

-- ---- the feedback of a part's look ----

pub averaged : (f : Feedback) → has_average f ≡ true → (s : Seen) × (f ≡ Repeat s)
averaged (Repeat s) e = (s, refl)
averaged Quiet e = absurd (cc)
averaged Full e = absurd (cc)
averaged (Passed s) e = absurd (cc)
averaged Released e = absurd (cc)

pub passed : (f : Feedback) → is_passed f ≡ true → (s : Seen) × (f ≡ Passed s)
passed (Passed s) e = (s, refl)
passed Quiet e = absurd (cc)
passed Full e = absurd (cc)
passed (Repeat s) e = absurd (cc)
passed Released e = absurd (cc)

-- a look with a message that is held
abbrev pub held : Bool → Deed
held gone = if gone then Rests else FindsFull

pub held_told : (gone : Bool) → (if gone then Quiet else Full) ≡ feedback_by (held gone)
held_told true = refl
held_told false = refl

pub held_events : (gone : Bool) → [] ≡ own_events (held gone)
held_events true = refl
held_events false = refl

pub held_steps : (gone : Bool) → (if gone then [] else Offer ∷ []) ≡ steps_by (held gone)
held_steps true = refl
held_steps false = refl

-- a look that ends a wait
abbrev pub ended : Bool → ℕ → Deed
ended gone n = if gone then Rests else Acknowledges n

pub ended_told : (gone : Bool) (n : ℕ) → Quiet ≡ feedback_by (ended gone n)
ended_told true n = refl
ended_told false n = refl

pub ended_steps : (gone : Bool) (n : ℕ) → (if gone then [] else Occurs (Acknowledge n) ∷ []) ≡ steps_by (ended gone n)
ended_steps true n = refl
ended_steps false n = refl

pub ended_events : (row : SessionRow) (x : Look) (gone : Bool) (n : ℕ)
    → acks_of (if gone then [] else sent x (Some (acknowledgement row n))) ≡ own_events (ended gone n)
ended_events row x true n = refl
ended_events row x false n = refl

-- ---- the events of a part's look ----

pub store_events : (row : SessionRow) (n : ℕ) (greeted : Bool) (a : Arrival) → IsFrame (is_next row n greeted) a
    → stored_events (Some (number_in a)) a ++ [] ≡ StoreBegin (payload_in a) ∷ StoreEnd ∷ []
store_events row n greeted (Came f) h = refl
store_events row n greeted Nothing h = absurd h
store_events row n greeted Bad h = absurd h
store_events row n greeted Gone h = absurd h

-- an answer is no acknowledgement
pub answer_acks : (row : SessionRow) (n : ℕ) (x : Look) (hello permitted wrong long far : Bool) (k : ℕ)
    → acks_of (sent x (if hello then (if permitted then Some (welcome row n) else Some (refusal row 1 0)) else if wrong then Some (refusal row 2 0) else if long then Some (refusal row 3 0) else if far then Some (refusal row 4 k) else None)) ≡ []
answer_acks row n x true true wrong long far k = refl
answer_acks row n x true false wrong long far k = refl
answer_acks row n x false permitted true long far k = refl
answer_acks row n x false permitted false true far k = refl
answer_acks row n x false permitted false false true k = refl
answer_acks row n x false permitted false false false k = refl

pub answers_quietly : (row : SessionRow) (n : ℕ) (greeted : Bool) (x : Look) (a : Arrival)
    → acks_of (sent x (answer row n greeted a)) ≡ []
answers_quietly row n greeted x Nothing = refl
answers_quietly row n greeted x Gone = refl
answers_quietly row n greeted x Bad = refl
answers_quietly row n greeted x (Came f) =
    answer_acks row n x (is_hello f.kind) (permits_frame row f) (not (is_data f.kind) || not greeted || not (f.session == row.id)) (nat_lt row.message (length f.payload)) (nat_lt n f.number) n

-- ---- what a part's look takes ----

pub is_some : (row : SessionRow) (n : ℕ) (greeted : Bool) (a : Arrival) → IsAnswered row n greeted a → is_nothing a ≡ false
is_some row n greeted Nothing h = absurd h
is_some row n greeted Gone h = absurd h
is_some row n greeted Bad h = refl
is_some row n greeted (Came f) h = refl

pub is_frame : (test : Frame → Bool) (a : Arrival) → IsFrame test a → is_nothing a ≡ false
is_frame test (Came f) h = refl
is_frame test Nothing h = absurd h
is_frame test Bad h = absurd h
is_frame test Gone h = absurd h

-- a look that begins a part may take exactly where no message is left in the hand
pub may : (o : Opening) (parts : List Part) → AllByRecursion (λ q. is_finished q ≡ true) parts → may_take o parts ≡ not (is_left o parts)
may o [] f = refl
may o (p ∷ parts) f = rw f.0 refl

pub begins : (o : Opening) (parts : List Part) (nothing : Bool) → AllByRecursion (λ q. is_finished q ≡ true) parts → false ≡ is_left o parts
    → nothing ≡ false → true ≡ (may_take o parts && not nothing)
begins o parts nothing f left some = sym (ap (λ b. b && not nothing) (may o parts f ∙ ap not (sym left)) ∙ ap not some)

pub holds : (o : Opening) (parts : List Part) (nothing : Bool) → AllByRecursion (λ q. is_finished q ≡ true) parts → true ≡ is_left o parts
    → false ≡ (may_take o parts && not nothing)
holds o parts nothing f left = sym (ap (λ b. b && not nothing) (may o parts f ∙ ap not (sym left)))

pub left_out : (b : Bool) → false ≡ (b && not true)
left_out true = refl
left_out false = refl

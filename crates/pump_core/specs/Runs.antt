-- The feedback of a timed run, the places in which its steps stand, and its low history. All lists have
-- their newest entry first, but for the steps of one look.
use Rattle.std.specs.Prelude.{◌≡◌, ℕ, Bool, if◌then◌else◌, List, [], ◌∷◌, map}
use Rattle.pump_frame.specs.declared.payload.Payload.{Payload}
use Rattle.pump_frame.specs.declared.row.SessionRow.{SessionRow}
use Rattle.pump_core.specs.declared.feedback.Feedback.{Feedback}
use Rattle.pump_core.specs.declared.event.Event.TheVariants.{StoreBegin, StoreEnd, Forward, Acknowledge}
use Rattle.pump_core.specs.History.{Arrival, Came, Look, Opening, Life, History}
use Rattle.pump_core.specs.Exchanges.{is_gone, Waiting, Over, Part, Holding, Release, Repeated, Offering, Delivery}
use Rattle.pump_core.specs.Exchanges.{Loss, IsCut}
use Rattle.pump_core.specs.Replies.{number_in}
use Rattle.pump_core.specs.Pairs.{uncounted}
use Rattle.pump_core.specs.Comings.{Timed, Comes, Looks, Side, HasSides}
use Rattle.pump_core.specs.Timed.{Step, Offer, Read, Occurs, LowLife, Point, LeadsTo}

-- ---- feedback ----

-- what comes down from High in a life: the held flag of its opening, and the feedback of its looks
pub record LifeFeedback : Type 0 where
  pub is_held : Bool
  pub looks : List Feedback

-- the feedback of the looks among what happened
abbrev pub feedbacks : List Timed → List Feedback
feedbacks [] = []
feedbacks (Comes c ∷ past) = feedbacks past
feedbacks (Looks made ∷ past) = made.feedback ∷ feedbacks past

abbrev pub feedback_of_side : Side → LifeFeedback
feedback_of_side s = record { is_held = s.opening.is_held; looks = feedbacks s.events }

-- the low sides of the lives of a run
abbrev pub sides : Point → List Side
sides t = map (λ (l : LowLife). l.side) (t.life ∷ t.earlier)

-- the steps that stood in the looks of these lives
abbrev pub stood_in : Point → List (List (List Step))
stood_in t = map (λ (l : LowLife). l.stood) (t.life ∷ t.earlier)

-- the feedback of the run that came to this point
abbrev pub feedback_of : Point → List LifeFeedback
feedback_of t = map feedback_of_side (sides t)

abbrev pub feedback_of_life : Life → LifeFeedback
feedback_of_life l = record {
  is_held = l.opening.is_held;
  looks = map (λ (x : Look). x.feedback) l.looks;
}

-- the feedback that stands in a history
abbrev pub feedback_in : History → List LifeFeedback
feedback_in h = map feedback_of_life (h.life ∷ h.earlier)

-- ---- places ----

-- the message of the frame in an arrival
abbrev pub payload_in : Arrival → Payload
payload_in (Came f) = f.payload
payload_in _ = []

-- the acknowledgement of a message stands in the look that ends the wait for it, unless the connection
-- was lost
abbrev pub acknowledged_in : Look → ℕ → List Step
acknowledged_in last n = if is_gone last.arrival then [] else Occurs (Acknowledge n) ∷ []

-- the steps that stand in the newest look of these parts, in their order: a look that takes the next
-- message begins to store it, and ends this unless the disk failed; a look with a message in the hand
-- offers it, and where this passes it on, reads the average if its acknowledgement is owed; the first
-- look of a repeat reads it too
abbrev pub steps_in : List Part → List Step
steps_in (Offering first [] ∷ before) =
    Occurs (StoreBegin (payload_in first.arrival)) ∷ Occurs StoreEnd ∷ []
steps_in (Loss first [] ∷ before) =
    Occurs (StoreBegin (payload_in first.arrival)) ∷ []
steps_in (Offering first (x ∷ full) ∷ before) = Offer ∷ []
steps_in (Holding newest older ∷ before) = if is_gone newest.arrival then [] else Offer ∷ []
steps_in (Release looks last ∷ before) = Offer ∷ Occurs Forward ∷ []
steps_in (Delivery first full passing (Waiting []) ∷ before) =
    Offer ∷ Occurs Forward ∷ Read ∷ []
steps_in (Delivery first full passing (Over quiet last) ∷ before) =
    acknowledged_in last (number_in first.arrival)
steps_in (Repeated first (Waiting []) ∷ before) = Read ∷ []
steps_in (Repeated first (Over quiet last) ∷ before) = acknowledged_in last (number_in first.arrival)
steps_in _ = []

-- in each look of a life the steps stand that belong there
abbrev pub StandInPlace : SessionRow → Opening → List Look → List (List Step) → Type 0
StandInPlace row o [] [] = Unit {0}
StandInPlace row o (x ∷ looks) (steps ∷ stood) =
    ((parts : List Part) × IsCut row (record { opening = o; looks = x ∷ looks }) parts
    × (steps ≡ steps_in parts))
    × StandInPlace row o looks stood
StandInPlace row o [] (steps ∷ stood) = ⊥
StandInPlace row o (x ∷ looks) [] = ⊥

-- .. and so in each life
abbrev pub AllInPlace : SessionRow → List Life → List (List (List Step)) → Type 0
AllInPlace row [] [] = Unit {0}
AllInPlace row (l ∷ ls) (stood ∷ more) =
    StandInPlace row l.opening l.looks stood × AllInPlace row ls more
AllInPlace row [] (stood ∷ more) = ⊥
AllInPlace row (l ∷ ls) [] = ⊥

-- ---- runs ----

-- what happened on the low side, with the feedback changed
abbrev pub with_feedback : (Feedback → Feedback) → Timed → Timed
with_feedback g (Comes c) = Comes c
with_feedback g (Looks made) = Looks (record made { feedback = g made.feedback })

abbrev pub side_with : (Feedback → Feedback) → Side → Side
side_with g s = record { opening = s.opening; events = map (with_feedback g) s.events }

-- these steps, the newest first, are a timed run that came to this point, and this is its low history:
-- the looks were offered what came, the feedback is the run's, and each step stands in its place
pub record IsRun (row : SessionRow) (steps : List Step) (t : Point) (h : History) : Type 0 where
  pub leads : LeadsTo row steps t
  pub low : HasSides row (map (side_with uncounted) (sides t)) h
  pub feedback : feedback_in h ≡ feedback_of t
  pub places : AllInPlace row (h.life ∷ h.earlier) (stood_in t)

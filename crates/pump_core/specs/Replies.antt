-- The replies of a history, read off the parts of its lives. A history keeps its newest look first;
-- its replies stand in the order in which they were sent.
use Rattle.std.specs.Prelude.{◌≡◌, ℕ, Bool, true, false, ◌==◌, not, ◌||◌, nat_lt, if◌then◌else◌, List, [], ◌∷◌, ◌++◌}
use Rattle.std.specs.Prelude.{length, Option, Some, None}
use Rattle.pump_frame.specs.declared.frame.Kind.TheVariants.{Welcome, Ack, Refuse}
use Rattle.pump_frame.specs.declared.frame.Frame.{Frame}
use Rattle.pump_frame.specs.declared.row.SessionRow.{SessionRow}
use Rattle.pump_core.specs.History.{Arrival}
use Rattle.pump_core.specs.History.{Nothing, Came, Bad, Gone}
use Rattle.pump_core.specs.History.{Look, Opening, Life, History}
use Rattle.pump_core.specs.Exchanges.{is_gone, is_hello, is_data, permits_frame, Wait, Waiting, Over, Part, Holding}
use Rattle.pump_core.specs.Exchanges.{Release, Empty, Leaving, Answer, Repeated, Offering, Dropped, Delivery, Loss}
use Rattle.pump_core.specs.Exchanges.{count_after, greeted_after, IsCut}

-- the reply to a permitted HELLO: how many messages are stored
abbrev pub welcome : SessionRow → ℕ → Frame
welcome row count = record { kind = Welcome; session = row.id; number = count; payload = [] }

-- the acknowledgement of a message
abbrev pub acknowledgement : SessionRow → ℕ → Frame
acknowledgement row number = record { kind = Ack; session = row.id; number = number; payload = [] }

-- a refusal has its code as its one payload byte
abbrev pub refusal : SessionRow → ℕ → ℕ → Frame
refusal row code number = record { kind = Refuse; session = row.id; number = number; payload = code ∷ [] }

-- a reply and the moment of the look that gives it
pub record Sent : Type 0 where
  pub moment : ℕ
  pub reply : Frame

-- what a look sends, where it has a reply or none
abbrev pub sent : Look → Option Frame → List Sent
sent x None = []
sent x (Some r) = record { moment = x.moment; reply = r } ∷ []

-- the answer to a frame that is neither stored nor repeated; the first case that applies counts:
-- a HELLO is welcomed or refused (1), then come another kind, no greeting or another session (2), a
-- payload that is too long (3), and a number too high (4, with the number that is wanted)
abbrev pub answer_to : SessionRow → ℕ → Bool → Frame → Option Frame
answer_to row count greeted f =
    if is_hello f.kind then (if permits_frame row f then Some (welcome row count) else Some (refusal row 1 0))
    else if not (is_data f.kind) || not greeted || not (f.session == row.id) then Some (refusal row 2 0)
    else if nat_lt row.message (length f.payload) then Some (refusal row 3 0)
    else if nat_lt count f.number then Some (refusal row 4 count)
    else None

-- the answer to an arrival that is answered at once
abbrev pub answer : SessionRow → ℕ → Bool → Arrival → Option Frame
answer row count greeted Nothing = None
answer row count greeted Gone = None
answer row count greeted Bad = Some (refusal row 2 0)
answer row count greeted (Came f) = answer_to row count greeted f

-- the number of the frame in an arrival
abbrev pub number_in : Arrival → ℕ
number_in (Came f) = f.number
number_in _ = 0

-- the acknowledgement at the end of a wait, unless the connection was lost
abbrev pub acknowledged : SessionRow → ℕ → Wait → List Sent
acknowledged row n (Waiting quiet) = []
acknowledged row n (Over quiet last) = if is_gone last.arrival then [] else sent last (Some (acknowledgement row n))

-- the replies of a part, where so many messages are stored before it and the connection is greeted
-- or not
abbrev pub replies_in : SessionRow → ℕ → Bool → Part → List Sent
replies_in row count greeted (Answer x) = sent x (answer row count greeted x.arrival)
replies_in row count greeted (Repeated first wait) = acknowledged row (number_in first.arrival) wait
replies_in row count greeted (Delivery first full passing wait) = acknowledged row (number_in first.arrival) wait
replies_in row count greeted (Loss first rest) = sent first (Some (refusal row 5 0))
replies_in _ _ _ _ = []

-- the replies of parts, the oldest reply first
abbrev pub replies_of : SessionRow → Opening → List Part → List Sent
replies_of row o [] = []
replies_of row o (p ∷ before) = replies_of row o before ++ replies_in row (count_after o before)
    (greeted_after row before) p

-- these are the replies of the life
abbrev pub LifeReplies : SessionRow → Life → List Sent → Type 0
LifeReplies row life replies = (parts : List Part) × IsCut row life parts
    × (replies ≡ replies_of row life.opening parts)

-- these are the replies of the lives, of which the newest comes first
abbrev pub LivesReplies : SessionRow → List Life → List Sent → Type 0
LivesReplies row [] replies = replies ≡ []
LivesReplies row (life ∷ earlier) replies = (older : List Sent) × (newer : List Sent) × LivesReplies row earlier older
    × LifeReplies row life newer × (replies ≡ older ++ newer)

-- these are the replies of the history
abbrev pub LowReplies : SessionRow → History → List Sent → Type 0
LowReplies row h replies = LivesReplies row (h.life ∷ h.earlier) replies

-- whether a wait's newest look takes its arrival
abbrev pub wait_takes : Wait → Bool
wait_takes (Waiting quiet) = false
wait_takes (Over quiet last) = is_gone last.arrival

-- whether the newest look of these parts takes its arrival
abbrev pub takes : List Part → Bool
takes [] = false
takes (Holding newest older ∷ before) = is_gone newest.arrival
takes (Release looks last ∷ before) = false
takes (Empty x ∷ before) = false
takes (Leaving x ∷ before) = true
takes (Answer x ∷ before) = true
takes (Repeated first (Waiting []) ∷ before) = true
takes (Repeated first (Waiting (x ∷ quiet)) ∷ before) = false
takes (Repeated first (Over quiet last) ∷ before) = is_gone last.arrival
takes (Offering first [] ∷ before) = true
takes (Offering first (x ∷ full) ∷ before) = false
takes (Dropped first full gone ∷ before) = true
takes (Delivery first full passing wait ∷ before) = wait_takes wait
takes (Loss first [] ∷ before) = true
takes (Loss first (x ∷ rest) ∷ before) = false

-- the number that the newest look of these parts stores
abbrev pub stores : List Part → Option ℕ
stores (Offering first [] ∷ before) = Some (number_in first.arrival)
stores _ = None

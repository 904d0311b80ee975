-- What a low process stands for, between two looks and within one.
use Rattle.std.specs.Prelude.{◌≡◌, ℕ, ◌+◌, ◌≤◌, ◌^◌, Bool, true, false, if◌then◌else◌, List, ◌++◌, Option, None, Some}
use Rattle.std.specs.Prelude.{is_some}
use Rattle.pump_frame.specs.declared.row.SessionRow.{SessionRow}
use Rattle.pump_frame.specs.declared.frame.Item.{Item}
use Rattle.pump_core.specs.declared.feedback.Feedback.{Feedback}
use Rattle.pump_core.specs.declared.feedback.Feedback.TheVariants.{Quiet, Full, Passed, Released, Repeat}
use Rattle.pump_core.specs.Phases as phases
use Rattle.pump_core.specs.History.{Arrival}
use Rattle.pump_core.specs.History.{Nothing, Came, Bad, Gone}
use Rattle.pump_core.specs.History.{Look, Opening, History, looked}
use Rattle.pump_core.specs.Exchanges.{is_gone, is_repeat, IsFrame, Part, IsCut}
use Rattle.pump_core.specs.Replies.{Sent, sent, LowReplies, number_in, takes, stores}
use Rattle.pump_core.specs.Standing.{State, StandsAt}
use Rattle.low_process.specs.declared.values.Arrival.{Arrival as GivenArrival}
use Rattle.low_process.specs.declared.values.Arrival.TheVariants.{Nothing as GivenNothing, Frame as GivenFrame}
use Rattle.low_process.specs.declared.values.Arrival.TheVariants.{Bad as GivenBad, Gone as GivenGone}
use Rattle.low_process.specs.declared.values.Asking.{Asking}
use Rattle.low_process.specs.declared.values.Asking.TheVariants.{Nothing as AsksNothing, Forward as AsksForward}
use Rattle.low_process.specs.declared.values.Asking.TheVariants.{Average as AsksAverage}
use Rattle.low_process.specs.declared.values.Answer.{Answer}
use Rattle.low_process.specs.declared.values.Answer.TheVariants.{Full as ToldFull, Passed as ToldPassed}
use Rattle.low_process.specs.declared.values.Answer.TheVariants.{Average as ToldAverage}
use Rattle.low_process.specs.declared.values.LowLook.{LowLook}
use Rattle.low_process.specs.declared.values.Ask.{Ask}
use Rattle.low_process.specs.declared.values.Ask.TheVariants.{Done, Forward, Average}
use Rattle.low_process.specs.declared.values.Phase.{Phase}
use Rattle.low_process.specs.declared.values.Phase.TheVariants.{Idle, Passing, Waiting, Down}
use Rattle.low_process.specs.declared.process.LowProcess.{LowProcess}
use Rattle.low_process.specs.Hands.{HasNumber}

-- the arrival that the code is given
abbrev pub arrival_of : GivenArrival → Arrival
arrival_of GivenNothing = Nothing
arrival_of (GivenFrame f) = Came f.now
arrival_of GivenBad = Bad
arrival_of GivenGone = Gone

-- the code's phase with the number of the message in the hand, which counts where it is owed
abbrev pub phase_of : Phase → ℕ → phases.Phase
phase_of Idle hand = phases.Idle
phase_of (Passing owed) hand = phases.Passing (if owed then Some hand else None)
phase_of (Waiting number due) hand = phases.Waiting number due
phase_of Down hand = phases.Down

-- the row of the session
abbrev pub row_of : LowProcess → SessionRow
row_of p = p.row

-- the process, with its row made coarse
abbrev pub made_coarse : LowProcess → LowProcess
made_coarse p = record p { row = record p.row { coarse = true } }

-- the number of the next message
abbrev pub next_of : LowProcess → ℕ
next_of p = p.next

-- the moment of the last look, and 0 before one
abbrev pub last_of : LowProcess → ℕ
last_of p = p.last

-- no question is open
abbrev pub IsBetweenLooks : LowProcess → Type 0
IsBetweenLooks p = p.asking ≡ AsksNothing

-- what stands in the hand, be it a message or what was there before
abbrev pub item_in_hand : LowProcess → Item
item_in_hand p = p.hand

abbrev pub is_down_in : Phase → Bool
is_down_in Down = true
is_down_in _ = false

-- a store has failed
abbrev pub is_down : LowProcess → Bool
is_down p = is_down_in p.phase

abbrev pub is_idle_in : Phase → Bool
is_idle_in Idle = true
is_idle_in _ = false

-- the next look may take an arrival that is no loss of the connection
abbrev pub is_idle : LowProcess → Bool
is_idle p = is_idle_in p.phase

abbrev pub owes_in : Phase → Bool
owes_in (Passing owed) = owed
owes_in _ = false

-- an acknowledgement is owed for the message in the hand
abbrev pub owes : LowProcess → Bool
owes p = owes_in p.phase

abbrev pub state_of : LowProcess → State
state_of p = record { next = p.next; greeted = p.greeted; phase = phase_of p.phase p.hand.number }

abbrev pub look_of : ℕ → ℕ → Arrival → Bool → Feedback → Look
look_of moment word arrival is_fault feedback = record {
  moment = moment;
  word = word;
  arrival = arrival;
  is_fault = is_fault;
  feedback = feedback;
}

-- an opening with this count, and a message in the hand or none
abbrev pub opening_of : ℕ → Option Item → Opening
opening_of next hand = record { count = next; is_held = is_some hand }

-- a frame is one that a low process can be given
abbrev pub IsLawful : Arrival → Type 0
IsLawful (Came f) = HasNumber f
IsLawful _ = Unit {0}

-- between two looks: the low process stands for this history
pub record StandsFor (p : LowProcess) (h : History) : Type 0 where
  pub asking : p.asking ≡ AsksNothing
  pub stands : StandsAt p.row (state_of p) p.last h

-- a process in this state asks this of the passage in a look with this arrival
abbrev pub Asks : SessionRow → State → Arrival → Asking → Type 0
Asks row s a AsksNothing = ⊥
Asks row s a AsksForward =
    ((owed : Option ℕ) × (s.phase ≡ phases.Passing owed)) × (is_gone a ≡ false)
Asks row s a (AsksAverage number) =
    (s.phase ≡ phases.Idle) × IsFrame (is_repeat row s.next s.greeted) a × (number_in a ≡ number)

-- within a look of this moment, word, arrival and outcome: it stands for the history before
pub record AsksFor (p : LowProcess) (h : History) (m w : ℕ) (arrival : Arrival) (is_fault : Bool)
    : Type 0 where
  pub asks : Asks p.row (state_of p) arrival p.asking
  pub before : ℕ
  pub stands : StandsAt p.row (state_of p) before h
  pub order : before ≤ m
  pub moment : p.last ≡ m
  pub word : p.word ≡ w

-- the answer is one to this question, and its average is at most 10^9
abbrev pub IsAnswerTo : Asking → Answer → Type 0
IsAnswerTo AsksForward ToldFull = Unit {0}
IsAnswerTo AsksForward (ToldPassed s) = s.average ≤ 10 ^ 9
IsAnswerTo (AsksAverage n) (ToldAverage s) = s.average ≤ 10 ^ 9
IsAnswerTo _ _ = ⊥

-- .. to the open question
abbrev pub AnswersTo : LowProcess → Answer → Type 0
AnswersTo p answer = IsAnswerTo p.asking answer

-- an average that was told is at most 10^9
abbrev pub IsInBounds : Feedback → Type 0
IsInBounds (Passed s) = s.average ≤ 10 ^ 9
IsInBounds (Repeat s) = s.average ≤ 10 ^ 9
IsInBounds _ = Unit {0}

-- the feedback is what was told; what passes is released where no acknowledgement is owed
abbrev pub Tells : Bool → Answer → Feedback → Type 0
Tells owed ToldFull f = f ≡ Full
Tells true (ToldPassed s) f = f ≡ Passed s
Tells false (ToldPassed s) f = f ≡ Released
Tells owed (ToldAverage s) f = f ≡ Repeat s

-- the look leads to this process: any history that it stood for before, it stands for after with
-- the look added; the reply is added to the replies; and what the look took and stored is what the
-- history says
pub record Looks (stood : History → Type 0) (q : LowProcess) (row : SessionRow) (x : Look) (l : LowLook)
    : Type 0 where
  pub asking : q.asking ≡ AsksNothing
  pub history : (h : History) → stood h → StandsFor q (looked h x)
  pub replies : (h : History) (before : List Sent) → stood h → LowReplies row h before
      → LowReplies row (looked h x) (before ++ sent x l.reply)
  pub taken : (h : History) (parts : List Part) → stood h → IsCut row (looked h x).life parts
      → l.taken ≡ takes parts
  pub stored : (h : History) (parts : List Part) → stood h → IsCut row (looked h x).life parts
      → l.stored ≡ stores parts

-- the process has asked whether the passage takes a message, or what the average is
abbrev pub AsksToForward : LowProcess → Type 0
AsksToForward p = p.asking ≡ AsksForward

abbrev pub AsksTheAverage : LowProcess → Type 0
AsksTheAverage p = (n : ℕ) × (p.asking ≡ AsksAverage n)

-- the look is made without a question, or the process asks
abbrev pub LookBegins : LowProcess → LowProcess → ℕ → ℕ → Arrival → Bool → Ask → Type 0
LookBegins p q m w a d (Done l) =
    (l.feedback ≡ Quiet) × Looks (StandsFor p) q p.row (look_of m w a d l.feedback) l
LookBegins p q m w a d (Forward item) =
    AsksToForward q × ((h : History) → StandsFor p h → AsksFor q h m w a d)
LookBegins p q m w a d Average =
    AsksTheAverage q × ((h : History) → StandsFor p h → AsksFor q h m w a d)

-- ---- the message in the hand ----

-- a message that is found in the hand is the last one stored
abbrev pub IsHand : ℕ → Option Item → Type 0
IsHand next None = Unit {0}
IsHand next (Some item) = item.number + 1 ≡ next

abbrev pub hand_in : Phase → Item → Option Item
hand_in (Passing owed) item = Some item
hand_in _ item = None

-- the message in the hand
abbrev pub hand_of : LowProcess → Option Item
hand_of p = hand_in p.phase p.hand

-- the hand after this feedback: what was passed leaves it, and a repeat finds it empty
abbrev pub hand_passed : Option Item → Feedback → Option Item
hand_passed hand Quiet = hand
hand_passed hand Full = hand
hand_passed hand (Passed s) = None
hand_passed hand Released = None
hand_passed hand (Repeat s) = None

-- a message with this number and the payload of the arrival
abbrev pub item_of : Arrival → ℕ → Option Item
item_of (Came f) number = Some (record { number = number; payload = f.payload })
item_of _ number = None

-- the hand where this was stored
abbrev pub hand_stored : Option Item → Arrival → Option ℕ → Option Item
hand_stored hand a None = hand
hand_stored hand a (Some number) = item_of a number

-- the hand after a look: what was passed leaves it, and what was stored is put in
abbrev pub hand_after : Option Item → Arrival → LowLook → Option Item
hand_after hand a l = hand_stored (hand_passed hand l.feedback) a l.stored

-- the hand after the first half of a look; an offer is of the message in the hand, the last one
-- stored, and a process that asks is up
abbrev pub HandBegins : LowProcess → LowProcess → Arrival → Ask → Type 0
HandBegins p q a (Done l) = hand_of q ≡ hand_after (hand_of p) a l
HandBegins p q a (Forward item) =
    (hand_of p ≡ Some item) × (hand_of q ≡ Some item)
    × (item.number + 1 ≡ q.next) × (is_down q ≡ false)
HandBegins p q a Average = (hand_of p ≡ None) × (hand_of q ≡ None) × (is_down q ≡ false)

-- The low process of a record's life as a machine: which feedback a look's line tells it, and whether the
-- look goes on with the life. It serves private clauses and proofs alone.
use Rattle.std.specs.Prelude.{◌≡◌, ℕ, ◌+◌, ◌^◌, ◌≤◌, [], Bool, true, false, ◌&&◌, ◌||◌, not, ◌==◌, if◌then◌else◌}
use Rattle.std.specs.Prelude.{Option, Some, None, option_map}
use Rattle.pump_frame.specs.Averages.{averaging_of, average_of}
use Rattle.pump_frame.specs.declared.frame.Frame.{Frame}
use Rattle.pump_frame.specs.declared.row.SessionRow.{SessionRow}
use Rattle.pump_core.specs.declared.feedback.Seen.{Seen}
use Rattle.pump_core.specs.declared.feedback.Feedback.{Feedback}
use Rattle.pump_core.specs.declared.feedback.Feedback.TheVariants as feedbacks
use Rattle.pump_core.specs.History.{Arrival}
use Rattle.pump_core.specs.History.{Nothing, Came, Bad, Gone}
use Rattle.pump_core.specs.Exchanges.{is_gone, is_hello, is_repeat, is_next, permits_frame}
use Rattle.pump_core.specs.Comings.{is_nothing}
use Rattle.pump_core.specs.Phases as phases
use Rattle.pump_core.specs.Standing.{State}
use Rattle.script_reader.specs.declared.line.ToldFeedback.{ToldFeedback}
use Rattle.script_reader.specs.declared.line.ToldFeedback.TheVariants.{Quiet, Full, Pair}
use Rattle.script_reader.specs.Alone.{tells_level}
use Rattle.pump_audit.specs.declared.entry.LookLine.{LookLine}
use Rattle.pump_audit.specs.Entries.{arrival_of}
use Rattle.pump_audit.specs.declared.life.Phase.{Phase}
use Rattle.pump_audit.specs.declared.life.Phase.TheVariants.{Idle, Passing, Waiting, Down}
use Rattle.pump_audit.specs.declared.life.Life.{Life}

-- ---- what the code's process stands for ----

abbrev pub phase_of : Phase → phases.Phase
phase_of Idle = phases.Idle
phase_of (Passing owed) = phases.Passing owed
phase_of (Waiting number due) = phases.Waiting number due
phase_of Down = phases.Down

abbrev pub state_of : Life → State
state_of l = record { next = l.next; greeted = l.greeted; phase = phase_of l.phase }

abbrev pub is_down : phases.Phase → Bool
is_down phases.Down = true
is_down _ = false

-- ---- the feedback that a line tells ----

-- the pair that was read, if this is one that may come down
abbrev pub pair_in : SessionRow → ToldFeedback → Option Seen
pair_in row (Pair count average) = if tells_level row (Pair count average) then Some
    (record { count = count; average = average }) else None
pair_in row Quiet = None
pair_in row Full = None

-- .. of a look that asks nothing of the passage
abbrev pub of_nothing : ToldFeedback → Option Feedback
of_nothing Quiet = Some feedbacks.Quiet
of_nothing Full = None
of_nothing (Pair count average) = None

-- a release tells that no time was published
abbrev pub of_release : SessionRow → ℕ → ℕ → Option Feedback
of_release row count average = if count == 0 && average == average_of (averaging_of row) [] then Some feedbacks.Released
    else None

-- .. of a look that offers a message, whose acknowledgement is owed or not
abbrev pub of_offer : SessionRow → Option ℕ → ToldFeedback → Option Feedback
of_offer row owed Full = Some feedbacks.Full
of_offer row owed Quiet = None
of_offer row (Some n) (Pair count average) = option_map feedbacks.Passed (pair_in row (Pair count average))
of_offer row None (Pair count average) = of_release row count average

-- .. of a look that may take what it is offered
abbrev pub of_arrival : SessionRow → State → Arrival → ToldFeedback → Option Feedback
of_arrival row s (Came f) t = if is_repeat row s.next s.greeted f then option_map feedbacks.Repeat (pair_in row t) else
    of_nothing t
of_arrival row s Nothing t = of_nothing t
of_arrival row s Bad t = of_nothing t
of_arrival row s Gone t = of_nothing t

-- .. of a look in this phase
abbrev pub of_look : SessionRow → State → Arrival → ToldFeedback → phases.Phase → Option Feedback
of_look row s a t phases.Down = None
of_look row s a t (phases.Waiting n at) = of_nothing t
of_look row s a t (phases.Passing owed) = if is_gone a then of_nothing t else of_offer row owed t
of_look row s a t phases.Idle = of_arrival row s a t

-- its average is at most 10^9
abbrev pub IsInBounds : Feedback → Type 0
IsInBounds (feedbacks.Passed seen) = seen.average ≤ 10 ^ 9
IsInBounds (feedbacks.Repeat seen) = seen.average ≤ 10 ^ 9
IsInBounds _ = Unit {0}

-- ---- whether the look goes on ----

-- a look in this phase takes what it is offered
abbrev pub takes_all : Arrival → phases.Phase → Bool
takes_all a phases.Idle = true
takes_all a _ = is_nothing a || is_gone a

-- a look in this phase begins to store the message of its arrival
abbrev pub stores_of : SessionRow → State → Arrival → Bool
stores_of row s (Came f) = not (is_repeat row s.next s.greeted f) && is_next row s.next s.greeted f
stores_of row s _ = false

abbrev pub begins_store : SessionRow → State → Arrival → phases.Phase → Bool
begins_store row s a phases.Idle = stores_of row s a
begins_store row s a _ = false

-- ---- what a taken frame leaves ----

-- where the next message is stored, or fails to be
abbrev pub stored : State → ℕ → Bool → State
stored s number is_fault = if is_fault then record s { phase = phases.Down } else record s
    { next = s.next + 1; phase = phases.Passing (Some number) }

-- where it is answered at once
abbrev pub answered : SessionRow → State → Frame → State
answered row s f = record s { greeted = if is_hello f.kind then permits_frame row f else s.greeted }

-- ---- the look goes on ----

-- the machine lets a look of this line go on, with this feedback
pub record Lets (row : SessionRow) (s : State) (last : ℕ) (l : LookLine) (f : Feedback) : Type 0 where
  pub feedback : of_look row s (arrival_of l.coming) l.told s.phase ≡ Some f
  pub order : last ≤ l.moment
  pub takes : takes_all (arrival_of l.coming) s.phase ≡ true
  pub outcome : l.is_fault ≡ true → begins_store row s (arrival_of l.coming) s.phase ≡ true

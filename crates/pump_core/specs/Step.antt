-- The low process as a machine: what one look does to its state. It serves proofs alone: the histories
-- and their replies are told without it.
use Rattle.std.specs.Prelude.{◌≡◌, ℕ, ◌+◌, Bool, true, false, nat_le, if◌then◌else◌, Option, Some, None}
use Rattle.pump_frame.specs.declared.frame.Frame.{Frame}
use Rattle.pump_frame.specs.declared.row.SessionRow.{SessionRow}
use Rattle.pump_core.specs.declared.feedback.Feedback.{Feedback}
use Rattle.pump_core.specs.declared.feedback.Feedback.TheVariants.{Quiet, Full, Passed, Released}
use Rattle.pump_core.specs.History.{Arrival}
use Rattle.pump_core.specs.History.{Nothing, Came, Bad, Gone}
use Rattle.pump_core.specs.History.{Look, Opening}
use Rattle.pump_core.specs.Phases.{Phase}
use Rattle.pump_core.specs.Phases.{Idle, Passing, Waiting as Waits, Down}
use Rattle.pump_core.specs.Exchanges.{is_gone, is_hello, permits_frame, is_repeat, is_next, has_average, due}
use Rattle.pump_core.specs.Replies.{acknowledgement, refusal, answer}
use Rattle.pump_core.specs.Standing.{State}

-- the state at an opening
abbrev pub opened : Opening → State
opened o = record { next = o.count; greeted = false; phase = if o.is_held then Passing None else Idle }

-- the state after a taken frame
abbrev pub taken : SessionRow → State → Look → Frame → State
taken row s x f =
    if is_repeat row s.next s.greeted f then record s { phase = Waits f.number (due row x) }
    else if is_next row s.next s.greeted f then (if x.is_fault then record s { phase = Down } else record s
    { next = s.next + 1; phase = Passing (Some f.number) })
    else record s { greeted = if is_hello f.kind then permits_frame row f else s.greeted }

-- the state after a look in Idle
abbrev pub after_idle : SessionRow → State → Look → Arrival → State
after_idle row s x Nothing = s
after_idle row s x Bad = record s { greeted = false }
after_idle row s x Gone = record s { greeted = false }
after_idle row s x (Came f) = taken row s x f

-- the phase after a message was passed
abbrev pub passed : SessionRow → Look → Option ℕ → Phase
passed row x None = Idle
passed row x (Some n) = Waits n (due row x)

-- the feedback says that the passage is full
abbrev pub is_full : Feedback → Bool
is_full Full = true
is_full _ = false

-- the state after a look in this phase
abbrev pub after_in : SessionRow → State → Look → Phase → State
after_in row s x Down = s
after_in row s x (Waits n at) = if is_gone x.arrival then record { next = s.next; greeted = false; phase = Idle } else
    (if nat_le at x.moment then record s { phase = Idle } else s)
after_in row s x (Passing owed) = if is_gone x.arrival then record {
  next = s.next;
  greeted = false;
  phase = Passing
      None;
} else (if is_full x.feedback then s else record s { phase = passed row x owed })
after_in row s x Idle = after_idle row s x x.arrival

-- the state after a look
abbrev pub after : SessionRow → State → Look → State
after row s x = after_in row s x s.phase

-- the reply to a taken frame
abbrev pub reply_taken : SessionRow → State → Look → Frame → Option Frame
reply_taken row s x f =
    if is_repeat row s.next s.greeted f then None
    else if is_next row s.next s.greeted f then (if x.is_fault then Some (refusal row 5 0) else None)
    else answer row s.next s.greeted (Came f)

-- the reply at a look in Idle
abbrev pub reply_idle : SessionRow → State → Look → Arrival → Option Frame
reply_idle row s x Nothing = None
reply_idle row s x Bad = Some (refusal row 2 0)
reply_idle row s x Gone = None
reply_idle row s x (Came f) = reply_taken row s x f

-- the reply at a look in this phase
abbrev pub reply_in : SessionRow → State → Look → Phase → Option Frame
reply_in row s x Down = None
reply_in row s x (Waits n at) = if is_gone x.arrival then None else (if nat_le at x.moment then Some
    (acknowledgement row n) else None)
reply_in row s x (Passing owed) = None
reply_in row s x Idle = reply_idle row s x x.arrival

-- the reply at a look
abbrev pub reply_at : SessionRow → State → Look → Option Frame
reply_at row s x = reply_in row s x s.phase

-- the feedback that the offer of a message may have, its acknowledgement owed or not
abbrev pub fits_passing : Option ℕ → Feedback → Bool
fits_passing owed Full = true
fits_passing (Some n) (Passed s) = true
fits_passing None Released = true
fits_passing owed f = false

-- the feedback says nothing
abbrev pub is_quiet : Feedback → Bool
is_quiet Quiet = true
is_quiet _ = false

-- the feedback that a look in Idle may have
abbrev pub fits_idle : SessionRow → State → Arrival → Feedback → Bool
fits_idle row s (Came f) feedback = if is_repeat row s.next s.greeted f then has_average feedback else is_quiet feedback
fits_idle row s Nothing feedback = is_quiet feedback
fits_idle row s Bad feedback = is_quiet feedback
fits_idle row s Gone feedback = is_quiet feedback

-- the feedback that a look in this phase may have
abbrev pub fits_in : SessionRow → State → Look → Phase → Bool
fits_in row s x Down = is_quiet x.feedback
fits_in row s x (Waits n at) = is_quiet x.feedback
fits_in row s x (Passing owed) = if is_gone x.arrival then is_quiet x.feedback else fits_passing owed x.feedback
fits_in row s x Idle = fits_idle row s x.arrival x.feedback

-- the look has a feedback that it may have
abbrev pub FeedbackFits : SessionRow → State → Look → Type 0
FeedbackFits row s x = fits_in row s x s.phase ≡ true

-- whether a look in Idle takes its arrival
abbrev pub takes_idle : Arrival → Bool
takes_idle Nothing = false
takes_idle _ = true

-- whether a look in this phase takes its arrival
abbrev pub takes_in : Look → Phase → Bool
takes_in x Down = false
takes_in x (Waits n at) = is_gone x.arrival
takes_in x (Passing owed) = is_gone x.arrival
takes_in x Idle = takes_idle x.arrival

-- whether a look takes its arrival
abbrev pub takes_at : State → Look → Bool
takes_at s x = takes_in x s.phase

-- the number that a look in Idle stores
abbrev pub stores_idle : SessionRow → State → Look → Arrival → Option ℕ
stores_idle row s x (Came f) =
    if is_repeat row s.next s.greeted f then None
    else if is_next row s.next s.greeted f then (if x.is_fault then None else Some f.number)
    else None
stores_idle row s x _ = None

-- the number that a look in this phase stores
abbrev pub stores_in : SessionRow → State → Look → Phase → Option ℕ
stores_in row s x Idle = stores_idle row s x x.arrival
stores_in row s x _ = None

-- the number that a look stores
abbrev pub stores_at : SessionRow → State → Look → Option ℕ
stores_at row s x = stores_in row s x s.phase

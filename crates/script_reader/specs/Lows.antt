-- A low look of a session: what it is offered and told, what happens in the world, and what is printed.
use Rattle.std.specs.Prelude.{◌≡◌, ℕ, ◌-◌, Bool, true, false, ◌&&◌, ◌||◌, ◌==◌, if◌then◌else◌, List, [], ◌∷◌, ◌++◌}
use Rattle.std.specs.Prelude.{length, drop, Option, Some, None}
use Rattle.pump_frame.specs.declared.frame.Kind.{Kind}
use Rattle.pump_frame.specs.declared.frame.Kind.TheVariants.{Ack}
use Rattle.pump_frame.specs.declared.row.SessionRow.{SessionRow}
use Rattle.pump_core.specs.declared.feedback.Feedback.{Feedback}
use Rattle.pump_core.specs.declared.feedback.Feedback.TheVariants.{Quiet, Full, Passed, Released, Repeat}
use Rattle.pump_core.specs.declared.event.Event.{Event as WorldEvent}
use Rattle.pump_core.specs.declared.event.Event.TheVariants.{StoreBegin, StoreEnd, Forward, Acknowledge}
use Rattle.pump_core.specs.History.{Arrival}
use Rattle.pump_core.specs.History.{Nothing, Came, Bad}
use Rattle.pump_core.specs.History.{Look, looked}
use Rattle.pump_core.specs.Exchanges.{is_gone, is_repeat, Part, Offering, count_after, greeted_after, IsCut}
use Rattle.pump_core.specs.Comings.{may_take}
use Rattle.pump_core.specs.Replies.{Sent, LowReplies, takes, stores}
use Rattle.pump_core.specs.Events.{Run}
use Rattle.script_reader.specs.declared.event.Event.{Event}
use Rattle.script_reader.specs.declared.event.Event.TheVariants as prints
use Rattle.script_reader.specs.Past.{Past, pair}

-- ---- what the look is offered ----

-- the earliest arrival that waits; none where it is behind bad bytes
abbrev pub first_of : Bool → List Arrival → Arrival
first_of true waits = Nothing
first_of false [] = Nothing
first_of false (a ∷ waits) = a

-- after bad bytes, what waits is never offered
abbrev pub is_bad : Arrival → Bool
is_bad Bad = true
is_bad _ = false

-- ---- what the look is told ----

-- an acknowledgement is owed for the message in the low hand: its delivery stands, and no Gone came
abbrev pub is_owed : List Part → Bool
is_owed (Offering first full ∷ before) = true
is_owed _ = false

-- the arrival is a frame whose message is stored already
abbrev pub comes_again : SessionRow → ℕ → Bool → Arrival → Bool
comes_again row count greeted (Came f) = is_repeat row count greeted f
comes_again row count greeted _ = false

-- an offer is told Full exactly where all places between the hands are taken; else the message is
-- passed, with a read of High's times where its acknowledgement is owed
abbrev pub offer_feedback : SessionRow → Past → List Part → Feedback
offer_feedback row p before =
    if length p.world.held == row.capacity - 2 then Full
    else if is_owed before then Passed (pair row p)
    else Released

-- a look without an offer reads High's times where it takes a repeated message
abbrev pub arrival_feedback : SessionRow → Past → List Part → Arrival → Feedback
arrival_feedback row p before a =
    if may_take p.history.life.opening before
    && comes_again row (count_after p.history.life.opening before) (greeted_after row before) a
    then Repeat (pair row p) else Quiet

-- a look that begins with a message in the low hand offers it
abbrev pub feedback_at : SessionRow → Past → List Part → Option ℕ → Arrival → Feedback
feedback_at row p before (Some n) a = offer_feedback row p before
feedback_at row p before None a = arrival_feedback row p before a

-- the feedback of a look after the parts `before`: a look with Gone asks nothing
abbrev pub feedback : SessionRow → Past → List Part → Arrival → Feedback
feedback row p before a = if is_gone a then Quiet else feedback_at row p before p.world.low_hand a

-- ---- what happens in the world ----

-- an offer that is not told Full passes the message on
abbrev pub offers : Feedback → List WorldEvent
offers (Passed s) = Forward ∷ []
offers Released = Forward ∷ []
offers _ = []

-- a message that is stored
abbrev pub stored_events : Option ℕ → Arrival → List WorldEvent
stored_events (Some n) (Came f) = StoreBegin f.payload ∷ StoreEnd ∷ []
stored_events _ _ = []

-- an acknowledgement among the replies
abbrev pub ack_by : Kind → ℕ → List WorldEvent
ack_by Ack n = Acknowledge n ∷ []
ack_by _ n = []

abbrev pub acks_of : List Sent → List WorldEvent
acks_of [] = []
acks_of (r ∷ rs) = ack_by r.reply.kind r.reply.number ++ acks_of rs

-- ---- what is printed ----

abbrev pub printed_store : ℕ → ℕ → Option ℕ → List Event
printed_store session m None = []
printed_store session m (Some n) = prints.Stored session m n ∷ []

abbrev pub printed_feedback : ℕ → ℕ → Feedback → List Event
printed_feedback session m Quiet = []
printed_feedback session m Full = prints.Full session m ∷ []
printed_feedback session m (Passed s) = prints.Passed session m s ∷ []
printed_feedback session m Released = prints.Released session m ∷ []
printed_feedback session m (Repeat s) = prints.Repeat session m s ∷ []

abbrev pub printed_replies : ℕ → List Sent → List Event
printed_replies session [] = []
printed_replies session (r ∷ rs) = prints.Low session r.moment r.reply ∷ printed_replies session rs

-- ---- a look ----

-- the look x leads from the past p to the past q, and prints this
pub record IsLook (row : SessionRow) (p : Past) (x : Look) (q : Past) (printed : List Event) : Type 0 where
  -- the life without the look and with it, cut into exchanges
  pub before : List Part
  pub cut : IsCut row p.history.life before
  pub after : List Part
  pub cut_with : IsCut row (looked p.history x).life after
  -- the replies of the history without the look and with it: the new ones are the look's
  pub replies : List Sent
  pub are_replies : LowReplies row p.history replies
  pub new : List Sent
  pub are_replies_with : LowReplies row (looked p.history x) (replies ++ new)
  -- what the look is told, and what happens in the world
  pub told : x.feedback ≡ feedback row p before x.arrival
  pub world : Run p.world (offers x.feedback ++ (stored_events (stores after) x.arrival ++ acks_of new)) q.world
  -- what else there is after it
  pub history : q.history ≡ looked p.history x
  pub waits : q.waits ≡ (if takes after then drop 1 p.waits else p.waits)
  pub broken : q.is_broken ≡ (p.is_broken || (takes after && is_bad x.arrival))
  pub reading : q.reading ≡ p.reading
  pub first_returned : q.returned_before ≡ p.returned_before
  pub times : q.times ≡ p.times
  pub sends : q.sends ≡ p.sends
  pub moment : q.moment ≡ x.moment
  -- what is printed
  pub printed_is : printed ≡ printed_store row.id x.moment (stores after)
      ++ (printed_feedback row.id x.moment x.feedback ++ printed_replies row.id new)

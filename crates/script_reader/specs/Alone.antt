-- A low side alone, to which a script tells what the passage answers: what it has been through, and
-- what a line does to it.
use Rattle.std.specs.Prelude.{◌≡◌, ◌⊎◌, ℕ, ◌<◌, ◌≤◌, Bool, true, false, ◌&&◌, ◌||◌, ◌==◌, not, nat_le, if◌then◌else◌}
use Rattle.std.specs.Prelude.{List, [], ◌∷◌, ◌++◌, length, drop}
use Rattle.pump_frame.specs.Averages.{level, averaging_of, average_of}
use Rattle.pump_frame.specs.Readings.{Reading, Within}
use Rattle.pump_frame.specs.declared.row.SessionRow.{SessionRow}
use Rattle.pump_core.specs.declared.feedback.Seen.{Seen}
use Rattle.pump_core.specs.declared.feedback.Feedback.{Feedback}
use Rattle.pump_core.specs.declared.feedback.Feedback.TheVariants as feedbacks
use Rattle.pump_core.specs.History.{Arrival}
use Rattle.pump_core.specs.History.{Came, Gone}
use Rattle.pump_core.specs.History.{Look, Opening, History, first_life, looked}
use Rattle.pump_core.specs.Exchanges.{is_gone, is_next, Part, Holding, Offering, Dropped, count_after, greeted_after}
use Rattle.pump_core.specs.Exchanges.{IsCut}
use Rattle.pump_core.specs.Comings.{may_take}
use Rattle.pump_core.specs.Replies.{Sent, LowReplies, takes, stores}
use Rattle.script_reader.specs.declared.event.Event.{Event}
use Rattle.script_reader.specs.declared.line.Line.{Line}
use Rattle.script_reader.specs.declared.line.Line.TheVariants as lines
use Rattle.script_reader.specs.declared.line.ToldFeedback.{ToldFeedback}
use Rattle.script_reader.specs.declared.line.ToldFeedback.TheVariants.{Quiet, Full, Pair}
use Rattle.script_reader.specs.Lows.{first_of, is_bad, is_owed, comes_again, printed_store, printed_feedback}
use Rattle.script_reader.specs.Lows.{printed_replies}
use Rattle.script_reader.specs.Steps.{LineComing, Arrives}

-- what a low side alone has been through
pub record PastAlone : Type 0 where
  -- the low history, each look with its arrival and its feedback
  pub history : History
  -- what came on the low connection and was not taken, whether bad bytes were taken on it, and what
  -- the reader of the connection holds
  pub waits : List Arrival
  pub is_broken : Bool
  pub reading : Reading
  -- the next device call of the low disk fails
  pub is_armed : Bool
  -- the moment of the last line that had one
  pub moment : ℕ

-- before its first line: so many messages are stored, and the last one is in the low hand or not
abbrev pub fresh_alone : ℕ → Bool → PastAlone
fresh_alone next held = record {
  history = first_life (record { count = next; is_held = held });
  waits = [];
  is_broken = false;
  reading = Within [];
  is_armed = false;
  moment = 0;
}

-- ---- what the look is told ----

-- a part leaves a message in the low hand: it is not passed yet
abbrev pub leaves_message : Part → Bool
leaves_message (Holding newest older) = true
leaves_message (Offering first full) = true
leaves_message (Dropped first full gone) = true
leaves_message _ = false

-- a message is in the low hand after these parts
abbrev pub has_message : Opening → List Part → Bool
has_message o [] = o.is_held
has_message o (part ∷ before) = leaves_message part

-- an offer is passed by a pair, which is read where an acknowledgement is owed, and finds the passage
-- full by all else
abbrev pub told_of_offer : Bool → ToldFeedback → Feedback
told_of_offer true (Pair count average) = feedbacks.Passed (record { count = count; average = average })
told_of_offer false (Pair count average) = feedbacks.Released
told_of_offer owed Quiet = feedbacks.Full
told_of_offer owed Full = feedbacks.Full

-- a read gives the pair, and by all else that no time was published
abbrev pub told_of_read : SessionRow → ToldFeedback → Seen
told_of_read row (Pair count average) = record { count = count; average = average }
told_of_read row Quiet = record { count = 0; average = average_of (averaging_of row) [] }
told_of_read row Full = record { count = 0; average = average_of (averaging_of row) [] }

-- a look without an offer reads High's times where it takes a repeated message
abbrev pub told_of_arrival : SessionRow → Opening → List Part → ToldFeedback → Arrival → Feedback
told_of_arrival row o before told a =
    if may_take o before && comes_again row (count_after o before) (greeted_after row before) a
    then feedbacks.Repeat (told_of_read row told) else feedbacks.Quiet

-- the feedback of a look after the parts `before`: a look with Gone asks nothing, and one that begins
-- with a message in the low hand offers it
abbrev pub told_feedback : SessionRow → Opening → List Part → ToldFeedback → Arrival → Feedback
told_feedback row o before told a =
    if is_gone a then feedbacks.Quiet
    else if has_message o before then told_of_offer (is_owed before) told
    else told_of_arrival row o before told a

-- ---- what becomes of the device ----

-- the arrival is a frame with the next message
abbrev pub comes_next : SessionRow → ℕ → Bool → Arrival → Bool
comes_next row count greeted (Came f) = is_next row count greeted f
comes_next row count greeted _ = false

-- a look after these parts begins to store the message of its arrival, which is its one use of the disk
abbrev pub begins_store : SessionRow → Opening → List Part → Arrival → Bool
begins_store row o before a = may_take o before && comes_next row (count_after o before) (greeted_after row before) a

-- ---- a look ----

-- the look x, which is told this, leads from p to q, and prints this; its store fails exactly where the
-- disk is armed
pub record IsToldLook (row : SessionRow) (p : PastAlone) (told : ToldFeedback) (x : Look) (q : PastAlone)
    (printed : List Event) : Type 0 where
  -- the life without the look and with it, cut into exchanges
  pub before : List Part
  pub cut : IsCut row p.history.life before
  pub after : List Part
  pub cut_with : IsCut row (looked p.history x).life after
  -- the replies of the history without the look and with it: the new ones are the look's
  pub replies : List Sent
  pub are_replies : LowReplies row p.history replies
  pub new : List Sent
  pub are_replies_with : LowReplies row (looked p.history x) (replies ++ new)
  -- what the look is told, and whether the disk fails in it
  pub feedback : x.feedback ≡ told_feedback row p.history.life.opening before told x.arrival
  pub outcome : x.is_fault ≡ (begins_store row p.history.life.opening before x.arrival && p.is_armed)
  -- what there is after it
  pub history : q.history ≡ looked p.history x
  pub waits : q.waits ≡ (if takes after then drop 1 p.waits else p.waits)
  pub broken : q.is_broken ≡ (p.is_broken || (takes after && is_bad x.arrival))
  pub reading : q.reading ≡ p.reading
  pub armed : q.is_armed ≡ (not (begins_store row p.history.life.opening before x.arrival) && p.is_armed)
  pub moment : q.moment ≡ x.moment
  -- what is printed
  pub printed_is : printed ≡ printed_store row.id x.moment (stores after)
      ++ (printed_feedback row.id x.moment x.feedback ++ printed_replies row.id new)

-- a look at m with the word w and this arrival, in which the disk fails or not
abbrev pub IsToldAt : SessionRow → PastAlone → ℕ → ℕ → ToldFeedback → Arrival → Bool → PastAlone → List Event → Type 0
IsToldAt row p m w told a is_fault q printed = (f : Feedback)
    × IsToldLook row p told (record { moment = m; word = w; arrival = a; is_fault = is_fault; feedback = f }) q printed

-- ---- what comes before a look ----

-- the past with what comes added; a fault that is told arms the disk
abbrev pub joined_alone : PastAlone → Bool → LineComing → PastAlone
joined_alone p fault c = record p { waits = p.waits ++ c.added; reading = c.reading; is_armed = p.is_armed || fault }

-- the past after the connection is lost: nothing waits, and a new connection begins
abbrev pub lost_alone : PastAlone → PastAlone
lost_alone p = record p { waits = []; is_broken = false; reading = Within [] }

-- the look is offered what waits, of which there are at most 64
abbrev pub IsOfferedTold : SessionRow → PastAlone → ℕ → ℕ → ToldFeedback → Bool → PastAlone → List Event → Type 0
IsOfferedTold row p m w told is_fault q printed =
    (length p.waits ≤ 64) × IsToldAt row p m w told (first_of p.is_broken p.waits) is_fault q printed

-- ---- lines ----

-- a coarse session is told no average but a level
abbrev pub tells_level : SessionRow → ToldFeedback → Bool
tells_level row (Pair count average) = not row.coarse || level average == average
tells_level row Quiet = true
tells_level row Full = true

-- the line is one for a low side alone, names this session, no moment falls, and a coarse session is told a level
abbrev pub is_apt_alone : SessionRow → PastAlone → Line → Bool
is_apt_alone row p (lines.Told session m w fault told a) = session == row.id && (nat_le p.moment m && tells_level row
    told)
is_apt_alone row p (lines.Gone session m) = session == row.id && nat_le p.moment m
is_apt_alone row p _ = false

-- with what comes with the line, more than 64 arrivals would wait
abbrev pub IsCrowdedAlone : PastAlone → Line → Type 0
IsCrowdedAlone p (lines.Told session m w fault told a) =
    (c : LineComing) × Arrives session p.reading a c × (64 < length (joined_alone p fault c).waits)
IsCrowdedAlone p line = ⊥

-- the line can't be applied
abbrev pub IsRefusedAlone : SessionRow → PastAlone → Line → Type 0
IsRefusedAlone row p line = (is_apt_alone row p line ≡ false) ⊎ IsCrowdedAlone p line

-- the line leads from p to q and prints this, and the disk fails in it or not
abbrev pub StepAlone : SessionRow → PastAlone → Line → Bool → PastAlone → List Event → Type 0
StepAlone row p (lines.Told session m w fault told a) is_fault q printed =
    (c : LineComing) × Arrives session p.reading a c
    × IsOfferedTold row (joined_alone p fault c) m w told is_fault q printed
StepAlone row p (lines.Gone session m) is_fault q printed = IsToldAt row (lost_alone p) m 0 Quiet Gone is_fault q
    printed
StepAlone row p _ is_fault q printed = ⊥

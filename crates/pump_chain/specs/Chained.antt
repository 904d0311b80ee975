-- Two pumps in a row: what they have been through, and what a line of a script is to them.
use Rattle.std.specs.Prelude.{◌≡◌, ◌⊎◌, ℕ, Bool, true, false, ◌||◌, ◌&&◌, ◌==◌, not, max, if◌then◌else◌, List, [], ◌∷◌}
use Rattle.std.specs.Prelude.{◌++◌, length, slice_get, Option, Some, None}
use Rattle.std.specs.List.{list_any}
use Rattle.pump_frame.specs.declared.frame.Kind.{Kind}
use Rattle.pump_frame.specs.declared.frame.Kind.TheVariants as kinds
use Rattle.pump_frame.specs.declared.payload.Payload.{Payload}
use Rattle.pump_chain.specs.declared.sender.Sender.{Sender}
use Rattle.script_reader.specs.declared.event.Event.{Event}
use Rattle.script_reader.specs.declared.event.Event.TheVariants as prints
use Rattle.script_reader.specs.declared.line.Arriving.{Arriving}
use Rattle.script_reader.specs.declared.line.Arriving.TheVariants.{Nothing, Hello, Data}
use Rattle.script_reader.specs.declared.line.Line.{Line}
use Rattle.script_reader.specs.declared.line.Line.TheVariants as lines
use Rattle.script_reader.specs.Past.{Past}
use Rattle.script_reader.specs.Scripts.{Running, coarsened}
use Rattle.script_reader.specs.Sessions.{moment_in, is_from}
use Rattle.script_reader.specs.Steps.{is_timely, LineStep, IsRefusedWhole}

-- ---- the sender in the middle ----

-- nothing of it is under way, and it is not welcome yet
abbrev pub unsent : Sender
unsent = record { is_welcome = false; is_under_way = false }

-- ---- the chain ----

-- the two sessions, the sender between them, and whether a line came that needs not stand first
pub record Chained : Type 0 where
  pub first : Running
  pub second : Running
  pub sender : Sender
  pub is_under_way : Bool

-- the moment of the last line of either session that had one
abbrev pub moment_of : Chained → ℕ
moment_of c = max c.first.past.moment c.second.past.moment

-- what the first receiver has
abbrev pub received_of : Chained → List Payload
received_of c = c.first.past.world.received

-- how many messages the second pump has accepted
abbrev pub accepted_of : Chained → ℕ
accepted_of c = length c.second.past.world.accepted

-- ---- what the sender adds ----

abbrev pub message_of : ℕ → Option Payload → Arriving
message_of number None = Nothing
message_of number (Some payload) = Data number payload

-- while a frame is under way, nothing; until it is welcomed, HELLO; then the first message of the first
-- receiver that the second pump has not accepted, where there is one
abbrev pub added : Chained → Arriving
added c =
    if c.sender.is_under_way then Nothing
    else if c.sender.is_welcome then message_of (accepted_of c) (slice_get (received_of c) (accepted_of c))
    else Hello c.second.row.low c.second.row.high

-- ---- what becomes of the sender ----

abbrev pub is_welcome_kind : Kind → Bool
is_welcome_kind kinds.Welcome = true
is_welcome_kind _ = false

abbrev pub is_reply : Event → Bool
is_reply (prints.Low session m reply) = true
is_reply _ = false

abbrev pub is_welcome : Event → Bool
is_welcome (prints.Low session m reply) = is_welcome_kind reply.kind
is_welcome _ = false

abbrev pub is_frame : Arriving → Bool
is_frame Nothing = false
is_frame _ = true

-- before such a line the sender may read the first receiver's disk
abbrev pub is_look : Line → Bool
is_look (lines.Look session m w a) = true
is_look line = false

-- after a line of the second session that printed this: what it added is under way until a reply comes;
-- with the connection, or the pump, all of it is over
abbrev pub sender_after : Sender → Line → List Event → Sender
sender_after s (lines.Look session m w a) printed = record {
  is_welcome = s.is_welcome || list_any is_welcome printed;
  is_under_way = (s.is_under_way || is_frame a) && not (list_any is_reply printed);
}
sender_after s (lines.Gone session m) printed = unsent
sender_after s (lines.Restart session m) printed = unsent
sender_after s line printed = s

-- ---- what a line is to the chain ----

-- nothing; a line of the first session or of the second; one that makes either coarse; or no line of a chain
pub data Share : Type 0 where
  Skipped : Share
  OfFirst : (line : Line) → Share
  OfSecond : (line : Line) → Share
  MakesFirst : Share
  MakesSecond : Share
  OfNone : Share

-- of two numbers of sessions, the first has this share, and the second that one
abbrev pub share_of : ℕ → ℕ → ℕ → Share → Share → Share
share_of first second session one other = if session == first then one else if session == second then other else OfNone

abbrev pub by_session : ℕ → ℕ → ℕ → Line → Share
by_session first second session line = share_of first second session (OfFirst line) (OfSecond line)

-- Nobody but the sender adds anything before a look of the second pump: such a look is a `step`, and stands for the
-- `look` that adds what the sender adds. Both sessions have begun, and neither is a low side alone.
abbrev pub share_by : ℕ → ℕ → Arriving → Line → Share
share_by first second adds lines.Skip = Skipped
share_by first second adds (lines.Session row) = OfNone
share_by first second adds (lines.LowSession row next held) = OfNone
share_by first second adds (lines.Told session m w fault told a) = OfNone
share_by first second adds (lines.Coarse session) = share_of first second session MakesFirst MakesSecond
share_by first second adds (lines.Look session m w a) = if session == first then OfFirst (lines.Look session m w a) else
    OfNone
share_by first second adds (lines.Step session m w) = if session == second then OfSecond (lines.Look session m w adds)
    else OfNone
share_by first second adds (lines.Gone session m) = by_session first second session (lines.Gone session m)
share_by first second adds (lines.High session m) = by_session first second session (lines.High session m)
share_by first second adds (lines.Carry session back) = by_session first second session (lines.Carry session back)
share_by first second adds (lines.Return session m back) = by_session first second session (lines.Return session m back)
share_by first second adds (lines.Done session m t) = by_session first second session (lines.Done session m t)
share_by first second adds (lines.Restart session m) = by_session first second session (lines.Restart session m)
share_by first second adds (lines.ReceiverRestart session m) = by_session first second session
    (lines.ReceiverRestart session m)

abbrev pub share : Chained → Line → Share
share c line = share_by c.first.row.id c.second.row.id (added c) line

-- ---- a line ----

-- no moment is below one that came before it, whichever session's line had it
abbrev pub is_in_order : Chained → Line → Bool
is_in_order c line = is_from (moment_of c) (moment_in line)

-- a session goes on by a line that can be applied to it
abbrev pub Goes : Running → Line → Past → List Event → Type 0
Goes s line q printed = (is_timely s.row s.past line ≡ true) × LineStep s.row s.past line q printed

abbrev pub with_past : Running → Past → Running
with_past s q = record s { past = q }

abbrev pub with_coarse : Running → Running
with_coarse s = record s { row = coarsened s.row }

-- the chain once a line led the first session, or the second, to this
abbrev pub first_led : Chained → Past → Chained
first_led c q = record c { first = with_past c.first q; is_under_way = true }

abbrev pub second_led : Chained → Line → List Event → Past → Chained
second_led c line printed q = record c {
  second = with_past c.second q;
  sender = sender_after c.sender line printed;
  is_under_way = true;
}

-- the line can be applied, leads from c to d, and prints this: it does to its session what it does in a script of that
-- session alone; and a session that is not coarse is made so before all that is done with either
abbrev pub LeadsBy : Chained → Share → Chained → List Event → Type 0
LeadsBy c Skipped d printed = (d ≡ c) × (printed ≡ [])
LeadsBy c OfNone d printed = ⊥
LeadsBy c MakesFirst d printed =
    (c.is_under_way ≡ false) × (c.first.row.coarse ≡ false) × (d ≡ record c { first = with_coarse c.first })
    × (printed ≡ [])
LeadsBy c MakesSecond d printed =
    (c.is_under_way ≡ false) × (c.second.row.coarse ≡ false) × (d ≡ record c { second = with_coarse c.second })
    × (printed ≡ [])
LeadsBy c (OfFirst line) d printed = (is_in_order c line ≡ true) × ((q : Past) × Goes c.first line q printed
    × (d ≡ first_led c q))
LeadsBy c (OfSecond line) d printed = (is_in_order c line ≡ true) × ((q : Past) × Goes c.second line q printed
    × (d ≡ second_led c line printed q))

abbrev pub ChainLeads : Chained → Line → Chained → List Event → Type 0
ChainLeads c line d printed = LeadsBy c (share c line) d printed

-- the line can't be applied: it is no line of a chain, it is out of order, or its session refuses it
abbrev pub RefusesBy : Chained → Share → Type 0
RefusesBy c Skipped = ⊥
RefusesBy c OfNone = Unit {0}
RefusesBy c MakesFirst = (c.is_under_way ≡ true) ⊎ (c.first.row.coarse ≡ true)
RefusesBy c MakesSecond = (c.is_under_way ≡ true) ⊎ (c.second.row.coarse ≡ true)
RefusesBy c (OfFirst line) = (is_in_order c line ≡ false) ⊎ IsRefusedWhole c.first.row c.first.past line
RefusesBy c (OfSecond line) = (is_in_order c line ≡ false) ⊎ IsRefusedWhole c.second.row c.second.past line

abbrev pub ChainRefuses : Chained → Line → Type 0
ChainRefuses c line = RefusesBy c (share c line)

-- these lines lead from c to d, and print this
abbrev pub ChainLeadsTo : Chained → List Line → Chained → List Event → Type 0
ChainLeadsTo c [] d printed = (d ≡ c) × (printed ≡ [])
ChainLeadsTo c (line ∷ later) d printed =
    (mid : Chained) × (first : List Event) × (second : List Event)
    × ChainLeads c line mid first × ChainLeadsTo mid later d second × (printed ≡ first ++ second)

-- What is read off a transcript, and what holds of the session that it leads to.
use Rattle.std.specs.Prelude.{◌≡◌, ◌+◌, ◌-◌, ◌≤◌, List, [], ◌∷◌, ◌++◌, length, Option, None, Some}
use Rattle.pump_frame.specs.declared.row.SessionRow.{SessionRow}
use Rattle.pump_core.specs.History.{History}
use Rattle.pump_core.specs.Lawful.{IsPrefixOf}
use Rattle.pump_core.specs.Replies.{Sent, LowReplies}
use Rattle.script_reader.specs.declared.event.Event.{Event}
use Rattle.script_reader.specs.declared.event.Event.TheVariants.{Low}
use Rattle.script_reader.specs.Scripts.{Running, Begun, Whole, Alone}

-- the `low` lines: the low process's replies, each with its moment
abbrev pub low_line : Event → List Sent
low_line (Low session m r) = record { moment = m; reply = r } ∷ []
low_line _ = []

abbrev pub low_lines : List Event → List Sent
low_lines [] = []
low_lines (x ∷ printed) = low_line x ++ low_lines printed

-- the row and the low history of the session that a script has begun
abbrev pub row_of : Begun → SessionRow
row_of (Whole s) = s.row
row_of (Alone s) = s.row

abbrev pub history_of : Begun → History
history_of (Whole s) = s.past.history
history_of (Alone s) = s.past.history

-- no more is live than there are places, no more is held than lies between the hands, the receiver
-- has a prefix of the accepted list, and at most 64 arrivals wait
pub record IsBounded (s : Running) : Type 0 where
  pub live : length s.past.world.accepted ≤ s.past.world.removed + s.row.capacity
  pub held : length s.past.world.held ≤ s.row.capacity - 2
  pub prefix : IsPrefixOf s.past.world.received s.past.world.accepted
  pub waits : length s.past.waits ≤ 64

-- .. of a low side alone only what waits is known
abbrev pub KeepsBounds : Begun → Type 0
KeepsBounds (Whole s) = IsBounded s
KeepsBounds (Alone s) = length s.past.waits ≤ 64

-- what holds of the session that was led to, and of all that was printed on the way: the `low` lines are
-- the replies of the low history
pub record IsSound (s : Begun) (printed : List Event) : Type 0 where
  pub replies : LowReplies (row_of s) (history_of s) (low_lines printed)
  pub bounds : KeepsBounds s

-- .. and before a session is begun nothing is printed
abbrev pub Sound : Option Begun → List Event → Type 0
Sound None printed = printed ≡ []
Sound (Some s) printed = IsSound s printed

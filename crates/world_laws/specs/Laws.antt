-- The laws over the world of the relay and over its timed runs.
use Rattle.std.specs.Prelude.{◌≡◌, ◌⊎◌, ℕ, ◌<◌, ◌≤◌, List, length, slice_get, All, Some}
use Rattle.std.specs.List.{AllByRecursion}
use Rattle.pump_frame.specs.declared.frame.Frame.{Frame}
use Rattle.pump_frame.specs.declared.frame.Kind.TheVariants.{Ack}
use Rattle.pump_frame.specs.declared.payload.Payload.{Payload}
use Rattle.pump_frame.specs.declared.row.SessionRow.{SessionRow}
use Rattle.stable_buffer.specs.Register.{value_of}
use Rattle.stable_buffer.specs.Stands.{InSlot}
use Rattle.stable_buffer.specs.Log.{RecvStands}
use Rattle.pump_core.specs.declared.event.Event.{Event}
use Rattle.pump_core.specs.declared.event.Hostile.{Hostile}
use Rattle.pump_core.specs.History.{History}
use Rattle.pump_core.specs.Replies.{Sent, LowReplies}
use Rattle.pump_core.specs.Thinned.{IsThinned}
use Rattle.pump_core.specs.World.{World}
use Rattle.pump_core.specs.Events.{BeginsRun, Happens, Run, RunForged}
use Rattle.pump_core.specs.Lawful.{IsBounded, IsLawful, IsPrefixOf}
use Rattle.pump_core.specs.Timed.{Step, Point}
use Rattle.pump_core.specs.Runs.{IsRun}
use Rattle.world_laws.specs.Agreement.{AgreeForLow}
use Rattle.world_laws.specs.Disks.{StandForLeft}

-- ---- worlds ----

-- an event leads from a world to one world at most
abbrev pub EventsAreCertain : Type 0
EventsAreCertain = (w u v : World) (event : Event) → Happens w event u → Happens w event v → u ≡ v

-- from a world that begins, all events lead to lawful worlds
abbrev pub EveryWorldIsLawful : Type 0
EveryWorldIsLawful = (start end : World) (events : List Event)
    → BeginsRun start → Run start events end → IsLawful end

-- from a world that begins, all events and forged TAKEN lead to bounded worlds
abbrev pub ForgedWorldsAreBounded : Type 0
ForgedWorldsAreBounded = (start end : World) (events : List Hostile)
    → BeginsRun start → RunForged start events end → IsBounded end

-- ---- timed runs ----

-- a timed run comes to a lawful world
abbrev pub TimedWorldsAreLawful : Type 0
TimedWorldsAreLawful = (row : SessionRow) (steps : List Step) (t : Point) (h : History)
    → IsRun row steps t h → IsLawful t.world

-- a timed run has replies
abbrev pub RunsHaveReplies : Type 0
RunsHaveReplies = (row : SessionRow) (steps : List Step) (t : Point) (h : History)
    → IsRun row steps t h → (replies : List Sent) × LowReplies row h replies

-- two timed runs of one row that agree for low have the same replies, at the same moments
abbrev pub PairsAgree : Type 0
PairsAgree = (row : SessionRow) (steps others : List Step) (t u : Point) (h k : History)
    (xs ys : List Sent)
    → IsRun row steps t h → IsRun row others u k → AgreeForLow t u
    → LowReplies row h xs → LowReplies row k ys → xs ≡ ys

-- leaving looks out of a history that change no reply leaves its replies
abbrev pub ThinnedHistoriesAgree : Type 0
ThinnedHistoriesAgree = (row : SessionRow) (h k : History) (xs ys : List Sent)
    → IsThinned row h k → LowReplies row h xs → LowReplies row k ys → xs ≡ ys

-- an acknowledgement has a number below this count
abbrev pub IsAckBelow : ℕ → Frame → Type 0
IsAckBelow count reply = reply.kind ≡ Ack → reply.number < count

abbrev pub AcksBelow : ℕ → List Sent → Type 0
AcksBelow count replies = AllByRecursion (λ (s : Sent). IsAckBelow count s.reply) replies

-- what a timed run acknowledged is among the accepted messages of its world, whatever crashed since
abbrev pub AcknowledgedIsAccepted : Type 0
AcknowledgedIsAccepted = (row : SessionRow) (steps : List Step) (t : Point) (h : History)
    (replies : List Sent) → IsRun row steps t h → LowReplies row h replies → AcksBelow (length t.world.accepted) replies

-- ---- what outlives a crash ----

-- the receiver has message n; or it stands in its slot of the low disk and is live there: the high disk
-- counts no more than n as removed, and the low disk counts it
abbrev pub Outlives : SessionRow → List Payload → List ℕ → List ℕ → ℕ → Payload → Type 0
Outlives row received low high n message =
    (slice_get received n ≡ Some message)
    ⊎ (((value_of high).0 ≤ n) × (n < (value_of low).0) × InSlot row n message low)

-- of three disks: the receiver has a prefix of the messages that the world accepted, every one of these
-- outlives, and what was acknowledged is among them
pub record KeepMessages (row : SessionRow) (w : World) (low high recv : List ℕ) : Type 0 where
  pub received : List Payload
  pub recv_is : RecvStands row received recv
  pub prefix : IsPrefixOf received w.accepted
  pub accepted : (n : ℕ) (message : Payload) → slice_get w.accepted n ≡ Some message
      → Outlives row received low high n message
  pub acknowledged : All (λ n. n < length w.accepted) w.acknowledged

-- disks that stand for what a crash leaves of a lawful world keep its messages
abbrev pub AcceptedOutlives : Type 0
AcceptedOutlives = (row : SessionRow) (w : World) (low high recv : List ℕ)
    → IsLawful w → StandForLeft row w low high recv → KeepMessages row w low high recv

-- an acknowledgement is of an accepted message, and that outlives
abbrev pub AckOutlives : SessionRow → List Payload → List Payload → List ℕ → List ℕ → Frame → Type 0
AckOutlives row accepted received low high reply = reply.kind ≡ Ack
    → (message : Payload) × (slice_get accepted reply.number ≡ Some message)
    × Outlives row received low high reply.number message

-- of disks that stand for what a crash leaves of the world of a timed run: the receiver has a prefix of
-- what was accepted, and every message that was acknowledged and that the receiver has not is in the
-- live slots of the low disk
abbrev pub AcknowledgedOutlives : Type 0
AcknowledgedOutlives = (row : SessionRow) (steps : List Step) (t : Point) (h : History)
    (replies : List Sent) (low high recv : List ℕ)
    → IsRun row steps t h → LowReplies row h replies → StandForLeft row t.world low high recv
    → (kept : KeepMessages row t.world low high recv)
    × AllByRecursion (λ (s : Sent). AckOutlives row t.world.accepted kept.received low high s.reply) replies

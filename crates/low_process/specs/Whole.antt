-- A look over a store and an end.
use Rattle.std.specs.Prelude.{◌≡◌, ◌⊎◌, ℕ, ◌+◌, ◌<◌, ◌≤◌, ◌||◌, Bool, true, false, List, [], ◌∷◌, ◌++◌, Option, Some}
use Rattle.std.specs.Prelude.{None}
use Rattle.disk_model.specs.Disk.{Meaning, Each, Leaves}
use Rattle.stable_buffer.specs.Register.{value_of}
use Rattle.stable_buffer.specs.Stands.{LowStands}
use Rattle.stable_buffer.specs.Low.{IsLowReady, low_count, low_row, low_disk}
use Rattle.stable_buffer.specs.declared.low.LowStore.{LowStore}
use Rattle.pump_frame.specs.declared.frame.Frame.{Frame}
use Rattle.pump_frame.specs.declared.row.SessionRow.{SessionRow}
use Rattle.pump_core.specs.History.{Arrival, Came}
use Rattle.pump_core.specs.Replies.{acknowledgement, refusal}
use Rattle.low_process.specs.declared.process.LowProcess.{LowProcess}
use Rattle.low_process.specs.declared.values.LowLook.{LowLook}
use Rattle.low_process.specs.declared.values.Ask.{Ask}
use Rattle.low_process.specs.declared.values.Ask.TheVariants.{Done, Forward, Average}
use Rattle.pump_core.specs.Passage.{Shape, Low, High}
use Rattle.low_process.specs.Looks.{row_of, next_of, last_of, is_down, look_of, hand_of, hand_after, StandsFor}
use Rattle.low_process.specs.Looks.{LookBegins, Looks, HandBegins, IsInBounds}
use Rattle.low_process.specs.Ends.{EndStep, FitsEnd, StandsFitting}
use Rattle.low_process.specs.Storing.{message_in, StoreStep, counted}

-- the store is open, was made with the process's row, and has just the messages that the process
-- counts
pub record IsStoreOf {D : Type 0} (m : Meaning D) (p : LowProcess) (store : LowStore D)
    : Type 0 where
  pub ready : IsLowReady m store
  pub count : low_count store ≡ next_of p
  pub row : low_row store ≡ row_of p

-- .. unless the process is down
abbrev pub HasStore : {D : Type 0} → Meaning D → LowProcess → LowStore D → Type 0
HasStore m p store = is_down p ≡ false → IsStoreOf m p store

-- the process is down after a look in which the device failed, and where it was down before
abbrev pub FallsBy : Bool → LowProcess → LowProcess → Type 0
FallsBy is_fault p q = is_down q ≡ (is_down p || is_fault)

-- a look refuses with code 5 only where the device failed
abbrev pub RefusesBy : Bool → SessionRow → Option Frame → Type 0
RefusesBy is_fault row reply = reply ≡ Some (refusal row 5 0) → is_fault ≡ true

-- the reply of a look that is done
abbrev pub reply_in : Ask → Option Frame
reply_in (Done look) = look.reply
reply_in (Forward item) = None
reply_in Average = None

-- the first half of a look, in which the device failed or not
pub record BeginStep {D : Type 0} (m : Meaning D) (p q : LowProcess) (old new : LowStore D)
    (moment word : ℕ) (a : Arrival) (is_fault : Bool) (ask : Ask) : Type 0 where
  pub begins : LookBegins p q moment word a is_fault ask
  pub keeps : StoreStep m (message_in p a) old new is_fault
  pub count : next_of q ≡ counted (message_in p a) is_fault (next_of p)
  pub falls : FallsBy is_fault p q
  pub refuses : RefusesBy is_fault (row_of p) (reply_in ask)

-- a look, in which the device failed or not
pub record LookStep {D : Type 0} (m : Meaning D) (p q : LowProcess) (old new : LowStore D)
    (moment word : ℕ) (a : Arrival) (is_fault : Bool) (look : LowLook) : Type 0 where
  pub looks : Looks (StandsFor p) q (row_of p) (look_of moment word a is_fault look.feedback) look
  pub keeps : StoreStep m (message_in p a) old new is_fault
  pub count : next_of q ≡ counted (message_in p a) is_fault (next_of p)
  pub falls : FallsBy is_fault p q
  pub refuses : RefusesBy is_fault (row_of p) look.reply

-- a disk has the count and the messages of before, or one more, which is that of the frame
abbrev pub HasOrGains : SessionRow → ℕ → ℕ → List (List ℕ) → Arrival → List ℕ → Type 0
HasOrGains row E b messages (Came f) disk =
    LowStands row E b messages disk ⊎ LowStands row (E + 1) b (messages ++ f.payload ∷ []) disk
HasOrGains row E b messages _ disk = LowStands row E b messages disk

-- where the disk stood for the messages from some b on, and a slot was free, a crash at any moment
-- since leaves what stands for them, or for the message of this look too
abbrev pub LeavesStored : {D : Type 0} → Meaning D → LowProcess → LowStore D → LowStore D → Arrival
    → Type 0
LeavesStored m p old new a =
    (b : ℕ) (messages : List (List ℕ)) → is_down p ≡ false
    → next_of p + 1 ≤ b + (low_row old).capacity
    → (m.tells → LowStands (low_row old) (next_of p) b messages (m.reading (low_disk old)))
    → Leaves m (low_disk old) (low_disk new) (HasOrGains (low_row old) (next_of p) b messages a)

-- a disk counts the message with this number
abbrev pub CountsBeyond : ℕ → List ℕ → Type 0
CountsBeyond n disk = (E : ℕ) × (value_of disk ≡ (E, 0)) × (n < E)

-- what is acknowledged is counted, whatever a crash leaves
abbrev pub KeepsAcknowledged : {D : Type 0} → Meaning D → SessionRow → Option Frame → D → Type 0
KeepsAcknowledged m row reply disk =
    (n : ℕ) → reply ≡ Some (acknowledgement row n) → Each m (CountsBeyond n) disk

-- What the first half of a look does with the process (p, then q) and its store. `lawful` is what is promised of
-- the reply.
pub record FirstHalf {D : Type 0} (m : Meaning D) (p q : LowProcess) (old new : LowStore D) (moment word : ℕ)
    (a : Arrival) (ask : Ask) (lawful_reply : Type 0) : Type 0 where
  -- in which the device failed or not
  pub begins : (is_fault : Bool) × BeginStep m p q old new moment word a is_fault ask
  -- the store is still the process's, and a crash at any moment leaves what it had, or this message too
  pub store : HasStore m q new
  pub images : LeavesStored m p old new a
  -- a process that is down calls no disk and replies nothing
  pub still : is_down p ≡ true → new ≡ old
  pub silent : is_down p ≡ true → reply_in ask ≡ None
  pub acknowledged : KeepsAcknowledged m (row_of p) (reply_in ask) (low_disk new)
  pub lawful : lawful_reply
  pub hand : HandBegins p q a ask
  -- what fitted its end does so still
  pub fits : (l : Low) → FitsEnd p l → FitsEnd q l
  pub row : row_of q ≡ row_of p
  pub last : last_of q ≡ moment

-- ---- a whole look ----

-- What a look does with the process (p, then q), its store and its end of the passage (e, then f). The end's
-- type says its shape and place, and what it stands for. `lawful` is what is promised of the reply.
pub record WholeLook {D L P : Type 0} (m : Meaning D) (shape_of : L → Shape) (place_of : L → P)
    (on_one_thread : Bool) (stands : L → Low → High → Type 0) (p q : LowProcess) (old new : LowStore D) (e f : L)
    (moment word : ℕ) (a : Arrival) (look : LowLook) (lawful_reply : Type 0) : Type 0 where
  -- one look more of the history, in which the device failed or not
  pub looks : (is_fault : Bool) × LookStep m p q old new moment word a is_fault look
  pub bounds : IsInBounds look.feedback
  -- the store is still the process's, and a crash at any moment leaves what it had, or this message too
  pub store : HasStore m q new
  pub images : LeavesStored m p old new a
  -- a process that is down calls no disk and replies nothing
  pub still : is_down p ≡ true → new ≡ old
  pub silent : is_down p ≡ true → look.reply ≡ None
  pub acknowledged : KeepsAcknowledged m (row_of p) look.reply (low_disk new)
  pub lawful : lawful_reply
  pub hand : hand_of q ≡ hand_after (hand_of p) a look
  pub row : row_of q ≡ row_of p
  pub last : last_of q ≡ moment
  -- the end goes through what the feedback tells
  pub shape : shape_of f ≡ shape_of e
  pub place : place_of f ≡ place_of e
  pub ends : (l : Low) (h : High) → StandsFitting (stands e) p l h
      → EndStep (shape_of e) on_one_thread (StandsFitting (stands f) q) l h (hand_of p) look.feedback

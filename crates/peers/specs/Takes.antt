-- What becomes of one frame at a receiver. Only clauses of private functions name these.
use Rattle.std.specs.Prelude.{◌≡◌, ◌⊎◌, ℕ, ◌<◌, ◌≤◌, ◌+◌, true, false, List, [], ◌∷◌, ◌++◌, length, Option, Some, None}
use Rattle.disk_model.specs.Disk.{Meaning}
use Rattle.stable_buffer.specs.Log.{RecvStands}
use Rattle.pump_frame.specs.Counts.{Rose}
use Rattle.pump_frame.specs.declared.frame.Frame.{Frame}
use Rattle.pump_frame.specs.declared.row.SessionRow.{SessionRow}
use Rattle.high_receiver.specs.declared.receiver.Receiver.{Receiver}
use Rattle.high_receiver.specs.Receiving.{IsRecvReady, recv_disk, recv_row, recv_size, recv_is_open}
use Rattle.peers.specs.declared.receive.ReceiveEnd.{ReceiveEnd}
use Rattle.peers.specs.declared.receive.ReceiveEnd.TheVariants.{Ended, Looks, Write, Device, Ahead, LogFull}
use Rattle.peers.specs.Outputs.{Counts, IsPrefix}
use Rattle.peers.specs.Receiving.{Turn, IsTurn, IsNext, place_of, place_by, frame_in, message_in, answer_in, line_in}
use Rattle.peers.specs.Receiving.{is_wanted, StandsForPrefix}

-- what a crash at some moment since an earlier one may have left: what it might before, or a prefix of these messages
-- more
abbrev pub LeavesPrefix : {D : Type 0} → Meaning D → SessionRow → D → D → List (List ℕ) → Type 0
LeavesPrefix m row old new taken = (before : List (List ℕ)) → RecvStands row before (m.reading old) → m.tells_images
    → (t : ℕ) (c : List ℕ)
    → t ≤ m.moment old → m.since new t c → m.since old t c ⊎ StandsForPrefix row before taken c

-- the disk stands for these messages more
pub record GrowsBy {D : Type 0} (m : Meaning D) (row : SessionRow) (old new : D) (taken : List (List ℕ)) : Type 0 where
  pub later : m.moment old ≤ m.moment new
  pub counts : m.count old ≤ m.count new
  pub stands : m.tells → (before : List (List ℕ)) → RecvStands row before (m.reading old)
      → RecvStands row (before ++ taken) (m.reading new)
  pub leaves : LeavesPrefix m row old new taken

-- .. or for a prefix of them, since it failed
pub record GrowsPart {D : Type 0} (m : Meaning D) (row : SessionRow) (old new : D) (taken : List (List ℕ)) : Type 0
  where
    pub reads : m.tells → (before : List (List ℕ)) → RecvStands row before (m.reading old)
        → StandsForPrefix row before taken (m.reading new)
    pub leaves : LeavesPrefix m row old new taken

-- a turn was made
pub record MakesTurn {D : Type 0} (m : Meaning D) (row : SessionRow) (t : Turn) (old new : Receiver D) : Type 0 where
  pub turn : IsTurn row (recv_size old) (place_of old) t
  pub place : place_of new ≡ place_by (place_of old) t
  pub ready : IsRecvReady m new
  pub same_row : recv_row new ≡ recv_row old
  pub same_size : recv_size new ≡ recv_size old
  pub grows : GrowsBy m row (recv_disk old) (recv_disk new) (message_in t)

-- the frame is a message that the receiver did not take, and it is as it was
abbrev pub Refused : {D : Type 0} → SessionRow → Frame → Receiver D → Receiver D → Type 0
Refused row f old new = (is_wanted row f ≡ true) × (new ≡ old)

-- the bytes sent and printed for a frame
pub record Step : Type 0 where
  pub sent : List ℕ
  pub printed : List ℕ

abbrev pub IsSilent : Step → Type 0
IsSilent x = (x.sent ≡ []) × (x.printed ≡ [])

abbrev pub TakesFrame : {D : Type 0} → Meaning D → SessionRow → Frame → Receiver D → Receiver D → Step → Counts
    → Option ReceiveEnd → Type 0
TakesFrame m row f old new x n None = (t : Turn) × (frame_in t ≡ f) × MakesTurn m row t old new
    × (x.sent ≡ answer_in row.id t) × (x.printed ≡ line_in row.id t)
TakesFrame m row f old new x n (Some Ended) = (t : Turn) × (frame_in t ≡ f) × MakesTurn m row t old new
    × IsPrefix x.sent (answer_in row.id t) × (x.printed ≡ line_in row.id t)
    × Rose n.link n.now_link
TakesFrame m row f old new x n (Some Write) = (t : Turn) × (frame_in t ≡ f) × MakesTurn m row t old new × (x.sent ≡ [])
    × IsPrefix x.printed (line_in row.id t) × Rose n.out n.now_out
TakesFrame m row f old new x n (Some (Device faults)) = (is_wanted row f ≡ true)
    × IsNext (recv_size old) (place_of old) f × (recv_is_open new ≡ false)
    × (recv_row new ≡ recv_row old) × (recv_size new ≡ recv_size old) × Rose n.other n.now_other
    × (faults ≡ n.now_other)
    × GrowsPart m row (recv_disk old) (recv_disk new) (f.payload ∷ []) × IsSilent x
TakesFrame m row f old new x n (Some (Ahead number count)) = Refused row f old new × ((place_of old).count < f.number)
    × (number ≡ f.number) × (count ≡ (place_of old).count) × IsSilent x
TakesFrame m row f old new x n (Some (LogFull end size limit)) = Refused row f old new
    × (f.number ≡ (place_of old).count) × (recv_size old < (place_of old).end + 2 + length f.payload)
    × (end ≡ (place_of old).end) × (size ≡ length f.payload) × (limit ≡ recv_size old) × IsSilent x
TakesFrame m row f old new x n (Some Looks) = ⊥

-- What High's receiver does on a connection.
use Rattle.std.specs.Prelude.{◌≡◌, ◌⊎◌, ℕ, ◌+◌, ◌<◌, ◌≤◌, ◌==◌, ◌&&◌, nat_le, Bool, true, false, List, [], ◌∷◌, ◌++◌}
use Rattle.std.specs.Prelude.{length, Option, Some, None}
use Rattle.pump_frame.specs.Counts.{Rose}
use Rattle.pump_frame.specs.declared.frame.Frame.{Frame}
use Rattle.pump_frame.specs.declared.frame.Kind.{Kind}
use Rattle.pump_frame.specs.declared.frame.Kind.TheVariants.{Data, Attach, Taken}
use Rattle.pump_frame.specs.declared.row.SessionRow.{SessionRow}
use Rattle.pump_frame.specs.Spellings.{spelling}
use Rattle.pump_link.specs.declared.link.Looked.{Looked}
use Rattle.disk_model.specs.Disk.{Meaning, Leaves}
use Rattle.stable_buffer.specs.Log.{RecvStands}
use Rattle.high_receiver.specs.declared.receiver.Receiver.{Receiver}
use Rattle.high_receiver.specs.declared.values.Taken.{Taken as Outcome}
use Rattle.high_receiver.specs.declared.values.Taken.TheVariants as outcome
use Rattle.high_receiver.specs.Receiving.{IsRecvReady, recv_disk, recv_count, recv_end, recv_row, recv_size}
use Rattle.high_receiver.specs.Receiving.{recv_is_open}
use Rattle.script_reader.specs.declared.event.Event.TheVariants as events
use Rattle.script_reader.specs.Transcript.{event_line}
use Rattle.peers.specs.declared.receive.ReceiveEnd.{ReceiveEnd}
use Rattle.peers.specs.declared.receive.ReceiveEnd.TheVariants.{Ended, Looks, Write, Device, Ahead, LogFull}
use Rattle.peers.specs.Looks.{Hears, HearsJust, IsOver}
use Rattle.peers.specs.Outputs.{Counts, IsPrefix, plain_frame}

abbrev pub is_data : Kind → Bool
is_data Data = true
is_data _ = false

-- a DATA of the session that is no longer than the row's messages
abbrev pub is_wanted : SessionRow → Frame → Bool
is_wanted row f = is_data f.kind && (f.session == row.id && nat_le (length f.payload) row.message)

-- where a receiver stands: how many messages it has, and where their records end
pub record Place : Type 0 where
  pub count : ℕ
  pub end : ℕ

abbrev pub place_of : {D : Type 0} → Receiver D → Place
place_of receiver = record { count = recv_count receiver; end = recv_end receiver }

-- the frame has the next number, and its record ends within the size
abbrev pub IsNext : ℕ → Place → Frame → Type 0
IsNext size p f = (f.number ≡ p.count) × (p.end + 2 + length f.payload ≤ size)

-- ---- turns, the newest first ----

-- a frame was heard, and was passed over, taken, or there already
pub data Turn : Type 0 where
  Passed : (frame : Frame) → Turn
  Took : (frame : Frame) → Turn
  Again : (frame : Frame) → Turn

abbrev pub frame_in : Turn → Frame
frame_in (Passed f) = f
frame_in (Took f) = f
frame_in (Again f) = f

abbrev pub place_by : Place → Turn → Place
place_by p (Passed f) = p
place_by p (Took f) = record { count = p.count + 1; end = p.end + 2 + length f.payload }
place_by p (Again f) = p

abbrev pub place_after : Place → List Turn → Place
place_after p [] = p
place_after p (t ∷ past) = place_by (place_after p past) t

abbrev pub IsTurn : SessionRow → ℕ → Place → Turn → Type 0
IsTurn row size p (Passed f) = is_wanted row f ≡ false
IsTurn row size p (Took f) = (is_wanted row f ≡ true) × IsNext size p f
IsTurn row size p (Again f) = (is_wanted row f ≡ true) × (f.number < p.count)

abbrev pub AreTurns : SessionRow → ℕ → Place → List Turn → Type 0
AreTurns row size p [] = Unit {0}
AreTurns row size p (t ∷ past) = IsTurn row size (place_after p past) t × AreTurns row size p past

-- the frames that were heard, and the messages that the receiver's list grew by, the oldest first
abbrev pub frames : List Turn → List Frame
frames [] = []
frames (t ∷ past) = frames past ++ frame_in t ∷ []

abbrev pub message_in : Turn → List (List ℕ)
message_in (Passed f) = []
message_in (Took f) = f.payload ∷ []
message_in (Again f) = []

abbrev pub messages : List Turn → List (List ℕ)
messages [] = []
messages (t ∷ past) = messages past ++ message_in t

-- the TAKEN that is sent, and the line that is printed before it
abbrev pub answer_in : ℕ → Turn → List ℕ
answer_in session (Passed f) = []
answer_in session (Took f) = spelling (plain_frame Taken session f.number)
answer_in session (Again f) = spelling (plain_frame Taken session f.number)

abbrev pub taken_line : ℕ → ℕ → Outcome → List ℕ
taken_line session number outcome.Took = event_line (events.Took session number)
taken_line session number outcome.Repeat = event_line (events.Again session number)

abbrev pub line_in : ℕ → Turn → List ℕ
line_in session (Passed f) = []
line_in session (Took f) = taken_line session f.number outcome.Took
line_in session (Again f) = taken_line session f.number outcome.Repeat

abbrev pub lines : ℕ → List Turn → List ℕ
lines session [] = []
lines session (t ∷ past) = lines session past ++ line_in session t

-- what is sent on a connection: ATTACH with the count, and the answers
abbrev pub sendings : ℕ → ℕ → List Turn → List ℕ
sendings session count [] = spelling (plain_frame Attach session count)
sendings session count (t ∷ past) = sendings session count past ++ answer_in session t

-- ---- the end ----

-- what one call did: its turns, the looks that heard their frames, the looks of the last wait and the frame that it
-- brought, if the receiver did not take it, how many looks were left, and all that was sent and printed
pub record Reception : Type 0 where
  pub turns : List Turn
  pub heard : List Looked
  pub looks : List Looked
  pub refused : Option Frame
  pub left : ℕ
  pub sent : List ℕ
  pub printed : List ℕ

-- the last wait brought no frame, and all that the turns call for went out
pub record Waited (session count : ℕ) (x : Reception) : Type 0 where
  pub none : x.refused ≡ None
  pub sent : x.sent ≡ sendings session count x.turns
  pub printed : x.printed ≡ lines session x.turns

-- the last wait brought this frame, which the receiver did not take
pub record Refuses (row : SessionRow) (count : ℕ) (x : Reception) (f : Frame) : Type 0 where
  pub is : x.refused ≡ Some f
  pub heard : HearsJust x.looks (f ∷ [])
  pub wanted : is_wanted row f ≡ true
  pub sent : x.sent ≡ sendings row.id count x.turns
  pub printed : x.printed ≡ lines row.id x.turns

-- there was no further wait
pub record Stops (x : Reception) : Type 0 where
  pub none : x.refused ≡ None
  pub looks : x.looks ≡ []

-- of the last turn's answer only a prefix was sent, or of ATTACH where there are no turns
abbrev pub IsCutAnswer : ℕ → ℕ → List Turn → List ℕ → Type 0
IsCutAnswer session count [] sent = IsPrefix sent (spelling (plain_frame Attach session count))
IsCutAnswer session count (t ∷ past) sent = (prefix : List ℕ) × IsPrefix prefix (answer_in session t)
    × (sent ≡ sendings session count past ++ prefix)

-- .. of the last turn's line only a prefix was printed, and its answer was not sent
abbrev pub IsCutLine : ℕ → ℕ → List Turn → List ℕ → List ℕ → Type 0
IsCutLine session count [] sent printed = ⊥
IsCutLine session count (t ∷ past) sent printed = (prefix : List ℕ) × IsPrefix prefix (line_in session t)
    × (printed ≡ lines session past ++ prefix)
    × (sent ≡ sendings session count past)

-- why it ended, where `p` is the place after the turns
abbrev pub EndsBy : SessionRow → ℕ → ℕ → Place → Reception → Counts → ReceiveEnd → Type 0
EndsBy row size count p x n Looks = Waited row.id count x × Hears x.looks [] × (x.left ≡ 0)
EndsBy row size count p x n Ended = (Waited row.id count x × IsOver x.looks [] n.link n.now_link)
    ⊎ (Stops x × IsCutAnswer row.id count x.turns x.sent × (x.printed ≡ lines row.id x.turns) × Rose n.link n.now_link)
EndsBy row size count p x n Write = Stops x × IsCutLine row.id count x.turns x.sent x.printed × Rose n.out n.now_out
EndsBy row size count p x n (Device faults) = (f : Frame) × Refuses row count x f × IsNext size p f
    × Rose n.other n.now_other × (faults ≡ n.now_other)
EndsBy row size count p x n (Ahead number expected) = (f : Frame) × Refuses row count x f × (p.count < f.number)
    × (number ≡ f.number) × (expected ≡ p.count)
EndsBy row size count p x n (LogFull end size_of limit) = (f : Frame) × Refuses row count x f × (f.number ≡ p.count)
    × (size < p.end + 2 + length f.payload) × (end ≡ p.end) × (size_of ≡ length f.payload) × (limit ≡ size)

-- the call, from a receiver at this place, with so many looks at most
pub record Receives (row : SessionRow) (size most : ℕ) (start : Place) (x : Reception) (n : Counts) (end : ReceiveEnd) :
    Type 0 where
  pub turns : AreTurns row size start x.turns
  pub heard : HearsJust x.heard (frames x.turns)
  pub used : most ≡ x.left + length (x.heard ++ x.looks)
  pub ends : EndsBy row size start.count (place_after start x.turns) x n end

-- ---- the receiver ----

abbrev pub is_device : ReceiveEnd → Bool
is_device (Device faults) = true
is_device _ = false

-- the disk stands for the messages from before, and a prefix of these
abbrev pub StandsForPrefix : SessionRow → List (List ℕ) → List (List ℕ) → List ℕ → Type 0
StandsForPrefix row before taken disk = (prefix rest : List (List ℕ)) × (taken ≡ prefix ++ rest)
    × RecvStands row (before ++ prefix) disk

abbrev pub option_payload : Option Frame → List (List ℕ)
option_payload None = []
option_payload (Some f) = f.payload ∷ []

-- the messages that the call stored, or began to store
abbrev pub attempted : Reception → ReceiveEnd → List (List ℕ)
attempted x (Device faults) = messages x.turns ++ option_payload x.refused
attempted x _ = messages x.turns

-- The receiver's list grew by just the messages of the turns. A crash at any moment of the call leaves it with a
-- prefix of them. After a failure of the disk the receiver is closed, and the message of the last frame is on the
-- disk or not.
pub record KeepsReceiver {D : Type 0} (m : Meaning D) (row : SessionRow) (old new : Receiver D) (x : Reception)
    (end : ReceiveEnd) : Type 0 where
  pub place : is_device end ≡ false → place_of new ≡ place_after (place_of old) x.turns
  pub ready : is_device end ≡ false → IsRecvReady m new
  pub closed : is_device end ≡ true → recv_is_open new ≡ false
  pub same_row : recv_row new ≡ recv_row old
  pub same_size : recv_size new ≡ recv_size old
  pub grown : is_device end ≡ false → m.tells → (before : List (List ℕ))
      → RecvStands row before (m.reading (recv_disk old))
      → RecvStands row (before ++ messages x.turns) (m.reading (recv_disk new))
  pub reads : m.tells → (before : List (List ℕ)) → RecvStands row before (m.reading (recv_disk old))
      → StandsForPrefix row before (attempted x end) (m.reading (recv_disk new))
  pub during : (before : List (List ℕ)) → RecvStands row before (m.reading (recv_disk old))
      → Leaves m (recv_disk old) (recv_disk new) (StandsForPrefix row before (attempted x end))

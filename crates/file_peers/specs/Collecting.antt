-- What High's party does on a connection: messages of files are taken, and each is answered.
use Rattle.std.specs.Prelude.{◌≡◌, ◌⊎◌, ℕ, ◌+◌, ◌<◌, ◌≤◌, Bool, true, false, List, [], ◌∷◌, ◌++◌, length}
use Rattle.std.specs.Prelude.{Option, Some, None, if◌then◌else◌}
use Rattle.std.specs.Str.{bytes_eq}
use Rattle.pump_frame.specs.Counts.{Rose}
use Rattle.pump_frame.specs.declared.frame.Frame.{Frame}
use Rattle.pump_frame.specs.declared.frame.Kind.TheVariants.{Attach, Taken}
use Rattle.pump_frame.specs.declared.row.SessionRow.{SessionRow}
use Rattle.pump_frame.specs.Spellings.{spelling}
use Rattle.pump_link.specs.declared.link.Looked.{Looked}
use Rattle.disk_model.specs.Disk.{Meaning}
use Rattle.stable_buffer.specs.Register.{register_disk}
use Rattle.file_messages.specs.Files.{File, State, Between, Inside, state_after}
use Rattle.file_messages.specs.Messages.{message_of, abandon_message}
use Rattle.file_messages.specs.Assemblies.{answer}
use Rattle.folders.specs.Placing.{Placing}
use Rattle.file_collector.specs.Gathering.{IsAnswer, IsWhyNot}
use Rattle.file_collector.specs.Collecting.{HasTaken, AlwaysFits}
use Rattle.file_collector.specs.declared.collector.Collector.{Collector}
use Rattle.file_collector.specs.declared.values.Placed.{Placed}
use Rattle.file_collector.specs.declared.values.Placed.TheVariants.{Begun, Grown, Shown, Dropped, Odd}
use Rattle.file_collector.specs.declared.values.PlaceFault.TheVariants as refusals
use Rattle.peers.specs.Looks.{Hears, HearsJust, IsOver}
use Rattle.peers.specs.Outputs.{Counts, IsPrefix, plain_frame}
use Rattle.peers.specs.Receiving.{is_wanted}
use Rattle.file_peers.specs.Lines.{file_line, dropped_line, odd_line}
use Rattle.file_peers.specs.declared.collect.CollectEnd.{CollectEnd}
use Rattle.file_peers.specs.declared.collect.CollectEnd.TheVariants.{Ended, Looks, Write, Folder, NameTaken, Device}
use Rattle.file_peers.specs.declared.collect.CollectEnd.TheVariants.{Ahead}

-- ---- turns, the newest first ----

-- a frame was heard, and was passed over, taken, or there already
pub data Turn : Type 0 where
  Passed : (frame : Frame) → Turn
  Took : (frame : Frame) (placed : Placed) → Turn
  Again : (frame : Frame) → Turn

abbrev pub frame_in : Turn → Frame
frame_in (Passed f) = f
frame_in (Took f placed) = f
frame_in (Again f) = f

abbrev pub message_in : Turn → List (List ℕ)
message_in (Passed f) = []
message_in (Took f placed) = f.payload ∷ []
message_in (Again f) = []

-- the frames that were heard, and the messages that were taken, the oldest first
abbrev pub frames : List Turn → List Frame
frames [] = []
frames (t ∷ past) = frames past ++ frame_in t ∷ []

abbrev pub messages : List Turn → List (List ℕ)
messages [] = []
messages (t ∷ past) = messages past ++ message_in t

-- a message came to this, behind those before it
abbrev pub ComesTo : List (List ℕ) → List ℕ → Placed → Type 0
ComesTo before message placed =
    IsAnswer (state_after Between before) (answer (state_after Between before) (message_of message)) placed

-- each turn, behind these messages
abbrev pub IsTurn : SessionRow → List (List ℕ) → Turn → Type 0
IsTurn row before (Passed f) = is_wanted row f ≡ false
IsTurn row before (Took f placed) = (is_wanted row f ≡ true) × (f.number ≡ length before)
    × ComesTo before f.payload placed
IsTurn row before (Again f) = (is_wanted row f ≡ true) × (f.number < length before)

abbrev pub AreTurns : SessionRow → List (List ℕ) → List Turn → Type 0
AreTurns row start [] = Unit {0}
AreTurns row start (t ∷ past) = IsTurn row (start ++ messages past) t × AreTurns row start past

-- the file that is shown, under its name there
abbrev pub file_in : State → Placed → List File
file_in (Inside name size bytes) (Shown shown) = record { name = shown.name.bytes; bytes = bytes } ∷ []
file_in state placed = []

abbrev pub files_in : List (List ℕ) → Turn → List File
files_in before (Passed f) = []
files_in before (Took f placed) = file_in (state_after Between before) placed
files_in before (Again f) = []

-- the files that are shown, in order
abbrev pub all_files : List (List ℕ) → List Turn → List File
all_files start [] = []
all_files start (t ∷ past) = all_files start past ++ files_in (start ++ messages past) t

-- the TAKEN that is sent, and the line that is printed before it
abbrev pub answer_in : ℕ → Turn → List ℕ
answer_in session (Passed f) = []
answer_in session (Took f placed) = spelling (plain_frame Taken session f.number)
answer_in session (Again f) = spelling (plain_frame Taken session f.number)

abbrev pub placed_line : ℕ → Frame → Placed → List ℕ
placed_line session f Begun = []
placed_line session f Grown = []
placed_line session f (Shown shown) = file_line session f.number shown.size shown.digest shown.name.bytes
placed_line session f (Dropped lost) = dropped_line session f.number lost.cause lost.name
placed_line session f Odd = if bytes_eq f.payload abandon_message then [] else odd_line session f.number

abbrev pub line_in : ℕ → Turn → List ℕ
line_in session (Passed f) = []
line_in session (Took f placed) = placed_line session f placed
line_in session (Again f) = []

abbrev pub lines : ℕ → List Turn → List ℕ
lines session [] = []
lines session (t ∷ past) = lines session past ++ line_in session t

-- what is sent on a connection: ATTACH with the count, and the answers
abbrev pub sendings : ℕ → ℕ → List Turn → List ℕ
sendings session count [] = spelling (plain_frame Attach session count)
sendings session count (t ∷ past) = sendings session count past ++ answer_in session t

-- ---- the end ----

-- what one call did: its turns, the looks that heard their frames, the looks of the last wait and the frame that it
-- brought, if it was not taken, how many looks were left, and all that was sent and printed
pub record Collection : Type 0 where
  pub turns : List Turn
  pub heard : List Looked
  pub looks : List Looked
  pub refused : Option Frame
  pub left : ℕ
  pub sent : List ℕ
  pub printed : List ℕ

-- the last wait brought no frame, and all that the turns call for went out
pub record Waited (session count : ℕ) (x : Collection) : Type 0 where
  pub none : x.refused ≡ None
  pub sent : x.sent ≡ sendings session count x.turns
  pub printed : x.printed ≡ lines session x.turns

-- the last wait brought this frame, which was not taken
pub record Refuses (row : SessionRow) (count : ℕ) (x : Collection) (f : Frame) : Type 0 where
  pub is : x.refused ≡ Some f
  pub heard : HearsJust x.looks (f ∷ [])
  pub wanted : is_wanted row f ≡ true
  pub sent : x.sent ≡ sendings row.id count x.turns
  pub printed : x.printed ≡ lines row.id x.turns

-- there was no further wait
pub record Stops (x : Collection) : Type 0 where
  pub none : x.refused ≡ None
  pub looks : x.looks ≡ []

-- of the last turn's answer only a prefix was sent, or of ATTACH where there are no turns
abbrev pub IsCutAnswer : ℕ → ℕ → List Turn → List ℕ → Type 0
IsCutAnswer session count [] sent = IsPrefix sent (spelling (plain_frame Attach session count))
IsCutAnswer session count (t ∷ past) sent = (prefix : List ℕ) × IsPrefix prefix (answer_in session t)
    × (sent ≡ sendings session count past ++ prefix)

-- .. of the last turn's line only a prefix was printed, and its answer was not sent
abbrev pub IsCutLine : ℕ → ℕ → List Turn → List ℕ → List ℕ → Type 0
IsCutLine session count [] sent printed = ⊥
IsCutLine session count (t ∷ past) sent printed = (prefix : List ℕ) × IsPrefix prefix (line_in session t)
    × (printed ≡ lines session past ++ prefix)
    × (sent ≡ sendings session count past)

-- the frame that was not taken has the next number
abbrev pub IsNext : SessionRow → ℕ → ℕ → Collection → Frame → Type 0
IsNext row count taken x f = Refuses row count x f × (f.number ≡ taken)

-- why it ended, where so many messages were taken before the call, and so many with its turns
abbrev pub EndsBy : SessionRow → ℕ → ℕ → Collection → Counts → CollectEnd → Type 0
EndsBy row count taken x n Looks = Waited row.id count x × Hears x.looks [] × (x.left ≡ 0)
EndsBy row count taken x n Ended = (Waited row.id count x × IsOver x.looks [] n.link n.now_link)
    ⊎ (Stops x × IsCutAnswer row.id count x.turns x.sent × (x.printed ≡ lines row.id x.turns) × Rose n.link n.now_link)
EndsBy row count taken x n Write = Stops x × IsCutLine row.id count x.turns x.sent x.printed × Rose n.out n.now_out
EndsBy row count taken x n (Folder faults) = (f : Frame) × IsNext row count taken x f
EndsBy row count taken x n (NameTaken number) = (f : Frame) × IsNext row count taken x f × (number ≡ f.number)
EndsBy row count taken x n (Device faults) = (f : Frame) × IsNext row count taken x f
EndsBy row count taken x n (Ahead number expected) = (f : Frame) × Refuses row count x f × (taken < f.number)
    × (number ≡ f.number) × (expected ≡ taken)

-- the call, behind these messages, with so many looks at most
pub record Collects (row : SessionRow) (most : ℕ) (start : List (List ℕ)) (x : Collection) (n : Counts)
    (end : CollectEnd) : Type 0 where
  pub turns : AreTurns row start x.turns
  pub heard : HearsJust x.heard (frames x.turns)
  pub used : most ≡ x.left + length (x.heard ++ x.looks)
  pub ends : EndsBy row (length start) (length (start ++ messages x.turns)) x n end

-- ---- the folder and the register ----

-- a call of the folder, of the part or of the register failed, or no name was free
abbrev pub has_failed : CollectEnd → Bool
has_failed (Folder faults) = true
has_failed (NameTaken number) = true
has_failed (Device faults) = true
has_failed _ = false

-- One collector led to another by way of these, the last first: whatever a crash inside of any step leaves fits these
-- messages.
abbrev pub PassesBy : {I D : Type 0} → Placing I → Meaning D → List (List ℕ) → List (Collector I D) → Collector I D
    → Collector I D → Type 0
PassesBy mi md all [] old new = new ≡ old
PassesBy mi md all (c ∷ past) old new = PassesBy mi md all past old c × AlwaysFits mi md all c new

abbrev pub Passes : {I D : Type 0} → Placing I → Meaning D → List (List ℕ) → Collector I D → Collector I D → Type 0
Passes {I} {D} mi md all old new = (past : List (Collector I D)) × PassesBy mi md all past old new

-- no failure of the folder or of the register was taken back
pub record CountsOn {I D : Type 0} (mi : Placing I) (md : Meaning D) (old new : Collector I D) : Type 0 where
  pub inbox : mi.count old.gatherer.inbox ≤ mi.count new.gatherer.inbox
  pub register : md.count (register_disk old.register) ≤ md.count (register_disk new.register)

-- why the message of the last frame was not taken, from one collector to the other
abbrev pub IsCause : {I D : Type 0} → Placing I → Meaning D → List (List ℕ) → Collector I D → Collector I D → CollectEnd
    → Type 0
IsCause mi md before old new (Folder faults) =
    IsWhyNot mi md (length before) (state_after Between before) old.gatherer new.gatherer (refusals.Device faults)
IsCause mi md before old new (NameTaken number) =
    IsWhyNot mi md (length before) (state_after Between before) old.gatherer new.gatherer refusals.NameTaken
IsCause mi md before old new (Device faults) = (faults ≡ md.count (register_disk new.register))
    × Rose (md.count (register_disk old.register)) (md.count (register_disk new.register))
IsCause mi md before old new end = Unit {0}

abbrev pub option_payload : Option Frame → List (List ℕ)
option_payload None = []
option_payload (Some f) = f.payload ∷ []

-- the messages that the call took, or began to take
abbrev pub attempted : Collection → CollectEnd → List (List ℕ)
attempted x (Folder faults) = messages x.turns ++ option_payload x.refused
attempted x (NameTaken number) = messages x.turns ++ option_payload x.refused
attempted x (Device faults) = messages x.turns ++ option_payload x.refused
attempted x _ = messages x.turns

-- Just the messages of the turns were taken, and the files are shown that they give. Whatever a crash at any moment of
-- the call leaves fits the messages. After a failure the collector is closed.
pub record KeepsCollector {I D : Type 0} (mi : Placing I) (md : Meaning D) (start : List (List ℕ))
    (old new : Collector I D) (x : Collection) (end : CollectEnd) : Type 0 where
  pub taken : has_failed end ≡ false → HasTaken mi md new (start ++ messages x.turns)
  pub shown : has_failed end ≡ false → mi.tells → md.tells
      → mi.shown new.gatherer.inbox ≡ mi.shown old.gatherer.inbox ++ all_files start x.turns
  pub closed : has_failed end ≡ true → new.is_open ≡ false
  pub cause : has_failed end ≡ true → (mid : Collector I D) × CountsOn mi md old mid
      × HasTaken mi md mid (start ++ messages x.turns) × IsCause mi md (start ++ messages x.turns) mid new end
  pub passes : Passes mi md (start ++ attempted x end) old new

-- What a dropper is at, and how it goes with what the folder tells.
use Rattle.std.specs.Prelude.{◌≡◌, ◌⊎◌, ℕ, ◌+◌, ◌^◌, ◌<◌, ◌≤◌, true, false, if◌then◌else◌}
use Rattle.std.specs.Prelude.{List, [], ◌∷◌, ◌++◌, length, Option, None, Some, Result, Ok, Err, OnOk}
use Rattle.pump_frame.specs.Counts.{Rose}
use Rattle.sha2.specs.Sha256.{sha256}
use Rattle.file_messages.specs.FileNames.{IsFileName}
use Rattle.file_messages.specs.Messages.{start_message}
use Rattle.file_messages.specs.Files.{File, Between, files, state_after}
use Rattle.file_messages.specs.Cuts.{cut}
use Rattle.folders.specs.Outboxes.{Dropping, Standing, Marked, Settled as IsSettled}
use Rattle.folders.specs.declared.mark.Mark.{Mark}
use Rattle.folders.specs.declared.mark.Stage.{Stage}
use Rattle.folders.specs.declared.mark.Stage.TheVariants as stages
use Rattle.file_cutter.specs.Cutting.{MayCut, cut_bytes, cut_message}
use Rattle.file_dropper.specs.Readings.{HasRead, still}
use Rattle.file_dropper.specs.Leaving.{Fits, Leaves, cut_length, sending}
use Rattle.file_dropper.specs.declared.work.Sent.{Sent}
use Rattle.file_dropper.specs.declared.work.Sender.{Sender}
use Rattle.file_dropper.specs.declared.work.Work.{Work}
use Rattle.file_dropper.specs.declared.work.Work.TheVariants.{Unsettled, GivingUp, Free, Sending, Ended, Failed}
use Rattle.file_dropper.specs.declared.dropper.Dropper.{Dropper}
use Rattle.file_dropper.specs.declared.answers.DropFault.{DropFault}
use Rattle.file_dropper.specs.declared.answers.Next.{Next}
use Rattle.file_dropper.specs.declared.answers.Settled.{Settled}
use Rattle.file_dropper.specs.declared.answers.Settled.TheVariants.{Ready, Sent as WasSent, Again as Renewed}
use Rattle.file_dropper.specs.declared.answers.Next.TheVariants.{Idle, Message, Again}
use Rattle.file_dropper.specs.declared.answers.DropFault.TheVariants.{Folder, Marks, Step, TooLong, Full}

-- the mark of a file that is being sent
abbrev pub mark_of : ℕ → Sent → Mark
mark_of message sent =
    record { stage = stages.Sending sent.start message sent.size sent.digest; name = sent.name }

-- .. of one that changed meanwhile
abbrev pub stopped_mark_of : Sent → Mark
stopped_mark_of sent = record { stage = stages.Stopped sent.start; name = sent.name }

-- the mark tells that no message of the file counts
abbrev pub IsPlain : Stage → Type 0
IsPlain stages.Fresh = Unit {0}
IsPlain (stages.Sending start message size digest) = ⊥
IsPlain (stages.Stopped start) = Unit {0}

-- no file is marked, or one of this name, and no message of it counts
abbrev pub IsAtRest : Option (List ℕ) → Option Marked → Type 0
IsAtRest None None = Unit {0}
IsAtRest None (Some marked) = ⊥
IsAtRest (Some name) None = ⊥
IsAtRest (Some name) (Some marked) = (marked.mark.name ≡ name) × IsPlain marked.mark.stage

-- a file of this mark is marked
abbrev pub IsMarked : Mark → Option Marked → Type 0
IsMarked mark None = ⊥
IsMarked mark (Some marked) = marked.mark ≡ mark

-- ---- what a dropper may be at ----

pub record IsLawfulSent (number : ℕ) (sent : Sent) : Type 0 where
  pub name : IsFileName sent.name
  pub size : sent.size < 2 ^ 48
  pub start : sent.start ≤ number
  pub first : sent.start < 2 ^ 48

pub record IsLawfulSender {F : Type 0} (message number : ℕ) (sender : Sender F) : Type 0 where
  pub sent : IsLawfulSent number sender.sent
  pub may : MayCut sender.reading.pieces
  pub fits : cut_message sender.reading.pieces ≡ message
  pub first : sender.started ≡ false → number ≡ sender.sent.start

-- by itself
abbrev pub IsLawfulWork : {F : Type 0} → ℕ → ℕ → Work F → Type 0
IsLawfulWork message number Unsettled = ⊥
IsLawfulWork message number (GivingUp name) = Unit {0}
IsLawfulWork message number (Free name) = Unit {0}
IsLawfulWork message number (Sending sender) = IsLawfulSender message number sender
IsLawfulWork message number (Ended sent) = IsLawfulSent number sent
IsLawfulWork message number (Failed reading) = ⊥

-- beside the marked file
abbrev pub IsWorkOf : {F : Type 0} → ℕ → Work F → Option Marked → Type 0
IsWorkOf message Unsettled marked = ⊥
IsWorkOf message (GivingUp name) marked = IsAtRest name marked
IsWorkOf message (Free name) marked = IsAtRest name marked
IsWorkOf message (Sending sender) marked = IsMarked (mark_of message sender.sent) marked
IsWorkOf message (Ended sent) marked = IsMarked (mark_of message sent) marked
IsWorkOf message (Failed reading) marked = ⊥

-- the next message may be asked for, or the one that was given is awaited
pub record MayGoOn {O F : Type 0} (m : Dropping O) (d : Dropper O F) : Type 0 where
  pub least : 138 ≤ d.message
  pub greatest : d.message ≤ 1024
  pub work : IsLawfulWork d.message d.number d.work
  pub marked : m.tells → IsWorkOf d.message d.work (m.stands d.outbox).marked

-- ---- behind all messages that were accepted ----

-- the messages that a file has still to give before its end
abbrev pub still_of : {F : Type 0} → (F → Option (List ℕ)) → Sender F → List (List ℕ)
still_of left sender =
    if sender.started then still left sender.reading
    else start_message sender.sent.name sender.sent.size ∷ still left sender.reading

-- so many of the messages that were to come are passed over
pub record Skips {F : Type 0} (left : F → Option (List ℕ)) (old new : Sender F)
    (bytes : List ℕ) (count : ℕ) : Type 0 where
  pub read : List ℕ
  pub passed : List (List ℕ)
  pub reading : HasRead left new.reading bytes read
  pub parts : still_of left old ≡ passed ++ still_of left new
  pub count_is : length passed ≡ count

-- messages accepted end with some of the file that is being sent, and these are still to come before its end
pub record SendsPart (message : ℕ) (sent : Sent) (bytes : List ℕ) (gone : List File)
    (accepted rest : List (List ℕ)) : Type 0 where
  pub before : List (List ℕ)
  pub part : List (List ℕ)
  pub all : accepted ≡ before ++ part
  pub number : length before ≡ sent.start
  pub between : state_after Between before ≡ Between
  pub given : files before ≡ gone
  pub parts : sending message sent.name sent.size bytes ≡ part ++ rest
  pub short : length part < cut_length message sent.size

-- .. which a sender gives
pub record SendsOn {F : Type 0} (message : ℕ) (left : F → Option (List ℕ)) (sender : Sender F) (bytes : List ℕ)
    (gone : List File) (accepted : List (List ℕ)) : Type 0 where
  pub read : List ℕ
  pub reading : HasRead left sender.reading bytes read
  pub upto : SendsPart message sender.sent bytes gone accepted (still_of left sender)

-- messages accepted end with all of the file
pub record HasSent (message : ℕ) (sent : Sent) (bytes : List ℕ) (gone : List File)
    (accepted : List (List ℕ)) : Type 0 where
  pub before : List (List ℕ)
  pub all : accepted ≡ before ++ cut message (record { name = sent.name; bytes = bytes })
  pub number : length before ≡ sent.start
  pub between : state_after Between before ≡ Between
  pub given : files before ≡ gone
  pub size : length bytes ≡ sent.size
  pub digest : sha256 bytes ≡ sent.digest

abbrev pub bytes_of : Option Marked → List ℕ
bytes_of None = []
bytes_of (Some marked) = marked.bytes

abbrev pub GoesOn : {F : Type 0} → ℕ → (F → Option (List ℕ)) → Work F → Standing → List (List ℕ) → Type 0
GoesOn message left Unsettled s accepted = ⊥
GoesOn message left (GivingUp name) s accepted = files accepted ≡ s.removed
GoesOn message left (Free name) s accepted = (files accepted ≡ s.removed) × (state_after Between accepted ≡ Between)
GoesOn message left (Sending sender) s accepted = SendsOn message left sender (bytes_of s.marked) s.removed accepted
GoesOn message left (Ended sent) s accepted = HasSent message sent (bytes_of s.marked) s.removed accepted
GoesOn message left (Failed reading) s accepted = ⊥

-- how many messages are accepted once that is which is awaited
abbrev pub ahead : {O F : Type 0} → Dropper O F → ℕ
ahead d = if d.awaited then d.number + 1 else d.number

-- A dropper stands behind all messages that are accepted, with that which is awaited.
pub record StandsBehind {O F : Type 0} (m : Dropping O) (left : F → Option (List ℕ)) (d : Dropper O F)
    (accepted : List (List ℕ)) : Type 0 where
  pub count : ahead d ≡ length accepted
  pub settled : IsSettled m d.outbox
  pub work : GoesOn d.message left d.work (m.stands d.outbox) accepted

-- ---- why a call fails ----

-- a read of a file failed
abbrev pub HasFailedRead : {F : Type 0} → (F → ℕ) → Work F → Type 0
HasFailedRead faults Unsettled = ⊥
HasFailedRead faults (GivingUp name) = ⊥
HasFailedRead faults (Free name) = ⊥
HasFailedRead faults (Sending sender) = ⊥
HasFailedRead faults (Ended sent) = ⊥
HasFailedRead faults (Failed reading) = 0 < faults reading.file

-- a file has 2^48 bytes or more
abbrev pub HasLongFile : {F : Type 0} → Work F → Type 0
HasLongFile Unsettled = ⊥
HasLongFile (GivingUp name) = ⊥
HasLongFile (Free name) = ⊥
HasLongFile (Sending sender) = ⊥
HasLongFile (Ended sent) = ⊥
HasLongFile (Failed reading) = cut_bytes reading.pieces ≡ 2 ^ 48

abbrev pub IsNoStepOf : ℕ → Stage → Type 0
IsNoStepOf accepted stages.Fresh = ⊥
IsNoStepOf accepted (stages.Sending start message size digest) =
    (message < 138) ⊎ ((accepted < start) ⊎ (start + cut_length message size < accepted))
IsNoStepOf accepted (stages.Stopped start) = ⊥

-- so many messages are none that the sending of the marked file can have come to
abbrev pub IsNoStep : ℕ → Option Marked → Type 0
IsNoStep accepted None = ⊥
IsNoStep accepted (Some marked) = IsNoStepOf accepted marked.mark.stage

-- a call on the folder failed since its count was this, or a read did; or the file is too long
abbrev pub HasFolderFault : {O F : Type 0} → ℕ → Dropping O → (F → ℕ) → Dropper O F → DropFault → Type 0
HasFolderFault before m faults new Folder = Rose before (m.count new.outbox) ⊎ HasFailedRead faults new.work
HasFolderFault before m faults new Marks = ⊥
HasFolderFault before m faults new (Step start accepted) = ⊥
HasFolderFault before m faults new TooLong = HasLongFile new.work
HasFolderFault before m faults new Full = ⊥

-- why a dropper is not settled
abbrev pub IsNotSettled : {O F : Type 0} → Dropping O → (F → ℕ) → Dropper O F → Dropper O F → DropFault → Type 0
IsNotSettled m faults old new Marks = m.several old.outbox
IsNotSettled m faults old new (Step start accepted) = m.tells → IsNoStep accepted (m.stands old.outbox).marked
IsNotSettled m faults old new fault = HasFolderFault (m.count old.outbox) m faults new fault

-- .. where not more than one file is marked
abbrev pub IsNotSettledHere : {O F : Type 0} → Dropping O → (F → ℕ) → Dropper O F → Dropper O F → DropFault → Type 0
IsNotSettledHere m faults old new (Step start accepted) = m.tells → IsNoStep accepted (m.stands old.outbox).marked
IsNotSettledHere m faults old new fault = HasFolderFault (m.count old.outbox) m faults new fault

-- why no message is given
abbrev pub GivesNothing : {O F : Type 0} → Dropping O → (F → ℕ) → Dropper O F → Dropper O F → DropFault → Type 0
GivesNothing m faults old new Full = 2 ^ 48 ≤ old.number
GivesNothing m faults old new fault = HasFolderFault (m.count old.outbox) m faults new fault

-- ---- what the calls of a dropper leave ----

-- a message may be asked for
abbrev pub IsAsking : {F : Type 0} → Work F → Type 0
IsAsking Unsettled = ⊥
IsAsking (GivingUp name) = Unit {0}
IsAsking (Free name) = Unit {0}
IsAsking (Sending sender) = Unit {0}
IsAsking (Ended sent) = ⊥
IsAsking (Failed reading) = ⊥

pub record MayAsk {O F : Type 0} (m : Dropping O) (d : Dropper O F) : Type 0 where
  pub on : MayGoOn m d
  pub asking : IsAsking d.work
  pub not_awaited : d.awaited ≡ false

-- a connection begins
pub record MaySettle {O F : Type 0} (m : Dropping O) (d : Dropper O F) : Type 0 where
  pub least : 138 ≤ d.message
  pub greatest : d.message ≤ 1024
  pub not_awaited : d.awaited ≡ false

-- .. and the marked file, which is this one, has messages that were not accepted
pub record MayResume {O F : Type 0} (m : Dropping O) (d : Dropper O F) (file : Sent) : Type 0 where
  pub may : MaySettle m d
  pub sent : IsLawfulSent d.number file
  pub short : d.number < file.start + cut_length d.message file.size
  pub marked : m.tells → IsMarked (mark_of d.message file) (m.stands d.outbox).marked

-- the marked file is this one, and a message of it may be given
pub record MaySend {O F : Type 0} (m : Dropping O) (d : Dropper O F) (sent : Sent) : Type 0 where
  pub least : 138 ≤ d.message
  pub greatest : d.message ≤ 1024
  pub lawful : IsLawfulSent d.number sent
  pub marked : m.tells → IsMarked (mark_of d.message sent) (m.stands d.outbox).marked
  pub not_awaited : d.awaited ≡ false
  pub few : d.number < 2 ^ 48

-- a file that is being sent has begun
abbrev pub HasBegun : {F : Type 0} → Work F → Type 0
HasBegun Unsettled = Unit {0}
HasBegun (GivingUp name) = Unit {0}
HasBegun (Free name) = Unit {0}
HasBegun (Sending sender) = sender.started ≡ true
HasBegun (Ended sent) = Unit {0}
HasBegun (Failed reading) = Unit {0}

-- the acknowledgement of a message is awaited
pub record MayAnswer {O F : Type 0} (m : Dropping O) (d : Dropper O F) : Type 0 where
  pub on : MayGoOn m d
  pub awaited : d.awaited ≡ true
  pub few : d.number < 2 ^ 48
  pub begun : HasBegun d.work

-- What was accepted of the marked file begins the messages of the file as it is read now, where its sending goes on:
-- it did not change meanwhile and change back.
abbrev pub IsUnchanged : {F : Type 0} → ℕ → Work F → Standing → List (List ℕ) → Type 0
IsUnchanged message (Sending sender) s accepted =
    (before part rest : List (List ℕ)) × (accepted ≡ before ++ part) × (length before ≡ sender.sent.start)
    × (sending message sender.sent.name sender.sent.size (bytes_of s.marked) ≡ part ++ rest)
IsUnchanged message other s accepted = Unit {0}

-- What a dropper leaves that settles what was left of a connection, where so many messages are accepted: a crash
-- inside the call leaves what fits them, and a dropper that is settled stands behind them where the marked file is
-- unchanged.
abbrev pub SettlesBehind : {O F : Type 0} → Dropping O → (F → Option (List ℕ)) → ℕ → Dropper O F → Dropper O F
    → Result Settled DropFault → Type 0
SettlesBehind m left accepted old new result =
    m.tells → (messages : List (List ℕ)) → accepted ≡ length messages → IsSettled m old.outbox
    → Fits messages (m.stands old.outbox)
    → Leaves m messages old.outbox new.outbox
    × OnOk result (IsUnchanged new.message new.work (m.stands new.outbox) messages
    → StandsBehind m left new messages)

-- the dropper after its call, beside the answer
abbrev pub LeavesNext : {O F : Type 0} → Dropping O → Dropper O F → Dropper O F → Result Next DropFault → Type 0
LeavesNext m old new (Ok Idle) = MayAsk m new × (new.number ≡ old.number)
LeavesNext m old new (Ok (Message number)) =
    MayAnswer m new × (new.number ≡ old.number) × (number ≡ old.number)
LeavesNext m old new (Ok (Again number start name)) =
    MayAnswer m new × (new.number ≡ old.number) × (number ≡ old.number)
LeavesNext m old new (Err fault) = Unit {0}

-- behind which messages the dropper stands after it gave another one; where that gives a file up, this holds too of
-- the start and the name that are told
abbrev pub StandsNext : {O F : Type 0} → Dropping O → (F → Option (List ℕ)) → Dropper O F → List (List ℕ) → List ℕ
    → (ℕ → List ℕ → Type 0) → Result Next DropFault → Type 0
StandsNext m left new accepted given changed (Ok Idle) = StandsBehind m left new accepted
StandsNext m left new accepted given changed (Ok (Message number)) =
    StandsBehind m left new (accepted ++ given ∷ [])
StandsNext m left new accepted given changed (Ok (Again number start name)) =
    StandsBehind m left new (accepted ++ given ∷ []) × changed start name
StandsNext m left new accepted given changed (Err fault) = Unit {0}

-- What a dropper leaves that may have given a message: where it stood behind these messages at first, a crash inside
-- the call leaves what fits them, and it stands behind the new one too.
abbrev pub GivesBehind : {O F : Type 0} → Dropping O → (F → Option (List ℕ)) → Dropper O F → Dropper O F → List ℕ
    → (ℕ → List ℕ → Type 0) → Result Next DropFault → Type 0
GivesBehind m left first new given changed result =
    m.tells → (messages : List (List ℕ)) → StandsBehind m left first messages
    → Leaves m messages first.outbox new.outbox × StandsNext m left new messages given changed result

-- a message that is given has at most so many bytes
abbrev pub HasRoom : ℕ → List ℕ → Result Next DropFault → Type 0
HasRoom message given (Ok Idle) = Unit {0}
HasRoom message given (Ok (Message number)) = length given ≤ message
HasRoom message given (Ok (Again number start name)) = length given ≤ message
HasRoom message given (Err fault) = Unit {0}

-- ---- a file that changed ----

-- these are not the bytes that a mark tells of
abbrev pub IsOther : Sent → List ℕ → Type 0
IsOther sent bytes = (length bytes ≡ sent.size) × (sha256 bytes ≡ sent.digest) → ⊥

-- this start and this name are the file's own
abbrev pub IsToldOf : Sent → ℕ → List ℕ → Type 0
IsToldOf sent start name = (start ≡ sent.start) × (name ≡ sent.name)

-- .. and its bytes are others
abbrev pub IsToldOther : Sent → List ℕ → ℕ → List ℕ → Type 0
IsToldOther sent bytes start name = IsOther sent bytes × IsToldOf sent start name

-- the bytes of the file that is being sent are others, and this start and this name are its own
abbrev pub HasOther : {F : Type 0} → Work F → List ℕ → ℕ → List ℕ → Type 0
HasOther Unsettled bytes start name = ⊥
HasOther (GivingUp _) bytes start name = ⊥
HasOther (Free _) bytes start name = ⊥
HasOther (Sending sender) bytes start name = (sender.started ≡ true) × IsToldOther sender.sent bytes start name
HasOther (Ended sent) bytes start name = ⊥
HasOther (Failed reading) bytes start name = ⊥

-- the marked file is sent from this start on in messages of this size, and has other bytes; or it is sent in others
abbrev pub IsOtherStage : ℕ → Stage → List ℕ → ℕ → Type 0
IsOtherStage message stages.Fresh bytes start = ⊥
IsOtherStage message (stages.Sending first most size digest) bytes start =
    (start ≡ first) × (most ≡ message → (length bytes ≡ size) × (sha256 bytes ≡ digest) → ⊥)
IsOtherStage message (stages.Stopped first) bytes start = ⊥

-- .. and has this name
abbrev pub HasChanged : ℕ → Option Marked → List ℕ → ℕ → List ℕ → Type 0
HasChanged message None bytes start name = ⊥
HasChanged message (Some marked) bytes start name =
    IsOtherStage message marked.mark.stage bytes start × (name ≡ marked.mark.name)

-- the answer tells of the file that was marked: it was sent, or it has changed, and its start and name are told
abbrev pub IsSettledFor : ℕ → Option Marked → List ℕ → Result Settled DropFault → Type 0
IsSettledFor message marked bytes (Ok Ready) = Unit {0}
IsSettledFor message marked bytes (Ok (WasSent sent)) = (most : ℕ) × IsMarked (mark_of most sent) marked
IsSettledFor message marked bytes (Ok (Renewed start name)) = HasChanged message marked bytes start name
IsSettledFor message marked bytes (Err fault) = Unit {0}

-- .. of a file that is given up this holds, with the start and the name that are told
abbrev pub GivesUpFor : (ℕ → List ℕ → Type 0) → Result Settled DropFault → Type 0
GivesUpFor changed (Ok Ready) = Unit {0}
GivesUpFor changed (Ok (WasSent sent)) = ⊥
GivesUpFor changed (Ok (Renewed start name)) = changed start name
GivesUpFor changed (Err fault) = Unit {0}

-- .. this is the file, which has other bytes now
abbrev pub GivesUpOther : {O F : Type 0} → Dropping O → Sent → Dropper O F → Result Settled DropFault → Type 0
GivesUpOther m sent new result =
    m.tells → GivesUpFor (IsToldOther sent (bytes_of (m.stands new.outbox).marked)) result

-- no file is marked, and one is to be taken
abbrev pub IsBetweenFiles : {F : Type 0} → Work F → Type 0
IsBetweenFiles Unsettled = ⊥
IsBetweenFiles (GivingUp name) = ⊥
IsBetweenFiles (Free None) = Unit {0}
IsBetweenFiles (Free (Some name)) = ⊥
IsBetweenFiles (Sending sender) = ⊥
IsBetweenFiles (Ended sent) = ⊥
IsBetweenFiles (Failed reading) = ⊥

-- the file whose end was given
abbrev pub ended_in : {F : Type 0} → Work F → Option Sent
ended_in Unsettled = None
ended_in (GivingUp name) = None
ended_in (Free name) = None
ended_in (Sending sender) = None
ended_in (Ended sent) = Some sent
ended_in (Failed reading) = None

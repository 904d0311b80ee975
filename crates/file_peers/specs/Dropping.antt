-- What Low's party does on a connection: files of a folder are sent as messages, and each is acknowledged.
use Rattle.std.specs.Prelude.{◌≡◌, ◌⊎◌, ℕ, ◌+◌, ◌≤◌, List, [], ◌∷◌, ◌++◌, length, Option, Some, None, Ok}
use Rattle.std.specs.List.{AllByRecursion}
use Rattle.pump_frame.specs.Counts.{Rose}
use Rattle.pump_frame.specs.declared.frame.Frame.{Frame}
use Rattle.pump_frame.specs.declared.row.SessionRow.{SessionRow}
use Rattle.pump_frame.specs.Spellings.{spelling}
use Rattle.pump_link.specs.declared.link.Looked.{Looked}
use Rattle.pump_link.specs.declared.link.Looked.TheVariants.{NotYet}
use Rattle.folders.specs.Outboxes.{Dropping}
use Rattle.file_dropper.specs.Leaving.{Leaves}
use Rattle.file_dropper.specs.Works.{GivesNothing, HasFolderFault, HasOther, IsBetweenFiles, IsNotSettled, IsSettledFor}
use Rattle.file_dropper.specs.Works.{IsUnchanged, MayAnswer, MayAsk, StandsBehind, StandsNext, bytes_of, ended_in}
use Rattle.file_dropper.specs.declared.answers.DropFault.{DropFault}
use Rattle.file_dropper.specs.declared.answers.Next.{Next}
use Rattle.file_dropper.specs.declared.answers.Next.TheVariants.{Idle, Message, Again}
use Rattle.file_dropper.specs.declared.answers.Settled.{Settled}
use Rattle.file_dropper.specs.declared.answers.Settled.TheVariants.{Ready, Sent as WasSent, Again as Renewed}
use Rattle.file_dropper.specs.declared.dropper.Dropper.{Dropper}
use Rattle.file_dropper.specs.declared.work.Sent.{Sent}
use Rattle.peers.specs.declared.asking.Wanted.{Wanted}
use Rattle.peers.specs.declared.asking.Wanted.TheVariants as wanted
use Rattle.peers.specs.Looks.{Hears, HearsJust, IsOver, bytes_in}
use Rattle.peers.specs.Outputs.{Counts, IsPrefix}
use Rattle.peers.specs.Sending.{Wait, Answers, IsRefused, IsUnfinished, data_frame, hello_frame}
use Rattle.file_peers.specs.Lines.{again_line, sent_line}
use Rattle.file_peers.specs.declared.drop.DropEnd.{DropEnd}
use Rattle.file_peers.specs.declared.drop.DropEnd.TheVariants.{Ended, Looks, Write, Refused, Unfinished, Failed}

-- ---- what is printed ----

-- the file was sent whole
abbrev pub ended_line : ℕ → Option Sent → List ℕ
ended_line session None = []
ended_line session (Some sent) = sent_line session sent.start sent.size sent.digest sent.name

-- .. before this connection, or it changed between two
abbrev pub settled_line : ℕ → Settled → List ℕ
settled_line session Ready = []
settled_line session (WasSent sent) = ended_line session (Some sent)
settled_line session (Renewed start name) = again_line session start name

-- the message that is given gives a file up
abbrev pub given_line : ℕ → Next → List ℕ
given_line session Idle = []
given_line session (Message number) = []
given_line session (Again number start name) = again_line session start name

abbrev pub given_number : Next → Option ℕ
given_number Idle = None
given_number (Message number) = Some number
given_number (Again number start name) = Some number

-- ---- turns, the newest first ----

-- a message that the dropper gave, and the dropper then
pub record Given (O F : Type 0) : Type 0 where
  pub next : Next
  pub payload : List ℕ
  pub dropper : Dropper O F

-- No file waited, and there was a rest, in which these frames were passed over; or a message was given, sent and
-- acknowledged. The last field is the dropper behind that.
pub data Turn (O F : Type 0) : Type 0 where
  Rested : (looks : List Looked) (passed : List Frame) (dropper : Dropper O F) → Turn O F
  Acked : (given : Given O F) (wait : Wait) (ack : Frame) (dropper : Dropper O F) → Turn O F

abbrev pub dropper_in : {O F : Type 0} → Turn O F → Dropper O F
dropper_in (Rested looks passed dropper) = dropper
dropper_in (Acked given wait ack dropper) = dropper

abbrev pub message_in : {O F : Type 0} → Turn O F → List (List ℕ)
message_in (Rested looks passed dropper) = []
message_in (Acked given wait ack dropper) = given.payload ∷ []

abbrev pub looks_in : {O F : Type 0} → Turn O F → List Looked
looks_in (Rested looks passed dropper) = looks
looks_in (Acked given wait ack dropper) = wait.looks

-- the message goes out under this number
abbrev pub sent_in : {O F : Type 0} → ℕ → ℕ → Turn O F → List ℕ
sent_in session number (Rested looks passed dropper) = []
sent_in session number (Acked given wait ack dropper) = spelling (data_frame session number given.payload)

abbrev pub line_in : {O F : Type 0} → ℕ → Turn O F → List ℕ
line_in session (Rested looks passed dropper) = []
line_in session (Acked given wait ack dropper) =
    given_line session given.next ++ ended_line session (ended_in given.dropper.work)

-- the dropper behind all of them, where this one was before
abbrev pub reached : {O F : Type 0} → Dropper O F → List (Turn O F) → Dropper O F
reached first [] = first
reached first (t ∷ past) = dropper_in t

-- .. of all of them, the oldest first
abbrev pub messages : {O F : Type 0} → List (Turn O F) → List (List ℕ)
messages [] = []
messages (t ∷ past) = messages past ++ message_in t

abbrev pub looks_of : {O F : Type 0} → List (Turn O F) → List Looked
looks_of [] = []
looks_of (t ∷ past) = looks_of past ++ looks_in t

abbrev pub sendings : {O F : Type 0} → ℕ → ℕ → List (Turn O F) → List ℕ
sendings session first [] = []
sendings session first (t ∷ past) =
    sendings session first past ++ sent_in session (first + length (messages past)) t

abbrev pub lines : {O F : Type 0} → ℕ → List (Turn O F) → List ℕ
lines session [] = []
lines session (t ∷ past) = lines session past ++ line_in session t

-- ---- what a turn is ----

abbrev pub AreQuiet : List Looked → Type 0
AreQuiet looks = AllByRecursion (λ (x : Looked). x ≡ NotYet) looks

-- more than 500 looks: a frame had begun when those were made, and it was the last that was heard
pub record IsLate (looks : List Looked) (passed : List Frame) : Type 0 where
  pub before : List Looked
  pub begun : List Looked
  pub rest : List Looked
  pub earlier : List Frame
  pub last : Frame
  pub all : looks ≡ before ++ (begun ++ rest)
  pub just : HearsJust before earlier
  pub first : length (before ++ begun) ≡ 500
  pub open_is : bytes_in begun ≡ [] → ⊥
  pub passed_is : passed ≡ earlier ++ last ∷ []

-- Frames were heard, and then looks found nothing. There were 500 looks; or more, where a frame that had begun by then
-- ended with the last of them.
pub record IsRest (looks : List Looked) (passed : List Frame) : Type 0 where
  pub heard : List Looked
  pub quiet : List Looked
  pub all : looks ≡ heard ++ quiet
  pub just : HearsJust heard passed
  pub none : AreQuiet quiet
  pub long : (length looks ≡ 500) ⊎ (IsLate looks passed × (quiet ≡ []))

-- the dropper may be asked for the message of this number
abbrev pub IsReady : {O F : Type 0} → Dropping O → ℕ → Dropper O F → Type 0
IsReady m number dropper = MayAsk m dropper × (dropper.number ≡ number)

-- a message of this number was given, of at most so many bytes, and the dropper awaits that it is acknowledged
pub record IsGiven {O F : Type 0} (m : Dropping O) (message number : ℕ) (given : Given O F) : Type 0 where
  pub is : given_number given.next ≡ Some number
  pub short : length given.payload ≤ message
  pub awaits : MayAnswer m given.dropper
  pub stays : given.dropper.number ≡ number

-- .. and it was
abbrev pub IsAcked : {O F : Type 0} → Dropping O → ℕ → ℕ → ℕ → Given O F → Wait → Frame → Type 0
IsAcked m session message number given wait ack = IsGiven m message number given
    × Answers session (wanted.Ack number) wait ack

-- a turn, where the next message has this number, and this was the dropper before
abbrev pub IsTurn : {O F : Type 0} → Dropping O → ℕ → ℕ → ℕ → Dropper O F → Turn O F → Type 0
IsTurn m session message number old (Rested looks passed dropper) = IsBetweenFiles old.work × IsRest looks passed
    × IsReady m number dropper
IsTurn m session message number old (Acked given wait ack dropper) =
    IsAcked m session message number given wait ack × IsReady m (number + 1) dropper

-- turns, where the first message has this number
abbrev pub AreTurns : {O F : Type 0} → Dropping O → ℕ → ℕ → ℕ → Dropper O F → List (Turn O F) → Type 0
AreTurns m session message first old [] = Unit {0}
AreTurns m session message first old (t ∷ past) =
    IsTurn m session message (first + length (messages past)) (reached old past) t
    × AreTurns m session message first old past

-- ---- the end ----

-- A turn that ended the call: in a rest; the dropper gave no message; or it gave one, whose line was printed in part;
-- or which was sent, maybe in part, and not acknowledged; or which was, where that failed; or where the line of the
-- file that ended with it was printed in part.
pub data Stop (O F : Type 0) : Type 0 where
  Resting : (looks : List Looked) (passed : List Frame) (dropper : Dropper O F) → Stop O F
  Giving : (dropper : Dropper O F) → Stop O F
  Telling : (given : Given O F) (printed : List ℕ) → Stop O F
  Asking : (given : Given O F) (wait : Wait) (sent : List ℕ) → Stop O F
  Taking : (given : Given O F) (wait : Wait) (ack : Frame) (dropper : Dropper O F) → Stop O F
  Ending : (given : Given O F) (wait : Wait) (ack : Frame) (dropper : Dropper O F) (printed : List ℕ) → Stop O F

abbrev pub dropper_at : {O F : Type 0} → Stop O F → Dropper O F
dropper_at (Resting looks passed dropper) = dropper
dropper_at (Giving dropper) = dropper
dropper_at (Telling given printed) = given.dropper
dropper_at (Asking given wait sent) = given.dropper
dropper_at (Taking given wait ack dropper) = dropper
dropper_at (Ending given wait ack dropper printed) = dropper

abbrev pub looks_at : {O F : Type 0} → Stop O F → List Looked
looks_at (Resting looks passed dropper) = looks
looks_at (Giving dropper) = []
looks_at (Telling given printed) = []
looks_at (Asking given wait sent) = wait.looks
looks_at (Taking given wait ack dropper) = wait.looks
looks_at (Ending given wait ack dropper printed) = wait.looks

abbrev pub sent_at : {O F : Type 0} → ℕ → ℕ → Stop O F → List ℕ
sent_at session number (Resting looks passed dropper) = []
sent_at session number (Giving dropper) = []
sent_at session number (Telling given printed) = []
sent_at session number (Asking given wait sent) = sent
sent_at session number (Taking given wait ack dropper) = spelling (data_frame session number given.payload)
sent_at session number (Ending given wait ack dropper printed) = spelling (data_frame session number given.payload)

abbrev pub printed_at : {O F : Type 0} → ℕ → Stop O F → List ℕ
printed_at session (Resting looks passed dropper) = []
printed_at session (Giving dropper) = []
printed_at session (Telling given printed) = printed
printed_at session (Asking given wait sent) = given_line session given.next
printed_at session (Taking given wait ack dropper) = given_line session given.next
printed_at session (Ending given wait ack dropper printed) = given_line session given.next ++ printed

-- a frame was refused, or not answered; `number` is that of the least message not acknowledged
abbrev pub AskFails : Frame → Wanted → ℕ → ℕ → Wait → List ℕ → Counts → DropEnd → Type 0
AskFails ask wanted number left wait sent n (Refused code of) = IsRefused ask.session wanted wait code of
    × (sent ≡ spelling ask)
AskFails ask wanted number left wait sent n (Unfinished of) =
    IsUnfinished ask.session ask wanted wait left sent n.link n.now_link × (of ≡ number)
AskFails ask wanted number left wait sent n _ = ⊥

-- why a rest ended the call
abbrev pub RestEnds : ℕ → List Looked → List Frame → Counts → DropEnd → Type 0
RestEnds left looks passed n Ended = IsOver looks passed n.link n.now_link
RestEnds left looks passed n Looks = Hears looks passed × (left ≡ 0)
RestEnds left looks passed n _ = ⊥

-- a line was printed in part
abbrev pub LineEnds : List ℕ → List ℕ → Counts → DropEnd → Type 0
LineEnds printed line n Write = IsPrefix printed line × Rose n.out n.now_out
LineEnds printed line n _ = ⊥

-- a call of the dropper failed, for this cause
abbrev pub FailsBy : (DropFault → Type 0) → DropEnd → Type 0
FailsBy cause (Failed fault) = cause fault
FailsBy cause _ = ⊥

-- why the last turn ended the call, where so many looks were left then
abbrev pub StopsBy : {O F : Type 0} → Dropping O → (F → ℕ) → ℕ → ℕ → ℕ → ℕ → Dropper O F → Stop O F → Counts → DropEnd
    → Type 0
StopsBy m faults session message number left old (Resting looks passed dropper) n end =
    IsBetweenFiles old.work × RestEnds left looks passed n end
StopsBy m faults session message number left old (Giving dropper) n end =
    FailsBy (GivesNothing m faults old dropper) end
StopsBy m faults session message number left old (Telling given printed) n end =
    IsGiven m message number given × LineEnds printed (given_line session given.next) n end
StopsBy m faults session message number left old (Asking given wait sent) n end = IsGiven m message number given
    × AskFails (data_frame session number given.payload) (wanted.Ack number) number left wait sent n end
StopsBy m faults session message number left old (Taking given wait ack dropper) n end =
    IsAcked m session message number given wait ack
    × FailsBy (HasFolderFault (m.count given.dropper.outbox) m faults dropper) end
StopsBy m faults session message number left old (Ending given wait ack dropper printed) n end =
    IsAcked m session message number given wait ack × IsReady m (number + 1) dropper
    × LineEnds printed (ended_line session (ended_in given.dropper.work)) n end

-- ---- a whole call ----

-- What one call did: no WELCOME came; or it came, and the dropper was not settled; or it was, and the line that tells
-- of that was printed in part; or turns were made.
pub data Visit (O F : Type 0) : Type 0 where
  Ungreeted : (wait : Wait) (sent : List ℕ) → Visit O F
  Unsettled : (wait : Wait) (welcome : Frame) (dropper : Dropper O F) → Visit O F
  Untold : (wait : Wait) (welcome : Frame) (settled : Settled) (dropper : Dropper O F) (printed : List ℕ) → Visit O F
  Greeted : (wait : Wait) (welcome : Frame) (settled : Settled) (first : Dropper O F) (turns : List (Turn O F))
      (stop : Stop O F) → Visit O F

abbrev pub all_looks : {O F : Type 0} → Visit O F → List Looked
all_looks (Ungreeted wait sent) = wait.looks
all_looks (Unsettled wait welcome dropper) = wait.looks
all_looks (Untold wait welcome settled dropper printed) = wait.looks
all_looks (Greeted wait welcome settled first turns stop) = wait.looks ++ (looks_of turns ++ looks_at stop)

abbrev pub all_sent : {O F : Type 0} → SessionRow → Visit O F → List ℕ
all_sent row (Ungreeted wait sent) = sent
all_sent row (Unsettled wait welcome dropper) = spelling (hello_frame row)
all_sent row (Untold wait welcome settled dropper printed) = spelling (hello_frame row)
all_sent row (Greeted wait welcome settled first turns stop) = spelling (hello_frame row)
    ++ (sendings row.id welcome.number turns ++ sent_at row.id (welcome.number + length (messages turns)) stop)

abbrev pub all_printed : {O F : Type 0} → ℕ → Visit O F → List ℕ
all_printed session (Ungreeted wait sent) = []
all_printed session (Unsettled wait welcome dropper) = []
all_printed session (Untold wait welcome settled dropper printed) = printed
all_printed session (Greeted wait welcome settled first turns stop) =
    settled_line session settled ++ (lines session turns ++ printed_at session stop)

-- how many messages WELCOME says are accepted
abbrev pub counted : {O F : Type 0} → Visit O F → ℕ
counted (Ungreeted wait sent) = 0
counted (Unsettled wait welcome dropper) = welcome.number
counted (Untold wait welcome settled dropper printed) = welcome.number
counted (Greeted wait welcome settled first turns stop) = welcome.number

-- the dropper at the end, where this one was before
abbrev pub dropper_behind : {O F : Type 0} → Dropper O F → Visit O F → Dropper O F
dropper_behind old (Ungreeted wait sent) = old
dropper_behind old (Unsettled wait welcome dropper) = dropper
dropper_behind old (Untold wait welcome settled dropper printed) = dropper
dropper_behind old (Greeted wait welcome settled first turns stop) = dropper_at stop

-- what the settling answered tells of the file that was marked
abbrev pub IsTold : {O F : Type 0} → Dropping O → Dropper O F → Dropper O F → Settled → Type 0
IsTold m old new settled = m.tells → IsSettledFor old.message (m.stands old.outbox).marked
    (bytes_of (m.stands new.outbox).marked) (Ok settled)

-- the call, and why it ended; the messages are numbered from WELCOME's number on
abbrev pub Drops : {O F : Type 0} → Dropping O → (F → ℕ) → SessionRow → ℕ → Dropper O F → Visit O F → Counts → DropEnd
    → Type 0
Drops m faults row left old (Ungreeted wait sent) n end =
    AskFails (hello_frame row) wanted.Welcome 0 left wait sent n end
Drops m faults row left old (Unsettled wait welcome dropper) n end = Answers row.id wanted.Welcome wait welcome
    × FailsBy (IsNotSettled m faults old dropper) end
Drops m faults row left old (Untold wait welcome settled dropper printed) n end =
    Answers row.id wanted.Welcome wait welcome × IsTold m old dropper settled × IsReady m welcome.number dropper
    × LineEnds printed (settled_line row.id settled) n end
Drops m faults row left old (Greeted wait welcome settled first turns stop) n end =
    Answers row.id wanted.Welcome wait welcome × IsTold m old first settled × IsReady m welcome.number first
    × AreTurns m row.id row.message welcome.number first turns
    × StopsBy m faults row.id row.message (welcome.number + length (messages turns)) left (reached first turns) stop n
    end

-- ---- the folder ----

-- A message was given behind these: until it is, whatever a crash leaves fits those before; from then on the dropper
-- stands behind that message too. Where it gives a file up, the file has changed, and its start and name are told.
abbrev pub GivesBehind : {O F : Type 0} → Dropping O → (F → Option (List ℕ)) → List (List ℕ) → Dropper O F → Given O F
    → Type 0
GivesBehind m left accepted old given = Leaves m accepted old.outbox given.dropper.outbox
    × StandsNext m left given.dropper accepted given.payload (HasOther old.work (bytes_of (m.stands old.outbox).marked))
    (Ok given.next)

-- .. and its acknowledgement was taken: whatever a crash leaves fits the messages with that one
abbrev pub TakesBehind : {O F : Type 0} → Dropping O → (F → Option (List ℕ)) → List (List ℕ) → Dropper O F → Given O F
    → Dropper O F → Type 0
TakesBehind m left accepted old given new = GivesBehind m left accepted old given
    × Leaves m (accepted ++ given.payload ∷ []) given.dropper.outbox new.outbox
    × StandsBehind m left new (accepted ++ given.payload ∷ [])

-- a turn behind these messages
abbrev pub Passes : {O F : Type 0} → Dropping O → (F → Option (List ℕ)) → List (List ℕ) → Dropper O F → Turn O F
    → Type 0
Passes m left accepted old (Rested looks passed new) = Leaves m accepted old.outbox new.outbox
    × StandsBehind m left new accepted
Passes m left accepted old (Acked given wait ack new) = TakesBehind m left accepted old given new

-- turns, of which each is behind the messages of those before it
abbrev pub PassesBy : {O F : Type 0} → Dropping O → (F → Option (List ℕ)) → List (List ℕ) → Dropper O F
    → List (Turn O F) → Type 0
PassesBy m left start first [] = StandsBehind m left first start
PassesBy m left start first (t ∷ past) = PassesBy m left start first past
    × Passes m left (start ++ messages past) (reached first past) t

-- the turn that ended the call
abbrev pub StopsBehind : {O F : Type 0} → Dropping O → (F → Option (List ℕ)) → List (List ℕ) → Dropper O F → Stop O F
    → Type 0
StopsBehind m left accepted old (Resting looks passed new) = Leaves m accepted old.outbox new.outbox
    × StandsBehind m left new accepted
StopsBehind m left accepted old (Giving new) = Leaves m accepted old.outbox new.outbox
StopsBehind m left accepted old (Telling given printed) = GivesBehind m left accepted old given
StopsBehind m left accepted old (Asking given wait sent) = GivesBehind m left accepted old given
StopsBehind m left accepted old (Taking given wait ack new) = GivesBehind m left accepted old given
    × Leaves m (accepted ++ given.payload ∷ []) given.dropper.outbox new.outbox
StopsBehind m left accepted old (Ending given wait ack new printed) = TakesBehind m left accepted old given new

-- What becomes of the folder, where these messages were accepted before the call. Where no file changed and changed
-- back meanwhile, whatever a crash at any moment leaves fits the messages accepted by then.
abbrev pub KeepsFolder : {O F : Type 0} → Dropping O → (F → Option (List ℕ)) → List (List ℕ) → Dropper O F → Visit O F
    → Type 0
KeepsFolder m left start old (Ungreeted wait sent) = Unit {0}
KeepsFolder m left start old (Unsettled wait welcome new) = Leaves m start old.outbox new.outbox
KeepsFolder m left start old (Untold wait welcome settled new printed) = Leaves m start old.outbox new.outbox
KeepsFolder m left start old (Greeted wait welcome settled first turns stop) =
    Leaves m start old.outbox first.outbox
    × (IsUnchanged first.message first.work (m.stands first.outbox) start → PassesBy m left start first turns
    × StopsBehind m left (start ++ messages turns) (reached first turns) stop)

-- What the parts of a turn of Low's party do. Only clauses of private functions name these.
use Rattle.std.specs.Prelude.{◌≡◌, ℕ, ◌+◌, List, [], ◌++◌, length, Option, Some, None}
use Rattle.pump_frame.specs.Spellings.{spelling}
use Rattle.pump_frame.specs.declared.frame.Frame.{Frame}
use Rattle.pump_link.specs.declared.link.Looked.{Looked}
use Rattle.folders.specs.Outboxes.{Dropping, Settled as IsSettled}
use Rattle.file_dropper.specs.Leaving.{Fits, Leaves}
use Rattle.file_dropper.specs.Works.{HasFolderFault, IsNotSettled, IsUnchanged, StandsBehind, ended_in}
use Rattle.file_dropper.specs.declared.answers.Settled.{Settled}
use Rattle.file_dropper.specs.declared.dropper.Dropper.{Dropper}
use Rattle.peers.specs.declared.asking.Wanted.TheVariants as wanted
use Rattle.peers.specs.Looks.{Hears, IsOver}
use Rattle.peers.specs.Outputs.{Counts}
use Rattle.peers.specs.Sending.{Wait, Answers}
use Rattle.file_peers.specs.declared.drop.DropEnd.{DropEnd}
use Rattle.file_peers.specs.declared.drop.DropEnd.TheVariants.{Write, Failed}
use Rattle.file_peers.specs.declared.resting.Rest.{Rest}
use Rattle.file_peers.specs.declared.resting.Rest.TheVariants.{Done, Over, Used}
use Rattle.file_peers.specs.Dropping.{Turn, Stop, IsRest, IsTurn, AreTurns, AskFails, LineEnds, StopsBy}
use Rattle.file_peers.specs.Dropping.{IsReady, IsTold, Passes, PassesBy, StopsBehind, dropper_in}
use Rattle.file_peers.specs.Dropping.{looks_in, sent_in, line_in, message_in}
use Rattle.file_peers.specs.Dropping.{dropper_at, looks_at, sent_at, printed_at, reached, messages, looks_of, sendings}
use Rattle.file_peers.specs.Dropping.{lines, ended_line, settled_line}

-- a rest
abbrev pub RestsTo : List Looked → List Frame → ℕ → ℕ → ℕ → Rest → Type 0
RestsTo looks passed left before now Done = IsRest looks passed
RestsTo looks passed left before now Over = IsOver looks passed before now
RestsTo looks passed left before now Used = Hears looks passed × (left ≡ 0)

-- what the settling of a dropper leaves of the folder, where so many messages are accepted
abbrev pub KeepsSettled : {O F : Type 0} → Dropping O → (F → Option (List ℕ)) → ℕ → Dropper O F → Dropper O F → Type 0
KeepsSettled m left accepted old new = m.tells → (start : List (List ℕ)) → accepted ≡ length start
    → IsSettled m old.outbox → Fits start (m.stands old.outbox) → Leaves m start old.outbox new.outbox
    × (IsUnchanged new.message new.work (m.stands new.outbox) start → StandsBehind m left new start)

-- the dropper was settled and that was printed, or it ended the call
abbrev pub Settles : {O F : Type 0} → Dropping O → (F → Option (List ℕ)) → (F → ℕ) → ℕ → ℕ → Dropper O F → Dropper O F
    → List ℕ → Counts → Option DropEnd → Type 0
Settles m left faults session accepted old new printed n None = (settled : Settled)
    × IsTold m old new settled × KeepsSettled m left accepted old new × IsReady m accepted new
    × (printed ≡ settled_line session settled)
Settles m left faults session accepted old new printed n (Some Write) = (settled : Settled)
    × IsTold m old new settled × KeepsSettled m left accepted old new × IsReady m accepted new
    × LineEnds printed (settled_line session settled) n Write
Settles m left faults session accepted old new printed n (Some (Failed fault)) = IsNotSettled m faults old new fault
    × (printed ≡ [])
    × (m.tells → (start : List (List ℕ)) → accepted ≡ length start → IsSettled m old.outbox
    → Fits start (m.stands old.outbox) → Leaves m start old.outbox new.outbox)
Settles m left faults session accepted old new printed n (Some end) = ⊥

-- a part of a turn: its looks, and the bytes that it sent and printed
pub record Part : Type 0 where
  pub looks : List Looked
  pub sent : List ℕ
  pub printed : List ℕ

-- the frame was acknowledged
pub record IsHeard (f : Frame) (x : Part) (wait : Wait) (ack : Frame) : Type 0 where
  pub answers : Answers f.session (wanted.Ack f.number) wait ack
  pub looks : x.looks ≡ wait.looks
  pub sent : x.sent ≡ spelling f

-- the frame was acknowledged, and what ended with it was printed; or it ended the call
abbrev pub Delivers : {O F : Type 0} → Dropping O → (F → ℕ) → Frame → Dropper O F → Dropper O F → ℕ → Part → Counts
    → Option DropEnd → Type 0
Delivers m faults f given new left x n None = (wait : Wait) × (ack : Frame) × IsHeard f x wait ack
    × (x.printed ≡ ended_line f.session (ended_in given.work)) × IsReady m (given.number + 1) new
Delivers m faults f given new left x n (Some Write) = (wait : Wait) × (ack : Frame) × IsHeard f x wait ack
    × LineEnds x.printed (ended_line f.session (ended_in given.work)) n Write × IsReady m (given.number + 1) new
Delivers m faults f given new left x n (Some (Failed fault)) = (wait : Wait) × (ack : Frame) × IsHeard f x wait ack
    × HasFolderFault (m.count given.outbox) m faults new fault × (x.printed ≡ [])
Delivers m faults f given new left x n (Some end) = (wait : Wait)
    × AskFails f (wanted.Ack f.number) f.number left wait x.sent n end
    × (x.looks ≡ wait.looks) × (x.printed ≡ []) × (new ≡ given)

-- what an acknowledgement leaves of the folder, behind these messages
abbrev pub KeepsAnswered : {O F : Type 0} → Dropping O → (F → Option (List ℕ)) → List (List ℕ) → Dropper O F
    → Dropper O F → Option DropEnd → Type 0
KeepsAnswered m left messages given new None = Leaves m messages given.outbox new.outbox
    × StandsBehind m left new messages
KeepsAnswered m left messages given new (Some Write) = Leaves m messages given.outbox new.outbox
    × StandsBehind m left new messages
KeepsAnswered m left messages given new (Some (Failed fault)) = Leaves m messages given.outbox new.outbox
KeepsAnswered m left messages given new (Some end) = Unit {0}

-- the part is this turn
pub record IsPart {O F : Type 0} (session number : ℕ) (t : Turn O F) (new : Dropper O F) (x : Part) : Type 0 where
  pub dropper : dropper_in t ≡ new
  pub looks : x.looks ≡ looks_in t
  pub sent : x.sent ≡ sent_in session number t
  pub printed : x.printed ≡ line_in session t

-- .. which ended the call
pub record IsLast {O F : Type 0} (session number : ℕ) (s : Stop O F) (new : Dropper O F) (x : Part) : Type 0 where
  pub dropper : dropper_at s ≡ new
  pub looks : x.looks ≡ looks_at s
  pub sent : x.sent ≡ sent_at session number s
  pub printed : x.printed ≡ printed_at session s

-- a turn was made, or it ended the call
abbrev pub MakesTurn : {O F : Type 0} → Dropping O → (F → Option (List ℕ)) → (F → ℕ) → ℕ → Dropper O F → Dropper O F
    → ℕ → Part → Counts → Option DropEnd → Type 0
MakesTurn {O} {F} m left faults session old new looks_left x n None = (t : Turn O F)
    × IsTurn m session old.message old.number old t × IsPart session old.number t new x
    × (m.tells → (accepted : List (List ℕ)) → StandsBehind m left old accepted → Passes m left accepted old t)
    × (new.number ≡ old.number + length (message_in t))
MakesTurn {O} {F} m left faults session old new looks_left x n (Some end) = (s : Stop O F)
    × StopsBy m faults session old.message old.number looks_left old s n end × IsLast session old.number s new x
    × (m.tells → (accepted : List (List ℕ)) → StandsBehind m left old accepted → StopsBehind m left accepted old s)

-- turns were made, and the last ended the call; what the looks drew, and what was sent and printed
abbrev pub SendsFiles : {O F : Type 0} → Dropping O → (F → Option (List ℕ)) → (F → ℕ) → ℕ → ℕ → ℕ → Dropper O F
    → Dropper O F → Counts → DropEnd → (List Looked → Type 0) → (List ℕ → Type 0) → (List ℕ → Type 0) → Type 0
SendsFiles {O} {F} m left faults session most looks_left old new n end draws grows appends =
    (turns : List (Turn O F)) × (stop : Stop O F) × AreTurns m session old.message old.number old turns
    × StopsBy m faults session old.message (old.number + length (messages turns)) looks_left (reached old turns) stop n
    end
    × (most ≡ looks_left + length (looks_of turns ++ looks_at stop)) × draws (looks_of turns ++ looks_at stop)
    × grows (sendings session old.number turns ++ sent_at session (old.number + length (messages turns)) stop)
    × appends (lines session turns ++ printed_at session stop) × (dropper_at stop ≡ new)
    × (m.tells → (start : List (List ℕ)) → StandsBehind m left old start → PassesBy m left start old turns
    × StopsBehind m left (start ++ messages turns) (reached old turns) stop)

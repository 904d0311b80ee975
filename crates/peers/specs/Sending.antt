-- What Low's sender does on a connection.
use Rattle.std.specs.Prelude.{◌≡◌, ◌⊎◌, ℕ, ◌+◌, ◌-◌, ◌^◌, ◌<◌, ◌≤◌, ◌==◌, ◌&&◌, min, Bool, true, false, List, [], ◌∷◌}
use Rattle.std.specs.Prelude.{◌++◌, length, slice_index, codes, decimal, Option, IfSome}
use Rattle.std.specs.List.{AllByRecursion}
use Rattle.std.specs.Io.KnownBytes.{Consumes, IsAtEnd}
use Rattle.pump_frame.specs.Counts.{Rose}
use Rattle.pump_frame.specs.Frames.{greeting}
use Rattle.pump_frame.specs.declared.frame.Frame.{Frame}
use Rattle.pump_frame.specs.declared.frame.Kind.{Kind}
use Rattle.pump_frame.specs.declared.frame.Kind.TheVariants.{Hello, Welcome, Data, Ack, Refuse}
use Rattle.pump_frame.specs.declared.row.SessionRow.{SessionRow}
use Rattle.pump_frame.specs.Spellings.{spelling}
use Rattle.pump_link.specs.declared.link.Looked.{Looked}
use Rattle.script_reader.specs.Transcript.{line_with_end}
use Rattle.script_reader.specs.Lines.{IsSome}
use Rattle.peers.specs.declared.asking.Wanted.{Wanted}
use Rattle.peers.specs.declared.asking.Wanted.TheVariants as wanted
use Rattle.peers.specs.declared.send.SendEnd.{SendEnd}
use Rattle.peers.specs.declared.send.SendEnd.TheVariants.{Done, Read, Write, Script, Refused, Unfinished}
use Rattle.peers.specs.Looks.{Hears, HearsJust, IsOver}
use Rattle.peers.specs.Outputs.{Counts, IsPrefix}
use Rattle.peers.specs.Payloads.{IsPayload, IsFaulty, TakesAtMost}

-- ---- one frame that is sent, and its answer ----

abbrev pub is_welcome : Kind → Bool
is_welcome Welcome = true
is_welcome _ = false

abbrev pub is_ack : Kind → Bool
is_ack Ack = true
is_ack _ = false

abbrev pub is_refuse : Kind → Bool
is_refuse Refuse = true
is_refuse _ = false

-- the frame that is awaited
abbrev pub is_wanted : ℕ → Wanted → Frame → Bool
is_wanted session wanted.Welcome f = f.session == session && is_welcome f.kind
is_wanted session (wanted.Ack number) f = f.session == session && (is_ack f.kind && f.number == number)

abbrev pub is_refusal : ℕ → Frame → Bool
is_refusal session f = f.session == session && is_refuse f.kind

-- frames that are passed over
abbrev pub IsPassed : ℕ → Wanted → Frame → Type 0
IsPassed session wanted f = (is_wanted session wanted f ≡ false) × (is_refusal session f ≡ false)

abbrev pub ArePassed : ℕ → Wanted → List Frame → Type 0
ArePassed session wanted passed = AllByRecursion (IsPassed session wanted) passed

-- the looks for an answer, and the frames that were passed over
pub record Wait : Type 0 where
  pub looks : List Looked
  pub passed : List Frame

-- the first frame that was not passed over is the one that is awaited
pub record Answers (session : ℕ) (wanted : Wanted) (w : Wait) (f : Frame) : Type 0 where
  pub passed : ArePassed session wanted w.passed
  pub is_it : is_wanted session wanted f ≡ true
  pub heard : HearsJust w.looks (w.passed ++ f ∷ [])

-- .. or a refusal
pub record IsRefused (session : ℕ) (wanted : Wanted) (w : Wait) (code number : ℕ) : Type 0 where
  pub passed : ArePassed session wanted w.passed
  pub frame : Frame
  pub refusal : is_refusal session frame ≡ true
  pub code_is : code ≡ slice_index frame.payload 0
  pub number_is : number ≡ frame.number
  pub heard : HearsJust w.looks (w.passed ++ frame ∷ [])

-- none came: the link is over, or no look is left
pub record IsUnanswered (session : ℕ) (wanted : Wanted) (w : Wait) (left before now : ℕ) : Type 0 where
  pub passed : ArePassed session wanted w.passed
  pub ends : IsOver w.looks w.passed before now ⊎ (Hears w.looks w.passed × (left ≡ 0))

-- the frame was not sent whole, or no answer to it was heard
abbrev pub IsUnfinished : ℕ → Frame → Wanted → Wait → ℕ → List ℕ → ℕ → ℕ → Type 0
IsUnfinished session ask wanted w left sent before now =
    ((w.looks ≡ []) × IsPrefix sent (spelling ask) × Rose before now)
    ⊎ (IsUnanswered session wanted w left before now × (sent ≡ spelling ask))

-- what a call did last: the looks for an answer, how many looks were left, and what was sent and printed
pub record Last : Type 0 where
  pub wait : Wait
  pub left : ℕ
  pub sent : List ℕ
  pub printed : List ℕ

-- a frame was refused, or not answered, which ended the call; `number` is that of the least message not acknowledged
abbrev pub AskEnds : ℕ → Frame → Wanted → ℕ → Last → Counts → SendEnd → Type 0
AskEnds session ask wanted number last n (Refused code of) = IsRefused session wanted last.wait code of
    × (last.sent ≡ spelling ask) × (last.printed ≡ [])
AskEnds session ask wanted number last n (Unfinished of) = IsUnfinished session ask wanted last.wait last.left last.sent
    n.link n.now_link × (last.printed ≡ []) × (of ≡ number)
AskEnds session ask wanted number last n _ = ⊥

-- ---- turns, the newest first: turn i is that of line i + 1 of the script, and its payload is message i ----

-- a line whose number is below WELCOME's, or one that was sent and acknowledged
pub data Turn : Type 0 where
  Skipped : (payload line : List ℕ) → Turn
  Acked : (payload line : List ℕ) (wait : Wait) (ack : Frame) → Turn

abbrev pub data_frame : ℕ → ℕ → List ℕ → Frame
data_frame session number payload = record { kind = Data; session = session; number = number; payload = payload }

abbrev pub ack_line : ℕ → List ℕ
ack_line number = line_with_end (codes "ack" ∷ decimal number ∷ [])

abbrev pub IsTurn : ℕ → ℕ → ℕ → Turn → Type 0
IsTurn session first number (Skipped payload line) = (number < first) × IsPayload payload line
IsTurn session first number (Acked payload line wait ack) = (first ≤ number) × IsPayload payload line
    × Answers session (wanted.Ack number) wait ack

abbrev pub AreTurns : ℕ → ℕ → List Turn → Type 0
AreTurns session first [] = Unit {0}
AreTurns session first (t ∷ past) = IsTurn session first (length past) t × AreTurns session first past

abbrev pub line_of : Turn → List ℕ
line_of (Skipped payload line) = line
line_of (Acked payload line wait ack) = line

abbrev pub looks_in : Turn → List Looked
looks_in (Skipped payload line) = []
looks_in (Acked payload line wait ack) = wait.looks

abbrev pub sent_in : ℕ → ℕ → Turn → List ℕ
sent_in session number (Skipped payload line) = []
sent_in session number (Acked payload line wait ack) = spelling (data_frame session number payload)

abbrev pub printed_in : ℕ → Turn → List ℕ
printed_in number (Skipped payload line) = []
printed_in number (Acked payload line wait ack) = ack_line number

-- .. of all of them, the oldest first
abbrev pub lines : List Turn → List ℕ
lines [] = []
lines (t ∷ past) = lines past ++ (line_of t ++ 10 ∷ [])

abbrev pub looks_of : List Turn → List Looked
looks_of [] = []
looks_of (t ∷ past) = looks_of past ++ looks_in t

abbrev pub sendings : ℕ → List Turn → List ℕ
sendings session [] = []
sendings session (t ∷ past) = sendings session past ++ sent_in session (length past) t

abbrev pub printings : List Turn → List ℕ
printings [] = []
printings (t ∷ past) = printings past ++ printed_in (length past) t

-- ---- the end ----

-- nothing was sent, looked for or printed
pub record IsIdle (last : Last) : Type 0 where
  pub looks : last.wait.looks ≡ []
  pub sent : last.sent ≡ []
  pub printed : last.printed ≡ []

-- the message of a line ended the call: it was not acknowledged, or that could not be printed
abbrev pub MessageEnds : Frame → Last → Counts → SendEnd → Type 0
MessageEnds f last n Write = (ack : Frame) × Answers f.session (wanted.Ack f.number) last.wait ack
    × (last.sent ≡ spelling f) × IsPrefix last.printed (ack_line f.number)
    × Rose n.out n.now_out
MessageEnds f last n end = AskEnds f.session f (wanted.Ack f.number) f.number last n end

-- what is to come of the script begins with the line of a message that is to be sent, and it ended the call
pub record LineEnds (session first number : ℕ) (rest : Option (List ℕ)) (last : Last) (n : Counts) (end : SendEnd) :
    Type 0 where
  pub below : first ≤ number
  pub few : number < 2 ^ 32 - 1
  pub payload : List ℕ
  pub line : List ℕ
  pub is : IsPayload payload line
  pub after : Option (List ℕ)
  pub comes : Consumes rest after (line ++ 10 ∷ [])
  pub ends : MessageEnds (data_frame session number payload) last n end

-- why it ended after so many turns, where `rest` is what was then to come of the script
abbrev pub EndsBy : ℕ → ℕ → ℕ → Option (List ℕ) → Last → Counts → SendEnd → Type 0
EndsBy session first number rest last n Done = IsIdle last × IsAtEnd rest
EndsBy session first number rest last n Read = IsIdle last × Rose n.other n.now_other
EndsBy session first number rest last n (Script line) = IsIdle last × (line ≡ min (number + 1) (2 ^ 32 - 1))
    × (IfSome rest IsFaulty ⊎ ((number ≡ 2 ^ 32 - 1) × IfSome rest IsSome))
EndsBy session first number rest last n end = LineEnds session first number rest last n end

-- HELLO, with the names of the row
abbrev pub hello_frame : SessionRow → Frame
hello_frame row = record { kind = Hello; session = row.id; number = 0; payload = greeting row.low row.high }

-- what one call did: no WELCOME came, or one did and lines were sent
pub data Sending : Type 0 where
  Ungreeted : (last : Last) → Sending
  Greeted : (wait : Wait) (welcome : Frame) (turns : List Turn) (last : Last) → Sending

-- The call, with so many looks at most: `all` was to come of the script before it, and `left` after it. It read at
-- most a line and 4,096 bytes ahead.
abbrev pub Sends : SessionRow → ℕ → Option (List ℕ) → Option (List ℕ) → Sending → Counts → SendEnd → Type 0
Sends row most all left (Ungreeted last) n end = AskEnds row.id (hello_frame row) wanted.Welcome 0 last n end
    × (most ≡ last.left + length last.wait.looks) × TakesAtMost 0 all left
Sends row most all left (Greeted wait welcome turns last) n end = Answers row.id wanted.Welcome wait welcome
    × AreTurns row.id welcome.number turns × (length turns < 2 ^ 32)
    × (most ≡ last.left + length (wait.looks ++ (looks_of turns ++ last.wait.looks)))
    × (rest : Option (List ℕ)) × Consumes all rest (lines turns) × TakesAtMost 6145 rest left
    × EndsBy row.id welcome.number (length turns) rest last n end

abbrev pub all_looks : Sending → List Looked
all_looks (Ungreeted last) = last.wait.looks
all_looks (Greeted wait welcome turns last) = wait.looks ++ (looks_of turns ++ last.wait.looks)

abbrev pub all_sent : SessionRow → Sending → List ℕ
all_sent row (Ungreeted last) = last.sent
all_sent row (Greeted wait welcome turns last) = spelling (hello_frame row) ++ (sendings row.id turns ++ last.sent)

abbrev pub all_printed : Sending → List ℕ
all_printed (Ungreeted last) = last.printed
all_printed (Greeted wait welcome turns last) = printings turns ++ last.printed

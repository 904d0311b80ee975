-- What an appender does in one step, and on one connection. Only clauses of private functions name these.
use Rattle.std.specs.Prelude.{◌≡◌, ◌⊎◌, ℕ, ◌+◌, ◌^◌, ◌<◌, ◌≤◌, Bool, true, false, List, [], ◌++◌, length, Option, Some}
use Rattle.std.specs.Prelude.{None, IfSome}
use Rattle.std.specs.Io.KnownBytes.{prepend_known, Consumes, IsAtEnd}
use Rattle.pump_frame.specs.declared.frame.Frame.{Frame}
use Rattle.pump_frame.specs.declared.frame.Kind.TheVariants.{Data}
use Rattle.pump_frame.specs.declared.row.SessionRow.{SessionRow}
use Rattle.script_reader.specs.Lines.{IsSome}
use Rattle.peers.specs.declared.append.AppendEnd.{AppendEnd}
use Rattle.peers.specs.declared.append.AppendEnd.TheVariants.{Done, Read, Write, Script, Elsewhere}
use Rattle.peers.specs.declared.append.Appender.{Appender}
use Rattle.peers.specs.Payloads.{IsFaulty, TakesAtMost}
use Rattle.peers.specs.Appending.{Line, AreLines, payloads, texts, Flight, flying, Prints, Turn, AreTurns, messages}
use Rattle.peers.specs.Appending.{looks_of, Ask, LinesEnd, IsCounted, IsElsewhere, AreInOrder, Visit, Ungreeted}
use Rattle.peers.specs.Appending.{Greeted, IsVisit, flight_after, acknowledged_in, lines_in, left_after, looks_in}
use Rattle.peers.specs.Appending.{told_in}

abbrev pub flight : Bool → Frame → Option Flight
flight true f = Some (record { number = f.number; payload = f.payload })
flight false f = None

-- the message that is under way
abbrev pub flight_of : Appender → Option Flight
flight_of a = flight a.is_held a.frame

-- of this appender few lines were acknowledged and few looks are left
pub record IsReady (a : Appender) : Type 0 where
  pub kind : a.frame.kind ≡ Data
  pub session : a.frame.session < 2 ^ 32
  pub short : a.is_held ≡ true → length a.frame.payload ≤ 1024
  pub below : a.is_held ≡ true → a.frame.number < 2 ^ 48
  pub ahead : length a.script_lines ≤ 4096
  pub few : a.lines + a.left < 2 ^ 32

-- the message that is under way was acknowledged
abbrev pub acknowledged : Appender → Appender
acknowledged a = record a {
  frame = record a.frame { number = a.frame.number + 1 };
  is_held = false;
  lines = a.lines + 1;
}

-- the number of the message that is to be acknowledged next: that of the one under way, or the one that WELCOME told
abbrev pub next_number : Option Flight → ℕ → ℕ
next_number None number = number
next_number (Some f) number = f.number

-- these messages of those under way were acknowledged, and nothing was read
pub record Moves (old new : Appender) (done : List (List ℕ)) : Type 0 where
  pub ahead : new.script_lines ≡ old.script_lines
  pub left : new.left ≡ old.left
  pub kind : new.frame.kind ≡ old.frame.kind
  pub session : new.frame.session ≡ old.frame.session
  pub payload : new.frame.payload ≡ old.frame.payload
  pub lines : new.lines ≡ old.lines + length done
  pub order : flying (flight_of old) ≡ flying (flight_of new) ++ done

-- what becomes of an appender by a WELCOME
abbrev pub TakesWelcome : Appender → ℕ → Appender → List (List ℕ) → Option AppendEnd → Type 0
TakesWelcome old number new counted None = IsCounted (flight_of old) number counted × Moves old new counted
    × (new.frame.number ≡ number) × (new.is_held ≡ true → old.frame.number ≡ number)
TakesWelcome old number new counted (Some Write) = IsCounted (flight_of old) number counted × Moves old new counted
    × (new.is_held ≡ false) × (new.frame.number ≡ number)
TakesWelcome old number new counted (Some (Elsewhere of)) = IsElsewhere (flight_of old) number × (of ≡ number)
    × (counted ≡ []) × (new ≡ old)
TakesWelcome old number new counted (Some _) = ⊥

-- no message is under way, and none was
abbrev pub IsNone : Appender → Appender → List Line → Type 0
IsNone old new lines = (old.is_held ≡ false) × (new.is_held ≡ false) × (lines ≡ [])

-- what is to come of the script
abbrev pub coming : Appender → Option (List ℕ) → Option (List ℕ)
coming a left = prepend_known a.script_lines left

-- a message is under way, for which these lines were read; or none is, and the script brought none, where `rest` was
-- to come of it
abbrev pub Holds : Appender → Appender → List Line → Option (List ℕ) → Option (List ℕ) → Option AppendEnd → Type 0
Holds old new lines rest after None = AreLines lines
    × (payloads lines ++ flying (flight_of old) ≡ flying (flight_of new)) × (new.is_held ≡ true) × (after ≡ rest)
Holds old new lines rest after (Some Done) = IsNone old new lines × IsAtEnd rest
Holds old new lines rest after (Some Read) = IsNone old new lines
Holds old new lines rest after (Some Script) = IsNone old new lines
    × (IfSome rest IsFaulty ⊎ ((2 ^ 48 ≤ new.frame.number) × IfSome rest IsSome))
Holds old new lines rest after (Some _) = ⊥

-- a line may be read, and the rest stays the same
pub record Keeps (old new : Appender) : Type 0 where
  pub number : new.frame.number ≡ old.frame.number
  pub session : new.frame.session ≡ old.frame.session
  pub lines : new.lines ≡ old.lines
  pub left : new.left ≡ old.left

-- nothing more was read where another connection is to come, else a line at most and what is ahead of it
abbrev pub Behind : Option AppendEnd → Option (List ℕ) → Option (List ℕ) → Type 0
Behind None rest after = after ≡ rest
Behind (Some end) rest after = TakesAtMost 2049 rest after

-- what was done behind a WELCOME: `all` was to come of the script, and then `after`
pub record SendsLines (old new : Appender) (turns : List Turn) (lines : List Line) (a : Ask)
    (all after : Option (List ℕ)) (before now : ℕ) (end : Option AppendEnd) (printed : List ℕ) : Type 0 where
  pub are : AreTurns old.frame.session old.frame.number turns
  pub read : AreLines lines
  pub order : AreInOrder (flight_of old) lines (messages turns) (flight_of new)
  pub rest : Option (List ℕ)
  pub ends : LinesEnd old.frame.session (old.frame.number + length turns) (flight_of new) a rest before now end
  pub used : old.left ≡ new.left + length (looks_of turns ++ a.wait.looks)
  pub left : a.left ≡ new.left
  pub reads : Consumes all rest (texts lines)
  pub behind : Behind end rest after
  pub prints : Prints end old.frame.number (messages turns) printed
  pub count : new.lines ≡ old.lines + length turns
  pub number : new.frame.number ≡ old.frame.number + length turns

-- the number of the next message, where it was `number` before the connection
abbrev pub number_after : Option Flight → ℕ → Visit → ℕ
number_after before number (Ungreeted a) = number
number_after before number (Greeted wait welcome counted turns lines now a) = next_number before welcome.number + length
    (messages turns ++ counted)

-- .. on a connection
pub record Visits (row : SessionRow) (old new : Appender) (visit : Visit) (all after : Option (List ℕ)) (before now : ℕ)
    (end : Option AppendEnd) (printed : List ℕ) : Type 0 where
  pub rest : Option (List ℕ)
  pub is : IsVisit row (flight_of old) visit rest before now end
  pub flight_is : flight_of new ≡ flight_after (flight_of old) visit
  pub used : old.left ≡ new.left + length (looks_in visit)
  pub left : left_after visit ≡ new.left
  pub reads : Consumes all rest (texts (lines_in visit))
  pub behind : Behind end rest after
  pub prints : Prints end (next_number (flight_of old) (told_in visit)) (acknowledged_in visit) printed
  pub count : new.lines ≡ old.lines + length (acknowledged_in visit)
  pub number : new.frame.number ≡ number_after (flight_of old) old.frame.number visit

-- What Low's sender of a stream does, over all its connections. Lists have the newest first.
use Rattle.std.specs.Prelude.{◌≡◌, ◌≢◌, ◌⊎◌, ℕ, ◌+◌, ◌^◌, ◌<◌, ◌≤◌, List, [], ◌∷◌, ◌++◌, length, codes, decimal, Option}
use Rattle.std.specs.Prelude.{Some, None, IfSome}
use Rattle.std.specs.List.{AllByRecursion}
use Rattle.std.specs.Io.KnownBytes.{Consumes, IsAtEnd}
use Rattle.pump_frame.specs.declared.frame.Frame.{Frame}
use Rattle.pump_frame.specs.declared.row.SessionRow.{SessionRow}
use Rattle.pump_frame.specs.Spellings.{spelling}
use Rattle.pump_link.specs.declared.link.Looked.{Looked}
use Rattle.pump_link.specs.Ports.{PortsStep, Connected, NoConnection, BackToPorts}
use Rattle.pump_link.specs.Tells.{Draws, Grows}
use Rattle.script_reader.specs.Lines.{IsSome}
use Rattle.script_reader.specs.Transcript.{line_with_end}
use Rattle.peers.specs.declared.asking.Wanted.{Wanted}
use Rattle.peers.specs.declared.asking.Wanted.TheVariants as wanted
use Rattle.peers.specs.declared.append.AppendEnd.{AppendEnd}
use Rattle.peers.specs.declared.append.AppendEnd.TheVariants.{Done, Read, Write, Script, Refused, Unfinished, Elsewhere}
use Rattle.peers.specs.Outputs.{IsPrefix}
use Rattle.peers.specs.Payloads.{IsPayload, IsFaulty, TakesAtMost}
use Rattle.peers.specs.Sending.{Wait, Answers, IsRefused, IsUnfinished, ack_line, data_frame, hello_frame}

-- ---- lines and messages ----

-- a line that was read, without its end, and the payload that it is
pub record Line : Type 0 where
  pub payload : List ℕ
  pub text : List ℕ

abbrev pub AreLines : List Line → Type 0
AreLines lines = AllByRecursion (λ (l : Line). IsPayload l.payload l.text) lines

abbrev pub payloads : List Line → List (List ℕ)
payloads [] = []
payloads (l ∷ past) = l.payload ∷ payloads past

-- the bytes of the lines, the oldest first
abbrev pub texts : List Line → List ℕ
texts [] = []
texts (l ∷ past) = texts past ++ (l.text ++ 10 ∷ [])

-- a message that was sent and not yet acknowledged
pub record Flight : Type 0 where
  pub number : ℕ
  pub payload : List ℕ

abbrev pub flying : Option Flight → List (List ℕ)
flying None = []
flying (Some f) = f.payload ∷ []

-- the lines that tell that messages were acknowledged, from the number of the oldest on
abbrev pub acks : ℕ → List (List ℕ) → List ℕ
acks first [] = []
acks first (message ∷ past) = acks first past ++ ack_line (first + length past)

-- .. of which only a prefix of the last was printed
abbrev pub IsCut : ℕ → List (List ℕ) → List ℕ → Type 0
IsCut first [] printed = ⊥
IsCut first (message ∷ past) printed = (prefix : List ℕ) × IsPrefix prefix (ack_line (first + length past))
    × (printed ≡ acks first past ++ prefix)

-- the line that tells how many lines were acknowledged, and the number of the next message
abbrev pub appended_line : ℕ → ℕ → ℕ → List ℕ
appended_line session lines next = line_with_end (codes "appended" ∷ decimal session ∷ decimal lines ∷ decimal
    next ∷ [])

abbrev pub Prints : Option AppendEnd → ℕ → List (List ℕ) → List ℕ → Type 0
Prints (Some Write) first messages printed = IsCut first messages printed
Prints _ first messages printed = printed ≡ acks first messages

-- ---- one connection ----

-- a message that was sent and acknowledged, with the looks up to its ACK
pub record Turn : Type 0 where
  pub payload : List ℕ
  pub wait : Wait
  pub ack : Frame

-- the messages have the numbers from this one on, and each was acknowledged before the next was sent
abbrev pub AreTurns : ℕ → ℕ → List Turn → Type 0
AreTurns session first [] = Unit {0}
AreTurns session first (t ∷ past) = Answers session (wanted.Ack (first + length past)) t.wait t.ack
    × AreTurns session first past

abbrev pub messages : List Turn → List (List ℕ)
messages [] = []
messages (t ∷ past) = t.payload ∷ messages past

abbrev pub looks_of : List Turn → List Looked
looks_of [] = []
looks_of (t ∷ past) = looks_of past ++ t.wait.looks

abbrev pub sendings : ℕ → ℕ → List Turn → List ℕ
sendings session first [] = []
sendings session first (t ∷ past) = sendings session first past ++ spelling (data_frame session (first + length past)
    t.payload)

-- what was asked last on a connection: the looks for an answer, how many looks were left, and what was sent of the
-- frame
pub record Ask : Type 0 where
  pub wait : Wait
  pub left : ℕ
  pub sent : List ℕ

-- nothing was asked
pub record IsIdle (a : Ask) : Type 0 where
  pub looks : a.wait.looks ≡ []
  pub sent : a.sent ≡ []

-- no answer came, and the connection is broken or no look is left; or a refusal came, which ends the call
abbrev pub AskEnds : ℕ → Frame → Wanted → Ask → ℕ → ℕ → Option AppendEnd → Type 0
AskEnds session ask wanted a before now None = IsUnfinished session ask wanted a.wait a.left a.sent before now
AskEnds session ask wanted a before now (Some (Refused code of)) = IsRefused session wanted a.wait code of
    × (a.sent ≡ spelling ask)
AskEnds session ask wanted a before now _ = ⊥

-- the message of this number was asked for last
pub record IsFlown (session number : ℕ) (flight : Option Flight) (a : Ask) (before now : ℕ) (end : Option AppendEnd) :
    Type 0 where
  pub below : number < 2 ^ 48
  pub payload : List ℕ
  pub is : flight ≡ Some (record { number = number; payload = payload })
  pub ends : AskEnds session (data_frame session number payload) (wanted.Ack number) a before now end

-- no message was under way, and nothing was asked
abbrev pub IsAtRest : Option Flight → Ask → Type 0
IsAtRest flight a = (flight ≡ None) × IsIdle a

-- why no more lines were sent on a connection, where the next message has this number, and `rest` is what was then to
-- come of the script
abbrev pub LinesEnd : ℕ → ℕ → Option Flight → Ask → Option (List ℕ) → ℕ → ℕ → Option AppendEnd → Type 0
LinesEnd session number flight a rest before now None = IsFlown session number flight a before now None
LinesEnd session number flight a rest before now (Some (Refused code of)) = IsFlown session number flight a before now
    (Some (Refused code of))
LinesEnd session number flight a rest before now (Some Done) = IsAtRest flight a × IsAtEnd rest
LinesEnd session number flight a rest before now (Some Read) = IsAtRest flight a
LinesEnd session number flight a rest before now (Some Write) = IsAtRest flight a
LinesEnd session number flight a rest before now (Some Script) = IsAtRest flight a
    × (IfSome rest IsFaulty ⊎ ((2 ^ 48 ≤ number) × IfSome rest IsSome))
LinesEnd session number flight a rest before now (Some _) = ⊥

-- What was done on one connection: no WELCOME came, or one did. That counts the message that was under way before, or
-- not; then lines were read, and messages were acknowledged; `flight` is what is under way at the end.
pub data Visit : Type 0 where
  Ungreeted : (ask : Ask) → Visit
  Greeted : (wait : Wait) (welcome : Frame) (counted : List (List ℕ)) (turns : List Turn) (lines : List Line)
      (flight : Option Flight) (ask : Ask) → Visit

-- WELCOME tells the number of the message that was under way, or one more, and then counts it
abbrev pub IsCounted : Option Flight → ℕ → List (List ℕ) → Type 0
IsCounted None number counted = counted ≡ []
IsCounted (Some f) number [] = number ≡ f.number
IsCounted (Some f) number (message ∷ []) = (number ≡ f.number + 1) × (message ≡ f.payload)
IsCounted (Some f) number (message ∷ more ∷ rest) = ⊥

-- .. or another
abbrev pub IsElsewhere : Option Flight → ℕ → Type 0
IsElsewhere None number = ⊥
IsElsewhere (Some f) number = (number ≢ f.number) × (number ≢ f.number + 1)

-- nothing was done after a WELCOME with another number
pub record StopsElsewhere (before : Option Flight) (number : ℕ) (counted : List (List ℕ)) (turns : List Turn)
    (flight : Option Flight) (a : Ask) (end : Option AppendEnd) : Type 0 where
  pub elsewhere : IsElsewhere before number
  pub none : counted ≡ []
  pub no_turns : turns ≡ []
  pub same : flight ≡ before
  pub idle : IsIdle a
  pub is : end ≡ Some (Elsewhere number)

-- the message that was under way and the lines that were read are those that were acknowledged and the one that is
-- under way
abbrev pub AreInOrder : Option Flight → List Line → List (List ℕ) → Option Flight → Type 0
AreInOrder before lines acknowledged now = payloads lines ++ flying before ≡ flying now ++ acknowledged

-- a connection where this message was under way before it; `rest` is what was to come of the script behind its lines
abbrev pub IsVisit : SessionRow → Option Flight → Visit → Option (List ℕ) → ℕ → ℕ → Option AppendEnd → Type 0
IsVisit row before (Ungreeted a) rest faults now_faults end = AskEnds row.id (hello_frame row) wanted.Welcome a faults
    now_faults end
IsVisit row before (Greeted wait welcome counted turns lines flight a) rest faults now_faults end = Answers row.id
    wanted.Welcome wait welcome
    × AreTurns row.id welcome.number turns × AreLines lines
    × AreInOrder before lines (messages turns ++ counted) flight
    × ((IsCounted before welcome.number counted × LinesEnd row.id (welcome.number + length turns) flight a rest faults
    now_faults end)
    ⊎ StopsElsewhere before welcome.number counted turns flight a end)

abbrev pub flight_after : Option Flight → Visit → Option Flight
flight_after before (Ungreeted a) = before
flight_after before (Greeted wait welcome counted turns lines flight a) = flight

abbrev pub acknowledged_in : Visit → List (List ℕ)
acknowledged_in (Ungreeted a) = []
acknowledged_in (Greeted wait welcome counted turns lines flight a) = messages turns ++ counted

abbrev pub lines_in : Visit → List Line
lines_in (Ungreeted a) = []
lines_in (Greeted wait welcome counted turns lines flight a) = lines

abbrev pub left_after : Visit → ℕ
left_after (Ungreeted a) = a.left
left_after (Greeted wait welcome counted turns lines flight a) = a.left

abbrev pub looks_in : Visit → List Looked
looks_in (Ungreeted a) = a.wait.looks
looks_in (Greeted wait welcome counted turns lines flight a) = wait.looks ++ (looks_of turns ++ a.wait.looks)

abbrev pub sent_in : SessionRow → Visit → List ℕ
sent_in row (Ungreeted a) = a.sent
sent_in row (Greeted wait welcome counted turns lines flight a) = spelling (hello_frame row) ++ (sendings row.id
    welcome.number turns ++ a.sent)

abbrev pub told_in : Visit → ℕ
told_in (Ungreeted a) = 0
told_in (Greeted wait welcome counted turns lines flight a) = welcome.number

-- the number that the first WELCOME told, up to this connection; before, where a message was under way, it was `first`
abbrev pub first_by : Option Flight → ℕ → Visit → ℕ
first_by None first visit = told_in visit
first_by (Some f) first visit = first

-- ---- all connections ----

-- what a link gives next, what was sent over it, and how often it failed
pub record LinkTells (L : Type 0) : Type 1 where
  pub gives : L → List Looked → Type 0
  pub sent : L → List ℕ → Type 0
  pub faults : L → ℕ

abbrev pub link_tells : {L : Type 0} → (L → List Looked → Type 0) → (L → List ℕ → Type 0) → (L → ℕ) → LinkTells L
link_tells gives sent faults = record { gives = gives; sent = sent; faults = faults }

-- a connection: its link as it came and as it was given back, and what was done on it
pub record Made (L : Type 0) : Type 0 where
  pub came : L
  pub back : L
  pub visit : Visit

-- an attempt to connect is `None` where no link came
module _ {L : Type 0} where
  abbrev pub flight_at : List (Option (Made L)) → Option Flight
  flight_at [] = None
  flight_at (None ∷ past) = flight_at past
  flight_at (Some m ∷ past) = flight_after (flight_at past) m.visit

  abbrev pub acknowledged : List (Option (Made L)) → List (List ℕ)
  acknowledged [] = []
  acknowledged (None ∷ past) = acknowledged past
  acknowledged (Some m ∷ past) = acknowledged_in m.visit ++ acknowledged past

  abbrev pub all_lines : List (Option (Made L)) → List Line
  all_lines [] = []
  all_lines (None ∷ past) = all_lines past
  all_lines (Some m ∷ past) = lines_in m.visit ++ all_lines past

  -- each attempt costs a look, and the looks at its link
  abbrev pub cost : List (Option (Made L)) → ℕ
  cost [] = 0
  cost (None ∷ past) = cost past + 1
  cost (Some m ∷ past) = cost past + (1 + length (looks_in m.visit))

  -- the number that the first WELCOME told
  abbrev pub first_number : List (Option (Made L)) → ℕ
  first_number [] = 0
  first_number (None ∷ past) = first_number past
  first_number (Some m ∷ past) = first_by (flight_at past) (first_number past) m.visit

  -- each link was given back before the next attempt
  abbrev pub steps : {D : Type 0} → ℕ → List (Option (Made L)) → List (PortsStep L D)
  steps port [] = []
  steps port (None ∷ past) = steps port past ++ NoConnection port ∷ []
  steps port (Some m ∷ past) = steps port past ++ Connected port m.came ∷ BackToPorts m.back ∷ []

-- the attempts of one call, with so many looks at most
module _ {L : Type 0} (t : LinkTells L) (row : SessionRow) (most : ℕ) where
  -- an attempt after those
  abbrev pub IsTry : List (Option (Made L)) → Option (Made L) → Option (List ℕ) → Option AppendEnd → Type 0
  IsTry past None rest end = end ≡ None
  IsTry past (Some m) rest end = IsVisit row (flight_at past) m.visit rest (t.faults m.came) (t.faults m.back) end
      × (most ≡ left_after m.visit + cost (Some m ∷ past))
      × Draws (t.gives m.came) (t.gives m.back) (looks_in m.visit)
      × Grows (t.sent m.came) (t.sent m.back) (sent_in row m.visit)

  -- none of them ended the call
  abbrev pub AreTries : List (Option (Made L)) → Type 0
  AreTries [] = Unit {0}
  AreTries (x ∷ past) = IsTry past x None None × AreTries past

  -- no look is left for another attempt, or the last connection ended the call; `rest` is what was then to come of
  -- the script
  abbrev pub EndsBy : ℕ → List (Option (Made L)) → Option (List ℕ) → AppendEnd → Type 0
  EndsBy left tries rest Unfinished = (left ≡ 0) × AreTries tries
  EndsBy left [] rest end = ⊥
  EndsBy left (x ∷ past) rest end = IsTry past x rest (Some end) × AreTries past

  -- The call: `all` was to come of the script before it, and `after` behind it. It read at most a line and 4,096
  -- bytes ahead.
  pub record AppendsLines (tries : List (Option (Made L))) (all after : Option (List ℕ)) (end : AppendEnd)
      (lines next : ℕ) (printed : List ℕ) : Type 0 where
    pub rest : Option (List ℕ)
    pub left : ℕ
    pub ends : EndsBy left tries rest end
    pub used : most ≡ left + cost tries
    pub reads : Consumes all rest (texts (all_lines tries))
    pub ahead : TakesAtMost 6145 rest after
    pub order : AreInOrder None (all_lines tries) (acknowledged tries) (flight_at tries)
    pub count : lines ≡ length (acknowledged tries)
    pub next_is : next ≡ first_number tries + length (acknowledged tries)
    pub numbered : IfSome (flight_at tries) (λ (f : Flight). f.number ≡ next)
    pub prints : Prints (Some end) (first_number tries) (acknowledged tries) printed

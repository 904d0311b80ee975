-- How the replay of a script of two pumps in a row ends. `all` and `left` are what the source had at the call and has
-- after it, `old` and `new` what the sink had and has, each where it tells.
use Rattle.std.specs.Prelude.{◌≡◌, ◌⊎◌, ℕ, ◌+◌, ◌^◌, ◌<◌, List, [], ◌∷◌, ◌++◌, length, Option}
use Rattle.std.specs.Io.KnownBytes.{Appends, IsAtEnd}
use Rattle.pump_chain.specs.Chained.{Chained}
use Rattle.pump_chain.specs.Ends.{ends_of}
use Rattle.pump_frame.specs.declared.row.SessionRow.{SessionRow}
use Rattle.pump_link.specs.Causes.{AppendsPrefix}
use Rattle.script_reader.specs.declared.event.Event.{Event}
use Rattle.script_reader.specs.declared.fault.Fault.{Fault}
use Rattle.script_reader.specs.declared.line.Line.{Line}
use Rattle.script_reader.specs.declared.line.Line.TheVariants.{Session}
use Rattle.script_reader.specs.Lines.{AreLines}
use Rattle.script_reader.specs.Openings.{Openings}
use Rattle.script_reader.specs.Transcript.{text, fault_line}
use Rattle.script_replay.specs.Replays.{IsNear, IsNearLast}
use Rattle.chain_replay.specs.Faults.{IsHalted, ChainStops, NamesWhatFailed}
use Rattle.chain_replay.specs.Opened.{Shelved}
use Rattle.chain_replay.specs.Owned.{AreTheirOwn}
use Rattle.chain_replay.specs.Scripts.{Begun, NoPump, OnePump, BothPumps, MayFollow, LeadTo}

-- these lines were read, all could be applied on disks that were found so, and they print these events; what is left
-- of the script is `rest`
pub record IsSoFar (o : Openings) (all rest : Option (List ℕ)) (lines : List Line) (begun : Begun) (events : List Event)
    : Type 0 where
  pub spelled : AreLines all lines rest
  pub leads : LeadTo o NoPump lines begun events
  pub few : length lines < 2 ^ 32

-- the lines of a script that were replayed, what the disks were found to hold, what the lines print, and what they
-- leave
pub record Replayed (all : Option (List ℕ)) : Type 0 where
  pub openings : Openings
  pub lines : List Line
  pub events : List Event
  pub begun : Begun
  pub rest : Option (List ℕ)
  pub so_far : IsSoFar openings all rest lines begun events

-- what is said of the disks then
abbrev pub IsKept : Shelved → Openings → Begun → List Event → Type 0
IsKept shelf o NoPump printed = shelf.waits
IsKept shelf o (OnePump one) printed = shelf.waits
IsKept shelf o (BothPumps one two c) printed = shelf.keeps o one two c × shelf.outlives one two c printed

-- ---- the ends ----

-- the script is at its end, with both pumps: the output is its transcript, in which the lines of each session are
-- those of the script that has its lines alone
pub record IsFinished (shelf : Shelved) {all : Option (List ℕ)} (r : Replayed all) (output : List ℕ) : Type 0 where
  pub ended : IsAtEnd r.rest
  pub one : SessionRow
  pub two : SessionRow
  pub chain : Chained
  pub begun_is : r.begun ≡ BothPumps one two chain
  pub own : AreTheirOwn r.openings one two r.lines chain r.events
  pub output_is : output ≡ text (r.events ++ ends_of chain)
  pub disks : shelf.keeps r.openings one two chain
  pub outlives : shelf.outlives one two chain r.events

-- it is not read on: the output is what the lines print, and the fault
pub record IsCutShort (shelf : Shelved) {all : Option (List ℕ)} (left : Option (List ℕ)) (was now : ℕ) (fault : Fault)
    (r : Replayed all) (output : List ℕ) : Type 0 where
  pub halted : IsHalted r.rest left (length r.lines) was now r.begun fault
  pub output_is : output ≡ text r.events ++ fault_line fault
  pub disks : IsKept shelf r.openings r.begun r.events

-- the next line, whose number is below 2^32, and from which at most 4,096 bytes on were taken
pub record IsNext {all : Option (List ℕ)} (left : Option (List ℕ)) (r : Replayed all) (line : Line) : Type 0 where
  pub few : length r.lines + 1 < 2 ^ 32
  pub later : Option (List ℕ)
  pub spelled : AreLines r.rest (line ∷ []) later
  pub taken : IsNear r.rest left

-- .. is to begin the second pump, and the two make no chain: the output is the fault
pub record IsUnbegun (shelf : Shelved) {all : Option (List ℕ)} (left : Option (List ℕ)) (fault : Fault)
    (r : Replayed all) (output : List ℕ) : Type 0 where
  pub one : SessionRow
  pub two : SessionRow
  pub begun_is : r.begun ≡ OnePump one
  pub next : IsNext left r (Session two)
  pub follows : MayFollow one two
  pub output_is : output ≡ fault_line fault
  pub disks : shelf.refuses one two fault

-- .. so, but memory was wanting for it: nothing is written
pub record IsWanting (shelf : Shelved) {all : Option (List ℕ)} (left : Option (List ℕ)) (r : Replayed all)
    (output : List ℕ) : Type 0 where
  pub one : SessionRow
  pub two : SessionRow
  pub begun_is : r.begun ≡ OnePump one
  pub next : IsNext left r (Session two)
  pub follows : MayFollow one two
  pub output_is : output ≡ []
  pub disks : shelf.readies one two

-- .. stops the chain: the output is what the lines before it print, what it prints up to its stop, and the fault,
-- which names the disk that failed
pub record IsStopped (shelf : Shelved) {all : Option (List ℕ)} (left : Option (List ℕ)) (fault : Fault)
    (r : Replayed all) (output : List ℕ) : Type 0 where
  pub one : SessionRow
  pub two : SessionRow
  pub chain : Chained
  pub begun_is : r.begun ≡ BothPumps one two chain
  pub line : Line
  pub next : IsNext left r line
  pub led : Chained
  pub printed : List Event
  pub stops : ChainStops one.id chain line led printed fault
  pub named : NamesWhatFailed shelf.fails fault
  pub output_is : output ≡ text (r.events ++ printed) ++ fault_line fault
  pub disks : shelf.keeps r.openings one two led

-- one of these three, with this fault
abbrev pub EndsWith : Shelved → {all : Option (List ℕ)} → Option (List ℕ) → ℕ → ℕ → Fault → Replayed all → List ℕ
    → Type 0
EndsWith shelf left was now fault r output = IsCutShort shelf left was now fault r output
    ⊎ (IsUnbegun shelf left fault r output
    ⊎ IsStopped shelf left fault r output)

-- ---- what was written ----

-- a replay of the script has come so far that it ends so, and its output was written
abbrev pub Wrote : (all old new : Option (List ℕ)) → (Replayed all → List ℕ → Type 0) → Type 0
Wrote all old new End = (r : Replayed all) × (output : List ℕ) × End r output × Appends old new output

-- .. a prefix of its output was
abbrev pub WrotePrefix : (all old new : Option (List ℕ)) → (Replayed all → List ℕ → Type 0) → Type 0
WrotePrefix all old new End = (r : Replayed all) × (output : List ℕ) × End r output × AppendsPrefix old new output

-- the output is what the lines so far print, and at most 4,096 bytes were taken from the line after them or from the
-- last of them on; or it is all that a replay writes that ends so
abbrev pub IsOutput : Shelved → {all : Option (List ℕ)} → Option (List ℕ) → ℕ → ℕ → Replayed all → List ℕ → Type 0
IsOutput shelf left was now r output =
    ((output ≡ text r.events) × IsNearLast r.rest left × IsKept shelf r.openings r.begun r.events)
    ⊎ (IsFinished shelf r output
    ⊎ ((fault : Fault) × EndsWith shelf left was now fault r output))

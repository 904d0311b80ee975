-- What a gatherer does with a message: with its folder, and with the part of the file that has begun.
use Rattle.std.specs.Prelude.{◌≡◌, ◌⊎◌, ℕ, ◌^◌, ◌<◌, ◌≤◌, if◌then◌else◌, List, [], ◌∷◌, ◌++◌, length, take, Option}
use Rattle.std.specs.Prelude.{None}
use Rattle.std.specs.Prelude.{Some, Result, OnOk, IfOk, IfErr}
use Rattle.sha2.specs.Sha256.{sha256}
use Rattle.disk_model.specs.Disk.{Meaning, Settled}
use Rattle.file_messages.specs.Files.{File, State, Between, Inside, after, given}
use Rattle.file_messages.specs.FileNames.{IsFileName}
use Rattle.file_messages.specs.Messages.{message_of}
use Rattle.file_messages.specs.Assemblies.{StandsFor, answer}
use Rattle.file_messages.specs.declared.assembly.Step.{Step}
use Rattle.file_messages.specs.declared.assembly.Step.TheVariants.{Started, Whole}
use Rattle.file_messages.specs.declared.assembly.Step.TheVariants.{Grown as MoreBytes, Dropped as GivenUp}
use Rattle.file_messages.specs.declared.assembly.Step.TheVariants.{Odd as OutOfPlace}
use Rattle.folders.specs.Placing.{Placing, Names, Part, Missing, Given, IsDurable}
use Rattle.file_collector.specs.Names.{IsChosen, AreTaken, IsFault, IsShowing}
use Rattle.file_collector.specs.Parts.{IsDevice}
use Rattle.file_collector.specs.declared.gathering.Gatherer.{Gatherer}
use Rattle.file_collector.specs.declared.values.Placed.{Placed}
use Rattle.file_collector.specs.declared.values.Placed.TheVariants.{Begun, Grown, Shown, Dropped, Odd}
use Rattle.file_collector.specs.declared.values.PlaceFault.{PlaceFault}
use Rattle.file_collector.specs.declared.values.PlaceFault.TheVariants.{Device, NameTaken}

-- the part has the bytes of the file that has begun, whatever crash comes
abbrev pub HoldsPart : {D : Type 0} → Meaning D → Option D → State → Type 0
HoldsPart m part Between = Unit {0}
HoldsPart m None (Inside name size bytes) = ⊥
HoldsPart m (Some disk) (Inside name size bytes) = Settled m disk × (m.tells → m.reading disk ≡ bytes)

-- whatever crash comes, the part begins with the bytes of the file that has begun
abbrev pub BeginsPart : {D : Type 0} → Meaning D → Option D → State → Type 0
BeginsPart m part Between = Unit {0}
BeginsPart m None (Inside name size bytes) = ⊥
BeginsPart m (Some disk) (Inside name size bytes) = m.tells_images → (part : List ℕ) → m.images disk part
    → take (length bytes) part ≡ bytes

-- between two files no part is held
abbrev pub IsClear : {D : Type 0} → Option D → State → Type 0
IsClear part Between = part ≡ None
IsClear part (Inside name size bytes) = Unit {0}

-- where a file has begun, its part is given
abbrev pub IsGivenFor : State → Part → Type 0
IsGivenFor Between part = Unit {0}
IsGivenFor (Inside name size bytes) part = part ≡ Given

-- the part that is held in a state: none between two files
abbrev pub part_in : {D : Type 0} → State → Option D → Option D
part_in Between part = None
part_in (Inside name size bytes) part = part

-- the folder and the part are so far
pub record HasCome {I D : Type 0} (mi : Placing I) (md : Meaning D) (g : Gatherer I D) (state : State) : Type 0 where
  pub part : HoldsPart md g.part state
  pub given : mi.tells → IsGivenFor state (mi.part g.inbox)
  pub durable : IsDurable mi g.inbox

-- a file that has begun has a lawful name and size, and no more bytes
abbrev pub IsWellBegun : State → Type 0
IsWellBegun Between = Unit {0}
IsWellBegun (Inside name size bytes) = IsFileName name × (size < 2 ^ 48) × (length bytes ≤ size)

-- a gatherer is ready for a message, after those that led to this state
pub record IsGathering {I D : Type 0} (mi : Placing I) (md : Meaning D) (g : Gatherer I D) (state : State) : Type 0
  where
    pub assembly : StandsFor g.assembly state
    pub come : HasCome mi md g state
    pub clear : IsClear g.part state
    pub begun : IsWellBegun state

-- the part that a crash leaves
abbrev pub part_left : Names → List ℕ → Option (List ℕ)
part_left names bytes = if names.has_part then Some bytes else None

-- a part has the bytes that the file has so far, and behind them maybe others
abbrev pub PartStands : State → Option (List ℕ) → Type 0
PartStands Between part = Unit {0}
PartStands (Inside name size bytes) None = ⊥
PartStands (Inside name size bytes) (Some part) = take (length bytes) part ≡ bytes

-- What a crash inside of a call may leave of the bytes of the part. Where no part was given before, these may be any.
abbrev pub MayLeavePart : {D : Type 0} → Meaning D → Option D → Option D → List ℕ → Type 0
MayLeavePart m (Some old) (Some new) bytes = m.since new (m.moment old) bytes
MayLeavePart m (Some old) None bytes = m.images old bytes
MayLeavePart m None new bytes = Unit {0}

-- a crash inside of a call leaves these names and these bytes of the part
pub record CrashesIn {I D : Type 0} (mi : Placing I) (md : Meaning D) (old new : Gatherer I D) (names : Names)
    (bytes : List ℕ) : Type 0 where
  pub of_folder : mi.since new.inbox (mi.moment old.inbox) names
  pub of_part : MayLeavePart md old.part new.part bytes

-- the names and the part that the files before a message leave
pub record IsAsBefore {I : Type 0} (m : Placing I) (old : I) (state : State) (names : Names) (bytes : List ℕ) : Type 0
  where
    pub shown : names.shown ≡ m.shown old
    pub part : PartStands state (part_left names bytes)

-- the file that a message gives is shown
pub record IsShown {I : Type 0} (m : Placing I) (old : I) (number : ℕ) (message : List ℕ) (state : State)
    (names : Names) : Type 0 where
  pub file : File
  pub gives : given state (message_of message) ≡ file ∷ []
  pub showing : IsShowing m old file.name number file.bytes names

-- What is answered to a message: what it came to, and of which file.
abbrev pub IsAnswer : State → Step → Placed → Type 0
IsAnswer state step Begun = step ≡ Started
IsAnswer state step Grown = step ≡ MoreBytes
IsAnswer (Inside name size bytes) step (Shown shown) =
    (step ≡ Whole) × (shown.size ≡ length bytes) × (shown.digest ≡ sha256 bytes)
IsAnswer (Inside name size bytes) step (Dropped lost) = (step ≡ GivenUp lost.cause) × (lost.name ≡ name)
IsAnswer Between step (Shown shown) = ⊥
IsAnswer Between step (Dropped lost) = ⊥
IsAnswer state step Odd = step ≡ OutOfPlace

-- the file that is told as shown is shown beside those that were; else these are as they were
abbrev pub ShowsFile : {I : Type 0} → Placing I → I → I → ℕ → State → Placed → Type 0
ShowsFile m old new number (Inside name size bytes) (Shown shown) = IsChosen (m.free old) name number shown.name.bytes
    × (m.shown new ≡ m.shown old ++ record { name = shown.name.bytes; bytes = bytes } ∷ [])
ShowsFile m old new number state placed = m.shown new ≡ m.shown old

-- a call of the part failed, and its count is told
abbrev pub PartFailed : {D : Type 0} → Meaning D → Option D → Option D → ℕ → Type 0
PartFailed m (Some old) (Some new) faults = IsDevice m old new faults
PartFailed m old new faults = ⊥

-- why a message was not placed: a call of the folder or of the part failed, or both names of the file are taken
abbrev pub IsWhyNot : {I D : Type 0} → Placing I → Meaning D → ℕ → State → Gatherer I D → Gatherer I D → PlaceFault
    → Type 0
IsWhyNot mi md number state old new (Device faults) =
    IsFault mi old.inbox new.inbox (Device faults) ⊎ PartFailed md old.part new.part faults
IsWhyNot mi md number (Inside name size bytes) old new NameTaken = mi.tells → AreTaken (mi.free old.inbox) name number
IsWhyNot mi md number Between old new NameTaken = ⊥

-- A message is placed, with its folder and its part, or a call fails. A crash at any moment leaves the files and the
-- part from before it, or the file that it gives shown.
pub record Places {I D : Type 0} (mi : Placing I) (md : Meaning D) (number : ℕ) (message : List ℕ) (state : State)
    (old new : Gatherer I D) (result : Result Placed PlaceFault) : Type 0 where
  pub come : OnOk result (HasCome mi md new (after state (message_of message)))
  -- where the message gives no file, the part serves for the state before it as well
  pub still : OnOk result (given state (message_of message) ≡ [] → BeginsPart md new.part state
      × (mi.tells → IsGivenFor state (mi.part new.inbox)))
  pub gone : OnOk result ((file : File) → given state (message_of message) ≡ file ∷ [] → mi.tells
      → mi.part new.inbox ≡ Missing)
  pub answer : IfOk result (λ placed. IsAnswer state (answer state (message_of message)) placed)
  pub shown : IfOk result (λ placed. mi.tells → md.tells → ShowsFile mi old.inbox new.inbox number state placed)
  pub during : mi.tells_images → md.tells_images → (names : Names) (bytes : List ℕ)
      → CrashesIn mi md old new names bytes
      → IsAsBefore mi old.inbox state names bytes ⊎ IsShown mi old.inbox number message state names
  pub later : mi.count old.inbox ≤ mi.count new.inbox
  pub why_not : IfErr result (λ fault. IsWhyNot mi md number state old new fault)

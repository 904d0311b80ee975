-- What a collector finds when it opens.
use Rattle.std.specs.Prelude.{◌≡◌, ℕ, ◌≤◌, List, [], length, Option, None, Some}
use Rattle.disk_model.specs.Disk.{Meaning}
use Rattle.file_messages.specs.Files.{State, Inside}
use Rattle.file_messages.specs.Messages.{start_message}
use Rattle.file_messages.specs.Assemblies.{StandsFor}
use Rattle.file_messages.specs.declared.assembly.Assembly.{Assembly}
use Rattle.folders.specs.Placing.{Placing, Part, Missing, Lying, Given, Turns}
use Rattle.file_collector.specs.Gathering.{IsWellBegun, IsGathering}
use Rattle.file_collector.specs.Collecting.{HasRegister}
use Rattle.file_collector.specs.Registers.{IsKept, HasStart}
use Rattle.file_collector.specs.declared.opening.Found.{Found}

-- a file has begun, and has no bytes yet
pub record IsBegun (assembly : Assembly) : Type 0 where
  pub name : List ℕ
  pub size : ℕ
  pub stands : StandsFor assembly (Inside name size [])
  pub lawful : IsWellBegun (Inside name size [])

-- .. by this message
pub record IsBegunWith (assembly : Assembly) (message : List ℕ) : Type 0 where
  pub name : List ℕ
  pub size : ℕ
  pub stands : StandsFor assembly (Inside name size [])
  pub lawful : IsWellBegun (Inside name size [])
  pub spelled : message ≡ start_message name size

-- .. by the start that stands behind the register
pub record IsBegunBy (assembly : Assembly) (disk : List ℕ) : Type 0 where
  pub name : List ℕ
  pub size : ℕ
  pub stands : StandsFor assembly (Inside name size [])
  pub lawful : IsWellBegun (Inside name size [])
  pub start : HasStart (Inside name size []) disk

-- the bytes of the part are added to a file without bytes, where it is to have as many
pub record HasFed {D : Type 0} (m : Meaning D) (part : D) (count : ℕ) (old new : Assembly) : Type 0 where
  pub bytes : List ℕ
  pub number : length bytes ≡ count
  pub of_part : m.tells → m.reading part ≡ bytes
  pub fed : (name : List ℕ) (size : ℕ) → count ≤ size → StandsFor old (Inside name size [])
      → StandsFor new (Inside name size bytes)

-- the part that lies in a folder
abbrev pub lying_part : Part → Option (List ℕ)
lying_part Missing = None
lying_part (Lying bytes) = Some bytes
lying_part Given = None

-- the folder and the part are ready for a message, after those that led to a state
pub record IsFound {I D : Type 0} (mi : Placing I) (md : Meaning D) (inbox : I) (found : Found D) (state : State) : Type
    0 where
  pub gathering : IsGathering mi md (record { inbox = inbox; part = found.part; assembly = found.assembly }) state
  pub register : HasRegister md found.register

-- .. and the register stands for them; this file is lost, or none
pub record IsFoundWith {I D : Type 0} (mi : Placing I) (md : Meaning D) (inbox : I) (found : Found D) (count : ℕ)
    (state : State) (file : Option (List ℕ)) : Type 0 where
  pub gathering : IsGathering mi md (record { inbox = inbox; part = found.part; assembly = found.assembly }) state
  pub kept : IsKept md found.register count state
  pub lost : found.lost ≡ file

-- .. no file is lost
abbrev pub IsFoundAt : {I D : Type 0} → Placing I → Meaning D → I → Found D → ℕ → State → Type 0
IsFoundAt mi md inbox found count state = IsFoundWith mi md inbox found count state None

-- what looking for the part leaves of an inbox: the files that are shown, also after a crash; the count of faults
-- does not fall
pub record KeepsShown {I : Type 0} (m : Placing I) (old new : I) : Type 0 where
  pub shown : m.shown new ≡ m.shown old
  pub turns : Turns m (λ names. ⊥) old new
  pub later : m.count old ≤ m.count new

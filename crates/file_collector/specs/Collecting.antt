-- What a collector has taken, and what crashes leave of it.
use Rattle.std.specs.Prelude.{◌≡◌, ◌⊎◌, ℕ, ◌+◌, ◌^◌, ◌<◌, ◌≤◌, ◌==◌, true, false, if◌then◌else◌, List, [], ◌∷◌, ◌++◌}
use Rattle.std.specs.Prelude.{length, map, take, slice_index_or, Option}
use Rattle.disk_model.specs.Disk.{Meaning, Settled}
use Rattle.stable_buffer.specs.Register.{IsReady, register_disk}
use Rattle.stable_buffer.specs.declared.register.Register.{Register}
use Rattle.file_messages.specs.Files.{File, State, Between, given, state_after, files}
use Rattle.file_messages.specs.Messages.{message_of}
use Rattle.file_messages.specs.Assemblies.{StandsFor}
use Rattle.folders.specs.Placing.{Placing, Names, Missing}
use Rattle.file_collector.specs.Registers.{RegisterStands, IsKept, register_size}
use Rattle.file_collector.specs.Gathering.{HasCome, IsGathering, IsGivenFor, IsWellBegun, BeginsPart, PartStands}
use Rattle.file_collector.specs.Gathering.{CrashesIn, part_left}
use Rattle.file_collector.specs.declared.collector.Collector.{Collector}

-- what stands before the first tilde
abbrev pub before_tilde : List ℕ → List ℕ
before_tilde [] = []
before_tilde (b ∷ bytes) = if b == 126 then [] else b ∷ before_tilde bytes

-- a file that is shown, with the name that it had when it was sent: no name of a file has a tilde, and a number behind
-- one stands in the name under which a file may be shown
abbrev pub own_file : File → File
own_file shown = record { name = before_tilde shown.name; bytes = shown.bytes }

-- the files that are shown, in order
abbrev pub published : List File → List File
published shown = map own_file shown

-- the folder and the part stand for these messages
pub record IsHere (messages : List (List ℕ)) (names : Names) (part : Option (List ℕ)) : Type 0 where
  pub are_shown : published names.shown ≡ files messages
  pub has_bytes : PartStands (state_after Between messages) part

-- The folder is ahead of a count: the message after it gives a file, which is shown, and there is no part.
pub record IsAhead (count : ℕ) (messages : List (List ℕ)) (names : Names) : Type 0 where
  pub more : count < length messages
  pub file : File
  pub gives : given (state_after Between (take count messages)) (message_of (slice_index_or messages count []))
      ≡ file ∷ []
  pub are_shown : published names.shown ≡ files (take (count + 1) messages)
  pub gone : names.has_part ≡ false

-- A register, a folder and a part fit messages: the register stands for the first so many, and the others for as
-- many, or for one more that gives a file.
pub record Fits (messages : List (List ℕ)) (register : List ℕ) (names : Names) (part : Option (List ℕ)) : Type 0 where
  pub count : ℕ
  pub within : count ≤ length messages
  pub stands : RegisterStands count (state_after Between (take count messages)) register
  pub either : IsHere (take count messages) names part ⊎ IsAhead count messages names

-- a collector has taken these messages, and is ready for the next one
pub record HasTaken {I D : Type 0} (mi : Placing I) (md : Meaning D) (c : Collector I D) (messages : List (List ℕ))
    : Type 0 where
  pub is_open : c.is_open ≡ true
  pub counted : c.is_placed ≡ false
  pub gathering : IsGathering mi md c.gatherer (state_after Between messages)
  pub kept : IsKept md c.register (length messages) (state_after Between messages)
  pub shown : mi.tells → md.tells → published (mi.shown c.gatherer.inbox) ≡ files messages

-- it has placed one message more, which is not counted yet
pub record HasPlaced {I D : Type 0} (mi : Placing I) (md : Meaning D) (c : Collector I D) (messages : List (List ℕ))
    (message : List ℕ) : Type 0 where
  pub is_open : c.is_open ≡ true
  pub placed : c.is_placed ≡ true
  pub assembly : StandsFor c.gatherer.assembly (state_after Between (messages ++ message ∷ []))
  pub come : HasCome mi md c.gatherer (state_after Between (messages ++ message ∷ []))
  pub begun : IsWellBegun (state_after Between (messages ++ message ∷ []))
  pub still : given (state_after Between messages) (message_of message) ≡ []
      → BeginsPart md c.gatherer.part (state_after Between messages)
      × (mi.tells → IsGivenFor (state_after Between messages) (mi.part c.gatherer.inbox))
  pub gone : (file : File) → given (state_after Between messages) (message_of message) ≡ file ∷ []
      → mi.tells → mi.part c.gatherer.inbox ≡ Missing
  pub kept : IsKept md c.register (length messages) (state_after Between messages)
  pub shown : mi.tells → md.tells → published (mi.shown c.gatherer.inbox) ≡ files (messages ++ message ∷ [])

-- the register is open and durable, its disk has the size of one, and it counts no more messages than there are numbers
pub record HasRegister {D : Type 0} (m : Meaning D) (register : Register D) : Type 0 where
  pub ready : IsReady m register
  pub settled : Settled m (register_disk register)
  pub size : m.tells → length (m.reading (register_disk register)) ≡ register_size
  pub count : register.first ≤ 2 ^ 48

-- A collector may place a message, whatever messages led to its state.
pub record IsCollecting {I D : Type 0} (mi : Placing I) (md : Meaning D) (c : Collector I D) : Type 0 where
  pub is_open : c.is_open ≡ true
  pub counted : c.is_placed ≡ false
  pub state : State
  pub gathering : IsGathering mi md c.gatherer state
  pub register : HasRegister md c.register

-- it has placed a message, and may count it
pub record IsCounting {I D : Type 0} (mi : Placing I) (md : Meaning D) (c : Collector I D) : Type 0 where
  pub is_open : c.is_open ≡ true
  pub placed : c.is_placed ≡ true
  pub state : State
  pub assembly : StandsFor c.gatherer.assembly state
  pub come : HasCome mi md c.gatherer state
  pub begun : IsWellBegun state
  pub register : HasRegister md c.register

-- how many messages are counted
abbrev pub taken_count : {I D : Type 0} → Collector I D → ℕ
taken_count c = c.register.first

-- a crash inside of a call leaves these bytes of the register, these names and these bytes of the part
pub record MayLeave {I D : Type 0} (mi : Placing I) (md : Meaning D) (old new : Collector I D) (register : List ℕ)
    (names : Names) (bytes : List ℕ) : Type 0 where
  pub of_register : md.since (register_disk new.register) (md.moment (register_disk old.register)) register
  pub of_gatherer : CrashesIn mi md old.gatherer new.gatherer names bytes

-- whatever a crash inside of a call leaves fits these messages
abbrev pub AlwaysFits : {I D : Type 0} → Placing I → Meaning D → List (List ℕ) → Collector I D → Collector I D → Type 0
AlwaysFits mi md messages old new = mi.tells_images → md.tells_images
    → (register : List ℕ) (names : Names) (bytes : List ℕ)
    → MayLeave mi md old new register names bytes → Fits messages register names (part_left names bytes)

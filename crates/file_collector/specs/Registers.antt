-- What the disk of a collector's register stands for, and how it turns.
use Rattle.std.specs.Prelude.{◌≡◌, ◌⊎◌, ℕ, suc, ◌+◌, List, [], ◌∷◌, length, take, drop, replicate}
use Rattle.disk_model.specs.Disk.{Meaning, Settled}
use Rattle.stable_buffer.specs.Register.{IsReady, register_disk, register_value, value_of}
use Rattle.stable_buffer.specs.Stands.{spelled}
use Rattle.stable_buffer.specs.declared.register.Register.{Register}
use Rattle.file_messages.specs.Files.{State, Between, Inside}
use Rattle.file_messages.specs.Messages.{start_message}

-- the first bytes: the mark N P D 1, the role C, the version, and zeros
abbrev pub header : List ℕ
header = 78 ∷ 80 ∷ 68 ∷ 49 ∷ 67 ∷ 1 ∷ replicate 26 0

-- the bytes of such a disk: behind the register there is room for the longest start of a file
abbrev pub register_size : ℕ
register_size = 220

-- the second number of the register: nothing between two files, or one more than the bytes that a file has
abbrev pub held : State → ℕ
held Between = 0
held (Inside name size bytes) = suc (length bytes)

-- the start of the file that has begun stands behind the register
abbrev pub HasStart : State → List ℕ → Type 0
HasStart Between disk = Unit {0}
HasStart (Inside name size bytes) disk =
    take (2 + length (start_message name size)) (drop 80 disk) ≡ spelled (start_message name size)

-- a disk stands for so many messages, and the state that they lead to
pub record RegisterStands (count : ℕ) (state : State) (disk : List ℕ) : Type 0 where
  pub size : length disk ≡ register_size
  pub header : take 32 disk ≡ header
  pub value : value_of disk ≡ (count, held state)
  pub start : HasStart state disk

-- Where one message may lead to from a state: to between, to a file without bytes, or to the same file with some.
abbrev pub Follows : State → State → Type 0
Follows state Between = Unit {0}
Follows Between (Inside name size bytes) = bytes ≡ []
Follows (Inside name size bytes) (Inside name' size' bytes') = (name' ≡ name) × (size' ≡ size)

-- what stood for a count and a state stands for them still
pub record StandsOn (old new : List ℕ) : Type 0 where
  pub same : (count : ℕ) (state : State) → RegisterStands count state old → RegisterStands count state new

-- it stands for them still, or for one message more, which led to a next state
pub record MayTurn (next : State) (old new : List ℕ) : Type 0 where
  pub either : (count : ℕ) (state : State) → RegisterStands count state old → Follows state next
      → RegisterStands count state new ⊎ RegisterStands (count + 1) next new

-- it stands for one message more
pub record Turns (next : State) (old new : List ℕ) : Type 0 where
  pub more : (count : ℕ) (state : State) → RegisterStands count state old → Follows state next
      → RegisterStands (count + 1) next new

-- it stands for the same count, and for the same state or for between two files
pub record MayLeaveFile (old new : List ℕ) : Type 0 where
  pub either : (count : ℕ) (state : State) → RegisterStands count state old
      → RegisterStands count state new ⊎ RegisterStands count Between new

-- the register is open and durable, and its disk stands for these
pub record IsKept {D : Type 0} (m : Meaning D) (register : Register D) (count : ℕ) (state : State) : Type 0 where
  pub ready : IsReady m register
  pub value : register_value register ≡ (count, held state)
  pub settled : Settled m (register_disk register)
  pub stands : m.tells → RegisterStands count state (m.reading (register_disk register))

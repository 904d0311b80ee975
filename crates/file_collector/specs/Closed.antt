-- Why a collector does not open, and what a crash inside of an opening leaves.
use Rattle.std.specs.Prelude.{◌≡◌, ◌⊎◌, ℕ, ◌+◌, ◌-◌, ◌^◌, ◌<◌, ◌≤◌, List, [], length, take, Option, None, Some}
use Rattle.std.specs.Prelude.{IfSome}
use Rattle.pump_frame.specs.Counts.{Rose}
use Rattle.disk_model.specs.Disk.{Meaning, Moves, Same, Settled, Leaves}
use Rattle.stable_buffer.specs.Register.{register_disk}
use Rattle.stable_buffer.specs.declared.register.Register.{Register}
use Rattle.file_messages.specs.Files.{State, Between, Inside, state_after}
use Rattle.folders.specs.Placing.{Placing, Part, is_there, first_of}
use Rattle.file_collector.specs.Gathering.{IsWellBegun, PartStands}
use Rattle.file_collector.specs.Collecting.{Fits}
use Rattle.file_collector.specs.Opening.{lying_part}
use Rattle.file_collector.specs.Reopening.{OpensOn}
use Rattle.file_collector.specs.Making.{IsRegister, IsUnmade, IsOther, IsMadeOf, MayBeMade}
use Rattle.file_collector.specs.Parts.{IsDevice}
use Rattle.file_collector.specs.Registers.{RegisterStands, HasStart}
use Rattle.file_collector.specs.declared.values.CollectFault.{CollectFault}
use Rattle.file_collector.specs.declared.values.CollectFault.TheVariants.{Folder, Register as OfRegister, Other}
use Rattle.file_collector.specs.declared.values.CollectFault.TheVariants.{Damaged}

-- ---- what a register's disk holds ----

-- How far messages go: each has a number below 2^48. So no more are counted, and fewer where a file has begun, since it
-- is to end.
abbrev pub MayBeCounted : ℕ → State → Type 0
MayBeCounted count Between = count ≤ 2 ^ 48
MayBeCounted count (Inside name size bytes) = (count < 2 ^ 48) × IsWellBegun (Inside name size bytes)

-- a disk stands for a count and a state to which messages may lead
pub record IsSound (disk : List ℕ) : Type 0 where
  pub count : ℕ
  pub state : State
  pub may : MayBeCounted count state
  pub stands : RegisterStands count state disk

-- it is a collector's, and stands for none
pub record IsDamaged (disk : List ℕ) : Type 0 where
  pub register : IsRegister disk
  pub unsound : IsSound disk → ⊥

-- it is sound, or was not made to its end
abbrev pub IsOwn : List ℕ → Type 0
IsOwn disk = IsSound disk ⊎ IsUnmade disk

-- no start of a file stands behind the register
abbrev pub HasNoStart : List ℕ → Type 0
HasNoStart disk = (name : List ℕ) (size : ℕ) → IsWellBegun (Inside name size []) → HasStart (Inside name size []) disk
    → ⊥

-- ---- what an opening makes of it ----

-- The part has fewer bytes than were counted, or is missing. So the file was shown already where all had come, and is
-- counted; and where not it is lost, and the count stays.
abbrev pub IsPassed : Part → ℕ → State → List ℕ → Type 0
IsPassed part count Between disk = ⊥
IsPassed part count (Inside name size bytes) disk = (first_of (length bytes) part ≡ None)
    × (((length bytes ≡ size) × RegisterStands (count + 1) Between disk)
    ⊎ ((length bytes ≡ size → ⊥) × RegisterStands count Between disk))

-- It stands for the file that had begun, or was passed on as the part tells; what is damaged stays.
pub record MayPass (told : Type 0) (part : Part) (old new : List ℕ) : Type 0 where
  pub either : told → (count : ℕ) (state : State) → IsWellBegun state → RegisterStands count state old
      → RegisterStands count state new ⊎ IsPassed part count state new
  pub damaged : IsDamaged old → new ≡ old

-- What a crash at any moment leaves: what stood for a count and a state stands for them, or was passed on; what was not
-- made to its end is not yet, or counts nothing; and what is another's or damaged stays.
pub record MayOpen (told : Type 0) (part : Part) (old new : List ℕ) : Type 0 where
  pub either : told → (count : ℕ) (state : State) → IsWellBegun state → RegisterStands count state old
      → RegisterStands count state new ⊎ IsPassed part count state new
  pub unmade : told → IsUnmade old → IsUnmade new ⊎ RegisterStands 0 Between new
  pub foreign : IsOther old ⊎ IsDamaged old → new ≡ old

-- it stands for the same, or for one more between two files where all bytes had come, or else for as many between two
pub record MaySkip (whole : Type 0) (old new : List ℕ) : Type 0 where
  pub either : (count : ℕ) (state : State) → RegisterStands count state old → RegisterStands count state new
      ⊎ ((whole × RegisterStands (count + 1) Between new) ⊎ ((whole → ⊥) × RegisterStands count Between new))

-- ---- one call, or some, of a register's disk ----

-- a call of the disk failed, and its count is told
abbrev pub IsCallFault : {D : Type 0} → Meaning D → D → D → CollectFault → Type 0
IsCallFault m old new (OfRegister faults) = IsDevice m old new faults
IsCallFault m old new fault = ⊥

-- .. or the disk is another's, and stays as it is
abbrev pub IsMakeFault : {D : Type 0} → Meaning D → D → D → CollectFault → Type 0
IsMakeFault m old new (OfRegister faults) = IsDevice m old new faults
IsMakeFault m old new Other = (m.tells → IsOther (m.reading old)) × Moves m Same old new
IsMakeFault m old new fault = ⊥

-- a call failed, or there is no start of a file
abbrev pub IsStartFault : {D : Type 0} → Meaning D → D → D → CollectFault → Type 0
IsStartFault m old new (OfRegister faults) = IsDevice m old new faults
IsStartFault m old new Damaged = m.tells → HasNoStart (m.reading old)
IsStartFault m old new fault = ⊥

-- ---- calls of a disk that was given, and that is gone ----

-- A call of it failed, and the count after that call is told. A crash at any moment until then left of it what may be.
pub record HasFailed {D : Type 0} (m : Meaning D) (may : List ℕ → List ℕ → Type 0) (given : D) (faults : ℕ) : Type 0
  where
    pub left : D
    pub device : IsDevice m given left faults
    pub moves : Moves m may given left

-- why no register was opened on it
abbrev pub IsRegisterFault : {D : Type 0} → Meaning D → D → CollectFault → Type 0
IsRegisterFault m given (Folder faults) = ⊥
IsRegisterFault m given (OfRegister faults) = HasFailed m MayBeMade given faults
IsRegisterFault m given Other = m.tells → IsOther (m.reading given)
IsRegisterFault m given Damaged = m.tells → IsDamaged (m.reading given)

-- why a register was not turned
abbrev pub IsTurnFault : {D : Type 0} → Meaning D → (List ℕ → List ℕ → Type 0) → D → CollectFault → Type 0
IsTurnFault m may given (OfRegister faults) = HasFailed m may given faults
IsTurnFault m may given fault = ⊥

-- A register was opened on a disk that was given: on what it read, or on a new one.
pub record IsOpenedOn {D : Type 0} (m : Meaning D) (given : D) (register : Register D) : Type 0 where
  pub later : m.count given ≤ m.count (register_disk register)
  pub made : m.tells → IsMadeOf (m.reading given) (m.reading (register_disk register))
  pub moves : Moves m MayBeMade given (register_disk register)

-- ---- calls of an inbox, and of the disks that it gave ----

-- a register was opened on the disk that an inbox gave
pub record IsTaken {I D : Type 0} (mi : Placing I) (md : Meaning D) (inbox : I) (register : Register D) : Type 0 where
  pub given : D
  pub reads : mi.tells → mi.register inbox ≡ Some (md.reading given)
  pub settled : Settled md given
  pub opened : IsOpenedOn md given register

-- a part has the bytes that were counted, if the old one has them
abbrev pub KeepsBytes : State → Option (List ℕ) → Option (List ℕ) → Type 0
KeepsBytes state old new = PartStands state old → PartStands state new

-- the state to which the counted ones of messages lead
abbrev pub counted_state : {I : Type 0} → {m : Placing I} → {inbox : I} → {messages : List (List ℕ)}
    → OpensOn m inbox messages → State
counted_state {messages = messages} on = state_after Between (take on.fits.count messages)

-- An inbox gave its register's disk, of which this is left; what it gave is known by what it read. Whatever a crash at
-- any moment between leaves of it fits the messages that the folder fitted, with the names of the folder and with any
-- part that has the counted bytes.
pub record GaveRegister {I D : Type 0} (mi : Placing I) (md : Meaning D) (inbox : I) (left : D) : Type 0 where
  pub given : D
  pub reads : mi.tells → mi.register inbox ≡ Some (md.reading given)
  pub settled : Settled md given
  pub moves : Moves md (MayOpen mi.tells (mi.part inbox)) given left
  pub fits : mi.tells → md.tells → (messages : List (List ℕ)) → (on : OpensOn mi inbox messages)
      → Leaves md given left (λ register. (part : Option (List ℕ))
      → KeepsBytes (counted_state on) (lying_part (mi.part inbox)) part
      → Fits messages register (record { shown = mi.shown inbox; has_part = is_there (mi.part inbox) }) part)

-- An inbox gave the first bytes of its part, and this disk of them is left. Whatever a crash at any moment between
-- leaves of it has the bytes that were counted.
pub record GavePart {I D : Type 0} (mi : Placing I) (md : Meaning D) (inbox : I) (left : D) : Type 0 where
  pub given : D
  pub count : ℕ
  pub reads : mi.tells → first_of count (mi.part inbox) ≡ Some (md.reading given)
  pub settled : Settled md given
  pub moves : Moves md Same given left
  pub fits : mi.tells → md.tells → (messages : List (List ℕ)) → (on : OpensOn mi inbox messages)
      → Leaves md given left (λ bytes. PartStands (counted_state on) (Some bytes))

-- .. just so many bytes, which the register tells
pub record LyingTaken {I D : Type 0} (mi : Placing I) (md : Meaning D) (inbox : I) (count : ℕ) (left : D) : Type 0 where
  pub given : D
  pub reads : mi.tells → first_of count (mi.part inbox) ≡ Some (md.reading given)
  pub settled : Settled md given
  pub moves : Moves md Same given left

-- a call of the inbox failed, and its count is told
abbrev pub InboxFailed : {I : Type 0} → Placing I → I → I → ℕ → Type 0
InboxFailed m old new faults = (faults ≡ m.count new) × Rose (m.count old) (m.count new)

-- the inbox gave its part, or the first bytes of it, and a call of that failed
pub record LyingFailed {I D : Type 0} (mi : Placing I) (md : Meaning D) (old : I) (faults : ℕ) : Type 0 where
  pub left : D
  pub gave : GavePart mi md old left
  pub device : IsDevice md gave.given left faults

-- .. just so many bytes, which the register tells
pub record TakenFailed {I D : Type 0} (mi : Placing I) (md : Meaning D) (old : I) (count faults : ℕ) : Type 0 where
  pub left : D
  pub taken : LyingTaken mi md old count left
  pub device : IsDevice md taken.given left faults

-- a call of the folder or of its part failed
abbrev pub FolderFailed : {I D : Type 0} → Placing I → Meaning D → I → I → ℕ → Type 0
FolderFailed mi md old new faults = InboxFailed mi old new faults ⊎ LyingFailed mi md old faults

-- it gave the register's disk, and a call of that failed
pub record RegisterFailed {I D : Type 0} (mi : Placing I) (md : Meaning D) (old : I) (faults : ℕ) : Type 0 where
  pub left : D
  pub gave : GaveRegister mi md old left
  pub device : IsDevice md gave.given left faults

-- the register's disk reads bytes that have P
pub record RegisterReads {I : Type 0} (m : Placing I) (inbox : I) (P : List ℕ → Type 0) : Type 0 where
  pub bytes : List ℕ
  pub reads : m.register inbox ≡ Some bytes
  pub holds : P bytes

-- What a collector that opened has of the register's disk and of the part, which its inbox gave.
pub record IsLeftOf {I D : Type 0} (mi : Placing I) (md : Meaning D) (inbox : I) (register : D) (part : Option D)
    : Type 0 where
  pub of_register : GaveRegister mi md inbox register
  pub of_part : IfSome part (λ disk. GavePart mi md inbox disk)

-- why a part was not taken up: only a call of the folder or of the part
abbrev pub IsResumeFault : {I D : Type 0} → Placing I → Meaning D → I → I → ℕ → CollectFault → Type 0
IsResumeFault mi md old new count (Folder faults) = InboxFailed mi old new faults ⊎ TakenFailed mi md old count faults
IsResumeFault mi md old new count fault = ⊥

-- why no file was found in a folder with a register, which tells that one has begun
abbrev pub IsFindFault : {I D : Type 0} → Placing I → Meaning D → I → I → Register D → CollectFault → Type 0
IsFindFault mi md old new register (Folder faults) =
    InboxFailed mi old new faults ⊎ TakenFailed mi md old (register.second - 1) faults
IsFindFault mi md old new register (OfRegister faults) =
    HasFailed md (MayPass mi.tells (mi.part old)) (register_disk register) faults
IsFindFault mi md old new register Other = ⊥
IsFindFault mi md old new register Damaged = md.tells → IsSound (md.reading (register_disk register)) → ⊥

-- Why a collector did not open: a call of the folder, of the part or of the register's disk failed; or that disk reads
-- what is another's, or damaged.
abbrev pub IsWhyClosed : {I D : Type 0} → Placing I → Meaning D → I → I → CollectFault → Type 0
IsWhyClosed mi md old new (Folder faults) = FolderFailed mi md old new faults
IsWhyClosed mi md old new (OfRegister faults) = RegisterFailed mi md old faults
IsWhyClosed mi md old new Other = mi.tells → md.tells → RegisterReads mi old IsOther
IsWhyClosed mi md old new Damaged = mi.tells → md.tells → RegisterReads mi old IsDamaged

-- a call of the folder, of the part or of the register's disk failed
abbrev pub CallFailed : {I D : Type 0} → Placing I → Meaning D → I → I → CollectFault → Type 0
CallFailed mi md old new (Folder faults) = FolderFailed mi md old new faults
CallFailed mi md old new (OfRegister faults) = RegisterFailed mi md old faults
CallFailed mi md old new fault = ⊥

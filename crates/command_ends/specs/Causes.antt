-- By which cause a command over a session of the table comes to its end, and what its status says of that.
use Rattle.std.specs.Prelude.{◌≡◌, ℕ}
use Rattle.disk_model.specs.declared.name.Role.{Role}
use Rattle.command_ends.specs.declared.command_end.CommandEnd.{CommandEnd}
use Rattle.command_ends.specs.declared.command_end.CommandEnd.TheVariants.{Memory, Unread, Unwritten, Failed}
use Rattle.command_ends.specs.declared.command_end.CommandEnd.TheVariants.{Unconnected, Wrapped, FileDiffers, TooLong}
use Rattle.command_ends.specs.declared.command_end.CommandEnd.TheVariants.{NotWrapped, PartOfFile, Folder, NameTaken}
use Rattle.command_ends.specs.declared.command_end.CommandEnd.TheVariants.{Marks, Register, Step}

-- what is so where memory was wanting, a read failed, the output did, this disk did, or a port gave nothing
pub record Causes : Type 1 where
  pub memory : Type 0
  pub read : Type 0
  pub unwritten : Type 0
  pub device : Role → Type 0
  pub link : Type 0

-- an end comes only by its cause, and none that a file or a folder alone has
abbrev pub IsCaused : Causes → CommandEnd → Type 0
IsCaused c Memory = c.memory
IsCaused c Unread = c.read
IsCaused c Unwritten = c.unwritten
IsCaused c (Failed role) = c.device role
IsCaused c Unconnected = c.link
IsCaused c (Wrapped bytes messages) = ⊥
IsCaused c (FileDiffers number) = ⊥
IsCaused c TooLong = ⊥
IsCaused c (NotWrapped number) = ⊥
IsCaused c PartOfFile = ⊥
IsCaused c Folder = ⊥
IsCaused c (NameTaken number) = ⊥
IsCaused c Marks = ⊥
IsCaused c Register = ⊥
IsCaused c (Step start accepted) = ⊥
IsCaused c end = Unit {0}

-- .. where files go from folder to folder: those that a folder alone has name no cause
abbrev pub IsTransferCaused : Causes → CommandEnd → Type 0
IsTransferCaused c TooLong = Unit {0}
IsTransferCaused c Folder = Unit {0}
IsTransferCaused c (NameTaken number) = Unit {0}
IsTransferCaused c Marks = Unit {0}
IsTransferCaused c Register = Unit {0}
IsTransferCaused c (Step start accepted) = Unit {0}
IsTransferCaused c end = IsCaused c end

-- .. and so a status, where `Words` is so if the words are no such command
pub record HasStatusCause (c : Causes) (Words : Type 0) (status : ℕ) : Type 0 where
  pub memory : status ≡ 1 → c.memory
  pub words : status ≡ 2 → Words
  pub read : status ≡ 3 → c.read
  pub unwritten : status ≡ 4 → c.unwritten
  pub device : status ≡ 7 → (role : Role) × c.device role
  pub link : status ≡ 9 → c.link

-- ---- of a command over the disks of a session, or over their files ----

-- An end is one of these, and comes only by its cause: a disk that failed, a read, or a write.
pub record HasEndCause (Ends : CommandEnd → Type 0) (Device : Role → Type 0) (Read Write : Type 0) (end : CommandEnd) :
    Type 0 where
  pub only : Ends end
  pub device : (role : Role) → end ≡ Failed role → Device role
  pub read : end ≡ Unread → Read
  pub unwritten : end ≡ Unwritten → Write

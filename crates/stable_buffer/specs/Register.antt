-- A register of two numbers on bytes 32 to 79 of a disk: a selector, and two cells of which it selects one.
use Rattle.std.specs.Prelude.{◌≡◌, ◌⊎◌, ℕ, ◌+◌, ◌-◌, ◌*◌, ◌%◌, ◌≤◌, Bool, true, List, length, take, drop, slice_index}
use Rattle.std.specs.Prelude.{Result, Ok, Err}
use Rattle.stable_buffer.specs.Numbers.{number_at}
use Rattle.disk_model.specs.Disk.{Meaning, Each}
use Rattle.disk_model.specs.declared.disk.DiskFault.{DiskFault}
use Rattle.stable_buffer.specs.declared.register.Register.{Register}

-- the two numbers of a cell
abbrev pub cell_at : List ℕ → ℕ → ℕ × ℕ
cell_at disk at = (number_at disk at, number_at disk (at + 8))

-- where the cell of a parity stands
abbrev pub place_of : ℕ → ℕ
place_of parity = 48 + 16 * parity

-- the parity of the selector
abbrev pub selected : List ℕ → ℕ
selected disk = slice_index disk 32 % 2

-- what a disk's register holds: the numbers of the selected cell
abbrev pub value_of : List ℕ → ℕ × ℕ
value_of disk = cell_at disk (place_of (selected disk))

-- the same outside of the register
pub record SameOutside (old new : List ℕ) : Type 0 where
  pub prefix : take 32 new ≡ take 32 old
  pub rest : drop 80 new ≡ drop 80 old
  pub size : length new ≡ length old

-- the rest and the value stay
pub record KeepsValue (old new : List ℕ) : Type 0 where
  pub outside : SameOutside old new
  pub value : value_of new ≡ value_of old

-- the rest stays, and the value stays or is this
pub record MayTurnTo (next : ℕ × ℕ) (old new : List ℕ) : Type 0 where
  pub outside : SameOutside old new
  pub value : (value_of new ≡ value_of old) ⊎ (value_of new ≡ next)

-- the selected cell is that of a parity, and holds these numbers
pub record Selects (parity first second : ℕ) (disk : List ℕ) : Type 0 where
  pub size : 80 ≤ length disk
  pub selector : selected disk ≡ parity
  pub cell : cell_at disk (place_of parity) ≡ (first, second)

-- the cell that isn't selected holds these numbers
abbrev pub HoldsNext : ℕ → ℕ → ℕ → List ℕ → Type 0
HoldsNext parity first second disk = cell_at disk (place_of (1 - parity)) ≡ (first, second)

-- the register is open and knows what the disk holds, whatever a crash leaves of it
pub record IsReady {D : Type 0} (m : Meaning D) (register : Register D) : Type 0 where
  pub is_open : register.is_open ≡ true
  pub parity : register.parity ≤ 1
  pub each : Each m (Selects register.parity register.first register.second) register.disk

-- such a register, and the cell that isn't selected holds what was staged
pub record IsStaged {D : Type 0} (m : Meaning D) (register : Register D) : Type 0 where
  pub ready : IsReady m register
  pub next : Each m (HoldsNext register.parity register.next_first register.next_second) register.disk

-- the disk under a register
abbrev pub register_disk : {D : Type 0} → Register D → D
register_disk register = register.disk

-- the register with another disk under it
abbrev pub with_disk : {D : Type 0} → Register D → D → Register D
with_disk register disk = record register { disk = disk }

-- the two numbers that a register knows of
abbrev pub register_value : {D : Type 0} → Register D → ℕ × ℕ
register_value register = (register.first, register.second)

-- the two numbers that were staged last
abbrev pub staged_value : {D : Type 0} → Register D → ℕ × ℕ
staged_value register = (register.next_first, register.next_second)

-- no call of the register has failed
abbrev pub register_is_open : {D : Type 0} → Register D → Bool
register_is_open register = register.is_open

-- where the cell that isn't selected ends
abbrev pub staging_end : {D : Type 0} → Register D → ℕ
staging_end register = place_of (1 - register.parity) + 16

-- the disk that an opening hands on
abbrev pub disk_of : {D : Type 0} → Result (Register D) (D × DiskFault) → D
disk_of (Ok register) = register.disk
disk_of (Err refused) = refused.0

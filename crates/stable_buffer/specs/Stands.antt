-- What the disks of a session stand for.
use Rattle.std.specs.Prelude.{◌≡◌, ◌⊎◌, ℕ, ◌+◌, ◌*◌, ◌%◌, ◌<◌, ◌≤◌, ◌==◌, ◌&&◌, ◌||◌, nat_le, Bool, true, List, [], ◌∷◌}
use Rattle.std.specs.Prelude.{◌++◌, length, take, drop, slice_index_or}
use Rattle.byteorder.specs.Endian.{big_bytes}
use Rattle.pump_frame.specs.declared.row.SessionRow.{SessionRow}
use Rattle.stable_buffer.specs.Register.{value_of}

-- the version of a new disk
abbrev pub newest_version : ℕ
newest_version = 2

-- the greatest capacity of a disk of version 1
abbrev pub first_version_capacity : ℕ
first_version_capacity = 64

-- a row's disk may have this version: the newest, or 1 where that reaches its capacity
abbrev pub is_version : SessionRow → ℕ → Bool
is_version row version = version == newest_version || (version == 1 && nat_le row.capacity first_version_capacity)

-- the first bytes of a disk: the mark, the role and the version, and the row's three numbers
pub record HasHeader (row : SessionRow) (role : ℕ) (prefix : List ℕ) : Type 0 where
  pub version : ℕ
  pub known : is_version row version ≡ true
  pub mark : take 6 prefix ≡ 78 ∷ 80 ∷ 68 ∷ 49 ∷ role ∷ version ∷ []
  pub numbers : take 12 (drop 8 prefix) ≡ big_bytes 4 row.id ++ big_bytes 4 row.capacity ++ big_bytes 4 row.message

-- a message as it stands on a disk: its length in two bytes, and its bytes
abbrev pub spelled : List ℕ → List ℕ
spelled message = big_bytes 2 (length message) ++ message

-- where message n stands
abbrev pub slot_of : SessionRow → ℕ → ℕ
slot_of row n = 80 + (n % row.capacity) * (2 + row.message)

-- where a message with this number and these bytes ends
abbrev pub slot_end : SessionRow → ℕ → List ℕ → ℕ
slot_end row n message = slot_of row n + 2 + length message

abbrev pub low_size : SessionRow → ℕ
low_size row = 80 + row.capacity * (2 + row.message)

-- a message stands in its slot
pub record InSlot (row : SessionRow) (n : ℕ) (message disk : List ℕ) : Type 0 where
  pub fits : length message ≤ row.message
  pub bytes : take (2 + length message) (drop (slot_of row n) disk) ≡ spelled message

-- a low disk stands for the count E and the messages from b to E - 1
pub record LowStands (row : SessionRow) (E b : ℕ) (messages : List (List ℕ)) (disk : List ℕ) : Type 0 where
  pub header : HasHeader row 76 (take 32 disk)
  pub size : length disk ≡ low_size row
  pub value : value_of disk ≡ (E, 0)
  pub kept : E ≤ b + row.capacity
  pub count : b + length messages ≡ E
  pub slots : (i : ℕ) → i < length messages → InSlot row (b + i) (slice_index_or messages i []) disk

-- what stood for a count and messages that leave a slot free stands for them still
pub record CellStandsOn (row : SessionRow) (old new : List ℕ) : Type 0 where
  pub same : (E b : ℕ) (messages : List (List ℕ)) → E + 1 ≤ b + row.capacity → LowStands row E b messages old
      → LowStands row E b messages new

-- it stands for them still, or for one message more
pub record MayGain (row : SessionRow) (message : List ℕ) (old new : List ℕ) : Type 0 where
  pub either : (E b : ℕ) (messages : List (List ℕ)) → E + 1 ≤ b + row.capacity → LowStands row E b messages old
      → LowStands row E b messages new ⊎ LowStands row (E + 1) b (messages ++ message ∷ []) new

-- it stands for one message more
pub record Gains (row : SessionRow) (message : List ℕ) (old new : List ℕ) : Type 0 where
  pub more : (E b : ℕ) (messages : List (List ℕ)) → E + 1 ≤ b + row.capacity → LowStands row E b messages old
      → LowStands row (E + 1) b (messages ++ message ∷ []) new

-- it stands for this count and these messages, or for one message more
abbrev pub StandsOrGains : SessionRow → ℕ → ℕ → List (List ℕ) → List ℕ → List ℕ → Type 0
StandsOrGains row E b messages message disk = LowStands row E b messages disk
    ⊎ LowStands row (E + 1) b (messages ++ message ∷ []) disk

-- a high disk stands for the count B
pub record HighStands (row : SessionRow) (B : ℕ) (disk : List ℕ) : Type 0 where
  pub header : HasHeader row 72 (take 32 disk)
  pub size : length disk ≡ 80
  pub value : value_of disk ≡ (B, 0)

-- what stood for a count stands for it still, or for one more
pub record MayRemove (old new : List ℕ) : Type 0 where
  pub either : (row : SessionRow) (B : ℕ) → HighStands row B old → HighStands row B new ⊎ HighStands row (B + 1) new

-- it stands for one more
pub record Removes (old new : List ℕ) : Type 0 where
  pub more : (row : SessionRow) (B : ℕ) → HighStands row B old → HighStands row (B + 1) new

-- it stands for this count, or for one more
abbrev pub StandsOrRemoves : SessionRow → ℕ → List ℕ → Type 0
StandsOrRemoves row B disk = HighStands row B disk ⊎ HighStands row (B + 1) disk

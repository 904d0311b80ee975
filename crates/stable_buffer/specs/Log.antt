-- What a receiver's disk stands for.
use Rattle.std.specs.Prelude.{◌≡◌, ℕ, zero, suc, ◌+◌, ◌-◌, ◌≤◌, ◌==◌, ◌&&◌, nat_le, Bool, List, [], ◌∷◌, length, take}
use Rattle.std.specs.Prelude.{drop}
use Rattle.pump_frame.specs.declared.row.SessionRow.{SessionRow}
use Rattle.stable_buffer.specs.Numbers.{length_at}
use Rattle.stable_buffer.specs.Register.{value_of}
use Rattle.stable_buffer.specs.Stands.{HasHeader}

-- records of these messages, of at most `most` bytes each, fill the bytes exactly
abbrev pub Records : ℕ → List (List ℕ) → List ℕ → Type 0
Records most [] bytes = length bytes ≡ 0
Records most (m ∷ ms) bytes =
    (2 + length m ≤ length bytes) × (length_at bytes 0 ≡ length m) × (length m ≤ most)
    × (take (length m) (drop 2 bytes) ≡ m)
    × Records most ms (drop (2 + length m) bytes)

-- some n records fill the bytes exactly
abbrev pub is_log : ℕ → ℕ → List ℕ → Bool
is_log most zero bytes = length bytes == 0
is_log most (suc n) bytes =
    nat_le (2 + length_at bytes 0) (length bytes) && nat_le (length_at bytes 0) most && is_log most n
    (drop (2 + length_at bytes 0) bytes)

-- the bytes from 80 to an end
abbrev pub log_of : ℕ → List ℕ → List ℕ
log_of end disk = take (end - 80) (drop 80 disk)

-- a receiver's disk stands for its messages
pub record RecvStands (row : SessionRow) (messages : List (List ℕ)) (disk : List ℕ) : Type 0 where
  pub header : HasHeader row 82 (take 32 disk)
  pub end : ℕ
  pub from : 80 ≤ end
  pub within : end ≤ length disk
  pub value : value_of disk ≡ (length messages, end)
  pub records : Records row.message messages (log_of end disk)

-- A new disk that is no buffer until it is whole: its mark comes last.
use Rattle.std.specs.Prelude.{◌≡◌, ℕ, ◌≤◌, List, [], ◌∷◌, ◌++◌, length, take, drop}
use Rattle.disk_model.specs.Disk.{Meaning}

-- the bytes N P D 1
abbrev pub mark_bytes : List ℕ
mark_bytes = 78 ∷ 80 ∷ 68 ∷ 49 ∷ []

-- a disk with the mark in place of its first four bytes
abbrev pub marked : List ℕ → List ℕ
marked disk = mark_bytes ++ drop 4 disk

-- no mark is there yet
abbrev pub HasZeros : List ℕ → Type 0
HasZeros disk = take 4 disk ≡ 0 ∷ 0 ∷ 0 ∷ 0 ∷ []

-- It is no buffer, having fewer than 80 bytes or another mark; or it has this.
abbrev pub IsNoneOr : (List ℕ → Type 0) → List ℕ → Type 0
IsNoneOr P disk = 80 ≤ length disk → take 4 disk ≡ mark_bytes → P disk

-- it is no buffer
abbrev pub IsNone : List ℕ → Type 0
IsNone disk = IsNoneOr (λ d. ⊥) disk

-- the first so many bytes stay
pub record KeepsFirst (n : ℕ) (old new : List ℕ) : Type 0 where
  pub same : take n new ≡ take n old

-- a crash at a moment from this one on left what has P
abbrev pub LeavesFrom : {D : Type 0} → Meaning D → ℕ → (List ℕ → Type 0) → D → Type 0
LeavesFrom m moment P d = m.tells_images → (c : List ℕ) → m.since d moment c → P c

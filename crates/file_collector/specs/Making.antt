-- The disk of a new register.
use Rattle.std.specs.Prelude.{◌≡◌, ◌⊎◌, ℕ, ◌<◌, List, [], ◌∷◌, ◌++◌, length, take, drop, replicate}
use Rattle.disk_model.specs.Disk.{Torn}
use Rattle.file_collector.specs.Registers.{header, register_size}

-- the header, and zeros: no message is counted
abbrev pub new_register : List ℕ
new_register = header ++ replicate 188 0

-- a disk of the right size begins with the header
pub record IsRegister (disk : List ℕ) : Type 0 where
  pub size : length disk ≡ register_size
  pub begins : take 32 disk ≡ header

-- it has no mark, or behind another mark it is a new one
abbrev pub IsUnmarked : List ℕ → Type 0
IsUnmarked disk = (take 4 disk ≡ 0 ∷ 0 ∷ 0 ∷ 0 ∷ [])
    ⊎ ((take 32 disk ≡ header → ⊥) × (drop 4 disk ≡ drop 4 new_register))

-- one that was not made to its end has too few bytes, or no mark
abbrev pub IsUnmade : List ℕ → Type 0
IsUnmade disk = (length disk < register_size) ⊎ ((length disk ≡ register_size) × IsUnmarked disk)

-- what is made of it: it stays as it is, or where it was not made to its end it is a new one
abbrev pub IsMadeOf : List ℕ → List ℕ → Type 0
IsMadeOf old new = (IsRegister old × (new ≡ old)) ⊎ (IsUnmade old × (new ≡ new_register))

-- What a crash inside of the making leaves of a disk: what a crash before it would; or where it was not made to its end
-- such a one again, or a new one. So a register that counts is kept.
abbrev pub MayBeMade : List ℕ → List ℕ → Type 0
MayBeMade old image = (image ≡ old) ⊎ (IsUnmade old × (IsUnmade image ⊎ (image ≡ new_register)))

-- what a crash leaves of a mark that is cleared: the mark, or any bytes in its place, where it was not clear already
abbrev pub MayClear : List ℕ → List ℕ → Type 0
MayClear old new = (new ≡ old) ⊎ ((take 4 old ≡ 0 ∷ 0 ∷ 0 ∷ 0 ∷ [] → ⊥) × Torn 0 4 old new)

-- another's is too long, or neither begins with the header nor was left without its mark
abbrev pub IsOther : List ℕ → Type 0
IsOther disk = (register_size < length disk)
    ⊎ ((length disk ≡ register_size) × (take 32 disk ≡ header → ⊥) × (IsUnmarked disk → ⊥))

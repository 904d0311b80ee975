-- What a name is.
use Rattle.std.specs.Prelude.{ℕ, ◌<◌, ◌≤◌, ◌==◌, ◌&&◌, ◌||◌, nat_le, Bool, List, length, IsTrue}
use Rattle.std.specs.List.{list_all}

-- a to z, 0 to 9 and the dash
abbrev pub is_name_byte : ℕ → Bool
is_name_byte b = (nat_le 97 b && nat_le b 122) || (nat_le 48 b && nat_le b 57) || (b == 45)

-- 1 to 32 of these bytes
pub record IsName (bytes : List ℕ) : Type 0 where
  pub some : 0 < length bytes
  pub short : length bytes ≤ 32
  pub plain : IsTrue (list_all is_name_byte bytes)

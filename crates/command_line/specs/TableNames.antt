-- What the name of a table is.
use Rattle.std.specs.Prelude.{ℕ, nat_le, ◌==◌, ◌&&◌, ◌||◌, Bool, false, List, [], ◌∷◌, length}
use Rattle.std.specs.List.{list_all}

-- 0 to 9, A to Z, a to z
abbrev pub is_alphanumeric : ℕ → Bool
is_alphanumeric b = (nat_le 48 b && nat_le b 57) || ((nat_le 65 b && nat_le b 90) || (nat_le 97 b && nat_le b 122))

-- those, the dot, the underscore and the dash
abbrev pub is_table_byte : ℕ → Bool
is_table_byte b = is_alphanumeric b || ((b == 46) || ((b == 95) || (b == 45)))

abbrev pub begins_plainly : List ℕ → Bool
begins_plainly [] = false
begins_plainly (b ∷ bytes) = is_alphanumeric b

-- the name of a table: 1 to 64 of these bytes, the first a letter or a digit
abbrev pub is_table_name : List ℕ → Bool
is_table_name name = nat_le (length name) 64 && (begins_plainly name && list_all is_table_byte name)

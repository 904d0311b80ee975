-- What the name of a file is, that goes from folder to folder.
use Rattle.std.specs.Prelude.{ℕ, ◌-◌, nat_le, ◌==◌, ◌&&◌, ◌||◌, Bool, false, not, List, [], ◌∷◌, length, slice_index}
use Rattle.std.specs.Prelude.{IsTrue}
use Rattle.std.specs.List.{list_all}

-- 0 to 9, A to Z, a to z
abbrev pub is_alphanumeric : ℕ → Bool
is_alphanumeric b = (nat_le 48 b && nat_le b 57) || ((nat_le 65 b && nat_le b 90) || (nat_le 97 b && nat_le b 122))

-- + , - and .
abbrev pub is_middle_mark : ℕ → Bool
is_middle_mark b = nat_le 43 b && nat_le b 46

-- space % ( ) = @ _
abbrev pub is_other_mark : ℕ → Bool
is_other_mark b = (b == 32) || ((b == 37) || ((b == 40) || ((b == 41) || ((b == 61) || ((b == 64) || (b == 95))))))

-- letters, digits, the space and . _ - + , = @ % ( )
abbrev pub is_name_byte : ℕ → Bool
is_name_byte b = is_alphanumeric b || (is_middle_mark b || is_other_mark b)

-- the first byte is a letter or a digit
abbrev pub begins_plainly : List ℕ → Bool
begins_plainly [] = false
begins_plainly (b ∷ bytes) = is_alphanumeric b

-- the last byte is neither a space nor a dot
abbrev pub ends_plainly : List ℕ → Bool
ends_plainly name = not ((slice_index name (length name - 1) == 32) || (slice_index name (length name - 1) == 46))

-- the name of a file: 1 to 128 of these bytes, with such a first and such a last one
unfoldable pub is_file_name : List ℕ → Bool
is_file_name name =
    nat_le (length name) 128 && (begins_plainly name && (ends_plainly name && list_all is_name_byte name))

abbrev pub IsFileName : List ℕ → Type 0
IsFileName name = IsTrue (is_file_name name)

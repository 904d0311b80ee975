-- Fields in hexadecimal digits of lower case.
use Rattle.std.specs.Prelude.{ℕ, List, [], ◌∷◌, codes}
use Rattle.std.specs.Int.{to_be_bytes, w32}
use Rattle.hex.specs.Hex.{encode_lower}

-- a word in eight digits
abbrev pub word_field : ℕ → List ℕ
word_field word = encode_lower (to_be_bytes w32 word)

-- two digits for each byte, or a dash for none
abbrev pub hex_field : List ℕ → List ℕ
hex_field [] = codes "-"
hex_field (byte ∷ bytes) = encode_lower (byte ∷ bytes)

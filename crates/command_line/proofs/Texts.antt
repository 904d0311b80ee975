-- The texts of words.
use Rattle.std.proofs.Common.{◌≡◌, ℕ, ◌-◌, ◌≤◌, List, [], ◌∷◌, map, length, get_or, take, drop, String, Global, string_bytes, ap, arith}
use Rattle.std.proofs.Common.{true, zero, suc, ◌<◌, lit<}
use Rattle.std.proofs.lemmas.Bool.Decides.{nat_tests}
use Rattle.std.proofs.lemmas.Str.{IsUtf8-from_ascii}
use Rattle.std.specs.Str.{IsAscii, IsUtf8}
use Rattle.std.proofs.lemmas.Bool.{and_parts, leb-true}
use Rattle.std.specs.List.{list_all}
use Rattle.command_line.specs.TableNames.{is_table_name, is_table_byte}
use Rattle.std.proofs.lemmas.List.{take_rest}

-- the first word, and those after it
pub first_word : (ws : List (String Global)) (x : String Global) (t : List ℕ) → 1 ≤ length ws → x ≡ get_or ws 0 x → string_bytes x ≡ t → map string_bytes ws ≡ t ∷ map string_bytes (take (length ws - 1) (drop 1 ws))
first_word [] x t some head e = absurd (omega arith)
first_word (w ∷ ws) x t some head e =
    let same : string_bytes w ≡ t = rw (← head) e in
    rw take_rest (ap (λ h. h ∷ map string_bytes ws) same)

pub short_name : (name : List ℕ) → is_table_name name ≡ true → length name ≤ 64
short_name name h = leb-true _ _ (and_parts _ _ h).0

small_byte : (b : ℕ) → is_table_byte b ≡ true → b < 128
small_byte b h = grind (arith, nat_tests)

ascii : (bytes : List ℕ) → list_all is_table_byte bytes ≡ true → IsAscii bytes
ascii [] h i = lit< tt
ascii (b ∷ bytes) h zero = small_byte b (and_parts _ _ h).0
ascii (b ∷ bytes) h (suc i) = ascii bytes (and_parts _ _ h).1 i

-- the name of a table is text
pub utf8_name : (name : List ℕ) → is_table_name name ≡ true → IsUtf8 name
utf8_name name h = IsUtf8-from_ascii name (ascii name (and_parts _ _ (and_parts _ _ h).1).1)

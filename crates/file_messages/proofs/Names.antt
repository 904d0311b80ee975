-- The name of a file is text, and has few bytes.
use Rattle.std.proofs.Common.{◌≡◌, ℕ, ◌≤◌, List, [], ◌∷◌, length, true, false, zero, suc, ◌<◌, lit<, nat_le, ◌&&◌, refl}
use Rattle.std.proofs.lemmas.Bool.Decides.{nat_tests}
use Rattle.std.proofs.lemmas.Str.{IsUtf8-from_ascii}
use Rattle.std.specs.Str.{IsAscii, IsUtf8}
use Rattle.std.proofs.lemmas.Bool.{and_parts, leb-true}
use Rattle.std.specs.List.{list_all}
use Rattle.std.proofs.Common.{arith}
use Rattle.file_messages.specs.FileNames.{is_file_name, is_name_byte, begins_plainly, ends_plainly, IsFileName}

pub short_name : (name : List ℕ) → IsFileName name → length name ≤ 128
unfolding is_file_name
short_name name h = leb-true _ _ (and_parts _ _ h).0

small_byte : (b : ℕ) → is_name_byte b ≡ true → b < 128
small_byte b h = grind (arith, nat_tests)

ascii : (bytes : List ℕ) → list_all is_name_byte bytes ≡ true → IsAscii bytes
ascii [] h i = lit< tt
ascii (b ∷ bytes) h zero = small_byte b (and_parts _ _ h).0
ascii (b ∷ bytes) h (suc i) = ascii bytes (and_parts _ _ h).1 i

-- the name of a file is text
pub utf8_name : (name : List ℕ) → IsFileName name → IsUtf8 name
unfolding is_file_name
utf8_name name h =
    let first = and_parts (nat_le (length name) 128) (begins_plainly name && (ends_plainly name && list_all is_name_byte name)) h in
    let second = and_parts (begins_plainly name) (ends_plainly name && list_all is_name_byte name) first.1 in
    IsUtf8-from_ascii name (ascii name (and_parts (ends_plainly name) (list_all is_name_byte name) second.1).1)

-- no name has no bytes
pub no_name : is_file_name [] ≡ false
unfolding is_file_name
no_name = refl

-- No name of a file has a tilde, so a tilde tells where a number stands behind a name.
use Rattle.std.proofs.Common.{◌≡◌, ℕ, ◌^◌, ◌<◌, ◌==◌, ◌&&◌, Bool, true, false, nat_le, List, [], ◌∷◌, ◌++◌, length, decimal, refl, ap, ◌∙◌, arith}
use Rattle.std.proofs.lemmas.Bool.{and_parts, both_ways}
use Rattle.std.proofs.lemmas.Fmt.{decimal_injective}
use Rattle.std.proofs.lemmas.List.Elements.{All-weaker}
use Rattle.std.proofs.lemmas.List.Sums.{AllPass-from_list_all}
use Rattle.std.specs.List.{list_all}
use Rattle.file_messages.specs.FileNames.{IsFileName, is_file_name, is_name_byte, begins_plainly, ends_plainly}
use Rattle.folders.specs.ShownNames.{IsNumbered, numbered}
use Rattle.folders.proofs.Dashes.{other_than}
use Rattle.folders.proofs.One.{Lacks, fields_one}

name_bytes : (name : List ℕ) → IsFileName name → list_all is_name_byte name ≡ true
unfolding is_file_name
name_bytes name h =
    let first = and_parts (nat_le (length name) 128) (begins_plainly name && (ends_plainly name && list_all is_name_byte name)) h in
    let second = and_parts (begins_plainly name) (ends_plainly name && list_all is_name_byte name) first.1 in
    (and_parts (ends_plainly name) (list_all is_name_byte name) second.1).1

no_tilde : (name : List ℕ) → IsFileName name → Lacks 126 name
no_tilde name h =
    All-weaker (λ x. is_name_byte x ≡ true) (λ x. (x == 126) ≡ false) (other_than 126 is_name_byte refl) name
    (AllPass-from_list_all is_name_byte name (name_bytes name h))

pub numbered_one : (name another : List ℕ) (number other : ℕ) → IsFileName name → IsFileName another → number < 2 ^ 48 → other < 2 ^ 48
    → numbered name number ≡ numbered another other → (name ≡ another) × (number ≡ other)
numbered_one name another number other is_name is_another low below e =
    let parts = fields_one 126 name another (decimal number) (decimal other) (no_tilde name is_name) (no_tilde another is_another) e in
    (parts.0, decimal_injective number other (omega arith) (omega arith) parts.1)

none_passes : (b : Bool) → (b && false) ≡ false
none_passes true = refl
none_passes false = refl

tilde_in : (prefix back : List ℕ) → list_all is_name_byte (prefix ++ 126 ∷ back) ≡ false
tilde_in [] back = refl
tilde_in (b ∷ prefix) back = rw (tilde_in prefix back) (none_passes (is_name_byte b))

pub numbered_no_name : (name : List ℕ) → IsNumbered name → IsFileName name → ⊥
numbered_no_name name (prefix, number, is_name, low, shape) h =
    both_ways (list_all is_name_byte name) (ap (list_all is_name_byte) shape ∙ tilde_in prefix (decimal number)) (name_bytes name h)

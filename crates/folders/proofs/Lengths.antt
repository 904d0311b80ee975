-- How long the names of files in their folders are.
use Rattle.std.proofs.Common.{ℕ, ◌+◌, ◌^◌, ◌<◌, ◌≤◌, List, [], ◌∷◌, length, decimal, arith, inl, inr, ap}
use Rattle.std.proofs.lemmas.List.{length-append}
use Rattle.std.proofs.lemmas.Fmt.{length-decimal-le}
use Rattle.hex.specs.Hex.{encode_lower, lower_digits}
use Rattle.hex.proofs.HexLemmas.{length-encode_with}
use Rattle.file_messages.proofs.Names.{short_name}
use Rattle.folders.specs.ShownNames.{IsShownName}
use Rattle.folders.specs.Marks.{HasNumbers, HasDigest, IsMark, dashed, stage_fields, hidden_name}
use Rattle.folders.specs.declared.mark.Mark.{Mark}
use Rattle.folders.specs.declared.mark.Stage.{Stage}
use Rattle.folders.specs.declared.mark.Stage.TheVariants.{Fresh, Sending, Stopped}

field_then : (field : List ℕ) (fields : List (List ℕ)) (name : List ℕ) (n m : ℕ) → length field ≤ n → length (dashed fields name) ≤ m
    → length (dashed (field ∷ fields) name) ≤ n + 1 + m
field_then field fields name n m short rest = omega (arith, length-append field (45 ∷ dashed fields name))

stage_length : (stage : Stage) (name : List ℕ) → HasNumbers stage → HasDigest stage → length name ≤ 128
    → length (dashed (stage_fields stage) name) ≤ 232
stage_length Fresh name numbers digest short = omega arith
stage_length (Sending start message size bytes) name numbers digest short =
    let last = field_then (encode_lower bytes) [] name 64 128 (omega (arith, length-encode_with lower_digits bytes, digest.0)) short in
    let third = field_then (decimal size) (encode_lower bytes ∷ []) name 15 193 (length-decimal-le 15 size (omega arith) (omega (arith, numbers.2)) (omega (arith, numbers.2))) last in
    let second = field_then (decimal message) (decimal size ∷ encode_lower bytes ∷ []) name 4 209 (length-decimal-le 4 message (omega arith) (omega (arith, numbers.1)) (omega (arith, numbers.1))) third in
    let first = field_then (decimal start) (decimal message ∷ decimal size ∷ encode_lower bytes ∷ []) name 15 214 (length-decimal-le 15 start (omega arith) (omega (arith, numbers.0)) (omega (arith, numbers.0))) second in
    omega (arith, first)
stage_length (Stopped start) name numbers digest short =
    let only = field_then (decimal start) [] name 15 128 (length-decimal-le 15 start (omega arith) (omega (arith, numbers)) (omega (arith, numbers))) short in
    omega (arith, only)

pub hidden_length : (session : ℕ) (mark : Mark) → session < 2 ^ 32 → IsMark mark → length (hidden_name session mark) ≤ 247
hidden_length session mark fits is =
    let rest = stage_length mark.stage mark.name is.numbers is.digest (short_name mark.name is.name) in
    omega (arith, field_then (decimal session) (stage_fields mark.stage) mark.name 10 232 (length-decimal-le 10 session (omega arith) (omega arith) (omega arith)) rest)

pub shown_length : (name : List ℕ) → IsShownName name → length name ≤ 144
shown_length name (inl own) = omega (arith, short_name name own)
shown_length name (inr (prefix, number, is_name, low, shape)) =
    let digits = length-decimal-le 15 number (omega arith) (omega (arith, low)) (omega (arith, low)) in
    omega (arith, digits, short_name prefix is_name, ap length shape, length-append prefix (126 ∷ decimal number))

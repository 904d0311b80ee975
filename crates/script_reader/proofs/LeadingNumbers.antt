-- A number in front of the first space of a line.
use Rattle.std.proofs.Common.{length-take, ◌≡◌, ℕ, ◌+◌, ◌^◌, ◌<◌, ◌≤◌, true, false, ltb, List, [], ◌∷◌, Option, None, Some, length, get_or, take, drop, refl, sym, subst, arith}
use Rattle.std.proofs.lemmas.Bool.{lt-ltb, le-ltb, ne_eqb, eq-eqb}
use Rattle.std.proofs.lemmas.List.{get_or-take, take_all}
use Rattle.std.proofs.lemmas.List.Sums.{position_or_len_is}
use Rattle.std.proofs.lemmas.Option.{some_pair_parts}
use Rattle.std.proofs.lemmas.Str.Parse.{digit_at}
use Rattle.std.specs.List.{position, position_or_len, slice_split}
use Rattle.std.specs.Str.Parse.{AllDigits, digits_value}
use Rattle.script_reader.specs.Fields.{is_space}
use Rattle.script_reader.specs.Parsing.{Reads, field_at, with_rest, IsPlain, number}
use Rattle.script_reader.proofs.FieldLaws.{reads_field, number_takes, number_again, number_fewer, number_over, number_written, few_digits_whole, field_takes}
use Rattle.script_reader.proofs.Splits.{split_some, split_none}

get_or-take-lt : (xs : List ℕ) (i k : ℕ) → k < i → get_or (take i xs) k 0 ≡ get_or xs k 0
get_or-take-lt xs i k h = rw get_or-take refl

digit_is_free : (bytes : List ℕ) (count k : ℕ) → AllDigits 10 (take count bytes) → count ≤ length bytes → k < count → is_space (get_or bytes k 0) ≡ false
digit_is_free bytes count k all fits low =
    let range = digit_at (take count bytes) k all (omega (arith, low, fits, length-take count bytes)) in
    ne_eqb (get_or bytes k 0) 32 (λ e. absurd (omega (arith, range.0, e, get_or-take-lt bytes count k low)))

first_space : (bytes : List ℕ) (count : ℕ) → AllDigits 10 (take count bytes) → count ≤ length bytes → (count < length bytes → get_or bytes count 0 ≡ 32) → position_or_len is_space bytes ≡ count
first_space bytes count all fits here =
    position_or_len_is is_space bytes count 0 fits (λ k low. digit_is_free bytes count k all fits low) (λ low. eq-eqb (get_or bytes count 0) 32 (here low))

-- digits up to the end
pub no_space : (bytes : List ℕ) (count : ℕ) → AllDigits 10 (take count bytes) → count ≡ length bytes → None ≡ position is_space bytes
no_space bytes count all end =
    let at = first_space bytes count all (omega (arith, end)) (λ low. absurd (omega (arith, low, end))) in
    let test : ltb (position_or_len is_space bytes) (length bytes) ≡ false = le-ltb _ _ (omega (arith, at, end)) in
    rw test refl

-- digits up to a space
pub space_at : (bytes : List ℕ) (count : ℕ) → AllDigits 10 (take count bytes) → count < length bytes → get_or bytes count 0 ≡ 32 → Some count ≡ position is_space bytes
space_at bytes count all inside here =
    let at = first_space bytes count all (omega (arith, inside)) (λ low. here) in
    let test : ltb (position_or_len is_space bytes) (length bytes) ≡ true = lt-ltb _ _ (omega (arith, at, inside)) in
    rw (test, at) refl

pub reads_whole : (bytes : List ℕ) (count : ℕ) → IsPlain (take count bytes) → AllDigits 10 (take count bytes) → count ≤ 19 → count ≡ length bytes → Reads (Some (digits_value 10 (take count bytes))) [] (field_at (number (2 ^ 64)) (slice_split is_space bytes))
reads_whole bytes count plain all few end =
    let whole : take count bytes ≡ bytes = take_all count bytes (omega (arith, end)) in
    let fits = few_digits_whole (take count bytes) all (omega (arith, few, length-take count bytes)) in
    reads_field _ _ [] (number (2 ^ 64)) (take count bytes) (number_written (take count bytes) plain all fits) (rw whole (split_none bytes (sym (no_space bytes count all end))))

pub reads_to_space : (bytes : List ℕ) (count : ℕ) → IsPlain (take count bytes) → AllDigits 10 (take count bytes) → count ≤ 19 → count < length bytes → get_or bytes count 0 ≡ 32 → Reads (Some (digits_value 10 (take count bytes))) (slice_split is_space (drop (count + 1) bytes)) (field_at (number (2 ^ 64)) (slice_split is_space bytes))
reads_to_space bytes count plain all few inside here =
    let fits = few_digits_whole (take count bytes) all (omega (arith, few, length-take count bytes)) in
    reads_field _ _ _ (number (2 ^ 64)) (take count bytes) (number_written (take count bytes) plain all fits) (split_some bytes count (sym (space_at bytes count all inside here)))

-- what is read of the first field leaves the others
with_rest_same : {A : Type 0} (o : Option A) (x : A) (left new : List (List ℕ)) → with_rest o new ≡ Some (x, left) → with_rest o new ≡ Some (x, new)
with_rest_same None x left new e = cc
with_rest_same (Some y) x left new e = rw (some_pair_parts y x new left e).0 refl

pub reads_left : {A : Type 0} (read : List ℕ → Option A) (old : List (List ℕ)) (x : A) (left : List (List ℕ)) (field : List ℕ) (new : List (List ℕ)) → Reads (Some x) left (field_at read old) → old ≡ field ∷ new → Reads (Some x) new (field_at read old)
reads_left read old x left field new reads e = rw e (with_rest_same (read field) x left new (subst (λ (o : List (List ℕ)). field_at read o ≡ Some (x, left)) e reads))

-- a number that is below a bound, or not
pub reads_below : (bound n : ℕ) (old left : List (List ℕ)) → bound ≤ 2 ^ 64 → Reads (Some n) left (field_at (number (2 ^ 64)) old) → n < bound → Reads (Some n) left (field_at (number bound) old)
reads_below bound n old left fits reads below =
    let f = field_takes (number (2 ^ 64)) old (n, left) reads in
    let p = number_takes (2 ^ 64) f.0 n f.2 in
    reads_field (Some n) old left (number bound) f.0 (rw p.1 (sym (number_again bound n below fits))) f.1

pub reads_over : (bound n : ℕ) (old left new : List (List ℕ)) → bound ≤ 2 ^ 64 → Reads (Some n) left (field_at (number (2 ^ 64)) old) → bound ≤ n → Reads None new (field_at (number bound) old)
reads_over bound n old left new fits reads over =
    let f = field_takes (number (2 ^ 64)) old (n, left) reads in
    let p = number_takes (2 ^ 64) f.0 n f.2 in
    reads_field None old left (number bound) f.0 (number_over bound f.0 n fits p.1 p.0 over) f.1

with_rest_none : {A : Type 0} (o : Option A) (fields : List (List ℕ)) → with_rest o fields ≡ None → o ≡ None
with_rest_none None fields e = refl
with_rest_none (Some x) fields e = cc

pub reads_no_number : (bound : ℕ) (old left new : List (List ℕ)) → bound ≤ 2 ^ 64 → Reads None left (field_at (number (2 ^ 64)) old) → Reads None new (field_at (number bound) old)
reads_no_number bound [] left new fits none = refl
reads_no_number bound (field ∷ fields) left new fits none =
    reads_field None (field ∷ fields) fields (number bound) field (number_fewer bound field fits (with_rest_none (number (2 ^ 64) field) fields none)) refl

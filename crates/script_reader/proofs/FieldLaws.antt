-- What a reader of one field gives.
use Rattle.std.proofs.Common.{length-take, ◌≡◌, ℕ, ◌*◌, ◌/◌, ◌^◌, ◌<◌, ◌≤◌, ◌⊎◌, ◌&&◌, Bool, true, false, cond, ltb, leb, List, [], ◌∷◌, Option, None, Some, Result, Ok, Err, IsSome, IfSome, ◌↔◌, length, get_or, take, codes, decimal, refl, sym, ap, ◌∙◌, subst, arith, inl, inr}
use Rattle.std.proofs.lemmas.Bool.{cases_eq, false_from_ne_true, ltb-true, lt-ltb, leb-true, le-leb, and_parts}
use Rattle.std.proofs.lemmas.Option.{cond_some, same_Some, some_pair_parts}
use Rattle.std.proofs.lemmas.Slice.Eq.{bytes_eq-Decides}
use Rattle.std.proofs.lemmas.Str.Parse.{IsNumeralModel, digits_value_short, numerals_by_value, tells_digits, digit_at, digits_value-take-le}
use Rattle.std.proofs.lemmas.Fmt.{digits_decimal, digits_value-decimal, decimal-digits_value, decimal_nonempty, decimal_injective, first_decimal, decimal_digit}
use Rattle.std.proofs.lemmas.Nat.{be_bytes_4, from_be_bytes-to_be_bytes_4}
use Rattle.std.specs.Str.{bytes_eq}
use Rattle.std.specs.Str.Parse.{AllDigits, digits_value}
use Rattle.std.specs.Int.{from_be_bytes, to_be_bytes, w32, IsInRange}
use Rattle.arrayvec.specs.ArrayVec.{ArrayVec}
use Rattle.hex.specs.Hex.{decode_sized, decode_of}
use Rattle.hex.specs.declared.FromHexError.{FromHexError}
use Rattle.hex.proofs.HexLemmas.{decode_sized-ok, decode_sized-twice, decode_of-ok}
use Rattle.pump_frame.specs.Names.{IsName}
use Rattle.script_reader.specs.Grammar.{IsWord, IsHex, IsRaw}
use Rattle.script_reader.specs.Parsing.{Reads, field_at, with_rest, IsPlain, number, word, word_from, name, choice, hex, bytes_from, raw, held_from}

reads_rest : {A : Type 0} (r : Option A) (left : List (List ℕ)) → Reads r left (with_rest r left)
reads_rest None left = refl
reads_rest (Some x) left = refl

pub reads_field : {A : Type 0} (r : Option A) (old left : List (List ℕ)) (read : List ℕ → Option A) (field : List ℕ) → r ≡ read field → old ≡ field ∷ left → Reads r left (field_at read old)
reads_field r old left read field e f = rw (f, ← e) (reads_rest r left)

pub none_from : {A : Type 0} (o : Option A) → ((x : A) → o ≡ Some x → ⊥) → None ≡ o
none_from None h = refl
none_from (Some x) h = absurd (h x refl)

-- numbers
own : IsNumeralModel (AllDigits 10) (digits_value 10)
own = numerals_by_value _ tells_digits

pub number_takes : (bound : ℕ) (field : List ℕ) (n : ℕ) → number bound field ≡ Some n → (n < bound) × (field ≡ decimal n)
unfolding number
number_takes bound field n e =
    let p = cond_some _ _ n e in
    let q = and_parts _ _ p.0 in
    let below : digits_value 10 field < bound = ltb-true _ _ q.1 in
    let same : decimal (digits_value 10 field) ≡ field = (bytes_eq-Decides (decimal (digits_value 10 field)) field).0 q.0 in
    (rw (← p.1) below, sym same ∙ ap (λ m. decimal m) p.1)

pub number_again : (bound n : ℕ) → n < bound → bound ≤ 2 ^ 64 → number bound (decimal n) ≡ Some n
unfolding number
number_again bound n below fits =
    let value : digits_value 10 (decimal n) ≡ n = digits_value-decimal own n (omega arith) in
    rw (value, (bytes_eq-Decides (decimal n) (decimal n)).1 refl, lt-ltb n bound below) refl

pub number_not : (bound : ℕ) (field : List ℕ) → bound ≤ 2 ^ 64 → ((n : ℕ) → n < 2 ^ 64 → field ≡ decimal n → ⊥) → None ≡ number bound field
number_not bound field fits h = none_from (number bound field) (λ n e. let p = number_takes bound field n e in h n (omega (arith, p.0)) p.1)

plain_alone : (n : ℕ) → n < 2 ^ 64 → get_or (decimal n) 0 0 ≡ 48 → length (decimal n) ≡ 1
plain_alone n fits e =
    elim (cases_eq n 0) [
      | inl zero ↦ rw (zero, decimal_digit 0 (omega arith)) refl
      | inr more ↦ absurd (omega (arith, e, first_decimal n (omega arith) fits))
    ]

plain_decimal : (n : ℕ) → n < 2 ^ 64 → IsPlain (decimal n)
plain_decimal n fits =
    let some : 0 < length (decimal n) = decimal_nonempty n fits in
    let range = digit_at (decimal n) 0 (digits_decimal own n fits) some in
    record { low = range.0; high = range.1; alone = plain_alone n fits }

pub number_unplain : (bound : ℕ) (field : List ℕ) → bound ≤ 2 ^ 64 → (IsPlain field → ⊥) → None ≡ number bound field
number_unplain bound field fits h = number_not bound field fits (λ n low e. h (rw e (plain_decimal n low)))

-- a byte that is no digit
pub number_undigit : (field : List ℕ) (i : ℕ) → i < length field → (IsInRange 48 57 (get_or field i 0) → ⊥) → None ≡ number (2 ^ 64) field
number_undigit field i below no_digit = number_not (2 ^ 64) field (omega arith) (λ n low e.
    no_digit (digit_at field i (subst (λ (f : List ℕ). AllDigits 10 f) (sym e) (digits_decimal own n low)) below))

-- digits of too great a number
pub number_large : (field : List ℕ) (i : ℕ) → 2 ^ 64 ≤ digits_value 10 (take i field) → None ≡ number (2 ^ 64) field
number_large field i large = number_not (2 ^ 64) field (omega arith) (λ n low e.
    let value : digits_value 10 field ≡ n = ap (digits_value 10) e ∙ digits_value-decimal own n low in
    absurd (omega (arith, large, low, value, digits_value-take-le 10 field i (omega arith))))

some_byte : (field : List ℕ) → IsPlain field → 0 < length field
some_byte [] plain = absurd (omega (arith, plain.low))
some_byte (b ∷ field) plain = omega arith

-- digits that write a number
pub number_written : (field : List ℕ) → IsPlain field → AllDigits 10 field → digits_value 10 field < 2 ^ 64 → Some (digits_value 10 field) ≡ number (2 ^ 64) field
number_written field plain all fits =
    let text : decimal (digits_value 10 field) ≡ field = decimal-digits_value own field all (some_byte field plain) plain.alone fits in
    sym (subst (λ (f : List ℕ). number (2 ^ 64) f ≡ Some (digits_value 10 field)) text (number_again (2 ^ 64) (digits_value 10 field) fits (omega arith)))

pub number_over : (bound : ℕ) (field : List ℕ) (n : ℕ) → bound ≤ 2 ^ 64 → field ≡ decimal n → n < 2 ^ 64 → bound ≤ n → None ≡ number bound field
number_over bound field n fits e low over =
    none_from (number bound field) (λ m h.
    let p = number_takes bound field m h in
    let same : m ≡ n = decimal_injective m n (omega (arith, p.0)) low (sym p.1 ∙ e) in
    absurd (omega (arith, p.0, same)))

-- what is no number below 2^64 is none below a smaller bound
pub number_fewer : (bound : ℕ) (field : List ℕ) → bound ≤ 2 ^ 64 → number (2 ^ 64) field ≡ None → None ≡ number bound field
number_fewer bound field fits none =
    none_from (number bound field) (λ n h.
    let p = number_takes bound field n h in
    let again : number (2 ^ 64) field ≡ Some n = rw p.1 (number_again (2 ^ 64) n (omega (arith, p.0)) (omega arith)) in
    cc (sym none ∙ again))

-- so few digits are below 2^64, and so are ten times those before the last
pub few_digits : (field : List ℕ) (i : ℕ) → AllDigits 10 (take i field) → i ≤ 18 → digits_value 10 (take i field) < 10 ^ 18
few_digits field i all few = digits_value_short own (take i field) 18 all (omega (arith, few, length-take i field))

pub few_digits_whole : (field : List ℕ) → AllDigits 10 field → length field ≤ 19 → digits_value 10 field < 2 ^ 64
few_digits_whole field all few = omega (arith, digits_value_short own field 19 all few)

-- words
word_ok : (r : Result (List ℕ) FromHexError) (n : ℕ) → word_from r ≡ Some n → (bytes : List ℕ) × (r ≡ Ok bytes) × (n ≡ from_be_bytes w32 bytes)
word_ok (Ok bytes) n e = (bytes, refl, sym (same_Some _ _ e))
word_ok (Err x) n e = cc

pub word_takes : (field : List ℕ) (n : ℕ) → word field ≡ Some n → IsWord n field
unfolding word
word_takes field n e =
    let p = word_ok (decode_sized field 4) n e in
    let twice = decode_sized-ok field 4 p.0 p.1 in
    let decoded : decode_of field ≡ Ok p.0 = sym (decode_sized-twice field 4 twice) ∙ p.1 in
    let q = decode_of-ok field p.0 decoded in
    let four : length p.0 ≡ 4 = omega (arith, q.2, twice) in
    let fits : n < 2 ^ 32 = omega (arith, p.2, q.3 0, q.3 1, q.3 2, q.3 3) in
    (fits, decoded ∙ ap Ok (sym (be_bytes_4 p.0 n four q.3 p.2)))

pub word_again : (field : List ℕ) (n : ℕ) → IsWord n field → word field ≡ Some n
unfolding word
word_again field n h =
    let q = decode_of-ok field (to_be_bytes w32 n) h.1 in
    let decoded : decode_sized field 4 ≡ Ok (to_be_bytes w32 n) = decode_sized-twice field 4 q.2 ∙ h.1 in
    ap word_from decoded ∙ ap Some (from_be_bytes-to_be_bytes_4 n h.0)

chosen : {A : Type 0} (b : Bool) (x y : Option A) (z : A) → cond b x y ≡ Some z → ((b ≡ true) × (x ≡ Some z)) ⊎ ((b ≡ false) × (y ≡ Some z))
chosen true x y z e = inl (refl, e)
chosen false x y z e = inr (refl, e)

-- one of two words
pub choice_takes : (off on field : List ℕ) (b : Bool) → choice off on field ≡ Some b → field ≡ cond b on off
unfolding choice
choice_takes off on field b e =
    elim (chosen (bytes_eq field off) (Some false) _ b e) [
      | inl p ↦ subst (λ t. field ≡ cond t on off) (same_Some _ b p.1) ((bytes_eq-Decides field off).0 p.0)
      | inr p ↦ elim (chosen (bytes_eq field on) (Some true) None b p.1) [
        | inl q ↦ subst (λ t. field ≡ cond t on off) (same_Some _ b q.1) ((bytes_eq-Decides field on).0 q.0)
        | inr q ↦ cc
      ]
    ]

-- payloads
bytes_ok : (r : Result (List ℕ) FromHexError) (x : List ℕ) → bytes_from r ≡ Some x → r ≡ Ok x
bytes_ok (Ok bytes) x e = ap Ok (same_Some _ _ e)
bytes_ok (Err y) x e = cc

pub hex_takes : (field payload : List ℕ) → hex field ≡ Some payload → IsHex payload field
unfolding hex
hex_takes field payload e =
    elim (chosen (bytes_eq field (codes "-")) _ _ payload e) [
      | inl p ↦ inl ((bytes_eq-Decides field (codes "-")).0 p.0, sym (same_Some _ _ p.1))
      | inr p ↦ elim (chosen (ltb 0 (length field / 2) && leb (length field / 2) 1024) (bytes_from (decode_sized field (length field / 2))) None payload p.1) [
        | inl q ↦
            let t = and_parts _ _ q.0 in
            let ok = bytes_ok _ payload q.1 in
            let twice = decode_sized-ok field (length field / 2) payload ok in
            let decoded : decode_of field ≡ Ok payload = sym (decode_sized-twice field (length field / 2) twice) ∙ ok in
            let d = decode_of-ok field payload decoded in
            let some : 0 < length field / 2 = ltb-true _ _ t.0 in
            let few : length field / 2 ≤ 1024 = leb-true _ _ t.1 in
            inr (omega (arith, some, twice, d.2), omega (arith, few, twice, d.2), decoded)
        | inr q ↦ cc
      ]
    ]

pub hex_again : (field payload : List ℕ) → IsHex payload field → hex field ≡ Some payload
unfolding hex
hex_again field payload h =
    elim h [
      | inl dash ↦ rw (dash.0, dash.1) refl
      | inr digits ↦
          let d = decode_of-ok field payload digits.2 in
          let no_dash : bytes_eq field (codes "-") ≡ false = false_from_ne_true _ (λ e. let l = ap length ((bytes_eq-Decides field (codes "-")).0 e) in absurd (omega (arith, l, d.2))) in
          let twice : length field ≡ 2 * (length field / 2) = omega (arith, d.2) in
          let decoded : decode_sized field (length field / 2) ≡ Ok payload = decode_sized-twice field (length field / 2) twice ∙ digits.2 in
          rw (no_dash, lt-ltb 0 (length field / 2) (omega (arith, d.2, digits.0)), le-leb (length field / 2) 1024 (omega (arith, d.2, digits.1))) (ap bytes_from decoded)
    ]

-- raw bytes
held_ok : (o : Option (List ℕ)) (x : ArrayVec ℕ) → held_from o ≡ Some x → o ≡ Some x.items
held_ok None x e = cc
held_ok (Some bytes) x e = ap (λ v. Some v.items) (same_Some _ _ e)

pub raw_takes : (field : List ℕ) (x : ArrayVec ℕ) → raw field ≡ Some x → IsRaw x.items field
unfolding raw
raw_takes field x e =
    elim (chosen (ltb 0 (length field / 2) && leb (length field / 2) 1042) (held_from (bytes_from (decode_sized field (length field / 2)))) None x e) [
      | inl q ↦
          let t = and_parts _ _ q.0 in
          let ok = bytes_ok _ x.items (held_ok _ x q.1) in
          let twice = decode_sized-ok field (length field / 2) x.items ok in
          let decoded : decode_of field ≡ Ok x.items = sym (decode_sized-twice field (length field / 2) twice) ∙ ok in
          let d = decode_of-ok field x.items decoded in
          let some : 0 < length field / 2 = ltb-true _ _ t.0 in
          let few : length field / 2 ≤ 1042 = leb-true _ _ t.1 in
          record { some = omega (arith, some, twice, d.2); few = omega (arith, few, twice, d.2); digits = decoded }
      | inr q ↦ cc
    ]

pub raw_again : (field : List ℕ) (x : ArrayVec ℕ) → IsRaw x.items field → raw field ≡ Some x
unfolding raw
raw_again field x h =
    let d = decode_of-ok field x.items h.digits in
    let twice : length field ≡ 2 * (length field / 2) = omega (arith, d.2) in
    let decoded : decode_sized field (length field / 2) ≡ Ok x.items = decode_sized-twice field (length field / 2) twice ∙ h.digits in
    rw (lt-ltb 0 (length field / 2) (omega (arith, d.2, h.some)), le-leb (length field / 2) 1042 (omega (arith, d.2, h.few))) (ap (λ r. held_from (bytes_from r)) decoded)

-- names
pub name_takes : (field x : List ℕ) → name field ≡ Some x → IsName field × (x ≡ field)
unfolding name
name_takes field x e =
    let p = cond_some _ field x e in
    let q = and_parts _ _ p.0 in
    let r = and_parts _ _ q.1 in
    (record { some = ltb-true _ _ q.0; short = leb-true _ _ r.0; plain = r.1 }, sym p.1)

pub name_again : (field : List ℕ) → IsName field → name field ≡ Some field
unfolding name
name_again field h = rw (lt-ltb 0 (length field) h.some, le-leb (length field) 32 h.short, h.plain) refl

pub name_is : (field : List ℕ) (r : Option (List ℕ)) → (IsSome r ↔ IsName field) → IfSome r (λ x. x ≡ field) → r ≡ name field
name_is field None iff value = none_from (name field) (λ x e. cc (iff.1 (name_takes field x e).0))
name_is field (Some x) iff value = ap Some value ∙ sym (name_again field (iff.0 refl))

rest_takes : {A : Type 0} (o : Option A) (fields : List (List ℕ)) (x : A × List (List ℕ)) → with_rest o fields ≡ Some x → (fields ≡ x.1) × (o ≡ Some x.0)
rest_takes None fields x e = cc
rest_takes (Some y) fields x e =
    let p = some_pair_parts y x.0 fields x.1 e in
    (p.1, ap Some p.0)

-- the first of the fields that are left
pub field_takes : {A : Type 0} (read : List ℕ → Option A) (fields : List (List ℕ)) (x : A × List (List ℕ)) → field_at read fields ≡ Some x → (field : List ℕ) × (fields ≡ field ∷ x.1) × (read field ≡ Some x.0)
field_takes read [] x e = cc
field_takes read (field ∷ fields) x e =
    let p = rest_takes (read field) fields x e in
    (field, ap (λ r. field ∷ r) p.0, p.1)

-- From each live place a whole frame can be reached.
use Rattle.std.proofs.Common.{◌≡◌, ℕ, ◌+◌, ◌-◌, ◌*◌, ◌<◌, ◌≤◌, ◌==◌, ◌||◌, ◌&&◌, nat_le, Bool, true, false, not, List, [], ◌∷◌, Option, Some, option_and_then, refl, sym, ap, ◌∙◌, subst, arith, zero, suc, inl, inr}
use Rattle.std.proofs.lemmas.Bool.{cases_Bool, eqb-true, ne_eqb, leb-true, le-leb, and_parts, and_from, or_right, or_cases}
use Rattle.std.proofs.lemmas.Bool.Decides.{nat_tests}
use Rattle.std.proofs.Math.Numerals.{sub-one}
use Rattle.pump_frame.specs.Places.{run, step, has_zero, is_long, IsLive, AreBytes}
use Rattle.pump_frame.specs.declared.frame.Kind.{Kind}
use Rattle.pump_frame.specs.declared.frame.Kind.TheVariants.{Hello, Welcome, Data, Ack, Refuse, Attach, Taken}
use Rattle.pump_frame.specs.declared.place.Place.{Place}
use Rattle.pump_frame.specs.declared.place.Place.TheVariants.{FirstMark, SecondMark, Version, KindByte, Session, NumberTop, NumberSecond, NumberRest, LengthHigh, LengthLow, PayloadBytes, RefuseCode, LowName, HighName, End}

-- bytes that lead from a place to the end
abbrev pub Completion : Place → Type 0
Completion p = (more : List ℕ) × AreBytes more × (run more p ≡ Some End)

byte_first : (b : ℕ) (w : List ℕ) → b < 256 → AreBytes w → AreBytes (b ∷ w)
byte_first b w h all zero = h
byte_first b w h all (suc i) = all i

none_left : AreBytes []
none_left i = omega arith

done : Completion End
done = ([], none_left, refl)

first : (b : ℕ) (p q : Place) → b < 256 → step p b ≡ Some q → Completion q → Completion p
first b p q small e c = (b ∷ c.0, byte_first b c.0 small c.1, ap (λ (o : Option Place). option_and_then (λ next. run c.0 next) o) e ∙ c.2)

-- the names

high_name : (n : ℕ) → Completion (HighName (suc n))
high_name zero = first 97 (HighName 1) End (omega arith) refl done
high_name (suc n) =
    let e : step (HighName (suc (suc n))) 97 ≡ Some (HighName (suc n)) = rw (ne_eqb (suc (suc n)) 1 (λ h. omega arith), sub-one) refl in
    first 97 (HighName (suc (suc n))) (HighName (suc n)) (omega arith) e (high_name n)

colon : (n left read : ℕ) → left ≡ n + 2 → IsLive (LowName left read) → (nat_le 1 read && nat_le left 33) ≡ true → Completion (LowName left read)
colon n left read e live t =
    let both = and_parts (nat_le 1 read) (nat_le left 33) t in
    let s : step (LowName left read) 58 ≡ Some (HighName (left - 1)) = rw (both.0, both.1, le-leb 2 left live.0) refl in
    let back : left - 1 ≡ suc n = omega arith in
    let P : ℕ → Type 0 = λ m. Completion (HighName m) in
    first 58 (LowName left read) (HighName (left - 1)) (omega arith) s (subst P (sym back) (high_name n))

-- the colon comes as soon as it may
names_from : (n left read : ℕ) → left ≡ n + 2 → IsLive (LowName left read) → Completion (LowName left read)
names_from zero left read e live =
    let least = live.3 in
    colon zero left read e live (and_from (nat_le 1 read) (nat_le left 33) (le-leb 1 read (omega arith)) (le-leb left 33 (omega arith)))
names_from (suc n) left read e live =
    elim (cases_Bool (nat_le 1 read && nat_le left 33)) [
      | inl t ↦ colon (suc n) left read e live t
      | inr t ↦ (
          let short : read ≤ 31 = grind (arith, nat_tests, live.2) in
          let s : step (LowName left read) 97 ≡ Some (LowName (left - 1) (read + 1)) = rw (le-leb read 31 short, le-leb 3 left (omega arith)) refl in
          let total = live.2 in
          let least = live.3 in
          first 97 (LowName left read) (LowName (left - 1) (read + 1)) (omega arith) s
          (names_from n (left - 1) (read + 1) (omega arith) (omega arith, omega arith, omega arith, omega arith)))
    ]

-- the payload

message : (n : ℕ) → Completion (PayloadBytes (suc n))
message zero = first 0 (PayloadBytes 1) End (omega arith) refl done
message (suc n) =
    let e : step (PayloadBytes (suc (suc n))) 0 ≡ Some (PayloadBytes (suc n)) = rw (ne_eqb (suc (suc n)) 1 (λ h. omega arith), sub-one) refl in
    first 0 (PayloadBytes (suc (suc n))) (PayloadBytes (suc n)) (omega arith) e (message n)

code : Completion RefuseCode
code = first 1 RefuseCode End (omega arith) refl done

no_payload : (k : Kind) → step (LengthLow k 0) 0 ≡ Some End → Completion (LengthLow k 0)
no_payload k e = first 0 (LengthLow k 0) End (omega arith) e done

long : (high : ℕ) → high ≤ 4 → Completion (LengthLow Data high)
long zero h = no_payload Data refl
long (suc n) h =
    let some : suc n * 256 + 0 ≡ suc (n * 256 + 255) = omega arith in
    let s : step (LengthLow Data (suc n)) 0 ≡ Some (PayloadBytes (suc (n * 256 + 255))) =
    rw (some, ne_eqb (suc (n * 256 + 255)) 0 (λ e. omega arith), le-leb (suc (n * 256 + 255)) 1024 (omega arith)) refl in
    first 0 (LengthLow Data (suc n)) (PayloadBytes (suc (n * 256 + 255))) (omega arith) s (message (n * 256 + 255))

short_length : (k : Kind) → is_long k ≡ false → Completion (LengthLow k 0)
short_length Hello e = first 3 (LengthLow Hello 0) (LowName 3 0) (omega arith) refl (names_from 1 3 0 refl (omega arith, omega arith, omega arith, omega arith))
short_length Welcome e = no_payload Welcome refl
short_length Data e = cc
short_length Ack e = no_payload Ack refl
short_length Refuse e = first 1 (LengthLow Refuse 0) RefuseCode (omega arith) refl code
short_length Attach e = no_payload Attach refl
short_length Taken e = no_payload Taken refl

at_zero : (k : Kind) (high : ℕ) → IsLive (LengthLow k high) → is_long k ≡ false → Completion (LengthLow k high)
at_zero k high live short =
    let t : (high == 0 || (false && nat_le high 4)) ≡ true = rw short at live in
    let none : high ≡ 0 = elim (or_cases (high == 0) (false && nat_le high 4) t) [ inl e ↦ eqb-true high 0 e | inr e ↦ cc ] in
    let P : ℕ → Type 0 = λ n. Completion (LengthLow k n) in
    subst P (sym none) (short_length k short)

length_low : (k : Kind) (high : ℕ) → IsLive (LengthLow k high) → Completion (LengthLow k high)
length_low Data high live =
    elim (or_cases (high == 0) (true && nat_le high 4) live) [
      | inl t ↦ long high (let e = eqb-true high 0 t in omega arith)
      | inr t ↦ long high (leb-true high 4 t)
    ]
length_low Hello high live = at_zero Hello high live refl
length_low Welcome high live = at_zero Welcome high live refl
length_low Ack high live = at_zero Ack high live refl
length_low Refuse high live = at_zero Refuse high live refl
length_low Attach high live = at_zero Attach high live refl
length_low Taken high live = at_zero Taken high live refl

length_high : (k : Kind) → Completion (LengthHigh k)
length_high k = first 0 (LengthHigh k) (LengthLow k 0) (omega arith) refl (length_low k 0 refl)

-- the number and the session

rest : (k : Kind) (all : Bool) (n : ℕ) → Completion (NumberRest k (suc n) all)
rest k all zero = first 0 (NumberRest k 1 all) (LengthHigh k) (omega arith) (rw (or_right (not all) true refl) refl) (length_high k)
rest k all (suc n) =
    let e : step (NumberRest k (suc (suc n)) all) 0 ≡ Some (NumberRest k (suc n) all) = rw (or_right (not all) true refl, ne_eqb (suc (suc n)) 1 (λ h. omega arith), sub-one) refl in
    first 0 (NumberRest k (suc (suc n)) all) (NumberRest k (suc n) all) (omega arith) e (rest k all n)

second : (k : Kind) → Completion (NumberSecond k)
second k = first 0 (NumberSecond k) (NumberRest k 6 (has_zero k)) (omega arith) refl (rest k (has_zero k) 5)

top : (k : Kind) → Completion (NumberTop k)
top k = first 0 (NumberTop k) (NumberSecond k) (omega arith) refl (second k)

session : (k : Kind) (n : ℕ) → Completion (Session k (suc n))
session k zero = first 0 (Session k 1) (NumberTop k) (omega arith) refl (top k)
session k (suc n) =
    let e : step (Session k (suc (suc n))) 0 ≡ Some (Session k (suc n)) = rw (ne_eqb (suc (suc n)) 1 (λ h. omega arith), sub-one) refl in
    first 0 (Session k (suc (suc n))) (Session k (suc n)) (omega arith) e (session k n)

kind_byte_next : Completion KindByte
kind_byte_next = first 1 KindByte (Session Hello 4) (omega arith) refl (session Hello 3)

version : Completion Version
version = first 1 Version KindByte (omega arith) refl kind_byte_next

second_mark : Completion SecondMark
second_mark = first 80 SecondMark Version (omega arith) refl version

-- a number from 1 on, as one more
from_one : (P : ℕ → Type 0) (left : ℕ) → 1 ≤ left → ((n : ℕ) → P (suc n)) → P left
from_one P zero least all = absurd (omega arith)
from_one P (suc n) least all = all n

pub completes : (p : Place) → IsLive p → Completion p
completes FirstMark live = first 78 FirstMark SecondMark (omega arith) refl second_mark
completes SecondMark live = second_mark
completes Version live = version
completes KindByte live = kind_byte_next
completes (Session k left) live = from_one (λ n. Completion (Session k n)) left live.0 (session k)
completes (NumberTop k) live = top k
completes (NumberSecond k) live = second k
completes (NumberRest k left all) live = from_one (λ n. Completion (NumberRest k n all)) left live.0 (rest k all)
completes (LengthHigh k) live = length_high k
completes (LengthLow k high) live = length_low k high live
completes (PayloadBytes left) live = from_one (λ n. Completion (PayloadBytes n)) left live.0 message
completes RefuseCode live = code
completes (LowName left read) live = let least = live.0 in names_from (left - 2) left read (omega arith) live
completes (HighName left) live = from_one (λ n. Completion (HighName n)) left live.0 high_name
completes End live = done

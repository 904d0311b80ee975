-- Bytes that lead to the end are those of a lawful frame.
use Rattle.std.proofs.Common.{◌≡◌, ℕ, ◌+◌, ◌-◌, ◌*◌, ◌^◌, ◌<◌, ◌≤◌, ◌==◌, ◌||◌, ◌&&◌, ◌⊎◌, nat_le, Bool, true, false, cond, IsTrue, List, [], ◌∷◌, ◌++◌, length, take, drop, Option, None, Some, option_and_then, refl, sym, ap, ◌∙◌, subst, arith, zero, suc, inl, inr}
use Rattle.std.proofs.lemmas.Bool.{cases_Bool, eqb-true, leb-true, and_parts, and_from}
use Rattle.std.proofs.lemmas.Bool.Decides.{nat_tests}
use Rattle.std.proofs.lemmas.List.{length-append, append_assoc}
use Rattle.std.proofs.lemmas.Option.{same_Some, option_and_then_some}
use Rattle.std.proofs.lemmas.Nat.{be_bytes_2, be_bytes_4, be_bytes_8}
use Rattle.std.specs.List.{list_all}
use Rattle.byteorder.specs.Endian.{big_bytes, big_number}
use Rattle.pump_frame.specs.Names.{IsName, is_name_byte}
use Rattle.pump_frame.specs.Frames.{IsLawful, AreNames, greeting}
use Rattle.pump_frame.specs.Spellings.{spelling, header_of, kind_byte}
use Rattle.pump_frame.specs.Places.{goes, run, kind_of, has_zero, is_up_to, is_long, at_session, at_payload, AreBytes, IsFrameOf, IsWhole}
use Rattle.pump_frame.specs.declared.frame.Kind.{Kind}
use Rattle.pump_frame.specs.declared.frame.Kind.TheVariants.{Hello, Welcome, Data, Ack, Refuse, Attach, Taken}
use Rattle.pump_frame.specs.declared.frame.Frame.{Frame}
use Rattle.pump_frame.specs.declared.place.Place.{Place}
use Rattle.pump_frame.specs.declared.place.Place.TheVariants.{FirstMark, SecondMark, Version, KindByte, Session, NumberTop, NumberSecond, NumberRest, LengthHigh, LengthLow, PayloadBytes, RefuseCode, LowName, HighName, End}
use Rattle.pump_frame.proofs.Forms.{IsNumber, IsPayload, form_from}
use Rattle.pump_frame.proofs.Steps.{through}

-- the places at the end of a frame

read_end : (w : List ℕ) → run w End ≡ Some End → w ≡ []
read_end [] h = refl
read_end (b ∷ w) h = cc

read_bytes : (w : List ℕ) (left : ℕ) → 1 ≤ left → run w (PayloadBytes left) ≡ Some End → length w ≡ left
read_bytes [] left least h = cc
read_bytes (b ∷ w) left least h =
    elim (cases_Bool (left == 1)) [
      | inl t ↦ (
          let one = eqb-true left 1 t in
          let e : run w End ≡ Some End = rw t at h in
          let none = read_end w e in
          rw none (omega arith))
      | inr t ↦ (
          let e : run w (PayloadBytes (left - 1)) ≡ Some End = rw t at h in
          let two : 2 ≤ left = grind (arith, nat_tests) in
          let more = read_bytes w (left - 1) (omega arith) e in
          omega arith)
    ]

read_high : (w : List ℕ) (left : ℕ) → 1 ≤ left → run w (HighName left) ≡ Some End → (length w ≡ left) × IsTrue (list_all is_name_byte w)
read_high [] left least h = cc
read_high (b ∷ w) left least h =
    let s = through (is_name_byte b) (cond (left == 1) End (HighName (left - 1))) w End h in
    elim (cases_Bool (left == 1)) [
      | inl t ↦ (
          let one = eqb-true left 1 t in
          let e : run w End ≡ Some End = rw t at s.1 in
          let none = read_end w e in
          (rw none (omega arith), rw (none, s.0) refl))
      | inr t ↦ (
          let e : run w (HighName (left - 1)) ≡ Some End = rw t at s.1 in
          let two : 2 ≤ left = grind (arith, nat_tests) in
          let more = read_high w (left - 1) (omega arith) e in
          let size = more.0 in
          (omega arith, and_from (is_name_byte b) (list_all is_name_byte w) s.0 more.1))
    ]

-- the names

plain_push : (prefix : List ℕ) (b : ℕ) → IsTrue (list_all is_name_byte prefix) → is_name_byte b ≡ true → IsTrue (list_all is_name_byte (prefix ++ b ∷ []))
plain_push [] b all h = and_from (is_name_byte b) true h refl
plain_push (x ∷ xs) b all h =
    let each = and_parts (is_name_byte x) (list_all is_name_byte xs) all in
    and_from (is_name_byte x) (list_all is_name_byte (xs ++ b ∷ [])) each.0 (plain_push xs b each.1 h)

read_low : (w prefix : List ℕ) (left read : ℕ) → length prefix ≡ read → read ≤ 32 → IsTrue (list_all is_name_byte prefix) → run w (LowName left read) ≡ Some End → AreNames (prefix ++ w) × (length w ≡ left)
read_low [] prefix left read size short plain h = cc
read_low (b ∷ w) prefix left read size short plain h =
    elim (cases_Bool (b == 58)) [
      | inl t ↦ (
          let e : option_and_then (λ next. run w next) (goes (nat_le 1 read && nat_le 2 left && nat_le left 33) (HighName (left - 1))) ≡ Some End = rw t at h in
          let s = through (nat_le 1 read && nat_le 2 left && nat_le left 33) (HighName (left - 1)) w End e in
          let both = and_parts (nat_le 1 read && nat_le 2 left) (nat_le left 33) s.0 in
          let first = and_parts (nat_le 1 read) (nat_le 2 left) both.0 in
          let some = leb-true 1 read first.0 in
          let least = leb-true 2 left first.1 in
          let most = leb-true left 33 both.1 in
          let high = read_high w (left - 1) (omega arith) s.1 in
          let whole = high.0 in
          let colon = eqb-true b 58 t in
          let low_name : IsName prefix = record { some = omega arith; short = omega arith; plain = plain } in
          let high_name : IsName w = record { some = omega arith; short = omega arith; plain = high.1 } in
          let split : prefix ++ b ∷ w ≡ greeting prefix w = rw colon refl in
          ((prefix, w, low_name, high_name, split), omega arith))
      | inr t ↦ (
          let e : option_and_then (λ next. run w next) (goes (is_name_byte b && nat_le read 31 && nat_le 3 left) (LowName (left - 1) (read + 1))) ≡ Some End = rw t at h in
          let s = through (is_name_byte b && nat_le read 31 && nat_le 3 left) (LowName (left - 1) (read + 1)) w End e in
          let both = and_parts (is_name_byte b && nat_le read 31) (nat_le 3 left) s.0 in
          let first = and_parts (is_name_byte b) (nat_le read 31) both.0 in
          let most = leb-true read 31 first.1 in
          let least = leb-true 3 left both.1 in
          let more = read_low w (prefix ++ b ∷ []) (left - 1) (read + 1) (rw (length-append prefix (b ∷ [])) (omega arith)) (omega arith) (plain_push prefix b plain first.0) s.1 in
          let whole = more.1 in
          (rw append_assoc at more.0, omega arith))
    ]

-- the length and the payload

read_nothing : (n : ℕ) (w : List ℕ) → option_and_then (λ next. run w next) (goes (n == 0) End) ≡ Some End → (w ≡ []) × (n ≡ length w)
read_nothing n w h =
    let s = through (n == 0) End w End h in
    let none = read_end w s.1 in
    (none, rw none (eqb-true n 0 s.0))

read_code : (w : List ℕ) → run w RefuseCode ≡ Some End → IsPayload Refuse w × (1 ≡ length w)
read_code [] h = cc
read_code (b ∷ w) h =
    let s = through (nat_le 1 b && nat_le b 5) End w End h in
    let both = and_parts (nat_le 1 b) (nat_le b 5) s.0 in
    let none = read_end w s.1 in
    rw none ((b, leb-true 1 b both.0, leb-true b 5 both.1, refl), refl)

read_payload : (k : Kind) (n : ℕ) (w : List ℕ) → option_and_then (λ next. run w next) (at_payload k n) ≡ Some End → IsPayload k w × (n ≡ length w)
read_payload Hello n w h =
    let s = through (nat_le 3 n && nat_le n 65) (LowName n 0) w End h in
    let names = read_low w [] n 0 refl (omega arith) refl s.1 in
    (names.0, sym names.1)
read_payload Welcome n w h = read_nothing n w h
read_payload Data n w h =
    elim (cases_Bool (n == 0)) [
      | inl t ↦ (
          let e : run w End ≡ Some End = rw t at h in
          let none = read_end w e in
          (rw none (omega arith), rw none (eqb-true n 0 t)))
      | inr t ↦ (
          let e : option_and_then (λ next. run w next) (goes (nat_le n 1024) (PayloadBytes n)) ≡ Some End = rw t at h in
          let s = through (nat_le n 1024) (PayloadBytes n) w End e in
          let most = leb-true n 1024 s.0 in
          let some : 1 ≤ n = grind (arith, nat_tests) in
          let whole = read_bytes w n some s.1 in
          (omega arith, omega arith))
    ]
read_payload Ack n w h = read_nothing n w h
read_payload Refuse n w h =
    let s = through (n == 1) RefuseCode w End h in
    let c = read_code w s.1 in
    (c.0, eqb-true n 1 s.0 ∙ c.1)
read_payload Attach n w h = read_nothing n w h
read_payload Taken n w h = read_nothing n w h

read_low_length : (k : Kind) (a : ℕ) (w : List ℕ) → run w (LengthLow k a) ≡ Some End → (b : ℕ) × (p : List ℕ) × (w ≡ b ∷ p) × IsPayload k p × (a * 256 + b ≡ length p)
read_low_length k a [] h = cc
read_low_length k a (b ∷ p) h = let r = read_payload k (a * 256 + b) p h in (b, p, refl, r.0, r.1)

read_length : (k : Kind) (w : List ℕ) → run w (LengthHigh k) ≡ Some End → (a : ℕ) × (b : ℕ) × (p : List ℕ) × (w ≡ a ∷ b ∷ p) × IsPayload k p × (a * 256 + b ≡ length p)
read_length k [] h = cc
read_length k (a ∷ w) h =
    let s = through (a == 0 || (is_long k && nat_le a 4)) (LengthLow k a) w End h in
    let r = read_low_length k a w s.1 in
    (a, r.0, r.1, ap (λ (x : List ℕ). a ∷ x) r.2, r.3, r.4)

-- the number

zero_byte : (k : Kind) (left : ℕ) (w : List ℕ) → run w (NumberRest k left true) ≡ Some End → (more : List ℕ) × (w ≡ 0 ∷ more) × (run more (cond (left == 1) (LengthHigh k) (NumberRest k (left - 1) true)) ≡ Some End)
zero_byte k left [] h = cc
zero_byte k left (b ∷ w) h =
    let s = through (b == 0) (cond (left == 1) (LengthHigh k) (NumberRest k (left - 1) true)) w End h in
    (w, ap (λ (x : ℕ). x ∷ w) (eqb-true b 0 s.0), s.1)

six_zeros : (k : Kind) (w : List ℕ) → run w (NumberRest k 6 true) ≡ Some End → (more : List ℕ) × (w ≡ 0 ∷ 0 ∷ 0 ∷ 0 ∷ 0 ∷ 0 ∷ more) × (run more (LengthHigh k) ≡ Some End)
six_zeros k w h =
    let f = zero_byte k 6 w h in
    let e = zero_byte k 5 f.0 f.2 in
    let d = zero_byte k 4 e.0 e.2 in
    let c = zero_byte k 3 d.0 d.2 in
    let b = zero_byte k 2 c.0 c.2 in
    let a = zero_byte k 1 b.0 b.2 in
    (a.0, cc, a.2)

abbrev SixBytes : Kind → List ℕ → Type 0
SixBytes k w = (c : ℕ) × (d : ℕ) × (e : ℕ) × (f : ℕ) × (g : ℕ) × (h : ℕ) × (more : List ℕ) × (w ≡ c ∷ d ∷ e ∷ f ∷ g ∷ h ∷ more) × (run more (LengthHigh k) ≡ Some End)

six_bytes : (k : Kind) (w : List ℕ) → run w (NumberRest k 6 false) ≡ Some End → SixBytes k w
six_bytes k [] r = cc
six_bytes k (c ∷ []) r = cc
six_bytes k (c ∷ d ∷ []) r = cc
six_bytes k (c ∷ d ∷ e ∷ []) r = cc
six_bytes k (c ∷ d ∷ e ∷ f ∷ []) r = cc
six_bytes k (c ∷ d ∷ e ∷ f ∷ g ∷ []) r = cc
six_bytes k (c ∷ d ∷ e ∷ f ∷ g ∷ h ∷ more) r = (c, d, e, f, g, h, more, refl, r)

abbrev AllZero : ℕ → ℕ → ℕ → ℕ → ℕ → ℕ → Type 0
AllZero c d e f g h = (c ≡ 0) × (d ≡ 0) × (e ≡ 0) × (f ≡ 0) × (g ≡ 0) × (h ≡ 0)

-- the three forms of a number's bytes: zero, below 2^48, and 2^48 itself
data NumberForm (k : Kind) (b c d e f g h : ℕ) : Type 0 where
  Zero : b ≡ 0 → AllZero c d e f g h → NumberForm k b c d e f g h
  Below : b ≡ 0 → has_zero k ≡ false → NumberForm k b c d e f g h
  Limit : b ≡ 1 → is_up_to k ≡ true → AllZero c d e f g h → NumberForm k b c d e f g h

abbrev SevenBytes : Kind → List ℕ → Type 0
SevenBytes k w = (b : ℕ) × (c : ℕ) × (d : ℕ) × (e : ℕ) × (f : ℕ) × (g : ℕ) × (h : ℕ) × (more : List ℕ) × (w ≡ b ∷ c ∷ d ∷ e ∷ f ∷ g ∷ h ∷ more) × NumberForm k b c d e f g h × (run more (LengthHigh k) ≡ Some End)

seven_bytes : (k : Kind) (w : List ℕ) → run w (NumberSecond k) ≡ Some End → SevenBytes k w
seven_bytes k [] r = cc
seven_bytes k (b ∷ w) r =
    elim (cases_Bool (b == 0)) [
      | inl t ↦ (
          let e : run w (NumberRest k 6 (has_zero k)) ≡ Some End = rw t at r in
          elim (cases_Bool (has_zero k)) [
            | inl z ↦ (
                let s = six_zeros k w (rw z at e) in
                (b, 0, 0, 0, 0, 0, 0, s.0, ap (λ (x : List ℕ). b ∷ x) s.1, Zero (eqb-true b 0 t) (refl, refl, refl, refl, refl, refl), s.2))
            | inr z ↦ (
                let s = six_bytes k w (rw z at e) in
                (b, s.0, s.1, s.2, s.3, s.4, s.5, s.6, ap (λ (x : List ℕ). b ∷ x) {y = s.0 ∷ s.1 ∷ s.2 ∷ s.3 ∷ s.4 ∷ s.5 ∷ s.6} s.7, Below (eqb-true b 0 t) z, s.8))
          ])
      | inr t ↦ (
          let e : option_and_then (λ next. run w next) (goes (b == 1 && is_up_to k) (NumberRest k 6 true)) ≡ Some End = rw t at r in
          let s = through (b == 1 && is_up_to k) (NumberRest k 6 true) w End e in
          let both = and_parts (b == 1) (is_up_to k) s.0 in
          let z = six_zeros k w s.1 in
          (b, 0, 0, 0, 0, 0, 0, z.0, ap (λ (x : List ℕ). b ∷ x) z.1, Limit (eqb-true b 1 both.0) both.1 (refl, refl, refl, refl, refl, refl), z.2))
    ]

number_zero : (k : Kind) (n : ℕ) → n ≡ 0 → IsNumber k n
number_zero Hello n e = e
number_zero Welcome n e = omega arith
number_zero Data n e = omega arith
number_zero Ack n e = omega arith
number_zero Refuse n e = omega arith
number_zero Attach n e = omega arith
number_zero Taken n e = omega arith

number_below : (k : Kind) (n : ℕ) → has_zero k ≡ false → n < 2 ^ 48 → IsNumber k n
number_below Hello n z l = cc
number_below Welcome n z l = omega arith
number_below Data n z l = l
number_below Ack n z l = l
number_below Refuse n z l = omega arith
number_below Attach n z l = omega arith
number_below Taken n z l = l

number_limit : (k : Kind) (n : ℕ) → is_up_to k ≡ true → n ≡ 2 ^ 48 → IsNumber k n
number_limit Hello n u e = cc
number_limit Welcome n u e = omega arith
number_limit Data n u e = cc
number_limit Ack n u e = cc
number_limit Refuse n u e = omega arith
number_limit Attach n u e = omega arith
number_limit Taken n u e = cc

-- the bytes of a number, the highest first, as they stand in front of others
number_form : (k : Kind) (b c d e f g h : ℕ) (more : List ℕ) → c < 256 → d < 256 → e < 256 → f < 256 → g < 256 → h < 256 → NumberForm k b c d e f g h → IsNumber k (big_number 8 (0 ∷ b ∷ c ∷ d ∷ e ∷ f ∷ g ∷ h ∷ more))
number_form k b c d e f g h more hc hd he hf hg hh (Zero z all) =
    number_zero k (big_number 8 (0 ∷ b ∷ c ∷ d ∷ e ∷ f ∷ g ∷ h ∷ more)) (omega arith)
number_form k b c d e f g h more hc hd he hf hg hh (Below z k0) =
    number_below k (big_number 8 (0 ∷ b ∷ c ∷ d ∷ e ∷ f ∷ g ∷ h ∷ more)) k0 (omega arith)
number_form k b c d e f g h more hc hd he hf hg hh (Limit z u all) =
    number_limit k (big_number 8 (0 ∷ b ∷ c ∷ d ∷ e ∷ f ∷ g ∷ h ∷ more)) u (omega arith)

abbrev EightBytes : Kind → List ℕ → Type 0
EightBytes k w = (b : ℕ) × (c : ℕ) × (d : ℕ) × (e : ℕ) × (f : ℕ) × (g : ℕ) × (h : ℕ) × (more : List ℕ) × (w ≡ 0 ∷ b ∷ c ∷ d ∷ e ∷ f ∷ g ∷ h ∷ more) × NumberForm k b c d e f g h × (run more (LengthHigh k) ≡ Some End)

eight_bytes : (k : Kind) (w : List ℕ) → run w (NumberTop k) ≡ Some End → EightBytes k w
eight_bytes k [] r = cc
eight_bytes k (a ∷ w) r =
    let s = through (a == 0) (NumberSecond k) w End r in
    let n = seven_bytes k w s.1 in
    let zero_top : a ≡ 0 = eqb-true a 0 s.0 in
    (n.0, n.1, n.2, n.3, n.4, n.5, n.6, n.7, ap (λ (x : ℕ). x ∷ w) zero_top ∙ ap (λ (x : List ℕ). 0 ∷ x) n.8, n.9, n.10)

-- the session and what stands before it

read_session : (k : Kind) (w : List ℕ) → run w (Session k 4) ≡ Some End → (a : ℕ) × (b : ℕ) × (c : ℕ) × (d : ℕ) × (more : List ℕ) × (w ≡ a ∷ b ∷ c ∷ d ∷ more) × (run more (NumberTop k) ≡ Some End)
read_session k [] r = cc
read_session k (a ∷ []) r = cc
read_session k (a ∷ b ∷ []) r = cc
read_session k (a ∷ b ∷ c ∷ []) r = cc
read_session k (a ∷ b ∷ c ∷ d ∷ more) r = (a, b, c, d, more, refl, r)

picked : (t : Bool) (x : Kind) (o : Option Kind) (k : Kind) → cond t (Some x) o ≡ Some k → ((t ≡ true) × (x ≡ k)) ⊎ (o ≡ Some k)
picked true x o k h = inl (refl, same_Some x k h)
picked false x o k h = inr h

pick : (b n : ℕ) (x k : Kind) (o : Option Kind) → kind_byte x ≡ n → (o ≡ Some k → b ≡ kind_byte k) → cond (b == n) (Some x) o ≡ Some k → b ≡ kind_byte k
pick b n x k o e more h =
    elim (picked (b == n) x o k h) [
      | inl l ↦ eqb-true b n l.0 ∙ sym e ∙ ap kind_byte l.1
      | inr r ↦ more r
    ]

kind_is : (b : ℕ) (k : Kind) → kind_of b ≡ Some k → b ≡ kind_byte k
kind_is b k h =
    pick b 1 Hello k _ refl (pick b 2 Welcome k _ refl (pick b 3 Data k _ refl (pick b 4 Ack k _ refl (pick b 5 Refuse k _ refl (pick b 6 Attach k _ refl (pick b 7 Taken k None refl (λ e. cc))))))) h

pub kind_back : (k : Kind) → kind_of (kind_byte k) ≡ Some k
kind_back Hello = refl
kind_back Welcome = refl
kind_back Data = refl
kind_back Ack = refl
kind_back Refuse = refl
kind_back Attach = refl
kind_back Taken = refl

read_kind : (w : List ℕ) → run w KindByte ≡ Some End → (k : Kind) × (more : List ℕ) × (w ≡ kind_byte k ∷ more) × (run more (Session k 4) ≡ Some End)
read_kind [] r = cc
read_kind (b ∷ w) r =
    option_and_then_some (λ next. run w next) (at_session (kind_of b)) End r (λ p e more. of_kind b w p (kind_of b) refl e more)
  where
    of_kind : (b : ℕ) (w : List ℕ) (p : Place) (o : Option Kind) → o ≡ kind_of b → at_session o ≡ Some p → run w p ≡ Some End → (k : Kind) × (more : List ℕ) × (b ∷ w ≡ kind_byte k ∷ more) × (run more (Session k 4) ≡ Some End)
    of_kind b w p None o e more = cc
    of_kind b w p (Some k) o e more =
        let is = kind_is b k (sym o) in
        let there = same_Some (Session k 4) p e in
        (k, w, ap (λ (x : ℕ). x ∷ w) is, rw there more)

mark_is : (a b c k : ℕ) (w more : List ℕ) → a ≡ 78 → b ≡ 80 → c ≡ 1 → w ≡ k ∷ more → a ∷ b ∷ c ∷ w ≡ 78 ∷ 80 ∷ 1 ∷ k ∷ more
mark_is a b c k w more h i j e = cc

read_mark : (w : List ℕ) → run w FirstMark ≡ Some End → (k : Kind) × (more : List ℕ) × (w ≡ 78 ∷ 80 ∷ 1 ∷ kind_byte k ∷ more) × (run more (Session k 4) ≡ Some End)
read_mark [] r = cc
read_mark (a ∷ []) r = let s = through (a == 78) SecondMark [] End r in cc (s.1)
read_mark (a ∷ b ∷ []) r =
    let s = through (a == 78) SecondMark (b ∷ []) End r in
    let t = through (b == 80) Version [] End s.1 in cc (t.1)
read_mark (a ∷ b ∷ c ∷ w) r =
    let s = through (a == 78) SecondMark (b ∷ c ∷ w) End r in
    let t = through (b == 80) Version (c ∷ w) End s.1 in
    let v = through (c == 1) KindByte w End t.1 in
    let k = read_kind w v.1 in
    let first = eqb-true a 78 s.0 in
    let second = eqb-true b 80 t.0 in
    let third = eqb-true c 1 v.0 in
    (k.0, k.1, mark_is a b c (kind_byte k.0) w k.1 first second third k.2, k.3)

-- the frame

pub drop_bytes : (n : ℕ) (w : List ℕ) → AreBytes w → AreBytes (drop n w)
drop_bytes zero w h i = h i
drop_bytes (suc n) [] h i = h i
drop_bytes (suc n) (x ∷ w) h i = drop_bytes n w (λ j. h (suc j)) i

pub take_bytes : (n : ℕ) (w : List ℕ) → AreBytes w → AreBytes (take n w)
take_bytes zero w h i = omega arith
take_bytes (suc n) [] h i = h i
take_bytes (suc n) (x ∷ w) h zero = h 0
take_bytes (suc n) (x ∷ w) h (suc i) = take_bytes n w (λ j. h (suc j)) i

-- a spelling by its parts
assembled : ℕ → List ℕ → List ℕ → List ℕ → List ℕ → List ℕ
assembled k s n l p = 78 ∷ 80 ∷ 1 ∷ k ∷ (s ++ (n ++ (l ++ p)))

same_assembly : (k k' : ℕ) (s s' n n' l l' p p' : List ℕ) → k ≡ k' → s ≡ s' → n ≡ n' → l ≡ l' → p ≡ p' → assembled k s n l p ≡ assembled k' s' n' l' p'
same_assembly k k' s s' n n' l l' p p' a b c d e = cc

pub payload_short : (k : Kind) (p : List ℕ) → IsPayload k p → length p ≤ 1024
payload_short Hello p (low, high, is_low, is_high, e) =
    let lows = is_low.short in
    let highs = is_high.short in
    rw (e, length-append low (58 ∷ high)) (omega arith)
payload_short Welcome p e = rw e (omega arith)
payload_short Data p short = short
payload_short Ack p e = rw e (omega arith)
payload_short Refuse p (code, least, most, e) = rw e (omega arith)
payload_short Attach p e = rw e (omega arith)
payload_short Taken p e = rw e (omega arith)

module _ (k : Kind) (s0 s1 s2 s3 b c d e g h i l0 l1 : ℕ) (p : List ℕ) where
  whole : List ℕ
  whole = 78 ∷ 80 ∷ 1 ∷ kind_byte k ∷ s0 ∷ s1 ∷ s2 ∷ s3 ∷ 0 ∷ b ∷ c ∷ d ∷ e ∷ g ∷ h ∷ i ∷ l0 ∷ l1 ∷ p

  lawful_whole : AreBytes whole → NumberForm k b c d e g h i → IsPayload k p → l0 * 256 + l1 ≡ length p → (f : Frame) → IsFrameOf whole f → IsLawful f
  unfolding whole
  lawful_whole bytes form payload size f fields =
      let kind : f.kind ≡ k = sym (same_Some k f.kind (sym (kind_back k) ∙ fields.kind)) in
      let number : f.number ≡ big_number 8 (0 ∷ b ∷ c ∷ d ∷ e ∷ g ∷ h ∷ i ∷ l0 ∷ l1 ∷ p) = fields.number in
      let is_number = number_form k b c d e g h i (l0 ∷ l1 ∷ p) (bytes 10) (bytes 11) (bytes 12) (bytes 13) (bytes 14) (bytes 15) form in
      let h0 : s0 < 256 = bytes 4 in
      let h1 : s1 < 256 = bytes 5 in
      let h2 : s2 < 256 = bytes 6 in
      let h3 : s3 < 256 = bytes 7 in
      let session = fields.session in
      record {
        session = omega arith;
        form = rw (kind, number, fields.payload) (form_from k (big_number 8 (0 ∷ b ∷ c ∷ d ∷ e ∷ g ∷ h ∷ i ∷ l0 ∷ l1 ∷ p)) p is_number payload);
      }

  spelled_whole : AreBytes whole → l0 * 256 + l1 ≡ length p → (f : Frame) → IsFrameOf whole f → spelling f ≡ whole
  unfolding whole spelling header_of assembled
  spelled_whole bytes size f fields =
      let kind : f.kind ≡ k = sym (same_Some k f.kind (sym (kind_back k) ∙ fields.kind)) in
      let session = fields.session in
      let number = fields.number in
      let payload : f.payload ≡ p = fields.payload in
      let lengths : length f.payload ≡ length p = ap length payload in
      same_assembly (kind_byte f.kind) (kind_byte k) (big_bytes 4 f.session) (s0 ∷ s1 ∷ s2 ∷ s3 ∷ [])
      (big_bytes 8 f.number) (0 ∷ b ∷ c ∷ d ∷ e ∷ g ∷ h ∷ i ∷ []) (big_bytes 2 (length f.payload)) (l0 ∷ l1 ∷ []) f.payload p
      (ap kind_byte kind)
      (be_bytes_4 (s0 ∷ s1 ∷ s2 ∷ s3 ∷ []) f.session refl (take_bytes 4 (drop 4 whole) (drop_bytes 4 whole bytes)) (omega arith))
      (be_bytes_8 (0 ∷ b ∷ c ∷ d ∷ e ∷ g ∷ h ∷ i ∷ []) f.number refl (take_bytes 8 (drop 8 whole) (drop_bytes 8 whole bytes)) (omega arith))
      (be_bytes_2 (l0 ∷ l1 ∷ []) (length f.payload) refl (take_bytes 2 (drop 16 whole) (drop_bytes 16 whole bytes)) (omega arith))
      payload

  reads_whole : AreBytes whole → NumberForm k b c d e g h i → IsPayload k p → l0 * 256 + l1 ≡ length p → IsWhole whole
  unfolding whole
  reads_whole bytes form payload size =
      let short = payload_short k p payload in
      record {
        kind = k;
        known = kind_back k;
        least = omega arith;
        most = omega arith;
        lawful = lawful_whole bytes form payload size;
        spelled = spelled_whole bytes size;
      }

  whole_parts : (w r s t u : List ℕ) → w ≡ 78 ∷ 80 ∷ 1 ∷ kind_byte k ∷ r → r ≡ s0 ∷ s1 ∷ s2 ∷ s3 ∷ s → s ≡ 0 ∷ b ∷ c ∷ d ∷ e ∷ g ∷ h ∷ i ∷ t → t ≡ l0 ∷ l1 ∷ p → w ≡ whole
  unfolding whole
  whole_parts w r s t u m n o q = m ∙ ap (λ (x : List ℕ). 78 ∷ 80 ∷ 1 ∷ kind_byte k ∷ x) (n ∙ ap (λ (x : List ℕ). s0 ∷ s1 ∷ s2 ∷ s3 ∷ x) (o ∙ ap (λ (x : List ℕ). 0 ∷ b ∷ c ∷ d ∷ e ∷ g ∷ h ∷ i ∷ x) q))

  read_whole : (w : List ℕ) → w ≡ whole → AreBytes w → NumberForm k b c d e g h i → IsPayload k p → l0 * 256 + l1 ≡ length p → IsWhole w
  read_whole w is bytes form payload size =
      let P : List ℕ → Type 0 = λ x. AreBytes x → IsWhole x in
      subst P (sym is) (λ all. reads_whole all form payload size) bytes

pub read_frame : (w : List ℕ) → AreBytes w → run w FirstMark ≡ Some End → IsWhole w
read_frame w bytes r =
    let (k, after_kind, e0, r0) = read_mark w r in
    let (s0, s1, s2, s3, after_session, e1, r1) = read_session k after_kind r0 in
    let (b, c, d, e, g, h, i, after_number, e2, form, r2) = eight_bytes k after_session r1 in
    let (l0, l1, p, e3, payload, size) = read_length k after_number r2 in
    let is = whole_parts k s0 s1 s2 s3 b c d e g h i l0 l1 p w after_kind after_session after_number [] e0 e1 e2 e3 in
    read_whole k s0 s1 s2 s3 b c d e g h i l0 l1 p w is bytes form payload size

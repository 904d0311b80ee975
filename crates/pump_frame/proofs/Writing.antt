-- A lawful frame's bytes lead to the end.
use Rattle.std.proofs.Common.{◌≡◌, ℕ, ◌+◌, ◌-◌, ◌*◌, ◌^◌, ◌<◌, ◌≤◌, ◌==◌, ◌&&◌, nat_le, true, false, IsTrue, List, [], ◌∷◌, ◌++◌, length, Some, option_and_then, refl, ◌∙◌, arith, inl, inr}
use Rattle.std.proofs.lemmas.Bool.{cases_lt, ne_eqb, le-leb, and_parts, or_right}
use Rattle.std.proofs.lemmas.Bool.Decides.{nat_tests}
use Rattle.std.proofs.lemmas.List.{length-append}
use Rattle.std.specs.List.{list_all}
use Rattle.std.specs.Int.{byte_at}
use Rattle.byteorder.specs.Endian.{big_bytes}
use Rattle.pump_frame.specs.Names.{IsName, is_name_byte}
use Rattle.pump_frame.specs.Frames.{IsLawful, greeting}
use Rattle.pump_frame.specs.Spellings.{spelling, header_of, kind_byte}
use Rattle.pump_frame.specs.Places.{run, has_zero, is_up_to, at_payload}
use Rattle.pump_frame.specs.declared.frame.Kind.{Kind}
use Rattle.pump_frame.specs.declared.frame.Kind.TheVariants.{Hello, Welcome, Data, Ack, Refuse, Attach, Taken}
use Rattle.pump_frame.specs.declared.frame.Frame.{Frame}
use Rattle.pump_frame.specs.declared.place.Place.TheVariants.{FirstMark, KindByte, Session, NumberTop, LengthHigh, PayloadBytes, LowName, HighName, End}
use Rattle.pump_frame.proofs.Forms.{IsNumber, IsPayload, number_of_form, payload_of_form}

-- the number

below : (k : Kind) (a b c d e f g h : ℕ) (rest : List ℕ) → a ≡ 0 → b ≡ 0 → has_zero k ≡ false → run (a ∷ b ∷ c ∷ d ∷ e ∷ f ∷ g ∷ h ∷ rest) (NumberTop k) ≡ run rest (LengthHigh k)
below k a b c d e f g h rest p q z = rw (p, q, z) refl

below_limit : (k : Kind) (n : ℕ) (rest : List ℕ) → has_zero k ≡ false → n < 2 ^ 48 → run (big_bytes 8 n ++ rest) (NumberTop k) ≡ run rest (LengthHigh k)
below_limit k n rest z h = below k (byte_at 7 n) (byte_at 6 n) (byte_at 5 n) (byte_at 4 n) (byte_at 3 n) (byte_at 2 n) (byte_at 1 n) (byte_at 0 n) rest (omega arith) (omega arith) z

at_limit : (k : Kind) (n : ℕ) (rest : List ℕ) → has_zero k ≡ false → is_up_to k ≡ true → n ≤ 2 ^ 48 → run (big_bytes 8 n ++ rest) (NumberTop k) ≡ run rest (LengthHigh k)
at_limit k n rest z u h =
    elim (cases_lt n (2 ^ 48)) [
      | inl l ↦ below_limit k n rest z l
      | inr l ↦ let e : n ≡ 2 ^ 48 = omega arith in rw (e, u) refl
    ]

run_number : (k : Kind) (n : ℕ) (rest : List ℕ) → IsNumber k n → run (big_bytes 8 n ++ rest) (NumberTop k) ≡ run rest (LengthHigh k)
run_number Hello n rest h = rw h refl
run_number Welcome n rest h = at_limit Welcome n rest refl refl h
run_number Data n rest h = below_limit Data n rest refl h
run_number Ack n rest h = below_limit Ack n rest refl h
run_number Refuse n rest h = at_limit Refuse n rest refl refl h
run_number Attach n rest h = at_limit Attach n rest refl refl h
run_number Taken n rest h = below_limit Taken n rest refl h

-- the names

run_high : (high : List ℕ) (left : ℕ) → 0 < length high → left ≡ length high → IsTrue (list_all is_name_byte high) → run high (HighName left) ≡ Some End
run_high [] left some e plain = absurd (omega arith)
run_high (b ∷ []) left some e plain =
    let one : left ≡ 1 = e in
    let each = and_parts (is_name_byte b) true plain in
    rw (one, each.0) refl
run_high (b ∷ c ∷ high) left some e plain =
    let each = and_parts (is_name_byte b) (list_all is_name_byte (c ∷ high)) plain in
    let more = run_high (c ∷ high) (left - 1) (omega arith) (omega arith) each.1 in
    rw (each.0, ne_eqb left 1 (λ one. omega arith)) more

colon_apart : (b : ℕ) → is_name_byte b ≡ true → (b == 58) ≡ false
colon_apart b plain = grind (arith, nat_tests)

run_low : (low high : List ℕ) (left read : ℕ) → IsName high → left ≡ length low + 1 + length high → 1 ≤ read + length low → read + length low ≤ 32 → IsTrue (list_all is_name_byte low) → run (greeting low high) (LowName left read) ≡ Some End
run_low [] high left read name whole some short plain =
    let more = run_high high (left - 1) name.some (omega arith) name.plain in
    rw (le-leb 1 read (omega arith), le-leb 2 left (omega (arith, name.some)), le-leb left 33 (omega (arith, name.short))) more
run_low (b ∷ low) high left read name whole some short plain =
    let each = and_parts (is_name_byte b) (list_all is_name_byte low) plain in
    let more = run_low low high (left - 1) (read + 1) name (omega arith) (omega arith) (omega arith) each.1 in
    rw (colon_apart b each.0, each.0, le-leb read 31 (omega arith), le-leb 3 left (omega (arith, name.some))) more

-- the length and the payload

run_bytes : (w : List ℕ) (left : ℕ) → 1 ≤ left → left ≡ length w → run w (PayloadBytes left) ≡ Some End
run_bytes [] left least e = absurd (omega arith)
run_bytes (b ∷ []) left least e = let one : left ≡ 1 = e in rw one refl
run_bytes (b ∷ c ∷ w) left least e = rw (ne_eqb left 1 (λ one. omega arith)) (run_bytes (c ∷ w) (left - 1) (omega arith) (omega arith))

run_data : (p : List ℕ) → length p ≤ 1024 → option_and_then (λ next. run p next) (at_payload Data (length p)) ≡ Some End
run_data [] short = refl
run_data (b ∷ p) short = rw (ne_eqb (length (b ∷ p)) 0 (λ none. omega arith), le-leb (length (b ∷ p)) 1024 short) (run_bytes (b ∷ p) (length (b ∷ p)) (omega arith) refl)

length_ways : (k : Kind) (a b : ℕ) (p : List ℕ) (n : ℕ) → a ≡ 0 → 0 * 256 + b ≡ n → option_and_then (λ next. run p next) (at_payload k n) ≡ Some End → run (a ∷ b ∷ p) (LengthHigh k) ≡ Some End
length_ways k a b p n none e h = rw (none, e) h

length_long : (a b : ℕ) (p : List ℕ) (n : ℕ) → a ≤ 4 → a * 256 + b ≡ n → option_and_then (λ next. run p next) (at_payload Data n) ≡ Some End → run (a ∷ b ∷ p) (LengthHigh Data) ≡ Some End
length_long a b p n four e h = rw (or_right (a == 0) (true && nat_le a 4) (le-leb a 4 four), e) h

run_length : (k : Kind) (p : List ℕ) → length p ≤ 255 → option_and_then (λ next. run p next) (at_payload k (length p)) ≡ Some End → run (big_bytes 2 (length p) ++ p) (LengthHigh k) ≡ Some End
run_length k p short h =
    let high : byte_at 1 (length p) ≡ 0 = omega arith in
    let low : byte_at 0 (length p) ≡ length p = omega arith in
    let whole : 0 * 256 + byte_at 0 (length p) ≡ length p = omega arith in
    length_ways k (byte_at 1 (length p)) (byte_at 0 (length p)) p (length p) high whole h

pub run_payload : (k : Kind) (p : List ℕ) → IsPayload k p → run (big_bytes 2 (length p) ++ p) (LengthHigh k) ≡ Some End
run_payload Hello p (low, high, is_low, is_high, e) =
    let whole : length (greeting low high) ≡ length low + 1 + length high = omega (arith, length-append low (58 ∷ high)) in
    let lows = is_low.some in
    let lows_short = is_low.short in
    let highs = is_high.some in
    let highs_short = is_high.short in
    rw e (run_length Hello (greeting low high) (omega arith)
    (rw (le-leb 3 (length (greeting low high)) (omega arith), le-leb (length (greeting low high)) 65 (omega arith))
    (run_low low high (length (greeting low high)) 0 is_high whole (omega arith) (omega arith) is_low.plain)))
run_payload Welcome p e = rw e refl
run_payload Data p short = length_long (byte_at 1 (length p)) (byte_at 0 (length p)) p (length p) (omega arith) (omega arith) (run_data p short)
run_payload Ack p e = rw e refl
run_payload Refuse p (code, least, most, e) = rw e (rw (le-leb 1 code least, le-leb code 5 most) refl)
run_payload Attach p e = rw e refl
run_payload Taken p e = rw e refl

run_kind : (k : Kind) (w : List ℕ) → run (kind_byte k ∷ w) KindByte ≡ run w (Session k 4)
run_kind Hello w = refl
run_kind Welcome w = refl
run_kind Data w = refl
run_kind Ack w = refl
run_kind Refuse w = refl
run_kind Attach w = refl
run_kind Taken w = refl

-- the bytes of a lawful frame lead to the end
pub run_spelling : (f : Frame) → IsLawful f → run (spelling f) FirstMark ≡ Some End
unfolding spelling header_of
run_spelling f lawful =
    run_kind f.kind (big_bytes 4 f.session ++ (big_bytes 8 f.number ++ (big_bytes 2 (length f.payload) ++ f.payload)))
    ∙ run_number f.kind f.number (big_bytes 2 (length f.payload) ++ f.payload) (number_of_form f.kind f.number f.payload lawful.form)
    ∙ run_payload f.kind f.payload (payload_of_form f.kind f.number f.payload lawful.form)

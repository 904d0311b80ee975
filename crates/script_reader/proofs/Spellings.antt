-- What is printed of a lawful line is this line of the grammar.
use Rattle.std.proofs.Common.{◌≡◌, ℕ, ◌+◌, ◌^◌, ◌<◌, ◌≤◌, zero, suc, inl, inr, false, List, [], ◌∷◌, ◌++◌, length, slice_index, codes, refl, sym, ap, ◌∙◌, append_assoc, arith}
use Rattle.std.proofs.lemmas.List.{length-append}
use Rattle.std.specs.Int.{to_be_bytes, w32}
use Rattle.hex.specs.Hex.{encode_lower}
use Rattle.hex.proofs.HexLemmas.{decode_of-encode_lower}
use Rattle.pump_frame.specs.declared.row.SessionRow.{SessionRow}
use Rattle.script_reader.specs.declared.line.Line.{Line}
use Rattle.script_reader.specs.declared.line.Line.TheVariants.{Skip, Session, LowSession, Coarse, Look, Told, Step, Gone, High, Carry, Return, Done, Restart, ReceiverRestart}
use Rattle.script_reader.specs.declared.line.Arriving.{Arriving}
use Rattle.script_reader.specs.declared.line.Arriving.TheVariants.{Nothing, Hello, Data, Raw}
use Rattle.script_reader.specs.declared.line.ToldFeedback.{ToldFeedback}
use Rattle.script_reader.specs.declared.line.ToldFeedback.TheVariants.{Quiet, Full, Pair}
use Rattle.script_reader.specs.Grammar.{spaced, IsWord, IsHex, IsRow, IsArriving, IsFeedback, IsSpelled, IsLine}
use Rattle.script_reader.specs.Lawful.{IsLawfulArriving, IsLawfulFeedback, IsLawfulLine}
use Rattle.script_reader.specs.Spelling.{word_field, hex_field, arriving_fields, feedback_field, line_fields, line_spelling}
use Rattle.script_reader.specs.Typed.{behind, IsBehind, IsPrinted, IsTypedRow, IsTypedArriving, IsTypedFeedback, IsTypedLine, IsPutLine}
use Rattle.script_reader.proofs.Behind.{spaced_behind}

word_bytes : (n i : ℕ) → slice_index (to_be_bytes w32 n) i < 256
word_bytes n zero = omega arith
word_bytes n (suc zero) = omega arith
word_bytes n (suc (suc zero)) = omega arith
word_bytes n (suc (suc (suc zero))) = omega arith
word_bytes n (suc (suc (suc (suc i)))) = omega arith

pub printed_word : (n : ℕ) → n < 2 ^ 32 → IsWord n (word_field n)
printed_word n fits = (fits, decode_of-encode_lower (to_be_bytes w32 n) (word_bytes n))

-- fewer than 2,400 bytes before the line end
pub short_line : (old bytes all : List ℕ) → all ≡ old ++ bytes → length all < length old + 2400 → length bytes ≤ 2400
short_line old bytes all e below = omega (arith, ap length e ∙ length-append old bytes)

printed_row : (row : SessionRow) → row.low_port ≡ 0 → row.high_port ≡ 0 → row.coarse ≡ false → IsTypedRow row → IsRow row
printed_row row low high plain t = record {
  id = t.id;
  capacity = t.capacity;
  message = t.message;
  window = t.window;
  start = t.start;
  longest = t.longest;
  resend = t.resend;
  low = t.low;
  high = t.high;
  low_port = low;
  high_port = high;
  coarse = plain;
}

printed_hex : (bytes : List ℕ) → length bytes ≤ 1024 → IsPrinted bytes → IsHex bytes (hex_field bytes)
printed_hex [] few printed = inl (refl, refl)
printed_hex (byte ∷ bytes) few printed = inr (omega arith, few, printed)

raw_field : (bytes : List ℕ) → 0 < length bytes → encode_lower bytes ≡ hex_field bytes
raw_field [] some = absurd (omega arith)
raw_field (byte ∷ bytes) some = refl

printed_arriving : (arrival : Arriving) → IsLawfulArriving arrival → IsTypedArriving arrival → IsArriving arrival (arriving_fields arrival)
printed_arriving Nothing l t = refl
printed_arriving (Hello low high) l t = (t.0, t.1, refl)
printed_arriving (Data number payload) l t = (l, hex_field payload, printed_hex payload t.0 t.1, refl)
printed_arriving (Raw bytes) l t =
    (encode_lower bytes.items, record { some = l; few = t.0; digits = t.1 }, ap (λ f. codes "raw" ∷ f ∷ []) (sym (raw_field bytes.items l)))

printed_feedback : (told : ToldFeedback) → IsLawfulFeedback told → IsTypedFeedback told → IsFeedback told (feedback_field told)
printed_feedback Quiet l t = refl
printed_feedback Full l t = refl
printed_feedback (Pair count average) l t = (t, l, refl)

printed_fields : (line : Line) → IsLawfulLine line → IsTypedLine line → IsSpelled line (line_spelling line)
printed_fields Skip l t = inl (refl, tt)
printed_fields (Session row) l t = inr (line_fields (Session row), (printed_row row l.0 l.1 l.2 t, refl), refl)
printed_fields (LowSession row next held) l t =
    inr (line_fields (LowSession row next held), (printed_row row l.0.0 l.0.1 l.0.2 t, l.1, refl), refl)
printed_fields (Coarse session) l t = inr (line_fields (Coarse session), (t, refl), refl)
printed_fields (Look session moment w arrival) l t =
    inr (
      line_fields (Look session moment w arrival),
      (t.0, l.0, word_field w, t.1, arriving_fields arrival, printed_arriving arrival l.1 t.2, refl),
      refl,
    )
printed_fields (Told session moment w fault told arrival) l t =
    inr (
      line_fields (Told session moment w fault told arrival),
      (t.0, l.0, word_field w, t.1, feedback_field told, printed_feedback told l.1 t.2, arriving_fields arrival, printed_arriving arrival l.2 t.3, refl),
      refl,
    )
printed_fields (Step session moment w) l t = inr (line_fields (Step session moment w), (t.0, l, word_field w, t.1, refl), refl)
printed_fields (Gone session moment) l t = inr (line_fields (Gone session moment), (t, l, refl), refl)
printed_fields (High session moment) l t = inr (line_fields (High session moment), (t, l, refl), refl)
printed_fields (Carry session back) l t = inr (line_fields (Carry session back), (t.0, t.1, refl), refl)
printed_fields (Return session moment back) l t = inr (line_fields (Return session moment back), (t.0, l, t.1, refl), refl)
printed_fields (Done session moment time) l t = inr (line_fields (Done session moment time), (t, l.0, l.1, refl), refl)
printed_fields (Restart session moment) l t = inr (line_fields (Restart session moment), (t, l, refl), refl)
printed_fields (ReceiverRestart session moment) l t = inr (line_fields (ReceiverRestart session moment), (t, l, refl), refl)

pub printed_line : (line : Line) → IsTypedLine line → length (line_spelling line) ≤ 2400 → IsLawfulLine line → IsLine line (line_spelling line)
printed_line line t short l = (short, printed_fields line l t)

-- a word and fields are the line of these fields
pub line_put : (line : Line) (old new word : List ℕ) (fields : List (List ℕ)) → line_fields line ≡ word ∷ fields → IsBehind old new word fields
    → length new < length old + 2400 → IsTypedLine line → IsPutLine old new line
line_put line old new word fields shape put len typed =
    record { items = put.items ∙ append_assoc old word (behind fields) ∙ ap (λ z. old ++ z) (sym (spaced_behind word fields) ∙ ap spaced (sym shape)); len = len; typed = typed }

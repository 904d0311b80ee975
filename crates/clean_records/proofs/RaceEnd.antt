-- The record of a race, with its end, is clean.
use Rattle.std.proofs.Common.{◌≡◌, ℕ, zero, suc, ◌+◌, ◌^◌, ◌<◌, ◌≤◌, true, List, [], ◌∷◌, ◌++◌, length, codes, decimal, refl, sym, ap, ◌∙◌, subst, append-nil, append_assoc, arith, length-append}
use Rattle.std.specs.List.{All, AllByRecursion}
use Rattle.pump_frame.specs.declared.row.SessionRow.{SessionRow}
use Rattle.pump_core.specs.declared.feedback.Feedback.{Feedback}
use Rattle.pump_core.specs.declared.feedback.Feedback.TheVariants.{Quiet, Full, Passed, Released, Repeat}
use Rattle.pump_core.specs.History.{Opening, Life}
use Rattle.pump_core.specs.Exchanges.{IsCut, count_after}
use Rattle.pump_core.specs.Passage.{shape_of_row, IsAverage}
use Rattle.pump_core.specs.Standing.{State}
use Rattle.script_reader.specs.Alone.{tells_level}
use Rattle.script_reader.specs.Generated.{generated_row}
use Rattle.script_reader.proofs.FreeFields.{digits_without}
use Rattle.relay_threads.specs.Records.{Made, record_of}
use Rattle.relay_threads.specs.RecordLines.{told_of, record_text}
use Rattle.relay_threads.specs.Replays.{TellLevels}
use Rattle.relay_threads.proofs.Kept.{thin_of}
use Rattle.relay_threads.proofs.Scripting.{short_decimal}
use Rattle.race.specs.Messages.{race_opening}
use Rattle.race.specs.Race.{IsRaceRecord, number_line, time_lines, end_line}
use Rattle.race.specs.Turns.{turn, turns, CanTurn}
use Rattle.race.proofs.HighLooks.{turn_is_short}
use Rattle.pump_audit.specs.Places.{takes_times}
use Rattle.pump_audit.specs.Records.{Record, AreTold}
use Rattle.pump_audit.specs.Texts.{IsText, line_ends}
use Rattle.pump_audit.specs.Verdicts.{IsClean, IsRightEnd}
use Rattle.pump_audit.proofs.Writing.{ends_append, none_within, unended, Written, comment_text, with_time, with_taken, with_end, timed, took, ended, pairs_told, NeverRose, clean_end, looks_times}
use Rattle.clean_records.proofs.Counting.{all_stored}
use Rattle.clean_records.proofs.Told.{all_told, record_told, pairs_back, back_rises, back_all}

-- ---- the texts of the comments ----

digits_has : (n : ℕ) → n < 2 ^ 64 → line_ends (decimal n) ≡ 0
digits_has n fits = none_within (decimal n) (digits_without 10 n fits (λ h. absurd (omega (arith, h.0))))

number_is_text : (prefix : List ℕ) (n : ℕ) → line_ends prefix ≡ 0 → length prefix ≤ 60 → n < 2 ^ 64 → IsText (prefix ++ decimal n)
number_is_text prefix n free short fits =
    let a = ends_append prefix (decimal n) in
    let b = digits_has n fits in
    let c = length-append prefix (decimal n) in
    let d = short_decimal n fits in
    record { unended = unended (prefix ++ decimal n) (omega (arith, a, b, free)); short = omega (arith, c, d, short) }

pub time_is_text : (n : ℕ) → n < 2 ^ 64 → IsText (comment_text (codes "time" ∷ decimal n ∷ []))
time_is_text n fits = number_is_text (codes "# time ") n refl (omega arith) fits

pub took_is_text : (n : ℕ) → n < 2 ^ 64 → IsText (comment_text (codes "took" ∷ decimal n ∷ []))
took_is_text n fits = number_is_text (codes "# took ") n refl (omega arith) fits

pub end_is_text : (n : ℕ) → n < 2 ^ 64 → IsText (comment_text (codes "end" ∷ decimal n ∷ decimal n ∷ []))
end_is_text n fits =
    let tail : List ℕ = decimal n ++ 32 ∷ decimal n in
    let a = ends_append (codes "# end ") tail in
    let b = ends_append (decimal n) (32 ∷ decimal n) in
    let c = ends_append (32 ∷ []) (decimal n) in
    let d = digits_has n fits in
    let e : line_ends (codes "# end ") ≡ 0 = refl in
    let f : line_ends (32 ∷ []) ≡ 0 = refl in
    let g = length-append (codes "# end ") tail in
    let h = length-append (decimal n) (32 ∷ decimal n) in
    let k = short_decimal n fits in
    let l : length (codes "# end ") ≡ 6 = refl in
    let z : line_ends (codes "# end " ++ tail) ≡ 0 = omega (arith, a, b, c, d, e, f) in
    let y : length (codes "# end " ++ tail) ≤ 2400 = omega (arith, g, h, k, l) in
    record { unended = unended (codes "# end " ++ tail) z; short = y }

-- ---- the times ----

-- behind the comments of these times
pub record Timed (bytes : List ℕ) (r : Record) (ts : List ℕ) : Type 0 where
  pub q : Record
  pub written : Written bytes q
  pub at : takes_times q.place ≡ true
  pub told : AreTold q []
  pub row : q.row ≡ r.row
  pub opening : q.opening ≡ r.opening
  pub looks : q.looks ≡ r.looks
  pub pairs : pairs_told q ≡ pairs_told r
  pub times : q.times ≡ r.times ++ ts

times_told : (ts : List ℕ) (bytes : List ℕ) (r : Record) → AllByRecursion (λ t. t ≤ 10 ^ 9) ts → Written bytes r → takes_times r.place ≡ true → AreTold r [] → Timed (bytes ++ time_lines ts) r ts
times_told [] bytes r few w at told = record {
  q = r;
  written = subst (λ (z : List ℕ). Written z r) (sym (append-nil bytes)) w;
  at = at;
  told = told;
  row = refl;
  opening = refl;
  looks = refl;
  pairs = refl;
  times = sym (append-nil r.times);
}
times_told (t ∷ ts) bytes r few w at told =
    let small = few.0 in
    let one = timed bytes r w t (time_is_text t (omega (arith, small))) small at told in
    let k = times_told ts (bytes ++ number_line (codes "time") t) (with_time r t) few.1 one refl told in
    record {
      q = k.q;
      written = subst (λ (z : List ℕ). Written z k.q) (append_assoc bytes (number_line (codes "time") t) (time_lines ts)) k.written;
      at = k.at;
      told = k.told;
      row = k.row;
      opening = k.opening;
      looks = k.looks;
      pairs = k.pairs;
      times = k.times ∙ append_assoc r.times (t ∷ []) ts;
    }

-- ---- the times that come in turn ----

push_all : (P : ℕ → Type 0) (ts : List ℕ) (t : ℕ) → AllByRecursion P ts → P t → AllByRecursion P (ts ++ t ∷ [])
push_all P [] t all here = (here, tt)
push_all P (x ∷ ts) t all here = (all.0, push_all P ts t all.1 here)

pub turns_few : (times : List ℕ) (count n : ℕ) → CanTurn times count → AllByRecursion (λ t. t ≤ 10 ^ 9) (turns times n)
turns_few times count zero can = tt
turns_few times count (suc n) can = push_all (λ t. t ≤ 10 ^ 9) (turns times n) (turn times n) (turns_few times count n can) (turn_is_short times count n can)

-- ---- the record ----

plain_levels : (f : Feedback) → tells_level generated_row (told_of generated_row f) ≡ true
plain_levels Quiet = refl
plain_levels Full = refl
plain_levels Released = refl
plain_levels (Passed seen) = refl
plain_levels (Repeat seen) = refl

tell_levels : (made : List Made) → TellLevels generated_row made
tell_levels [] = tt
tell_levels (m ∷ before) = (plain_levels m.look.feedback, tell_levels before)

pub race_clean : (seed count : ℕ) (times readings : List ℕ) (asks : List (ℕ × ℕ)) (bytes : List ℕ) → IsRaceRecord seed count times readings asks bytes → CanTurn times count → line_ends bytes < 2 ^ 32 → (r : Record) × IsClean bytes r
race_clean seed count times readings asks bytes is can few =
    let made = is.made in
    let are = (thin_of generated_row race_opening made is.looks.are_made).are_made in
    let text = record_text generated_row race_opening made in
    let u = record_told generated_row race_opening refl made is.looks.are_made is.readable (tell_levels made) is.looks.lawful in
    let told = all_told generated_row race_opening _ _ _ u in
    let most = can.few in
    let fits : count < 2 ^ 64 = omega (arith, most) in
    let t = times_told (turns times count) text u.r (turns_few times count count can) u.written (looks_times u.r.place u.at) told in
    let after_times = text ++ time_lines (turns times count) in
    let w = took after_times t.q t.written count (took_is_text count fits) fits t.at t.told in
    let v = ended (after_times ++ number_line (codes "took") count) (with_taken t.q count) w count count (end_is_text count fits) fits fits refl t.told in
    let whole : bytes ≡ (after_times ++ number_line (codes "took") count) ++ end_line count count =
    is.bytes_are ∙ sym (append_assoc text (time_lines (turns times count)) (number_line (codes "took") count ++ end_line count count)) ∙ sym (append_assoc after_times (number_line (codes "took") count) (end_line count count)) in
    let r : Record = with_end (with_taken t.q count) count count in
    let pairs : pairs_told t.q ≡ pairs_back (record_of made) = t.pairs ∙ u.pairs in
    let averages = subst (λ (z : SessionRow × List ℕ × List (ℕ × ℕ)). All (IsAverage (shape_of_row z.0) z.1) z.2)
    (λ i. (sym (t.row ∙ u.own) i, sym (t.times ∙ ap (λ (ts : List ℕ). ts ++ turns times count) u.times) i, sym pairs i))
    (back_all (IsAverage (shape_of_row generated_row) (turns times count)) (record_of made) is.printed.averages) in
    let cut = subst (λ (z : SessionRow × Life). IsCut z.0 z.1 u.stands.parts) (λ i. (sym (t.row ∙ u.own) i, record { opening = sym t.opening i; looks = sym t.looks i })) u.stands.cut in
    let stored : count ≡ count_after t.q.opening u.stands.parts =
    sym (all_stored seed count made are is.printed.frames is.acked) ∙ ap (λ (s : State). s.next) u.stands.state ∙ ap (λ (o : Opening). count_after o u.stands.parts) (sym t.opening) in
    let same : count ≤ count = omega arith in
    let room : count ≤ count + t.q.row.capacity = omega arith in
    let end : IsRightEnd r = record {
      removed = same;
      taken = same;
      room = room;
      parts = u.stands.parts;
      cut = cut;
      stored = stored;
    } in
    (r, clean_end bytes (with_taken t.q count) count count (subst (λ (z : List ℕ). Written z r) (sym whole) v) few t.told (subst NeverRose (sym pairs) (back_rises (record_of made) is.printed.never_fall)) averages end)

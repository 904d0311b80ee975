-- A generator's payloads byte by byte, and its takings one by one.
use Rattle.std.proofs.Common.{◌≡◌, ℕ, ◌+◌, ◌-◌, ◌%◌, ◌<◌, ◌≤◌, zero, suc, [], ◌∷◌, ◌++◌, length, take, refl, ap, append_assoc, ◌∙◌, arith}
use Rattle.script_reader.specs.declared.line.Line.TheVariants.{Look, Done}
use Rattle.script_reader.specs.declared.line.Arriving.TheVariants.{Data}
use Rattle.script_reader.specs.declared.generator.Turn.TheVariants.{Pass}
use Rattle.script_reader.specs.Generated.{Mark, drawn, taking_time, counting, payload_of, timed, timed_by, takings, empty_look, early_lines, late_count, message_word, after_draws, due_at, messages_from}
use Rattle.script_reader.specs.Generating.{takings_on, rest_from, left_at}

pub length_counting : (n from : ℕ) → length (counting n from) ≡ n
length_counting zero from = refl
length_counting (suc n) from = ap (λ x. suc x) (length_counting n (from + 1))

pub counting_more : (n from : ℕ) → counting (suc n) from ≡ counting n from ++ (from + n) % 256 ∷ []
counting_more zero from = let e : from % 256 ≡ (from + 0) % 256 = ap (λ x. x % 256) (omega arith) in ap (λ x. x ∷ []) e
counting_more (suc n) from =
    let e : (from + 1 + n) % 256 ≡ (from + suc n) % 256 = ap (λ x. x % 256) (omega arith) in
    ap (λ r. from % 256 ∷ r) (counting_more n (from + 1) ∙ ap (λ x. counting n (from + 1) ++ x ∷ []) e)

pub counting_prefix : (n m from : ℕ) → n ≤ m → take n (counting m from) ≡ counting n from
counting_prefix zero m from le = refl
counting_prefix (suc n) zero from le = absurd (omega (arith, le))
counting_prefix (suc n) (suc m) from le = ap (λ r. from % 256 ∷ r) (counting_prefix n m (from + 1) (omega (arith, le)))

-- the first of the takings that are left
pub taking_first : (count number n : ℕ) (at : Mark) → 0 < n
    → takings_on count number n at ≡ Done 1 at.moment (taking_time (drawn at.draw)) ∷ takings_on count number (n - 1) (timed at)
taking_first count number zero at some = absurd (omega arith)
taking_first count number (suc n) at some =
    let e : n ≡ suc n - 1 = omega arith in
    ap (λ m. Done 1 at.moment (taking_time (drawn at.draw)) ∷ takings_on count number m (timed at)) e

-- a message's lines, and those after it, from its first look on
pub offer_first : (count number : ℕ) (at : Mark) → number < count
    → messages_from (count - number) number at
    ≡ Look 1 at.moment (message_word at) (Data number (payload_of number (after_draws at).draw)) ∷ left_at Pass count number (message_word at) (after_draws at)
offer_first count number at below =
    let e : count - number ≡ suc (count - (number + 1)) = omega arith in
    let first = empty_look at.moment (message_word at) in
    let due = due_at number at in
    ap (λ n. messages_from n number at) e
    ∙ ap (λ r. Look 1 at.moment (message_word at) (Data number (payload_of number (after_draws at).draw)) ∷ first ∷ r)
    (append_assoc (early_lines number (message_word at) (after_draws at)) (empty_look due.moment (message_word at) ∷ takings (late_count number) due)
    (rest_from count number (timed_by (late_count number) due)))

-- The messages of a race: so many, numbered from 0, each of at most 64 bytes.
use Rattle.std.proofs.Common.{◌≡◌, ℕ, ◌+◌, ◌<◌, ◌≤◌, zero, suc, Bool, true, false, List, [], ◌∷◌, ◌++◌, length, refl, sym, ap, ◌∙◌, subst, arith, append_assoc}
use Rattle.std.specs.Prelude.{if◌then◌else◌, ◌/◌, ◌%◌, ◌^◌}
use Rattle.std.specs.List.{AllByRecursion}
use Rattle.std.proofs.lemmas.List.{length-append}
use Rattle.pump_frame.specs.declared.frame.Item.{Item}
use Rattle.pump_core.specs.Passage.{Numbered}
use Rattle.script_reader.specs.declared.line.Line.{Line}
use Rattle.script_reader.specs.Generated.{Mark, messages_from, message_lines, early_lines, takings, timed, message_word, after_draws, after_message, due_at, late_count, empty_look, is_seventh, payload_of, first_mark}
use Rattle.script_reader.proofs.Takings.{length_counting}
use Rattle.race.specs.Messages.{brought_by, messages_in, race_items}

messages_append : (xs ys : List Line) → messages_in (xs ++ ys) ≡ messages_in xs ++ messages_in ys
messages_append [] ys = refl
messages_append (x ∷ xs) ys = ap (λ (z : List Item). brought_by x ++ z) (messages_append xs ys) ∙ sym (append_assoc (brought_by x) (messages_in xs) (messages_in ys))

takings_none : (n : ℕ) (at : Mark) → messages_in (takings n at) ≡ []
takings_none zero at = refl
takings_none (suc n) at = takings_none n (timed at)

early_none : (number word : ℕ) (at : Mark) → messages_in (early_lines number word at) ≡ []
early_none number word at = by_seventh (is_seventh number)
  where
    by_seventh : (b : Bool) → messages_in (if b then takings 1 at ++ empty_look (timed at).moment word ∷ [] else []) ≡ []
    by_seventh true = refl
    by_seventh false = refl

-- the message of this number
abbrev item_at : ℕ → Mark → Item
item_at number at = record { number = number; payload = payload_of number (after_draws at).draw }

one_message : (number : ℕ) (at : Mark) → messages_in (message_lines number at) ≡ item_at number at ∷ []
one_message number at =
    let early = early_lines number (message_word at) (after_draws at) in
    let late = takings (late_count number) (due_at number at) in
    ap (λ (z : List Item). item_at number at ∷ z)
    (messages_append early (empty_look (due_at number at).moment (message_word at) ∷ late)
    ∙ ap (λ (z : List Item × List Item). z.0 ++ z.1) (λ i. (early_none number (message_word at) (after_draws at) i, takings_none (late_count number) (due_at number at) i)))

messages_next : (n number : ℕ) (at : Mark) → messages_in (messages_from (suc n) number at) ≡ item_at number at ∷ messages_in (messages_from n (number + 1) (after_message number at))
messages_next n number at =
    messages_append (message_lines number at) (messages_from n (number + 1) (after_message number at))
    ∙ ap (λ (z : List Item). z ++ messages_in (messages_from n (number + 1) (after_message number at))) (one_message number at)

count_from : (n number : ℕ) (at : Mark) → length (messages_in (messages_from n number at)) ≡ n
count_from zero number at = refl
count_from (suc n) number at = ap length (messages_next n number at) ∙ ap suc (count_from n (number + 1) (after_message number at))

numbered_from : (n number : ℕ) (at : Mark) → Numbered number (messages_in (messages_from n number at))
numbered_from zero number at = tt
numbered_from (suc n) number at = subst (Numbered number) (sym (messages_next n number at)) (refl, numbered_from n (number + 1) (after_message number at))

abbrev pub IsShort : Item → Type 0
IsShort x = length x.payload ≤ 64

payload_short : (number draw : ℕ) → length (payload_of number draw) ≤ 64
payload_short number draw = omega (arith, length_counting (draw / 2 ^ 24 % 65) number)

short_from : (n number : ℕ) (at : Mark) → AllByRecursion IsShort (messages_in (messages_from n number at))
short_from zero number at = tt
short_from (suc n) number at = subst (AllByRecursion IsShort) (sym (messages_next n number at)) (payload_short number (after_draws at).draw, short_from n (number + 1) (after_message number at))

pub items_count : (seed count : ℕ) → length (race_items seed count) ≡ count
items_count seed count = count_from count 0 (first_mark seed)

items_numbered : (seed count : ℕ) → Numbered 0 (race_items seed count)
items_numbered seed count = numbered_from count 0 (first_mark seed)

items_short : (seed count : ℕ) → AllByRecursion IsShort (race_items seed count)
items_short seed count = short_from count 0 (first_mark seed)

-- what stands behind the beginning of a list
number_behind : (first : ℕ) (xs : List Item) (x : Item) (ys : List Item) → Numbered first (xs ++ x ∷ ys) → x.number ≡ first + length xs
number_behind first [] x ys h = omega (arith, h.0)
number_behind first (y ∷ xs) x ys h = omega (arith, number_behind (first + 1) xs x ys h.1)

short_behind : (xs : List Item) (x : Item) (ys : List Item) → AllByRecursion IsShort (xs ++ x ∷ ys) → IsShort x
short_behind [] x ys h = h.0
short_behind (y ∷ xs) x ys h = short_behind xs x ys h.1

-- the message behind these: its number is how many they are, it is short, and it is one of the race
pub record IsNextOf (count : ℕ) (xs : List Item) (x : Item) : Type 0 where
  pub number : x.number ≡ length xs
  pub short : length x.payload ≤ 64
  pub below : length xs < count

pub next_of_race : (seed count : ℕ) (xs : List Item) (x : Item) (ys : List Item) → xs ++ x ∷ ys ≡ race_items seed count → IsNextOf count xs x
next_of_race seed count xs x ys is = record {
  number = omega (arith, number_behind 0 xs x ys (subst (Numbered 0) (sym is) (items_numbered seed count)));
  short = short_behind xs x ys (subst (AllByRecursion IsShort) (sym is) (items_short seed count));
  below = omega (arith, ap length is, length-append xs (x ∷ ys), items_count seed count);
}

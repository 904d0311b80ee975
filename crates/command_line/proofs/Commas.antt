-- Reading a list of times from a word, up to each comma.
use Rattle.std.proofs.Common.{◌≡◌, ℕ, suc, ◌<◌, ◌≤◌, ◌^◌, List, [], ◌∷◌, ◌++◌, length, drop, get_or, decimal, refl, sym, ap, ap₂, ◌∙◌, arith, length-append}
use Rattle.std.proofs.lemmas.List.{append_assoc}
use Rattle.std.proofs.lemmas.Fmt.{decimal_injective, digits_decimal}
use Rattle.std.proofs.lemmas.Str.Parse.{IsNumeralModel, numerals_by_value, tells_digits, not_in_digits}
use Rattle.std.specs.Str.Parse.{AllDigits, digits_value}
use Rattle.command_line.specs.TimeLists.{AreShort, AreTimes, times_word}

own : IsNumeralModel (AllDigits 10) (digits_value 10)
own = numerals_by_value _ tells_digits

-- no byte of it is a comma
abbrev pub HasNoComma : List ℕ → Type 0
HasNoComma text = (i : ℕ) → i < length text → get_or text i 0 ≡ 44 → ⊥

pub decimal_has_none : (n : ℕ) → n ≤ 10 ^ 9 → HasNoComma (decimal n)
decimal_has_none n h i low e = not_in_digits own (decimal n) 44 (digits_decimal own n (omega (arith, h))) (λ r. omega (arith, r)) i low e

-- the byte behind a prefix
pub at_prefix : (prefix rest : List ℕ) (b : ℕ) → get_or (prefix ++ b ∷ rest) (length prefix) 0 ≡ b
at_prefix [] rest b = refl
at_prefix (x ∷ prefix) rest b = at_prefix prefix rest b

has_comma : (prefix rest : List ℕ) → HasNoComma (prefix ++ 44 ∷ rest) → ⊥
has_comma prefix rest none = none (length prefix) (omega (arith, length-append prefix (44 ∷ rest))) (at_prefix prefix rest 44)

-- times with a comma behind each
abbrev with_commas : List ℕ → List ℕ
with_commas [] = []
with_commas (t ∷ times) = decimal t ++ 44 ∷ with_commas times

with_one_more : (times : List ℕ) (t : ℕ) (rest : List ℕ) → with_commas (times ++ t ∷ []) ++ rest ≡ with_commas times ++ (decimal t ++ 44 ∷ rest)
with_one_more [] t rest = append_assoc (decimal t) (44 ∷ []) rest
with_one_more (u ∷ times) t rest =
    append_assoc (decimal u) (44 ∷ with_commas (times ++ t ∷ [])) rest
    ∙ ap (λ l. decimal u ++ 44 ∷ l) (with_one_more times t rest)
    ∙ sym (append_assoc (decimal u) (44 ∷ with_commas times) (decimal t ++ 44 ∷ rest))

with_last : (times : List ℕ) (t : ℕ) → with_commas times ++ decimal t ≡ times_word (times ++ t ∷ [])
with_last [] t = refl
with_last (u ∷ []) t = append_assoc (decimal u) (44 ∷ []) (decimal t)
with_last (u ∷ v ∷ times) t = append_assoc (decimal u) (44 ∷ with_commas (v ∷ times)) (decimal t) ∙ ap (λ l. decimal u ++ 44 ∷ l) (with_last (v ∷ times) t)

short_more : (times : List ℕ) (t : ℕ) → AreShort times → t ≤ 10 ^ 9 → AreShort (times ++ t ∷ [])
short_more [] t h k = (k, tt)
short_more (u ∷ times) t h k = (h.0, short_more times t h.1 k)

short_at : (times later : List ℕ) (t : ℕ) → AreShort (times ++ t ∷ later) → t ≤ 10 ^ 9
short_at [] later t h = h.0
short_at (u ∷ times) later t h = short_at times later t h.1

-- the prefix of the word is these times, each with its comma; and whatever times the word is, they begin with these
pub record HasRead (word times rest : List ℕ) : Type 0 where
  pub few : length times ≤ 16
  pub short : AreShort times
  pub whole : word ≡ with_commas times ++ rest
  pub left : (all : List ℕ) → AreTimes all → word ≡ times_word all
      → (next : ℕ) × (later : List ℕ) × (all ≡ times ++ next ∷ later) × (rest ≡ times_word (next ∷ later))

first_of : (all word : List ℕ) → AreTimes all → word ≡ times_word all → (next : ℕ) × (later : List ℕ) × (all ≡ next ∷ later) × (word ≡ times_word (next ∷ later))
first_of [] word h e = absurd (omega (arith, h.0))
first_of (t ∷ all) word h e = (t, all, refl, e)

pub nothing_read : (word : List ℕ) → HasRead word [] word
nothing_read word = record { few = omega arith; short = tt; whole = refl; left = λ all h e. first_of all word h e }

module _ (word times rest : List ℕ) (h : HasRead word times rest) where
  -- the next time of the word is short, and there is room for it
  pub next_is : (all : List ℕ) (k : AreTimes all) (e : word ≡ times_word all) → ((h.left all k e).0 ≤ 10 ^ 9) × (length times < 16)
  next_is all k e =
      let l = h.left all k e in
      let is = ap length l.2 ∙ length-append times (l.0 ∷ l.1) in
      (short_at times l.1 l.0 (rw (← l.2) k.2), omega (arith, is, k.1))

  -- at a comma: what stands before it is the next time, and is not the last
  module _ (first more : List ℕ) (cut : rest ≡ first ++ 44 ∷ more)
      (cuts : (xs ys : List ℕ) → rest ≡ xs ++ 44 ∷ ys → HasNoComma xs → (first ≡ xs) × (more ≡ ys)) where
    goes : (next : ℕ) (later : List ℕ) → next ≤ 10 ^ 9 → rest ≡ times_word (next ∷ later)
        → (first ≡ decimal next) × ((second : ℕ) × (others : List ℕ) × (later ≡ second ∷ others) × (more ≡ times_word later))
    goes next [] low e = absurd (has_comma first more (rw (← cut, e) (decimal_has_none next low)))
    goes next (second ∷ others) low e =
        let parts = cuts (decimal next) (times_word (second ∷ others)) e (decimal_has_none next low) in
        (parts.0, (second, others, refl, parts.1))

    pub first_is : (all : List ℕ) (k : AreTimes all) (e : word ≡ times_word all) → first ≡ decimal (h.left all k e).0
    first_is all k e = let l = h.left all k e in (goes l.0 l.1 (next_is all k e).0 l.3).0

    pub read_more : (t : ℕ) → t ≤ 10 ^ 9 → first ≡ decimal t → length times < 16 → HasRead word (times ++ t ∷ []) more
    read_more t low is room = record {
      few = omega (arith, room, length-append times (t ∷ []));
      short = short_more times t h.short low;
      whole = h.whole ∙ ap (λ l. with_commas times ++ l) (cut ∙ ap (λ f. f ++ 44 ∷ more) is) ∙ sym (with_one_more times t more);
      left = λ all k e.
          let l = h.left all k e in
          let bound = (next_is all k e).0 in
          let g = goes l.0 l.1 bound l.3 in
          let same : l.0 ≡ t = decimal_injective l.0 t (omega (arith, bound)) (omega (arith, low)) (sym g.0 ∙ is) in (
            g.1.0,
            g.1.1,
            l.2 ∙ ap (λ n. times ++ n ∷ l.1) same ∙ ap (λ r. times ++ t ∷ r) g.1.2 ∙ sym (append_assoc times (t ∷ []) (g.1.0 ∷ g.1.1)),
            g.1.3 ∙ ap times_word g.1.2,
          );
    }

  -- with no comma left: what is left is the last time
  module _ (none : HasNoComma rest) where
    ends : (next : ℕ) (later : List ℕ) → rest ≡ times_word (next ∷ later) → later ≡ []
    ends next [] e = refl
    ends next (second ∷ others) e = absurd (has_comma (decimal next) (times_word (second ∷ others)) (rw (← e) none))

    pub last_is : (all : List ℕ) (k : AreTimes all) (e : word ≡ times_word all) → (rest ≡ decimal (h.left all k e).0) × (all ≡ times ++ (h.left all k e).0 ∷ [])
    last_is all k e =
        let l = h.left all k e in
        let over = ends l.0 l.1 l.3 in
        (l.3 ∙ ap (λ r. times_word (l.0 ∷ r)) over, l.2 ∙ ap (λ r. times ++ l.0 ∷ r) over)

    pub read_last : (t : ℕ) → t ≤ 10 ^ 9 → rest ≡ decimal t → length times < 16
        → AreTimes (times ++ t ∷ []) × (word ≡ times_word (times ++ t ∷ [])) × ((all : List ℕ) → AreTimes all → word ≡ times_word all → times ++ t ∷ [] ≡ all)
    read_last t low is room = (
      (omega (arith, length-append times (t ∷ [])), omega (arith, room, length-append times (t ∷ [])), short_more times t h.short low),
      h.whole ∙ ap (λ r. with_commas times ++ r) is ∙ with_last times t,
      λ all k e.
          let l = h.left all k e in
          let last = last_is all k e in
          let same : l.0 ≡ t = decimal_injective l.0 t (omega (arith, (next_is all k e).0)) (omega (arith, low)) (sym last.0 ∙ is) in
          sym (last.1 ∙ ap (λ n. times ++ n ∷ []) same),
    )

-- ---- no word is two lists ----

plain_parts : (xs ys zs ws : List ℕ) → HasNoComma xs → HasNoComma zs → xs ++ 44 ∷ ys ≡ zs ++ 44 ∷ ws → (xs ≡ zs) × (ys ≡ ws)
plain_parts [] ys [] ws h k e = (refl, ap (λ (l : List ℕ). drop 1 l) e)
plain_parts [] ys (z ∷ zs) ws h k e = absurd (k 0 (omega arith) (sym (ap (λ (l : List ℕ). get_or l 0 0) e)))
plain_parts (x ∷ xs) ys [] ws h k e = absurd (h 0 (omega arith) (ap (λ (l : List ℕ). get_or l 0 0) e))
plain_parts (x ∷ xs) ys (z ∷ zs) ws h k e =
    let rest = plain_parts xs ys zs ws (λ i low is. h (suc i) (omega (arith, low)) is) (λ i low is. k (suc i) (omega (arith, low)) is) (ap (λ (l : List ℕ). drop 1 l) e) in
    (ap₂ (λ a (l : List ℕ). a ∷ l) (ap (λ (l : List ℕ). get_or l 0 0) e) rest.0, rest.1)

one_from : (times others : List ℕ) → 1 ≤ length times → 1 ≤ length others → AreShort times → AreShort others → times_word times ≡ times_word others → times ≡ others
one_from [] others some more h k e = absurd (omega (arith, some))
one_from (t ∷ times) [] some more h k e = absurd (omega (arith, more))
one_from (t ∷ []) (u ∷ []) some more h k e = ap (λ n. n ∷ []) (decimal_injective t u (omega (arith, h.0)) (omega (arith, k.0)) e)
one_from (t ∷ []) (u ∷ v ∷ others) some more h k e = absurd (has_comma (decimal u) (times_word (v ∷ others)) (rw (← e) (decimal_has_none t h.0)))
one_from (t ∷ s ∷ times) (u ∷ []) some more h k e = absurd (has_comma (decimal t) (times_word (s ∷ times)) (rw e (decimal_has_none u k.0)))
one_from (t ∷ s ∷ times) (u ∷ v ∷ others) some more h k e =
    let parts = plain_parts (decimal t) (times_word (s ∷ times)) (decimal u) (times_word (v ∷ others)) (decimal_has_none t h.0) (decimal_has_none u k.0) e in
    ap₂ (λ n (l : List ℕ). n ∷ l) (decimal_injective t u (omega (arith, h.0)) (omega (arith, k.0)) parts.0)
    (one_from (s ∷ times) (v ∷ others) (omega arith) (omega arith) h.1 k.1 parts.1)

pub one_list : (times others : List ℕ) → AreTimes times → AreTimes others → times_word times ≡ times_word others → times ≡ others
one_list times others h k e = one_from times others h.0 k.0 h.2 k.2 e

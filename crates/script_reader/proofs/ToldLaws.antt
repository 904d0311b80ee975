-- A look of a low side alone, on lists, is the grammar's.
use Rattle.std.proofs.Common.{◌≡◌, ℕ, ◌+◌, ◌^◌, ◌<◌, ◌≤◌, inl, inr, Bool, true, false, ltb, List, [], ◌∷◌, ◌++◌, None, Some, length, get_or, take, drop, codes, decimal, refl, sym, ap, ◌∙◌, subst, arith, append_assoc, length-append}
use Rattle.std.proofs.lemmas.Bool.{false_from_ne_true, ltb-true, lt-ltb, eqb-true}
use Rattle.std.proofs.lemmas.Option.{same_Some, cond_some}
use Rattle.std.proofs.lemmas.List.{get_or_append_left, get_or_at, take_at, drop_at}
use Rattle.std.proofs.lemmas.List.Sums.{position_or_len_is, split_at_first, passes_at_first}
use Rattle.std.proofs.lemmas.List.Elements.{All-append, All-get_or}
use Rattle.std.proofs.lemmas.Slice.Eq.{bytes_eq-Decides}
use Rattle.std.specs.Prelude.{◌==◌}
use Rattle.std.specs.Str.{bytes_eq}
use Rattle.std.specs.List.{position, position_or_len, All}
use Rattle.script_reader.specs.declared.line.Line.{Line}
use Rattle.script_reader.specs.declared.line.Line.TheVariants.{Told}
use Rattle.script_reader.specs.declared.line.Arriving.{Arriving}
use Rattle.script_reader.specs.declared.line.ToldFeedback.{ToldFeedback}
use Rattle.script_reader.specs.declared.line.ToldFeedback.TheVariants.{Quiet, Full, Pair}
use Rattle.script_reader.specs.Grammar.{IsWord, IsArriving, IsFeedback, outcome_field, HasFields}
use Rattle.script_reader.specs.Parsing.{number, choice, is_slash, pair, feedback, arriving_of, told_of}
use Rattle.script_reader.proofs.Splits.{IsFree, AreFree}
use Rattle.script_reader.proofs.FieldLaws.{number_takes, number_again, choice_takes}
use Rattle.script_reader.proofs.FieldChains.{bind_some, chosen, take_word, take_field, word_put, field_put}
use Rattle.script_reader.proofs.FreeFields.{free_text, free_word, free_decimal, digits_without}
use Rattle.script_reader.proofs.LookLaws.{arriving_takes, arriving_put, free_arriving}

-- ---- two numbers with a slash between ----

abbrev HasNoSlash : List ℕ → Type 0
HasNoSlash field = All (λ b. is_slash b ≡ false) field

unslashed : (n : ℕ) → n < 2 ^ 64 → HasNoSlash (decimal n)
unslashed n fits = digits_without 47 n fits (λ h. absurd (omega (arith, h.0)))

slash_at : (xs ys : List ℕ) → HasNoSlash xs → position is_slash (xs ++ 47 ∷ ys) ≡ Some (length xs)
slash_at xs ys free =
    let long : length xs < length (xs ++ 47 ∷ ys) = omega (arith, length-append xs (47 ∷ ys)) in
    let at : position_or_len is_slash (xs ++ 47 ∷ ys) ≡ length xs = position_or_len_is is_slash (xs ++ 47 ∷ ys) (length xs) 0 (omega (arith, long))
    (λ k below. rw (get_or_append_left xs (47 ∷ ys) 0 k below) (All-get_or (λ b. is_slash b ≡ false) xs k 0 below free))
    (λ low. ap is_slash (get_or_at xs 47 ys 0 (length xs) refl)) in
    rw (at, lt-ltb (length xs) (length (xs ++ 47 ∷ ys)) long) refl

cut_at_slash : (xs : List ℕ) (i : ℕ) → position is_slash xs ≡ Some i → xs ≡ take i xs ++ 47 ∷ drop (i + 1) xs
cut_at_slash xs i e =
    let p = cond_some (ltb (position_or_len is_slash xs) (length xs)) _ i e in
    let low : position_or_len is_slash xs < length xs = ltb-true _ _ p.0 in
    let cut : xs ≡ take i xs ++ (get_or xs i 0 ∷ drop (i + 1) xs) = rw p.1 at (split_at_first is_slash xs 0 low) in
    let here : get_or xs i 0 ≡ 47 = eqb-true _ 47 (rw p.1 at (passes_at_first is_slash xs 0 low)) in
    cut ∙ ap (λ b. take i xs ++ (b ∷ drop (i + 1) xs)) here

pair_takes : (field : List ℕ) (told : ToldFeedback) → pair field ≡ Some told → IsFeedback told field
unfolding pair
pair_takes field told e =
    let a = bind_some (position is_slash field) _ told e in
    let c = bind_some (number (2 ^ 32) (take a.0 field)) _ told a.2 in
    let v = bind_some (number (10 ^ 9 + 1) (drop (a.0 + 1) field)) _ told c.2 in
    let count = number_takes (2 ^ 32) _ c.0 c.1 in
    let average = number_takes (10 ^ 9 + 1) _ v.0 v.1 in
    subst (λ t. IsFeedback t field) (same_Some _ told v.2) (
      count.0,
      omega (arith, average.0),
      cut_at_slash field a.0 a.1 ∙ (λ i. count.1 i ++ 47 ∷ average.1 i),
    )

pair_by : (field : List ℕ) (at count average : ℕ) → position is_slash field ≡ Some at → number (2 ^ 32) (take at field) ≡ Some count
    → number (10 ^ 9 + 1) (drop (at + 1) field) ≡ Some average → pair field ≡ Some (Pair count average)
unfolding pair
pair_by field at count average e c v = rw (e, c, v) refl

pair_again : (count average : ℕ) → count < 2 ^ 32 → average ≤ 10 ^ 9 → pair (decimal count ++ 47 ∷ decimal average) ≡ Some (Pair count average)
pair_again count average hc ha =
    let first = decimal count in
    let second = decimal average in
    let left : take (length first) (first ++ 47 ∷ second) ≡ first = take_at first (47 ∷ second) (length first) refl in
    let right : drop (length first + 1) (first ++ 47 ∷ second) ≡ second =
    ap (drop (length first + 1)) (sym (append_assoc first (47 ∷ []) second)) ∙ drop_at (first ++ 47 ∷ []) second (length first + 1) (length-append first (47 ∷ [])) in
    pair_by (first ++ 47 ∷ second) (length first) count average (slash_at first second (unslashed count (omega (arith, hc))))
    (ap (number (2 ^ 32)) left ∙ number_again (2 ^ 32) count hc (omega arith))
    (ap (number (10 ^ 9 + 1)) right ∙ number_again (10 ^ 9 + 1) average (omega (arith, ha)) (omega arith))

-- ---- what is told ----

-- a field with a slash is no text without one
no_text : (xs ys text : List ℕ) → HasNoSlash xs → position is_slash text ≡ None → bytes_eq (xs ++ 47 ∷ ys) text ≡ false
no_text xs ys text free none =
    false_from_ne_true _ (λ e.
    let same = (bytes_eq-Decides (xs ++ 47 ∷ ys) text).0 e in
    cc (sym (slash_at xs ys free) ∙ ap (position is_slash) same ∙ none))

feedback_takes : (field : List ℕ) (told : ToldFeedback) → feedback field ≡ Some told → IsFeedback told field
unfolding feedback
feedback_takes field told e =
    elim (chosen (bytes_eq field (codes "-")) (Some Quiet) _ told e) [
      | inl p ↦ subst (λ t. IsFeedback t field) (same_Some _ told p.1) ((bytes_eq-Decides field (codes "-")).0 p.0)
      | inr p ↦ elim (chosen (bytes_eq field (codes "full")) (Some Full) (pair field) told p.1) [
        | inl q ↦ subst (λ t. IsFeedback t field) (same_Some _ told q.1) ((bytes_eq-Decides field (codes "full")).0 q.0)
        | inr q ↦ pair_takes field told q.1
      ]
    ]

feedback_again : (told : ToldFeedback) (field : List ℕ) → IsFeedback told field → feedback field ≡ Some told
unfolding feedback
feedback_again Quiet field h = rw h refl
feedback_again Full field h = rw h refl
feedback_again (Pair count average) field h =
    let free = unslashed count (omega (arith, h.0)) in
    rw (h.2, no_text (decimal count) (decimal average) (codes "-") free refl, no_text (decimal count) (decimal average) (codes "full") free refl)
    (pair_again count average h.0 h.1)

free_feedback : (told : ToldFeedback) (field : List ℕ) → IsFeedback told field → IsFree field
free_feedback Quiet field h = rw h (free_text (codes "-") refl)
free_feedback Full field h = rw h (free_text (codes "full") refl)
free_feedback (Pair count average) field h =
    rw h.2 (All-append (λ b. (b == 32) ≡ false) (decimal count) (47 ∷ decimal average) (free_decimal count (omega (arith, h.0)))
    (All-append (λ b. (b == 32) ≡ false) (47 ∷ []) (decimal average) (free_text (47 ∷ []) refl) (free_decimal average (omega (arith, h.1)))))

-- ---- the outcome ----

outcome_takes : (field : List ℕ) (fault : Bool) → choice (codes "fine") (codes "fault") field ≡ Some fault → field ≡ outcome_field fault
outcome_takes field true e = choice_takes (codes "fine") (codes "fault") field true e
outcome_takes field false e = choice_takes (codes "fine") (codes "fault") field false e

outcome_again : (fault : Bool) → choice (codes "fine") (codes "fault") (outcome_field fault) ≡ Some fault
unfolding choice
outcome_again true = refl
outcome_again false = refl

free_outcome : (fault : Bool) → IsFree (outcome_field fault)
free_outcome true = free_text (codes "fault") refl
free_outcome false = free_text (codes "fine") refl

-- ---- the line ----

pub told_takes : (session moment : ℕ) (fields : List (List ℕ)) (line : Line) → session < 2 ^ 32 → moment ≤ 2 ^ 62 → told_of session moment fields ≡ Some line
    → HasFields line (codes "told" ∷ decimal session ∷ decimal moment ∷ fields)
unfolding told_of
told_takes session moment fields line hs hm e =
    take_word fields _ line e (λ w hex fc hc ec e.
    take_field (choice (codes "fine") (codes "fault")) fc _ line e (λ fault outcome fd hd ed e.
    take_field feedback fd _ line e (λ told field ff hf ef e.
    let p = bind_some (arriving_of ff) _ line e in
    subst (λ l. HasFields l (codes "told" ∷ decimal session ∷ decimal moment ∷ fields)) (same_Some _ line p.2) (
      hs,
      hm,
      hex,
      hc,
      field,
      feedback_takes field told hf,
      ff,
      arriving_takes ff p.0 p.1,
      rw (ec, ed, outcome_takes outcome fault hd, ef) refl,
    )
    )))

pub told_put : (session moment w : ℕ) (hex : List ℕ) (fault : Bool) (told : ToldFeedback) (field : List ℕ) (arrival : Arriving) (rest : List (List ℕ))
    → IsWord w hex → IsFeedback told field → IsArriving arrival rest
    → told_of session moment (hex ∷ outcome_field fault ∷ field ∷ rest) ≡ Some (Told session moment w fault told arrival)
unfolding told_of
told_put session moment w hex fault told field arrival rest hw ht ha =
    rw (
      word_put w hex _ hw,
      field_put (choice (codes "fine") (codes "fault")) (outcome_field fault) fault _ (outcome_again fault),
      field_put feedback field told rest (feedback_again told field ht),
      arriving_put arrival rest ha,
    )
    refl

pub free_told : (session moment w : ℕ) (hex : List ℕ) (fault : Bool) (told : ToldFeedback) (field : List ℕ) (arrival : Arriving) (rest : List (List ℕ))
    → session < 2 ^ 32 → moment ≤ 2 ^ 62 → IsWord w hex → IsFeedback told field → IsArriving arrival rest
    → AreFree (decimal session ∷ decimal moment ∷ hex ∷ outcome_field fault ∷ field ∷ rest)
free_told session moment w hex fault told field arrival rest hs hm hw ht ha = (
  free_decimal session (omega (arith, hs)),
  (free_decimal moment (omega (arith, hm)), (free_word w hex hw, (free_outcome fault, (free_feedback told field ht, free_arriving arrival rest ha)))),
)

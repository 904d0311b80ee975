-- Where lines end, and what a reader of lines holds.
use Rattle.std.proofs.Common.{inl, inr, is_some, IsTrue, ◌≡◌, ℕ, ◌+◌, ◌-◌, ◌<◌, ◌≤◌, ◌≢◌, Bool, true, false, cond, ltb, List, [], ◌∷◌, ◌++◌, Option, None, Some, IfSome, length, get_or, take, drop, refl, sym, ap, ◌∙◌, append_assoc, append-nil, arith, length-append, length-drop, length-take}
use Rattle.std.proofs.lemmas.Bool.{ltb-false, ltb-true, lt-ltb, le-ltb, eqb-true, both_ways, eq-eqb}
use Rattle.std.proofs.lemmas.Option.{cond_some}
use Rattle.std.proofs.lemmas.List.{get_or_append_left, get_or_at, get_or-take, take-append-le, take_at, drop-take, drop-drop, length-take-le}
use borrow.Rule.Slice.PartMut.{put_mid}
use lib.Seq.{paste}
use Rattle.std.proofs.Math.Seq.{take-append-add}
use Rattle.std.proofs.lemmas.List.Sums.{split_at_first, fails_before_first, passes_at_first, position_or_len_is}
use Rattle.std.proofs.lemmas.List.Elements.{All-from_get_or, All-head, All-tail, All-get_or}
use Rattle.std.specs.List.{position, position_or_len}
use Rattle.std.specs.Io.KnownBytes.{prepend_known, Consumes, Keeps, IsAtEnd}
use Rattle.memchr.specs.Find.{IsFirstByte, is_byte}
use Rattle.script_reader.specs.declared.line.Line.{Line}
use Rattle.script_reader.specs.Grammar.{IsLine}
use Rattle.script_reader.specs.Lines.{is_end, IsSome, IsUnended, IsBad, LineIsReady}

none_test : (b : Bool) (x : ℕ) → cond b (Some x) None ≡ None → b ≡ false
none_test true x e = cc
none_test false x e = refl

get_or-take-lt : (xs : List ℕ) (i k : ℕ) → k < i → get_or (take i xs) k 0 ≡ get_or xs k 0
get_or-take-lt xs i k h = rw get_or-take refl

not_passing : (b : Bool) → (b ≡ true → ⊥) → b ≡ false
not_passing true h = absurd (h refl)
not_passing false h = refl

-- where a search finds a byte first
pub first_byte : (b : ℕ) (xs : List ℕ) (r : Option ℕ) → IsFirstByte (is_byte b) xs r → r ≡ position (is_byte b) xs
first_byte b xs None none =
    let all : position_or_len (is_byte b) xs ≡ length xs = position_or_len_is (is_byte b) xs (length xs) 0 (omega arith) (λ k low. not_passing (is_byte b (get_or xs k 0)) (none k (omega arith) low)) (λ low. absurd (omega (arith, low))) in
    let test : ltb (position_or_len (is_byte b) xs) (length xs) ≡ false = le-ltb _ _ (omega (arith, all)) in
    rw test refl
first_byte b xs (Some k) found =
    let at : position_or_len (is_byte b) xs ≡ k = position_or_len_is (is_byte b) xs k 0 (omega (arith, found.0.high)) (λ j low. not_passing (is_byte b (get_or xs j 0)) (found.0.before j (omega arith) low)) (λ low. found.1) in
    let test : ltb (position_or_len (is_byte b) xs) (length xs) ≡ true = lt-ltb _ _ (omega (arith, at, found.0.high)) in
    rw (test, at) refl

pub ended : (xs : List ℕ) (i : ℕ) → position is_end xs ≡ Some i → IsUnended (take i xs) × (xs ≡ take i xs ++ 10 ∷ drop (i + 1) xs) × (i < length xs)
ended xs i e =
    let p = cond_some (ltb (position_or_len is_end xs) (length xs)) _ i e in
    let low : position_or_len is_end xs < length xs = ltb-true _ _ p.0 in
    let cut : xs ≡ take i xs ++ (get_or xs i 0 ∷ drop (i + 1) xs) = rw p.1 at (split_at_first is_end xs 0 low) in
    let here : get_or xs i 0 ≡ 10 = eqb-true _ 10 (rw p.1 at (passes_at_first is_end xs 0 low)) in (
      All-from_get_or (λ b. is_end b ≡ false) (take i xs) 0 (λ k below.
          let near : k < i = omega (arith, below, length-take i xs) in
          rw (get_or-take-lt xs i k near) (fails_before_first is_end xs k 0 (omega (arith, near, p.1)))),
      cut ∙ ap (λ b. take i xs ++ (b ∷ drop (i + 1) xs)) here,
      omega (arith, low, p.1),
    )

pub not_ended : (xs : List ℕ) → position is_end xs ≡ None → IsUnended xs
not_ended xs e =
    let past : length xs ≤ position_or_len is_end xs = ltb-false _ _ (none_test _ _ e) in
    All-from_get_or (λ b. is_end b ≡ false) xs 0 (λ i low. fails_before_first is_end xs i 0 (omega arith))

ten_not : (b : ℕ) → is_end b ≡ false → b ≡ 10 → ⊥
ten_not b h e = both_ways (is_end b) h (eq-eqb b 10 e)

-- a list has one first line
pub one_prefix : (xs ys us vs : List ℕ) → IsUnended xs → IsUnended ys → xs ++ 10 ∷ us ≡ ys ++ 10 ∷ vs → (xs ≡ ys) × (us ≡ vs)
one_prefix [] [] us vs p q e = (refl, cc)
one_prefix [] (y ∷ ys) us vs p q e = absurd (ten_not y (All-head (λ b. is_end b ≡ false) y ys q) cc)
one_prefix (x ∷ xs) [] us vs p q e = absurd (ten_not x (All-head (λ b. is_end b ≡ false) x xs p) cc)
one_prefix (x ∷ xs) (y ∷ ys) us vs p q e =
    let r = one_prefix xs ys us vs (All-tail (λ b. is_end b ≡ false) x xs p) (All-tail (λ b. is_end b ≡ false) y ys q) cc in
    (cc, r.1)

nonempty : (xs ys : List ℕ) (y : ℕ) (more : List ℕ) → (xs ++ y ∷ ys) ++ more ≢ []
nonempty [] ys y more e = cc
nonempty (x ∷ xs) ys y more e = cc

-- a first line outside the grammar is bad, whatever follows it
pub bad_line : (held bytes rest more : List ℕ) → held ≡ bytes ++ 10 ∷ rest → IsUnended bytes → ((line : Line) → IsLine line bytes → ⊥) → IsBad (held ++ more)
bad_line held bytes rest more e unended bad =
    record {
      some = rw e (nonempty bytes rest 10 more);
      bad = λ line bs rs h.
          let same : bytes ++ 10 ∷ (rest ++ more) ≡ bs ++ 10 ∷ rs = sym (append_assoc bytes (10 ∷ rest) more) ∙ ap (λ z. z ++ more) (sym e) ∙ h.whole in
          let p = one_prefix bytes bs (rest ++ more) rs unended h.unended same in
          bad line (rw p.0 h.spelled);
    }

some_bytes : (xs more : List ℕ) → 0 < length xs → xs ++ more ≢ []
some_bytes [] more h e = absurd (omega arith)
some_bytes (x ∷ xs) more h e = cc

-- so is one that is too long
pub too_long : (held more : List ℕ) → IsUnended held → 2400 < length held → IsBad (held ++ more)
too_long held more unended long =
    record {
      some = some_bytes held more (omega arith);
      bad = λ line bs rs h.
          let short : length bs < length held = omega (arith, h.spelled.0) in
          let here : get_or (held ++ more) (length bs) 0 ≡ 10 = ap (λ z. get_or z (length bs) 0) h.whole ∙ get_or_at bs 10 rs 0 (length bs) refl in
          let there : get_or held (length bs) 0 ≡ 10 = sym (get_or_append_left held more 0 (length bs) short) ∙ here in
          ten_not _ (All-get_or (λ b. is_end b ≡ false) held (length bs) 0 short unended) there;
    }

-- after some bytes of what is held are given
pub advanced : (cells : List ℕ) (start end len : ℕ) → start + len ≤ end → take (end - (start + len)) (drop (start + len) cells) ≡ drop len (take (end - start) (drop start cells))
advanced cells start end len fits =
    let rest : end - start ≡ len + (end - (start + len)) = omega arith in
    rw (rest, drop-take len (end - (start + len)) (drop start cells), drop-drop len start cells) refl

behind : (held prefix rest into : List ℕ) (len n : ℕ) → prefix ≡ held → length held ≡ len → n ≤ length into → take (len + n) (prefix ++ (into ++ rest)) ≡ held ++ take n into
behind held prefix rest into len n e long few =
    ap (λ z. take (len + n) (z ++ (into ++ rest))) e
    ∙ ap (λ k. take (k + n) (held ++ (into ++ rest))) (sym long)
    ∙ take-append-add held (into ++ rest) n
    ∙ ap (λ z. held ++ z) (take-append-le n into rest few)

-- what is held after it was moved to the prefix and bytes were read behind it
pub held_more : (cells moved into : List ℕ) (start end n k : ℕ) → moved ≡ paste cells 0 (drop start cells) (end - start) → start ≤ end → end ≤ length cells → n ≤ length into
    → take (end - start + n) (put_mid (end - start) k moved into) ≡ take (end - start) (drop start cells) ++ take n into
held_more cells moved into start end n k e order fits few =
    let held = take (end - start) (drop start cells) in
    let long : length held ≡ end - start = length-take-le (end - start) (drop start cells) (omega (arith, length-drop start cells)) in
    let first : take (end - start) moved ≡ held = ap (take (end - start)) e ∙ take_at held (drop (0 + (end - start)) cells) (end - start) long in
    behind held _ _ into _ n first long few

-- bytes that go from the source into what is held are still to come
pub Keeps-moved : (held bs : List ℕ) (a b : Option (List ℕ)) → Consumes a b bs → Keeps (prepend_known held a) (prepend_known (held ++ bs) b)
Keeps-moved held bs None b h = tt
Keeps-moved held bs (Some xs) None h = absurd h
Keeps-moved held bs (Some xs) (Some ys) h = append_assoc held bs ys ∙ ap (λ z. held ++ z) (sym h)

-- what is held stays before what is left of the source
pub Keeps-held : (held : List ℕ) (a b : Option (List ℕ)) → Keeps a b → Keeps (prepend_known held a) (prepend_known held b)
Keeps-held held None b h = tt
Keeps-held held (Some xs) None h = absurd h
Keeps-held held (Some xs) (Some ys) h = ap (λ z. held ++ z) h

pub Keeps-then : (a b c : Option (List ℕ)) → Keeps a b → Keeps b c → Keeps a c
Keeps-then None b c p q = tt
Keeps-then (Some x) None c p q = absurd p
Keeps-then (Some x) (Some y) None p q = absurd q
Keeps-then (Some x) (Some y) (Some z) p q = q ∙ p

-- what is held without a line end, where nothing follows, is bad
unended_bad : (held : List ℕ) → IsUnended held → held ≢ [] → IsBad held
unended_bad held unended some =
    record {
      some = some;
      bad = λ line bs rs h.
          let short : length bs < length held = omega (arith, ap length h.whole, length-append bs (10 ∷ rs)) in
          let here : get_or held (length bs) 0 ≡ 10 = ap (λ z. get_or z (length bs) 0) h.whole ∙ get_or_at bs 10 rs 0 (length bs) refl in
          ten_not _ (All-get_or (λ b. is_end b ≡ false) held (length bs) 0 short unended) here;
    }

pub bad_come : (old a : Option (List ℕ)) (held : List ℕ) → Keeps old (prepend_known held a) → ((more : List ℕ) → IsBad (held ++ more)) → IfSome old IsBad
bad_come None a held k h = tt
bad_come (Some xs) None held k h = absurd k
bad_come (Some xs) (Some ys) held k h = rw (← k) (h ys)

pub bad_last : (old a : Option (List ℕ)) (held : List ℕ) → Keeps old (prepend_known held a) → IsAtEnd a → IsUnended held → held ≢ [] → IfSome old IsBad
bad_last None a held k e unended some = tt
bad_last (Some xs) None held k e unended some = absurd k
bad_last (Some xs) (Some ys) held k e unended some =
    let same : xs ≡ held = sym k ∙ ap (λ z. held ++ z) e ∙ append-nil held in
    rw same (unended_bad held unended some)

pub end_come : (old a : Option (List ℕ)) (held : List ℕ) → Keeps old (prepend_known held a) → IsAtEnd a → held ≡ [] → IsAtEnd old
end_come None a held k e none = tt
end_come (Some xs) None held k e none = absurd k
end_come (Some xs) (Some ys) held k e none = sym k ∙ ap (λ z. z ++ ys) none ∙ e

pub line_come : (old a : Option (List ℕ)) (held bytes rest : List ℕ) → Keeps old (prepend_known held a) → held ≡ bytes ++ 10 ∷ rest → Consumes old (prepend_known rest a) (bytes ++ 10 ∷ [])
line_come None a held bytes rest k e = tt
line_come (Some xs) None held bytes rest k e = absurd k
line_come (Some xs) (Some ys) held bytes rest k e =
    sym k ∙ ap (λ z. z ++ ys) e ∙ append_assoc bytes (10 ∷ rest) ys ∙ sym (append_assoc bytes (10 ∷ []) (rest ++ ys))

-- bytes without a line end that may begin a line are not ready
pub unready : (held : List ℕ) → position is_end held ≡ None → length held ≤ 2400 → LineIsReady held → ⊥
unready held none short ready =
    elim ready [
      | inl ends ↦ ends (not_ended held none)
      | inr long ↦ absurd (omega arith)
    ]

pub ready_here : (held : List ℕ) (o : Option ℕ) → o ≡ position is_end held → is_some o ≡ true → LineIsReady held
ready_here held None e h = cc
ready_here held (Some i) e h =
    let p = ended held i (sym e) in
    inl (λ unended. ten_not 10 (rw (get_or_at (take i held) 10 (drop (i + 1) held) 0 i (length-take-le i held (omega (arith, p.2)))) at (rw p.1 at (All-get_or (λ b. is_end b ≡ false) held i 0 p.2 unended))) refl)

pub ready_by_length : (held : List ℕ) (o : Option ℕ) → o ≡ position is_end held → is_some o ≡ false
    → (IsTrue (ltb 2400 (length held)) → LineIsReady held) × (LineIsReady held → IsTrue (ltb 2400 (length held)))
ready_by_length held None e h = (
  λ long. inr (ltb-true _ _ long),
  λ ready. elim ready [
    | inl ends ↦ absurd (ends (not_ended held (sym e)))
    | inr long ↦ lt-ltb 2400 (length held) long
  ],
)
ready_by_length held (Some i) e h = cc

-- something is to come where something is held
pub some_come : (old a : Option (List ℕ)) (held : List ℕ) → Keeps old (prepend_known held a) → ((more : List ℕ) → IsSome (held ++ more)) → IfSome old IsSome
some_come None a held k h = tt
some_come (Some xs) None held k h = absurd k
some_come (Some xs) (Some ys) held k h = rw (← k) (h ys)

-- a line end stands in it
pub ended_some : (held : List ℕ) (len : ℕ) → position is_end held ≡ Some len → (more : List ℕ) → IsSome (held ++ more)
ended_some held len at more = rw ((ended held len at).1) (nonempty (take len held) (drop (len + 1) held) 10 more)

-- what is held may be given on, as a whole
pub held_come : (old a : Option (List ℕ)) (held : List ℕ) → Keeps old (prepend_known held a) → Consumes old a held
held_come None a held k = tt
held_come (Some xs) None held k = absurd k
held_come (Some xs) (Some ys) held k = sym k

-- .. or in part
pub piece_come : (old a : Option (List ℕ)) (held piece rest : List ℕ) → Keeps old (prepend_known held a) → held ≡ piece ++ rest → Consumes old (prepend_known rest a) piece
piece_come None a held piece rest k e = tt
piece_come (Some xs) None held piece rest k e = absurd k
piece_come (Some xs) (Some ys) held piece rest k e = sym k ∙ ap (λ z. z ++ ys) e ∙ append_assoc piece rest ys

ended_or : (held : List ℕ) (o : Option ℕ) → o ≡ position is_end held → (LineIsReady held → ⊥) → IsUnended held
ended_or held None e not_ready = not_ended held (sym e)
ended_or held (Some i) e not_ready = absurd (not_ready (ready_here held (Some i) e refl))

pub not_ready : (held : List ℕ) → (LineIsReady held → ⊥) → IsUnended held
not_ready held h = ended_or held (position is_end held) refl h

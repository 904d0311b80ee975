-- One message more is dealt out.
use Rattle.std.proofs.Common.{nat_lt, true, false, ◌≡◌, inl, inr, ℕ, zero, suc, ◌+◌, ◌-◌, ◌<◌, ◌≤◌, List, [], ◌∷◌, ◌++◌, length, take, get_or, slice_get, Option, Some, None, refl, sym, ◌∙◌, ap, subst, arith, length-append}
use Rattle.std.proofs.lemmas.Bool.{cases_lt}
use Rattle.std.specs.List.{All}
use Rattle.std.proofs.lemmas.List.{take_all, take_at, get_or_append_left, get_or_at}
use Rattle.std.proofs.lemmas.List.Elements.{All-nil, All-cons, All-push}
use Rattle.pump_core.specs.Passage.{Low, High, ComesNext}
use Rattle.pump_frame.specs.declared.frame.Item.{Item}
use Rattle.stable_buffer.specs.Numbers.{length_at}
use Rattle.stable_buffer.specs.Stands.{InSlot, slot_of}
use Rattle.recovery.specs.Refusals.{bad_slot}
use Rattle.recovery.specs.declared.why.Why.TheVariants.{BadSlot}
use Rattle.pump_frame.specs.declared.row.SessionRow.{SessionRow}
use Rattle.recovery.specs.Deals.{numbered, Fills, InSlots, IsDealt}

pub numbered_snoc : (r : ℕ) (ms : List (List ℕ)) (m : List ℕ) → numbered r (ms ++ m ∷ []) ≡ numbered r ms ++ record { number = r + length ms; payload = m } ∷ []
numbered_snoc r [] m = let e : r ≡ r + 0 = omega arith in λ i. record { number = e i; payload = m } ∷ []
numbered_snoc r (x ∷ ms) m =
    let e : r + 1 + length ms ≡ r + suc (length ms) = omega arith in
    ap (λ (l : List Item). record { number = r; payload = x } ∷ l) (numbered_snoc (r + 1) ms m ∙ (λ i. numbered (r + 1) ms ++ record { number = e i; payload = m } ∷ []))

pub length_numbered : (r : ℕ) (ms : List (List ℕ)) → length (numbered r ms) ≡ length ms
length_numbered r [] = refl
length_numbered r (x ∷ ms) = ap suc (length_numbered (r + 1) ms)

pub comes_all : (k : ℕ) (ms : List (List ℕ)) → ComesNext (numbered k ms) (k + length ms)
comes_all k [] = tt
comes_all k (x ∷ []) = omega arith
comes_all k (x ∷ y ∷ ms) = let e : k + 1 + length (y ∷ ms) ≡ k + length (x ∷ y ∷ ms) = omega arith in subst (λ n. ComesNext (numbered (k + 1) (y ∷ ms)) n) e (comes_all (k + 1) (y ∷ ms))

pub slots_snoc : (row : SessionRow) (b n : ℕ) (ms : List (List ℕ)) (m disk : List ℕ) → b + length ms ≡ n → InSlots row b ms disk → InSlot row n m disk → InSlots row b (ms ++ m ∷ []) disk
slots_snoc row b n ms m disk is all has = λ i lt. elim (cases_lt i (length ms)) [
  | inl early ↦ subst (λ (x : List ℕ). InSlot row (b + i) x disk) (sym (get_or_append_left ms (m ∷ []) [] i early)) (all i early)
  | inr late ↦
      let e : i ≡ length ms = omega (arith, length-append ms (m ∷ [])) in
      let here : n ≡ b + i = omega (arith, is, e) in
      subst (λ (x : List ℕ). InSlot row (b + i) x disk) (sym (get_or_at ms m [] [] i (sym e))) (subst (λ k. InSlot row k m disk) here has)
]

-- ---- slots whose length is too great ----

pub bad_here : (row : SessionRow) (disk : List ℕ) (n k l : ℕ) → 0 < k → l ≡ length_at disk (slot_of row n) → row.message < l → bad_slot row disk n k ≡ Some (BadSlot n l)
bad_here row disk n zero l some is long = absurd (omega (arith, some))
bad_here row disk n (suc k) l some is long =
    let yes : nat_lt row.message (length_at disk (slot_of row n)) ≡ true = grind (arith, is, long) in rw (yes) (λ i. Some (BadSlot n (sym is i)))

pub bad_later : (row : SessionRow) (disk : List ℕ) (n k l : ℕ) → 0 < k → l ≡ length_at disk (slot_of row n) → l ≤ row.message → bad_slot row disk n k ≡ bad_slot row disk (n + 1) (k - 1)
bad_later row disk n zero l some is short = absurd (omega (arith, some))
bad_later row disk n (suc k) l some is short =
    let no : nat_lt row.message (length_at disk (slot_of row n)) ≡ false = grind (arith, is, short) in
    let e : k ≡ suc k - 1 = omega arith in rw (no) (ap (λ j. bad_slot row disk (n + 1) j) e)

-- ---- the hands and the passage together ----

slots_cons : (row : SessionRow) (b : ℕ) (m : List ℕ) (ms : List (List ℕ)) (disk : List ℕ) → InSlot row b m disk → InSlots row (b + 1) ms disk → InSlots row b (m ∷ ms) disk
slots_cons row b m ms disk has all zero lt = let e : b ≡ b + 0 = omega arith in subst (λ k. InSlot row k m disk) e has
slots_cons row b m ms disk has all (suc i) lt = let e : b + 1 + i ≡ b + suc i = omega arith in subst (λ k. InSlot row k (get_or ms i []) disk) e (all i (omega (arith, lt)))

pub get_beyond : (xs : List Item) (k : ℕ) → length xs ≤ k → slice_get xs k ≡ None
get_beyond [] k le = refl
get_beyond (y ∷ xs) zero le = absurd (omega (arith, le))
get_beyond (y ∷ xs) (suc k) le = get_beyond xs k (omega (arith, le))

get_last : (xs : List Item) (x : Item) (k : ℕ) → length xs ≡ k → slice_get (xs ++ x ∷ []) k ≡ Some x
get_last [] x zero is = refl
get_last [] x (suc k) is = absurd (omega (arith, is))
get_last (y ∷ xs) x zero is = absurd (omega (arith, is))
get_last (y ∷ xs) x (suc k) is = get_last xs x k (omega (arith, is))

-- what is dealt out of a disk: its messages, the hands, and what went into the passage
abbrev pub Dealt : SessionRow → ℕ → ℕ → Type 0 → List ℕ → Option Item → Option Item → (Low → High → Type 0) → (Low → High → Type 0) → Type 0
Dealt row b e told disk high low before after = (messages : List (List ℕ)) × (told → InSlots row b messages disk) × IsDealt row b e messages high low before after

abbrev IsShort : SessionRow → List ℕ → Type 0
IsShort row message = length message ≤ row.message

module _ (row : SessionRow) (b e : ℕ) (told : Type 0) (disk : List ℕ) (before after : Low → High → Type 0) where
  pub none_dealt : b ≡ e → ((l : Low) (h : High) → before l h → after l h) → Dealt row b e told disk None None before after
  none_dealt is same = (
    [],
    (λ yes i lt. absurd (omega (arith, lt))),
    record {
      count = omega (arith, is);
      places = omega (arith, is);
      short = All-nil (IsShort row);
      hands = record { first = refl; last = refl };
      fills = λ l h stood empty. subst (λ (z : List Item). after (record l { forwarded = z }) h) (empty ∙ sym (take_all (row.capacity - 2) [] (omega arith))) (same l h stood);
    },
  )

  -- the first message, and those in the passage
  module _ (first : Item) (first_is : first.number ≡ b) (first_short : IsShort row first.payload) (first_has : told → InSlot row b first.payload disk) (ms : List (List ℕ)) (mid_short : All (IsShort row) ms) (mid : told → InSlots row (b + 1) ms disk) (filled : Fills before after (numbered (b + 1) ms)) where
    abbrev head : Item
    head = record { number = b; payload = first.payload }

    is_head : first ≡ head
    is_head = λ i. record { number = first_is i; payload = first.payload }

    pub some_dealt : b + 1 + length ms ≡ e → e ≤ b + row.capacity - 1 → Dealt row b e told disk (Some first) None before after
    some_dealt is fits =
        let size = length_numbered (b + 1) ms in (
          first.payload ∷ ms,
          (λ yes. slots_cons row b first.payload ms disk (first_has yes) (mid yes)),
          record {
            count = omega (arith, is);
            places = omega (arith, fits);
            short = All-cons (IsShort row) first.payload ms first_short mid_short;
            hands = record {
              first = ap (λ (x : Item). Some x) is_head;
              last = sym (get_beyond (numbered b (first.payload ∷ ms)) (row.capacity - 1) (omega (arith, size, is, fits)));
            };
            fills = subst (λ (z : List Item). Fills before after z) (sym (take_all (row.capacity - 2) (numbered (b + 1) ms) (omega (arith, size, is, fits)))) filled;
          },
        )

    pub all_dealt : (last : Item) → last.number ≡ b + row.capacity - 1 → IsShort row last.payload → (told → InSlot row (b + row.capacity - 1) last.payload disk) → 3 ≤ row.capacity → b + 1 + length ms ≡ b + row.capacity - 1 → e ≡ b + row.capacity
        → Dealt row b e told disk (Some first) (Some last) before after
    all_dealt last last_is last_short last_has wide is whole =
        let size = length_numbered (b + 1) ms in
        let at : b + 1 + length ms ≡ last.number = omega (arith, is, last_is) in
        let end : numbered (b + 1) (ms ++ last.payload ∷ []) ≡ numbered (b + 1) ms ++ last ∷ [] =
        numbered_snoc (b + 1) ms last.payload ∙ (λ i. numbered (b + 1) ms ++ record { number = at i; payload = last.payload } ∷ []) in
        let back : numbered b (first.payload ∷ (ms ++ last.payload ∷ [])) ≡ head ∷ (numbered (b + 1) ms ++ last ∷ []) = ap (λ (l : List Item). head ∷ l) end in
        let there : take (row.capacity - 2) (numbered (b + 1) ms ++ last ∷ []) ≡ numbered (b + 1) ms =
        take_at (numbered (b + 1) ms) (last ∷ []) (row.capacity - 2) (omega (arith, size, is)) in (
          first.payload ∷ (ms ++ last.payload ∷ []),
          (λ yes. slots_cons row b first.payload (ms ++ last.payload ∷ []) disk (first_has yes)
              (slots_snoc row (b + 1) (b + row.capacity - 1) ms last.payload disk is (mid yes) (last_has yes))),
          record {
            count = omega (arith, length-append ms (last.payload ∷ []), is, whole, wide);
            places = omega (arith, whole);
            short = All-cons (IsShort row) first.payload (ms ++ last.payload ∷ []) first_short (All-push (IsShort row) ms last.payload mid_short last_short);
            hands = record {
              first = ap (λ (x : Item). Some x) is_head;
              last = sym (ap (λ (l : List Item). slice_get l (row.capacity - 1)) back ∙ get_last (head ∷ numbered (b + 1) ms) last (row.capacity - 1) (omega (arith, size, is, wide)));
            };
            fills = subst (λ (z : List Item). Fills before after z) (sym (ap (λ (l : List Item). take (row.capacity - 2) l) end ∙ there)) filled;
          },
        )

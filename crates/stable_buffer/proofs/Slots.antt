-- Slots, and what writes leave of them.
use Rattle.std.proofs.Common.{◌≡◌, ◌≢◌, ◌⊎◌, inl, inr, ℕ, suc, ◌+◌, ◌-◌, ◌*◌, ◌/◌, ◌%◌, ◌<◌, ◌≤◌, List, [], ◌∷◌, ◌++◌, length, get_or, take, drop, refl, sym, ◌∙◌, ap, subst, arith, append_assoc, length-append}
use Rattle.std.proofs.Math.Nat.{mul-le-mul_left, div-add-mod}
use Rattle.std.proofs.lemmas.Bool.{cases_lt}
use Rattle.std.proofs.lemmas.List.{take-take, drop-drop, drop-take, get_or_append_left, get_or_at, take_at, drop_at, length-take-le}
use Rattle.disk_model.specs.Disk.{Torn, IsWritten}
use Rattle.stable_buffer.specs.Register.{cell_at, place_of, selected, value_of, SameOutside, KeepsValue, MayTurnTo, Selects}
use Rattle.stable_buffer.specs.Stands.{HasHeader, spelled, slot_of, low_size, InSlot, LowStands, HighStands, CellStandsOn, MayGain, MayRemove, Removes}
use Rattle.pump_frame.specs.declared.row.SessionRow.{SessionRow}
use Rattle.stable_buffer.proofs.Cells.{byte_before, cell_beside, value-selects}

-- numbers that are less than N apart have different slots
pub apart : (n E N : ℕ) → 0 < N → n < E → E < n + N → n % N ≢ E % N
apart n E N some lt near same = elim (cases_lt (n / N) (E / N)) [
  | inl less ↦ let le : suc (n / N) ≤ E / N = omega arith in omega (arith, mul-le-mul_left N le, div-add-mod n N, div-add-mod E N)
  | inr le ↦ omega (arith, mul-le-mul_left N le, div-add-mod n N, div-add-mod E N)
]

-- different slots don't overlap
spaced : (w i j : ℕ) → i ≢ j → (i * w + w ≤ j * w) ⊎ (j * w + w ≤ i * w)
spaced w i j ne = elim (cases_lt i j) [
  | inl lt ↦ inl (let le : suc i ≤ j = omega arith in omega (arith, mul-le-mul_left w le))
  | inr le ↦ inr (let le' : suc j ≤ i = omega arith in omega (arith, mul-le-mul_left w le'))
]

inside : (w k N : ℕ) → k < N → k * w + w ≤ N * w
inside w k N lt = let le : suc k ≤ N = lt in omega (arith, mul-le-mul_left w le)

module _ (at n : ℕ) (old new : List ℕ) (torn : Torn at n old new) where
  range_before : (p k : ℕ) → p + k ≤ at → take k (drop p new) ≡ take k (drop p old)
  range_before p k le =
      sym (drop-take p k new)
      ∙ ap (λ (l : List ℕ). drop p l) (sym (take-take (p + k) at new le) ∙ ap (λ (l : List ℕ). take (p + k) l) torn.before ∙ take-take (p + k) at old le)
      ∙ drop-take p k old

  range_after : (p k : ℕ) → at + n ≤ p → take k (drop p new) ≡ take k (drop p old)
  range_after p k le =
      let e : at + n + (p - (at + n)) ≡ p = omega arith in
      let there : drop (at + n + (p - (at + n))) new ≡ drop (at + n + (p - (at + n))) old =
      sym (drop-drop (p - (at + n)) (at + n) new) ∙ ap (λ (l : List ℕ). drop (p - (at + n)) l) torn.after ∙ drop-drop (p - (at + n)) (at + n) old in
      ap (λ (l : List ℕ). take k l) (subst (λ j. drop j new ≡ drop j old) e there)

  pub value_beside : 80 ≤ at → value_of new ≡ value_of old
  value_beside le =
      let selector : selected new ≡ selected old = ap (λ b. b % 2) (byte_before at n old new torn 32 (omega arith)) in
      ap (λ p. cell_at new (place_of p)) selector ∙ cell_beside at n (place_of (selected old)) old new torn (inl (omega arith))

-- a write of another slot
pub slot_beside : (row : SessionRow) (k E n : ℕ) (message old new : List ℕ) → 1 ≤ row.capacity → n ≤ 2 + row.message → k % row.capacity ≢ E % row.capacity → Torn (slot_of row E) n old new
    → InSlot row k message old → InSlot row k message new
slot_beside row k E n message old new some fits other torn was = record { fits = was.fits; bytes = range ∙ was.bytes }
  where
    range : take (2 + length message) (drop (slot_of row k) new) ≡ take (2 + length message) (drop (slot_of row k) old)
    range = elim (spaced (2 + row.message) (k % row.capacity) (E % row.capacity) other) [
      | inl below ↦ range_before (slot_of row E) n old new torn (slot_of row k) (2 + length message) (omega (arith, below, was.fits))
      | inr above ↦ range_after (slot_of row E) n old new torn (slot_of row k) (2 + length message) (omega (arith, above, fits))
    ]

-- a write of a slot that holds no message
pub slot_torn : (row : SessionRow) (E b : ℕ) (messages : List (List ℕ)) (n : ℕ) (old new : List ℕ) → 1 ≤ row.capacity → n ≤ 2 + row.message → E + 1 ≤ b + row.capacity
    → LowStands row E b messages old → Torn (slot_of row E) n old new → LowStands row E b messages new
slot_torn row E b messages n old new some fits free stands torn = record {
  header = subst (HasHeader row 76) (sym prefix) stands.header;
  size = omega (arith, torn.no_shorter, torn.no_longer, stands.size, slot_within);
  value = value_beside at n old new torn (omega arith) ∙ stands.value;
  kept = stands.kept;
  count = stands.count;
  slots = λ i lt. slot_beside row (b + i) E n (get_or messages i []) old new some fits (apart (b + i) E row.capacity some (omega (arith, stands.count)) (omega (arith, stands.count))) torn (stands.slots i lt);
}
  where
    w : ℕ
    w = 2 + row.message

    at : ℕ
    at = slot_of row E

    prefix : take 32 new ≡ take 32 old
    prefix = sym (take-take 32 at new (omega arith)) ∙ ap (λ (l : List ℕ). take 32 l) torn.before ∙ take-take 32 at old (omega arith)

    slot_within : slot_of row E + w ≤ low_size row
    slot_within = omega (arith, inside w (E % row.capacity) row.capacity (omega arith))

pub slot_torn_stands_on : (row : SessionRow) (parity first second n : ℕ) (old new : List ℕ) → 1 ≤ row.capacity → n ≤ 2 + row.message → Selects parity first second old → Torn (slot_of row first) n old new → CellStandsOn row old new
slot_torn_stands_on row parity first second n old new some fits selects torn = record {
  same = λ E b messages free stands.
      let e : first ≡ E = ap (λ (v : ℕ × ℕ). v.0) (sym (value-selects parity first second old selects) ∙ stands.value) in
      slot_torn row E b messages n old new some fits free stands (subst (λ f. Torn (slot_of row f) n old new) e torn);
}

-- what stands behind the register stays with the rest
behind : (old new : List ℕ) → SameOutside old new → (p : ℕ) → 80 ≤ p → drop p new ≡ drop p old
behind old new same p le =
    let e : 80 + (p - 80) ≡ p = omega arith in
    let there : drop (80 + (p - 80)) new ≡ drop (80 + (p - 80)) old =
    sym (drop-drop (p - 80) 80 new) ∙ ap (λ (l : List ℕ). drop (p - 80) l) same.rest ∙ drop-drop (p - 80) 80 old in
    subst (λ j. drop j new ≡ drop j old) e there

pub slot_stays : (row : SessionRow) (n : ℕ) (message old new : List ℕ) → SameOutside old new → InSlot row n message old → InSlot row n message new
slot_stays row n message old new same was = record {
  fits = was.fits;
  bytes = ap (λ (l : List ℕ). take (2 + length message) l) (behind old new same (slot_of row n) (omega arith)) ∙ was.bytes;
}

-- the register is written, and its value stays
pub register_stands : (row : SessionRow) (E b : ℕ) (messages : List (List ℕ)) (old new : List ℕ) → SameOutside old new → value_of new ≡ value_of old → LowStands row E b messages old → LowStands row E b messages new
register_stands row E b messages old new same value stands = record {
  header = subst (HasHeader row 76) (sym same.prefix) stands.header;
  size = same.size ∙ stands.size;
  value = value ∙ stands.value;
  kept = stands.kept;
  count = stands.count;
  slots = λ i lt. slot_stays row (b + i) (get_or messages i []) old new same (stands.slots i lt);
}

pub register_stands_on : (row : SessionRow) (old new : List ℕ) → KeepsValue old new → CellStandsOn row old new
register_stands_on row old new keeps = record { same = λ E b messages free stands. register_stands row E b messages old new keeps.outside keeps.value stands }

-- the register turns to the next count, and the slot has the message
pub register_gains : (row : SessionRow) (E b : ℕ) (messages : List (List ℕ)) (message old new : List ℕ) → E + 1 ≤ b + row.capacity → SameOutside old new → value_of new ≡ (E + 1, 0) → InSlot row E message old
    → LowStands row E b messages old → LowStands row (E + 1) b (messages ++ message ∷ []) new
register_gains row E b messages message old new free same value has stands = record {
  header = subst (HasHeader row 76) (sym same.prefix) stands.header;
  size = same.size ∙ stands.size;
  value = value;
  kept = free;
  count = omega (arith, stands.count, length-append messages (message ∷ []));
  slots = λ i lt. elim (cases_lt i (length messages)) [
    | inl early ↦
        subst (λ (m : List ℕ). InSlot row (b + i) m new) (sym (get_or_append_left messages (message ∷ []) [] i early))
        (slot_stays row (b + i) (get_or messages i []) old new same (stands.slots i early))
    | inr late ↦
        let e : i ≡ length messages = omega (arith, length-append messages (message ∷ [])) in
        let n : E ≡ b + i = omega (arith, stands.count) in
        subst (λ (m : List ℕ). InSlot row (b + i) m new) (sym (get_or_at messages message [] [] i (sym e)))
        (subst (λ k. InSlot row k message new) n (slot_stays row E message old new same has))
  ];
}

-- a selector that is written, whatever a crash makes of it
pub turn_gains : (row : SessionRow) (parity first second : ℕ) (message old new : List ℕ) → Selects parity first second old → InSlot row first message old → MayTurnTo (first + 1, 0) old new → MayGain row message old new
turn_gains row parity first second message old new selects has turn = record {
  either = λ E b messages free stands.
      let e : first ≡ E = ap (λ (v : ℕ × ℕ). v.0) (sym (value-selects parity first second old selects) ∙ stands.value) in
      elim turn.value [
        | inl stays ↦ inl (register_stands row E b messages old new turn.outside stays stands)
        | inr turns ↦
            inr (register_gains row E b messages message old new free turn.outside (subst (λ f. value_of new ≡ (f + 1, 0)) e turns) (subst (λ f. InSlot row f message old) e has) stands)
      ];
}

pub gain_after : (row : SessionRow) (message old mid new : List ℕ) → CellStandsOn row old mid → MayGain row message mid new → MayGain row message old new
gain_after row message old mid new on gain = record { either = λ E b messages free stands. gain.either E b messages free (on.same E b messages free stands) }

pub on_after : (row : SessionRow) (old mid new : List ℕ) → CellStandsOn row old mid → CellStandsOn row mid new → CellStandsOn row old new
on_after row old mid new first second = record { same = λ E b messages free stands. second.same E b messages free (first.same E b messages free stands) }

pub on_gains : (row : SessionRow) (message old new : List ℕ) → CellStandsOn row old new → MayGain row message old new
on_gains row message old new on = record { either = λ E b messages free stands. inl (on.same E b messages free stands) }

-- what is written is what stands there
pub holds_range : (old : List ℕ) (at : ℕ) (bytes new : List ℕ) → at ≤ length old → IsWritten old at bytes new → take (length bytes) (drop at new) ≡ bytes
holds_range old at bytes new within holds =
    let rest = drop (at + length bytes) old in
    let split : new ≡ take at old ++ (bytes ++ rest) = holds ∙ append_assoc (take at old) bytes rest in
    ap (λ (l : List ℕ). take (length bytes) (drop at l)) split
    ∙ ap (λ (l : List ℕ). take (length bytes) l) (drop_at (take at old) (bytes ++ rest) at (length-take-le at old within))
    ∙ take_at bytes rest (length bytes) refl

pub slot_within_low : (row : SessionRow) (n : ℕ) → 1 ≤ row.capacity → slot_of row n + (2 + row.message) ≤ low_size row
slot_within_low row n some = omega (arith, inside (2 + row.message) (n % row.capacity) row.capacity (omega arith))

-- a message is written into its slot
pub slot_written : (row : SessionRow) (E n : ℕ) (message bytes old new : List ℕ) → 1 ≤ row.capacity → n ≡ E → bytes ≡ spelled message → length message ≤ row.message → length old ≡ low_size row
    → IsWritten old (slot_of row n) bytes new → InSlot row E message new
slot_written row E n message bytes old new some number is fits size holds = record {
  fits = fits;
  bytes =
      let holds' : IsWritten old (slot_of row E) (spelled message) new = subst (λ (b : List ℕ). IsWritten old (slot_of row E) b new) is (subst (λ k. IsWritten old (slot_of row k) bytes new) number holds) in
      let count : length (spelled message) ≡ 2 + length message = omega arith in
      subst (λ (n : ℕ). take n (drop (slot_of row E) new) ≡ spelled message) count
      (holds_range old (slot_of row E) (spelled message) new (omega (arith, size, slot_within_low row E some)) holds');
}

-- the numbers and messages that a disk stands for, with a slot free
pub record WithRoom (row : SessionRow) (E : ℕ) (disk : List ℕ) : Type 0 where
  pub b : ℕ
  pub messages : List (List ℕ)
  pub free : E + 1 ≤ b + row.capacity
  pub stands : LowStands row E b messages disk

-- the oldest message may be left out
pub with_room : (row : SessionRow) (E b : ℕ) (messages : List (List ℕ)) (disk : List ℕ) → 1 ≤ row.capacity → LowStands row E b messages disk → WithRoom row E disk
with_room row E b [] disk some stands = record { b = b; messages = []; free = omega (arith, stands.count); stands = stands }
with_room row E b (m ∷ messages) disk some stands = record {
  b = b + 1;
  messages = messages;
  free = omega (arith, stands.kept);
  stands = record {
    header = stands.header;
    size = stands.size;
    value = stands.value;
    kept = omega (arith, stands.kept);
    count = omega (arith, stands.count);
    slots = λ i lt. let e : b + suc i ≡ b + 1 + i = omega arith in subst (λ n. InSlot row n (get_or messages i []) disk) e (stands.slots (suc i) (omega arith));
  };
}

high_stays : (row : SessionRow) (B C : ℕ) (old new : List ℕ) → SameOutside old new → value_of new ≡ (C, 0) → HighStands row B old → HighStands row C new
high_stays row B C old new same value stands = record { header = subst (HasHeader row 72) (sym same.prefix) stands.header; size = same.size ∙ stands.size; value = value }

pub high_keeps : (old new : List ℕ) → KeepsValue old new → MayRemove old new
high_keeps old new keeps = record { either = λ row B stands. inl (high_stays row B B old new keeps.outside (keeps.value ∙ stands.value) stands) }

pub high_turns : (first : ℕ) (old mid new : List ℕ) → value_of old ≡ (first, 0) → KeepsValue old mid → MayTurnTo (first + 1, 0) mid new → MayRemove old new
high_turns first old mid new is keeps turn = record {
  either = λ row B stands.
      let e : first ≡ B = ap (λ (v : ℕ × ℕ). v.0) (sym is ∙ stands.value) in
      let between = high_stays row B B old mid keeps.outside (keeps.value ∙ stands.value) stands in
      elim turn.value [
        | inl stays ↦ inl (high_stays row B B mid new turn.outside (stays ∙ between.value) between)
        | inr turns ↦ inr (high_stays row B (B + 1) mid new turn.outside (subst (λ f. value_of new ≡ (f + 1, 0)) e turns) between)
      ];
}

pub high_removes : (first : ℕ) (old mid new : List ℕ) → value_of old ≡ (first, 0) → KeepsValue old mid → SameOutside mid new → value_of new ≡ (first + 1, 0) → Removes old new
high_removes first old mid new is keeps outside turned = record {
  more = λ row B stands.
      let e : first ≡ B = ap (λ (v : ℕ × ℕ). v.0) (sym is ∙ stands.value) in
      let between = high_stays row B B old mid keeps.outside (keeps.value ∙ stands.value) stands in
      high_stays row B (B + 1) mid new outside (subst (λ f. value_of new ≡ (f + 1, 0)) e turned) between;
}

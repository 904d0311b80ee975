-- Records, and what writes leave of them.
use Rattle.std.proofs.Common.{◌≡◌, inl, inr, ℕ, zero, suc, ◌+◌, ◌-◌, ◌<◌, ◌≤◌, ◌^◌, List, [], ◌∷◌, ◌++◌, length, take, drop, refl, sym, ◌∙◌, ap, subst, arith, length-append, length-drop}
use Rattle.std.proofs.lemmas.List.{take-take, drop-drop, drop-take, length-take-le, take_all}
use Rattle.byteorder.specs.Numbers.{big_number-reads_back}
use Rattle.disk_model.specs.Disk.{Torn, IsWritten}
use Rattle.pump_frame.specs.declared.row.SessionRow.{SessionRow}
use Rattle.stable_buffer.specs.Numbers.{length_at}
use Rattle.stable_buffer.specs.Register.{value_of, SameOutside, KeepsValue, MayTurnTo, Selects}
use Rattle.stable_buffer.specs.Stands.{HasHeader, spelled}
use Rattle.stable_buffer.specs.Log.{Records, RecvStands, log_of}
use Rattle.stable_buffer.proofs.Cells.{value-selects}
use Rattle.stable_buffer.proofs.Slots.{value_beside, holds_range}
use Rattle.high_receiver.specs.Steps.{LogStandsOn, MayTake}

-- a message stands at this offset
pub record StandsAt (at : ℕ) (message disk : List ℕ) : Type 0 where
  pub within : at + (2 + length message) ≤ length disk
  pub bytes : take (2 + length message) (drop at disk) ≡ spelled message

spelled_length : (message : List ℕ) → length (spelled message) ≡ 2 + length message
spelled_length message = omega arith

take_both : {X : Type 0} (a b : ℕ) (l : List X) → take (a + b) l ≡ take a l ++ take b (drop a l)
take_both zero b l = let on : zero + b ≡ b = omega arith in ap (λ n. take n l) on
take_both (suc a) zero [] = let on : suc a + zero ≡ suc a = omega arith in ap (λ n. take n []) on
take_both (suc a) (suc b) [] = let on : suc a + suc b ≡ suc (a + suc b) = omega arith in ap (λ n. take n []) on
take_both (suc a) b (x ∷ l) = let on : suc a + b ≡ suc (a + b) = omega arith in ap (λ n. take n (x ∷ l)) on ∙ ap (λ t. x ∷ t) (take_both a b l)

take_prefix : {X : Type 0} (n : ℕ) (a b : List X) → n ≤ length a → take n (a ++ b) ≡ take n a
take_prefix zero a b le = refl
take_prefix (suc n) [] b le = absurd (omega (arith, le))
take_prefix {X = X} (suc n) (x ∷ a) b le = ap (λ (l : List X). x ∷ l) (take_prefix n a b (omega (arith, le)))

drop_prefix : {X : Type 0} (n : ℕ) (a b : List X) → n ≤ length a → drop n (a ++ b) ≡ drop n a ++ b
drop_prefix zero a b le = refl
drop_prefix (suc n) [] b le = absurd (omega (arith, le))
drop_prefix (suc n) (x ∷ a) b le = drop_prefix n a b (omega (arith, le))

-- the length of a spelled message
length_spelled : (message : List ℕ) → length message < 2 ^ 16 → length_at (spelled message) 0 ≡ length message
unfolding length_at
length_spelled message small = big_number-reads_back 2 (length message) message (omega (arith, small))

-- a length depends on the first two bytes
pub length_prefix : (a b : List ℕ) → 2 ≤ length a → length_at (a ++ b) 0 ≡ length_at a 0
unfolding length_at
length_prefix [] b le = absurd (omega (arith, le))
length_prefix (x ∷ []) b le = absurd (omega (arith, le))
length_prefix (x ∷ y ∷ a) b le = refl

-- one record more
pub records_push : (most : ℕ) (messages : List (List ℕ)) (message bytes : List ℕ) → length message ≤ most → length message < 2 ^ 16 → Records most messages bytes
    → Records most (messages ++ message ∷ []) (bytes ++ spelled message)
records_push most [] message (x ∷ bytes) fits small fill = absurd (omega (arith, fill))
records_push most [] message [] fits small fill =
    let whole : take (length message) (drop 2 (spelled message)) ≡ message = take_all (length message) message (omega arith) in
    (omega (arith, spelled_length message), length_spelled message small, fits, whole, omega (arith, length-drop (2 + length message) (spelled message), spelled_length message))
records_push most (m ∷ ms) message bytes fits small (within, is, few, here, fill) =
    let rest = spelled message in (
      omega (arith, within, length-append bytes rest),
      length_prefix bytes rest (omega (arith, within)) ∙ is,
      few,
      ap (λ (l : List ℕ). take (length m) l) (drop_prefix 2 bytes rest (omega (arith, within))) ∙ take_prefix (length m) (drop 2 bytes) rest (omega (arith, within, length-drop 2 bytes)) ∙ here,
      subst (λ (l : List ℕ). Records most (ms ++ message ∷ []) l) (sym (drop_prefix (2 + length m) bytes rest within)) (records_push most ms message (drop (2 + length m) bytes) fits small fill),
    )

-- the count and the end that a register selects
pub end_is : (row : SessionRow) (messages : List (List ℕ)) (first second : ℕ) (disk : List ℕ) → value_of disk ≡ (first, second) → (stands : RecvStands row messages disk)
    → (first ≡ length messages) × (second ≡ stands.end)
end_is row messages first second disk value stands = (ap (λ (v : ℕ × ℕ). v.0) (sym value ∙ stands.value), ap (λ (v : ℕ × ℕ). v.1) (sym value ∙ stands.value))

-- what stands before a write stays
range_before : (at n : ℕ) (old new : List ℕ) → Torn at n old new → (p k : ℕ) → p + k ≤ at → take k (drop p new) ≡ take k (drop p old)
range_before at n old new torn p k le =
    sym (drop-take p k new)
    ∙ ap (λ (l : List ℕ). drop p l) (sym (take-take (p + k) at new le) ∙ ap (λ (l : List ℕ). take (p + k) l) torn.before ∙ take-take (p + k) at old le)
    ∙ drop-take p k old

torn_stands : (row : SessionRow) (messages : List (List ℕ)) (at n : ℕ) (old new : List ℕ) → (stands : RecvStands row messages old) → at ≡ stands.end → Torn at n old new → RecvStands row messages new
torn_stands row messages at n old new stands end torn =
    let prefix : take 32 new ≡ take 32 old = sym (take-take 32 at new (omega (arith, end, stands.from))) ∙ ap (λ (l : List ℕ). take 32 l) torn.before ∙ take-take 32 at old (omega (arith, end, stands.from)) in
    record {
      header = subst (HasHeader row 82) (sym prefix) stands.header;
      end = stands.end;
      from = stands.from;
      within = omega (arith, stands.within, torn.no_shorter);
      value = value_beside at n old new torn (omega (arith, end, stands.from)) ∙ stands.value;
      records = subst (λ (l : List ℕ). Records row.message messages l) (sym (range_before at n old new torn 80 (stands.end - 80) (omega (arith, end, stands.from)))) stands.records;
    }

-- a write at the end
pub torn_on : (row : SessionRow) (parity first second n : ℕ) (old new : List ℕ) → Selects parity first second old → Torn second n old new → LogStandsOn row old new
torn_on row parity first second n old new selects torn = record {
  same = λ messages stands. torn_stands row messages second n old new stands (let e = end_is row messages first second old (value-selects parity first second old selects) stands in e.1) torn;
}

register_stands : (row : SessionRow) (messages : List (List ℕ)) (old new : List ℕ) → SameOutside old new → value_of new ≡ value_of old → RecvStands row messages old → RecvStands row messages new
register_stands row messages old new same value stands = record {
  header = subst (HasHeader row 82) (sym same.prefix) stands.header;
  end = stands.end;
  from = stands.from;
  within = omega (arith, stands.within, same.size);
  value = value ∙ stands.value;
  records = subst (λ (l : List ℕ). Records row.message messages l) (sym (ap (λ (l : List ℕ). take (stands.end - 80) l) same.rest)) stands.records;
}

pub register_on : (row : SessionRow) (old new : List ℕ) → KeepsValue old new → LogStandsOn row old new
register_on row old new keeps = record { same = λ messages stands. register_stands row messages old new keeps.outside keeps.value stands }

-- what stands behind the register stays with the rest
behind : (old new : List ℕ) → SameOutside old new → (p : ℕ) → 80 ≤ p → drop p new ≡ drop p old
behind old new same p le =
    let e : 80 + (p - 80) ≡ p = omega (arith, le) in
    let there : drop (80 + (p - 80)) new ≡ drop (80 + (p - 80)) old =
    sym (drop-drop (p - 80) 80 new) ∙ ap (λ (l : List ℕ). drop (p - 80) l) same.rest ∙ drop-drop (p - 80) 80 old in
    subst (λ j. drop j new ≡ drop j old) e there

pub at_stays : (at : ℕ) (message old new : List ℕ) → 80 ≤ at → SameOutside old new → StandsAt at message old → StandsAt at message new
at_stays at message old new le same was = record {
  within = omega (arith, was.within, same.size);
  bytes = ap (λ (l : List ℕ). take (2 + length message) l) (behind old new same at le) ∙ was.bytes;
}

-- the register turns to the next count and end, and the record stands there
pub register_takes : (row : SessionRow) (messages : List (List ℕ)) (first second : ℕ) (message old new : List ℕ) → length message ≤ row.message → row.message ≤ 1024 → value_of old ≡ (first, second) → SameOutside old new
    → value_of new ≡ (first + 1, second + 2 + length message) → StandsAt second message old → RecvStands row messages old → RecvStands row (messages ++ message ∷ []) new
register_takes row messages first second message old new fits short was same value has stands =
    let e = end_is row messages first second old was stands in
    let n = stands.end - 80 in
    let from : 80 ≤ second = omega (arith, e.1, stands.from) in
    let count : first + 1 ≡ length (messages ++ message ∷ []) = omega (arith, e.0, length-append messages (message ∷ [])) in
    let more : second + 2 + length message - 80 ≡ n + (2 + length message) = omega (arith, e.1, stands.from) in
    let on : 80 + n ≡ second = omega (arith, e.1, stands.from) in
    let place : drop n (drop 80 new) ≡ drop second new = drop-drop n 80 new ∙ ap (λ k. drop k new) on in
    let stays = at_stays second message old new from same has in
    let here : take (2 + length message) (drop second new) ≡ spelled message = stays.bytes in
    let split : log_of (second + 2 + length message) new ≡ log_of stands.end old ++ spelled message =
    ap (λ k. take k (drop 80 new)) more ∙ take_both n (2 + length message) (drop 80 new)
    ∙ (λ i. ap (λ (l : List ℕ). take n l) same.rest i ++ (ap (λ (l : List ℕ). take (2 + length message) l) place ∙ here) i) in
    record {
      header = subst (HasHeader row 82) (sym same.prefix) stands.header;
      end = second + 2 + length message;
      from = omega (arith, from);
      within = omega (arith, has.within, same.size);
      value = value ∙ (λ i. (count i, second + 2 + length message));
      records = subst (λ (l : List ℕ). Records row.message (messages ++ message ∷ []) l) (sym split)
          (records_push row.message messages message (log_of stands.end old) fits (omega (arith, fits, short)) stands.records);
    }

pub turn_takes : (row : SessionRow) (parity first second : ℕ) (message old new : List ℕ) → length message ≤ row.message → row.message ≤ 1024 → Selects parity first second old → StandsAt second message old
    → MayTurnTo (first + 1, second + 2 + length message) old new → MayTake row message old new
turn_takes row parity first second message old new fits short selects has turn = record {
  either = λ messages stands. elim turn.value [
    | inl stays ↦ inl (register_stands row messages old new turn.outside stays stands)
    | inr turns ↦ inr (register_takes row messages first second message old new fits short (value-selects parity first second old selects) turn.outside turns has stands)
  ];
}

-- a record is written
pub at_written : (at : ℕ) (message bytes old new : List ℕ) → bytes ≡ spelled message → at ≤ length old → IsWritten old at bytes new → StandsAt at message new
at_written at message bytes old new is within holds =
    let holds' : IsWritten old at (spelled message) new = subst (λ (b : List ℕ). IsWritten old at b new) is holds in
    let count = spelled_length message in
    record {
      within = omega (arith, ap length holds', length-append (take at old ++ spelled message) (drop (at + length (spelled message)) old), length-append (take at old) (spelled message), length-take-le at old within, count);
      bytes = subst (λ (n : ℕ). take n (drop at new) ≡ spelled message) count (holds_range old at (spelled message) new within holds');
    }

-- the end that a register selects lies within the disk
pub end_within : (row : SessionRow) (parity first second : ℕ) (messages : List (List ℕ)) (disk : List ℕ) → Selects parity first second disk → RecvStands row messages disk → second ≤ length disk
end_within row parity first second messages disk selects stands =
    let e = end_is row messages first second disk (value-selects parity first second disk selects) stands in omega (arith, e.1, stands.within)

-- The writing of new disks.
use Rattle.std.proofs.Common.{◌≡◌, ℕ, ◌+◌, ◌<◌, ◌≤◌, List, ◌++◌, length, take, drop, refl, sym, ◌∙◌, ap, subst, arith, append_assoc, length-append, length-drop}
use Rattle.std.proofs.lemmas.List.{take-take, drop-take, take-append-drop, take_at, drop_at, drop-drop, length-take, length-take-le}
use Rattle.disk_model.specs.Disk.{Meaning, Moves, IsWritten}
use Rattle.disk_model.specs.Ranges.{holds_torn, holds_length}
use Rattle.disk_model.proofs.Run.{weaker, goes_on}
use Rattle.pump_frame.specs.declared.row.SessionRow.{SessionRow}
use Rattle.stable_buffer.specs.Making.{KeepsFirst}
use Rattle.stable_buffer.specs.Numbers.{length_at}
use Rattle.stable_buffer.specs.Stands.{InSlot, slot_of, low_size, spelled}
use Rattle.stable_buffer.proofs.Making.{anything}
use Rattle.stable_buffer.proofs.Slots.{apart, slot_beside, slot_within_low, slot_written}
use Rattle.recovery.specs.Moves.{with_message}
use Rattle.recovery.proofs.Slots.{slot_length}

take_both : (a b : ℕ) (l : List ℕ) → take (a + b) l ≡ take a l ++ take b (drop a l)
take_both a b l =
    let prefix : take a (take (a + b) l) ≡ take a l = take-take a (a + b) l (omega arith) in
    sym (take-append-drop a (take (a + b) l)) ∙ (λ i. prefix i ++ drop-take a b l i)

-- one piece more of what is copied
pub piece_more : (old src : List ℕ) (at to done size : ℕ) (mid new piece : List ℕ) → to ≤ length old → at + done + size ≤ length src → IsWritten old to (take done (drop at src)) mid
    → piece ≡ take size (drop (at + done) src) → IsWritten mid (to + done) piece new → IsWritten old to (take (done + size) (drop at src)) new
piece_more old src at to done size mid new piece starts within so_far is wrote =
    let xs = take done (drop at src) in
    let ys = take size (drop done (drop at src)) in
    let ys_is : piece ≡ ys = is ∙ ap (λ (l : List ℕ). take size l) (sym (drop-drop done at src)) in
    let few : length xs ≡ done = length-take-le done (drop at src) (omega (arith, length-drop at src, within)) in
    let many : length ys ≡ size = length-take-le size (drop done (drop at src)) (omega (arith, length-drop at src, length-drop done (drop at src), within)) in
    let before : length (take to old ++ xs) ≡ to + done = omega (arith, length-append (take to old) xs, length-take-le to old starts, few) in
    let rest = drop (to + length xs) old in
    let kept : take (to + done) mid ≡ take to old ++ xs = ap (λ (l : List ℕ). take (to + done) l) so_far ∙ take_at (take to old ++ xs) rest (to + done) before in
    let left : drop (to + done) mid ≡ rest = ap (λ (l : List ℕ). drop (to + done) l) so_far ∙ drop_at (take to old ++ xs) rest (to + done) before in
    let both : xs ++ ys ≡ take (done + size) (drop at src) = sym (take_both done size (drop at src)) in
    let end : to + length xs + length ys ≡ to + length (xs ++ ys) = omega (arith, length-append xs ys) in
    let after : drop (to + done + length ys) mid ≡ drop (to + length (xs ++ ys)) old =
    sym (drop-drop (length ys) (to + done) mid) ∙ ap (λ (l : List ℕ). drop (length ys) l) left ∙ drop-drop (length ys) (to + length xs) old ∙ ap (λ k. drop k old) end in
    let now : new ≡ take (to + done) mid ++ ys ++ drop (to + done + length ys) mid = subst (λ (p : List ℕ). IsWritten mid (to + done) p new) ys_is wrote in
    let joined : new ≡ take to old ++ (xs ++ ys) ++ drop (to + length (xs ++ ys)) old =
    now ∙ (λ i. kept i ++ ys ++ after i) ∙ ap (λ (l : List ℕ). l ++ drop (to + length (xs ++ ys)) old) (append_assoc (take to old) xs ys) in
    subst (λ (z : List ℕ). IsWritten old to z new) both joined

-- ---- a message that is copied to its slot ----

module _ (to : SessionRow) (n place : ℕ) (bytes old new : List ℕ) (some : 1 ≤ to.capacity) (fits : length bytes ≤ 2 + to.message) (is : place ≡ slot_of to n) (size : length old ≡ low_size to) (wrote : IsWritten old place bytes new) where
  at_slot : IsWritten old (slot_of to n) bytes new
  at_slot = subst (λ p. IsWritten old p bytes new) is wrote

  inside : slot_of to n ≤ length old
  inside = omega (arith, size, slot_within_low to n some)

  pub others_stay : (k : ℕ) (message : List ℕ) → k < n → n < k + to.capacity → InSlot to k message old → InSlot to k message new
  others_stay k message below near was = slot_beside to k n (length bytes) message old new some fits (apart k n to.capacity some below near) (holds_torn old (slot_of to n) bytes new inside at_slot) was

  pub size_stays : length new ≡ low_size to
  size_stays = omega (arith, holds_length old (slot_of to n) bytes new inside at_slot, size, slot_within_low to n some, fits)

pub message_copied : (from to : SessionRow) (n l at place : ℕ) (message src read old new : List ℕ) → from.message ≤ 1024 → 1 ≤ to.capacity → length old ≡ low_size to → InSlot from n message src → l ≡ length_at src at
    → at ≡ slot_of from n → place ≡ slot_of to n → read ≡ src → length message ≤ to.message → IsWritten old place (take (2 + l) (drop at read)) new → InSlot to n message new
message_copied from to n l at place message src read old new small some size s is at_is place_is same fits wrote =
    let length_is : l ≡ length message = is ∙ ap (λ p. length_at src p) at_is ∙ slot_length from small n message src s in
    let bytes : take (2 + l) (drop at read) ≡ spelled message = (λ i. take (2 + length_is i) (drop (at_is i) (same i))) ∙ s.bytes in
    slot_written to n n message (take (2 + l) (drop at read)) old new some refl bytes fits size (subst (λ p. IsWritten old p (take (2 + l) (drop at read)) new) place_is wrote)

pub message_put : (from to : SessionRow) (n l at place : ℕ) (message src read old new : List ℕ) → from.message ≤ 1024 → InSlot from n message src → l ≡ length_at src at
    → at ≡ slot_of from n → place ≡ slot_of to n → read ≡ src → IsWritten old place (take (2 + l) (drop at read)) new → new ≡ with_message to n message old
message_put from to n l at place message src read old new small s is at_is place_is same wrote =
    let length_is : l ≡ length message = is ∙ ap (λ p. length_at src p) at_is ∙ slot_length from small n message src s in
    let bytes : take (2 + l) (drop at read) ≡ spelled message = (λ i. take (2 + length_is i) (drop (at_is i) (same i))) ∙ s.bytes in
    wrote ∙ (λ i. take (place_is i) old ++ bytes i ++ drop (place_is i + length (bytes i)) old)

pub read_few : (k at : ℕ) (src : List ℕ) → length (take k (drop at src)) ≤ k
read_few k at src = omega (arith, length-take k (drop at src))

pub first_weaker : {D : Type 0} (m : Meaning D) (k n : ℕ) (old new : D) → k ≤ n → Moves m (KeepsFirst n) old new → Moves m (KeepsFirst k) old new
first_weaker m k n old new le moved = weaker m (λ c. Unit {0}) (KeepsFirst n) (KeepsFirst k) old new (anything m old)
    (λ c d _ keeps. record { same = sym (take-take k n d le) ∙ ap (λ (l : List ℕ). take k l) keeps.same ∙ take-take k n c le }) moved

pub first_again : {D : Type 0} (m : Meaning D) (k : ℕ) (old mid new : D) → Moves m (KeepsFirst k) old mid → Moves m (KeepsFirst k) mid new → Moves m (KeepsFirst k) old new
first_again m k old mid new so_far moved = goes_on m (λ c. Unit {0}) (KeepsFirst k) (KeepsFirst k) (KeepsFirst k) old mid new (anything m old) (λ c d _ keeps. keeps)
    (λ c d e _ first second. record { same = second.same ∙ first.same }) so_far moved

-- A disk stands for one list of messages.
use Rattle.std.proofs.Common.{◌≡◌, ℕ, ◌+◌, ◌-◌, ◌<◌, List, [], ◌∷◌, length, get_or, take, drop, sym, ap, ◌∙◌, subst, arith, length-drop, refl}
use Rattle.std.proofs.lemmas.List.{ext_get_or, get_or-drop}
use Rattle.stable_buffer.specs.Stands.{InSlot}
use Rattle.stable_buffer.specs.Log.{Records, log_of}
use Rattle.recovery.specs.Readings.{LowTells, ReceiverTells}
use Rattle.recovery.proofs.Rows.{row_message}
use Rattle.recovery.proofs.Slots.{slot_one}

pub low_tells : LowTells
low_tells row count b later messages rest disk lawful le s t =
    let k = later - b in
    let size : length rest ≡ length (drop k messages) = omega (arith, length-drop k messages, s.count, t.count, le) in
    ext_get_or [] rest (drop k messages) size (λ i lt.
    let e : b + (k + i) ≡ later + i = omega (arith, le) in
    let within : k + i < length messages = omega (arith, lt, s.count, t.count, le) in
    let has : InSlot row (later + i) (get_or messages (k + i) []) disk = subst (λ j. InSlot row j (get_or messages (k + i) []) disk) e (s.slots (k + i) within) in
    slot_one row (row_message row lawful) (later + i) (get_or rest i []) (get_or messages (k + i) []) disk (t.slots i lt) has ∙ sym (get_or-drop k messages i []))

one_log : (most : ℕ) (xs ys : List (List ℕ)) (bytes : List ℕ) → length xs ≡ length ys → Records most xs bytes → Records most ys bytes → xs ≡ ys
one_log most [] [] bytes same r s = refl
one_log most [] (y ∷ ys) bytes same r s = absurd (omega (arith, same))
one_log most (x ∷ xs) [] bytes same r s = absurd (omega (arith, same))
one_log most (x ∷ xs) (y ∷ ys) bytes same (_, ex, _, tx, rx) (_, ey, _, ty, ry) =
    let size : length x ≡ length y = sym ex ∙ ey in
    let first : x ≡ y = sym tx ∙ ap (λ k. take k (drop 2 bytes)) size ∙ ty in
    let later : xs ≡ ys = one_log most xs ys (drop (2 + length x) bytes) (omega (arith, same)) rx (subst (λ k. Records most ys (drop (2 + k) bytes)) (sym size) ry) in
    (λ i. first i ∷ later i)

pub receiver_tells : ReceiverTells
receiver_tells row xs ys disk r s =
    let value : (length xs, r.end) ≡ (length ys, s.end) = sym r.value ∙ s.value in
    one_log row.message xs ys (log_of r.end disk) (ap (λ (v : ℕ × ℕ). v.0) value) r.records
    (subst (λ (n : ℕ). Records row.message ys (log_of n disk)) (sym (ap (λ (v : ℕ × ℕ). v.1) value)) s.records)

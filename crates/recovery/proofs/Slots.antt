-- A message in its slot.
use Rattle.std.proofs.Common.{◌≡◌, ℕ, ◌+◌, ◌≤◌, List, length, get_or, take, drop, sym, ◌∙◌, ap, arith}
use Rattle.std.proofs.lemmas.List.{get_or-drop, get_or-take, get_or_append_left}
use Rattle.byteorder.specs.Endian.{big_bytes}
use Rattle.pump_frame.specs.declared.row.SessionRow.{SessionRow}
use Rattle.stable_buffer.specs.Numbers.{length_at}
use Rattle.stable_buffer.specs.Stands.{InSlot, slot_of}
use Rattle.recovery.proofs.Words.{length_at-written}

pub slot_length : (row : SessionRow) → row.message ≤ 1024 → (n : ℕ) (m disk : List ℕ) → InSlot row n m disk → length_at disk (slot_of row n) ≡ length m
slot_length row small n m disk s = length_at-written disk (slot_of row n) (length m) (omega (arith, s.fits, small))
    (λ i lt.
    sym (get_or-drop (slot_of row n) disk i 0) ∙ sym (get_or-take (2 + length m) (drop (slot_of row n) disk) i 0 (omega (arith, lt))) ∙ ap (λ (l : List ℕ). get_or l i 0) s.bytes
    ∙ get_or_append_left (big_bytes 2 (length m)) m 0 i (omega (arith, lt)))

-- a slot has one message
pub slot_one : (row : SessionRow) → row.message ≤ 1024 → (n : ℕ) (m k disk : List ℕ) → InSlot row n m disk → InSlot row n k disk → m ≡ k
slot_one row small n m k disk s t =
    let e : length m ≡ length k = sym (slot_length row small n m disk s) ∙ slot_length row small n k disk t in
    ap (λ (l : List ℕ). drop 2 l) (sym s.bytes ∙ ap (λ j. take (2 + j) (drop (slot_of row n) disk)) e ∙ t.bytes)

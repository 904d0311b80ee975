-- Which of the causes refuses the disks that are opened.
use Rattle.std.proofs.Common.{◌≡◌, ◌⊎◌, inl, inr, ℕ, ◌+◌, ◌-◌, ◌^◌, ◌<◌, ◌≤◌, ◌==◌, ◌&&◌, nat_le, if◌then◌else◌, Bool, true, false, List, length, Option, Some, None, refl, sym, ◌∙◌, arith}
use Rattle.pump_frame.specs.declared.row.SessionRow.{SessionRow}
use Rattle.disk_model.specs.declared.name.Role.{Role}
use Rattle.disk_model.specs.declared.name.Role.TheVariants.{Low, High, Recv}
use Rattle.stable_buffer.specs.Register.{value_of}
use Rattle.stable_buffer.specs.Log.{is_log, log_of}
use Rattle.recovery.specs.Refusals.{refused_shape, refused_count, refused_log, refused_receiver, refused_disk, refused_pair, refused_pump, bad_slot, told_of, or_else}
use Rattle.recovery.specs.declared.why.Why.{Why}
use Rattle.recovery.specs.declared.why.Why.TheVariants.{Mismatch, BadRegister}

le_true : (a b : ℕ) → a ≤ b → nat_le a b ≡ true
le_true a b le = grind (arith, le)

le_false : (a b : ℕ) → b < a → nat_le a b ≡ false
le_false a b less = grind (arith, less)

and_false : (b : Bool) → (b && false) ≡ false
and_false true = refl
and_false false = refl

far_false : (b e c : ℕ) → (e < b) ⊎ (b + c < e) → (nat_le b e && nat_le e (b + c)) ≡ false
far_false b e c (inl less) = rw (le_false b e less) refl
far_false b e c (inr more) = rw (le_true b e (omega (arith, more)), le_false e (b + c) more) refl

module _ (row : SessionRow) (low high : List ℕ) where
  pub refused_low : (why : Why) → refused_disk row Low low ≡ Some why → refused_pump row low high ≡ Some (Low, why)
  refused_low why one = λ i. or_else (told_of Low (one i)) (or_else (told_of High (refused_disk row High high)) (refused_pair row (value_of high).0 (value_of low).0 low))

  pub refused_high : (why : Why) → refused_disk row Low low ≡ None → refused_disk row High high ≡ Some why → refused_pump row low high ≡ Some (High, why)
  refused_high why one two = λ i. or_else (told_of Low (one i)) (or_else (told_of High (two i)) (refused_pair row (value_of high).0 (value_of low).0 low))

  -- two disks of which neither alone is refused
  module _ (E B : ℕ) (one : refused_disk row Low low ≡ None) (two : refused_disk row High high ≡ None) (is_low : value_of low ≡ (E, 0)) (is_high : value_of high ≡ (B, 0)) where
    pub refused_both : refused_pump row low high ≡ refused_pair row B E low
    refused_both = λ i. or_else (told_of Low (one i)) (or_else (told_of High (two i)) (refused_pair row (is_high i).0 (is_low i).0 low))

    pub refused_counts : (E < B) ⊎ (B + row.capacity < E) → refused_pump row low high ≡ Some (High, Mismatch B E)
    refused_counts apart = refused_both ∙ (λ i. if far_false B E row.capacity apart i then told_of Low (bad_slot row low B (E - B)) else Some (High, Mismatch B E))

    pub refused_slots : (why : Option Why) → B ≤ E → E ≤ B + row.capacity → bad_slot row low B (E - B) ≡ why → refused_pump row low high ≡ told_of Low why
    refused_slots why below above slots = refused_both ∙ (λ i. if le_true B E below i && le_true E (B + row.capacity) above i then told_of Low (slots i) else Some (High, Mismatch B E))

not_zero : (b : ℕ) → (b ≡ 0 → ⊥) → (b == 0) ≡ false
not_zero b some = grind (arith, some)

many_false : (a b : ℕ) → (2 ^ 48 < a) ⊎ (b ≡ 0 → ⊥) → (nat_le a (2 ^ 48) && (b == 0)) ≡ false
many_false a b (inl more) = rw (le_false a (2 ^ 48) more) refl
many_false a b (inr some) = rw (not_zero b some) (and_false (nat_le a (2 ^ 48)))

module _ (row : SessionRow) (role : Role) (disk : List ℕ) where
  pub refused_alone : (why : Why) → refused_shape row role disk ≡ Some why → refused_disk row role disk ≡ Some why
  refused_alone why is = λ i. or_else (is i) (refused_count (value_of disk))

  pub fine_alone : (first second : ℕ) → refused_shape row role disk ≡ None → (first, second) ≡ value_of disk → first ≤ 2 ^ 48 → second ≡ 0 → refused_disk row role disk ≡ None
  fine_alone first second shape value few none =
      (λ i. or_else (shape i) (refused_count (sym value i))) ∙ (λ i. if le_true first (2 ^ 48) few i && (none i == 0) then None else Some (BadRegister first second))

  pub count_alone : (first second : ℕ) → refused_shape row role disk ≡ None → (first, second) ≡ value_of disk → (2 ^ 48 < first) ⊎ (second ≡ 0 → ⊥) → refused_disk row role disk ≡ Some (BadRegister first second)
  count_alone first second shape value apart =
      (λ i. or_else (shape i) (refused_count (sym value i))) ∙ (λ i. if many_false first second apart i then None else Some (BadRegister first second))

module _ (row : SessionRow) (size : ℕ) (disk : List ℕ) where
  pub refused_by_shape : (why : Why) → refused_shape row Recv disk ≡ Some why → refused_receiver row size disk ≡ Some why
  refused_by_shape why is = λ i. or_else (is i) (refused_log row size disk (value_of disk))

  -- a disk whose shape isn't refused, and whose register is in its ranges
  module _ (first second : ℕ) (shape : refused_shape row Recv disk ≡ None) (value : (first, second) ≡ value_of disk) where
    within : (b : Bool) → first ≤ 2 ^ 48 → 80 ≤ second → second ≤ length disk → second ≤ size → is_log row.message first (log_of second disk) ≡ b
        → refused_receiver row size disk ≡ (if b then None else Some (BadRegister first second))
    within b few from inside room fills =
        (λ i. or_else (shape i) (refused_log row size disk (sym value i)))
        ∙ (λ i. if le_true first (2 ^ 48) few i && (le_true 80 second from i && (le_true second (length disk) inside i && (le_true second size room i && fills i))) then None else Some (BadRegister first second))

    pub refused_by_records : first ≤ 2 ^ 48 → 80 ≤ second → second ≤ length disk → second ≤ size → is_log row.message first (log_of second disk) ≡ false → refused_receiver row size disk ≡ Some (BadRegister first second)
    refused_by_records = within false

    pub receiver_fine : first ≤ 2 ^ 48 → 80 ≤ second → second ≤ length disk → second ≤ size → is_log row.message first (log_of second disk) ≡ true → refused_receiver row size disk ≡ None
    receiver_fine = within true

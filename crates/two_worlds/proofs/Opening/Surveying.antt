-- What is read of the live messages of opened disks.
use Rattle.std.proofs.Common.{◌≡◌, ◌≤◌, ◌<◌, ◌+◌, ◌-◌, ℕ, Bool, true, false, List, [], Option, None, Some, IfSome, length, get_or, inl, inr, refl, sym, ap, ◌∙◌, subst, arith}
use Rattle.std.specs.Prelude.{◌&&◌}
use Rattle.std.proofs.lemmas.Bool.{and_parts}
use Rattle.std.proofs.lemmas.List.{ext_get_or}
use Rattle.disk_model.specs.Disk.{Meaning, Moves, Same}
use Rattle.disk_model.proofs.Run.{goes_on_same}
use Rattle.high_receiver.specs.Receiving.{recv_disk, recv_count}
use Rattle.high_receiver.specs.declared.receiver.Receiver.{Receiver}
use Rattle.passage.specs.declared.plain.PlainEnds.{PlainEnds}
use Rattle.pump_frame.specs.Counts.{Rose}
use Rattle.pump_frame.specs.Rows.{IsLawfulRow}
use Rattle.pump_frame.specs.declared.payload.Payload.{Payload}
use Rattle.pump_frame.specs.declared.row.SessionRow.{SessionRow}
use Rattle.recovery.specs.Calls.{is_device}
use Rattle.recovery.specs.Deals.{InSlots}
use Rattle.recovery.specs.declared.pump.Opened.{Opened}
use Rattle.recovery.specs.declared.why.Why.{Why}
use Rattle.recovery.proofs.Rows.{row_message}
use Rattle.recovery.proofs.Slots.{slot_one, slot_length}
use Rattle.script_reader.specs.Openings.{Found, accepted_in}
use Rattle.stable_buffer.specs.Numbers.{length_at}
use Rattle.stable_buffer.specs.Register.{value_of}
use Rattle.two_worlds.proofs.Opening.Opened.{value_by}
use Rattle.stable_buffer.specs.Stands.{LowStands, InSlot, slot_of}
use Rattle.two_worlds.specs.Openings.{StandForFound, is_for_device}
use Rattle.two_worlds.specs.Private.Readied.{PumpOpens, ReceiverOpens}
use Rattle.two_worlds.specs.Rooms.{Serves}
use Rattle.two_worlds.specs.Surveys.{IsRead}

pub if_some : {A : Type 0} (P Q : A → Type 0) (o : Option A) → IfSome o P → ((x : A) → P x → Q x) → IfSome o Q
if_some P Q None h f = tt
if_some P Q (Some x) h f = f x h

-- ---- the messages ----

module _ (row : SessionRow) (lawful : IsLawfulRow row) (next removed : ℕ) (messages : List Payload) (disk : List ℕ) (s : LowStands row next removed messages disk) where
  -- no live message is too long
  pub never_long : (n : ℕ) → removed ≤ n → n < next → row.message < length_at disk (slot_of row n) → ⊥
  never_long n from to long =
      let i = n - removed in
      let count = s.count in
      let lt : i < length messages = omega (arith, from, to, count) in
      let slot = s.slots i lt in
      let at : removed + i ≡ n = omega (arith, from) in
      let size : length_at disk (slot_of row n) ≡ length (get_or messages i []) = ap (λ k. length_at disk (slot_of row k)) (sym at) ∙ slot_length row (row_message row lawful) (removed + i) (get_or messages i []) disk slot in
      let fits = slot.fits in
      omega (arith, long, size, fits)

  -- what is in their slots is what the disk stands for
  pub same_messages : (first : ℕ) (live : List Payload) → first ≡ removed → first + length live ≡ next → InSlots row first live disk → live ≡ messages
  same_messages first live at size stand =
      let count = s.count in
      let long : length live ≡ length messages = omega (arith, at, size, count) in
      ext_get_or [] live messages long (λ i lt.
      slot_one row (row_message row lawful) (first + i) (get_or live i []) (get_or messages i []) disk (stand i lt)
      (subst (λ k. InSlot row (k + i) (get_or messages i []) disk) (sym at) (s.slots i (omega (arith, lt, long)))))

-- ---- the counts ----

module _ {D : Type 0} (m : Meaning D) (told : m.tells) (row : SessionRow) (a b c : List ℕ) (o : Opened D) (ends : PlainEnds) (r : Receiver D)
    (p : PumpOpens m row a b o ends) (f : Found) (s : StandForFound row f a b c) where
  pub same_next : o.next ≡ length (accepted_in f)
  same_next = ap (λ (v : ℕ × ℕ). v.0) (sym (p.stands told).value ∙ s.low_is.value)

  pub same_removed : o.removed ≡ f.removed
  same_removed = ap (λ (v : ℕ × ℕ). v.0) (sym (p.removed told).value ∙ s.high_is.value)

  pub same_taken : ReceiverOpens m row a c o.removed o.next r → m.reading (recv_disk r) ≡ c → recv_count r ≡ length f.received
  same_taken q same = ap (λ (v : ℕ × ℕ). v.0) (sym (value_by _ _ _ _ (q.ready.ready.each.reading told)) ∙ ap value_of same ∙ s.recv_is.value)

-- ---- the disks ----

module _ {D : Type 0} (m : Meaning D) where
  pub read_by : (old new : D) (is_fault : Bool) → Serves m 0 old new is_fault → Moves m Same old new → IsRead m old new is_fault
  read_by old new false (inl same) moves = record { same = moves; counts = subst (λ x. m.count old ≤ m.count x) (sym same.0) (omega arith); rose = λ e. cc }
  read_by old new true (inl same) moves = record { same = moves; counts = subst (λ x. m.count old ≤ m.count x) (sym same.0) (omega arith); rose = λ e. cc (sym same.1) }
  read_by old new false (inr answers) moves = record { same = moves; counts = answers.counts; rose = λ e. cc }
  read_by old new true (inr answers) moves = record { same = moves; counts = answers.counts; rose = λ e. answers.rose refl }

  pub read_then : (old mid new : D) (is_fault : Bool) → IsRead m old mid false → Moves m Same mid new → m.count mid ≤ m.count new → (is_fault ≡ true → Rose (m.count mid) (m.count new)) → IsRead m old new is_fault
  read_then old mid new is_fault first moves more rose =
      let less = first.counts in
      record {
        same = goes_on_same m Same old mid new first.same moves;
        counts = omega (arith, less, more);
        rose = λ e. let up = rose e in omega (arith, less, up);
      }

-- low's disk is blamed where a call of it failed
pub blamed : (R : Type 0) (why : Option Why) → (is_for_device why && true) ≡ true → IfSome why (λ w. is_device w ≡ true → R) → R
blamed R None e h = absurd (cc)
blamed R (Some w) e h = h (and_parts _ _ e).0

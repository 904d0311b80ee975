-- The calls of the disks in an opening, and whose disk is blamed.
use Rattle.std.proofs.Common.{◌≡◌, ◌⊎◌, inl, inr, ℕ, ◌≤◌, ◌<◌, ◌&&◌, Bool, true, false, not, List, length, Option, Some, None, IfSome, is_some, refl, sym, ap, ◌∙◌, subst, arith, le_trans}
use Rattle.std.proofs.lemmas.Bool.{cases_lt}
use Rattle.disk_model.specs.Disk.{Meaning, Answers, Moves, Same}
use Rattle.disk_model.proofs.Run.{goes_on_same}
use Rattle.disk_model.specs.declared.name.Role.{Role}
use Rattle.disk_model.specs.declared.name.Role.TheVariants as roles
use Rattle.pump_frame.specs.Rows.{IsLawfulRow}
use Rattle.pump_frame.specs.declared.row.SessionRow.{SessionRow}
use Rattle.stable_buffer.specs.Format.{size_of}
use Rattle.stable_buffer.specs.Log.{RecvStands}
use Rattle.stable_buffer.specs.Register.{value_of}
use Rattle.stable_buffer.specs.Stands.{LowStands, HighStands}
use Rattle.passage.specs.declared.plain.PlainEnds.{PlainEnds}
use Rattle.stable_buffer.specs.Low.{low_disk, low_is_open}
use Rattle.stable_buffer.specs.declared.low.LowStore.{LowStore}
use Rattle.high_receiver.specs.Receiving.{StandsForSome, recv_disk, recv_count, recv_end, recv_is_open}
use Rattle.high_receiver.specs.declared.receiver.Receiver.{Receiver}
use Rattle.low_process.specs.Storing.{outcome}
use Rattle.recovery.specs.Calls.{Calls, CallsHigh, CallsReceiver, is_high, is_device}
use Rattle.recovery.specs.declared.why.Why.{Why}
use Rattle.recovery.specs.Agreement.{SlotsAgree}
use Rattle.recovery.specs.declared.pump.Opened.{Opened}
use Rattle.script_reader.specs.Openings.{Found}
use Rattle.two_worlds.specs.Openings.{LeavesDisk, StandForFound, IsRefused}
use Rattle.two_worlds.specs.Rooms.{Serves, IsFree, is_role}
use Rattle.two_worlds.specs.Private.Readied.{PumpOpens, ReceiverOpens, role_blamed}
use Rattle.two_worlds.proofs.Disks.Together.{serves_then}
use Rattle.two_worlds.proofs.Opening.Founds.{found, stand_for_found}
use Rattle.two_worlds.proofs.Opening.Opened.{value_by}

-- ---- whose disk ----

pub low_blamed : (device low : Bool) → (device ≡ false → low ≡ true) → (device && is_role roles.Low (role_blamed low)) ≡ not low
low_blamed true true up = refl
low_blamed true false up = refl
low_blamed false true up = refl
low_blamed false false up = let e = up refl in absurd (cc)

pub high_blamed : (device low : Bool) → (device && is_role roles.High (role_blamed low)) ≡ false
high_blamed true true = refl
high_blamed true false = refl
high_blamed false low = refl

pub recv_blamed : (device low recv : Bool) → (device ≡ true → (low ≡ false) ⊎ (recv ≡ false)) → (device ≡ false → recv ≡ true) → (low ≡ false → recv ≡ true) → (device && is_role roles.Recv (role_blamed low)) ≡ not recv
recv_blamed true true true shut up one = elim (shut refl) [ inl e ↦ absurd (cc) | inr e ↦ absurd (cc) ]
recv_blamed true true false shut up one = refl
recv_blamed true false true shut up one = refl
recv_blamed true false false shut up one = let e = one refl in absurd (cc)
recv_blamed false low true shut up one = refl
recv_blamed false low false shut up one = let e = up refl in absurd (cc)

-- the high disk of an opening, by either way of saying it
pub high_said : (role : Role) (device : Bool) → (is_high role && device) ≡ (device && is_role roles.High role)
high_said roles.Low true = refl
high_said roles.Low false = refl
high_said roles.High true = refl
high_said roles.High false = refl
high_said roles.Recv true = refl
high_said roles.Recv false = refl

-- ---- calls ----

module _ {D : Type 0} (m : Meaning D) (least : ℕ) where
  answers_by : (old new : D) (b : Bool) → Calls m old new b → Answers m (least ≤ m.room old) old new (outcome b)
  answers_by old new true c = record {
    counts = c.counts;
    rose = λ e. c.rose refl;
    never = λ plan unarmed fits. (let e = c.never plan unarmed in absurd (cc));
    always = λ plan armed. refl;
    room = c.room;
    disarmed = c.disarmed;
  }
  answers_by old new false c = record {
    counts = c.counts;
    rose = λ e. absurd (cc);
    never = λ plan unarmed fits. refl;
    always = λ plan armed. (let e = c.always plan armed in absurd (cc));
    room = c.room;
    disarmed = c.disarmed;
  }

  pub serves_by : (old new : D) (b : Bool) → Calls m old new b → Serves m least old new b
  serves_by old new b c = inr (answers_by old new b c)

  pub serves_high : (row : SessionRow) (low old new : D) (b : Bool) → CallsHigh m row low old new b → Serves m least old new b
  serves_high row low old new b (inl (calls, go)) = serves_by old new b calls
  serves_high row low old new b (inr (same, none, stop)) = inl (same, none)

  open_still : (o n : Bool) → o ≡ true → n ≡ o → not n ≡ false
  open_still o n is same = ap not (same ∙ is)

  -- low's disk and the receiver's in a comparison: where there is nothing to compare neither is called
  module _ (row : SessionRow) (removed taken next : ℕ) (old new : LowStore D) (before after : Receiver D)
      (idle : (taken ≤ removed) ⊎ (next < taken) → (new ≡ old) × (after ≡ before)) where
    pub compares_low : low_is_open old ≡ true → (removed < taken → taken ≤ next → Calls m (low_disk old) (low_disk new) (not (low_is_open new)))
        → Serves m least (low_disk old) (low_disk new) (not (low_is_open new))
    compares_low up calls =
        let still : (new ≡ old) × (after ≡ before) → Serves m least (low_disk old) (low_disk new) (not (low_is_open new)) = λ same.
        inl (ap low_disk same.0, open_still (low_is_open old) (low_is_open new) up (ap low_is_open same.0)) in
        elim (cases_lt removed taken) [
          | inl some ↦ elim (cases_lt next taken) [ inl more ↦ still (idle (inr more)) | inr within ↦ serves_by _ _ _ (calls some within) ]
          | inr none ↦ still (idle (inl none))
        ]

    pub compares_recv : recv_is_open before ≡ true → (removed < taken → taken ≤ next → CallsReceiver m row removed (low_disk old) before after)
        → Serves m least (recv_disk before) (recv_disk after) (not (recv_is_open after))
    compares_recv up calls =
        let still : after ≡ before → Serves m least (recv_disk before) (recv_disk after) (not (recv_is_open after)) = λ same.
        inl (ap recv_disk same, open_still (recv_is_open before) (recv_is_open after) up (ap recv_is_open same)) in
        elim (cases_lt removed taken) [
          | inl some ↦ elim (cases_lt next taken) [
            | inl more ↦ still (idle (inr more)).1
            | inr within ↦ elim (calls some within) [ inl called ↦ serves_by _ _ _ called.0 | inr left ↦ still left.0 ]
          ]
          | inr none ↦ still (idle (inl none)).1
        ]

-- ---- a disk that is formatted and then opened ----

module _ {D : Type 0} (m : Meaning D) where
  any_room : (least : ℕ) (old new : D) (b : Bool) → Serves m 0 old new b → Serves m least old new b
  any_room least old new b (inl same) = inl same
  any_room least old new b (inr a) = inr (record {
    counts = a.counts;
    rose = a.rose;
    never = λ plan unarmed fits. a.never plan unarmed (omega arith);
    always = a.always;
    room = a.room;
    disarmed = a.disarmed;
  })

  pub goes_on : (row : SessionRow) (role : Role) (old mid new : D) (b : Bool) → LeavesDisk m row role old mid false → Serves m 0 mid new b → Moves m Same mid new → LeavesDisk m row role old new b
  goes_on row role old mid new b first serves moves = record {
    serves = serves_then m (size_of row role) old mid new b first.serves (any_room (size_of row role) mid new b serves);
    left = elim first.left [
      | inl same ↦ inl (goes_on_same m Same old mid new same moves)
      | inr made ↦ inr (λ told. ((made told).0, λ fine. moves.reads told ∙ (made told).1 refl))
    ];
  }

  -- a disk that is not armed, and has room for its format, is so still
  pub free_still : (least size : ℕ) (old new : D) → m.tells_plan → Serves m least old new false → IsFree m size old → IsFree m size new
  free_still least size old new plan (inl (same, none)) free = subst (λ (d : D). IsFree m size d) (sym same) free
  free_still least size old new plan (inr a) free = record { unarmed = a.disarmed plan; room = subst (λ (n : ℕ). size ≤ n) (sym (a.room plan)) free.room }

  -- .. and does not fail
  pub never_fails : (least size : ℕ) (old new : D) (b : Bool) → m.tells_plan → least ≤ size → Serves m least old new b → IsFree m size old → b ≡ false
  never_fails least size old new b plan le (inl (same, none)) free = none
  never_fails least size old new true plan le (inr a) free = (let ok = a.never plan free.unarmed (le_trans le free.room) in absurd (cc))
  never_fails least size old new false plan le (inr a) free = refl

-- the openings over readings that are the same where they are told
pub pump_over : {D : Type 0} (m : Meaning D) (row : SessionRow) (a b a' b' : List ℕ) (o : Opened D) (ends : PlainEnds) → (m.tells → a ≡ a') → (m.tells → b ≡ b') → PumpOpens m row a b o ends → PumpOpens m row a' b' o ends
pump_over m row a b a' b' o ends low high p = record {
  ready_low = p.ready_low;
  ready_high = p.ready_high;
  row_is = p.row_is;
  counts = p.counts;
  messages = p.messages;
  stands = λ told. subst (LowStands row o.next o.removed p.messages) (low told) (p.stands told);
  removed = λ told. subst (HighStands row o.removed) (high told) (p.removed told);
  count = p.count;
  places = p.places;
  short = p.short;
  hands = p.hands;
  fit = p.fit;
  ends_stand = p.ends_stand;
  shape = p.shape;
}

pub receiver_over : {D : Type 0} (m : Meaning D) (row : SessionRow) (a c a' c' : List ℕ) (removed next : ℕ) (r : Receiver D) → (m.tells → a ≡ a') → (m.tells → c ≡ c') → ReceiverOpens m row a c removed next r → ReceiverOpens m row a' c' removed next r
receiver_over m row a c a' c' removed next r low recv o = record {
  ready = o.ready;
  row_is = o.row_is;
  size = o.size;
  stands = λ told. subst (StandsForSome row) (recv told) (o.stands told);
  between = o.between;
  agrees = λ told messages s. subst (SlotsAgree row removed (recv_count r) messages) (low told) (o.agrees told messages (subst (RecvStands row messages) (sym (recv told)) s));
}

-- what is found where they are open
pub found_by : {D : Type 0} (m : Meaning D) (told : m.tells) (row : SessionRow) (lawful : IsLawfulRow row) (a b c : List ℕ) (o : Opened D) (ends : PlainEnds) (r : Receiver D)
    → PumpOpens m row a b o ends → ReceiverOpens m row a c o.removed o.next r → m.reading (recv_disk r) ≡ c → (f : Found) × StandForFound row f a b c
found_by m told row lawful a b c o ends r p q same =
    let s = q.stands told in
    let value = value_by _ _ _ _ (q.ready.ready.each.reading told) in
    let same_value : value_of c ≡ (recv_count r, recv_end r) = ap value_of (sym same) ∙ value in
    let taken : length s.0 ≡ recv_count r = ap (λ (v : ℕ × ℕ). v.0) (sym s.1.value ∙ same_value) in
    let end : (value_of c).1 ≡ recv_end r = ap (λ (v : ℕ × ℕ). v.1) same_value in
    let within = q.ready.within in
    let few = p.ready_low.count in
    let agree : SlotsAgree row o.removed (length s.0) s.0 a = subst (λ (n : ℕ). SlotsAgree row o.removed n s.0 a) (sym taken) (q.agrees told s.0 s.1) in
    let args = stand_for_found row lawful o.next o.removed p.messages s.0 a b c (p.stands told) (p.removed told) s.1 (omega (arith, few, p.counts)) (omega (arith, end, within, q.size)) (omega (arith, q.between, taken)) (omega (arith, q.between, taken)) agree in
    (found row lawful o.next o.removed p.messages s.0 a b c (p.stands told) (p.removed told) s.1 (omega (arith, few, p.counts)) (omega (arith, end, within, q.size)) (omega (arith, q.between, taken)) (omega (arith, q.between, taken)) agree, args)

-- a refusal over readings that are the same where they are told
pub refused_over : (told : Type 0) (row : SessionRow) (a b c a' b' c' : List ℕ) (role : Role) (why : Option Why) → (told → (a ≡ a') × (b ≡ b') × (c ≡ c'))
    → IfSome why (λ w. is_device w ≡ false → told → IsRefused row a b c role w) → IfSome why (λ w. is_device w ≡ false → told → IsRefused row a' b' c' role w)
refused_over told row a b c a' b' c' role None same h = h
refused_over told row a b c a' b' c' role (Some w) same h = λ other t.
    let e = same t in subst (λ (v : List ℕ × List ℕ × List ℕ). IsRefused row v.0 v.1 v.2 role w) (λ i. (e.0 i, e.1 i, e.2 i)) (h other t)

pub some_why : (why : Option Why) → is_some why ≡ true → why ≡ None → ⊥
some_why None e none = absurd (cc)
some_why (Some w) e none = absurd (cc)

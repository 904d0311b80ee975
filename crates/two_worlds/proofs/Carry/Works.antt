-- What a receiver answers to a packet that is kept, whatever the disks tell, and what it leaves.
use Rattle.std.proofs.Common.{◌≡◌, ℕ, ◌+◌, ◌-◌, ◌^◌, ◌≤◌, ◌<◌, Bool, true, false, cond, List, length, Option, None, Some, Result, Ok, Err, refl, sym, ap, ◌∙◌, subst, arith, nat_lt, IfSome}
use Rattle.std.specs.Prelude.{slice_get, ◌||◌, not}
use Rattle.std.proofs.Math.Logic.{∥∥₁_map, ∥∥₁_elim}
use Rattle.std.specs.Coded.{le_prop}
use Rattle.std.proofs.lemmas.Bool.{false≢true}
use Rattle.std.proofs.lemmas.Bool.Decides.{nat_tests}
use Rattle.circular_buffer.specs.Buffer.{Buffer}
use Rattle.disk_model.specs.Disk.{Meaning}
use Rattle.disk_model.specs.declared.name.Role.TheVariants as roles
use Rattle.pump_frame.specs.declared.row.SessionRow.{SessionRow}
use Rattle.pump_frame.specs.declared.frame.Item.{Item}
use Rattle.pump_core.proofs.Lists.{All-at}
use Rattle.low_process.specs.Looks as low
use Rattle.high_process.specs.States as high
use Rattle.high_receiver.specs.Receiving.{Stores, IsRecvReady, answer_at_once, recv_count, recv_end, recv_row, recv_size, recv_disk, recv_is_open}
use Rattle.high_receiver.specs.declared.receiver.Receiver.{Receiver}
use Rattle.high_receiver.specs.declared.values.Taken.{Taken}
use Rattle.high_receiver.specs.declared.values.TakeFault.{TakeFault}
use Rattle.high_receiver.specs.declared.values.TakeFault.TheVariants.{Device, Ahead, LogFull}
use Rattle.high_receiver.specs.declared.values.Taken.TheVariants.{Repeat}
use Rattle.script_reader.specs.Highs.{place}
use Rattle.script_reader.specs.declared.line.Line.TheVariants as lines
use Rattle.script_reader.specs.Past.{Past}
use Rattle.two_worlds.specs.declared.applied.Stop.TheVariants as stops
use Rattle.two_worlds.specs.declared.pump.parts.Parts.{Parts}
use Rattle.two_worlds.specs.Private.GoingOn.{WorksOn}
use Rattle.two_worlds.specs.Standing.{Stands}
use Rattle.two_worlds.specs.Working.{Works, IsAble, IsPacket, IsAheadBy}
use Rattle.two_worlds.proofs.Carry.Answered.{AnsweredWith, answered, never_ahead, full}
use Rattle.two_worlds.proofs.Carry.Carried.{not_ahead}

-- ---- the packet ----

cond_true : {X : Type 0} (b : Bool) (o : X) (p : X) → b ≡ true → cond b o p ≡ o
cond_true b o p e = ap (λ (t : Bool). cond t o p) e

module _ {D : Type 0} (m : Meaning D) (c : Parts D) (able : IsAble m c) (back : ℕ) (packet : Item) (less : back < length c.sent.items)
    (at : cond (nat_lt back (length c.sent.items)) (slice_get c.sent.items (length c.sent.items - back - 1)) None ≡ Some packet) where
  stands_at : slice_get c.sent.items (length c.sent.items - back - 1) ≡ Some packet
  stands_at = sym (cond_true (nat_lt back (length c.sent.items)) (slice_get c.sent.items (length c.sent.items - back - 1)) None (grind (arith, nat_tests))) ∙ at

  pub small : packet.number < 2 ^ 48
  small = ∥∥₁_elim able.works le_prop (λ w. (All-at (IsPacket c.row) c.sent.items _ packet w.short.sent stands_at).1)

  pub short : length packet.payload ≤ (recv_row c.receiver).message
  short = ∥∥₁_elim able.works le_prop (λ w.
      let le = (All-at (IsPacket c.row) c.sent.items _ packet w.short.sent stands_at).0 in
      subst (λ (r : SessionRow). length packet.payload ≤ r.message) (sym w.recv_ready.row) le)

-- ---- what was answered ----

abbrev is_ahead : Result Taken TakeFault → Bool
is_ahead (Err (Ahead n count)) = true
is_ahead _ = false

module _ {D : Type 0} (m : Meaning D) (message : List ℕ) (n R E S : ℕ) (old new : Receiver D) (result : Result Taken TakeFault) where
  within_by : (b1 b2 b3 : Bool) → nat_lt n R ≡ b1 → nat_lt R n ≡ b2 → is_ahead result ≡ false
      → IfSome (cond b1 (Some (Ok Repeat)) (cond b2 (Some (Err (Ahead n R))) (cond b3 (Some (Err (LogFull E (length message) S))) None))) (λ answer. result ≡ answer)
      → n ≤ R
  within_by true b2 b3 e1 e2 fine is = grind (arith, nat_tests)
  within_by false true b3 e1 e2 fine is = let no = ap is_ahead is in absurd (cc)
  within_by false false b3 e1 e2 fine is = grind (arith, nat_tests)

  -- an answer that is not Ahead
  pub answered_fine : is_ahead result ≡ false
      → IfSome (answer_at_once R E S n (length message)) (λ a. result ≡ a)
      → IfSome (answer_at_once R E S n (length message)) (λ a. new ≡ old)
      → (answer_at_once R E S n (length message) ≡ None → Stores m message old new result)
      → AnsweredWith m message n R E S old new result
  answered_fine fine at_once unchanged stores =
      answered m message n R E S old new result (within_by (nat_lt n R) (nat_lt R n) (nat_lt S (E + 2 + length message)) refl refl fine at_once) at_once unchanged stores

  same_by : (k count : ℕ) (b1 b2 b3 : Bool) → result ≡ Err (Ahead k count)
      → IfSome (cond b1 (Some (Ok Repeat)) (cond b2 (Some (Err (Ahead n R))) (cond b3 (Some (Err (LogFull E (length message) S))) None))) (λ answer. new ≡ old)
      → (cond b1 (Some (Ok Repeat)) (cond b2 (Some (Err (Ahead n R))) (cond b3 (Some (Err (LogFull E (length message) S))) None)) ≡ None → Stores m message old new result)
      → new ≡ old
  same_by k count true b2 b3 is same stores = same
  same_by k count false true b3 is same stores = same
  same_by k count false false true is same stores = same
  same_by k count false false false is same stores =
      let s = subst (λ r. Stores m message old new r) is (stores refl) in
      let e = s.device in absurd (cc)

  -- a message that is ahead changes nothing
  pub ahead_same : (k count : ℕ) → result ≡ Err (Ahead k count)
      → IfSome (answer_at_once R E S n (length message)) (λ a. new ≡ old)
      → (answer_at_once R E S n (length message) ≡ None → Stores m message old new result)
      → new ≡ old
  ahead_same k count is unchanged stores = same_by k count (nat_lt n R) (nat_lt R n) (nat_lt S (E + 2 + length message)) is unchanged stores

-- ---- a packet that is ahead ----

abbrev number_or : Option Item → ℕ
number_or None = 0
number_or (Some packet) = packet.number

module _ {D : Type 0} (c : Parts D) (session back : ℕ) (packet : Item) (less : back < length c.sent.items)
    (at : cond (nat_lt back (length c.sent.items)) (slice_get c.sent.items (length c.sent.items - back - 1)) None ≡ Some packet)
    (ahead : IsAheadBy c (lines.Carry session back)) where
  above : recv_count c.receiver < packet.number
  above =
      let here = cond_true (nat_lt back (length c.sent.items)) (slice_get c.sent.items (length c.sent.items - back - 1)) None (grind (arith, nat_tests)) in
      let e : length c.sent.items - back - 1 ≡ place c.sent.items back = omega arith in
      let same = ap number_or (sym at ∙ here ∙ ap (λ j. slice_get c.sent.items j) e ∙ ahead.1) in
      omega (arith, same, ahead.2)

  ahead_by : (b1 b2 b3 : Bool) (result : Result Taken TakeFault) → nat_lt packet.number (recv_count c.receiver) ≡ b1 → nat_lt (recv_count c.receiver) packet.number ≡ b2
      → IfSome (cond b1 (Some (Ok Repeat)) (cond b2 (Some (Err (Ahead packet.number (recv_count c.receiver)))) (cond b3 (Some (Err (LogFull (recv_end c.receiver) (length packet.payload) (recv_size c.receiver)))) None))) (λ answer. result ≡ answer)
      → is_ahead result ≡ true
  ahead_by true b2 b3 result e1 e2 is = absurd (let up = above in grind (arith, nat_tests))
  ahead_by false true b3 result e1 e2 is = ap is_ahead is
  ahead_by false false b3 result e1 e2 is = absurd (let up = above in grind (arith, nat_tests))

  -- it is answered so
  pub answers_ahead : (result : Result Taken TakeFault)
      → IfSome (answer_at_once (recv_count c.receiver) (recv_end c.receiver) (recv_size c.receiver) packet.number (length packet.payload)) (λ a. result ≡ a)
      → is_ahead result ≡ true
  answers_ahead result at_once =
      ahead_by (nat_lt packet.number (recv_count c.receiver)) (nat_lt (recv_count c.receiver) packet.number) (nat_lt (recv_size c.receiver) (recv_end c.receiver + 2 + length packet.payload)) result refl refl at_once

  -- .. and nothing else is answered
  pub no_other : (result answer : Result Taken TakeFault) → result ≡ answer → is_ahead answer ≡ false
      → IfSome (answer_at_once (recv_count c.receiver) (recv_end c.receiver) (recv_size c.receiver) packet.number (length packet.payload)) (λ a. result ≡ a) → ⊥
  no_other result answer is other at_once = false≢true (sym other ∙ sym (ap is_ahead is) ∙ answers_ahead result at_once)

-- what a receiver answers to this packet, by its answer
pub answered_as : {D : Type 0} (m : Meaning D) (c : Parts D) (packet : Item) (new : Receiver D) (result answer : Result Taken TakeFault) → result ≡ answer → is_ahead answer ≡ false
    → IfSome (answer_at_once (recv_count c.receiver) (recv_end c.receiver) (recv_size c.receiver) packet.number (length packet.payload)) (λ a. result ≡ a)
    → IfSome (answer_at_once (recv_count c.receiver) (recv_end c.receiver) (recv_size c.receiver) packet.number (length packet.payload)) (λ a. new ≡ c.receiver)
    → (answer_at_once (recv_count c.receiver) (recv_end c.receiver) (recv_size c.receiver) packet.number (length packet.payload) ≡ None → Stores m packet.payload c.receiver new result)
    → AnsweredWith m packet.payload packet.number (recv_count c.receiver) (recv_end c.receiver) (recv_size c.receiver) c.receiver new answer
answered_as m c packet new result answer is fine at_once unchanged stores =
    subst (λ r. AnsweredWith m packet.payload packet.number (recv_count c.receiver) (recv_end c.receiver) (recv_size c.receiver) c.receiver new r) is
    (answered_fine m packet.payload packet.number (recv_count c.receiver) (recv_end c.receiver) (recv_size c.receiver) c.receiver new result (ap is_ahead is ∙ fine) at_once unchanged stores)

-- ---- the parts after it ----

module _ {D : Type 0} (m : Meaning D) (c : Parts D) (able : IsAble m c) (new : Receiver D) where
  -- the receiver is ready, and was made as before
  pub works_with : (returned : Buffer ℕ) → IsRecvReady m new → recv_row new ≡ recv_row c.receiver → recv_size new ≡ recv_size c.receiver → returned.capacity ≡ c.returned.capacity
      → ∥ Works m (record c { receiver = new; returned = returned }) ∥₁
  works_with returned ready row size same = ∥∥₁_map able.works (λ w. record {
    row = w.row;
    history = w.history;
    past = w.past;
    times = w.times;
    low_ready = record { history = w.low_ready.history; store = w.low_ready.store; up = w.low_ready.up; between = w.low_ready.between; row = w.low_ready.row; last = w.low_ready.last };
    high_ready = record { past = w.high_ready.past; store = w.high_ready.store; count = w.high_ready.count; up = w.high_ready.up; between = w.high_ready.between; row = w.high_ready.row; last = w.high_ready.last };
    recv_ready = record { ready = ready; row = row ∙ w.recv_ready.row; size = size ∙ w.recv_ready.size };
    ends = record { low = w.ends.low; high = w.ends.high; stand = w.ends.stand; shape = w.ends.shape; times = w.ends.times; low_fits = w.ends.low_fits; high_fits = w.ends.high_fits };
    packets = record { sent = w.packets.sent; returned = same ∙ w.packets.returned; taken = w.packets.taken };
    short = record { low_hand = w.short.low_hand; held = w.short.held; high_hand = w.short.high_hand; sent = w.short.sent };
  })

  or_true : (b : Bool) → (b || true) ≡ true
  or_true true = refl
  or_true false = refl

  same_count : (a b : ℕ) → Device a ≡ Device b → a ≡ b
  same_count a b e = cc

  -- its device failed
  pub works_not : (faults : ℕ) → recv_is_open new ≡ false → Device faults ≡ Device (m.count (recv_disk new)) → WorksOn m (record c { receiver = new }) (Err (stops.Device roles.Recv faults))
  works_not faults closed count = (
    ap (λ (b : Bool). (low.is_down c.low || high.is_down c.high) || not b) closed ∙ or_true (low.is_down c.low || high.is_down c.high),
    same_count faults (m.count (recv_disk new)) count,
  )

-- no packet of parts that stand for something is ahead
pub ahead_never : {D : Type 0} (m : Meaning D) (c : Parts D) (p : Past) (back : ℕ) (packet : Item) → Stands m c p → back < length c.sent.items
    → cond (nat_lt back (length c.sent.items)) (slice_get c.sent.items (length c.sent.items - back - 1)) None ≡ Some packet
    → (new : Receiver D) (result : Result Taken TakeFault) (k count : ℕ) → result ≡ Err (Ahead k count)
    → IfSome (answer_at_once (recv_count c.receiver) (recv_end c.receiver) (recv_size c.receiver) packet.number (length packet.payload)) (λ a. result ≡ a)
    → IfSome (answer_at_once (recv_count c.receiver) (recv_end c.receiver) (recv_size c.receiver) packet.number (length packet.payload)) (λ a. new ≡ c.receiver)
    → (answer_at_once (recv_count c.receiver) (recv_end c.receiver) (recv_size c.receiver) packet.number (length packet.payload) ≡ None → Stores m packet.payload c.receiver new result)
    → ⊥
ahead_never m c p back packet stands less at new result k count is at_once unchanged stores =
    let R = recv_count c.receiver in
    let E = recv_end c.receiver in
    let S = recv_size c.receiver in
    never_ahead m packet.payload packet.number R E S c.receiver new k count
    (subst (λ r. AnsweredWith m packet.payload packet.number R E S c.receiver new r) is
    (answered m packet.payload packet.number R E S c.receiver new result (not_ahead m c p back packet stands less at) at_once unchanged stores))

-- a message that does not fit changes nothing
pub works_full : {D : Type 0} (m : Meaning D) (c : Parts D) (able : IsAble m c) (message : List ℕ) (n : ℕ) (new : Receiver D) (end k size : ℕ)
    → AnsweredWith m message n (recv_count c.receiver) (recv_end c.receiver) (recv_size c.receiver) c.receiver new (Err (LogFull end k size))
    → WorksOn m (record c { receiver = new }) (Err (stops.Full end k size))
works_full {D} m c able message n new end k size w =
    let a = full m message n (recv_count c.receiver) (recv_end c.receiver) (recv_size c.receiver) c.receiver new end k size w in (
      subst (λ (r : Receiver D). ∥ Works m (record c { receiver = r }) ∥₁) (sym a.same) able.works,
      (
        a.end_is ∙ sym (ap (λ (r : Receiver D). recv_end r) a.same),
        a.size_is ∙ sym (ap (λ (r : Receiver D). recv_size r) a.same),
        (let e = a.end_is in let l = a.length_is in let z = a.size_is in let o = a.over in omega (arith, e, l, z, o)),
      ),
    )

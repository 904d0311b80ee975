-- After a high look the parts work on, or the high process is down.
use Rattle.std.proofs.Common.{◌≡◌, ℕ, ◌^◌, ◌≤◌, ◌<◌, Bool, true, false, List, [], ◌∷◌, ◌++◌, length, Option, Some, None, Result, Ok, Err, refl, sym, ap, ◌∙◌, subst, arith, nat_lt, lt-ltb}
use Rattle.std.specs.Prelude.{◌-◌, nat_le, All, IfSome, is_some, option_to_list, if◌then◌else◌, ◌||◌, not, ◌==◌}
use Rattle.std.proofs.Math.Logic.{∥∥₁_map}
use Rattle.std.proofs.lemmas.List.Elements.{All-drop, All-push, All-rest, All-same, All-head}
use Rattle.circular_buffer.specs.Buffer.{Buffer}
use Rattle.disk_model.specs.Disk.{Meaning}
use Rattle.disk_model.specs.declared.name.Role.TheVariants as roles
use Rattle.pump_frame.specs.declared.frame.Frame.{Frame}
use Rattle.pump_frame.specs.declared.frame.Kind.{Kind}
use Rattle.pump_frame.specs.declared.frame.Kind.TheVariants as kinds
use Rattle.pump_frame.specs.declared.frame.Item.{Item}
use Rattle.pump_frame.specs.declared.row.SessionRow.{SessionRow}
use Rattle.stable_buffer.specs.High.{IsHighReady, high_disk, high_count}
use Rattle.stable_buffer.specs.declared.high.HighStore.{HighStore}
use Rattle.high_receiver.specs.Receiving.{recv_is_open}
use Rattle.passage.specs.declared.plain.PlainEnds.{PlainEnds}
use Rattle.passage.specs.Plain.{shape_of, held_in, StandsFor as EndsStand}
use Rattle.low_process.specs.Looks as low
use Rattle.high_process.specs.States as high
use Rattle.high_process.specs.States.{hand_in}
use Rattle.high_process.specs.Past as high_past
use Rattle.high_process.specs.Looks.{Looked}
use Rattle.high_process.specs.Ends.{StandsFitting}
use Rattle.high_process.specs.Storing.{Fares}
use Rattle.high_process.specs.Tasks.{task_in, task_of, task_taken}
use Rattle.pump_core.specs.Sendings.{expected}
use Rattle.high_process.specs.declared.process.HighProcess.{HighProcess}
use Rattle.high_process.specs.declared.values.HighFault.{HighFault}
use Rattle.high_process.specs.declared.values.HighFault.TheVariants.{Ahead, Behind, Device}
use Rattle.high_process.specs.declared.values.HighLook.{HighLook}
use Rattle.high_process.specs.declared.values.Task.{Task}
use Rattle.high_process.specs.declared.values.Task.TheVariants.{Refuse, Remove, Keep}
use Rattle.two_worlds.specs.declared.applied.Stop.TheVariants as stops
use Rattle.two_worlds.specs.declared.pump.parts.Parts.{Parts}
use Rattle.two_worlds.specs.Private.GoingOn.{WorksOn}
use Rattle.two_worlds.specs.Private.HighLooks.{packets_after}
use Rattle.two_worlds.specs.Timely.{goes_on_by}
use Rattle.two_worlds.specs.Working.{Works, IsAble, IsShort, IsShortHand, IsPacket}
use Rattle.two_worlds.proofs.High.Disks.{failed}
use Rattle.two_worlds.proofs.High.Failing.{broken_parts}
use Rattle.two_worlds.proofs.High.Fetching.{FetchedBy, fetched_by}
use Rattle.two_worlds.proofs.High.Sendings.{Fetched}
use Rattle.two_worlds.proofs.High.Standing.{looked_parts}

-- ---- no frame asks for a fault of the disk ----

abbrev pub is_fault : Task → Bool
is_fault (Refuse (Device n)) = true
is_fault _ = false

fine_either : (b : Bool) (t u : Task) → is_fault t ≡ false → is_fault u ≡ false → is_fault (if b then t else u) ≡ false
fine_either true t u e f = e
fine_either false t u e f = f

fine_taken : (n removed expected : ℕ) → is_fault (task_taken n removed expected) ≡ false
fine_taken n removed expected =
    fine_either (nat_lt n removed) Keep _ refl (fine_either (nat_le expected n) (Refuse (Ahead n expected)) Remove refl refl)

fine_in : (k : Kind) (n removed expected : ℕ) → is_fault (task_in k n removed expected) ≡ false
fine_in kinds.Taken n removed expected = fine_taken n removed expected
fine_in kinds.Attach n removed expected = fine_either (nat_lt n removed) (Refuse (Behind n removed)) _ refl (fine_either (n == 0) Keep _ refl (fine_taken (n - 1) removed expected))
fine_in kinds.Hello n removed expected = refl
fine_in kinds.Welcome n removed expected = refl
fine_in kinds.Data n removed expected = refl
fine_in kinds.Ack n removed expected = refl
fine_in kinds.Refuse n removed expected = refl

fine_task : (session removed : ℕ) (hand : Option Item) (frame : Option Frame) → is_fault (task_of session removed hand frame) ≡ false
fine_task session removed hand None = refl
fine_task session removed hand (Some f) = fine_either (f.session == session) (task_in f.kind f.number removed (expected removed hand)) Keep (fine_in f.kind f.number removed (expected removed hand)) refl

pub asks_no_fault : (p : HighProcess) (frame : Option Frame) (faults : ℕ) → high.task_at p frame ≡ Refuse (Device faults) → ⊥
asks_no_fault p frame faults e = let no = sym (ap is_fault e) ∙ fine_task p.row.id p.removed (high.hand_of p) frame in absurd (cc)

-- ---- messages on their way ----

fetched_short : (row : SessionRow) (b : Bool) (held after : List Item) (got : Option Item) → Fetched b held got after → All (IsShort row) held → All (IsShort row) after
fetched_short row true held after (Some x) is all = All-rest (IsShort row) x after held is all
fetched_short row true held after None is all = All-same (IsShort row) after held (is.1 ∙ sym is.0) all
fetched_short row false held after got is all = All-same (IsShort row) after held is.1 all

got_short : (row : SessionRow) (b : Bool) (held after : List Item) (got : Option Item) → Fetched b held got after → All (IsShort row) held → IsShortHand row got
got_short row true held after (Some x) is all = All-head (IsShort row) x after (All-same (IsShort row) (x ∷ after) held (sym is) all)
got_short row true held after None is all = tt
got_short row false held after (Some x) is all = let no = is.0 in absurd (cc)
got_short row false held after None is all = tt

begun_short : (row : SessionRow) (task : Task) (t : high_past.ProcessPast) (m : ℕ) → IsShortHand row t.hand → IsShortHand row (high_past.begun task t m).hand
begun_short row Remove t m h = tt
begun_short row Keep t m h = h
begun_short row (Refuse e) t m h = h

taken_short : (row : SessionRow) (t : high_past.ProcessPast) (got : Option Item) → IsShortHand row t.hand → IsShortHand row got → IsShortHand row (high_past.taken_up t got).hand
taken_short row t None h g = h
taken_short row t (Some x) h g = g

packets_short : (row : SessionRow) (o : Option ℕ) (hand : Option Item) (removed : ℕ) (packets : Buffer Item) → IfSome hand (λ x. (x.number ≡ removed) × (removed < 2 ^ 48)) → IsShortHand row hand
    → All (IsPacket row) packets.items → All (IsPacket row) (packets_after o hand packets).items
packets_short row None hand removed packets has short all = all
packets_short row (Some n) None removed packets has short all = all
packets_short row (Some n) (Some x) removed packets has short all =
    All-drop (IsPacket row) (length (packets.items ++ x ∷ []) - packets.capacity) (packets.items ++ x ∷ [])
    (All-push (IsPacket row) packets.items x all (short, (let e = has.0 in let l = has.1 in omega (arith, e, l))))

packets_capacity : (o : Option ℕ) (hand : Option Item) (packets : Buffer Item) → (packets_after o hand packets).capacity ≡ packets.capacity
packets_capacity None hand packets = refl
packets_capacity (Some n) None packets = refl
packets_capacity (Some n) (Some x) packets = refl

-- ---- a hand that is full ----

or_right : (a b : Bool) → b ≡ true → (a || b) ≡ true
or_right true b e = refl
or_right false b e = e

or_left : (a b : Bool) → a ≡ true → (a || b) ≡ true
or_left a b e = ap (λ (t : Bool). t || b) e

full_begun : (task : Task) (t : high_past.ProcessPast) (m : ℕ) → is_some (high_past.begun task t m).hand ≡ true → is_some t.hand ≡ true
full_begun Remove t m e = absurd (cc)
full_begun Keep t m e = e
full_begun (Refuse f) t m e = e

full_by : (b : Bool) (held after : List Item) (got : Option Item) (t : high_past.ProcessPast) → Fetched b held got after → is_some (high_past.taken_up t got).hand ≡ true → (is_some t.hand || nat_lt 0 (length held)) ≡ true
full_by true held after (Some x) t is e = or_right (is_some t.hand) (nat_lt 0 (length held)) (ap (λ (l : List Item). nat_lt 0 (length l)) is ∙ lt-ltb 0 (length (x ∷ after)) (omega arith))
full_by true held after None t is e = or_left (is_some t.hand) (nat_lt 0 (length held)) e
full_by false held after (Some x) t is e = let no = is.0 in absurd (cc)
full_by false held after None t is e = or_left (is_some t.hand) (nat_lt 0 (length held)) e

-- ---- a look that went well ----

in_hand : (b : Bool) (x : Item) (removed : ℕ) → (b ≡ true → (x.number ≡ removed) × (removed < 2 ^ 48)) → IfSome (hand_in b x) (λ (y : Item). (y.number ≡ removed) × (removed < 2 ^ 48))
in_hand true x removed has = has refl
in_hand false x removed has = tt

module _ {D : Type 0} (m : Meaning D) (c : Parts D) (moment : ℕ) (order : c.moment ≤ moment) (q : HighProcess) (store : HighStore D) (ends : PlainEnds) (look : HighLook)
    (ready : IsHighReady m store) (count : high_count store ≡ high.removed_of q) (up : high.is_down q ≡ false) (between : high.IsBetweenLooks q)
    (row : high.row_of q ≡ high.row_of c.high) (shape : shape_of ends ≡ shape_of c.ends) (task : Task) (attaches : Bool) (w : Works m c)
    (looked : Looked (shape_of c.ends) true (StandsFitting (EndsStand ends) q) w.ends.low w.ends.high c.high q w.past moment task attaches look) where
  abbrev t : high_past.ProcessPast
  t = w.past

  abbrev u : high_past.ProcessPast
  u = high_past.begun task t moment

  fetched : FetchedBy ends q w.ends.low (w.ends.high.times ++ option_to_list (high_past.published_in task t moment)) (held_in c.ends) (high_past.wants u) looked.got
  fetched = fetched_by (shape_of c.ends) c.ends ends q w.ends.low w.ends.high (high_past.published_in task t moment) (high_past.wants u) u.removed looked.got w.ends.stand looked.ends

  hand_is : high.hand_of q ≡ (high_past.taken_up u looked.got).hand
  hand_is = looked.stands.holds.hand

  was_short : IsShortHand c.row t.hand
  was_short = subst (IsShortHand c.row) w.high_ready.past.holds.hand w.short.high_hand

  now_short : IsShortHand c.row (high.hand_of q)
  now_short = subst (IsShortHand c.row) (sym hand_is)
      (taken_short c.row u looked.got (begun_short c.row task t moment was_short) (got_short c.row (high_past.wants u) (held_in c.ends) (held_in ends) looked.got fetched.fetched w.short.held))

  pub high_works : Works m (looked_parts m c moment q store ends look.sent)
  high_works = record {
    row = w.row;
    history = w.history;
    past = high_past.finished (high.row_of c.high).resend attaches (high_past.taken_up u looked.got) moment;
    times = fetched.high.times;
    low_ready = record { history = w.low_ready.history; store = w.low_ready.store; up = w.low_ready.up; between = w.low_ready.between; row = w.low_ready.row; last = let h = w.low_ready.last in omega (arith, h, order) };
    high_ready = record {
      past = looked.stands;
      store = ready;
      count = count;
      up = up;
      between = between;
      row = row ∙ w.high_ready.row;
      last = let e = looked.stands.last in omega (arith, e);
    };
    recv_ready = record { ready = w.recv_ready.ready; row = w.recv_ready.row; size = w.recv_ready.size };
    ends = record { low = w.ends.low; high = fetched.high; stand = fetched.stand; shape = shape ∙ w.ends.shape; times = refl; low_fits = w.ends.low_fits; high_fits = fetched.fits };
    packets = record { sent = packets_capacity look.sent (high.hand_of q) c.sent ∙ w.packets.sent; returned = w.packets.returned; taken = w.packets.taken };
    short = record {
      low_hand = w.short.low_hand;
      held = fetched_short c.row (high_past.wants u) (held_in c.ends) (held_in ends) looked.got fetched.fetched w.short.held;
      high_hand = now_short;
      sent = packets_short c.row look.sent (high.hand_of q) (high.removed_of q) c.sent (in_hand q.is_full q.hand (high.removed_of q) q.in_hand) now_short w.short.sent;
    };
  }

  pub high_goes : is_some (high.hand_of q) ≡ true → goes_on_by c ≡ true
  high_goes e =
      let before : (is_some u.hand || nat_lt 0 (length (held_in c.ends))) ≡ true =
      full_by (high_past.wants u) (held_in c.ends) (held_in ends) looked.got u fetched.fetched (sym (ap is_some hand_is) ∙ e) in
      by_before (is_some u.hand) refl before where
        by_before : (b : Bool) → is_some u.hand ≡ b → (b || nat_lt 0 (length (held_in c.ends))) ≡ true → goes_on_by c ≡ true
        by_before true is h = or_left (is_some (high.hand_of c.high)) (nat_lt 0 (length (held_in c.ends))) (ap is_some w.high_ready.past.holds.hand ∙ full_begun task t moment is)
        by_before false is h = or_right (is_some (high.hand_of c.high)) (nat_lt 0 (length (held_in c.ends))) h

-- ---- a look that was refused, or whose disk failed ----

abbrev pub done : HighLook → Result HighLook HighFault
done look = Ok look

abbrev pub is_device : HighFault → Bool
is_device (Device n) = true
is_device _ = false

module _ {D : Type 0} (m : Meaning D) (c : Parts D) (moment : ℕ) (q : HighProcess) (store : HighStore D) (ends : PlainEnds) where
  refused_by : (task : Task) (e : HighFault) → is_device e ≡ false → Fares m task c.high q c.high_store store (failed e) → (q ≡ c.high) × (store ≡ c.high_store)
  refused_by Keep e fine fares = absurd fares.0
  refused_by Remove e fine fares = let no = ap is_device fares.0.fault in absurd (cc)
  refused_by (Refuse f) e fine fares = (fares.1, fares.2)

  pub refused_is : (task : Task) (e : HighFault) → is_device e ≡ false → Fares m task c.high q c.high_store store (failed e) → ends ≡ c.ends → broken_parts c moment q store ends ≡ record c { moment = moment }
  refused_is task e fine fares same =
      let is = refused_by task e fine fares in
      λ i. record c { high = is.0 i; high_store = is.1 i; ends = same i; moment = moment }

  waits : c.moment ≤ moment → Works m c → Works m (record c { moment = moment })
  waits order w = record {
    row = w.row;
    history = w.history;
    past = w.past;
    times = w.times;
    low_ready = record { history = w.low_ready.history; store = w.low_ready.store; up = w.low_ready.up; between = w.low_ready.between; row = w.low_ready.row; last = let h = w.low_ready.last in omega (arith, h, order) };
    high_ready = record { past = w.high_ready.past; store = w.high_ready.store; count = w.high_ready.count; up = w.high_ready.up; between = w.high_ready.between; row = w.high_ready.row; last = let h = w.high_ready.last in omega (arith, h, order) };
    recv_ready = record { ready = w.recv_ready.ready; row = w.recv_ready.row; size = w.recv_ready.size };
    ends = record { low = w.ends.low; high = w.ends.high; stand = w.ends.stand; shape = w.ends.shape; times = w.ends.times; low_fits = w.ends.low_fits; high_fits = w.ends.high_fits };
    packets = record { sent = w.packets.sent; returned = w.packets.returned; taken = w.packets.taken };
    short = record { low_hand = w.short.low_hand; held = w.short.held; high_hand = w.short.high_hand; sent = w.short.sent };
  }

  pub refused_works : c.moment ≤ moment → IsAble m c → broken_parts c moment q store ends ≡ record c { moment = moment } → ∥ Works m (broken_parts c moment q store ends) ∥₁
  refused_works order able is = subst (λ (d : Parts D). ∥ Works m d ∥₁) (sym is) (∥∥₁_map able.works (waits order))

  pub refused_goes : broken_parts c moment q store ends ≡ record c { moment = moment } → is_some (high.hand_of q) ≡ true → goes_on_by c ≡ true
  refused_goes is e = or_left (is_some (high.hand_of c.high)) _ (sym (ap (λ (d : Parts D). is_some (high.hand_of d.high)) is) ∙ e)

  same_count : (a b : ℕ) → Device a ≡ Device b → a ≡ b
  same_count a b e = cc

  or_true : (a b : Bool) → ((a || true) || b) ≡ true
  or_true true b = refl
  or_true false b = refl

  broken_by : (task : Task) (faults : ℕ) → (task ≡ Refuse (Device faults) → ⊥) → Fares m task c.high q c.high_store store (failed (Device faults)) → WorksOn m (broken_parts c moment q store ends) (Err (stops.Device roles.High faults))
  broken_by Keep faults never fares = absurd fares.0
  broken_by (Refuse e) faults never fares = absurd (never (cc))
  broken_by Remove faults never fares = (
    ap (λ (b : Bool). (low.is_down c.low || b) || not (recv_is_open c.receiver)) fares.1 ∙ or_true (low.is_down c.low) (not (recv_is_open c.receiver)),
    same_count faults (m.count (high_disk store)) fares.0.fault,
  )

  -- a frame that is refused is no removal that fails
  pub never_broken : (task : Task) (e : HighFault) (faults : ℕ) → (task ≡ Refuse (Device faults) → ⊥) → task ≡ Refuse e → Fares m task c.high q c.high_store store (failed (Device faults)) → ⊥
  never_broken Keep e faults never asks fares = fares.0
  never_broken (Refuse f) e faults never asks fares = never (cc)
  never_broken Remove e faults never asks fares = absurd (cc)

  pub never_done : (task : Task) (e : HighFault) (look : HighLook) → task ≡ Refuse e → Fares m task c.high q c.high_store store (done look) → ⊥
  never_done Keep e look asks fares = absurd (cc)
  never_done (Refuse f) e look asks fares = let no = fares.0 in absurd (cc)
  never_done Remove e look asks fares = absurd (cc)

  pub broken_works : (frame : Option Frame) (faults : ℕ) → Fares m (high.task_at c.high frame) c.high q c.high_store store (failed (Device faults)) → WorksOn m (broken_parts c moment q store ends) (Err (stops.Device roles.High faults))
  broken_works frame faults fares = broken_by (high.task_at c.high frame) faults (asks_no_fault c.high frame faults) fares

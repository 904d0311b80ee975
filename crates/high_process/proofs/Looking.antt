-- A look moves what a high process stands for.
use Rattle.std.proofs.Common.{◌≡◌, ◌≢◌, ◌⊎◌, inl, inr, ℕ, ◌+◌, ◌-◌, ◌^◌, ◌<◌, ◌≤◌, Bool, true, false, cond, List, [], ◌∷◌, ◌++◌, length, Option, Some, None, refl, sym, ap, ◌∙◌, subst, ⊎_elim, arith, append-nil, length-append, eq-eqb, ne_eqb}
use Rattle.std.specs.Prelude.{◌&&◌, ◌||◌, ◌==◌, not, nat_lt, nat_le, if◌then◌else◌, IfSome, is_some, unwrap_or, option_to_list, Result, Ok, Err, IfOk}
use Rattle.std.proofs.lemmas.Bool.{ltb-true, ltb-false, leb-false, eqb-true, eqb-false}
use Rattle.pump_frame.specs.declared.frame.Item.{Item}
use Rattle.pump_frame.specs.declared.frame.Frame.{Frame}
use Rattle.pump_frame.specs.declared.frame.Kind.{Kind}
use Rattle.pump_frame.specs.declared.frame.Kind.TheVariants.{Hello, Welcome, Data, Ack, Refuse as Refused, Taken, Attach}
use Rattle.high_process.specs.declared.values.HighFault.{HighFault}
use Rattle.high_process.specs.declared.values.HighFault.TheVariants.{Ahead, Behind, Device}
use Rattle.high_process.specs.declared.values.HighAsk.{HighAsk}
use Rattle.high_process.specs.declared.values.HighLook.{HighLook}
use Rattle.high_process.specs.declared.values.Asking.{Asking}
use Rattle.high_process.specs.declared.values.Sent.{Sent}
use Rattle.high_process.specs.declared.values.Task.{Task}
use Rattle.high_process.specs.declared.values.Task.TheVariants.{Refuse, Remove, Keep}
use Rattle.high_process.specs.declared.process.HighProcess.{HighProcess}
use Rattle.pump_core.specs.Passage.{Shape, Low, High}
use Rattle.disk_model.specs.Disk.{Meaning, Each, Moves, Same, Settled, Leaves}
use Rattle.disk_model.proofs.Run.{started, leaves, each_settled}
use Rattle.stable_buffer.specs.Stands.{HighStands, MayRemove}
use Rattle.stable_buffer.specs.declared.high.HighStore.{HighStore}
use Rattle.stable_buffer.specs.High.{high_disk}
use Rattle.pump_frame.specs.declared.row.SessionRow.{SessionRow as Row}
use Rattle.pump_core.specs.Sendings.{Sending, last_sending, first_sending, or_else, time_since, is_due, expected}
use Rattle.high_process.specs.Tasks.{task_taken, task_in, task_of}
use Rattle.high_process.specs.Past.{ProcessPast, next_time, begun, removed_in, published_in, wants, taken_up, is_sent, finished, sent_in}
use Rattle.high_process.specs.States.{State, state_of, hand_in, hand_of, first_sent, last_sent}
use Rattle.high_process.specs.Steps.{time_of, counted, wants_of, sends_of, before, with_item, sent_at, after, StepBegins, StepFinishes}
use Rattle.high_process.specs.Storing.{GivenBack, Removing, Fares, IsAfter, StandsOrRemoved}
use Rattle.high_process.specs.Ends.{IsTime, TakesUp, told_time}
use Rattle.high_process.specs.Looks.{HoldsSends, Holds, StandsFor, LookBegins, Finishes, Asked, Looked}

-- ---- sendings ----

none_first : (n : ℕ) (sends : List Sending) → last_sending n sends ≡ None → first_sending n sends ≡ None
none_first n [] e = refl
none_first n (x ∷ sends) e = elim (x.number == n) as (λ b. cond b (Some x.moment) (last_sending n sends) ≡ None → or_else (first_sending n sends) (cond b (Some x.moment) None) ≡ None) [
  | true ↦ λ k. absurd (cc)
  | false ↦ λ k. (let f = none_first n sends k in rw f refl)
] e

-- the next message was not sent
next_unsent : (removed : ℕ) (sent : Option Sent) (sends : List Sending) → HoldsSends removed sent sends → HoldsSends (removed + 1) None sends
next_unsent removed sent sends h = record {
  last = h.later (removed + 1) (omega arith);
  first = none_first (removed + 1) sends (h.later (removed + 1) (omega arith));
  later = λ n le. h.later n (omega (arith, le));
}

last_sent_at : (sent : Option Sent) (m : ℕ) → last_sent (sent_at sent m) ≡ Some m
last_sent_at None m = refl
last_sent_at (Some s) m = refl

first_sent_at : (sent : Option Sent) (m : ℕ) → or_else (first_sent sent) (Some m) ≡ first_sent (sent_at sent m)
first_sent_at None m = refl
first_sent_at (Some s) m = refl

sent_now : (removed m : ℕ) (sent : Option Sent) (sends : List Sending) → HoldsSends removed sent sends → HoldsSends removed (sent_at sent m) (record { number = removed; moment = m } ∷ sends)
sent_now removed m sent sends h =
    let e : (removed == removed) ≡ true = eq-eqb removed removed refl in
    record {
      last = rw e (sym (last_sent_at sent m));
      first = rw e (ap (λ o. or_else o (Some m)) h.first ∙ first_sent_at sent m);
      later = λ n le. let d : (removed == n) ≡ false = ne_eqb removed n (λ e. omega (arith, le, e)) in rw d (h.later n le);
    }

-- ---- the first half ----

time_is : (s : State) (t : ProcessPast) (m : ℕ) → Holds s t → time_of s.published s.sent m ≡ next_time t m
time_is s t m h =
    let first : first_sent s.sent ≡ first_sending t.removed t.sends = sym h.sends.first ∙ ap (λ n. first_sending n t.sends) h.removed in
    ap (λ (c : ℕ × Option ℕ). if nat_lt c.0 (2 ^ 32 - 1) then time_since c.1 m else None) (λ i. (h.count i, first i))

counted_is : (o : Option ℕ) (times : List ℕ) (n : ℕ) → n ≡ length times → counted o n ≡ length (times ++ option_to_list o)
counted_is None times n e = e ∙ ap length (sym (append-nil times))
counted_is (Some x) times n e = omega (arith, e, length-append times (x ∷ []))

wants_is : (s : State) (t : ProcessPast) → Holds s t → wants_of s.removed s.hand ≡ wants t
wants_is s t h = ap (λ (c : ℕ × Option Item). not (is_some c.1) && nat_lt c.0 (2 ^ 48)) (λ i. (h.removed i, h.hand i))

removed_holds : (s : State) (t : ProcessPast) (m : ℕ) (a : Bool) → Holds s t → Holds (before Remove s m a) (begun Remove t m)
removed_holds s t m a h = record {
  removed = ap (λ n. n + 1) h.removed;
  hand = refl;
  count = counted_is (time_of s.published s.sent m) t.times s.published h.count ∙ ap (λ o. length (t.times ++ option_to_list o)) (time_is s t m h);
  sends = next_unsent s.removed s.sent t.sends h.sends;
}

kept_holds : (s : State) (t : ProcessPast) (m : ℕ) (a : Bool) → Holds s t → Holds (before Keep s m a) t
kept_holds s t m a h = record { removed = h.removed; hand = h.hand; count = h.count; sends = h.sends }

record Begun (q : State) (t : ProcessPast) (m : ℕ) (removed time : Option ℕ) (a : Bool) (ask : HighAsk) : Type 0 where
  asking : q.asking ≡ Some (record { removed = removed; published = time; attaches = a; wants = wants t })
  holds : Holds q t
  last : q.last ≡ m
  is : ask ≡ record { publish = time; wants = wants t; removed = t.removed }

asking_is : (s : State) (t : ProcessPast) (removed time time' : Option ℕ) (a : Bool) → Holds s t → time ≡ time' → Some (record { removed = removed; published = time; attaches = a; wants = wants_of s.removed s.hand }) ≡ (let x : Option Asking = Some (record { removed = removed; published = time'; attaches = a; wants = wants t }) in x)
asking_is s t removed time time' a h e = λ i. Some (record { removed = removed; published = e i; attaches = a; wants = wants_is s t h i })

begun_from : (s q : State) (t : ProcessPast) (m : ℕ) (task : Task) (a : Bool) (ask : HighAsk) → Holds s t → StepBegins s q m task a ask → Begun q (begun task t m) m (removed_in task t) (published_in task t m) a ask
begun_from s q t m (Refuse e) a ask h step = absurd step
begun_from s q t m Keep a ask h (is, asked) =
    let k = kept_holds s t m a h in
    record {
      asking = ap (λ (r : State). r.asking) is ∙ asking_is s t None None None a h refl;
      holds = subst (λ (r : State). Holds r t) (sym is) k;
      last = ap (λ (r : State). r.last) is;
      is = asked ∙ (λ i. record { publish = None; wants = wants_is s t h i; removed = h.removed i });
    }
begun_from s q t m Remove a ask h (is, asked) =
    let k = removed_holds s t m a h in
    let b : State = before Remove s m a in
    let u : ProcessPast = begun Remove t m in
    let time = time_is s t m h in
    record {
      asking = ap (λ (r : State). r.asking) is ∙ (λ i. Some (record { removed = Some (h.removed i); published = time i; attaches = a; wants = wants_is b u k i }));
      holds = subst (λ (r : State). Holds r u) (sym is) k;
      last = ap (λ (r : State). r.last) is;
      is = asked ∙ (λ i. record { publish = time i; wants = wants_is b u k i; removed = k.removed i });
    }

pub begins_from : (p q : HighProcess) (m : ℕ) (task : Task) (a : Bool) (ask : HighAsk) → StepBegins (state_of p) (state_of q) m task a ask → LookBegins p q m task a ask
begins_from p q m task a ask step = λ t stands.
    let b = begun_from (state_of p) (state_of q) t m task a ask stands.holds step in
    (record { asking = b.asking; holds = b.holds; last = b.last }, b.is)

-- ---- the second half ----

item_holds : (s : State) (t : ProcessPast) (item : Option Item) → Holds s t → Holds (with_item s item) (taken_up t item)
item_holds s t None h = h
item_holds s t (Some x) h = record { removed = h.removed; hand = λ i. Some (record { number = h.removed i; payload = x.payload }); count = h.count; sends = h.sends }

item_last : (s : State) (item : Option Item) → (with_item s item).last ≡ s.last
item_last s None = refl
item_last s (Some x) = refl

sends_is : (resend : ℕ) (s : State) (t : ProcessPast) (a : Bool) (n m : ℕ) → n ≡ m → Holds s t → sends_of resend s a n ≡ is_sent resend a t m
sends_is resend s t a n m last h =
    let late : last_sent s.sent ≡ last_sending t.removed t.sends = sym h.sends.last ∙ ap (λ n. last_sending n t.sends) h.removed in
    ap (λ (c : Option Item × (Option ℕ × ℕ)). is_some c.0 && (a || is_due resend c.1.0 c.1.1)) (λ i. (h.hand i, (late i, last i)))

sends_after : (b : Bool) (s : State) (t : ProcessPast) (m : ℕ) → s.last ≡ m → Holds s t
    → HoldsSends s.removed (if b then sent_at s.sent s.last else s.sent) (if b then record { number = t.removed; moment = m } ∷ t.sends else t.sends)
sends_after false s t m last h = h.sends
sends_after true s t m last h = subst (λ (c : ℕ × ℕ). HoldsSends s.removed (sent_at s.sent s.last) (record { number = c.0; moment = c.1 } ∷ t.sends)) (λ i. (h.removed i, last i)) (sent_now s.removed s.last s.sent t.sends h.sends)

after_holds : (resend : ℕ) (a : Bool) (s : State) (t : ProcessPast) (m : ℕ) → s.last ≡ m → Holds s t → Holds (after resend a s) (finished resend a t m)
after_holds resend a s t m last h = record {
  removed = h.removed;
  hand = h.hand;
  count = h.count;
  sends = subst (λ b. HoldsSends s.removed (if sends_of resend s a s.last then sent_at s.sent s.last else s.sent) (if b then record { number = t.removed; moment = m } ∷ t.sends else t.sends))
      (sends_is resend s t a s.last m last h) (sends_after (sends_of resend s a s.last) s t m last h);
}

taken_removed : (t : ProcessPast) (item : Option Item) → (taken_up t item).removed ≡ t.removed
taken_removed t None = refl
taken_removed t (Some x) = refl

pub finishes_from : (p q : HighProcess) (item : Option Item) (look : HighLook) → StepFinishes p.row.resend (state_of p) (state_of q) item look → Finishes p q item look
finishes_from p q item look step = λ t m removed time a asks.
    let s = state_of p in
    let r : State = with_item s item in
    let u : ProcessPast = taken_up t item in
    let d = step (record { removed = removed; published = time; attaches = a; wants = wants t }) asks.asking in
    let h : Holds r u = item_holds s t item asks.holds in
    let last : r.last ≡ m = item_last s item ∙ asks.last in
    let number : s.removed ≡ u.removed = asks.holds.removed ∙ sym (taken_removed t item) in
    let sends : sends_of p.row.resend r a s.last ≡ is_sent p.row.resend a u m = sends_is p.row.resend r u a s.last m asks.last h in (
      record {
        asking = ap (λ (x : State). x.asking) d.0;
        holds = subst (λ (x : State). Holds x (finished p.row.resend a u m)) (sym d.0) (after_holds p.row.resend a r u m last h);
        last = ap (λ (x : State). x.last) d.0 ∙ last;
      },
      d.1 ∙ (λ i. record { removed = removed; published = time; sent = if sends i then Some (number i) else None }),
    )

-- .. after the message that came is in the hand
pub step_after : (resend resend' : ℕ) (s r q : State) (item : Option Item) (look : HighLook) → resend' ≡ resend → r ≡ with_item s item → StepFinishes resend' r q None look → StepFinishes resend s q item look
step_after resend resend' s r q None look same e step = subst (λ (z : ℕ × State). StepFinishes z.0 z.1 q None look) (λ i. (same i, e i)) step
step_after resend resend' s r q (Some x) look same e step = subst (λ (z : ℕ × State). StepFinishes z.0 z.1 q None look) (λ i. (same i, e i)) step

-- the hand of an opening
pub opened_hand : (hand : Option Item) (other : Item) (full : Bool) (x : Item) → full ≡ is_some hand → x ≡ unwrap_or hand other → hand_in full x ≡ hand
opened_hand None other full x e is = ap (λ (b : Bool). hand_in b x) e
opened_hand (Some y) other full x e is = (λ i. hand_in (e i) (is i))

-- ---- what a refusal says ----

chosen_device : (b c : Bool) (n expected faults : ℕ) → cond b Keep (cond c (Refuse (Ahead n expected)) Remove) ≡ Refuse (Device faults) → ⊥
chosen_device true c n expected faults e = absurd (cc)
chosen_device false true n expected faults e = absurd (cc)
chosen_device false false n expected faults e = absurd (cc)

attach_device : (b z : Bool) (c removed faults : ℕ) (t : Task) → (t ≡ Refuse (Device faults) → ⊥) → cond b (Refuse (Behind c removed)) (cond z Keep t) ≡ Refuse (Device faults) → ⊥
attach_device true z c removed faults t never e = absurd (cc)
attach_device false true c removed faults t never e = absurd (cc)
attach_device false false c removed faults t never e = never e

in_device : (k : Kind) (n removed expected faults : ℕ) → task_in k n removed expected ≡ Refuse (Device faults) → ⊥
in_device Taken n removed expected faults e = chosen_device (nat_lt n removed) (nat_le expected n) n expected faults e
in_device Attach n removed expected faults e =
    attach_device (nat_lt n removed) (n == 0) n removed faults (task_taken (n - 1) removed expected)
    (chosen_device (nat_lt (n - 1) removed) (nat_le expected (n - 1)) (n - 1) expected faults) e
in_device Hello n removed expected faults e = absurd (cc)
in_device Welcome n removed expected faults e = absurd (cc)
in_device Data n removed expected faults e = absurd (cc)
in_device Ack n removed expected faults e = absurd (cc)
in_device Refused n removed expected faults e = absurd (cc)

of_session : (b : Bool) (t : Task) (faults : ℕ) → (t ≡ Refuse (Device faults) → ⊥) → cond b t Keep ≡ Refuse (Device faults) → ⊥
of_session true t faults never e = never e
of_session false t faults never e = absurd (cc)

-- no frame is refused with a device fault
pub never_device : (session removed : ℕ) (hand : Option Item) (frame : Option Frame) (task : Task) → task ≡ task_of session removed hand frame → (faults : ℕ) → task ≡ Refuse (Device faults) → ⊥
never_device session removed hand None task is faults e = let no = sym is ∙ e in absurd (cc)
never_device session removed hand (Some f) task is faults e =
    of_session (f.session == session) (task_in f.kind f.number removed (expected removed hand)) faults
    (in_device f.kind f.number removed (expected removed hand) faults) (sym is ∙ e)

-- so a refusal changes nothing
pub refused : (task : Task) (fault : HighFault) (p : HighProcess) (m : ℕ) → task ≡ Refuse fault → ((faults : ℕ) → task ≡ Refuse (Device faults) → ⊥) → IsAfter fault p p m
refused task (Device faults) p m e never = absurd (never faults e)
refused task (Ahead n next) p m e never = refl
refused task (Behind c removed) p m e never = refl

-- ---- what a removal wants ----

record Back (n removed expected : ℕ) : Type 0 where
  number : n ≡ removed
  more : removed < expected

chosen : (b c : Bool) (f : HighFault) → cond b Keep (cond c (Refuse f) Remove) ≡ Remove → (b ≡ false) × (c ≡ false)
chosen true c f e = absurd (cc)
chosen false true f e = absurd (cc)
chosen false false f e = (refl, refl)

second : (b c : Bool) (f : HighFault) (t : Task) → cond b (Refuse f) (cond c Keep t) ≡ Remove → (c ≡ false) × (t ≡ Remove)
second true c f t e = absurd (cc)
second false true f t e = absurd (cc)
second false false f t e = (refl, e)

mine : (b : Bool) (t : Task) → cond b t Keep ≡ Remove → (b ≡ true) × (t ≡ Remove)
mine true t e = (refl, e)
mine false t e = absurd (cc)

taken_back : (n removed expected : ℕ) → expected ≤ removed + 1 → task_taken n removed expected ≡ Remove → Back n removed expected
taken_back n removed expected le e =
    let c = chosen (nat_lt n removed) (nat_le expected n) (Ahead n expected) e in
    let low : removed ≤ n = ltb-false n removed c.0 in
    let high : n < expected = leb-false expected n c.1 in
    record { number = omega (arith, low, high, le); more = omega (arith, low, high) }

record BackIn (k : Kind) (n removed expected : ℕ) : Type 0 where
  given : ((k ≡ Taken) × (n ≡ removed)) ⊎ ((k ≡ Attach) × (n ≡ removed + 1))
  more : removed < expected

back_in : (k : Kind) (n removed expected : ℕ) → expected ≤ removed + 1 → task_in k n removed expected ≡ Remove → BackIn k n removed expected
back_in Taken n removed expected le e = let b = taken_back n removed expected le e in record { given = inl (refl, b.number); more = b.more }
back_in Attach n removed expected le e =
    let s = second (nat_lt n removed) (n == 0) (Behind n removed) (task_taken (n - 1) removed expected) e in
    let b = taken_back (n - 1) removed expected le s.1 in
    let some : n ≢ 0 = eqb-false n 0 s.0 in
    record { given = inr (refl, omega (arith, b.number, some)); more = b.more }
back_in Hello n removed expected le e = absurd (cc)
back_in Welcome n removed expected le e = absurd (cc)
back_in Data n removed expected le e = absurd (cc)
back_in Ack n removed expected le e = absurd (cc)
back_in Refused n removed expected le e = absurd (cc)

pub expected_near : (removed : ℕ) (hand : Option Item) → expected removed hand ≤ removed + 1
expected_near removed None = omega arith
expected_near removed (Some x) = omega arith

full_hand : (removed : ℕ) (hand : Option Item) → removed < expected removed hand → is_some hand ≡ true
full_hand removed None lt = absurd (omega (arith, lt))
full_hand removed (Some x) lt = refl

pub record Removal (session removed : ℕ) (hand : Option Item) (frame : Option Frame) : Type 0 where
  pub full : is_some hand ≡ true
  pub given : GivenBack session removed frame

-- a removal is that of the message in the hand, which was given back
pub removal : (session removed : ℕ) (hand : Option Item) (frame : Option Frame) → task_of session removed hand frame ≡ Remove → Removal session removed hand frame
removal session removed hand None e = absurd (cc)
removal session removed hand (Some f) e =
    let m = mine (f.session == session) (task_in f.kind f.number removed (expected removed hand)) e in
    let b = back_in f.kind f.number removed (expected removed hand) (expected_near removed hand) m.1 in
    record { full = full_hand removed hand b.more; given = (eqb-true f.session session m.0, b.given) }

below_in : (removed : ℕ) (hand : Option Item) → IfSome hand (λ x. (x.number ≡ removed) × (removed < 2 ^ 48)) → is_some hand ≡ true → removed < 2 ^ 48
below_in removed None h e = absurd (cc)
below_in removed (Some x) h e = h.1

pub hand_holds : (removed : ℕ) (full : Bool) (x : Item) → (full ≡ true → (x.number ≡ removed) × (removed < 2 ^ 48)) → IfSome (hand_in full x) (λ y. (y.number ≡ removed) × (removed < 2 ^ 48))
hand_holds removed true x h = h refl
hand_holds removed false x h = tt

pub below : (p : HighProcess) (frame : Option Frame) (task : Task) → task ≡ task_of p.row.id p.removed (hand_of p) frame → task ≡ Remove → p.removed < 2 ^ 48
below p frame task is e = let r = removal p.row.id p.removed (hand_of p) frame (sym is ∙ e) in below_in p.removed (hand_of p) (hand_holds p.removed p.is_full p.hand p.in_hand) r.full

-- ---- what is published ----

small_since : (o : Option ℕ) (m : ℕ) → IfSome (time_since o m) (λ x. x ≤ 10 ^ 9)
small_since None m = tt
small_since (Some t) m = omega arith

small_if : (b : Bool) (count : ℕ) (o : Option ℕ) → (b ≡ true → count < 2 ^ 32 - 1) → IfSome o (λ x. x ≤ 10 ^ 9) → IfSome (cond b o None) (IsTime count)
small_if false count o few small = tt
small_if true count None few small = tt
small_if true count (Some x) few small = (small, few refl)

small_time : (s : State) (m : ℕ) → IfSome (time_of s.published s.sent m) (IsTime s.published)
small_time s m = small_if (nat_lt s.published (2 ^ 32 - 1)) s.published (time_since (first_sent s.sent) m) (λ e. ltb-true s.published (2 ^ 32 - 1) e) (small_since (first_sent s.sent) m)

pub small_publish : (p q : HighProcess) (m : ℕ) (task : Task) (a : Bool) (ask : HighAsk) → StepBegins (state_of p) (state_of q) m task a ask → IfSome ask.publish (IsTime p.published)
small_publish p q m Remove a ask step = subst (λ (r : HighAsk). IfSome r.publish (IsTime p.published)) (sym step.1) (small_time (state_of p) m)
small_publish p q m Keep a ask step = subst (λ (r : HighAsk). IfSome r.publish (IsTime p.published)) (sym step.1) tt
small_publish p q m (Refuse e) a ask step = absurd step

-- ---- what `begin` ensures, by its steps ----

pub begins_all : (p q : HighProcess) (m : ℕ) (task task' : Task) (a a' : Bool) (r : Result HighAsk HighFault) → task ≡ task' → a ≡ a' → IfOk r (λ ask. StepBegins (state_of p) (state_of q) m task a ask) → IfOk r (λ ask. LookBegins p q m task' a' ask)
begins_all p q m task task' a a' (Err e) same same' h = tt
begins_all p q m task task' a a' (Ok ask) same same' h = subst (λ (t : Task × Bool). LookBegins p q m t.0 t.1 ask) (λ i. (same i, same' i)) (begins_from p q m task a ask h)

wanted_keep : (removed : ℕ) (hand : Option Item) → wants_of removed hand ≡ true → removed ≡ expected removed hand
wanted_keep removed None e = refl
wanted_keep removed (Some x) e = absurd (cc)

wanted_remove : (removed : ℕ) (hand : Option Item) → is_some hand ≡ true → removed + 1 ≡ expected removed hand
wanted_remove removed None e = absurd (cc)
wanted_remove removed (Some x) e = refl

asked : (p q : HighProcess) (frame : Option Frame) (m : ℕ) (task : Task) (a : Bool) (ask : HighAsk) → task ≡ task_of p.row.id p.removed (hand_of p) frame → StepBegins (state_of p) (state_of q) m task a ask → Asked p q ask
asked p q frame m (Refuse e) a ask is step = absurd step
asked p q frame m Keep a ask is (now, asks') = record {
  asking = record { removed = None; published = None; attaches = a; wants = wants_of p.removed (hand_of p) };
  asks = ap (λ (r : State). r.asking) now;
  wants = sym (ap (λ (r : HighAsk). r.wants) asks');
  floor = λ e. ap (λ (r : HighAsk). r.removed) asks' ∙ wanted_keep p.removed (hand_of p) (sym (ap (λ (r : HighAsk). r.wants) asks') ∙ e);
  publish = small_publish p q m Keep a ask (now, asks');
}
asked p q frame m Remove a ask is (now, asks') =
    let r = removal p.row.id p.removed (hand_of p) frame (sym is) in
    record {
      asking = record { removed = Some p.removed; published = time_of p.published p.sent m; attaches = a; wants = wants_of (p.removed + 1) None };
      asks = ap (λ (r : State). r.asking) now;
      wants = sym (ap (λ (r : HighAsk). r.wants) asks');
      floor = λ e. ap (λ (r : HighAsk). r.removed) asks' ∙ wanted_remove p.removed (hand_of p) r.full;
      publish = small_publish p q m Remove a ask (now, asks');
    }

pub asked_all : (p q : HighProcess) (frame : Option Frame) (m : ℕ) (task : Task) (a : Bool) (r : Result HighAsk HighFault) → task ≡ task_of p.row.id p.removed (hand_of p) frame → IfOk r (λ ask. StepBegins (state_of p) (state_of q) m task a ask) → IfOk r (Asked p q)
asked_all p q frame m task a (Err e) is h = tt
asked_all p q frame m task a (Ok ask) is h = asked p q frame m task a ask is h

-- ---- a whole look ----

removing_ok : {D T U : Type 0} (m : Meaning D) (old new : HighStore D) (a : T) (b : U) → Removing m old new (Ok a) → Removing m old new (Ok b)
removing_ok m old new a b r = record {
  moves = r.moves;
  removed = r.removed;
  ready = r.ready;
  count = r.count;
  closed = tt;
  answers = record { counts = r.answers.counts; rose = λ e. absurd (cc); never = λ x y z. refl; always = λ x y. (let no = r.answers.always x y in absurd (cc)); room = r.answers.room; disarmed = r.answers.disarmed };
  fault = tt;
}

pub fares_ok : {D T U : Type 0} (m : Meaning D) (p q q' : HighProcess) (old new : HighStore D) (task : Task) (a : T) (b : U) → Fares m task p q old new (Ok a) → Fares m task p q' old new (Ok b)
fares_ok m p q q' old new (Refuse e) a b f = let no = f.0 in absurd (cc)
fares_ok m p q q' old new Keep a b f = (tt, f.1)
fares_ok m p q q' old new Remove a b f = (removing_ok m old new a b f.0, tt)

module _ {D : Type 0} (m : Meaning D) (row : Row) (session removed : ℕ) (hand : Option Item) (frame : Option Frame) (old new : HighStore D) (settled : Settled m (high_disk old)) (stands : m.tells → HighStands row removed (m.reading (high_disk old))) where
  at_start : Each m (HighStands row removed) (high_disk old)
  at_start = each_settled m (HighStands row removed) (high_disk old) settled stands

  same_images : new ≡ old → Leaves m (high_disk old) (high_disk new) (StandsOrRemoved row session removed frame)
  same_images same = subst (λ (s : HighStore D). Leaves m (high_disk old) (high_disk s) (StandsOrRemoved row session removed frame)) (sym same)
      (leaves m (HighStands row removed) (StandsOrRemoved row session removed frame) Same (high_disk old) (high_disk old) at_start
      (λ c is. inl is) (λ c d is same. inl (subst (HighStands row removed) (sym same) is)) (started m Same (λ c. refl) (high_disk old)))

  removed_images : GivenBack session removed frame → Moves m MayRemove (high_disk old) (high_disk new) → Leaves m (high_disk old) (high_disk new) (StandsOrRemoved row session removed frame)
  removed_images given moved =
      leaves m (HighStands row removed) (StandsOrRemoved row session removed frame) MayRemove (high_disk old) (high_disk new) at_start
      (λ c is. inl is) (λ c d is may. ⊎_elim (λ stays. inl stays) (λ more. inr (given, more)) (may.either row removed is)) moved

  pub images : (T : Type 0) (p q : HighProcess) (r : Result T HighFault) (task : Task) → task ≡ task_of session removed hand frame
      → Fares m task p q old new r → Leaves m (high_disk old) (high_disk new) (StandsOrRemoved row session removed frame)
  images T p q r (Refuse e) is f = same_images f.2
  images T p q r Keep is f = same_images f.1
  images T p q r Remove is f = removed_images (removal session removed hand frame (sym is)).given f.0.moves

pub looked : (s : Shape) (on_one_thread : Bool) (after' : Low → High → Type 0) (l : Low) (h : High) (p q q' : HighProcess) (t : ProcessPast) (m : ℕ) (task : Task) (a : Bool) (ask : HighAsk) (item : Option Item) (look : HighLook)
    → q.row.resend ≡ p.row.resend → LookBegins p q m task a ask → Finishes q q' item look → TakesUp s on_one_thread after' l (told_time ask.publish h) ask.wants ask.removed item → StandsFor p t
    → Looked s on_one_thread after' l h p q' t m task a look
looked s on_one_thread after' l h p q q' t m task a ask item look same begins finishes takes holds =
    let b = begins t holds in
    let f = finishes (begun task t m) m (removed_in task t) (published_in task t m) a b.0 in
    record {
      got = item;
      ends = subst (λ (r : HighAsk). TakesUp s on_one_thread after' l (told_time r.publish h) r.wants r.removed item) b.1 takes;
      stands = subst (λ n. StandsFor q' (finished n a (taken_up (begun task t m) item) m)) same f.0;
      is = subst (λ n. look ≡ record { removed = removed_in task t; published = published_in task t m; sent = sent_in n a (taken_up (begun task t m) item) m }) same f.1;
    }

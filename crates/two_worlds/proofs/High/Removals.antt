-- The first part of a high look: what comes back, and a removal.
use Rattle.std.proofs.Common.{◌≡◌, inl, inr, ℕ, zero, suc, ◌+◌, ◌-◌, ◌<◌, ◌≤◌, Bool, true, false, cond, [], ◌∷◌, ◌++◌, Option, Some, None, refl, sym, ap, ◌∙◌, subst, arith, nat_lt, append-nil, eq-eqb, ne_eqb, lt-ltb}
use Rattle.std.specs.Prelude.{slice_get, option_to_list, nat_le, ◌==◌, ◌&&◌, is_some}
use Rattle.std.proofs.lemmas.Bool.Decides.{nat_tests}
use Rattle.disk_model.specs.Disk.{Meaning}
use Rattle.pump_frame.specs.declared.frame.Frame.{Frame}
use Rattle.pump_frame.specs.declared.frame.Item.{Item}
use Rattle.pump_frame.specs.declared.frame.Kind.{Kind}
use Rattle.pump_frame.specs.declared.frame.Kind.TheVariants.{Attach, Taken}
use Rattle.pump_core.specs.declared.event.Event.TheVariants.{ReturnTaken, RemoveBegin, RemoveEnd}
use Rattle.pump_core.specs.World.{World}
use Rattle.pump_core.specs.Events.{Happens, Run, holds, answered}
use Rattle.pump_core.specs.HighLooks.{Returns}
use Rattle.pump_core.specs.Sendings.{removal_time, expected}
use Rattle.pump_core.proofs.Bounded.{in_hand}
use Rattle.high_process.specs.States as high
use Rattle.high_process.specs.Past as high_past
use Rattle.high_process.specs.Tasks.{task_taken, task_in, attaches_in, is_attach}
use Rattle.high_process.specs.declared.values.HighFault.TheVariants.{Ahead, Behind, Device}
use Rattle.high_process.specs.declared.values.Task.{Task}
use Rattle.high_process.specs.declared.values.Task.TheVariants.{Refuse, Remove, Keep}
use Rattle.script_reader.specs.declared.event.Event.TheVariants.{Removed}
use Rattle.script_reader.specs.Past.{Past}
use Rattle.script_reader.specs.Highs.{IsRemoval, is_not_below, is_ahead}
use Rattle.two_worlds.specs.Standing.{Stands, number_of, high_past_of}
use Rattle.two_worlds.specs.Private.HighLooks.{IsOfLast, ComesBack, removed_line}
use Rattle.two_worlds.specs.declared.pump.parts.Parts.{Parts}

-- ---- what a number asks ----

not_less : (n : ℕ) → nat_lt n n ≡ false
not_less n = grind (arith, nat_tests)

by_tests : (n removed : ℕ) (hand : Option Item) (P : Task → Type 0)
    → (n < removed → nat_le (expected removed hand) n ≡ false → P Keep)
    → (nat_le (expected removed hand) n ≡ true → P (Refuse (Ahead n (expected removed hand))))
    → ((x : Item) → hand ≡ Some x → n ≡ removed → nat_le (expected removed hand) n ≡ false → P Remove)
    → P (task_taken n removed (expected removed hand))
by_tests n removed None P keep refuse remove = elim (nat_lt n removed) as (λ b. nat_lt n removed ≡ b → P (cond b Keep (cond (nat_le removed n) (Refuse (Ahead n removed)) Remove))) [
  | true ↦ λ e. keep (grind (arith, nat_tests)) (grind (arith, nat_tests))
  | false ↦ λ e. elim (nat_le removed n) as (λ b. nat_le removed n ≡ b → P (cond b (Refuse (Ahead n removed)) Remove)) [
    | true ↦ λ f. refuse f
    | false ↦ λ f. absurd (grind (arith, nat_tests))
  ] refl
] refl
by_tests n removed (Some x) P keep refuse remove = elim (nat_lt n removed) as (λ b. nat_lt n removed ≡ b → P (cond b Keep (cond (nat_le (removed + 1) n) (Refuse (Ahead n (removed + 1))) Remove))) [
  | true ↦ λ e. keep (grind (arith, nat_tests)) (grind (arith, nat_tests))
  | false ↦ λ e. elim (nat_le (removed + 1) n) as (λ b. nat_le (removed + 1) n ≡ b → P (cond b (Refuse (Ahead n (removed + 1))) Remove)) [
    | true ↦ λ f. refuse f
    | false ↦ λ f. remove x refl (grind (arith, nat_tests)) f
  ] refl
] refl

some_full : (hand : Option Item) → is_some (number_of hand) ≡ is_some hand
some_full None = refl
some_full (Some x) = refl

answered_same : (w : World) (n : ℕ) → (n == w.removed && holds w.high_hand n) ≡ false → answered w n ≡ w
answered_same w n e = ap (λ (b : Bool). cond b (record w { due = true }) w) e

answered_due : (w : World) (n : ℕ) → (n == w.removed && holds w.high_hand n) ≡ true → answered w n ≡ record w { due = true }
answered_due w n e = ap (λ (b : Bool). cond b (record w { due = true }) w) e

-- the world in which the removal of the first live message is due, and that in which it is begun
abbrev pub with_due : World → World
with_due w = record w { due = true }

abbrev pub with_begun : World → World
with_begun w = record w { due = true; removing = true }

-- the world without the first live message
abbrev pub without_first : World → World
without_first w = record w { removed = w.removed + 1; high_hand = None; due = false; removing = false }

-- the TAKEN at this place is of the message in the hand
pub record TakesHand {D : Type 0} (c : Parts D) (p : Past) (k : ℕ) : Type 0 where
  pub item : Item
  pub hand : high.hand_of c.high ≡ Some item
  pub returns : Happens p.world (ReturnTaken k) (with_due p.world)

-- what comes back, by what it asks
abbrev pub Asks : {D : Type 0} → Parts D → Past → Option ℕ → Task → Type 0
Asks c p None Keep = Unit {0}
Asks c p None (Refuse e) = ⊥
Asks c p None Remove = ⊥
Asks c p (Some k) Keep = Happens p.world (ReturnTaken k) p.world × (is_ahead p.world k ≡ false)
Asks c p (Some k) (Refuse (Ahead n next)) = is_ahead p.world k ≡ true
Asks c p (Some k) (Refuse (Behind n next)) = ⊥
Asks c p (Some k) (Refuse (Device faults)) = ⊥
Asks c p (Some k) Remove = TakesHand c p k × (is_ahead p.world k ≡ false)

by_and : (b c : Bool) → c ≡ false → (b && c) ≡ false
by_and true c e = e
by_and false c e = refl

-- whether it comes from a receiver that attaches
pub attaches_is : (session : ℕ) (w : World) (attaches : Bool) (frame : Option Frame) (back : Option ℕ) → ComesBack session w attaches frame back → attaches_in session frame ≡ attaches
attaches_is session w false None back comes = refl
attaches_is session w false (Some f) None comes = absurd comes
attaches_is session w false (Some f) (Some k) comes = by_and (f.session == session) (is_attach f.kind) (ap is_attach comes.0)
attaches_is session w true None back comes = absurd comes
attaches_is session w true (Some f) back comes = ap (λ (t : Bool × Bool). t.0 && t.1) (λ i. (eq-eqb f.session session comes.1 i, ap is_attach comes.0 i))

module _ {D : Type 0} (m : Meaning D) (c : Parts D) (p : Past) (stands : Stands m c p) where
  abbrev w : World
  w = p.world

  abbrev removed : ℕ
  removed = high.removed_of c.high

  expected_same : expected w.removed w.high_hand ≡ expected removed (high.hand_of c.high)
  expected_same =
      ap (λ (t : Bool × ℕ). cond t.0 (t.1 + 1) t.1) (λ i. (ap is_some stands.world.high_hand i, stands.world.removed i))
      ∙ ap (λ (b : Bool). cond b (removed + 1) removed) (some_full (high.hand_of c.high))

  module _ (k n : ℕ) (at : slice_get w.returned k ≡ Some n) where
    ahead_is : is_ahead w k ≡ nat_le (expected removed (high.hand_of c.high)) n
    ahead_is = ap (is_not_below (expected w.removed w.high_hand)) at ∙ ap (λ (x : ℕ). nat_le x n) expected_same

    returns_other : n < removed → Happens w (ReturnTaken k) w
    returns_other less =
        let no : (n == w.removed) ≡ false = ne_eqb n w.removed (λ e. omega (arith, e, less, stands.world.removed)) in
        (n, at, stands.sound.rest.removing, sym (answered_same w n (ap (λ b. b && holds w.high_hand n) no)))

    module _ (x : Item) (hand : high.hand_of c.high ≡ Some x) (same : n ≡ removed) where
      in_high : w.high_hand ≡ Some x.number
      in_high = stands.world.high_hand ∙ ap number_of hand

      n_is : n ≡ w.removed
      n_is = same ∙ sym stands.world.removed

      is_due : (n == w.removed && holds w.high_hand n) ≡ true
      is_due =
          let a : (n == w.removed) ≡ true = eq-eqb n w.removed n_is in
          let number : x.number ≡ w.removed = (in_hand w x.number stands.sound.lawful.bounded in_high).0 in
          let b : holds w.high_hand n ≡ true = ap (λ o. holds o n) in_high ∙ eq-eqb x.number n (number ∙ sym n_is) in
          rw (a, b) refl

      takes_hand : TakesHand c p k
      takes_hand = record { item = x; hand = hand; returns = (n, at, stands.sound.rest.removing, sym (answered_due w n is_due)) }

    asks_number : Asks c p (Some k) (task_taken n removed (expected removed (high.hand_of c.high)))
    asks_number = by_tests n removed (high.hand_of c.high) (Asks c p (Some k))
        (λ less e. (returns_other less, ahead_is ∙ e))
        (λ e. ahead_is ∙ e)
        (λ x hand same e. (takes_hand x hand same, ahead_is ∙ e))

  -- the first number that was not sent
  abbrev next : ℕ
  next = expected removed (high.hand_of c.high)

  task_same : (f : Frame) (kind : Kind) → f.kind ≡ kind → f.session ≡ c.row.id → high.task_at c.high (Some f) ≡ task_in kind f.number removed next
  task_same f kind is session =
      let e : (f.session == (high.row_of c.high).id) ≡ true = eq-eqb f.session (high.row_of c.high).id (session ∙ sym (ap (λ r. r.id) stands.high_ready.row)) in
      ap (λ (t : Bool × Kind). cond t.0 (task_in t.1 f.number removed next) Keep) (λ i. (e i, is i))

  -- ---- a receiver that attaches ----

  not_behind : (n : ℕ) → removed ≤ n → nat_lt n removed ≡ false
  not_behind n le = grind (arith, nat_tests)

  attach_none : removed ≤ 0 → task_in Attach 0 removed next ≡ Keep
  attach_none le = ap (λ (b : Bool). cond b (Refuse (Behind 0 removed)) Keep) (not_behind 0 le)

  attach_some : (n : ℕ) → removed ≤ suc n → task_in Attach (suc n) removed next ≡ task_taken n removed next
  attach_some n le =
      let some : (suc n == 0) ≡ false = ne_eqb (suc n) 0 (λ e. omega (arith, e)) in
      let last : suc n - 1 ≡ n = omega arith in
      ap (λ (t : Bool × Bool × ℕ). cond t.0 (Refuse (Behind (suc n) removed)) (cond t.1 Keep (task_taken t.2 removed next))) (λ i. (not_behind (suc n) le i, some i, last i))

  asks_attach : (n : ℕ) (back : Option ℕ) → removed ≤ n → IsOfLast w n back → Asks c p back (task_in Attach n removed next)
  asks_attach zero None le is = subst (Asks c p None) (sym (attach_none le)) tt
  asks_attach zero (Some k) le is = absurd is
  asks_attach (suc n) None le is = absurd is
  asks_attach (suc n) (Some k) le is = subst (Asks c p (Some k)) (sym (attach_some n le)) (asks_number k n is)

  pub asks : (attaches : Bool) (frame : Option Frame) (back : Option ℕ) → ComesBack c.row.id w attaches frame back → Asks c p back (high.task_at c.high frame)
  asks false None None comes = tt
  asks false None (Some k) comes = absurd comes
  asks false (Some f) None comes = absurd comes
  asks false (Some f) (Some k) comes = subst (Asks c p (Some k)) (sym (task_same f Taken comes.0 comes.1)) (asks_number k f.number comes.2)
  asks true None back comes = absurd comes
  asks true (Some f) back comes =
      let count = comes.2 in
      let le : removed ≤ f.number = omega (arith, count, stands.world.removed, stands.sound.lawful.delivered.removed) in
      subst (Asks c p back) (sym (task_same f Attach comes.0 comes.1)) (asks_attach f.number back le comes.3)

  -- nothing is removed
  pub keeps : (moment : ℕ) (back : Option ℕ) → Returns w back w → IsRemoval c.row p moment back p []
  keeps moment back returns =
      let none = not_less w.removed in
      record {
        look = record {
          answered = w;
          returns = returns;
          removes = inr ((λ x e. (let due = e.0 in let off = stands.sound.rest.due in absurd (cc))), refl);
          time = None;
          is_time = rw none refl;
          times = sym (append-nil p.times);
          sends = refl;
        };
        rest = refl;
        printed_is = rw none refl;
      }

  -- the message in the hand is removed
  pub removal : Run (with_due w) (RemoveBegin ∷ RemoveEnd ∷ []) (without_first w)
  removal = (with_begun w, (refl, stands.sound.rest.removing, refl), (without_first w, (refl, refl), refl))

  -- the time that is published
  abbrev pub time_in : ℕ → Option ℕ
  time_in moment = high_past.next_time (high_past_of c p) moment

  pub removes : (moment k : ℕ) → TakesHand c p k
      → IsRemoval c.row p moment (Some k) (record p { world = without_first w; times = p.times ++ option_to_list (time_in moment) }) (removed_line c.row.id moment (Some removed) (time_in moment))
  removes moment k takes =
      let less : nat_lt w.removed (w.removed + 1) ≡ true = lt-ltb w.removed (w.removed + 1) (omega arith) in
      record {
        look = record {
          answered = with_due w;
          returns = takes.returns;
          removes = inl removal;
          time = time_in moment;
          is_time = ap (λ (n : ℕ). removal_time n moment p.sends p.times) (sym stands.world.removed)
              ∙ sym (ap (λ (b : Bool). cond b (removal_time w.removed moment p.sends p.times) None) less);
          times = refl;
          sends = refl;
        };
        rest = refl;
        printed_is = ap (λ (x : ℕ). Removed c.row.id moment x (time_in moment) ∷ []) (sym stands.world.removed) ∙ sym (ap (λ (b : Bool). cond b (Removed c.row.id moment w.removed (time_in moment) ∷ []) []) less);
      }

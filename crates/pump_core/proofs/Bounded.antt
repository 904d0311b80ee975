-- The pump keeps its bounds, whatever comes back to it.
use Rattle.std.proofs.Common.{◌≡◌, ◌≢◌, ℕ, zero, suc, ◌+◌, ◌-◌, ◌/◌, ◌%◌, ◌<◌, ◌≤◌, min, Bool, true, false, cond, List, [], ◌∷◌, ◌++◌, length, Option, Some, None, refl, sym, ap, ◌∙◌, subst, arith, append_assoc, append-nil, length-append}
use Rattle.std.specs.Prelude.{slice_get, All, option_to_list, if◌then◌else◌, nat_lt, ◌==◌, ◌&&◌}
use Rattle.std.specs.List.{range_with_len}
use Rattle.std.proofs.lemmas.List.FromFn.{length-range_with_len}
use Rattle.std.proofs.lemmas.Bool.{and_parts, eqb-true, eqb-false, ne_eqb, lt-ltb}
use Rattle.std.proofs.Math.Nat.{mul-le-mul_left}
use Rattle.pump_frame.specs.Rows.{least_capacity, greatest_capacity}
use Rattle.pump_frame.specs.declared.payload.Payload.{Payload}
use Rattle.pump_frame.specs.declared.frame.Item.{Item}
use Rattle.pump_core.specs.World.{World, refilled}
use Rattle.pump_core.specs.Events.{stored, carried, took, holds, answered, with_kept, with_answer, pump_crashed, receiver_crashed}
use Rattle.pump_core.specs.Lawful.{IsWithin, numbers, HasPlace, StoresWithPlace, IsMessage, IsBounded}
use Rattle.pump_core.proofs.Lists.{range-push, slice_get-append, All-push, All-map, length-push}

-- ---- slots ----

-- numbers that are less than a capacity apart have different slots
pub other_slot : (capacity n e : ℕ) → n < e → e < n + capacity → n % capacity ≢ e % capacity
other_slot capacity n e less near same =
    let below : n / capacity < e / capacity → ⊥ = λ h.
    let h' : n / capacity + 1 ≤ e / capacity = omega arith in
    omega (arith, mul-le-mul_left capacity h') in
    let above : e / capacity ≤ n / capacity → ⊥ = λ h. omega (arith, mul-le-mul_left capacity h) in
    omega (arith, below, above)

-- ---- the numbers in the pump ----

pub length-option : (o : Option ℕ) → length (option_to_list o) ≤ 1
length-option None = omega arith
length-option (Some n) = omega arith

-- with an empty low hand there is a place
pub place : (w : World) → IsBounded w → w.low_hand ≡ None
    → HasPlace w.capacity w.removed (length w.accepted) w.low_hand
place w b low =
    let e = ap (λ o. length (numbers w.high_hand w.held o)) (sym low) ∙ ap length b.order.order ∙ length-range_with_len w.removed (length w.accepted - w.removed) in
    let f = length-append (option_to_list w.high_hand) (w.held ++ []) in
    let g = length-append w.held [] in
    let few : length w.accepted - w.removed ≤ w.capacity - 1 = omega (arith, e, f, g, length-option w.high_hand, b.order.room, b.size) in
    record {
      hand = low;
      place = few;
      slot = λ n from to. other_slot w.capacity n (length w.accepted) to (omega (arith, few, from, to, b.size.0));
    }

-- a number in the high hand is that of the first live message
pub first_live : (removed k n : ℕ) (rest : List ℕ) → n ∷ rest ≡ range_with_len removed k
    → (n ≡ removed) × (0 < k)
first_live removed zero n rest e = absurd (cc)
first_live removed (suc k) n rest e = (cc, omega arith)

pub rest_live : (removed k n : ℕ) (rest : List ℕ) → n ∷ rest ≡ range_with_len removed k
    → rest ≡ range_with_len (removed + 1) (k - 1)
rest_live removed zero n rest e = absurd (cc)
rest_live removed (suc k) n rest e =
    let f : suc k - 1 ≡ k = omega arith in
    rw f (cc)

pub in_hand : (w : World) (n : ℕ) → IsBounded w → w.high_hand ≡ Some n
    → (n ≡ w.removed) × (w.removed < length w.accepted)
in_hand w n b high =
    let e = ap (λ o. numbers o w.held w.low_hand) (sym high) ∙ b.order.order in
    let f = first_live w.removed (length w.accepted - w.removed) n (w.held ++ option_to_list w.low_hand) e in
    (f.0, omega (arith, f.1))

-- ---- what the pump does not see ----

pub elsewhere : (w : World) (received : List Payload) (packet : Option Payload) (taking : Bool)
    (returned : List ℕ)
    → IsBounded w
    → IsBounded (record w { received = received; packet = packet; taking = taking; returned = returned })
elsewhere w received packet taking returned b = record {
  size = b.size;
  within = b.within;
  order = b.order;
  store = b.store;
  removal = b.removal;
  sent = b.sent;
  acknowledged = b.acknowledged;
}

either : (P : World → Type 0) (test : Bool) (x y : World) → P x → P y → P (cond test x y)
either P true x y p q = p
either P false x y p q = q

pub carries : (w : World) (d : Item) → IsBounded w → IsBounded (carried w d)
carries w d b = either IsBounded (nat_lt d.number (length w.received)) _ _
    (elsewhere w w.received w.packet w.taking (w.returned ++ d.number ∷ []) b)
    (elsewhere w w.received (Some d.payload) w.taking w.returned b)

pub takes : (w : World) (p : Payload) → IsBounded w → IsBounded (took w p)
takes w p b = elsewhere w (w.received ++ p ∷ []) None false (w.returned ++ length w.received ∷ []) b

-- ---- the low side ----

pub begins_store : (w : World) (p : Payload) → IsBounded w → w.low_hand ≡ None
    → IsBounded (record w { storing = Some p })
begins_store w p b low = record {
  size = b.size;
  within = b.within;
  order = b.order;
  store = place w b low;
  removal = b.removal;
  sent = b.sent;
  acknowledged = b.acknowledged;
}

-- what is sent and acknowledged stays so over more messages
more_sent : (removed : ℕ) (accepted later : List Payload) (ds : List Item)
    → All (IsMessage removed accepted) ds → All (IsMessage removed (accepted ++ later)) ds
more_sent removed accepted later ds =
    All-map (IsMessage removed accepted) (IsMessage removed (accepted ++ later)) ds
    (λ d h. record { number = h.number; payload = slice_get-append accepted later d.number d.payload h.payload })

more_acknowledged : (accepted later : List Payload) (ns : List ℕ)
    → All (λ n. n < length accepted) ns → All (λ n. n < length (accepted ++ later)) ns
more_acknowledged accepted later ns =
    All-map (λ n. n < length accepted) (λ n. n < length (accepted ++ later)) ns
    (λ n h. omega (arith, h, length-append accepted later))

-- the numbers with one more
more_numbers : (high : Option ℕ) (held : List ℕ) (removed e : ℕ) → removed ≤ e
    → numbers high held None ≡ range_with_len removed (e - removed)
    → numbers high held (Some e) ≡ range_with_len removed (e + 1 - removed)
more_numbers high held removed e le h =
    let split : numbers high held (Some e) ≡ numbers high held None ++ e ∷ [] = rw append-nil (sym (append_assoc (option_to_list high) held (e ∷ []))) in
    let last : removed + (e - removed) ≡ e = omega arith in
    let count : e - removed + 1 ≡ e + 1 - removed = omega arith in
    split ∙ ap (λ l. l ++ e ∷ []) h ∙ (rw (last, count) at (range-push removed (e - removed)))

pub ends_store : (w : World) (p : Payload) → IsBounded w → w.storing ≡ Some p
    → IsBounded (stored w p)
ends_store w p b storing =
    let s = subst (StoresWithPlace w.capacity w.removed (length w.accepted) w.low_hand) storing b.store in
    let n = length-push w.accepted p in
    record {
      size = b.size;
      within = record { below = omega (arith, n, b.within.below); above = omega (arith, n, s.place, b.within.below, b.size) };
      order = record {
        order = rw n (more_numbers w.high_hand w.held w.removed (length w.accepted) b.within.below (ap (numbers w.high_hand w.held) (sym s.hand) ∙ b.order.order));
        room = b.order.room;
      };
      store = tt;
      removal = b.removal;
      sent = more_sent w.removed w.accepted (p ∷ []) w.sent b.sent;
      acknowledged = more_acknowledged w.accepted (p ∷ []) w.acknowledged b.acknowledged;
    }

no_store : (capacity removed accepted n : ℕ) (low : Option ℕ) (s : Option Payload) → low ≡ Some n
    → StoresWithPlace capacity removed accepted low s
    → StoresWithPlace capacity removed accepted None s
no_store capacity removed accepted n low None e h = tt
no_store capacity removed accepted n low (Some p) e h = let f = h.hand in absurd (cc)

pub forwards : (w : World) (n : ℕ) → IsBounded w → w.low_hand ≡ Some n
    → length w.held < w.capacity - 2
    → IsBounded (record w { held = w.held ++ n ∷ []; low_hand = None })
forwards w n b low room = record {
  size = b.size;
  within = b.within;
  order = record {
    order = rw append-nil (ap (numbers w.high_hand w.held) (sym low) ∙ b.order.order);
    room = omega (arith, length-push w.held n, room);
  };
  store = no_store w.capacity w.removed (length w.accepted) n w.low_hand w.storing low b.store;
  removal = b.removal;
  sent = b.sent;
  acknowledged = b.acknowledged;
}

pub acknowledges : (w : World) (n : ℕ) → IsBounded w → n < length w.accepted
    → IsBounded (record w { acknowledged = w.acknowledged ++ n ∷ [] })
acknowledges w n b less = record {
  size = b.size;
  within = b.within;
  order = b.order;
  store = b.store;
  removal = b.removal;
  sent = b.sent;
  acknowledged = All-push (λ m. m < length w.accepted) w.acknowledged n b.acknowledged less;
}

-- ---- the high side ----

pub takes_up : (w : World) (n : ℕ) (rest : List ℕ) → IsBounded w → w.high_hand ≡ None
    → w.held ≡ n ∷ rest → IsBounded (record w { held = rest; high_hand = Some n })
takes_up w n rest b high held = record {
  size = b.size;
  within = b.within;
  store = b.store;
  sent = b.sent;
  acknowledged = b.acknowledged;
  order = record {
    order = ap (λ (t : Option ℕ × List ℕ). numbers t.0 t.1 w.low_hand) (λ i. (sym high i, sym held i)) ∙ b.order.order;
    room = omega (arith, ap length held, b.order.room);
  };
  removal = record { hand = λ d. (let e = b.removal.hand d in absurd (cc)); cause = b.removal.cause };
}

pub sends : (w : World) (n : ℕ) (p : Payload) → IsBounded w → w.high_hand ≡ Some n
    → slice_get w.accepted n ≡ Some p
    → IsBounded (record w { sent = w.sent ++ record { number = n; payload = p } ∷ [] })
sends w n p b high at = record {
  size = b.size;
  within = b.within;
  order = b.order;
  store = b.store;
  removal = b.removal;
  acknowledged = b.acknowledged;
  sent = All-push (IsMessage w.removed w.accepted) w.sent (record { number = n; payload = p }) b.sent
      (record { number = omega (arith, (in_hand w n b high).0); payload = at });
}

-- the hand is returned, by whomever
holds-true : (high : Option ℕ) (n : ℕ) → holds high n ≡ true → high ≡ Some n
holds-true None n e = absurd (cc)
holds-true (Some m) n e = ap Some (eqb-true m n e)

pub answers : (w : World) (n : ℕ) → IsBounded w → IsBounded (answered w n)
answers w n b =
    elim (n == w.removed && holds w.high_hand n) as (λ t. (n == w.removed && holds w.high_hand n) ≡ t → IsBounded (cond t (record w { due = true }) w)) [
      | true ↦ λ e.
          let parts = and_parts (n == w.removed) (holds w.high_hand n) e in
          record {
            size = b.size;
            within = b.within;
            order = b.order;
            store = b.store;
            sent = b.sent;
            acknowledged = b.acknowledged;
            removal = record {
              hand = λ d. holds-true w.high_hand n parts.1 ∙ ap Some (eqb-true n w.removed parts.0);
              cause = λ d. refl;
            };
          }
      | false ↦ λ e. b
    ] refl

pub begins_removal : (w : World) → IsBounded w → w.due ≡ true
    → IsBounded (record w { removing = true })
begins_removal w b due = record {
  size = b.size;
  within = b.within;
  order = b.order;
  store = b.store;
  sent = b.sent;
  acknowledged = b.acknowledged;
  removal = record { hand = b.removal.hand; cause = λ d. due };
}

-- with one more removed
place_more : (capacity removed accepted : ℕ) (low : Option ℕ) (s : Option Payload)
    → StoresWithPlace capacity removed accepted low s
    → StoresWithPlace capacity (removed + 1) accepted low s
place_more capacity removed accepted low None h = tt
place_more capacity removed accepted low (Some p) h = record {
  hand = h.hand;
  place = omega (arith, h.place);
  slot = λ n from to. h.slot n (omega arith) to;
}

sent_more : (removed more : ℕ) (accepted : List Payload) (ds : List Item) → removed ≤ more
    → All (IsMessage removed accepted) ds → All (IsMessage more accepted) ds
sent_more removed more accepted ds le =
    All-map (IsMessage removed accepted) (IsMessage more accepted) ds
    (λ d h. record { number = omega (arith, le, h.number); payload = h.payload })

pub ends_removal : (w : World) → IsBounded w → w.removing ≡ true
    → IsBounded (record w { removed = w.removed + 1; high_hand = None; due = false; removing = false })
ends_removal w b removing =
    let high = b.removal.hand (b.removal.cause removing) in
    let live = (in_hand w w.removed b high).1 in
    let e = ap (λ o. numbers o w.held w.low_hand) (sym high) ∙ b.order.order in
    let count : length w.accepted - w.removed - 1 ≡ length w.accepted - (w.removed + 1) = omega arith in
    record {
      size = b.size;
      within = record { below = omega (arith, live); above = omega (arith, b.within.above) };
      order = record {
        order = rest_live w.removed (length w.accepted - w.removed) w.removed (w.held ++ option_to_list w.low_hand) e ∙ ap (range_with_len (w.removed + 1)) count;
        room = b.order.room;
      };
      store = place_more w.capacity w.removed (length w.accepted) w.low_hand w.storing b.store;
      removal = record { hand = λ d. absurd (cc); cause = λ d. absurd (cc) };
      sent = sent_more w.removed (w.removed + 1) w.accepted w.sent (omega arith) b.sent;
      acknowledged = b.acknowledged;
    }

-- ---- openings and crashes ----

refilled_order : (capacity removed k : ℕ) → 2 ≤ capacity → k ≤ capacity →
    numbers (if nat_lt 0 k then Some removed else None) (range_with_len (removed + 1) (min (capacity - 2) (k - 1))) (if k == capacity then Some (removed + k - 1) else None)
    ≡ range_with_len removed k
refilled_order capacity removed zero two le =
    let few : min (capacity - 2) (0 - 1) ≡ 0 = omega arith in
    let test : (0 == capacity) ≡ false = ne_eqb 0 capacity (λ e. omega (arith, e)) in
    rw (few, test) refl
refilled_order capacity removed (suc k) two le =
    let first : nat_lt 0 (suc k) ≡ true = lt-ltb 0 (suc k) (omega arith) in
    elim (suc k == capacity) as (λ t. (suc k == capacity) ≡ t → numbers (cond (nat_lt 0 (suc k)) (Some removed) None) (range_with_len (removed + 1) (min (capacity - 2) (suc k - 1))) (cond t (Some (removed + suc k - 1)) None) ≡ removed ∷ range_with_len (removed + 1) k) [
      | true ↦ λ e.
          let same = eqb-true (suc k) capacity e in
          let few : min (capacity - 2) (suc k - 1) ≡ k - 1 = omega arith in
          let last : removed + suc k - 1 ≡ removed + 1 + (k - 1) = omega arith in
          let count : k - 1 + 1 ≡ k = omega arith in
          rw (first, few, last) (ap (λ l. removed ∷ l) (range-push (removed + 1) (k - 1) ∙ ap (range_with_len (removed + 1)) count))
      | false ↦ λ e.
          let apart = eqb-false (suc k) capacity e in
          let few : min (capacity - 2) (suc k - 1) ≡ k = omega (arith, apart) in
          rw (first, few) (ap (λ l. removed ∷ l) (append-nil (range_with_len (removed + 1) k)))
    ] refl

-- a pump that is filled anew
pub refills : (w : World) → (least_capacity ≤ w.capacity) × (w.capacity ≤ greatest_capacity)
    → IsWithin w.capacity w.removed (length w.accepted)
    → All (IsMessage w.removed w.accepted) w.sent → All (λ n. n < length w.accepted) w.acknowledged
    → IsBounded (refilled w)
refills w size within sent acknowledged = record {
  size = size;
  within = within;
  sent = sent;
  acknowledged = acknowledged;
  order = record {
    order =
        let last : w.removed + (length w.accepted - w.removed) - 1 ≡ length w.accepted - 1 = omega (arith, within.below) in
        rw last at (refilled_order w.capacity w.removed (length w.accepted - w.removed) (omega (arith, size.0)) (omega (arith, within.above)));
    room = rw length-range_with_len (omega arith);
  };
  store = tt;
  removal = record { hand = λ d. absurd (cc); cause = λ d. absurd (cc) };
}

-- what a crash kept of an unfinished store
pub record Grown (capacity removed : ℕ) (accepted after : List Payload) : Type 0 where
  pub later : List Payload
  pub grown : after ≡ accepted ++ later
  pub above : length after ≤ removed + capacity

pub keeps_store : (capacity removed : ℕ) (accepted : List Payload) (low : Option ℕ) (kept : Bool)
    (s : Option Payload)
    → 1 ≤ capacity → IsWithin capacity removed (length accepted)
    → StoresWithPlace capacity removed (length accepted) low s
    → Grown capacity removed accepted (with_kept kept s accepted)
keeps_store capacity removed accepted low false s one within h = record { later = []; grown = sym (append-nil accepted); above = within.above }
keeps_store capacity removed accepted low true None one within h = record { later = []; grown = sym (append-nil accepted); above = within.above }
keeps_store capacity removed accepted low true (Some p) one within h = record { later = p ∷ []; grown = refl; above = omega (arith, length-push accepted p, h.place, within.below) }

-- .. and of an unfinished removal
pub record Moved (removed after accepted : ℕ) : Type 0 where
  pub above : removed ≤ after
  pub below : after ≤ accepted

keeps_removal : (w : World) (kept : Bool) → IsBounded w
    → Moved w.removed (if kept && w.removing then w.removed + 1 else w.removed) (length w.accepted)
keeps_removal w kept b =
    elim (kept && w.removing) as (λ t. (kept && w.removing) ≡ t → Moved w.removed (cond t (w.removed + 1) w.removed) (length w.accepted)) [
      | true ↦ λ e.
          let live = (in_hand w w.removed b (b.removal.hand (b.removal.cause (and_parts kept w.removing e).1))).1 in
          record { above = omega arith; below = omega (arith, live) }
      | false ↦ λ e. record { above = omega arith; below = b.within.below }
    ] refl

pub pump_crashes : (w : World) (kept : Option (Bool × Bool)) → IsBounded w
    → IsBounded (pump_crashed w kept)
pump_crashes w None b = b
pump_crashes w (Some kept) b =
    let g = keeps_store w.capacity w.removed w.accepted w.low_hand kept.0 w.storing (omega (arith, b.size.0)) b.within b.store in
    let m = keeps_removal w kept.1 b in
    let n = ap length g.grown ∙ length-append w.accepted g.later in
    refills (record w { accepted = with_kept kept.0 w.storing w.accepted; removed = if kept.1 && w.removing then w.removed + 1 else w.removed })
    b.size
    (record { below = omega (arith, m.below, n); above = omega (arith, m.above, g.above) })
    (subst (λ l. All (IsMessage (if kept.1 && w.removing then w.removed + 1 else w.removed) l) w.sent) (sym g.grown)
    (more_sent _ w.accepted g.later w.sent (sent_more w.removed _ w.accepted w.sent m.above b.sent)))
    (subst (λ (l : List Payload). All (λ n. n < length l) w.acknowledged) (sym g.grown) (more_acknowledged w.accepted g.later w.acknowledged b.acknowledged))

pub receiver_crashes : (w : World) (kept : Option Bool) → IsBounded w
    → IsBounded (receiver_crashed w kept)
receiver_crashes w None b = b
receiver_crashes w (Some kept) b =
    elsewhere w (with_kept (kept && w.taking) w.packet w.received) None false (with_answer (kept && w.taking) w.packet w.received w.returned) b

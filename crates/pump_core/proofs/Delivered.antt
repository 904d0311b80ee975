-- What the receiver has stays the beginning of what was accepted.
use Rattle.std.proofs.Common.{◌≡◌, ℕ, ◌+◌, ◌<◌, ◌≤◌, Bool, true, false, cond, List, [], ◌∷◌, ◌++◌, length, Option, Some, None, refl, sym, ap, ◌∙◌, subst, arith, append_assoc}
use Rattle.std.specs.Prelude.{slice_get, All, if◌then◌else◌, nat_lt, ◌==◌, ◌&&◌}
use Rattle.std.proofs.lemmas.Bool.{and_parts, eqb-true, ltb-true, ltb-false}
use Rattle.std.proofs.lemmas.List.Elements.{All-cons, All-nil}
use Rattle.pump_frame.specs.declared.payload.Payload.{Payload}
use Rattle.pump_frame.specs.declared.frame.Item.{Item}
use Rattle.pump_core.specs.World.{World, empty, opened, last_taken}
use Rattle.pump_core.specs.Events.{stored, carried, took, holds, answered, with_kept, with_answer, pump_crashed, receiver_crashed}
use Rattle.pump_core.specs.Lawful.{IsMessage, IsBounded, IsPrefixOf, IsNext, IsDelivered}
use Rattle.pump_core.proofs.Lists.{slice_get-append, rest_begins, All-at, All-push, All-map, length-push}
use Rattle.pump_core.proofs.Bounded.{keeps_store}

-- what the receiver does not see
pub aside : (w : World) (storing : Option Payload) (low_hand : Option ℕ) (held : List ℕ)
    (high_hand : Option ℕ) (removing : Bool) (sent : List Item) (acknowledged : List ℕ)
    → IsDelivered w
    → IsDelivered (record w { storing = storing; low_hand = low_hand; held = held; high_hand = high_hand; removing = removing; sent = sent; acknowledged = acknowledged })
aside w storing low_hand held high_hand removing sent acknowledged d = record {
  prefix = d.prefix;
  removed = d.removed;
  due = d.due;
  packet = d.packet;
  returned = d.returned;
}

-- more is accepted
longer : (accepted later received : List Payload) → IsPrefixOf received accepted
    → IsPrefixOf received (accepted ++ later)
longer accepted later received (rest, e) =
    (rest ++ later, sym (append_assoc received rest later) ∙ ap (λ l. l ++ later) e)

still_next : (accepted later received : List Payload) (packet : Option Payload) (taking : Bool)
    → IsNext accepted received packet taking → IsNext (accepted ++ later) received packet taking
still_next accepted later received None taking h = h
still_next accepted later received (Some p) taking h =
    slice_get-append accepted later (length received) p h

pub ends_store : (w : World) (p : Payload) → IsDelivered w → IsDelivered (stored w p)
ends_store w p d = record {
  prefix = longer w.accepted (p ∷ []) w.received d.prefix;
  removed = d.removed;
  due = d.due;
  packet = still_next w.accepted (p ∷ []) w.received w.packet w.taking d.packet;
  returned = d.returned;
}

pub carries : (w : World) (k : ℕ) (m : Item) → IsBounded w → IsDelivered w
    → slice_get w.sent k ≡ Some m → w.packet ≡ None → m.number ≤ length w.received
    → IsDelivered (carried w m)
carries w k m b d at free le =
    elim (nat_lt m.number (length w.received)) as (λ t. nat_lt m.number (length w.received) ≡ t → IsDelivered (cond t (record w { returned = w.returned ++ m.number ∷ [] }) (record w { packet = Some m.payload }))) [
      | true ↦ λ e. record {
        prefix = d.prefix;
        removed = d.removed;
        due = d.due;
        packet = d.packet;
        returned = All-push (λ n. n < length w.received) w.returned m.number d.returned (ltb-true m.number (length w.received) e);
      }
      | false ↦ λ e.
          let above = ltb-false m.number (length w.received) e in
          let same : m.number ≡ length w.received = omega (arith, above, le) in
          record {
            prefix = d.prefix;
            removed = d.removed;
            due = d.due;
            returned = d.returned;
            packet = subst (λ n. slice_get w.accepted n ≡ Some m.payload) same (All-at (IsMessage w.removed w.accepted) w.sent k m b.sent at).payload;
          }
    ] refl

at_packet : (accepted received : List Payload) (packet : Option Payload) (taking : Bool)
    (p : Payload)
    → packet ≡ Some p → IsNext accepted received packet taking
    → slice_get accepted (length received) ≡ Some p
at_packet accepted received packet taking p e h =
    subst (λ (o : Option Payload). IsNext accepted received o taking) e h

pub begins_taking : (w : World) (p : Payload) → IsDelivered w → w.packet ≡ Some p
    → IsDelivered (record w { taking = true })
begins_taking w p d at = record {
  prefix = d.prefix;
  removed = d.removed;
  due = d.due;
  returned = d.returned;
  packet = subst (λ (o : Option Payload). IsNext w.accepted w.received o true) (sym at) (at_packet w.accepted w.received w.packet w.taking p at d.packet);
}

-- one more is taken
prefix_more : (accepted received : List Payload) (p : Payload)
    → slice_get accepted (length received) ≡ Some p → IsPrefixOf received accepted
    → IsPrefixOf (received ++ p ∷ []) accepted
prefix_more accepted received p at (rest, e) =
    let b = rest_begins received rest p (subst (λ (l : List Payload). slice_get l (length received) ≡ Some p) (sym e) at) in
    (b.0, append_assoc received (p ∷ []) b.0 ∙ ap (λ l. received ++ l) (sym b.1) ∙ e)

pub takes : (w : World) (p : Payload) → IsDelivered w
    → slice_get w.accepted (length w.received) ≡ Some p → IsDelivered (took w p)
takes w p d at =
    let n = length-push w.received p in
    record {
      prefix = prefix_more w.accepted w.received p at d.prefix;
      removed = omega (arith, n, d.removed);
      due = λ e. (let h = d.due e in omega (arith, n, h));
      packet = refl;
      returned = All-push (λ m. m < length (w.received ++ p ∷ [])) w.returned (length w.received)
          (All-map (λ m. m < length w.received) (λ m. m < length (w.received ++ p ∷ [])) w.returned (λ m h. omega (arith, n, h)) d.returned)
          (omega (arith, n));
    }

pub ends_taking : (w : World) (p : Payload) → IsDelivered w → w.packet ≡ Some p
    → IsDelivered (took w p)
ends_taking w p d at = takes w p d (at_packet w.accepted w.received w.packet w.taking p at d.packet)

pub answers : (w : World) (k n : ℕ) → IsDelivered w → slice_get w.returned k ≡ Some n
    → IsDelivered (answered w n)
answers w k n d at =
    elim (n == w.removed && holds w.high_hand n) as (λ t. (n == w.removed && holds w.high_hand n) ≡ t → IsDelivered (cond t (record w { due = true }) w)) [
      | true ↦ λ e.
          let same = eqb-true n w.removed (and_parts (n == w.removed) (holds w.high_hand n) e).0 in
          let less = All-at (λ m. m < length w.received) w.returned k n d.returned at in
          record { prefix = d.prefix; removed = d.removed; packet = d.packet; returned = d.returned; due = λ _. omega (arith, same, less) }
      | false ↦ λ e. d
    ] refl

pub ends_removal : (w : World) → IsBounded w → IsDelivered w → w.removing ≡ true
    → IsDelivered (record w { removed = w.removed + 1; high_hand = None; due = false; removing = false })
ends_removal w b d removing =
    let h = d.due (b.removal.cause removing) in
    record { prefix = d.prefix; packet = d.packet; returned = d.returned; due = λ e. absurd (cc); removed = omega (arith, h) }

-- ---- crashes ----

moved : (w : World) (kept : Bool) → IsBounded w → IsDelivered w
    → (if kept && w.removing then w.removed + 1 else w.removed) ≤ length w.received
moved w kept b d =
    elim (kept && w.removing) as (λ t. (kept && w.removing) ≡ t → cond t (w.removed + 1) w.removed ≤ length w.received) [
      | true ↦ λ e. (let h = d.due (b.removal.cause (and_parts kept w.removing e).1) in omega (arith, h))
      | false ↦ λ e. d.removed
    ] refl

pub pump_crashes : (w : World) (kept : Option (Bool × Bool)) → IsBounded w → IsDelivered w
    → IsDelivered (pump_crashed w kept)
pump_crashes w None b d = d
pump_crashes w (Some kept) b d =
    let g = keeps_store w.capacity w.removed w.accepted w.low_hand kept.0 w.storing (omega (arith, b.size.0)) b.within b.store in
    record {
      prefix = subst (λ (l : List Payload). IsPrefixOf w.received l) (sym g.grown) (longer w.accepted g.later w.received d.prefix);
      removed = moved w kept.1 b d;
      due = λ e. absurd (cc);
      packet = subst (λ (l : List Payload). IsNext l w.received w.packet w.taking) (sym g.grown) (still_next w.accepted g.later w.received w.packet w.taking d.packet);
      returned = d.returned;
    }

crashed_receiver : (w : World) (kept : Bool) (packet : Option Payload) → IsDelivered w
    → w.packet ≡ packet
    → IsDelivered (record w { returned = with_answer kept packet w.received w.returned; received = with_kept kept packet w.received; packet = None; taking = false })
crashed_receiver w true (Some p) d e = ends_taking w p d e
crashed_receiver w true None d e = record { prefix = d.prefix; removed = d.removed; due = d.due; packet = refl; returned = d.returned }
crashed_receiver w false packet d e = record { prefix = d.prefix; removed = d.removed; due = d.due; packet = refl; returned = d.returned }

pub receiver_crashes : (w : World) (kept : Option Bool) → IsDelivered w
    → IsDelivered (receiver_crashed w kept)
receiver_crashes w None d = d
receiver_crashes w (Some kept) d = crashed_receiver w (kept && w.taking) w.packet d refl

-- ---- openings ----

last_below : (received : List Payload) → All (λ n. n < length received) (last_taken received)
last_below [] = All-nil (λ n. n < 0)
last_below (p ∷ ps) =
    All-cons (λ n. n < length (p ∷ ps)) (length ps) [] (omega arith) (All-nil (λ n. n < length (p ∷ ps)))

pub opens : (capacity removed : ℕ) (received later : List Payload) → removed ≤ length received
    → IsDelivered (opened capacity removed received later)
opens capacity removed received later le = record {
  prefix = (later, refl);
  removed = le;
  due = λ e. absurd (cc);
  packet = refl;
  returned = last_below received;
}

pub empties : (capacity : ℕ) → IsDelivered (empty capacity)
empties capacity = record {
  prefix = ([], refl);
  removed = omega arith;
  due = λ e. absurd (cc);
  packet = refl;
  returned = All-nil (λ n. n < 0);
}

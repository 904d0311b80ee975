-- Runs of places, step by step.
use Rattle.std.proofs.Common.{◌≡◌, ℕ, ◌+◌, ◌-◌, ◌≤◌, ◌==◌, ◌||◌, ◌&&◌, nat_le, Bool, true, false, not, cond, List, [], ◌∷◌, ◌++◌, inl, inr, ◌*◌, Option, None, Some, option_and_then, refl, subst, arith}
use Rattle.std.proofs.lemmas.Bool.{cond_both, eqb-false, leb-true, and_parts, cases_Bool}
use Rattle.std.proofs.lemmas.Option.{cond_some, same_Some, option_and_then_some}
use Rattle.pump_frame.specs.Names.{is_name_byte}
use Rattle.pump_frame.specs.Places.{goes, run, step, kind_of, has_zero, is_up_to, is_long, at_session, at_rest, at_payload, at_name, IsLive}
use Rattle.pump_frame.specs.declared.frame.Kind.{Kind}
use Rattle.pump_frame.specs.declared.frame.Kind.TheVariants.{Hello, Welcome, Data, Ack, Refuse, Attach, Taken}
use Rattle.pump_frame.specs.declared.place.Place.{Place}
use Rattle.pump_frame.specs.declared.place.Place.TheVariants.{FirstMark, SecondMark, Version, KindByte, Session, NumberTop, NumberSecond, NumberRest, LengthHigh, LengthLow, PayloadBytes, RefuseCode, LowName, HighName, End}

pub run-append : (xs ys : List ℕ) (p : Place) → run (xs ++ ys) p ≡ option_and_then (λ q. run ys q) (run xs p)
run-append [] ys p = refl
run-append (x ∷ xs) ys p =
    elim (step p x) as (λ o. option_and_then (λ q. run (xs ++ ys) q) o ≡ option_and_then (λ q. run ys q) (option_and_then (λ q. run xs q) o)) [
      | None ↦ refl
      | Some q ↦ run-append xs ys q
    ]

-- the last test passed, and the place behind it leads on
pub through : (t : Bool) (q : Place) (w : List ℕ) (e : Place) → option_and_then (λ next. run w next) (goes t q) ≡ Some e → (t ≡ true) × (run w q ≡ Some e)
through true q w e h = (refl, h)
through false q w e h = cc

-- a live place leads to live places

live_if : (t : Bool) (x q : Place) → (t ≡ true → IsLive x) → goes t x ≡ Some q → IsLive q
live_if t x q live h = let e = cond_some t x q h in let P : Place → Type 0 = IsLive in subst P e.1 (live e.0)

live_kind : (o : Option Kind) (q : Place) → at_session o ≡ Some q → IsLive q
live_kind None q h = cc
live_kind (Some k) q h = let P : Place → Type 0 = IsLive in subst P (same_Some (Session k 4) q h) (omega arith, omega arith)

live_payload : (k : Kind) (n : ℕ) (q : Place) → at_payload k n ≡ Some q → IsLive q
live_payload Hello n q h = live_if (nat_le 3 n && nat_le n 65) (LowName n 0) q (λ t. let both = and_parts (nat_le 3 n) (nat_le n 65) t in let least = leb-true 3 n both.0 in let most = leb-true n 65 both.1 in (omega arith, omega arith, omega arith, omega arith)) h
live_payload Welcome n q h = live_if (n == 0) End q (λ t. tt) h
live_payload Data n q h =
    elim (cases_Bool (n == 0)) [
      | inl t ↦ (let e : Some End ≡ Some q = rw t at h in let P : Place → Type 0 = IsLive in subst P (same_Some End q e) tt)
      | inr t ↦ (let e : goes (nat_le n 1024) (PayloadBytes n) ≡ Some q = rw t at h in let apart = eqb-false n 0 t in live_if (nat_le n 1024) (PayloadBytes n) q (λ m. let most = leb-true n 1024 m in (grind arith, omega arith)) e)
    ]
live_payload Ack n q h = live_if (n == 0) End q (λ t. tt) h
live_payload Refuse n q h = live_if (n == 1) RefuseCode q (λ t. tt) h
live_payload Attach n q h = live_if (n == 0) End q (λ t. tt) h
live_payload Taken n q h = live_if (n == 0) End q (λ t. tt) h

live_rest : (k : Kind) (b : ℕ) (q : Place) → at_rest k b ≡ Some q → IsLive q
live_rest k b q h =
    elim (cases_Bool (b == 0)) [
      | inl t ↦ (let e : Some (NumberRest k 6 (has_zero k)) ≡ Some q = rw t at h in let P : Place → Type 0 = IsLive in subst P (same_Some (NumberRest k 6 (has_zero k)) q e) (omega arith, omega arith))
      | inr t ↦ (let e : goes (b == 1 && is_up_to k) (NumberRest k 6 true) ≡ Some q = rw t at h in live_if (b == 1 && is_up_to k) (NumberRest k 6 true) q (λ _. (omega arith, omega arith)) e)
    ]

live_name : (left read b : ℕ) (q : Place) → IsLive (LowName left read) → at_name left read b ≡ Some q → IsLive q
live_name left read b q live h =
    elim (cases_Bool (b == 58)) [
      | inl t ↦ (
          let e : goes (nat_le 1 read && nat_le 2 left && nat_le left 33) (HighName (left - 1)) ≡ Some q = rw t at h in
          live_if (nat_le 1 read && nat_le 2 left && nat_le left 33) (HighName (left - 1)) q (λ m.
          let both = and_parts (nat_le 1 read && nat_le 2 left) (nat_le left 33) m in
          let most = leb-true left 33 both.1 in
          (omega (arith, live.0), omega arith)) e)
      | inr t ↦ (
          let e : goes (is_name_byte b && nat_le read 31 && nat_le 3 left) (LowName (left - 1) (read + 1)) ≡ Some q = rw t at h in
          live_if (is_name_byte b && nat_le read 31 && nat_le 3 left) (LowName (left - 1) (read + 1)) q (λ m.
          let both = and_parts (is_name_byte b && nat_le read 31) (nat_le 3 left) m in
          let first = and_parts (is_name_byte b) (nat_le read 31) both.0 in
          let most = leb-true read 31 first.1 in
          let least = leb-true 3 left both.1 in
          (omega arith, omega arith, omega (arith, live.2), omega (arith, live.3))) e)
    ]

-- one of two places, by what is left
live_left : (left : ℕ) (last more : Place) (q : Place) → 1 ≤ left → IsLive last → (2 ≤ left → IsLive more) → cond (left == 1) last more ≡ q → IsLive q
live_left left last more q least a b h =
    let P : Place → Type 0 = IsLive in
    subst P h (cond_both (left == 1) last more P (λ _. a) (λ t. b (let apart = eqb-false left 1 t in grind arith)))

pub live_step : (p : Place) (b : ℕ) (q : Place) → IsLive p → step p b ≡ Some q → IsLive q
live_step FirstMark b q live h = live_if (b == 78) SecondMark q (λ _. tt) h
live_step SecondMark b q live h = live_if (b == 80) Version q (λ _. tt) h
live_step Version b q live h = live_if (b == 1) KindByte q (λ _. tt) h
live_step KindByte b q live h = live_kind (kind_of b) q h
live_step (Session k left) b q live h = live_left left (NumberTop k) (Session k (left - 1)) q live.0 tt (λ m. (omega arith, omega (arith, live.1))) (same_Some (cond (left == 1) (NumberTop k) (Session k (left - 1))) q h)
live_step (NumberTop k) b q live h = live_if (b == 0) (NumberSecond k) q (λ _. tt) h
live_step (NumberSecond k) b q live h = live_rest k b q h
live_step (NumberRest k left all) b q live h =
    let e = cond_some (not all || b == 0) (cond (left == 1) (LengthHigh k) (NumberRest k (left - 1) all)) q h in
    live_left left (LengthHigh k) (NumberRest k (left - 1) all) q live.0 tt (λ m. (omega arith, omega (arith, live.1))) e.1
live_step (LengthHigh k) b q live h = live_if (b == 0 || (is_long k && nat_le b 4)) (LengthLow k b) q (λ t. t) h
live_step (LengthLow k high) b q live h = live_payload k (high * 256 + b) q h
live_step (PayloadBytes left) b q live h = live_left left End (PayloadBytes (left - 1)) q live.0 tt (λ m. (omega arith, omega (arith, live.1))) (same_Some (cond (left == 1) End (PayloadBytes (left - 1))) q h)
live_step RefuseCode b q live h = live_if (nat_le 1 b && nat_le b 5) End q (λ _. tt) h
live_step (LowName left read) b q live h = live_name left read b q live h
live_step (HighName left) b q live h =
    let e = cond_some (is_name_byte b) (cond (left == 1) End (HighName (left - 1))) q h in
    live_left left End (HighName (left - 1)) q live.0 tt (λ m. (omega arith, omega (arith, live.1))) e.1
live_step End b q live h = cc

pub live_run : (w : List ℕ) (p q : Place) → IsLive p → run w p ≡ Some q → IsLive q
live_run [] p q live h = let P : Place → Type 0 = IsLive in subst P (same_Some p q h) live
live_run (b ∷ w) p q live h =
    option_and_then_some (λ next. run w next) (step p b) q h (λ m e r. live_run w m q (live_step p b m live e) r)

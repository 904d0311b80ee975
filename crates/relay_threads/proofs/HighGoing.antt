-- A high worker that goes on, step by step.
use Rattle.std.proofs.Common.{◌≡◌, ℕ, false, refl, ◌∙◌, subst, le_refl, le_trans}
use Rattle.disk_model.specs.Disk.{Meaning}
use Rattle.pump_core.specs.Passage.{Low, High, Shape}
use Rattle.high_process.specs.States.{is_down}
use Rattle.relay_threads.specs.declared.high_worker.HighWorker.{HighWorker}
use Rattle.relay_threads.specs.HighWorkers.{CanGoOn, GoesOn}

module _ {K D H Place : Type 0} (floor : K → ℕ) (m : Meaning D) (stands : H → Low → High → Type 0) (shape : H → Shape) (place : H → Place) where
  pub goes_none : (v : HighWorker K D H) → CanGoOn floor m stands v → GoesOn floor m stands shape place v v
  goes_none v can = record {
    clock = refl;
    process = refl;
    store = refl;
    ends = refl;
    shape_is = refl;
    place_is = refl;
    ready = λ up. can.ready;
    order = can.order;
    counts = le_refl _;
  }

  pub goes_then : (u v w : HighWorker K D H) → GoesOn floor m stands shape place u v → GoesOn floor m stands shape place v w → GoesOn floor m stands shape place u w
  goes_then u v w was one = record {
    clock = one.clock ∙ was.clock;
    process = one.process ∙ was.process;
    store = one.store ∙ was.store;
    ends = one.ends ∙ was.ends;
    shape_is = one.shape_is ∙ was.shape_is;
    place_is = one.place_is ∙ was.place_is;
    ready = one.ready;
    order = one.order;
    counts = le_trans was.counts one.counts;
  }

  pub can_again : (v w : HighWorker K D H) → GoesOn floor m stands shape place v w → is_down w.process.now ≡ false → CanGoOn floor m stands w
  can_again v w goes up = record { ready = goes.ready up; order = goes.order }

-- what holds of the values of three loans holds of equal ones
pub moved : {A B C : Type 0} (P : A → B → C → Type 0) {a a' : A} {b b' : B} {c c' : C} → a ≡ a' → b ≡ b' → c ≡ c' → P a b c → P a' b' c'
moved {A} {B} {C} P ea eb ec p = subst (λ (t : A × B × C). P t.0 t.1 t.2) (λ i. (ea i, eb i, ec i)) p

-- What the low worker keeps, over calls one after another.
use Rattle.std.proofs.Common.{◌≡◌, ℕ, refl, subst, ◌∙◌, le_refl, le_trans}
use Rattle.disk_model.specs.Disk.{Meaning}
use Rattle.pump_core.specs.Passage.{Low, High, Shape}
use Rattle.relay_threads.specs.declared.low_worker.LowWorker.{LowWorker}
use Rattle.relay_threads.specs.LowWorkers.{Rests, KeepsWorker}

module _ {K W D L O P : Type 0} (floor : K → ℕ) (m : Meaning D) (stands : L → Low → High → Type 0) (shape : L → Shape) (place : L → P) where
  pub keeps_none : (v : LowWorker K W D L O) → Rests floor m stands v → KeepsWorker floor m stands shape place v v
  keeps_none v rests = record { clock = refl; words = refl; process = refl; store = refl; ends = refl; tape = refl; shape_is = refl; place_is = refl; counts = le_refl _; rests = rests }

  pub keeps_then : (v w x : LowWorker K W D L O) → KeepsWorker floor m stands shape place v w → KeepsWorker floor m stands shape place w x → KeepsWorker floor m stands shape place v x
  keeps_then v w x a b = record {
    clock = b.clock ∙ a.clock;
    words = b.words ∙ a.words;
    process = b.process ∙ a.process;
    store = b.store ∙ a.store;
    ends = b.ends ∙ a.ends;
    tape = b.tape ∙ a.tape;
    shape_is = b.shape_is ∙ a.shape_is;
    place_is = b.place_is ∙ a.place_is;
    counts = le_trans a.counts b.counts;
    rests = b.rests;
  }

-- what holds of the values of six loans holds of equal ones
pub moved : {A B C D E F : Type 0} (P : A → B → C → D → E → F → Type 0) {a a' : A} {b b' : B} {c c' : C} {d d' : D} {e e' : E} {f f' : F}
    → a ≡ a' → b ≡ b' → c ≡ c' → d ≡ d' → e ≡ e' → f ≡ f' → P a b c d e f → P a' b' c' d' e' f'
moved {A} {B} {C} {D} {E} {F} P ea eb ec ed ee ef p = subst (λ (t : A × B × C × D × E × F). P t.0 t.1 t.2 t.3 t.4 t.5) (λ i. (ea i, eb i, ec i, ed i, ee i, ef i)) p

-- A whole look, or its first half, told of an equal one and with another promise of the reply.
use Rattle.std.proofs.Common.{◌≡◌, ℕ, Bool, sym, subst}
use Rattle.disk_model.specs.Disk.{Meaning}
use Rattle.stable_buffer.specs.declared.low.LowStore.{LowStore}
use Rattle.pump_core.specs.History.{Arrival}
use Rattle.pump_core.specs.Passage.{Shape, Low, High}
use Rattle.low_process.specs.declared.process.LowProcess.{LowProcess}
use Rattle.low_process.specs.declared.values.LowLook.{LowLook}
use Rattle.low_process.specs.declared.values.Ask.{Ask}
use Rattle.low_process.specs.Whole.{FirstHalf, WholeLook}

pub whole_of : {D L P : Type 0} {m : Meaning D} {shape : L → Shape} {place : L → P} {one : Bool} {stands : L → Low → High → Type 0}
    {p q : LowProcess} {old new : LowStore D} {e f : L} {moment word : ℕ} {a : Arrival} {look told : LowLook} {A B : Type 0}
    → WholeLook m shape place one stands p q old new e f moment word a look A → told ≡ look → B
    → WholeLook m shape place one stands p q old new e f moment word a told B
whole_of {D = D} {L = L} {P = P} {m = m} {shape = shape} {place = place} {one = one} {stands = stands} {p = p} {q = q} {old = old} {new = new} {e = e} {f = f} {moment = moment} {word = word} {a = a} {B = B} w is b =
    subst (λ (l : LowLook). WholeLook m shape place one stands p q old new e f moment word a l B) (sym is) (record {
      looks = w.looks;
      bounds = w.bounds;
      store = w.store;
      images = w.images;
      still = w.still;
      silent = w.silent;
      acknowledged = w.acknowledged;
      lawful = b;
      hand = w.hand;
      row = w.row;
      last = w.last;
      shape = w.shape;
      place = w.place;
      ends = w.ends;
    })

pub half_of : {D : Type 0} {m : Meaning D} {p q : LowProcess} {old new : LowStore D} {moment word : ℕ} {a : Arrival} {ask told : Ask} {A B : Type 0}
    → FirstHalf m p q old new moment word a ask A → told ≡ ask → B → FirstHalf m p q old new moment word a told B
half_of {m = m} {p = p} {q = q} {old = old} {new = new} {moment = moment} {word = word} {a = a} {B = B} w is b =
    subst (λ (x : Ask). FirstHalf m p q old new moment word a x B) (sym is) (record {
      begins = w.begins;
      store = w.store;
      images = w.images;
      still = w.still;
      silent = w.silent;
      acknowledged = w.acknowledged;
      lawful = b;
      hand = w.hand;
      fits = w.fits;
      row = w.row;
      last = w.last;
    })

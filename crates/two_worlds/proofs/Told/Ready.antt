-- The parts of a low pump that stand for something may be given a line.
use Rattle.std.proofs.Common.{◌≡◌, ℕ, ◌≤◌, Bool, true, false, [], refl, ap, arith}
use Rattle.std.proofs.Math.Logic.{∥∥₁_elim, ∥∥₁_map}
use Rattle.std.proofs.Props.{props}
use Rattle.std.specs.Coded.{le_prop}
use Rattle.disk_model.specs.Disk.{Meaning}
use Rattle.disk_model.specs.Plain.{plain_meaning}
use Rattle.pump_frame.specs.Rows.{IsLawfulRow}
use Rattle.stable_buffer.specs.Low.{IsLowReady, StandsForCount, low_disk, low_count, low_row}
use Rattle.stable_buffer.specs.declared.low.LowStore.{LowStore}
use Rattle.low_process.specs.declared.values.Asking.{Asking}
use Rattle.low_process.specs.declared.values.Asking.TheVariants as asks
use Rattle.low_process.specs.Looks.{IsBetweenLooks, last_of, is_down}
use Rattle.low_process.specs.Whole.{HasStore}
use Rattle.two_worlds.specs.declared.low_pump.parts.LowPumpParts.{LowPumpParts}
use Rattle.two_worlds.specs.LowPumpParts.{StandsForSome}
use Rattle.two_worlds.proofs.Opening.Headers.{header_is}

-- the count alone tells what the disk of a ready store stands for
store_stands : {D : Type 0} (m : Meaning D) (store : LowStore D) → ∥ IsLowReady m store ∥₁ → m.tells → StandsForCount (low_row store) (low_count store) (m.reading (low_disk store))
store_stands m store some told = (
  low_count store,
  [],
  record {
    header = header_is (low_row store) _ _ (∥∥₁_map some (λ s. (s.stands told).2.header));
    size = ∥∥₁_elim some (hlevel props) (λ s. (s.stands told).2.size);
    value = ∥∥₁_elim some (hlevel props) (λ s. (s.stands told).2.value);
    kept = omega arith;
    count = omega arith;
    slots = λ i less. absurd (omega (arith, less));
  },
)

pub store_ready : {D : Type 0} (m : Meaning D) (store : LowStore D) → ∥ IsLowReady m store ∥₁ → IsLowReady m store
store_ready m store some = record {
  ready = record {
    is_open = ∥∥₁_elim some (hlevel props) (λ s. s.ready.is_open);
    parity = ∥∥₁_elim some le_prop (λ s. s.ready.parity);
    each = ∥∥₁_elim some (hlevel props) (λ s. s.ready.each);
  };
  count = ∥∥₁_elim some le_prop (λ s. s.count);
  second = ∥∥₁_elim some (hlevel props) (λ s. s.second);
  lawful = ∥∥₁_elim some (hlevel props) (λ s. s.lawful);
  ranges = ∥∥₁_elim some (hlevel props) (λ s. s.ranges);
  settled = ∥∥₁_elim some (hlevel props) (λ s. s.settled);
  stands = store_stands m store some;
}

abbrev asks_nothing : Asking → Bool
asks_nothing asks.Nothing = true
asks_nothing _ = false

nothing_is : (k : Asking) → asks_nothing k ≡ true → k ≡ asks.Nothing
nothing_is asks.Nothing e = refl
nothing_is asks.Forward e = absurd (cc)
nothing_is (asks.Average n) e = absurd (cc)

module _ (c : LowPumpParts) (some : ∥ StandsForSome c ∥₁) where
  pub is_between : IsBetweenLooks c.process
  is_between = nothing_is c.process.asking (∥∥₁_elim some (hlevel props) (λ s. ap asks_nothing s.1.history.asking))

  pub row_lawful : IsLawfulRow c.row
  row_lawful = ∥∥₁_elim some (hlevel props) (λ s. s.1.row)

  pub in_order : (m : ℕ) → c.moment ≤ m → last_of c.process ≤ m
  in_order m le = ∥∥₁_elim some le_prop (λ s. let h = s.1.last in omega (arith, h, le))

  pub is_up : is_down c.process ≡ false
  is_up = ∥∥₁_elim some (hlevel props) (λ s. s.1.up)

  pub has_store : HasStore plain_meaning c.process c.store
  has_store up = record {
    ready = store_ready plain_meaning c.store (∥∥₁_elim some (hlevel props) (λ s. ∣ s.1.store.ready ∣₁));
    count = ∥∥₁_elim some (hlevel props) (λ s. s.1.store.count);
    row = ∥∥₁_elim some (hlevel props) (λ s. s.1.store.row);
  }

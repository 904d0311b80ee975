-- The numbers that an opening deals out are those of the world that opens.
use Rattle.std.specs.Prelude.{◌≡◌, ℕ, ◌+◌, ◌≤◌, List, [], ◌∷◌, length, Option}
use Rattle.pump_core.specs.World.{World, refilled}
use Rattle.pump_frame.specs.Rows.{least_capacity}
use Rattle.pump_frame.specs.declared.frame.Item.{Item}
use Rattle.recovery.specs.Deals.{number_of, numbered, passing, InHands}

abbrev pub numbers_in : List Item → List ℕ
numbers_in [] = []
numbers_in (x ∷ xs) = x.number ∷ numbers_in xs

pub record AreRefilled (w : World) (items : List Item) (first last : Option Item) : Type 0 where
  pub high : (refilled w).high_hand ≡ number_of first
  pub held : (refilled w).held ≡ numbers_in (passing w.capacity items)
  pub low : (refilled w).low_hand ≡ number_of last

abbrev pub OpeningsRefill : Type 0
OpeningsRefill = (w : World) (ms : List (List ℕ)) (first last : Option Item) → least_capacity ≤ w.capacity
    → w.removed + length ms ≡ length w.accepted → length ms ≤ w.capacity
    → InHands w.capacity (numbered w.removed ms) first last → AreRefilled w (numbered w.removed ms) first last

-- What holds of every world that events lead to.
use Rattle.std.specs.Prelude.{◌≡◌, ◌≢◌, ℕ, ◌+◌, ◌-◌, ◌%◌, ◌<◌, ◌≤◌, Bool, true, false, List, ◌++◌, length, slice_get}
use Rattle.std.specs.Prelude.{All, Option, Some, None, option_to_list}
use Rattle.std.specs.List.{range_with_len}
use Rattle.pump_frame.specs.Rows.{least_capacity, greatest_capacity}
use Rattle.pump_frame.specs.declared.payload.Payload.{Payload}
use Rattle.pump_frame.specs.declared.frame.Item.{Item}
use Rattle.pump_core.specs.World.{World}

-- ---- what the pump keeps to, whatever comes back to it ----

-- no more is live than has a place
pub record IsWithin (capacity removed accepted : ℕ) : Type 0 where
  pub below : removed ≤ accepted
  pub above : accepted ≤ removed + capacity

-- the numbers in the pump, from the high hand to the low hand
abbrev pub numbers : Option ℕ → List ℕ → Option ℕ → List ℕ
numbers high held low = option_to_list high ++ (held ++ option_to_list low)

-- these are the live numbers without a gap, and two places are the hands'
pub record AreInOrder (capacity removed accepted : ℕ) (high : Option ℕ) (held : List ℕ)
    (low : Option ℕ) : Type 0 where
  pub order : numbers high held low ≡ range_with_len removed (accepted - removed)
  pub room : length held ≤ capacity - 2

-- there is a place for one more message: the low hand is empty, and the slot of the next number is
-- that of no live one
pub record HasPlace (capacity removed accepted : ℕ) (low : Option ℕ) : Type 0 where
  pub hand : low ≡ None
  pub place : accepted - removed ≤ capacity - 1
  pub slot : (n : ℕ) → removed ≤ n → n < accepted → n % capacity ≢ accepted % capacity

-- a store is unfinished only where there is a place for it
abbrev pub StoresWithPlace : ℕ → ℕ → ℕ → Option ℕ → Option Payload → Type 0
StoresWithPlace capacity removed accepted low None = Unit {0}
StoresWithPlace capacity removed accepted low (Some p) = HasPlace capacity removed accepted low

-- a removal is due only where the first live message is in the high hand, and unfinished only where
-- it is due
pub record RemovesTheHand (removed : ℕ) (high : Option ℕ) (due removing : Bool) : Type 0 where
  pub hand : due ≡ true → high ≡ Some removed
  pub cause : removing ≡ true → due ≡ true

-- a DATA has the accepted message of its number, and that is none beyond the first live one
pub record IsMessage (removed : ℕ) (accepted : List Payload) (d : Item) : Type 0 where
  pub number : d.number ≤ removed
  pub payload : slice_get accepted d.number ≡ Some d.payload

-- a world whose pump keeps to all of this
pub record IsBounded (w : World) : Type 0 where
  pub size : (least_capacity ≤ w.capacity) × (w.capacity ≤ greatest_capacity)
  pub within : IsWithin w.capacity w.removed (length w.accepted)
  pub order : AreInOrder w.capacity w.removed (length w.accepted) w.high_hand w.held w.low_hand
  pub store : StoresWithPlace w.capacity w.removed (length w.accepted) w.low_hand w.storing
  pub removal : RemovesTheHand w.removed w.high_hand w.due w.removing
  pub sent : All (IsMessage w.removed w.accepted) w.sent
  pub acknowledged : All (λ n. n < length w.accepted) w.acknowledged

-- ---- what the receiver has ----

-- the second list begins with the first, which so is no longer
abbrev pub IsPrefixOf : List Payload → List Payload → Type 0
IsPrefixOf xs ys = (rest : List Payload) × (xs ++ rest ≡ ys)

-- what waits at the receiver is the next message, and a taking is unfinished only where one waits
abbrev pub IsNext : List Payload → List Payload → Option Payload → Bool → Type 0
IsNext accepted received None taking = taking ≡ false
IsNext accepted received (Some p) taking = slice_get accepted (length received) ≡ Some p

-- the receiver has the beginning of what was accepted, and all that was removed; a removal is due,
-- and a TAKEN was sent, only for messages that it took
pub record IsDelivered (w : World) : Type 0 where
  pub prefix : IsPrefixOf w.received w.accepted
  pub removed : w.removed ≤ length w.received
  pub due : w.due ≡ true → w.removed < length w.received
  pub packet : IsNext w.accepted w.received w.packet w.taking
  pub returned : All (λ n. n < length w.received) w.returned

pub record IsLawful (w : World) : Type 0 where
  pub bounded : IsBounded w
  pub delivered : IsDelivered w

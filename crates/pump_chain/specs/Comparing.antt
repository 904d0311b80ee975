-- Two lists are compared message by message.
use Rattle.std.specs.Prelude.{◌≡◌, ℕ, ◌<◌, ◌≤◌, List, [], length, slice_index_or}
use Rattle.pump_frame.specs.declared.payload.Payload.{Payload}
use Rattle.pump_chain.specs.declared.not_chained.ChainWhy.{ChainWhy}
use Rattle.pump_chain.specs.declared.not_chained.ChainWhy.TheVariants as reasons

-- the lists have the same messages of these numbers
abbrev pub Agree : ℕ → ℕ → List Payload → List Payload → Type 0
Agree from to xs ys = (k : ℕ) → from ≤ k → k < to → slice_index_or xs k [] ≡ slice_index_or ys k []

-- the accepted list has this message, which the received one has otherwise or not; it is the first one from a number on
pub record DifferAt (from number : ℕ) (accepted received : List Payload) : Type 0 where
  pub least : from ≤ number
  pub within : number < length accepted
  pub before : Agree from number accepted received
  pub unlike : slice_index_or accepted number [] ≡ slice_index_or received number [] → ⊥

-- the accepted list is no prefix of the received one: it is longer; or else it has this message otherwise, and those
-- before it alike
abbrev pub IsUnlinked : List Payload → List Payload → ChainWhy → Type 0
IsUnlinked accepted received reasons.Memory = ⊥
IsUnlinked accepted received (reasons.Pump session role why) = ⊥
IsUnlinked accepted received (reasons.Link count bound) = (count ≡ length accepted) × (bound ≡ length received)
    × (bound < count)
IsUnlinked accepted received (reasons.Unlike number) = (length accepted ≤ length received)
    × DifferAt 0 number accepted received

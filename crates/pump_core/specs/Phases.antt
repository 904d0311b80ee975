-- The phases of a low process between two looks. A history and its replies are told without them:
-- they serve the proofs, and say what a process stands for.
use Rattle.std.specs.Prelude.{ℕ, Option}

-- Passing has a message in the hand, with its number where an acknowledgement is owed; Waiting has the
-- number to be acknowledged and the moment from which on that is due; Down came after a failed store
pub data Phase : Type 0 where
  Idle : Phase
  Passing : (owed : Option ℕ) → Phase
  Waiting : (number due : ℕ) → Phase
  Down : Phase

-- Messages so far, and those that may follow. Only clauses of private functions name these.
use Rattle.std.specs.Prelude.{◌≡◌, ℕ, List, [], ◌∷◌, ◌++◌}
use Rattle.pump_wrapper.specs.Wrapped.{wrapped, length_message}
use Rattle.pump_wrapper.specs.Cutting.{wrapped_from}
use Rattle.pump_wrapper.specs.declared.gathering.Before.{Before}
use Rattle.pump_wrapper.specs.declared.gathering.Before.TheVariants.{Pieces, Short, Whole}
use Rattle.pump_wrapper.specs.declared.gathering.Gathering.{Gathering}

abbrev pub gathering_bytes : Gathering → ℕ
gathering_bytes gathering = gathering.bytes

abbrev pub gathering_size : Gathering → ℕ
gathering_size gathering = gathering.size

abbrev pub FollowsOn : Before → ℕ → ℕ → List (List ℕ) → Type 0
FollowsOn Pieces size bytes later = (rest : List ℕ) × (wrapped_from size bytes rest ≡ later)
FollowsOn Short size bytes later = length_message bytes ∷ [] ≡ later
FollowsOn Whole size bytes later = [] ≡ later

-- these messages, and none after them, may follow
abbrev pub Follows : Gathering → List (List ℕ) → Type 0
Follows gathering later = FollowsOn gathering.before gathering.size gathering.bytes later

-- just what may follow makes a file of the messages so far
pub record HasTaken (message : ℕ) (messages : List (List ℕ)) (gathering : Gathering) : Type 0 where
  pub only : (later : List (List ℕ)) (file : List ℕ) → wrapped message file ≡ messages ++ later
      → Follows gathering later
  pub each : (later : List (List ℕ)) → Follows gathering later → (file : List ℕ)
      × (wrapped message file ≡ messages ++ later)

-- a message may come next, and then what may follow it
pub record Steps (old new : Gathering) (message : List ℕ) : Type 0 where
  pub on : (later : List (List ℕ)) → Follows old (message ∷ later) → Follows new later
  pub back : (later : List (List ℕ)) → Follows new later → Follows old (message ∷ later)

-- a message may not come next
pub record Refuses (gathering : Gathering) (message : List ℕ) : Type 0 where
  pub never : (later : List (List ℕ)) → Follows gathering (message ∷ later) → ⊥

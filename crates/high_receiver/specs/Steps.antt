-- How the disk of a receiver moves.
use Rattle.std.specs.Prelude.{◌⊎◌, ℕ, List, [], ◌∷◌, ◌++◌}
use Rattle.pump_frame.specs.declared.row.SessionRow.{SessionRow}
use Rattle.stable_buffer.specs.Log.{RecvStands}

-- what stood for messages stands for them still
pub record LogStandsOn (row : SessionRow) (old new : List ℕ) : Type 0 where
  pub same : (messages : List (List ℕ)) → RecvStands row messages old → RecvStands row messages new

-- it stands for them still, or for one message more
pub record MayTake (row : SessionRow) (message : List ℕ) (old new : List ℕ) : Type 0 where
  pub either : (messages : List (List ℕ)) → RecvStands row messages old
      → RecvStands row messages new ⊎ RecvStands row (messages ++ message ∷ []) new

-- it stands for one message more
pub record TakesMessage (row : SessionRow) (message : List ℕ) (old new : List ℕ) : Type 0 where
  pub more : (messages : List (List ℕ)) → RecvStands row messages old
      → RecvStands row (messages ++ message ∷ []) new

-- it stands for these messages, or for one message more
abbrev pub StandsOrTakes : SessionRow → List (List ℕ) → List ℕ → List ℕ → Type 0
StandsOrTakes row messages message disk = RecvStands row messages disk ⊎ RecvStands row (messages ++ message ∷ []) disk

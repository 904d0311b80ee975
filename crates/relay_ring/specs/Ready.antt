-- What the tests keep of two ends in one hand from call to call; it serves them alone.
use Rattle.std.specs.Prelude.{◌≡◌, ℕ, List}
use Rattle.atomic_table.specs.Seated.{TableId}
use Rattle.pump_core.specs.Passage.{Low, High}
use Rattle.passage.specs.Ready.{LowReady, HighReady}

pub record BothReady (low high : Low → High → Type 0) (low_place high_place : List TableId) (next removed published : ℕ)
    : Type 0 where
  pub low_ready : LowReady low next
  pub high_ready : HighReady high removed published
  pub together : low_place ≡ high_place

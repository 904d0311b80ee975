-- Premises of the laws on whole calls.
use Rattle.std.specs.Prelude.{◌≡◌, List, ◌++◌}
use Rattle.pump_frame.specs.Counts.{Rose}
use Rattle.peers.specs.Outputs.{Counts}

-- no count of failed calls rose
pub record IsCalmCall (n : Counts) : Type 0 where
  pub link : Rose n.link n.now_link → ⊥
  pub out : Rose n.out n.now_out → ⊥
  pub other : Rose n.other n.now_other → ⊥

-- both are prefixes of one list
abbrev pub ArePrefixes : {A : Type 0} → List A → List A → Type 0
ArePrefixes {A} xs ys = (later other : List A) × (xs ++ later ≡ ys ++ other)

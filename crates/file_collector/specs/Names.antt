-- Under which name a file is shown.
use Rattle.std.specs.Prelude.{◌≡◌, ◌⊎◌, ℕ, Bool, true, false, List, [], ◌∷◌, ◌++◌}
use Rattle.folders.specs.ShownNames.{numbered}
use Rattle.folders.specs.Placing.{Placing, Names}
use Rattle.pump_frame.specs.Counts.{Rose}
use Rattle.file_collector.specs.declared.values.PlaceFault.{PlaceFault}
use Rattle.file_collector.specs.declared.values.PlaceFault.TheVariants.{Device, NameTaken}

-- its own name where that is free, and else the one with its number
abbrev pub IsChosen : (List ℕ → Bool) → List ℕ → ℕ → List ℕ → Type 0
IsChosen free name number chosen =
    ((free name ≡ true) × (chosen ≡ name)) ⊎ ((free name ≡ false) × (chosen ≡ numbered name number))

-- both names are taken
pub record AreTaken (free : List ℕ → Bool) (name : List ℕ) (number : ℕ) : Type 0 where
  pub own : free name ≡ false
  pub with_number : free (numbered name number) ≡ false

-- the folder's count rose, and is told
abbrev pub IsFault : {I : Type 0} → Placing I → I → I → PlaceFault → Type 0
IsFault m old new (Device faults) = (faults ≡ m.count new) × Rose (m.count old) (m.count new)
IsFault m old new NameTaken = ⊥

-- the folder's count rose, and is told; or both names are taken
abbrev pub IsCause : {I : Type 0} → Placing I → List ℕ → ℕ → I → I → PlaceFault → Type 0
IsCause m name number old new (Device faults) = (faults ≡ m.count new) × Rose (m.count old) (m.count new)
IsCause m name number old new NameTaken = m.tells → AreTaken (m.free old) name number

-- a file with these bytes is shown beside those that were, under a name for it, and there is no part
pub record IsShowing {I : Type 0} (m : Placing I) (old : I) (name : List ℕ) (number : ℕ) (bytes : List ℕ)
    (names : Names)
    : Type 0 where
  pub chosen : List ℕ
  pub is_chosen : IsChosen (m.free old) name number chosen
  pub shown : names.shown ≡ m.shown old ++ record { name = chosen; bytes = bytes } ∷ []
  pub gone : names.has_part ≡ false

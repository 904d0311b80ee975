-- The names under which files are shown in the folder that they come into.
use Rattle.std.specs.Prelude.{◌≡◌, ◌⊎◌, ℕ, ◌^◌, ◌<◌, List, ◌∷◌, ◌++◌, decimal}
use Rattle.file_messages.specs.FileNames.{IsFileName}

-- a name, a tilde and a number
abbrev pub numbered : List ℕ → ℕ → List ℕ
numbered name number = name ++ 126 ∷ decimal number

abbrev pub IsNumbered : List ℕ → Type 0
IsNumbered shown = (name : List ℕ) × (number : ℕ) × IsFileName name × (number < 2 ^ 48) × (shown ≡ numbered name number)

-- the name of a file, or such a name with a number
abbrev pub IsShownName : List ℕ → Type 0
IsShownName shown = IsFileName shown ⊎ IsNumbered shown

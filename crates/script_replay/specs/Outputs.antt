-- What is printed and not handed on yet.
use Rattle.std.specs.Prelude.{◌≡◌, ℕ, List, ◌++◌, Option}
use Rattle.std.specs.Io.KnownBytes.{Appends}
use Rattle.script_replay.specs.declared.output.Output.{Output}

-- what an output holds
abbrev pub held_of : Output → List ℕ
held_of output = output.held.items

-- these bytes were added to what was held, and a prefix of it all was written
abbrev pub Gathers : List ℕ → List ℕ → Option (List ℕ) → Option (List ℕ) → List ℕ → Type 0
Gathers held later old new bytes = (written : List ℕ) × Appends old new written × (held ++ bytes ≡ written ++ later)

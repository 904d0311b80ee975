-- Which commands carry files from folder to folder.
use Rattle.std.specs.Prelude.{◌≡◌, Bool, true, false, ℕ, List}
use Rattle.command_line.specs.Commands.{AreWordsOf}
use Rattle.command_line.specs.declared.command.Command.{Command}
use Rattle.command_line.specs.declared.command.Command.TheVariants.{DropFiles, CollectFiles}

abbrev pub is_transfer : Command → Bool
is_transfer (DropFiles table session looks folder) = true
is_transfer (CollectFiles table session looks folder) = true
is_transfer _ = false

-- the words are no such command
abbrev pub IsNoTransfer : List (List ℕ) → Type 0
IsNoTransfer words = (c : Command) → is_transfer c ≡ true → AreWordsOf words c → ⊥

-- The one command that words are, as a caller of `command_of` knows it.
use Rattle.std.proofs.Common.{◌≡◌, ◌⊎◌, List, Result, Ok, Err, inl, inr, ℕ, map, String, Global, string_bytes, sym, ◌∙◌, subst}
use Rattle.command_line.specs.Commands.{AreWordsOf}
use Rattle.command_line.specs.declared.command.Command.{Command}
use Rattle.command_line.specs.declared.command.WordsFault.{WordsFault}
use Rattle.command_line.specs.declared.command.WordsFault.TheVariants.{NoCommand, Memory}

-- words that are no command are not this one
pub not_command : (c : Command) → (let r : Result Command WordsFault = Err NoCommand in (r ≡ Ok c) ⊎ (r ≡ Err Memory)) → ⊥
not_command c (inl found) = cc
not_command c (inr memory) = cc

pub same_command : (b c : Command) → (let r : Result Command WordsFault = Ok b in (r ≡ Ok c) ⊎ (r ≡ Err Memory)) → b ≡ c
same_command b c (inl found) = cc
same_command b c (inr memory) = cc

-- the words as the slice that is read
pub read_words : (words slice : List (String Global)) (c : Command) → slice ≡ words → AreWordsOf (map string_bytes words) c → AreWordsOf (map string_bytes slice) c
read_words words slice c is h = subst (λ (ws : List (String Global)). AreWordsOf (map string_bytes ws) c) (sym is) h

-- the words are those of the call
pub words_are : (words slice : List (String Global)) (c call : Command) → slice ≡ words → AreWordsOf (map string_bytes slice) c → c ≡ call → AreWordsOf (map string_bytes words) call
words_are words slice c call is h same = subst (λ (x : List (String Global) × Command). AreWordsOf (map string_bytes x.0) x.1) (λ i. (is i, same i)) h

-- ---- the one command that the words are, and no other one ----

-- the words are those of this command, and of no other one
pub record Asks (words : List (List ℕ)) (call : Command) : Type 0 where
  pub are : AreWordsOf words call
  pub only : (c : Command) → AreWordsOf words c → call ≡ c

pub asks : (words slice : List (String Global)) (b call : Command) → slice ≡ words → AreWordsOf (map string_bytes slice) b
    → ((c : Command) → AreWordsOf (map string_bytes slice) c → (let r : Result Command WordsFault = Ok b in (r ≡ Ok c) ⊎ (r ≡ Err Memory))) → b ≡ call → Asks (map string_bytes words) call
asks words slice b call value are command is = record {
  are = words_are words slice b call value are is;
  only = λ c h. sym is ∙ same_command b c (command c (read_words words slice c value h));
}

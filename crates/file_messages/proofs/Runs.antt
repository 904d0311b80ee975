-- Messages one behind the other, and the files that they give.
use Rattle.std.proofs.Common.{◌≡◌, ℕ, List, [], ◌∷◌, ◌++◌, refl, sym, ◌∙◌, ap, append_assoc}
use Rattle.file_messages.specs.Messages.{message_of}
use Rattle.file_messages.specs.Files.{File, State, after, given, state_after, files_from}

pub files_on : (state : State) (messages later : List (List ℕ)) → files_from state (messages ++ later) ≡ files_from state messages ++ files_from (state_after state messages) later
files_on state [] later = refl
files_on state (m ∷ ms) later =
    ap (λ (fs : List File). given state (message_of m) ++ fs) (files_on (after state (message_of m)) ms later)
    ∙ sym (append_assoc (given state (message_of m)) (files_from (after state (message_of m)) ms) (files_from (state_after state (m ∷ ms)) later))

pub state_on : (state : State) (messages later : List (List ℕ)) → state_after state (messages ++ later) ≡ state_after (state_after state messages) later
state_on state [] later = refl
state_on state (m ∷ ms) later = state_on (after state (message_of m)) ms later

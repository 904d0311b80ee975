-- The files that messages give are lawful, and end.
use Rattle.std.proofs.Common.{◌≡◌, ℕ, ◌+◌, ◌^◌, ◌<◌, ◌≤◌, Bool, true, false, nat_le, if◌then◌else◌, List, [], ◌∷◌, ◌++◌, length, refl, ap, arith, length-append}
use Rattle.std.specs.List.{AllByRecursion}
use Rattle.std.proofs.lemmas.Bool.{and_parts, eqb-true, leb-true}
use Rattle.std.proofs.lemmas.Slice.Eq.{bytes_eq-Decides}
use Rattle.sha2.specs.Sha256.{sha256}
use Rattle.file_messages.specs.FileNames.{IsFileName}
use Rattle.file_messages.specs.Messages.{Message, Start, Piece, End, Abandon, Other, message_of}
use Rattle.file_messages.specs.Files.{File, IsLawfulFile, State, Between, Inside, is_whole, after, given, files_from}
use Rattle.file_messages.specs.Cuts.{end_of, HasMessage}
use Rattle.file_messages.proofs.Starts.{IsLawfulMessage}
use Rattle.file_messages.proofs.FirstBytes.{lawful_message, ends_with}
use Rattle.file_messages.proofs.Lists.{all_behind, all_weaker}

-- a file that has begun has a lawful name and size, and no more bytes
abbrev pub IsLawfulState : State → Type 0
IsLawfulState Between = Unit {0}
IsLawfulState (Inside name size bytes) = IsFileName name × (size < 2 ^ 48) × (length bytes ≤ size)

grown : (name : List ℕ) (size : ℕ) (bytes piece : List ℕ) (b : Bool) → IsFileName name → size < 2 ^ 48 → nat_le (length bytes + length piece) size ≡ b
    → IsLawfulState (if b then Inside name size (bytes ++ piece) else Between)
grown name size bytes piece true is few e = (is, few, let fits = leb-true _ _ e in omega (arith, fits, length-append bytes piece))
grown name size bytes piece false is few e = tt

pub lawful_after : (state : State) (message : Message) → IsLawfulState state → IsLawfulMessage message → IsLawfulState (after state message)
lawful_after Between (Start name size) h is = (is.0, is.1, omega arith)
lawful_after Between (Piece piece) h is = tt
lawful_after Between (End digest) h is = tt
lawful_after Between Abandon h is = tt
lawful_after Between Other h is = tt
lawful_after (Inside name size bytes) (Piece piece) h is = grown name size bytes piece _ h.0 h.1 refl
lawful_after (Inside name size bytes) (Start name' size') h is = tt
lawful_after (Inside name size bytes) (End digest) h is = tt
lawful_after (Inside name size bytes) Abandon h is = tt
lawful_after (Inside name size bytes) Other h is = tt

-- a file is lawful, and this message is its end
abbrev Ends : Message → File → Type 0
Ends message file = IsLawfulFile file × (message ≡ End (sha256 file.bytes))

whole : (name : List ℕ) (size : ℕ) (bytes digest : List ℕ) (b : Bool) → IsLawfulState (Inside name size bytes) → is_whole size bytes digest ≡ b
    → AllByRecursion (Ends (End digest)) (if b then record { name = name; bytes = bytes } ∷ [] else [])
whole name size bytes digest true h e =
    let tests = and_parts _ _ e in
    let all = eqb-true (length bytes) size tests.0 in
    let same : digest ≡ sha256 bytes = (bytes_eq-Decides digest (sha256 bytes)).0 tests.1 in
    ((record { name = h.0; size = omega (arith, all, h.1) }, ap End same), tt)
whole name size bytes digest false h e = tt

given_ends : (state : State) (message : Message) → IsLawfulState state → AllByRecursion (Ends message) (given state message)
given_ends Between message h = tt
given_ends (Inside name size bytes) (End digest) h = whole name size bytes digest _ h refl
given_ends (Inside name size bytes) (Start name' size') h = tt
given_ends (Inside name size bytes) (Piece piece) h = tt
given_ends (Inside name size bytes) Abandon h = tt
given_ends (Inside name size bytes) Other h = tt

abbrev Told : List (List ℕ) → File → Type 0
Told messages file = IsLawfulFile file × HasMessage messages (end_of file)

told_first : (message : List ℕ) (messages : List (List ℕ)) (file : File) → Ends (message_of message) file → Told (message ∷ messages) file
told_first message messages file (lawful, ends) = (lawful, ([], messages, λ i. ends_with message (sha256 file.bytes) ends i ∷ messages))

told_later : (message : List ℕ) (messages : List (List ℕ)) (file : File) → Told messages file → Told (message ∷ messages) file
told_later message messages file (lawful, (before, later, e)) = (lawful, (message ∷ before, later, ap (λ (ms : List (List ℕ)). message ∷ ms) e))

pub files_told : (state : State) (messages : List (List ℕ)) → IsLawfulState state → AllByRecursion (Told messages) (files_from state messages)
files_told state [] h = tt
files_told state (m ∷ ms) h =
    all_behind (Told (m ∷ ms)) (given state (message_of m)) (files_from (after state (message_of m)) ms)
    (all_weaker (Ends (message_of m)) (Told (m ∷ ms)) (given state (message_of m)) (told_first m ms) (given_ends state (message_of m) h))
    (all_weaker (Told ms) (Told (m ∷ ms)) (files_from (after state (message_of m)) ms) (told_later m ms) (files_told (after state (message_of m)) ms (lawful_after state (message_of m) h (lawful_message m))))

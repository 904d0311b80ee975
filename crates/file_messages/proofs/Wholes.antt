-- The messages of files give these files again.
use Rattle.std.proofs.Common.{◌≡◌, ℕ, ◌+◌, ◌-◌, ◌^◌, ◌<◌, ◌≤◌, true, nat_le, ◌&&◌, if◌then◌else◌, List, [], ◌∷◌, ◌++◌, map, length, refl, sym, ◌∙◌, ap, subst, arith, append_assoc, append-nil, length-append}
use Rattle.std.specs.List.{AllByRecursion, concat}
use Rattle.std.proofs.lemmas.Bool.{eq-eqb}
use Rattle.std.proofs.lemmas.Bool.Decides.{nat_tests}
use Rattle.std.proofs.lemmas.Slice.Eq.{bytes_eq-Decides}
use Rattle.byteorder.specs.Endian.{big_bytes}
use Rattle.byteorder.specs.Numbers.{big_number-reads_back}
use Rattle.sha2.specs.Sha256.{sha256}
use Rattle.file_messages.specs.FileNames.{IsFileName}
use Rattle.file_messages.specs.Messages.{Message, Start, message_of, start_message, piece_message}
use Rattle.file_messages.specs.Files.{File, IsLawfulFile, State, Between, Inside, is_whole, after, given, state_after, files_from, files}
use Rattle.file_messages.specs.Cuts.{pieces, begun, end_of, cut, cut_all}
use Rattle.file_messages.proofs.Starts.{is_start}
use Rattle.file_messages.proofs.FirstBytes.{a_start, a_piece, an_end}
use Rattle.file_messages.proofs.Pieces.{HasBytes, pieces_have, pieces_make}
use Rattle.file_messages.proofs.Broken.{none_given, no_end_begun}
use Rattle.file_messages.proofs.Runs.{files_on, state_on}

start_is : (name : List ℕ) (size : ℕ) → IsFileName name → size < 2 ^ 48 → message_of (start_message name size) ≡ Start name size
unfolding start_message
start_is name size lawful few =
    let rest = 1 ∷ big_bytes 8 size ++ name in
    let back = big_number-reads_back 8 size name (omega (arith, few)) in
    a_start 2 rest refl ∙ is_start rest refl (subst (λ k. k < 2 ^ 48) (sym back) few) lawful ∙ ap (λ k. Start name k) back

fits : (a b : ℕ) → a ≤ b → nat_le a b ≡ true
fits a b h = grind (arith, nat_tests)

-- a piece that does not go past the size
grows : (name : List ℕ) (size : ℕ) (bytes piece : List ℕ) → 0 < length piece → length bytes + length piece ≤ size
    → after (Inside name size bytes) (message_of (piece_message piece)) ≡ Inside name size (bytes ++ piece)
grows name size bytes piece some le =
    ap (after (Inside name size bytes)) (a_piece 0 piece refl some)
    ∙ ap (λ b. if b then Inside name size (bytes ++ piece) else Between) (fits (length bytes + length piece) size le)

grown : (name : List ℕ) (size : ℕ) (bytes : List ℕ) (parts : List (List ℕ)) → AllByRecursion HasBytes parts → length bytes + length (concat parts) ≤ size
    → state_after (Inside name size bytes) (map piece_message parts) ≡ Inside name size (bytes ++ concat parts)
grown name size bytes [] some le = ap (Inside name size) (sym (append-nil bytes))
grown name size bytes (p ∷ ps) (first, some) le =
    let long = length-append p (concat ps) in
    ap (λ (s : State). state_after s (map piece_message ps)) (grows name size bytes p first (omega (arith, le, long)))
    ∙ grown name size (bytes ++ p) ps some (omega (arith, le, long, length-append bytes p))
    ∙ ap (Inside name size) (append_assoc bytes p (concat ps))

-- all of a file but its end
before_end : (message : ℕ) (file : File) → 2 ≤ message → IsLawfulFile file → state_after Between (begun message file) ≡ Inside file.name (length file.bytes) file.bytes
before_end message file two lawful =
    let parts = pieces (message - 1) file.bytes in
    let make = pieces_make (message - 1) file.bytes (omega (arith, two)) in
    ap (λ (m : Message). state_after (after Between m) (map piece_message parts)) (start_is file.name (length file.bytes) lawful.name lawful.size)
    ∙ grown file.name (length file.bytes) [] parts (pieces_have (message - 1) file.bytes (omega (arith, two))) (omega (arith, ap length make))
    ∙ ap (Inside file.name (length file.bytes)) make

all_there : (bytes : List ℕ) → is_whole (length bytes) bytes (sha256 bytes) ≡ true
all_there bytes = λ i. eq-eqb (length bytes) (length bytes) refl i && (bytes_eq-Decides (sha256 bytes) (sha256 bytes)).1 refl i

ends : (file : File) → given (Inside file.name (length file.bytes) file.bytes) (message_of (end_of file)) ≡ file ∷ []
ends file =
    ap (given (Inside file.name (length file.bytes) file.bytes)) (an_end 3 (sha256 file.bytes) refl)
    ∙ ap (λ b. if b then file ∷ [] else []) (all_there file.bytes)

-- the messages of a file, and then others
pub state_behind : (message : ℕ) (file : File) (later : List (List ℕ)) → 2 ≤ message → IsLawfulFile file → state_after Between (cut message file ++ later) ≡ state_after Between later
state_behind message file later two lawful =
    state_on Between (cut message file) later
    ∙ ap (λ (s : State). state_after s later)
    (state_on Between (begun message file) (end_of file ∷ []) ∙ ap (λ (s : State). after s (message_of (end_of file))) (before_end message file two lawful)
    ∙ ap (after (Inside file.name (length file.bytes) file.bytes)) (an_end 3 (sha256 file.bytes) refl))

pub files_behind : (message : ℕ) (file : File) (later : List (List ℕ)) → 2 ≤ message → IsLawfulFile file → files (cut message file ++ later) ≡ file ∷ files later
files_behind message file later two lawful =
    let inside = before_end message file two lawful in
    let last : List (List ℕ) = end_of file ∷ [] in
    ap files (append_assoc (begun message file) last later)
    ∙ files_on Between (begun message file) (last ++ later)
    ∙ (λ i. none_given Between (begun message file) (no_end_begun message file) i ++ files_from (inside i) (last ++ later))
    ∙ (λ i. ends file i ++ files_from (after (Inside file.name (length file.bytes) file.bytes) (an_end 3 (sha256 file.bytes) refl i)) later)

pub files_of_cuts : (message : ℕ) (all : List File) → 138 ≤ message → AllByRecursion IsLawfulFile all → files (cut_all message all) ≡ all
files_of_cuts message [] most h = refl
files_of_cuts message (f ∷ fs) most (lawful, h) =
    files_behind message f (cut_all message fs) (omega (arith, most)) lawful ∙ ap (λ (l : List File). f ∷ l) (files_of_cuts message fs most h)

pub between_cuts : (message : ℕ) (all : List File) → 138 ≤ message → AllByRecursion IsLawfulFile all → state_after Between (cut_all message all) ≡ Between
between_cuts message [] most h = refl
between_cuts message (f ∷ fs) most (lawful, h) =
    state_behind message f (cut_all message fs) (omega (arith, most)) lawful ∙ between_cuts message fs most h

-- How long the messages of a file are.
use Rattle.std.proofs.Common.{ℕ, zero, suc, ◌+◌, ◌-◌, ◌≤◌, List, [], ◌∷◌, map, length, drop, arith, length-take}
use Rattle.std.specs.List.{AllByRecursion}
use Rattle.sha2.proofs.Facts256.{length-sha256}
use Rattle.file_messages.specs.FileNames.{IsFileName}
use Rattle.file_messages.specs.Messages.{start_message, piece_message}
use Rattle.file_messages.specs.Files.{File, IsLawfulFile}
use Rattle.file_messages.specs.Cuts.{first_pieces, pieces, begun, end_of, cut}
use Rattle.file_messages.proofs.Names.{short_name}
use Rattle.file_messages.proofs.Lists.{all_behind}

abbrev Fits : ℕ → List ℕ → Type 0
Fits most message = length message ≤ most

start_fits : (most : ℕ) (name : List ℕ) (size : ℕ) → 138 ≤ most → IsFileName name → Fits most (start_message name size)
unfolding start_message
start_fits most name size room lawful = omega (arith, room, short_name name lawful)

first_fit : (most k n : ℕ) (bytes : List ℕ) → n + 1 ≤ most → AllByRecursion (Fits most) (map piece_message (first_pieces k n bytes))
first_fit most zero n bytes room = tt
first_fit most (suc k) n [] room = tt
first_fit most (suc k) n (b ∷ bs) room = (omega (arith, room, length-take n (b ∷ bs)), first_fit most k n (drop n (b ∷ bs)) room)

pieces_fit : (most n : ℕ) (bytes : List ℕ) → n + 1 ≤ most → AllByRecursion (Fits most) (map piece_message (pieces n bytes))
unfolding pieces
pieces_fit most n bytes room = first_fit most (length bytes) n bytes room

pub cut_fits : (message : ℕ) (file : File) → 138 ≤ message → IsLawfulFile file → AllByRecursion (Fits message) (cut message file)
cut_fits message file room lawful =
    all_behind (Fits message) (begun message file) (end_of file ∷ [])
    (start_fits message file.name (length file.bytes) room lawful.name, pieces_fit message (message - 1) file.bytes (omega (arith, room)))
    (omega (arith, room, length-sha256 file.bytes), tt)

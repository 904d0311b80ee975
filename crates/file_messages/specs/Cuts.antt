-- Files as lists of messages.
use Rattle.std.specs.Prelude.{◌≡◌, ℕ, zero, suc, ◌-◌, List, [], ◌∷◌, ◌++◌, length, take, drop, map, flat_map, replicate}
use Rattle.sha2.specs.Sha256.{sha256}
use Rattle.file_messages.specs.Messages.{start_message, piece_message, end_message, abandon_message}
use Rattle.file_messages.specs.Files.{File}

-- the first k pieces of some bytes, of n bytes each: the last one may be shorter, and none is empty
abbrev pub first_pieces : ℕ → ℕ → List ℕ → List (List ℕ)
first_pieces zero n bytes = []
first_pieces (suc k) n [] = []
first_pieces (suc k) n (b ∷ bs) = take n (b ∷ bs) ∷ first_pieces k n (drop n (b ∷ bs))

-- all their pieces, which are no more than the bytes
unfoldable pub pieces : ℕ → List ℕ → List (List ℕ)
pieces n bytes = first_pieces (length bytes) n bytes

-- a file before its end: its start, and its bytes in pieces
abbrev pub begun : ℕ → File → List (List ℕ)
begun message file =
    start_message file.name (length file.bytes) ∷ map piece_message (pieces (message - 1) file.bytes)

abbrev pub end_of : File → List ℕ
end_of file = end_message (sha256 file.bytes)

-- a file as messages of at most so many bytes
abbrev pub cut : ℕ → File → List (List ℕ)
cut message file = begun message file ++ end_of file ∷ []

-- files, one behind the other
abbrev pub cut_all : ℕ → List File → List (List ℕ)
cut_all message files = flat_map (cut message) files

-- a file is cut off: nothing or some first messages of it without its end, and then one message or
-- more that give it up
abbrev pub IsBrokenCut : ℕ → File → List (List ℕ) → Type 0
IsBrokenCut message file messages = (prefix rest : List (List ℕ)) × (more : ℕ)
    × (begun message file ≡ prefix ++ rest) × (messages ≡ prefix ++ replicate (suc more) abandon_message)

-- the first messages of the next file, without its end
abbrev pub BeginsNext : ℕ → List File → List (List ℕ) → Type 0
BeginsNext message [] part = part ≡ []
BeginsNext message (file ∷ later) part = (rest : List (List ℕ)) × (begun message file ≡ part ++ rest)

-- a message is among these
abbrev pub HasMessage : List (List ℕ) → List ℕ → Type 0
HasMessage messages message =
    (before later : List (List ℕ)) × (messages ≡ before ++ message ∷ later)

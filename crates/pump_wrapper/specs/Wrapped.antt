-- A file as a list of messages.
use Rattle.std.specs.Prelude.{◌≡◌, ℕ, zero, ◌-◌, List, [], ◌∷◌, ◌++◌, length, map, flat_map}
use Rattle.byteorder.specs.Endian.{big_bytes}
use Rattle.file_messages.specs.Messages.{piece_message}
use Rattle.file_messages.specs.Cuts.{pieces}

-- a byte 1, and then the number of a file's bytes, in eight bytes
unfoldable pub length_message : ℕ → List ℕ
length_message bytes = 1 ∷ big_bytes 8 bytes

-- a file as messages of at most so many bytes: its pieces, and then its length
abbrev pub wrapped : ℕ → List ℕ → List (List ℕ)
wrapped message file = map piece_message (pieces (message - 1) file) ++ length_message (length file) ∷ []

-- a message has a piece
abbrev pub IsPiece : List ℕ → Type 0
IsPiece message = (piece : List ℕ) × (message ≡ piece_message piece)

-- the piece that a message has
abbrev pub piece_of : List ℕ → List ℕ
piece_of (zero ∷ piece) = piece
piece_of other = []

-- the bytes of all pieces of messages
abbrev pub unwrapped : List (List ℕ) → List ℕ
unwrapped messages = flat_map piece_of messages

-- messages are those of some file
abbrev pub IsFile : ℕ → List (List ℕ) → Type 0
IsFile message messages = (file : List ℕ) × (wrapped message file ≡ messages)

-- messages are the first ones of some file
abbrev pub BeginsFile : ℕ → List (List ℕ) → Type 0
BeginsFile message messages = (file : List ℕ) × (rest : List (List ℕ)) × (wrapped message file ≡ messages ++ rest)

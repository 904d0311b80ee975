-- The messages of files from folder to folder.
use Rattle.std.specs.Prelude.{ℕ, ◌^◌, nat_lt, ◌==◌, ◌&&◌, if◌then◌else◌, List, [], ◌∷◌, ◌++◌, drop, length, slice_index}
use Rattle.byteorder.specs.Endian.{big_bytes, big_number}
use Rattle.file_messages.specs.FileNames.{is_file_name}

-- a file begins: a byte 2, the version 1, the file's size in eight bytes, its name
unfoldable pub start_message : List ℕ → ℕ → List ℕ
start_message name size = 2 ∷ 1 ∷ big_bytes 8 size ++ name

-- some of its bytes, behind a byte 0
abbrev pub piece_message : List ℕ → List ℕ
piece_message piece = 0 ∷ piece

-- it ends: a byte 3, and the SHA-256 of its bytes
abbrev pub end_message : List ℕ → List ℕ
end_message digest = 3 ∷ digest

-- it is given up
abbrev pub abandon_message : List ℕ
abandon_message = 4 ∷ []

-- what a message says
pub data Message : Type 0 where
  Start : (name : List ℕ) (size : ℕ) → Message
  Piece : (bytes : List ℕ) → Message
  End : (digest : List ℕ) → Message
  Abandon : Message
  Other : Message

-- the bytes behind a byte 2
unfoldable pub start_of : List ℕ → Message
start_of rest =
    if (slice_index rest 0 == 1) && (nat_lt (big_number 8 (drop 1 rest)) (2 ^ 48) && is_file_name (drop 9 rest))
    then Start (drop 9 rest) (big_number 8 (drop 1 rest))
    else Other

-- what these bytes say: the first one tells the kind
unfoldable pub message_of : List ℕ → Message
message_of [] = Other
message_of (kind ∷ rest) =
    if (kind == 0) && nat_lt 0 (length rest) then Piece rest
    else if kind == 2 then start_of rest
    else if kind == 3 then End rest
    else if (kind == 4) && (length rest == 0) then Abandon
    else Other

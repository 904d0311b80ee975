-- The files that messages give.
use Rattle.std.specs.Prelude.{ℕ, ◌+◌, ◌^◌, ◌<◌, nat_le, ◌==◌, ◌&&◌, Bool, if◌then◌else◌, List, [], ◌∷◌, ◌++◌, length}
use Rattle.std.specs.Prelude.{bytes_eq}
use Rattle.sha2.specs.Sha256.{sha256}
use Rattle.file_messages.specs.FileNames.{IsFileName}
use Rattle.file_messages.specs.Messages.{Message, Start, Piece, End, message_of}

-- a file: its name and its bytes
pub record File : Type 0 where
  pub name : List ℕ
  pub bytes : List ℕ

pub record IsLawfulFile (file : File) : Type 0 where
  pub name : IsFileName file.name
  pub size : length file.bytes < 2 ^ 48

-- between two files, or inside one: its name, its size and its bytes so far
pub data State : Type 0 where
  Between : State
  Inside : (name : List ℕ) (size : ℕ) (bytes : List ℕ) → State

-- these are all its bytes, by their number and their digest
abbrev pub is_whole : ℕ → List ℕ → List ℕ → Bool
is_whole size bytes digest = (length bytes == size) && bytes_eq digest (sha256 bytes)

-- the state after a message: whatever is out of place leads back to between
abbrev pub after : State → Message → State
after Between (Start name size) = Inside name size []
after (Inside name size bytes) (Piece piece) =
    if nat_le (length bytes + length piece) size then Inside name size (bytes ++ piece) else Between
after state message = Between

-- the file that a message gives, if it gives one
abbrev pub given : State → Message → List File
given (Inside name size bytes) (End digest) =
    if is_whole size bytes digest then record { name = name; bytes = bytes } ∷ [] else []
given state message = []

abbrev pub state_after : State → List (List ℕ) → State
state_after state [] = state
state_after state (message ∷ messages) = state_after (after state (message_of message)) messages

abbrev pub files_from : State → List (List ℕ) → List File
files_from state [] = []
files_from state (message ∷ messages) =
    given state (message_of message) ++ files_from (after state (message_of message)) messages

-- the files that a list of messages gives, whatever it is
abbrev pub files : List (List ℕ) → List File
files messages = files_from Between messages

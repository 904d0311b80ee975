-- What was read of a file, and its messages that are still to come.
use Rattle.std.specs.Prelude.{◌≡◌, ℕ, ◌^◌, ◌≤◌, List, [], ◌∷◌, ◌++◌, length, Option, None, Some}
use Rattle.sha2.specs.Hashers.{Holds256}
use Rattle.sha2.specs.Sha256.{sha256}
use Rattle.file_cutter.specs.Cutting.{to_come, bytes_in_all, cut_bytes}
use Rattle.file_cutter.specs.declared.pieces.Cut.{Cut}
use Rattle.file_cutter.specs.declared.pieces.Cut.TheVariants.{Message, Done, Failed, TooLong}
use Rattle.file_cutter.specs.declared.pieces.Pieces.{Pieces}
use Rattle.file_dropper.specs.declared.reading.Measure.{Measure}
use Rattle.file_dropper.specs.declared.reading.Reading.{Reading}

-- the pieces that are to come of a source, where it tells the bytes that it has left
abbrev pub coming : Pieces → Option (List ℕ) → List (List ℕ)
coming pieces None = []
coming pieces (Some rest) = to_come pieces rest

-- a reading of a file of these bytes gave these so far
pub record HasRead {F : Type 0} (left : F → Option (List ℕ)) (reading : Reading F) (bytes given : List ℕ) : Type 0 where
  pub rest : List ℕ
  pub left_is : left reading.file ≡ Some rest
  pub parts : bytes ≡ given ++ rest
  pub hashed : Holds256 reading.hasher given
  pub counted : cut_bytes reading.pieces ≡ length given
  pub total : bytes_in_all reading.pieces rest ≡ length bytes

-- the messages that it has still to give
abbrev pub still : {F : Type 0} → (F → Option (List ℕ)) → Reading F → List (List ℕ)
still left reading = coming reading.pieces (left reading.file)

-- a reading goes on: with a message that has a piece, at the end of the file, or in a file that is too long
abbrev pub Reads : {F : Type 0} → (F → Option (List ℕ)) → Reading F → Reading F → List ℕ → Cut → Type 0
Reads left old new message Message = (bytes given : List ℕ) → HasRead left old bytes given
    → (piece : List ℕ) × HasRead left new bytes (given ++ piece) × (still left old ≡ message ∷ still left new)
Reads left old new message Done = (bytes given : List ℕ) → HasRead left old bytes given
    → HasRead left new bytes bytes × (still left old ≡ [])
Reads left old new message Failed = Unit {0}
Reads left old new message TooLong = (bytes given : List ℕ) → HasRead left old bytes given → 2 ^ 48 ≤ length bytes

-- the file's measure
abbrev pub IsMeasure : Measure → List ℕ → Type 0
IsMeasure measure bytes = (measure.size ≡ length bytes) × (measure.digest ≡ sha256 bytes)

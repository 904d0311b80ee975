-- The pieces of a file, and those that are still to come.
use Rattle.std.specs.Prelude.{◌≡◌, ◌≢◌, ℕ, ◌+◌, ◌^◌, ◌<◌, ◌≤◌, List, [], ◌∷◌, length, map, Option, None, Some}
use Rattle.file_messages.specs.Messages.{piece_message}
use Rattle.file_messages.specs.Cuts.{pieces}
use Rattle.file_cutter.specs.declared.pieces.Pieces.{Pieces}
use Rattle.file_cutter.specs.declared.pieces.Stage.{Stage}
use Rattle.file_cutter.specs.declared.pieces.Stage.TheVariants.{Reading, Ended, Stopped}
use Rattle.file_cutter.specs.declared.pieces.Cut.{Cut}
use Rattle.file_cutter.specs.declared.pieces.Cut.TheVariants.{Message, Done, Failed, TooLong}

abbrev pub stage_to_come : Stage → ℕ → List ℕ → List (List ℕ)
stage_to_come Reading size left = map piece_message (pieces size left)
stage_to_come Ended size left = []
stage_to_come Stopped size left = []

-- the messages that are still to come, of a source with these bytes left
abbrev pub to_come : Pieces → List ℕ → List (List ℕ)
to_come cutter left = stage_to_come cutter.stage cutter.size left

-- how many bytes the source gave so far
abbrev pub cut_bytes : Pieces → ℕ
cut_bytes cutter = cutter.bytes

-- the greatest length of a message
abbrev pub cut_message : Pieces → ℕ
cut_message cutter = cutter.size + 1

-- the source was not seen at its end
abbrev pub IsReading : Pieces → Type 0
IsReading cutter = cutter.stage ≡ Reading

-- the next piece may be asked for
pub record MayCut (cutter : Pieces) : Type 0 where
  pub may : cutter.stage ≢ Stopped
  pub least : 1 ≤ cutter.size
  pub greatest : cutter.size ≤ 1023
  pub few : cutter.bytes < 2 ^ 48

-- an answer, with what was to come before and after it, and the message
abbrev pub Gives : Cut → List (List ℕ) → List (List ℕ) → List ℕ → Type 0
Gives Message before after message = before ≡ message ∷ after
Gives Done before after message = before ≡ []
Gives Failed before after message = Unit {0}
Gives TooLong before after message = Unit {0}

-- the same, of a source with these bytes left before and after it, where they are told
abbrev pub GivesNext : Pieces → Pieces → Option (List ℕ) → Option (List ℕ) → List ℕ → Cut → Type 0
GivesNext old new None rest message result = Unit {0}
GivesNext old new (Some left) None message result = Unit {0}
GivesNext old new (Some left) (Some rest) message result = Gives result (to_come old left) (to_come new rest) message

-- an answer and its message, with the bytes that the source gave for it: a message has just these, and some; it is
-- too long exactly at 2^48 in all
pub record Takes (result : Cut) (old new : Pieces) (message bytes : List ℕ) : Type 0 where
  pub given : result ≡ Message → message ≡ piece_message bytes
  pub some : result ≡ Message → 0 < length bytes
  pub none : result ≡ Done → bytes ≡ []
  pub long : result ≡ TooLong → old.bytes + length bytes ≡ 2 ^ 48
  pub short : result ≢ TooLong → old.bytes + length bytes < 2 ^ 48
  pub counted : result ≢ Failed → new.bytes ≡ old.bytes + length bytes

-- ---- the bytes of the file ----

abbrev pub stage_bytes : Stage → ℕ → List ℕ → ℕ
stage_bytes Reading bytes left = bytes + length left
stage_bytes Ended bytes left = bytes
stage_bytes Stopped bytes left = bytes

-- how many bytes the file has in all, of a source with these bytes left
abbrev pub bytes_in_all : Pieces → List ℕ → ℕ
bytes_in_all cutter left = stage_bytes cutter.stage cutter.bytes left

-- after a message that number is the same; behind the last one so many bytes were read
abbrev pub CountsIn : Cut → Pieces → Pieces → List ℕ → List ℕ → Type 0
CountsIn Message old new left rest = bytes_in_all new rest ≡ bytes_in_all old left
CountsIn Done old new left rest = new.bytes ≡ bytes_in_all old left
CountsIn Failed old new left rest = Unit {0}
CountsIn TooLong old new left rest = Unit {0}

-- .. where the source tells its bytes
abbrev pub Counts : Cut → Pieces → Pieces → Option (List ℕ) → Option (List ℕ) → Type 0
Counts result old new None rest = Unit {0}
Counts result old new (Some left) None = Unit {0}
Counts result old new (Some left) (Some rest) = CountsIn result old new left rest

-- A cutter, and what it has still to give.
use Rattle.std.specs.Prelude.{◌≡◌, ◌≢◌, ℕ, ◌+◌, ◌^◌, ◌<◌, ◌≤◌, Bool, true, false, if◌then◌else◌, List, [], ◌∷◌, ◌++◌}
use Rattle.std.specs.Prelude.{length, map, Option, None, Some}
use Rattle.std.specs.Io.KnownBytes.{Consumes}
use Rattle.file_messages.specs.Messages.{piece_message}
use Rattle.file_messages.specs.Cuts.{pieces}
use Rattle.file_cutter.specs.Cutting.{Gives, MayCut as MayCutPieces, to_come as pieces_to_come}
use Rattle.file_cutter.specs.Cutting.{bytes_in_all as bytes_in_pieces}
use Rattle.file_cutter.specs.declared.pieces.Cut.{Cut}
use Rattle.file_cutter.specs.declared.pieces.Cut.TheVariants.{Message, Done, Failed, TooLong}
use Rattle.pump_wrapper.specs.Wrapped.{length_message}
use Rattle.pump_wrapper.specs.declared.cutter.Cutter.{Cutter}

-- the rest of a file as messages, behind so many bytes of it
abbrev pub wrapped_from : ℕ → ℕ → List ℕ → List (List ℕ)
wrapped_from size before rest = map piece_message (pieces size rest) ++ length_message (before + length rest) ∷ []

-- how many bytes the source gave so far
abbrev pub cut_bytes : Cutter → ℕ
cut_bytes cutter = cutter.pieces.bytes

-- the greatest length of a message
abbrev pub cut_message : Cutter → ℕ
cut_message cutter = cutter.pieces.size + 1

-- how many bytes the file has in all, of a source with these bytes left
abbrev pub bytes_in_all : Cutter → List ℕ → ℕ
bytes_in_all cutter left = if cutter.is_ended then cut_bytes cutter else bytes_in_pieces cutter.pieces left

-- the messages that a cutter has still to give, of a source with these bytes left: the pieces, and then the length
abbrev pub to_come : Cutter → List ℕ → List (List ℕ)
to_come cutter left =
    if cutter.is_ended then []
    else pieces_to_come cutter.pieces left ++ length_message (bytes_in_pieces cutter.pieces left) ∷ []

-- it may be asked for a message
pub record MayCut (cutter : Cutter) : Type 0 where
  pub may : cutter.is_ended ≡ false → MayCutPieces cutter.pieces
  pub least : 9 ≤ cut_message cutter
  pub few : cut_bytes cutter < 2 ^ 48

-- an answer and its message, of a source with these bytes left before and after it, where they are told
abbrev pub GivesNext : Cutter → Cutter → Option (List ℕ) → Option (List ℕ) → List ℕ → Cut → Type 0
GivesNext old new None rest message result = Unit {0}
GivesNext old new (Some left) None message result = Unit {0}
GivesNext old new (Some left) (Some rest) message result = Gives result (to_come old left) (to_come new rest) message

-- an answer, with the bytes that the source gave for it: it is too long exactly at 2^48 in all
pub record Takes (result : Cut) (old new : Cutter) (bytes : List ℕ) : Type 0 where
  pub long : result ≡ TooLong → cut_bytes old + length bytes ≡ 2 ^ 48
  pub short : result ≢ TooLong → cut_bytes old + length bytes < 2 ^ 48
  pub counted : result ≢ Failed → cut_bytes new ≡ cut_bytes old + length bytes

-- ---- the bytes of the file ----

-- after a message that number is the same; behind the last one so many bytes were read
abbrev pub CountsIn : Cut → Cutter → Cutter → List ℕ → List ℕ → Type 0
CountsIn Message old new left rest = bytes_in_all new rest ≡ bytes_in_all old left
CountsIn Done old new left rest = cut_bytes new ≡ bytes_in_all old left
CountsIn Failed old new left rest = Unit {0}
CountsIn TooLong old new left rest = Unit {0}

-- .. where the source tells its bytes
abbrev pub Counts : Cut → Cutter → Cutter → Option (List ℕ) → Option (List ℕ) → Type 0
Counts result old new None rest = Unit {0}
Counts result old new (Some left) None = Unit {0}
Counts result old new (Some left) (Some rest) = CountsIn result old new left rest

-- so many bytes are the file's, where the source tells them
abbrev pub IsTotal : Cutter → Option (List ℕ) → ℕ → Type 0
IsTotal cutter None total = Unit {0}
IsTotal cutter (Some left) total = total ≡ bytes_in_all cutter left

-- with those that it gave before, the source gave 2^48 bytes; or it gave fewer
abbrev pub Gave : ℕ → Option (List ℕ) → Option (List ℕ) → Bool → Type 0
Gave before left rest is_long =
    (bytes : List ℕ) × Consumes left rest bytes
    × (is_long ≡ true → before + length bytes ≡ 2 ^ 48) × (is_long ≡ false → before + length bytes < 2 ^ 48)

-- What a reading gives.
use Rattle.std.proofs.Common.{◌≡◌, ℕ, ◌^◌, ◌≤◌, length, List, ◌∷◌, [], ◌++◌, Option}
use Rattle.file_dropper.specs.Readings.{HasRead, Reads, still}
use Rattle.file_cutter.specs.declared.pieces.Cut.{Cut}
use Rattle.file_cutter.specs.declared.pieces.Cut.TheVariants.{Message, Done, Failed, TooLong}
use Rattle.file_dropper.specs.declared.reading.Reading.{Reading}

module _ {F : Type 0} (left : F → Option (List ℕ)) (old new : Reading F) (message bytes given : List ℕ) where
  pub read_more : (cut : Cut) → Reads left old new message cut → cut ≡ Message → HasRead left old bytes given
      → (piece : List ℕ) × HasRead left new bytes (given ++ piece) × (still left old ≡ message ∷ still left new)
  read_more Message reads is has = reads bytes given has
  read_more Done reads is has = cc
  read_more Failed reads is has = cc
  read_more TooLong reads is has = cc

  pub read_end : (cut : Cut) → Reads left old new message cut → cut ≡ Done → HasRead left old bytes given → HasRead left new bytes bytes × (still left old ≡ [])
  read_end Message reads is has = cc
  read_end Done reads is has = reads bytes given has
  read_end Failed reads is has = cc
  read_end TooLong reads is has = cc

  pub read_long : (cut : Cut) → Reads left old new message cut → cut ≡ TooLong → HasRead left old bytes given → 2 ^ 48 ≤ length bytes
  read_long Message reads is has = cc
  read_long Done reads is has = cc
  read_long Failed reads is has = cc
  read_long TooLong reads is has = reads bytes given has

-- How a race ends, from what was written of its record.
use Rattle.std.proofs.Common.{◌≡◌, ℕ, Bool, true, false, List, Option, inl, inr, refl, arith}
use Rattle.pump_link.specs.Tells.{Draws}
use Rattle.race.specs.Race.{IsRaceRecord}
use Rattle.race.specs.Tape.{Written}
use Rattle.race.specs.Turns.{CountsStop}
use Rattle.dispatch.specs.Racing.{IsRecordOf, EndsRace}

-- a gate that never stops a worker has not stopped it
pub never_stopped : (stopped : Bool) → CountsStop stopped 0 0 → stopped ≡ false
never_stopped true rose = absurd (omega (arith, rose))
never_stopped false same = refl

-- the record of readings of the clock, with what was written of it
abbrev pub WroteRecord : ℕ → ℕ → List ℕ → (List ℕ → Type 0) → (List ℕ → Type 0) → Option (List ℕ) → Option (List ℕ) → ℕ → ℕ → Bool → Type 0
WroteRecord seed count times before after old new was now failed =
    (bytes : List ℕ) × (readings : List ℕ) × (asks : List (ℕ × ℕ)) × Written failed old new was now bytes × Draws before after readings × IsRaceRecord seed count times readings asks bytes

module _ (seed count : ℕ) (times : List ℕ) (before after : List ℕ → Type 0) (old new : Option (List ℕ)) (was now : ℕ) where
  pub wrote_whole : (failed : Bool) → failed ≡ false → WroteRecord seed count times before after old new was now failed → EndsRace (IsRecordOf seed count times before after) old new 0
  wrote_whole failed is (bytes, readings, asks, written, draws, race) = inl (refl, (bytes, (readings, asks, draws, race), written.whole is))

  pub wrote_prefix : (failed : Bool) → WroteRecord seed count times before after old new was now failed → EndsRace (IsRecordOf seed count times before after) old new 4
  wrote_prefix failed (bytes, readings, asks, written, draws, race) = inr (inr (refl, (bytes, (readings, asks, draws, race), written.prefix)))

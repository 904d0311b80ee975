-- How the low worker of a session ends.
use Rattle.std.specs.Prelude.{◌≡◌, ℕ, Bool, true, false, List, []}
use Rattle.relay_threads.specs.LowStays.{Stay, EndsStays}
use Rattle.relay_threads.specs.declared.rounds_end.RoundsEnd.{RoundsEnd}
use Rattle.relay_threads.specs.declared.rounds_end.RoundsEnd.TheVariants.{RecordFailed}

-- before its first round, where the line that opens the record was not written whole; else with its rounds
abbrev pub EndsLow : {L : Type 0} → Bool → List (Stay L) → ℕ → RoundsEnd → Type 0
EndsLow false stays rounds end = (stays ≡ []) × (end ≡ RecordFailed)
EndsLow true stays rounds end = EndsStays stays rounds end

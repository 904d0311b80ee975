-- What the low work did, told of the values that it borrowed.
use Rattle.std.proofs.Common.{◌≡◌, ℕ, List, Option, sym, subst}
use Rattle.std.specs.List.{AllByRecursion}
use Rattle.atomic_table.specs.Seated.{TableId}
use Rattle.pump_link.specs.Tells.{Draws, Grows}
use Rattle.pump_core.specs.Passage.{Low, High, Shape}
use Rattle.relay_threads.specs.Records.{Made, record_of}
use Rattle.relay_threads.specs.RecordLines.{looks_text}
use Rattle.relay_threads.specs.Replays.{IsReadable}
use Rattle.script_reader.specs.Generated.{generated_row}
use Rattle.race.specs.LowRacers.{LowRests}
use Rattle.race.specs.LowWorks.{LowRuns}
use Rattle.race.specs.MadeLooks.{moments_of, acks_of}
use Rattle.race.specs.Tape.{Prints}
use Rattle.race.specs.Turns.{asks_in_run}
use Rattle.race.specs.declared.low.LowRacer.{LowRacer}
use Rattle.race.specs.declared.low_work.LowRaceWork.{LowRaceWork}
use Rattle.race.specs.declared.tape.Tape.{Tape}

module _ {K O L G : Type 0} (reads : K → List ℕ → Type 0) (floor : K → ℕ) (written : O → Option (List ℕ)) (faults : O → ℕ)
    (stands : L → Low → High → Type 0) (place : L → List TableId) (shape : L → Shape) (asked : G → List (ℕ × ℕ) → Type 0) (stops : G → ℕ) where
  pub low_ran : (v w : LowRaceWork K O L G) (half : LowRacer L) (clock : K) (out : O) (tape : Tape) (gate : G)
      → half ≡ w.racer.now → clock ≡ w.clock.now → out ≡ w.out.now → tape ≡ w.tape.now → gate ≡ w.gate.now → LowRuns reads floor written faults stands place shape asked stops v w
      → (made : List Made) × LowRests stands shape half made × Draws (reads v.clock.now) (reads clock) (moments_of made)
      × Prints v.tape.now tape (written v.out.now) (written out) (faults v.out.now) (faults out) (looks_text generated_row (record_of made))
      × Grows (asked v.gate.now) (asked gate) (asks_in_run w.is_stopped (acks_of made)) × AllByRecursion (IsReadable generated_row) (record_of made)
  low_ran v w half clock out tape gate half_is clock_is out_is tape_is gate_is ran =
      let so_far = ran.so_far in (
        ran.made,
        subst (λ (x : LowRacer L). LowRests stands shape x ran.made) (sym half_is) so_far.at,
        subst (λ (x : K). Draws (reads v.clock.now) (reads x) (moments_of ran.made)) (sym clock_is) so_far.draws,
        subst (λ (z : Tape × O). Prints v.tape.now z.0 (written v.out.now) (written z.1) (faults v.out.now) (faults z.1) (looks_text generated_row (record_of ran.made))) (λ i. (sym tape_is i, sym out_is i)) so_far.prints,
        subst (λ (x : G). Grows (asked v.gate.now) (asked x) (asks_in_run w.is_stopped (acks_of ran.made))) (sym gate_is) so_far.asks_are,
        so_far.readable,
      )

-- What the clock of a side tells: a clock that steps its readings, and the machine's none.
use Rattle.std.specs.Prelude.{ℕ, ◌^◌, min, List}
use Rattle.pump_link.specs.Running.{StepsFrom}
use Rattle.adapters.specs.declared.side_clock.SideClock.{SideClock}
use Rattle.adapters.specs.declared.side_clock.SideClock.TheVariants.{Machine, Steps}

abbrev pub reads : {R : Type 0} → SideClock R → List ℕ → Type 0
reads (Machine clock) moments = ⊥
reads (Steps clock) moments = StepsFrom clock.next clock.step moments

abbrev pub floor : {R : Type 0} → SideClock R → ℕ
floor (Machine clock) = min clock.last (2 ^ 62)
floor (Steps clock) = clock.next

abbrev pub readings : {R : Type 0} → SideClock R → ℕ
readings (Machine clock) = clock.readings
readings (Steps clock) = clock.readings

-- A line of a low pump is one of its parts, which stand for something until a device fails.
use Rattle.std.proofs.Common.{◌≡◌, Bool, true, false, List, Option, Some, None, sym, ap, ◌∙◌, subst}
use Rattle.std.proofs.Math.Logic.{∥∥₁_elim}
use Rattle.std.proofs.Math.Path.{path_j}
use Rattle.std.proofs.Props.{props}
use Rattle.disk_model.specs.declared.name.Role.TheVariants as roles
use Rattle.low_process.specs.Looks.{is_down}
use Rattle.script_reader.specs.declared.event.Event.{Event}
use Rattle.script_reader.specs.declared.line.Line.{Line}
use Rattle.script_reader.specs.Alone.{PastAlone, is_apt_alone, IsRefusedAlone, StepAlone}
use Rattle.two_worlds.specs.LowPumpParts.{PartsStand, StandsForSome, EndsBy, Ends}
use Rattle.two_worlds.specs.LowPumps.{low_row_of, AppliesAlone, stops_at_disk}
use Rattle.two_worlds.specs.declared.applied.Stop.{Stop}
use Rattle.two_worlds.specs.declared.applied.Stop.TheVariants as stops
use Rattle.two_worlds.specs.declared.low_pump.parts.LowPumpParts.{LowPumpParts}
use Rattle.two_worlds.specs.declared.low_pump.LowPump.{LowPump}

-- what holds of the parts between two lines
abbrev Holds : LowPumpParts → Type 0
Holds c = is_down c.process ≡ false → ∥ StandsForSome c ∥₁

holds_prop : (c : LowPumpParts) → IsProp (Holds c)
holds_prop c = hlevel props

-- pumps of the same parts are the same
same_pump : (old new : LowPump) → new.parts ≡ old.parts → new ≡ old
same_pump old new same =
    path_j (λ (c : LowPumpParts) (e : old.parts ≡ c). (h : Holds c) → record { parts = c; stands = h } ≡ old)
    (λ h. (λ i. record { parts = old.parts; stands = holds_prop old.parts h old.stands i })) (sym same) new.stands

pub applies_low : (old new : LowPump) (line : Line) (p : PastAlone) (printed : List Event) (stop : Option Stop)
    → EndsBy (IsRefusedAlone (low_row_of old) p line) (λ is_fault q printed. (is_apt_alone (low_row_of old) p line ≡ true) × StepAlone (low_row_of old) p line is_fault q printed) old.parts new.parts printed stop
    → AppliesAlone old new line p printed stop
applies_low old new line p printed None h = (h.1.0, (h.0, h.1.1, h.2))
applies_low old new line p printed (Some stops.Line) h = (h.0, h.1, same_pump old new h.2)
applies_low old new line p printed (Some (stops.Device roles.Low faults)) h = (h.0.1.0, (h.0.0, h.0.1.1), h.1, h.2)
applies_low old new line p printed (Some (stops.Device roles.High faults)) h = absurd h
applies_low old new line p printed (Some (stops.Device roles.Recv faults)) h = absurd h
applies_low old new line p printed (Some (stops.Full end size_of_message size)) h = absurd h
applies_low old new line p printed (Some (stops.Disk role why)) h = absurd h

module _ (c d : LowPumpParts) (Bars : PastAlone → Type 0) (Does : PastAlone → Bool → PastAlone → List Event → Type 0) where
  down_by : (p : PastAlone) (printed : List Event) (stop : Option Stop) → PartsStand c p → EndsBy (Bars p) (Does p) c d printed stop → is_down d.process ≡ stops_at_disk stop
  down_by p printed None was h = h.2.up
  down_by p printed (Some stops.Line) was h = ap (λ (t : LowPumpParts). is_down t.process) h.2 ∙ was.up
  down_by p printed (Some (stops.Device roles.Low faults)) was h = h.1
  down_by p printed (Some (stops.Device roles.High faults)) was h = absurd h
  down_by p printed (Some (stops.Device roles.Recv faults)) was h = absurd h
  down_by p printed (Some (stops.Full end size_of_message size)) was h = absurd h
  down_by p printed (Some (stops.Disk role why)) was h = absurd h

  -- the process is down exactly where a device stopped the line
  pub down_after : (printed : List Event) (stop : Option Stop) → ∥ StandsForSome c ∥₁ → Ends c d Bars Does printed stop → is_down d.process ≡ stops_at_disk stop
  down_after printed stop some ends = ∥∥₁_elim some (hlevel props) (λ s. down_by s.0 printed stop s.1 (ends s.0 s.1))

  stands_by : (p : PastAlone) (printed : List Event) (stop : Option Stop) → PartsStand c p → EndsBy (Bars p) (Does p) c d printed stop → Holds d
  stands_by p printed None was h up = ∣ (h.0, h.2) ∣₁
  stands_by p printed (Some stops.Line) was h up = ∣ (p, subst (λ (t : LowPumpParts). PartsStand t p) (sym h.2) was) ∣₁
  stands_by p printed (Some (stops.Device roles.Low faults)) was h up = let down = h.1 in absurd (cc)
  stands_by p printed (Some (stops.Device roles.High faults)) was h up = absurd h
  stands_by p printed (Some (stops.Device roles.Recv faults)) was h up = absurd h
  stands_by p printed (Some (stops.Full end size_of_message size)) was h up = absurd h
  stands_by p printed (Some (stops.Disk role why)) was h up = absurd h

  pub still_holds : (printed : List Event) (stop : Option Stop) → ∥ StandsForSome c ∥₁ → Ends c d Bars Does printed stop → Holds d
  still_holds printed stop some ends up = ∥∥₁_elim some (hlevel props) (λ s. stands_by s.0 printed stop s.1 (ends s.0 s.1) up)

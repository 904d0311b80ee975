-- A line that was given to a pump.
use Rattle.std.proofs.Common.{◌≡◌, List, [], Option, None, Some, Result, Ok, Err, sym, ap, subst}
use Rattle.std.specs.Result.{result_err}
use Rattle.disk_model.specs.Disk.{Meaning}
use Rattle.script_reader.specs.declared.event.Event.{Event}
use Rattle.script_reader.specs.declared.line.Line.{Line as ScriptLine}
use Rattle.script_reader.specs.Past.{Past}
use Rattle.script_reader.specs.Steps.{LineStep, Overfills}
use Rattle.script_reader.specs.Breaks.{Breaks}
use Rattle.two_worlds.specs.declared.applied.Stop.{Stop}
use Rattle.two_worlds.specs.declared.applied.Stop.TheVariants.{Line, Device, Full, Disk}
use Rattle.two_worlds.specs.declared.pump.parts.Parts.{Parts}
use Rattle.two_worlds.specs.declared.pump.state.PumpState.{PumpState}
use Rattle.two_worlds.specs.declared.pump.state.PumpState.TheVariants.{Open, Shut}
use Rattle.two_worlds.specs.States.{disks_in, IsOpenWith, StandsIn, RefusesAheadIn}
use Rattle.two_worlds.specs.Rooms.{DisksGo}
use Rattle.two_worlds.specs.Working.{IsAheadBy}
use Rattle.two_worlds.specs.Private.StateSteps.{StateApplies, StateAppliesOn, StateTried}
use Rattle.two_worlds.specs.Private.LineSteps.{AttemptsFrom, AttemptsOn, Tried}

-- these are the parts before and after
module _ {D : Type 0} (m : Meaning D) (s t : PumpState D) (c d : Parts D) (was : s ≡ Open c) (now : t ≡ Open d) (line : ScriptLine) where
  -- what holds of the parts holds of the states
  of_states : (P : PumpState D → PumpState D → Type 0) → P (Open c) (Open d) → P s t
  of_states P h = subst (λ (x : PumpState D × PumpState D). P x.0 x.1) (λ i. (sym was i, sym now i)) h

  applied : (p : Past) (printed : List Event) (result : Result (Unit {0}) Stop) → AttemptsFrom m c d line [] printed p result → StateApplies m s t line p printed (result_err result)
  applied p printed (Ok done) a = of_states (λ x y. StateApplies m x y line p printed None)
      (a.0, (a.1.0, subst (λ (l : List Event). LineStep c.row p line a.1.0 l) (sym a.1.3) a.1.2, a.1.4, a.1.5))
  applied p printed (Err Line) a = of_states (λ x y. StateApplies m x y line p printed (Some Line)) (a.2, a.1, ap (λ (x : Parts D). Open x) a.0)
  applied p printed (Err (Device role faults)) a = of_states (λ x y. StateApplies m x y line p printed (Some (Device role faults)))
      (a.0, (a.1.0, subst (λ (l : List Event). Breaks c.row p line role a.1.0 l) (sym a.1.3) a.1.2, a.1.4, a.1.5))
  applied p printed (Err (Full end k size)) a = of_states (λ x y. StateApplies m x y line p printed (Some (Full end k size)))
      (a.0, (a.1.0, subst (λ (l : List Event). Overfills c.row p line a.1.0 l end k size) (sym a.1.3) a.1.2, a.1.4, a.1.5))
  applied p printed (Err (Disk role why)) a = absurd a

  -- whatever the disks tell
  applied_on : (printed : List Event) (result : Result (Unit {0}) Stop) → AttemptsOn m c d line [] printed result → StateAppliesOn m s t line printed (result_err result)
  applied_on printed (Ok done) a = of_states (λ x y. StateAppliesOn m x y line printed None) (a.0, a.1)
  applied_on printed (Err Line) a = of_states (λ x y. StateAppliesOn m x y line printed (Some Line)) (a.2, a.1, ap (λ (x : Parts D). Open x) a.0)
  applied_on printed (Err (Device role faults)) a = of_states (λ x y. StateAppliesOn m x y line printed (Some (Device role faults))) (a.0, a.1.0, a.1.1)
  applied_on printed (Err (Full end k size)) a = of_states (λ x y. StateAppliesOn m x y line printed (Some (Full end k size))) (a.0, a.1)
  applied_on printed (Err (Disk role why)) a = absurd a

  -- the line was tried, with this answer
  pub state_tried : (printed : List Event) (result : Result (Unit {0}) Stop) (stop : Option Stop) → stop ≡ result_err result → Tried m c d line printed result → StateTried m s t line printed stop
  state_tried printed result stop is tried =
      subst (λ (x : Option Stop). StateTried m s t line printed x) (sym is)
      (record {
        applies = λ told p stands. applied p printed result (tried.attempts p (subst (λ (x : PumpState D). StandsIn m x p) was stands));
        on = applied_on printed result tried.on;
        ahead = of_states (λ x y. RefusesAheadIn x y line [] printed) tried.ahead;
        serve = of_states (λ x y. DisksGo m (disks_in x).row (disks_in x).low (disks_in x).high (disks_in x).recv (disks_in y).low (disks_in y).high (disks_in y).recv (result_err result)) tried.serve;
        row = of_states (λ x y. (disks_in y).row ≡ (disks_in x).row) tried.row;
      })

-- a line that brings no packet
pub no_packet : {D : Type 0} (s : PumpState D) (line other : ScriptLine) → line ≡ other → ((c : Parts D) → IsAheadBy c other → ⊥) → IsOpenWith (λ c. IsAheadBy c line) s → ⊥
no_packet (Open c) line other is none ahead = none c (subst (λ (l : ScriptLine). IsAheadBy c l) is ahead)
no_packet (Shut d) line other is none ahead = ahead

-- .. was carried out apart
pub tried_apart : {D : Type 0} (m : Meaning D) (s t : PumpState D) (line other : ScriptLine) (printed : List Event) (stop : Option Stop) → line ≡ other → ((c : Parts D) → IsAheadBy c other → ⊥)
    → (m.tells → (p : Past) → StandsIn m s p → StateApplies m s t other p printed stop) → StateAppliesOn m s t other printed stop
    → DisksGo m (disks_in s).row (disks_in s).low (disks_in s).high (disks_in s).recv (disks_in t).low (disks_in t).high (disks_in t).recv stop → (disks_in t).row ≡ (disks_in s).row
    → StateTried m s t line printed stop
tried_apart m s t line other printed stop is none applies on serve row = record {
  applies = λ told p stands. subst (λ (l : ScriptLine). StateApplies m s t l p printed stop) (sym is) (applies told p stands);
  on = subst (λ (l : ScriptLine). StateAppliesOn m s t l printed stop) (sym is) on;
  ahead = λ ahead. absurd (no_packet s line other is none ahead);
  serve = serve;
  row = row;
}

-- A `restart` line, from what became of the state.
use Rattle.std.proofs.Common.{◌≡◌, ◌⊎◌, ⊎_elim, ℕ, true, List, [], ◌∷◌, Some, None, Ok, Err, refl, sym, ap, ◌∙◌, subst, inl}
use Rattle.std.specs.Prelude.{◌==◌, ◌&&◌, nat_le}
use Rattle.disk_model.specs.Disk.{Meaning}
use Rattle.disk_model.specs.declared.name.Role.{Role}
use Rattle.disk_model.specs.declared.name.Role.TheVariants as roles
use Rattle.script_reader.specs.declared.event.Event.{Event}
use Rattle.script_reader.specs.declared.event.EventHead.{EventHead}
use Rattle.script_reader.specs.EventHeads.{event_of}
use Rattle.script_reader.specs.declared.line.Line.TheVariants as lines
use Rattle.script_reader.specs.Past.{Past}
use Rattle.script_reader.specs.Breaks.{Breaks}
use Rattle.script_reader.specs.Restarts.{IsRestart}
use Rattle.script_reader.specs.Steps.{is_timely}
use Rattle.two_worlds.specs.declared.applied.Stop.{Stop}
use Rattle.two_worlds.specs.declared.applied.Stop.TheVariants.{Line, Device, Full, Disk}
use Rattle.two_worlds.specs.declared.pump.state.PumpState.{PumpState}
use Rattle.two_worlds.specs.declared.pump.state.PumpState.TheVariants.{Open, Shut}
use Rattle.two_worlds.specs.Private.Restarting.{is_due_in, RestartsFrom}
use Rattle.two_worlds.specs.Private.StateSteps.{StateApplies}
use Rattle.two_worlds.specs.Rooms.{DisksGo}
use Rattle.two_worlds.specs.States.{disks_in, IsOpenWith, StandsIn}
use Rattle.two_worlds.specs.Working.{IsAble}
use Rattle.two_worlds.proofs.Disks.Together.{still_behind}

module _ {D : Type 0} (m : Meaning D) where
  -- the pump's moment is the past's
  pub due_is : (s : PumpState D) (p : Past) (session moment : ℕ) → StandsIn m s p → is_due_in s session moment ≡ is_timely (disks_in s).row p (lines.Restart session moment)
  due_is (Open c) p session moment s = ap (λ (n : ℕ). session == c.row.id && nat_le n moment) s.moment
  due_is (Shut d) p session moment s = absurd s

  -- no disk was called
  pub state_still : (s : PumpState D) → IsOpenWith (IsAble m) s → DisksGo m (disks_in s).row (disks_in s).low (disks_in s).high (disks_in s).recv (disks_in s).low (disks_in s).high (disks_in s).recv (Some Line)
  state_still (Open c) able = record { low_goes = inl (refl, refl); high_goes = inl (refl, refl); recv_goes = inl (refl, refl); behind = still_behind m c able }
  state_still (Shut d) able = absurd able

  module _ (s t : PumpState D) (session moment : ℕ) where
    pub restart_applies : (event : EventHead) (p : Past) (printed : List Event) → is_due_in s session moment ≡ true → StandsIn m s p → printed ≡ event_of event ∷ [] → RestartsFrom m (disks_in s) t moment p (Ok event)
        → StateApplies m s t (lines.Restart session moment) p printed None
    restart_applies event p printed due stands is r =
        (sym (due_is s p session moment stands) ∙ due, (r.0, subst (λ (l : List Event). IsRestart (disks_in s).row p moment r.0 l) (sym is) r.1, r.2, r.3))

    breaks : (role : Role) (p : Past) (printed : List Event) → (role ≡ roles.Low) ⊎ (role ≡ roles.High) → printed ≡ [] → Breaks (disks_in s).row p (lines.Restart session moment) role p printed
    breaks roles.Low p printed of_pump none = (refl, none)
    breaks roles.High p printed of_pump none = (refl, none)
    breaks roles.Recv p printed of_pump none = ⊎_elim (λ e. absurd (cc)) (λ e. absurd (cc)) of_pump

    pub restart_stops : (stop : Stop) (p : Past) (printed : List Event) → is_due_in s session moment ≡ true → StandsIn m s p → printed ≡ [] → RestartsFrom m (disks_in s) t moment p (Err stop)
        → StateApplies m s t (lines.Restart session moment) p printed (Some stop)
    restart_stops Line p printed due stands none r = absurd r
    restart_stops (Device role faults) p printed due stands none r =
        (sym (due_is s p session moment stands) ∙ due, (p, breaks role p printed r.0 none, (r.1, r.2), r.3))
    restart_stops (Full end k size) p printed due stands none r = absurd r
    restart_stops (Disk role why) p printed due stands none r = absurd r

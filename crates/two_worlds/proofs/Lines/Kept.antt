-- What a pump keeps over a line, and the line in the words of a pump.
use Rattle.std.proofs.Common.{◌≡◌, false, List, Option, None, Some, refl, sym, ap, ◌∙◌, subst}
use Rattle.std.specs.Prelude.{◌||◌, not}
use Rattle.std.proofs.Math.Logic.{∥∥₁_elim, ∥∥₁_map}
use Rattle.std.proofs.Props.{props}
use Rattle.disk_model.specs.Disk.{Meaning}
use Rattle.pump_frame.specs.declared.row.RowKey.{RowKey}
use Rattle.pump_frame.specs.Rows.{IsLawfulRow}
use Rattle.script_reader.specs.declared.event.Event.{Event}
use Rattle.script_reader.specs.declared.line.Line.{Line as ScriptLine}
use Rattle.script_reader.specs.Past.{Past}
use Rattle.two_worlds.specs.declared.applied.Stop.{Stop}
use Rattle.two_worlds.specs.declared.applied.Stop.TheVariants.{Line, Device, Full, Disk}
use Rattle.two_worlds.specs.declared.pump.parts.Parts.{Parts}
use Rattle.two_worlds.specs.declared.pump.Pump.{Pump}
use Rattle.two_worlds.specs.declared.pump.state.PumpState.{PumpState}
use Rattle.two_worlds.specs.declared.pump.state.PumpState.TheVariants.{Open, Shut}
use Rattle.world_laws.specs.Disks.{Hold}
use Rattle.two_worlds.specs.Keeping.{Keeps}
use Rattle.two_worlds.specs.LowPumps.{stops_at_disk}
use Rattle.two_worlds.specs.Private.StateSteps.{StateApplies, StateAppliesOn}
use Rattle.two_worlds.specs.Pumps.{Applies, AppliesOn}
use Rattle.two_worlds.specs.Standing.{Stands, is_down}
use Rattle.two_worlds.specs.States.{disks_in, is_down_in, IsOpenWith, StandsIn}
use Rattle.two_worlds.specs.Working.{Works, IsAble, IsTooLong}
use Rattle.two_worlds.proofs.Opening.Working.{works_of}
use Rattle.world_laws.proofs.Timeline.Scripts.{line_goes}

-- ---- states ----

-- parts that work are up
up_of : {D : Type 0} (m : Meaning D) (d : Parts D) → Works m d → is_down d ≡ false
up_of m d w = λ i. w.low_ready.up i || w.high_ready.up i || not (w.recv_ready.ready.is_open i)

-- the state stands for what a session has been through
abbrev pub StandsForSomeIn : {D : Type 0} → Meaning D → PumpState D → Type 0
StandsForSomeIn m s = (p : Past) × StandsIn m s p

module _ {D : Type 0} (m : Meaning D) where
  abbrev pub Holds : PumpState D → Type 0
  Holds s = ∥ Hold m (disks_in s).row (disks_in s).low (disks_in s).high (disks_in s).recv ∥₁

  pub stands_hold : (s : PumpState D) (p : Past) → StandsIn m s p → Holds s
  stands_hold (Open c) p s = ∣ record { world = p.world; lawful = s.sound.lawful; disks = s.disks } ∣₁
  stands_hold (Shut d) p s = absurd s

  -- an open pump stands for this, or any one does
  some_in : (s : PumpState D) → IsOpenWith (λ d. ∥ Works m d ∥₁) s → (m.tells → ∥ StandsForSomeIn m s ∥₁) → IsOpenWith (IsAble m) s
  some_in (Open c) works some = record { works = works; stands = some }
  some_in (Shut d) works some = absurd works

  pub able_stands : (s : PumpState D) → IsOpenWith (IsAble m) s → m.tells → ∥ StandsForSomeIn m s ∥₁
  able_stands (Open c) able = able.stands
  able_stands (Shut d) able = absurd able

  pub works_up : (s : PumpState D) → IsOpenWith (λ d. ∥ Works m d ∥₁) s → is_down_in s ≡ false
  works_up (Open c) works = ∥∥₁_elim works (hlevel props) (up_of m c)
  works_up (Shut d) works = absurd works

  works_left : (s : PumpState D) (end k size : _) → IsOpenWith (λ d. ∥ Works m d ∥₁ × IsTooLong d end k size) s → IsOpenWith (λ d. ∥ Works m d ∥₁) s × IsOpenWith (λ d. IsTooLong d end k size) s
  works_left (Open c) end k size h = (h.0, h.1)
  works_left (Shut d) end k size h = absurd h

  -- a pump that is up can be given a line
  pub kept_able : (s : PumpState D) → is_down_in s ≡ false → ∥ Keeps m s ∥₁ → IsOpenWith (IsAble m) s
  kept_able (Open c) up k = record {
    works = ∥∥₁_elim k (hlevel props) (λ k. (k.able up).works);
    stands = λ told. ∥∥₁_elim k (hlevel props) (λ k. (k.able up).stands told);
  }
  kept_able (Shut d) up k = absurd (cc)

  pub keeps_standing : (d : Parts D) (q : Past) → Stands m d q → Keeps m (Open d)
  keeps_standing d q s = record {
    row = s.row;
    hold = λ told. stands_hold (Open d) q s;
    able = λ up. record { works = ∣ works_of m d q s ∣₁; stands = λ told. ∣ (q, s) ∣₁ };
  }

-- ---- over a line ----

module _ {D : Type 0} (m : Meaning D) (s t : PumpState D) (line : ScriptLine) (printed : List Event) where
  holds_after : (stop : Option Stop) (p : Past) → StandsIn m s p → StateApplies m s t line p printed stop → Holds m t
  holds_after None p st a = stands_hold m t a.1.0 a.1.2
  holds_after (Some Line) p st a = subst (λ (x : PumpState D). Holds m x) (sym a.2) (stands_hold m s p st)
  holds_after (Some (Device role faults)) p st a = (let f = a.1.2.1 in ∣ record { world = a.1.0.world; lawful = f.lawful; disks = f.disks } ∣₁)
  holds_after (Some (Full end k size)) p st a = stands_hold m t a.1.0 a.1.2
  holds_after (Some (Disk role why)) p st a = absurd a

  stands_after : (stop : Option Stop) (p : Past) → is_down_in t ≡ false → StandsIn m s p → StateApplies m s t line p printed stop → (q : Past) × StandsIn m t q
  stands_after None p up st a = (a.1.0, a.1.2)
  stands_after (Some Line) p up st a = (p, subst (λ (x : PumpState D). StandsIn m x p) (sym a.2) st)
  stands_after (Some (Device role faults)) p up st a = (let down = a.1.2.0 in absurd (cc))
  stands_after (Some (Full end k size)) p up st a = (a.1.0, a.1.2)
  stands_after (Some (Disk role why)) p up st a = absurd a

  able_after : (stop : Option Stop) → is_down_in t ≡ false → IsOpenWith (IsAble m) s → StateAppliesOn m s t line printed stop → (m.tells → ∥ StandsForSomeIn m t ∥₁) → IsOpenWith (IsAble m) t
  able_after None up able a some = some_in m t a.1 some
  able_after (Some Line) up able a some = subst (λ (x : PumpState D). IsOpenWith (IsAble m) x) (sym a.2) able
  able_after (Some (Device role faults)) up able a some = (let down = a.1 in absurd (cc))
  able_after (Some (Full end k size)) up able a some = some_in m t (works_left m t end k size a.1).0 some
  able_after (Some (Disk role why)) up able a some = (let down = a.2 in absurd (cc))

  -- the pump keeps this, whatever became of the line
  pub still_keeps : (stop : Option Stop) → (disks_in t).row ≡ (disks_in s).row → is_down_in s ≡ false
      → (m.tells → (p : Past) → StandsIn m s p → StateApplies m s t line p printed stop) → StateAppliesOn m s t line printed stop → Keeps m s → Keeps m t
  still_keeps stop row up applies on k =
      let able = k.able up in
      let stood = able_stands m s able in
      record {
        row = subst IsLawfulRow (sym row) k.row;
        hold = λ told. ∥∥₁_elim (stood told) (hlevel props) (λ s. holds_after stop s.0 s.1 (applies told s.0 s.1));
        able = λ now_up. able_after stop now_up able on (λ told. ∥∥₁_map (stood told) (λ s. stands_after stop s.0 now_up s.1 (applies told s.0 s.1)));
      }

  -- it is down where a disk stopped the line
  pub down_after : (stop : Option Stop) → is_down_in s ≡ false → StateAppliesOn m s t line printed stop → is_down_in t ≡ stops_at_disk stop
  down_after None up a = works_up m t a.1
  down_after (Some Line) up a = ap (λ (x : PumpState D). is_down_in x) a.2 ∙ up
  down_after (Some (Device role faults)) up a = a.1
  down_after (Some (Full end k size)) up a = works_up m t (works_left m t end k size a.1).0
  down_after (Some (Disk role why)) up a = a.2

-- ---- pumps ----

-- the same state is the same pump
kept_is : {D : Type 0} {g : _} (s : Pump D g) (x : PumpState D) → s.state ≡ x → (k : ∥ Keeps g.told x ∥₁) → record { state = x; keeps = k } ≡ s
kept_is {D} {g} s x e = subst (λ (y : PumpState D). (k : ∥ Keeps g.told y ∥₁) → record { state = y; keeps = k } ≡ s) e
    (λ k. (let one : IsProp (∥ Keeps g.told s.state ∥₁) = hlevel props in ap (λ (h : ∥ Keeps g.told s.state ∥₁). record { state = s.state; keeps = h }) (one k s.keeps)))

pump_is : {D : Type 0} {g : _} (s t : Pump D g) → t.state ≡ s.state → t ≡ s
pump_is s t e = kept_is s t.state (sym e) t.keeps

module _ {D : Type 0} {g : _} (m : Meaning D) (s t : Pump D g) (line : ScriptLine) where
  pub pump_applies : (p : Past) (printed : List Event) (stop : Option Stop) → StateApplies m s.state t.state line p printed stop → Applies m s t line p printed stop
  pump_applies p printed None a =
      (a.0, (a.1.0, a.1.1, a.1.2, a.1.3, λ steps point timeline. line_goes (disks_in s.state).row p line a.1.0 printed steps point a.0 a.1.1 timeline))
  pump_applies p printed (Some Line) a = (a.0, a.1, pump_is s t a.2)
  pump_applies p printed (Some (Device role faults)) a = a
  pump_applies p printed (Some (Full end k size)) a = a
  pump_applies p printed (Some (Disk role why)) a = a

  pub pump_applies_on : (printed : List Event) (stop : Option Stop) → StateAppliesOn m s.state t.state line printed stop → AppliesOn m s t line printed stop
  pump_applies_on printed None a = a.0
  pump_applies_on printed (Some Line) a = (a.0, a.1, pump_is s t a.2)
  pump_applies_on printed (Some (Device role faults)) a = a
  pump_applies_on printed (Some (Full end k size)) a = (a.0, (works_left m t.state end k size a.1).1)
  pump_applies_on printed (Some (Disk role why)) a = a

-- ---- the row ----

-- a row of which some proof says that no number is bad
pub none_bad : (bad : Option RowKey) → ∥ bad ≡ None ∥₁ → bad ≡ None
none_bad None h = refl
none_bad (Some key) h = absurd (∥∥₁_elim h (hlevel props) (λ e. (let some : ⊥ = cc in some)))

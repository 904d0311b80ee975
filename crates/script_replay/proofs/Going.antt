-- What becomes of a line of a session that has begun.
use Rattle.std.proofs.Common.{◌≡◌, ◌≢◌, ◌≤◌, ℕ, Bool, true, false, inl, inr, arith, List, Option, None, Some, refl, sym, ap, ◌∙◌, subst}
use Rattle.disk_model.specs.Disk.{Meaning}
use Rattle.disk_model.specs.declared.disk.Disk.{Ghosts}
use Rattle.pump_frame.specs.Counts.{Rose}
use Rattle.script_reader.specs.Breaks.{Breaks}
use Rattle.two_worlds.specs.declared.pump.Pump.{Pump}
use Rattle.disk_model.specs.declared.name.Role.{Role}
use Rattle.disk_model.specs.declared.name.Role.TheVariants as roles
use Rattle.pump_frame.specs.declared.row.SessionRow.{SessionRow}
use Rattle.script_reader.specs.declared.event.Event.{Event}
use Rattle.script_reader.specs.declared.fault.Fault.TheVariants as faults
use Rattle.script_reader.specs.declared.line.Line.{Line}
use Rattle.script_reader.specs.declared.line.Line.TheVariants as lines
use Rattle.script_reader.specs.Steps.{is_timely, IsRefusedWhole, LineStep, Overfills}
use Rattle.script_reader.specs.Openings.{Openings}
use Rattle.script_reader.specs.Past.{Past}
use Rattle.script_reader.specs.Alone.{PastAlone, is_apt_alone, IsRefusedAlone, StepAlone}
use Rattle.script_reader.specs.Scripts.{Running, RunningAlone, Begun, Whole, Alone, GoesOn, Leads, IsRefused}
use Rattle.script_reader.specs.Sessions.{stands_first}
use Rattle.two_worlds.specs.declared.applied.Stop.{Stop}
use Rattle.two_worlds.specs.declared.applied.Stop.TheVariants as stops
use Rattle.two_worlds.specs.Pumps as pump
use Rattle.two_worlds.specs.LowPumps as low_pump
use Rattle.two_worlds.specs.Rooms.{Serves, stops_at, DisksGo}
use Rattle.two_worlds.specs.declared.low_pump.LowPump.{LowPump}
use Rattle.script_replay.specs.declared.session.Session.{Session}
use Rattle.script_replay.specs.declared.session.Session.TheVariants as sessions
use Rattle.script_replay.specs.Sessions.{StandsFor, SessionApplies, GoesOnWith, FailedWith}

-- no session goes on by a line that makes it coarse
never_coarse : (running : Begun) (session : ℕ) (after : Option Begun) (printed : List Event) → GoesOn running (lines.Coarse session) after printed → ⊥
never_coarse (Whole s) session after printed h = cc h.0
never_coarse (Alone s) session after printed h = cc h.0

pub leads_from : (o : Openings) (running : Begun) (line : Line) (after : Option Begun) (printed : List Event) → line ≢ lines.Skip → GoesOn running line after printed → Leads o (Some running) line after printed
leads_from o running lines.Skip after printed some h = absurd (some refl)
leads_from o running (lines.Session row) after printed some h = h
leads_from o running (lines.LowSession row next held) after printed some h = h
leads_from o running (lines.Coarse session) after printed some h = absurd (never_coarse running session after printed h)
leads_from o running (lines.Look session moment word arrival) after printed some h = h
leads_from o running (lines.Told session moment word fault feedback arrival) after printed some h = h
leads_from o running (lines.Step session moment word) after printed some h = h
leads_from o running (lines.Gone session moment) after printed some h = h
leads_from o running (lines.High session moment) after printed some h = h
leads_from o running (lines.Carry session back) after printed some h = h
leads_from o running (lines.Return session moment back) after printed some h = h
leads_from o running (lines.Done session moment time) after printed some h = h
leads_from o running (lines.Restart session moment) after printed some h = h
leads_from o running (lines.ReceiverRestart session moment) after printed some h = h

refused_whole : (s : Running) (line : Line) → line ≢ lines.Skip → stands_first line ≡ false → IsRefusedWhole s.row s.past line → IsRefused (Some (Whole s)) line
refused_whole s lines.Skip some later h = absurd (some refl)
refused_whole s (lines.Session row) some later h = h
refused_whole s (lines.LowSession row next held) some later h = h
refused_whole s (lines.Coarse session) some later h = absurd (cc)
refused_whole s (lines.Look session moment word arrival) some later h = h
refused_whole s (lines.Told session moment word fault feedback arrival) some later h = h
refused_whole s (lines.Step session moment word) some later h = h
refused_whole s (lines.Gone session moment) some later h = h
refused_whole s (lines.High session moment) some later h = h
refused_whole s (lines.Carry session back) some later h = h
refused_whole s (lines.Return session moment back) some later h = h
refused_whole s (lines.Done session moment time) some later h = h
refused_whole s (lines.Restart session moment) some later h = h
refused_whole s (lines.ReceiverRestart session moment) some later h = h

refused_alone : (s : RunningAlone) (line : Line) → line ≢ lines.Skip → stands_first line ≡ false → IsRefusedAlone s.row s.past line → IsRefused (Some (Alone s)) line
refused_alone s lines.Skip some later h = absurd (some refl)
refused_alone s (lines.Session row) some later h = h
refused_alone s (lines.LowSession row next held) some later h = h
refused_alone s (lines.Coarse session) some later h = absurd (cc)
refused_alone s (lines.Look session moment word arrival) some later h = h
refused_alone s (lines.Told session moment word fault feedback arrival) some later h = h
refused_alone s (lines.Step session moment word) some later h = h
refused_alone s (lines.Gone session moment) some later h = h
refused_alone s (lines.High session moment) some later h = h
refused_alone s (lines.Carry session back) some later h = h
refused_alone s (lines.Return session moment back) some later h = h
refused_alone s (lines.Done session moment time) some later h = h
refused_alone s (lines.Restart session moment) some later h = h
refused_alone s (lines.ReceiverRestart session moment) some later h = h

-- ---- the counts of a disk ----

counts_on : {D : Type 0} (m : Meaning D) (size : ℕ) (old new : D) (is_fault : Bool) → Serves m size old new is_fault → m.count old ≤ m.count new
counts_on m size old new is_fault (inl same) = subst (λ d. m.count old ≤ m.count d) (sym same.0) (omega arith)
counts_on m size old new is_fault (inr answers) = answers.counts

rises_on : {D : Type 0} (m : Meaning D) (size : ℕ) (old new : D) (is_fault : Bool) → is_fault ≡ true → Serves m size old new is_fault → Rose (m.count old) (m.count new)
rises_on m size old new true e (inl same) = cc (sym same.1)
rises_on m size old new true e (inr answers) = answers.rose refl
rises_on m size old new false e h = cc

-- ---- a whole session ----

module _ {D : Type 0} {g : Ghosts D} (d : Meaning D) (tells : d.tells) (id : ℕ) (p t : Pump D g) (line : Line) (some : line ≢ lines.Skip) (later : stands_first line ≡ false) (printed : List Event) (s : Running) (id_is : id ≡ s.row.id)
    (row : pump.row_of p ≡ s.row) (same : pump.row_of t ≡ pump.row_of p) (before_stands : pump.StandsFor d p s.past) (before_up : pump.is_down p ≡ false) where
  timely_so : is_timely (pump.row_of p) s.past line ≡ true → is_timely s.row s.past line ≡ true
  timely_so h = subst (λ (r : SessionRow). is_timely r s.past line ≡ true) row h

  whole_does : (stop : Option Stop) → pump.is_down t ≡ low_pump.stops_at_disk stop → pump.Applies d p t line s.past printed stop
      → SessionApplies d (Whole s) line (sessions.Whole id t) printed stop
  whole_does None down h =
      let step : LineStep s.row s.past line h.1.0 printed = subst (λ (r : SessionRow). LineStep r s.past line h.1.0 printed) row h.1.1 in
      let after : Option Begun = Some (Whole (record { row = s.row; past = h.1.0 })) in
      (after, (timely_so h.0, (h.1.0, step, refl)), record { up = down; is_of = (id_is, same ∙ row, h.1.2) })
  whole_does (Some stops.Line) down h = (
    refused_whole s line some later (subst (λ (r : SessionRow). IsRefusedWhole r s.past line) row h.0),
    h.1,
    record {
      up = subst (λ q. pump.is_down q ≡ false) (sym h.2) before_up;
      is_of = (id_is, same ∙ row, subst (λ q. pump.StandsFor d q s.past) (sym h.2) before_stands);
    },
  )
  whole_does (Some (stops.Device role count)) down h =
      let breaks : Breaks s.row s.past line role h.1.0 printed = subst (λ (r : SessionRow). Breaks r s.past line role h.1.0 printed) row h.1.1 in
      (timely_so h.0, (h.1.0, breaks, id_is, (id_is, same ∙ row, inr (role, count, h.1.2))))
  whole_does (Some (stops.Disk role why)) down h = absurd h
  whole_does (Some (stops.Full end length size)) down h =
      let over : Overfills s.row s.past line h.1.0 printed end length size = subst (λ (r : SessionRow). Overfills r s.past line h.1.0 printed end length size) row h.1.1 in
      let after : Option Begun = Some (Whole (record { row = s.row; past = h.1.0 })) in
      (after, (timely_so h.0, (h.1.0, end, length, size, over, ap (λ (i : ℕ). faults.Full i end length size) id_is, refl)), (id_is, same ∙ row, inl h.1.2))

-- a line was given to the pump of a whole session
pub whole_applies : {D : Type 0} {g : Ghosts D} (d : Meaning D) → d.tells → (before : Session D g) (id : ℕ) (p t : Pump D g) (line : Line) (printed : List Event) (stop : Option Stop) → before ≡ sessions.Whole id p → line ≢ lines.Skip → stands_first line ≡ false
    → ((q : Past) → pump.StandsFor d p q → pump.Applies d p t line q printed stop)
    → pump.is_down t ≡ low_pump.stops_at_disk stop → pump.row_of t ≡ pump.row_of p → (running : Begun) → StandsFor d before running → SessionApplies d running line (sessions.Whole id t) printed stop
whole_applies {D} {g} d tells before id p t line printed stop is some later applies down same running h = whole_runs running (subst (λ (s : Session D g). StandsFor d s running) is h)
  where
    whole_runs : (running : Begun) → StandsFor d (sessions.Whole id p) running → SessionApplies d running line (sessions.Whole id t) printed stop
    whole_runs (Whole s) h = whole_does d tells id p t line some later printed s h.is_of.0 h.is_of.1 same h.is_of.2 h.up stop down (applies s.past h.is_of.2)
    whole_runs (Alone s) h = absurd h.is_of

-- no disk of it has failed less often
pub whole_with : {D : Type 0} {g : Ghosts D} (d : Meaning D) (before : Session D g) (id : ℕ) (p t : Pump D g) (stop : Option Stop) → before ≡ sessions.Whole id p
    → DisksGo d (pump.row_of p) (pump.disk_at roles.Low p) (pump.disk_at roles.High p) (pump.disk_at roles.Recv p) (pump.disk_at roles.Low t) (pump.disk_at roles.High t) (pump.disk_at roles.Recv t) stop
    → GoesOnWith d before (sessions.Whole id t)
whole_with {D} {g} d before id p t stop is goes = subst (λ (s : Session D g). GoesOnWith d s (sessions.Whole id t)) (sym is) (refl, counts)
  where
    counts : (role : Role) → d.count (pump.disk_at role p) ≤ d.count (pump.disk_at role t)
    counts roles.Low = counts_on d _ _ _ _ goes.low_goes
    counts roles.High = counts_on d _ _ _ _ goes.high_goes
    counts roles.Recv = counts_on d _ _ _ _ goes.recv_goes

pub whole_failed : {D : Type 0} {g : Ghosts D} (d : Meaning D) (before : Session D g) (id : ℕ) (p t : Pump D g) (stop : Option Stop) → before ≡ sessions.Whole id p
    → DisksGo d (pump.row_of p) (pump.disk_at roles.Low p) (pump.disk_at roles.High p) (pump.disk_at roles.Recv p) (pump.disk_at roles.Low t) (pump.disk_at roles.High t) (pump.disk_at roles.Recv t) stop
    → (role : Role) (count : ℕ) → stop ≡ Some (stops.Device role count) → FailedWith d before (sessions.Whole id t) role
whole_failed {D} {g} d before id p t stop is goes role count e = subst (λ (s : Session D g). FailedWith d s (sessions.Whole id t) role) (sym is) (rises role e)
  where
    rises : (role : Role) → stop ≡ Some (stops.Device role count) → Rose (d.count (pump.disk_at role p)) (d.count (pump.disk_at role t))
    rises roles.Low e = rises_on d _ _ _ _ (ap (stops_at roles.Low) e) goes.low_goes
    rises roles.High e = rises_on d _ _ _ _ (ap (stops_at roles.High) e) goes.high_goes
    rises roles.Recv e = rises_on d _ _ _ _ (ap (stops_at roles.Recv) e) goes.recv_goes

-- ---- a low side alone ----

module _ {D : Type 0} (g : Ghosts D) (d : Meaning D) (id : ℕ) (p t : LowPump) (line : Line) (some : line ≢ lines.Skip) (later : stands_first line ≡ false) (printed : List Event) (s : RunningAlone) (id_is : id ≡ s.row.id) (row : low_pump.low_row_of p ≡ s.row)
    (same : low_pump.low_row_of t ≡ low_pump.low_row_of p) (before_stands : low_pump.LowStandsFor p s.past) (before_up : low_pump.low_is_down p ≡ false) where
  abbrev now : Session D g
  now = sessions.Alone id t

  alone_does : (stop : Option Stop) → low_pump.low_is_down t ≡ low_pump.stops_at_disk stop → low_pump.AppliesAlone p t line s.past printed stop
      → SessionApplies d (Alone s) line now printed stop
  alone_does None down h =
      let timely : is_apt_alone s.row s.past line ≡ true = subst (λ (r : SessionRow). is_apt_alone r s.past line ≡ true) row h.0 in
      let step : StepAlone s.row s.past line false h.1.0 printed = subst (λ (r : SessionRow). StepAlone r s.past line false h.1.0 printed) row h.1.1 in
      let after : Option Begun = Some (Alone (record { row = s.row; past = h.1.0 })) in
      (after, (timely, (h.1.0, step, refl)), record { up = down; is_of = (id_is, same ∙ row, h.1.2) })
  alone_does (Some stops.Line) down h = (
    refused_alone s line some later (subst (λ (r : SessionRow). IsRefusedAlone r s.past line) row h.0),
    h.1,
    record {
      up = subst (λ q. low_pump.low_is_down q ≡ false) (sym h.2) before_up;
      is_of = (id_is, same ∙ row, subst (λ q. low_pump.LowStandsFor q s.past) (sym h.2) before_stands);
    },
  )
  alone_does (Some (stops.Device roles.Low count)) down h =
      let timely : is_apt_alone s.row s.past line ≡ true = subst (λ (r : SessionRow). is_apt_alone r s.past line ≡ true) row h.0 in
      let step : StepAlone s.row s.past line true h.1.0 printed = subst (λ (r : SessionRow). StepAlone r s.past line true h.1.0 printed) row h.1.1 in
      let after : Option Begun = Some (Alone (record { row = s.row; past = h.1.0 })) in
      (after, (timely, (h.1.0, step, ap (λ (i : ℕ). faults.Device i roles.Low) id_is, refl)), tt)
  alone_does (Some (stops.Device roles.High count)) down h = absurd h
  alone_does (Some (stops.Device roles.Recv count)) down h = absurd h
  alone_does (Some (stops.Disk role why)) down h = absurd h
  alone_does (Some (stops.Full end length size)) down h = absurd h

-- a line was given to the pump of a low side alone
pub alone_applies : {D : Type 0} {g : Ghosts D} (d : Meaning D) (before : Session D g) (id : ℕ) (p t : LowPump) (line : Line) (printed : List Event) (stop : Option Stop) → before ≡ sessions.Alone id p → line ≢ lines.Skip → stands_first line ≡ false
    → ((q : PastAlone) → low_pump.LowStandsFor p q → low_pump.AppliesAlone p t line q printed stop)
    → low_pump.low_is_down t ≡ low_pump.stops_at_disk stop → low_pump.low_row_of t ≡ low_pump.low_row_of p
    → (running : Begun) → StandsFor d before running → SessionApplies {g = g} d running line (sessions.Alone id t) printed stop
alone_applies {D} {g} d before id p t line printed stop is some later applies down same running h = alone_runs running (subst (λ (s : Session D g). StandsFor d s running) is h)
  where
    alone_runs : (running : Begun) → StandsFor {g = g} d (sessions.Alone id p) running → SessionApplies {g = g} d running line (sessions.Alone id t) printed stop
    alone_runs (Whole s) h = absurd h.is_of
    alone_runs (Alone s) h = alone_does g d id p t line some later printed s h.is_of.0 h.is_of.1 same h.is_of.2 h.up stop down (applies s.past h.is_of.2)

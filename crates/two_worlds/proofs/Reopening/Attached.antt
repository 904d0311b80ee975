-- The line `receiver-restart`: the receiver is opened again, and attaches.
use Rattle.std.proofs.Common.{◌≡◌, ◌⊎◌, inl, ⊎_elim, ℕ, true, ◌&&◌, ◌==◌, nat_le, List, [], Some, Result, Ok, Err, refl, sym, ap, ◌∙◌, subst}
use Rattle.std.specs.Result.{result_err}
use Rattle.std.proofs.Math.Logic.{∥∥₁_map}
use Rattle.disk_model.specs.Disk.{Meaning}
use Rattle.disk_model.specs.declared.name.Role.{Role}
use Rattle.stable_buffer.specs.High.{high_disk}
use Rattle.high_receiver.specs.Receiving.{recv_disk}
use Rattle.high_receiver.specs.declared.receiver.Receiver.{Receiver}
use Rattle.script_reader.specs.declared.event.Event.{Event}
use Rattle.script_reader.specs.declared.line.Line.TheVariants as lines
use Rattle.script_reader.specs.Past.{Past}
use Rattle.script_reader.specs.Breaks.{Breaks}
use Rattle.script_reader.specs.Restarts.{IsReopened}
use Rattle.script_reader.specs.Steps.{is_timely}
use Rattle.two_worlds.specs.declared.applied.Stop.{Stop}
use Rattle.two_worlds.specs.declared.applied.Stop.TheVariants.{Line, Device, Full, Disk}
use Rattle.two_worlds.specs.declared.pump.parts.Parts.{Parts}
use Rattle.two_worlds.specs.declared.pump.state.PumpState.{PumpState}
use Rattle.two_worlds.specs.declared.pump.state.PumpState.TheVariants.{Open, Shut}
use Rattle.two_worlds.specs.Doing.{LeavesFit, LeavesOn, DoesFrom, NeverOverfills}
use Rattle.two_worlds.specs.Private.HighLooks.{Attaches, BreaksAttaching}
use Rattle.two_worlds.specs.Private.Restarting.{is_due_in}
use Rattle.two_worlds.specs.Private.Reopening.{Reopens, Reattaches, ReopensFrom, ReopensOn}
use Rattle.two_worlds.specs.Private.GoingOn.{WorksOn}
use Rattle.two_worlds.specs.Private.StateSteps.{StateApplies, StateAppliesOn}
use Rattle.two_worlds.specs.Rooms.{DisksGo}
use Rattle.two_worlds.specs.Standing.{Stands, bare_of}
use Rattle.two_worlds.specs.States.{disks_in, IsOpenWith, StandsIn}
use Rattle.world_laws.specs.Disks.{RecvFits}
use Rattle.world_laws.specs.Timelines.{IsAtRest}
use Rattle.two_worlds.specs.Working.{IsAble}
use Rattle.two_worlds.proofs.Disks.Leaving.{leaves_weaker}
use Rattle.two_worlds.proofs.Disks.Together.{serve_then}

-- between two lines a crash of the receiver changes nothing
reopened : (p : Past) → IsAtRest p.world → IsReopened p p
reopened p rest = ((λ i. record p.world { packet = rest.packet i; taking = rest.taking i }), refl)

-- ---- the receiver is not opened ----

module _ {D : Type 0} (m : Meaning D) (c : Parts D) (t : PumpState D) (session moment : ℕ) (due : is_due_in (Open c) session moment ≡ true) where
  timely : (p : Past) → Stands m c p → is_timely c.row p (lines.ReceiverRestart session moment) ≡ true
  timely p s = subst (λ (from : ℕ). (session == c.row.id && nat_le from moment) ≡ true) s.moment due

  stopped_from : (stop : Stop) (p : Past) → Stands m c p → ReopensFrom m (bare_of c) t p (Err stop) → StateApplies m (Open c) t (lines.ReceiverRestart session moment) p [] (Some stop)
  stopped_from (Device role faults) p s (is, down, fails, fit) =
      (timely p s, (p, subst (λ (r : Role). Breaks c.row p (lines.ReceiverRestart session moment) r p []) (sym is) (refl, refl), (down, fails), fit))
  stopped_from Line p s from = absurd from
  stopped_from (Full end k size) p s from = absurd from
  stopped_from (Disk role why) p s from = absurd from

  stopped_on_parts : (stop : Stop) → ReopensOn m t (Err stop) → StateAppliesOn m (Open c) t (lines.ReceiverRestart session moment) [] (Some stop)
  stopped_on_parts (Device role faults) (is, down, count) = ((due, tt), down, count)
  stopped_on_parts Line on = absurd on
  stopped_on_parts (Full end k size) on = absurd on
  stopped_on_parts (Disk role why) (is, down, fine) = ((due, tt), refl, down, fine)

pub stopped : {D : Type 0} (m : Meaning D) (s t : PumpState D) (session moment : ℕ) → is_due_in s session moment ≡ true → (stop : Stop) → IsOpenWith (λ c. Reopens m c t (Err stop)) s
    → m.tells → (p : Past) → StandsIn m s p → StateApplies m s t (lines.ReceiverRestart session moment) p [] (Some stop)
stopped m (Open c) t session moment due stop r told p s = stopped_from m c t session moment due stop p s (r.from told p s)
stopped m (Shut d) t session moment due stop r told p s = absurd r

pub stopped_on : {D : Type 0} (m : Meaning D) (s t : PumpState D) (session moment : ℕ) → is_due_in s session moment ≡ true → (stop : Stop) → IsOpenWith (λ c. Reopens m c t (Err stop)) s
    → StateAppliesOn m s t (lines.ReceiverRestart session moment) [] (Some stop)
stopped_on m (Open c) t session moment due stop r = stopped_on_parts m c t session moment due stop r.on
stopped_on m (Shut d) t session moment due stop r = absurd r

-- ---- it is opened, and attaches ----

-- what can be given a line can be given one still
pub able_again : {D : Type 0} (m : Meaning D) (s mid : PumpState D) → IsOpenWith (IsAble m) s → IsOpenWith (λ c. Reopens m c mid (Ok tt)) s → IsOpenWith (IsAble m) mid
able_again m (Open c) (Open d) able r = record {
  works = r.on;
  stands = λ told. ∥∥₁_map (able.stands told) (λ s. (s.0, (r.from told s.0 s.1).0));
}
able_again m (Open c) (Shut d) able r = absurd r.on
able_again m (Shut c) mid able r = absurd able

module _ {D : Type 0} (m : Meaning D) (c : Parts D) (new : Receiver D) (e : Parts D) (session moment : ℕ) (due : is_due_in (Open c) session moment ≡ true) (printed : List Event) where
  abbrev d : Parts D
  d = record c { receiver = new }

  module _ (result : Result (Unit {0}) Stop) (a : Reattaches m d e moment printed result) where
    -- the first part called the receiver's disk alone, and the second left it alone
    fits : (p q : Past) → LeavesFit m (bare_of c) (bare_of d) p p → LeavesFit m (bare_of d) (bare_of e) p q → LeavesFit m (bare_of c) (bare_of e) p q
    fits p q first second = record {
      low = second.low;
      high = second.high;
      recv = leaves_weaker m (λ x. RecvFits c.row p.world x ⊎ RecvFits c.row p.world x) (λ x. RecvFits c.row p.world x ⊎ RecvFits c.row q.world x) (recv_disk c.receiver) (recv_disk e.receiver)
          (λ told x either. inl (⊎_elim (λ f. f) (λ f. f) either))
          (subst (λ (r : D). LeavesOn m (recv_disk c.receiver) r (λ x. RecvFits c.row p.world x ⊎ RecvFits c.row p.world x)) (sym a.recv) first.recv);
    }

  applied_from : (result : Result (Unit {0}) Stop) → Reattaches m d e moment printed result → (p : Past) → Stands m c p → LeavesFit m (bare_of c) (bare_of d) p p
      → DoesFrom (Attaches c.row moment) (BreaksAttaching c.row moment) NeverOverfills m d e [] printed p result
      → StateApplies m (Open c) (Open e) (lines.ReceiverRestart session moment) p printed (result_err result)
  applied_from (Ok done) a p s first (q, more, (rest, attach, prints), is, stand, second) =
      (timely m c (Open e) session moment due p s, (q, (p, reopened p s.sound.rest, (rest, attach, is ∙ prints)), stand, fits (Ok done) a p q first second))
  applied_from (Err Line) a p s first does = absurd does
  applied_from (Err (Device role faults)) a p s first (q, more, (high, unattached, prints), is, (down, fails), second) = (
    timely m c (Open e) session moment due p s,
    (
      q,
      subst (λ (r : Role). Breaks c.row p (lines.ReceiverRestart session moment) r q printed) (sym high) (p, reopened p s.sound.rest, unattached, is ∙ prints),
      (down, fails),
      fits (Err (Device role faults)) a p q first second,
    ),
  )
  applied_from (Err (Full end k size)) a p s first (q, more, over, is, stand, second) = absurd over
  applied_from (Err (Disk role why)) a p s first does = absurd does

  applied_on_from : (result : Result (Unit {0}) Stop) → WorksOn m e result → StateAppliesOn m (Open c) (Open e) (lines.ReceiverRestart session moment) printed (result_err result)
  applied_on_from (Ok done) works = ((due, tt), works)
  applied_on_from (Err Line) works = absurd works
  applied_on_from (Err (Device role faults)) (down, count) = ((due, tt), down, count)
  applied_on_from (Err (Full end k size)) works = ((due, tt), works)
  applied_on_from (Err (Disk role why)) works = absurd works

-- the receiver of the parts in s was opened again, which led to mid, and then it attached
abbrev pub Opens : {D : Type 0} → Meaning D → PumpState D → PumpState D → Type 0
Opens m s mid = IsOpenWith (λ c. Reopens m c mid (Ok tt)) s

abbrev pub Then : {D : Type 0} → Meaning D → PumpState D → PumpState D → ℕ → List Event → Result (Unit {0}) Stop → Type 0
Then m mid t moment printed result = IsOpenWith (λ d. IsOpenWith (λ e. Reattaches m d e moment printed result) t) mid

pub applied : {D : Type 0} (m : Meaning D) (s mid t : PumpState D) (session moment : ℕ) (printed : List Event) (result : Result (Unit {0}) Stop) → is_due_in s session moment ≡ true
    → Opens m s mid → Then m mid t moment printed result → m.tells → (p : Past) → StandsIn m s p → StateApplies m s t (lines.ReceiverRestart session moment) p printed (result_err result)
applied {D} m (Open c) (Open d) (Open e) session moment printed result due r a told p s =
    let is = r.rest in
    let at : Reattaches m (record c { receiver = d.receiver }) e moment printed result = subst (λ (x : Parts D). Reattaches m x e moment printed result) is a in
    let from : Stands m (record c { receiver = d.receiver }) p × LeavesFit m (bare_of c) (bare_of (record c { receiver = d.receiver })) p p =
    subst (λ (x : Parts D). Stands m x p × LeavesFit m (bare_of c) (bare_of x) p p) is (r.from told p s) in
    applied_from m c d.receiver e session moment due printed result at p s from.1 (at.step.does p from.0)
applied m (Open c) (Open d) (Shut e) session moment printed result due r a told p s = absurd a
applied m (Open c) (Shut d) t session moment printed result due r a told p s = absurd a
applied m (Shut c) mid t session moment printed result due r a told p s = absurd s

pub applied_on : {D : Type 0} (m : Meaning D) (s mid t : PumpState D) (session moment : ℕ) (printed : List Event) (result : Result (Unit {0}) Stop) → is_due_in s session moment ≡ true
    → Opens m s mid → Then m mid t moment printed result → StateAppliesOn m s t (lines.ReceiverRestart session moment) printed (result_err result)
applied_on m (Open c) (Open d) (Open e) session moment printed result due r a = applied_on_from m c d.receiver e session moment due printed result a.step.works
applied_on m (Open c) (Open d) (Shut e) session moment printed result due r a = absurd a
applied_on m (Open c) (Shut d) t session moment printed result due r a = absurd a
applied_on m (Shut c) mid t session moment printed result due r a = absurd r

pub disks_go : {D : Type 0} (m : Meaning D) (s mid t : PumpState D) (moment : ℕ) (printed : List Event) (result : Result (Unit {0}) Stop) → Opens m s mid → Then m mid t moment printed result
    → DisksGo m (disks_in s).row (disks_in s).low (disks_in s).high (disks_in s).recv (disks_in t).low (disks_in t).high (disks_in t).recv (result_err result)
disks_go {D} m (Open c) (Open d) (Open e) moment printed result r a =
    serve_then m c d e result r.serve.1 (ap (λ (x : Parts D). high_disk x.high_store) r.rest) r.serve.0 a.step.serve
disks_go m (Open c) (Open d) (Shut e) moment printed result r a = absurd a
disks_go m (Open c) (Shut d) t moment printed result r a = absurd a
disks_go m (Shut c) mid t moment printed result r a = absurd r

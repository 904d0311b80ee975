-- From what a part of a line does to what the line does.
use Rattle.std.proofs.Common.{◌≡◌, ℕ, true, false, List, [], Result, Ok, Err, None, Some, refl, sym, ap, subst}
use Rattle.disk_model.specs.Disk.{Meaning}
use Rattle.disk_model.specs.declared.name.Role.{Role}
use Rattle.disk_model.specs.declared.name.Role.TheVariants as roles
use Rattle.pump_core.specs.History.{Gone}
use Rattle.script_reader.specs.declared.event.Event.{Event}
use Rattle.script_reader.specs.declared.line.Arriving.{Arriving}
use Rattle.script_reader.specs.declared.line.Line.{Line as ScriptLine}
use Rattle.script_reader.specs.declared.line.Line.TheVariants as lines
use Rattle.script_reader.specs.Past.{Past}
use Rattle.script_reader.specs.Highs.{IsHighLook, IsCarried, IsReturn, IsOverfull, place}
use Rattle.script_reader.specs.Steps.{joined, lost, IsOfferedLook, IsLowLook, LineStep, Overfills}
use Rattle.script_reader.specs.Breaks.{IsLost, IsUntaken, IsUnremoved, Breaks}
use Rattle.two_worlds.specs.declared.applied.Stop.{Stop}
use Rattle.two_worlds.specs.declared.applied.Stop.TheVariants.{Line, Device, Full, Disk}
use Rattle.two_worlds.specs.Connections.{Connected, unused, Joins}
use Rattle.two_worlds.specs.declared.pump.parts.Parts.{Parts}
use Rattle.two_worlds.specs.Doing.{DoesFrom, Does, PartsLeaveFit, NeverBreaks, NeverOverfills}
use Rattle.two_worlds.specs.Private.LineSteps.{RunsFrom, Runs}
use Rattle.two_worlds.proofs.Arriving.Connected.{stands_joined, stands_lost, arrives_at, few_at, many_at}

-- what it does from p' is what the line does from p
pub runs_from : {D : Type 0} (m : Meaning D) (c c' d : Parts D) (line : ScriptLine) (out now : List Event)
    (Leads : Past → Past → List Event → Type 0) (Cuts : Role → Past → Past → List Event → Type 0) (Over : Past → Past → List Event → ℕ → ℕ → ℕ → Type 0) (p from : Past) (result : Result (Unit {0}) Stop)
    → ((q : Past) (printed : List Event) → Leads from q printed → LineStep c.row p line q printed)
    → ((role : Role) (q : Past) (printed : List Event) → Cuts role from q printed → Breaks c.row p line role q printed)
    → ((q : Past) (printed : List Event) (end k size : ℕ) → Over from q printed end k size → Overfills c.row p line q printed end k size)
    → ((q : Past) → PartsLeaveFit m c' d from q → PartsLeaveFit m c d p q)
    → DoesFrom Leads Cuts Over m c' d out now from result → RunsFrom m c d line out now p result
runs_from m c c' d line out now Leads Cuts Over p from (Ok done) f g h k r = (r.0, r.1, f r.0 r.1 r.2, r.3, r.4, k r.0 r.5)
runs_from m c c' d line out now Leads Cuts Over p from (Err Line) f g h k r = absurd r
runs_from m c c' d line out now Leads Cuts Over p from (Err (Device role faults)) f g h k r = (r.0, r.1, g role r.0 r.1 r.2, r.3, r.4, k r.0 r.5)
runs_from m c c' d line out now Leads Cuts Over p from (Err (Full end n size)) f g h k r = (r.0, r.1, h r.0 r.1 end n size r.2, r.3, r.4, k r.0 r.5)
runs_from m c c' d line out now Leads Cuts Over p from (Err (Disk role why)) f g h k r = absurd r

-- ---- looks of the low side ----

module _ {D : Type 0} (m : Meaning D) (c d : Parts D) (k : Connected) (out now : List Event) (result : Result (Unit {0}) Stop) where
  pub look_runs : (moment word : ℕ) (a : Arriving) → Joins c.connection k c.row.id a true
      → Does (λ p q printed. IsOfferedLook c.row p moment word q printed)
      (λ role p q printed. (role ≡ roles.Low) × IsLost c.row p moment word q printed)
      NeverOverfills m (record c { connection = k }) d out now result
      → Runs m c d (lines.Look c.row.id moment word a) out now result
  look_runs moment word a (coming, arrives, (few, is)) does p s =
      let came = arrives_at m c p c.row.id a coming s arrives in
      let fits = few_at m c p coming s few in
      runs_from m c (record c { connection = k }) d (lines.Look c.row.id moment word a) out now
      (λ p q printed. IsOfferedLook c.row p moment word q printed)
      (λ role p q printed. (role ≡ roles.Low) × IsLost c.row p moment word q printed)
      NeverOverfills p (joined p coming) result
      (λ q printed look. (coming, came, (fits, look)))
      (λ role q printed x. subst (λ (r : Role). Breaks c.row p (lines.Look c.row.id moment word a) r q printed) (sym x.0) (coming, came, fits, x.1))
      (λ q printed end n size none. absurd none) (λ q f. record { low = f.low; high = f.high; recv = f.recv })
      (does (joined p coming) (stands_joined m c k p coming few is s))

  pub gone_runs : (moment : ℕ) → k ≡ unused
      → Does (λ p q printed. IsLowLook c.row p moment 0 Gone q printed) NeverBreaks NeverOverfills m (record c { connection = k }) d out now result
      → Runs m c d (lines.Gone c.row.id moment) out now result
  gone_runs moment is does p s =
      runs_from m c (record c { connection = k }) d (lines.Gone c.row.id moment) out now (λ p q printed. IsLowLook c.row p moment 0 Gone q printed) NeverBreaks NeverOverfills p (lost p) result
      (λ q printed look. look) (λ role q printed none. absurd none) (λ q printed end n size none. absurd none) (λ q f. record { low = f.low; high = f.high; recv = f.recv })
      (does (lost p) (stands_lost m c k is p s))

-- more than 64 arrivals would wait
pub look_crowds : {D : Type 0} (m : Meaning D) (c : Parts D) (k : Connected) (out : List Event) (moment word : ℕ) (a : Arriving) → Joins c.connection k c.row.id a false
    → Runs m c (record c { connection = k }) (lines.Look c.row.id moment word a) out out (Err Line)
look_crowds {D} m c k out moment word a (coming, arrives, (many, is)) p s =
    let same : record c { connection = k } ≡ c = ap (λ (x : Connected). record c { connection = x }) is in
    (same, refl, (coming, arrives_at m c p c.row.id a coming s arrives, many_at m c p coming s many))

-- ---- the high side ----

module _ {D : Type 0} (m : Meaning D) (c d : Parts D) (out now : List Event) (result : Result (Unit {0}) Stop) (line : ScriptLine) (session : ℕ) where
  pub high_runs : (moment : ℕ) → line ≡ lines.High session moment
      → Does (λ p q printed. IsHighLook c.row p moment None q printed) NeverBreaks NeverOverfills m c d out now result
      → Runs m c d line out now result
  high_runs moment is does p s =
      subst (λ (l : ScriptLine). RunsFrom m c d l out now p result) (sym is)
      (runs_from m c c d (lines.High session moment) out now (λ p q printed. IsHighLook c.row p moment None q printed) NeverBreaks NeverOverfills p p result
      (λ q printed look. look) (λ role q printed none. absurd none) (λ q printed end n size none. absurd none) (λ q f. f) (does p s))

  pub carry_runs : (back : ℕ) → line ≡ lines.Carry session back
      → Does (λ p q printed. IsCarried c.row p back q printed)
      (λ role p q printed. (role ≡ roles.Recv) × IsUntaken p back q × (printed ≡ []))
      (λ p q printed end k size. (q ≡ p) × IsOverfull p.world back end k size × (printed ≡ [])) m c d out now result
      → Runs m c d line out now result
  carry_runs back is does p s =
      subst (λ (l : ScriptLine). RunsFrom m c d l out now p result) (sym is)
      (runs_from m c c d (lines.Carry session back) out now (λ p q printed. IsCarried c.row p back q printed)
      (λ role p q printed. (role ≡ roles.Recv) × IsUntaken p back q × (printed ≡ []))
      (λ p q printed end k size. (q ≡ p) × IsOverfull p.world back end k size × (printed ≡ [])) p p result
      (λ q printed carried. carried)
      (λ role q printed x. subst (λ (r : Role). Breaks c.row p (lines.Carry session back) r q printed) (sym x.0) (x.1, x.2))
      (λ q printed end k size x. (x.1, x.0, x.2)) (λ q f. f)
      (does p s))

  pub return_runs : (moment back : ℕ) → line ≡ lines.Return session moment back
      → Does (λ p q printed. IsReturn c.row p moment (place p.world.returned back) q printed)
      (λ role p q printed. (role ≡ roles.High) × IsUnremoved p moment (Some (place p.world.returned back)) q × (printed ≡ []))
      NeverOverfills m c d out now result
      → Runs m c d line out now result
  return_runs moment back is does p s =
      subst (λ (l : ScriptLine). RunsFrom m c d l out now p result) (sym is)
      (runs_from m c c d (lines.Return session moment back) out now (λ p q printed. IsReturn c.row p moment (place p.world.returned back) q printed)
      (λ role p q printed. (role ≡ roles.High) × IsUnremoved p moment (Some (place p.world.returned back)) q × (printed ≡ []))
      NeverOverfills p p result
      (λ q printed returned. returned)
      (λ role q printed x. subst (λ (r : Role). Breaks c.row p (lines.Return session moment back) r q printed) (sym x.0) (x.1, x.2))
      (λ q printed end k size none. absurd none) (λ q f. f)
      (does p s))

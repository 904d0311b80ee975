-- Lines one after another.
use Rattle.std.proofs.Common.{◌≡◌, inl, inr, ℕ, ◌≤◌, Bool, true, List, [], ◌∷◌, ◌++◌, Option, Some, None, Result, Ok, Err, refl, sym, ap, ◌∙◌, subst, arith, append_assoc}
use Rattle.std.specs.Prelude.{IfErr}
use Rattle.disk_model.specs.Disk.{Meaning}
use Rattle.disk_model.specs.declared.name.Role.{Role}
use Rattle.disk_model.specs.declared.name.Role.TheVariants as roles
use Rattle.pump_frame.specs.Counts.{Rose}
use Rattle.pump_frame.specs.declared.payload.Payload.{Payload}
use Rattle.pump_frame.specs.declared.row.SessionRow.{SessionRow}
use Rattle.script_reader.specs.declared.event.Event.{Event}
use Rattle.script_reader.specs.declared.line.Line.{Line}
use Rattle.script_reader.specs.Past.{Past}
use Rattle.two_worlds.specs.declared.applied.Stop.{Stop}
use Rattle.two_worlds.specs.declared.applied.Stop.TheVariants as stops
use Rattle.two_worlds.specs.declared.pump.Pump.{Pump}
use Rattle.two_worlds.specs.Pumps.{StandsFor, Applies, AppliesOn, disk_at, row_of}
use Rattle.two_worlds.specs.Rooms.{Serves, DisksGo}
use Rattle.two_worlds.proofs.Disks.Leaving.{leaves_alone}
use Rattle.pump_wrapper.specs.Comparing.{Begins}
use Rattle.pump_wrapper.specs.Crashes.{HasPrefix, KeepsPrefix}
use Rattle.pump_wrapper.specs.Sending.{LedBy, StopsBy, Follows, StopsWithin, EndsWithin, RoseBy, Goes}
use Rattle.pump_wrapper.proofs.Prefixes.{begins_then, kept_begins}
use Rattle.pump_wrapper.proofs.Growing.{led_grows, breaks_grow, overfills_grow}
use Rattle.pump_wrapper.proofs.Halting.{state_lawful}
use Rattle.pump_wrapper.proofs.Joining.{fit_keeps, keeps_then}

-- ---- what they lead to ----

pub led_then : (row : SessionRow) (p mid q : Past) (xs ys : List Line) → LedBy row p xs mid → LedBy row mid ys q → LedBy row p (xs ++ ys) q
led_then row p mid q [] ys e h = subst (λ (x : Past). LedBy row x ys q) e h
led_then row p mid q (x ∷ xs) ys (next, printed, step, later) h = (next, printed, step, led_then row next mid q xs ys later h)

-- ---- counts ----

pub rose_later : (a b c : ℕ) → a ≤ b → Rose b c → Rose a c
rose_later a b c le rose = omega (arith, le, rose)

pub served_later : {D : Type 0} (m : Meaning D) (least : ℕ) (old new : D) (b : Bool) → Serves m least old new b → m.count old ≤ m.count new
served_later m least old new b (inl (same, none)) = omega (arith, ap m.count same)
served_later m least old new b (inr a) = a.counts

pub served_rose : {D : Type 0} (m : Meaning D) (least : ℕ) (old new : D) → Serves m least old new true → Rose (m.count old) (m.count new)
served_rose m least old new (inl (same, none)) = absurd (cc)
served_rose m least old new (inr a) = a.rose refl

-- ---- lines ----

module _ {D : Type 0} {g : _} (m : Meaning D) where
  pub follows_then : (t : Pump D g) (row : SessionRow) (p mid : Past) (xs ys : List Line) (r : Result (Unit {0}) Stop) → LedBy row p xs mid → Follows m t row mid ys r → Follows m t row p (xs ++ ys) r
  follows_then t row p mid xs ys (Ok done) h (q, led, stands) = (q, led_then row p mid q xs ys h led, stands)
  follows_then t row p mid xs ys (Err stop) h (before, line, later, at, is, led, stopped) =
      (xs ++ before, line, later, at, ap (λ (l : List Line). xs ++ l) is ∙ sym (append_assoc xs before (line ∷ later)), led_then row p mid at xs before h led, stopped)

  pub follows_stop : (t : Pump D g) (row : SessionRow) (p : Past) (xs ys : List Line) (stop : Stop) → Follows m t row p xs (Err stop) → Follows m t row p (xs ++ ys) (Err stop)
  follows_stop t row p xs ys stop (before, line, later, at, is, led, stopped) =
      (before, line, later ++ ys, at, ap (λ (l : List Line). l ++ ys) is ∙ append_assoc before (line ∷ later) ys, led, stopped)

  pub rose_before : (s u t : Pump D g) (stop : Stop) → ((role : Role) → m.count (disk_at role s) ≤ m.count (disk_at role u)) → RoseBy m u t stop → RoseBy m s t stop
  rose_before s u t stops.Line le h = tt
  rose_before s u t (stops.Device role faults) le h = (h.0, rose_later _ _ _ (le role) h.1)
  rose_before s u t (stops.Full end length size) le h = tt
  rose_before s u t (stops.Disk role why) le h = tt

  -- ---- what is accepted on the way ----

  stops_from : (t : Pump D g) (row : SessionRow) (p : Past) (line : Line) (all : List Payload) (stop : Stop) → StopsBy m t row p line stop → StopsWithin m t row p line all stop → Begins p.world.accepted all
  stops_from t row p line all stops.Line (refused, stands) within = within refused stands
  stops_from t row p line all (stops.Device role faults) (q, printed, breaks, fails) within =
      begins_then p.world.accepted q.world.accepted all (breaks_grow row p line role q printed breaks)
      (begins_then q.world.accepted _ all (kept_begins true q.world.storing q.world.accepted) (within q printed breaks fails))
  stops_from t row p line all (stops.Full end length size) (q, printed, over, stands) within =
      begins_then p.world.accepted q.world.accepted all (overfills_grow row p line q printed end length size over) (within q printed over stands)
  stops_from t row p line all (stops.Disk role why) stopped within = absurd stopped

  within_from : (t : Pump D g) (row : SessionRow) (p : Past) (ys : List Line) (all : List Payload) (r : Result (Unit {0}) Stop) → Follows m t row p ys r → EndsWithin m t row p ys all r → Begins p.world.accepted all
  within_from t row p ys all (Ok done) (q, led, stands) within = begins_then p.world.accepted q.world.accepted all (led_grows row p ys q led) (within q led stands)
  within_from t row p ys all (Err stop) (before, line, later, mid, is, led, stopped) within =
      begins_then p.world.accepted mid.world.accepted all (led_grows row p before mid led) (stops_from t row mid line all stop stopped (within before line later mid is led))

  within_rest : (t : Pump D g) (row : SessionRow) (p q : Past) (xs ys : List Line) (all : List Payload) (r : Result (Unit {0}) Stop) → LedBy row p xs q → EndsWithin m t row p (xs ++ ys) all r → EndsWithin m t row q ys all r
  within_rest t row p q xs ys all (Ok done) led within = λ z more stands. within z (led_then row p q z xs ys led more) stands
  within_rest t row p q xs ys all (Err stop) led within = λ before line later mid is more.
      within (xs ++ before) line later mid (ap (λ (l : List Line). xs ++ l) is ∙ sym (append_assoc xs before (line ∷ later))) (led_then row p q mid xs before led more)

  rose_by : (s u t : Pump D g) (r : Result (Unit {0}) Stop) → ((role : Role) → m.count (disk_at role s) ≤ m.count (disk_at role u)) → IfErr r (RoseBy m u t) → IfErr r (RoseBy m s t)
  rose_by s u t (Ok done) le h = tt
  rose_by s u t (Err stop) le h = rose_before s u t stop le h

  -- lines, and then others
  pub goes_then : (s u t : Pump D g) (xs ys : List Line) (r : Result (Unit {0}) Stop) → Goes m s u xs (Ok tt) → Goes m u t ys r → Goes m s t (xs ++ ys) r
  goes_then s u t xs ys r a b = record {
    follows = λ told p stands.
        let f = a.follows told p stands in
        follows_then t (row_of s) p f.0 xs ys r f.1 (subst (λ (row : SessionRow). Follows m t row f.0 ys r) a.row (b.follows told f.0 f.2));
    row = b.row ∙ a.row;
    later = λ role. (let one = a.later role in let other = b.later role in omega (arith, one, other));
    rose = rose_by s u t r a.later b.rose;
    keeps = λ told p stands all within.
        let row = row_of s in
        let follows : (q : Past) → StandsFor m u q → Follows m t row q ys r = λ q at. subst (λ (x : SessionRow). Follows m t x q ys r) a.row (b.follows told q at) in
        let f = a.follows told p stands in
        let first : EndsWithin m u row p xs all (Ok tt) = λ q led at. within_from t row q ys all r (follows q at) (within_rest t row p q xs ys all r led within) in
        let rest : EndsWithin m t row f.0 ys all r = within_rest t row p f.0 xs ys all r f.1 within in
        keeps_then m row all (disk_at roles.Recv s) (disk_at roles.Recv u) (disk_at roles.Recv t) (a.keeps told p stands all first)
        (subst (λ (x : SessionRow). KeepsPrefix m x all (disk_at roles.Recv u) (disk_at roles.Recv t)) a.row
        (b.keeps told f.0 f.2 all (subst (λ (x : SessionRow). EndsWithin m t x f.0 ys all r) (sym a.row) rest)));
  }

  -- one of them stopped
  pub goes_stop : (s t : Pump D g) (xs ys : List Line) (stop : Stop) → Goes m s t xs (Err stop) → Goes m s t (xs ++ ys) (Err stop)
  goes_stop s t xs ys stop a = record {
    follows = λ told p stands. follows_stop t (row_of s) p xs ys stop (a.follows told p stands);
    row = a.row;
    later = a.later;
    rose = a.rose;
    keeps = λ told p stands all within. a.keeps told p stands all
        (λ before line later mid is led. within before line (later ++ ys) mid (ap (λ (l : List Line). l ++ ys) is ∙ append_assoc before (line ∷ later) ys) led);
  }

  -- ---- one line ----

  abbrev Moved : Pump D g → Pump D g → Option Stop → Type 0
  Moved s t stop = DisksGo m (row_of s) (disk_at roles.Low s) (disk_at roles.High s) (disk_at roles.Recv s) (disk_at roles.Low t) (disk_at roles.High t) (disk_at roles.Recv t) stop

  moved_later : (s t : Pump D g) (stop : Option Stop) → Moved s t stop → (role : Role) → m.count (disk_at role s) ≤ m.count (disk_at role t)
  moved_later s t stop go roles.Low = served_later m _ _ _ _ go.low_goes
  moved_later s t stop go roles.High = served_later m _ _ _ _ go.high_goes
  moved_later s t stop go roles.Recv = served_later m _ _ _ _ go.recv_goes

  moved_rose : (s t : Pump D g) (role : Role) (faults : ℕ) → Moved s t (Some (stops.Device role faults)) → Rose (m.count (disk_at role s)) (m.count (disk_at role t))
  moved_rose s t roles.Low faults go = served_rose m _ _ _ go.low_goes
  moved_rose s t roles.High faults go = served_rose m _ _ _ go.high_goes
  moved_rose s t roles.Recv faults go = served_rose m _ _ _ go.recv_goes

  pub goes_one : (s t : Pump D g) (line : Line) (printed : List Event) → (m.tells → (p : Past) → StandsFor m s p → Applies m s t line p printed None) → row_of t ≡ row_of s → Moved s t None
      → Goes m s t (line ∷ []) (Ok tt)
  goes_one s t line printed applies row go = record {
    follows = λ told p stands. (let a = applies told p stands in (a.1.0, (a.1.0, printed, a.1.1, refl), a.1.2));
    row = row;
    later = moved_later s t None go;
    rose = tt;
    keeps = λ told p stands all within.
        let (timely, (q, step, at, fit, timed)) = applies told p stands in
        let led : LedBy (row_of s) p (line ∷ []) q = (q, printed, step, refl) in
        let to = within q led at in
        fit_keeps m s t p q all (state_lawful m s.state p stands) (state_lawful m t.state q at) (begins_then p.world.accepted q.world.accepted all (led_grows (row_of s) p (line ∷ []) q led) to) to fit;
  }

  stopped_by : (s t : Pump D g) (line : Line) (printed : List Event) (stop : Stop) (p : Past) → StandsFor m s p → Applies m s t line p printed (Some stop) → StopsBy m t (row_of s) p line stop
  stopped_by s t line printed stops.Line p stands a = (a.0, subst (λ (x : Pump D g). StandsFor m x p) (sym a.2) stands)
  stopped_by s t line printed (stops.Device role faults) p stands a = (a.1.0, printed, a.1.1, a.1.2)
  stopped_by s t line printed (stops.Full end length size) p stands a = (a.1.0, printed, a.1.1, a.1.2)
  stopped_by s t line printed (stops.Disk role why) p stands a = absurd a

  stopped_keeps : (s t : Pump D g) (line : Line) (printed : List Event) (stop : Stop) (p : Past) → StandsFor m s p → Applies m s t line p printed (Some stop) → (all : List Payload) → StopsWithin m t (row_of s) p line all stop
      → KeepsPrefix m (row_of s) all (disk_at roles.Recv s) (disk_at roles.Recv t)
  stopped_keeps s t line printed stops.Line p stands (refused, none, e) all within = leaves_alone m (HasPrefix (row_of s) all) (disk_at roles.Recv s) (disk_at roles.Recv t) (ap (λ (x : Pump D g). disk_at roles.Recv x) e)
  stopped_keeps s t line printed (stops.Device role faults) p stands (timely, (q, breaks, fails, fit)) all within =
      let to = begins_then q.world.accepted _ all (kept_begins true q.world.storing q.world.accepted) (within q printed breaks fails) in
      fit_keeps m s t p q all (state_lawful m s.state p stands) fails.1.lawful (begins_then p.world.accepted q.world.accepted all (breaks_grow (row_of s) p line role q printed breaks) to) to fit
  stopped_keeps s t line printed (stops.Full end length size) p stands (timely, (q, over, at, fit)) all within =
      let to = within q printed over at in
      fit_keeps m s t p q all (state_lawful m s.state p stands) (state_lawful m t.state q at) (begins_then p.world.accepted q.world.accepted all (overfills_grow (row_of s) p line q printed end length size over) to) to fit
  stopped_keeps s t line printed (stops.Disk role why) p stands a all within = absurd a

  rose_at : (s t : Pump D g) (line : Line) (printed : List Event) (stop : Stop) → AppliesOn m s t line printed (Some stop) → Moved s t (Some stop) → RoseBy m s t stop
  rose_at s t line printed stops.Line on go = tt
  rose_at s t line printed (stops.Device role faults) on go = (on.2, moved_rose s t role faults go)
  rose_at s t line printed (stops.Full end length size) on go = tt
  rose_at s t line printed (stops.Disk role why) on go = tt

  pub stops_one : (s t : Pump D g) (line : Line) (printed : List Event) (stop : Stop) → (m.tells → (p : Past) → StandsFor m s p → Applies m s t line p printed (Some stop)) → AppliesOn m s t line printed (Some stop)
      → row_of t ≡ row_of s → Moved s t (Some stop) → Goes m s t (line ∷ []) (Err stop)
  stops_one s t line printed stop applies on row go = record {
    follows = λ told p stands. ([], line, [], p, refl, refl, stopped_by s t line printed stop p stands (applies told p stands));
    row = row;
    later = moved_later s t (Some stop) go;
    rose = rose_at s t line printed stop on go;
    keeps = λ told p stands all within. stopped_keeps s t line printed stop p stands (applies told p stands) all (within [] line [] p refl refl);
  }

-- A pump that is emptied turn by turn.
use Rattle.std.proofs.Common.{◌≡◌, ℕ, suc, ◌+◌, ◌-◌, ◌*◌, ◌^◌, ◌<◌, ◌≤◌, List, [], ◌++◌, length, Result, Ok, Err, refl, sym, ap, ◌∙◌, subst, arith}
use Rattle.disk_model.specs.Disk.{Meaning}
use Rattle.pump_frame.specs.Rows.{IsLawfulRow}
use Rattle.disk_model.specs.declared.name.Role.TheVariants as roles
use Rattle.pump_frame.specs.declared.payload.Payload.{Payload}
use Rattle.pump_frame.specs.declared.row.SessionRow.{SessionRow}
use Rattle.script_reader.specs.declared.line.Line.{Line}
use Rattle.script_reader.specs.Openings.{Found, CanOpen, accepted_in, opened_world, first_past}
use Rattle.script_reader.specs.Past.{Past}
use Rattle.script_reader.proofs.LineSteps.{opened_stands, stands_later, since_opening}
use Rattle.script_reader.proofs.LookSteps.{Stands}
use Rattle.two_worlds.specs.declared.applied.Stop.{Stop}
use Rattle.two_worlds.specs.declared.pump.Pump.{Pump}
use Rattle.two_worlds.specs.Pumps.{StandsFor, disk_at, row_of}
use Rattle.pump_wrapper.specs.Comparing.{Begins}
use Rattle.pump_wrapper.specs.Crashes.{KeepsPrefix}
use Rattle.pump_wrapper.specs.Sending.{turn_lines, drain_lines, LedBy, Follows, EndsWithin, Goes}
use Rattle.pump_wrapper.specs.Halting.{Halts}
use Rattle.pump_wrapper.specs.Wraps.{Drains}
use Rattle.pump_wrapper.proofs.Prefixes.{begins_same}
use Rattle.pump_wrapper.proofs.Going.{led_then}
use Rattle.pump_wrapper.proofs.Applying.{LinesApply, lines_lead, Emptying, turn_empties, drain_more}
use Rattle.pump_wrapper.proofs.Halting.{turn_halts, halts, ends_within}

-- so many turns were made since the opening
pub record Turned {D : Type 0} {g : _} (m : Meaning D) (t : Pump D g) (row : SessionRow) (f : Found) (n : ℕ) : Type 0 where
  pub past : Past
  pub led : LedBy row (first_past row f) (drain_lines row n 0) past
  pub stands : StandsFor m t past
  pub empties : Emptying row (length (accepted_in f)) (f.removed + n) (2 * n) (accepted_in f) past
  pub few : f.removed + n ≤ length (accepted_in f)

module _ {D : Type 0} {g : _} (m : Meaning D) (row : SessionRow) (f : Found) where
  pub turned_none : (t : Pump D g) → IsLawfulRow row → CanOpen row f → StandsFor m t (first_past row f) → Turned m t row f 0
  turned_none t lawful can stands =
      let k = length (accepted_in f) in
      let low = (opened_world row f).low_hand in
      let first = opened_stands row f lawful can in
      let e : f.removed ≡ f.removed + 0 = omega arith in
      record {
        past = first_past row f;
        led = refl;
        stands = stands;
        empties = (low, subst (λ (r : ℕ). Stands row (first_past row f) [] low k r 0 (since_opening low k)) e first, refl);
        few = (let bounded = first.rests.calm.stays.lawful.bounded.within.below in omega (arith, bounded));
      }

  turn_on : (u : Pump D g) (n : ℕ) → (t : Turned m u row f n) → f.removed + n < length (accepted_in f) → n ≤ 2 ^ 32
      → LinesApply row t.past (turn_lines row (2 * n)) (Emptying row (length (accepted_in f)) (f.removed + n + 1) (2 * n + 1) (accepted_in f))
  turn_on u n t some small = turn_empties row t.past (length (accepted_in f)) (f.removed + n) (2 * n) (2 * n) (accepted_in f) t.empties (omega arith) some (omega (arith, small))

  pub turned_more : (u t : Pump D g) (n : ℕ) → Turned m u row f n → f.removed + n < length (accepted_in f) → n ≤ 2 ^ 32 → row_of u ≡ row → m.tells
      → Goes m u t (turn_lines (row_of u) (2 * n)) (Ok tt) → Turned m t row f (n + 1)
  turned_more u t n turned some small same told goes =
      let k = length (accepted_in f) in
      let (q, led, stands) = subst (λ (r : SessionRow). Follows m t r turned.past (turn_lines r (2 * n)) (Ok tt)) same (goes.follows told turned.past turned.stands) in
      let (low, at, is) = lines_lead row turned.past q (turn_lines row (2 * n)) _ (turn_on u n turned some small) led in
      let e : f.removed + n + 1 ≡ f.removed + (n + 1) = omega arith in
      let later = stands_later row q [] low k (f.removed + n + 1) (2 * n + 1) (2 * (n + 1)) (since_opening low k) (omega arith) at in
      let moment : 2 * n ≡ 0 + 2 * n = omega arith in
      let one : suc n ≡ n + 1 = omega arith in
      let lines : drain_lines row n 0 ++ turn_lines row (2 * n) ≡ drain_lines row (n + 1) 0 =
      ap (λ (k : ℕ). drain_lines row n 0 ++ turn_lines row k) moment ∙ sym (drain_more row n 0) ∙ ap (λ (k : ℕ). drain_lines row k 0) one in
      record {
        past = q;
        led = subst (λ (l : List Line). LedBy row (first_past row f) l q) lines (led_then row (first_past row f) turned.past q (drain_lines row n 0) (turn_lines row (2 * n)) turned.led led);
        stands = stands;
        empties = subst (λ (r : ℕ). Emptying row k r (2 * (n + 1)) (accepted_in f) q) e (low, later, is);
        few = omega (arith, some);
      }

  pub turns_go : (u t : Pump D g) (n : ℕ) (stop : Stop) → Turned m u row f n → f.removed + n < length (accepted_in f) → n ≤ 2 ^ 32 → row_of u ≡ row → m.tells
      → Goes m u t (turn_lines (row_of u) (2 * n)) (Err stop) → Halts m t (accepted_in f) (accepted_in f) stop
  turns_go u t n stop turned some small same told goes =
      let follows = subst (λ (r : SessionRow). Follows m t r turned.past (turn_lines r (2 * n)) (Err stop)) same (goes.follows told turned.past turned.stands) in
      let stop_at = turn_halts row turned.past (length (accepted_in f)) (f.removed + n) (2 * n) (2 * n) (accepted_in f) turned.empties (omega arith) some in
      halts m t row turned.past (turn_lines row (2 * n)) _ (accepted_in f) (accepted_in f) (turn_on u n turned some small) stop_at stop follows

  -- at any moment of a turn, whatever it comes to
  pub turn_keeps : (u t : Pump D g) (n : ℕ) (r : Result (Unit {0}) Stop) (all : List Payload) → Turned m u row f n → f.removed + n < length (accepted_in f) → n ≤ 2 ^ 32 → row_of u ≡ row → m.tells → Begins (accepted_in f) all
      → Goes m u t (turn_lines (row_of u) (2 * n)) r → KeepsPrefix m row all (disk_at roles.Recv u) (disk_at roles.Recv t)
  turn_keeps u t n r all turned some small same told begins goes =
      let stop_at = turn_halts row turned.past (length (accepted_in f)) (f.removed + n) (2 * n) (2 * n) (accepted_in f) turned.empties (omega arith) some in
      let within = ends_within m t row turned.past (turn_lines row (2 * n)) _ (accepted_in f) (accepted_in f) (turn_on u n turned some small) stop_at (λ q after. begins_same q.world.accepted (accepted_in f) (sym after.2)) all begins r in
      subst (λ (x : SessionRow). KeepsPrefix m x all (disk_at roles.Recv u) (disk_at roles.Recv t)) same
      (goes.keeps told turned.past turned.stands all (subst (λ (x : SessionRow). EndsWithin m t x turned.past (turn_lines x (2 * n)) all r) (sym same) within))

  -- nothing is left
  pub turned_all : (t : Pump D g) (n : ℕ) → Turned m t row f n → f.removed + n ≡ length (accepted_in f) → Drains m t row f (Ok tt)
  turned_all t n turned all =
      let (low, at, is) = turned.empties in
      let turns : n ≡ length (accepted_in f) - f.removed = omega (arith, all) in (
        turned.past,
        subst (λ (i : ℕ). LedBy row (first_past row f) (drain_lines row i 0) turned.past) turns turned.led,
        turned.stands,
        record { accepted = is; removed = at.removed_is ∙ all },
      )

  -- what a pump's counts tell
  pub counts_tell : (t : Pump D g) (n a r : ℕ) → Turned m t row f n → ((p : Past) → StandsFor m t p → (a ≡ length p.world.accepted) × (r ≡ p.world.removed))
      → (a ≡ length (accepted_in f)) × (r ≡ f.removed + n)
  counts_tell t n a r turned counts =
      let (low, at, is) = turned.empties in
      let (accepted, removed) = counts turned.past turned.stands in
      (accepted ∙ ap length is, removed ∙ at.removed_is)

  -- no more turns than the row has places
  pub turns_few : (t : Pump D g) (n : ℕ) → Turned m t row f n → CanOpen row f → row.capacity ≤ n → f.removed + n ≡ length (accepted_in f)
  turns_few t n turned can most = (let fits = can.agree.fits in let few = turned.few in omega (arith, fits, few, most))

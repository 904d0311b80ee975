-- The TAKEN that comes back: it is among those that were sent, and is put into the frame at hand.
use Rattle.std.proofs.Common.{◌≡◌, ℕ, ◌+◌, ◌-◌, ◌<◌, ◌≤◌, Bool, true, false, List, Option, None, Some, length, drop, refl, sym, ap, ◌∙◌, subst, arith, length-drop}
use Rattle.std.specs.Prelude.{if◌then◌else◌, nat_lt, nat_le, slice_get}
use Rattle.std.proofs.Math.Logic.{∥∥₁_elim, ∥∥₁_map}
use Rattle.std.proofs.Props.{props}
use Rattle.std.proofs.lemmas.Bool.{eq-eqb}
use Rattle.std.proofs.lemmas.Bool.Decides.{nat_tests}
use Rattle.circular_buffer.specs.Buffer.{keep_last}
use Rattle.disk_model.specs.Disk.{Meaning}
use Rattle.high_process.specs.States.{task_at, removed_of, hand_of}
use Rattle.high_process.specs.Tasks.{task_in}
use Rattle.high_process.specs.declared.values.HighFault.TheVariants.{Ahead}
use Rattle.high_process.specs.declared.values.Task.TheVariants.{Refuse, Keep}
use Rattle.pump_core.specs.Sendings.{expected}
use Rattle.pump_frame.specs.declared.row.SessionRow.{SessionRow}
use Rattle.pump_frame.specs.declared.frame.Kind.{Kind}
use Rattle.pump_frame.specs.declared.frame.Kind.TheVariants.{Taken}
use Rattle.script_reader.specs.Past.{Past}
use Rattle.script_reader.specs.Highs.{place}
use Rattle.script_reader.specs.declared.line.Line.TheVariants as lines
use Rattle.two_worlds.specs.Private.HighLooks.{ComesBack}
use Rattle.two_worlds.specs.Standing.{Stands}
use Rattle.two_worlds.specs.Working.{Works, IsAble, IsAheadBy}
use Rattle.two_worlds.specs.declared.pump.parts.Parts.{Parts}
use Rattle.world_laws.proofs.Packets.{in_whole, get_drop}

-- the number that is found so many places before the last one stands there in the whole list
pub number_comes : {D : Type 0} (m : Meaning D) (c : Parts D) (p : Past) → Stands m c p → (back n : ℕ) → back < length c.returned.items
    → slice_get c.returned.items (place c.returned.items back) ≡ Some n → slice_get p.world.returned (place p.world.returned back) ≡ Some n
number_comes m c p s back n less at =
    let before = p.returned_before in
    let all = p.world.returned in
    let kept = s.world.returned.1 in
    let within : back < length (keep_last 64 (drop before all)) = subst (λ (l : List ℕ). back < length l) kept less in
    let there = in_whole (drop before all) back n within (subst (λ (l : List ℕ). slice_get l (place l back) ≡ Some n) kept at) in
    let e : before + place (drop before all) back ≡ place all back = omega (arith, within, length-drop before all, length-drop (length (drop before all) - 64) (drop before all)) in
    ap (slice_get all) (sym e) ∙ sym (get_drop before all (place (drop before all) back)) ∙ there

-- ---- the frame at hand ----

-- the parts with this kind and this number in the frame at hand
abbrev pub numbered : {D : Type 0} → Parts D → Kind → ℕ → Parts D
numbered c kind n = record c { taken = record c.taken { value = record c.taken.value { kind = kind; number = n } } }

pub stands_numbered : {D : Type 0} (m : Meaning D) (c : Parts D) (kind : Kind) (n : ℕ) (p : Past) → Stands m c p → Stands m (numbered c kind n) p
stands_numbered m c kind n p s = record {
  row = s.row;
  arrivals = record { waits = s.arrivals.waits; broken = s.arrivals.broken; reading = s.arrivals.reading; few = s.arrivals.few };
  world = s.world;
  sound = record { rest = s.sound.rest; lawful = s.sound.lawful; fits = s.sound.fits; sends = s.sound.sends; answered = s.sound.answered };
  moment = s.moment;
  low_ready = record { history = s.low_ready.history; store = s.low_ready.store; up = s.low_ready.up; between = s.low_ready.between; row = s.low_ready.row; last = s.low_ready.last };
  high_ready = record {
    past = s.high_ready.past;
    store = s.high_ready.store;
    count = s.high_ready.count;
    up = s.high_ready.up;
    between = s.high_ready.between;
    row = s.high_ready.row;
    last = s.high_ready.last;
  };
  recv_ready = record { ready = s.recv_ready.ready; row = s.recv_ready.row; size = s.recv_ready.size };
  ends = record {
    low = s.ends.low;
    high = s.ends.high;
    stand = s.ends.stand;
    shape = s.ends.shape;
    times = s.ends.times;
    low_fits = s.ends.low_fits;
    high_fits = s.ends.high_fits;
  };
  packets = record { sent = s.packets.sent; returned = s.packets.returned; taken = s.packets.taken };
  disks = s.disks;
}

works_numbered : {D : Type 0} (m : Meaning D) (c : Parts D) (kind : Kind) (n : ℕ) → Works m c → Works m (numbered c kind n)
works_numbered m c kind n w = record {
  row = w.row;
  history = w.history;
  past = w.past;
  times = w.times;
  low_ready = record { history = w.low_ready.history; store = w.low_ready.store; up = w.low_ready.up; between = w.low_ready.between; row = w.low_ready.row; last = w.low_ready.last };
  high_ready = record { past = w.high_ready.past; store = w.high_ready.store; count = w.high_ready.count; up = w.high_ready.up; between = w.high_ready.between; row = w.high_ready.row; last = w.high_ready.last };
  recv_ready = record { ready = w.recv_ready.ready; row = w.recv_ready.row; size = w.recv_ready.size };
  ends = record { low = w.ends.low; high = w.ends.high; stand = w.ends.stand; shape = w.ends.shape; times = w.ends.times; low_fits = w.ends.low_fits; high_fits = w.ends.high_fits };
  packets = record { sent = w.packets.sent; returned = w.packets.returned; taken = w.packets.taken };
  short = record { low_hand = w.short.low_hand; held = w.short.held; high_hand = w.short.high_hand; sent = w.short.sent };
}

pub able_numbered : {D : Type 0} (m : Meaning D) (c : Parts D) (kind : Kind) (n : ℕ) → IsAble m c → IsAble m (numbered c kind n)
able_numbered m c kind n able = record {
  works = ∥∥₁_map able.works (works_numbered m c kind n);
  stands = λ told. ∥∥₁_map (able.stands told) (λ s. (s.0, stands_numbered m c kind n s.0 s.1));
}

-- so it is the session's TAKEN that comes back
pub comes_numbered : {D : Type 0} (m : Meaning D) (c : Parts D) (p : Past) → Stands m c p → (back n : ℕ) → back < length c.returned.items
    → slice_get c.returned.items (place c.returned.items back) ≡ Some n → ComesBack c.row.id p.world false (Some (numbered c Taken n).taken.value) (Some (place p.world.returned back))
comes_numbered m c p s back n less at = (refl, s.packets.taken, number_comes m c p s back n less at)

-- ---- a TAKEN that is refused ----

expected_up : {X : Type 0} (removed : ℕ) (hand : Option X) → removed ≤ expected removed hand
expected_up removed None = omega arith
expected_up removed (Some x) = omega arith

refused_in : (n removed next : ℕ) → removed ≤ next → next ≤ n → task_in Taken n removed next ≡ Refuse (Ahead n next)
refused_in n removed next le above =
    let no : nat_lt n removed ≡ false = grind (arith, nat_tests) in
    let yes : nat_le next n ≡ true = grind (arith, nat_tests) in
    rw (no, yes) refl

abbrev number_in : Option ℕ → ℕ
number_in None = 0
number_in (Some n) = n

-- a TAKEN of a message that was not sent
pub refuses_number : {D : Type 0} (m : Meaning D) (c : Parts D) (session moment back n : ℕ) → IsAble m c → slice_get c.returned.items (place c.returned.items back) ≡ Some n
    → IsAheadBy c (lines.Return session moment back) → task_at c.high (Some (numbered c Taken n).taken.value) ≡ Refuse (Ahead n (expected (removed_of c.high) (hand_of c.high)))
refuses_number m c session moment back n able at ahead =
    let removed = removed_of c.high in
    let next = expected removed (hand_of c.high) in
    let own : c.taken.value.session ≡ c.high.row.id = ∥∥₁_elim able.works (hlevel props) (λ w. w.packets.taken ∙ ap (λ (r : SessionRow). r.id) (sym w.high_ready.row)) in
    let same : n ≡ ahead.0 = ap number_in (sym at ∙ ahead.1) in
    ap (λ (b : Bool). if b then task_in Taken n removed next else Keep) (eq-eqb c.taken.value.session c.high.row.id own)
    ∙ refused_in n removed next (expected_up removed (hand_of c.high)) (omega (arith, same, ahead.2))

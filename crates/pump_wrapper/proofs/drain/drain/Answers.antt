use Rattle.std.proofs.Common.{◌+◌, ◌<◌, ◌≤◌, ◌^◌, ℕ, length, Ok, Err, refl, sym, ap, ◌∙◌, arith}
use Rattle.disk_model.specs.declared.name.Role.TheVariants as roles
use Rattle.pump_frame.specs.declared.row.SessionRow.{SessionRow}
use Rattle.script_reader.specs.Openings.{accepted_in}
use Rattle.script_reader.proofs.Opened.{row_capacity}
use Rattle.two_worlds.specs.Pumps.{disk_at, row_of}
use Rattle.two_worlds.proofs.Disks.Leaving.{leaves_alone}
use Rattle.pump_wrapper.specs.Crashes.{HasPrefix}
use Rattle.pump_wrapper.proofs.Drained.{turned_none, turned_more, turned_all, turn_keeps, turns_go, turns_few, counts_tell}
use Rattle.pump_wrapper.proofs.Going.{rose_before}
use Rattle.pump_wrapper.proofs.Joining.{keeps_then}
use Rattle.pump_wrapper.proofs.drain.drain.Goals as goal

pub loop-number-init : goal.loop-number-init
loop-number-init g c = record {
  up = c.requires.up;
  row = refl;
  later = λ role. omega arith;
  turned = λ told f lawful can stands. turned_none g.D.Disk.told (row_of c.args.pump.now) f c.args.pump.now lawful can stands;
  keeps = λ told f lawful can stands all begins. leaves_alone g.D.Disk.told (HasPrefix (row_of c.args.pump.now) all) (disk_at roles.Recv c.args.pump.now) (disk_at roles.Recv c.args.pump.now) refl;
}

pub loop-number-preserved : goal.loop-number-preserved
loop-number-preserved g c =
    let m = g.D.Disk.told in
    let row = row_of c.args.pump.now in
    let u = c.loop-number.pump in
    let n = c.loop-number.number in
    let kept = c.loop-number.invariant in
    let e = c.in-Ok.ensures in
    record {
      up = e.up;
      row = e.goes.row ∙ kept.row;
      later = λ role. (let one = kept.later role in let other = e.goes.later role in omega (arith, one, other));
      turned = λ told f lawful can stands.
          let turned = kept.turned told f lawful can stands in
          let counts = c.counts-accepted.ensures.stands in
          let (accepted, removed) = counts_tell m row f u n _ _ turned (λ p s. (ap (λ (x : ℕ × ℕ × ℕ). x.0) (counts p s), ap (λ (x : ℕ × ℕ × ℕ). x.1) (counts p s))) in
          let some : f.removed + n < length (accepted_in f) = (let few = turned.few in let test = c.if-accepted-removed.false in omega (arith, few, test, accepted, removed)) in
          let capacity = c.from-capacity.ensures ∙ ap (λ (r : SessionRow). r.capacity) c.row.ensures in
          let small : n ≤ 2 ^ 32 = (let test = c.loop-number-test.true in let most = (row_capacity row lawful).1 in omega (arith, test, capacity, most)) in
          turned_more m row f u c.turn.new.pump n turned some small kept.row told e.goes;
      keeps = λ told f lawful can stands all begins.
          let turned = kept.turned told f lawful can stands in
          let counts = c.counts-accepted.ensures.stands in
          let (accepted, removed) = counts_tell m row f u n _ _ turned (λ p s. (ap (λ (x : ℕ × ℕ × ℕ). x.0) (counts p s), ap (λ (x : ℕ × ℕ × ℕ). x.1) (counts p s))) in
          let some : f.removed + n < length (accepted_in f) = (let few = turned.few in let test = c.if-accepted-removed.false in omega (arith, few, test, accepted, removed)) in
          let capacity = c.from-capacity.ensures ∙ ap (λ (r : SessionRow). r.capacity) c.row.ensures in
          let small : n ≤ 2 ^ 32 = (let test = c.loop-number-test.true in let most = (row_capacity row lawful).1 in omega (arith, test, capacity, most)) in
          keeps_then m row all (disk_at roles.Recv c.args.pump.now) (disk_at roles.Recv u) (disk_at roles.Recv c.turn.new.pump) (kept.keeps told f lawful can stands all begins)
          (turn_keeps m row f u c.turn.new.pump n (Ok tt) all turned some small kept.row told begins e.goes);
    }

pub returns-in-Err-clause-drains : goal.returns-in-Err-clause-drains
returns-in-Err-clause-drains g c = λ told f lawful can stands.
    let m = g.D.Disk.told in
    let row = row_of c.args.pump.now in
    let u = c.loop-number.pump in
    let n = c.loop-number.number in
    let kept = c.loop-number.invariant in
    let turned = kept.turned told f lawful can stands in
    let counts = c.counts-accepted.ensures.stands in
    let (accepted, removed) = counts_tell m row f u n _ _ turned (λ p s. (ap (λ (x : ℕ × ℕ × ℕ). x.0) (counts p s), ap (λ (x : ℕ × ℕ × ℕ). x.1) (counts p s))) in
    let some : f.removed + n < length (accepted_in f) = (let few = turned.few in let test = c.if-accepted-removed.false in omega (arith, few, test, accepted, removed)) in
    let capacity = c.from-capacity.ensures ∙ ap (λ (r : SessionRow). r.capacity) c.row.ensures in
    let small : n ≤ 2 ^ 32 = (let test = c.loop-number-test.true in let most = (row_capacity row lawful).1 in omega (arith, test, capacity, most)) in
    turns_go m row f u c.turn.new.pump n c.in-Err.stop turned some small kept.row told c.in-Err.ensures.goes

pub returns-in-Err-clause-keeps : goal.returns-in-Err-clause-keeps
returns-in-Err-clause-keeps g c = λ told f lawful can stands all begins.
    let m = g.D.Disk.told in
    let row = row_of c.args.pump.now in
    let u = c.loop-number.pump in
    let n = c.loop-number.number in
    let kept = c.loop-number.invariant in
    let turned = kept.turned told f lawful can stands in
    let counts = c.counts-accepted.ensures.stands in
    let (accepted, removed) = counts_tell m row f u n _ _ turned (λ p s. (ap (λ (x : ℕ × ℕ × ℕ). x.0) (counts p s), ap (λ (x : ℕ × ℕ × ℕ). x.1) (counts p s))) in
    let some : f.removed + n < length (accepted_in f) = (let few = turned.few in let test = c.if-accepted-removed.false in omega (arith, few, test, accepted, removed)) in
    let capacity = c.from-capacity.ensures ∙ ap (λ (r : SessionRow). r.capacity) c.row.ensures in
    let small : n ≤ 2 ^ 32 = (let test = c.loop-number-test.true in let most = (row_capacity row lawful).1 in omega (arith, test, capacity, most)) in
    keeps_then m row all (disk_at roles.Recv c.args.pump.now) (disk_at roles.Recv u) (disk_at roles.Recv c.turn.new.pump) (kept.keeps told f lawful can stands all begins)
    (turn_keeps m row f u c.turn.new.pump n (Err c.in-Err.stop) all turned some small kept.row told begins c.in-Err.ensures.goes)

pub returns-clause-keeps : goal.returns-clause-keeps
returns-clause-keeps g c = c.loop-number.invariant.keeps

pub returns-clause-drains : goal.returns-clause-drains
returns-clause-drains g c = λ told f lawful can stands.
    let m = g.D.Disk.told in
    let row = row_of c.args.pump.now in
    let t = c.loop-number.pump in
    let n = c.loop-number.number in
    let turned = c.loop-number.invariant.turned told f lawful can stands in
    let capacity = c.from-capacity.ensures ∙ ap (λ (r : SessionRow). r.capacity) c.row.ensures in
    let most : row.capacity ≤ n = (let test = c.loop-number-test.false in omega (arith, test, capacity)) in
    turned_all m row f t n turned (turns_few m row f t n turned can most)

pub returns-in-Err-clause-counts : goal.returns-in-Err-clause-counts
returns-in-Err-clause-counts g c = λ role.
    let one = c.loop-number.invariant.later role in
    let other = c.in-Err.ensures.goes.later role in
    omega (arith, one, other)

pub returns-in-Err-clause-rose : goal.returns-in-Err-clause-rose
returns-in-Err-clause-rose g c =
    rose_before g.D.Disk.told c.args.pump.now c.loop-number.pump c.turn.new.pump c.in-Err.stop c.loop-number.invariant.later c.in-Err.ensures.goes.rose

pub returns-then-accepted-removed : goal.returns-then-accepted-removed
returns-then-accepted-removed g c =
    let m = g.D.Disk.told in
    let row = row_of c.args.pump.now in
    let u = c.loop-number.pump in
    let n = c.loop-number.number in
    let kept = c.loop-number.invariant in
    record {
      drains = λ told f lawful can stands.
          let turned = kept.turned told f lawful can stands in
          let counts = c.counts-accepted.ensures.stands in
          let (accepted, removed) = counts_tell m row f u n _ _ turned (λ p s. (ap (λ (x : ℕ × ℕ × ℕ). x.0) (counts p s), ap (λ (x : ℕ × ℕ × ℕ). x.1) (counts p s))) in
          turned_all m row f u n turned (sym removed ∙ sym c.if-accepted-removed.true ∙ accepted);
      keeps = kept.keeps;
      counts = kept.later;
      rose = tt;
      row = kept.row;
      up = kept.up;
    }

pub returns-in-Err-clause-row : goal.returns-in-Err-clause-row
returns-in-Err-clause-row g c = c.in-Err.ensures.goes.row ∙ c.loop-number.invariant.row

pub returns-clause-row : goal.returns-clause-row
returns-clause-row g c = c.loop-number.invariant.row

pub returns-clause-counts : goal.returns-clause-counts
returns-clause-counts g c = c.loop-number.invariant.later

pub returns-clause-up : goal.returns-clause-up
returns-clause-up g c = c.loop-number.invariant.up

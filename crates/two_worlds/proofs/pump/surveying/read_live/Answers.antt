use Rattle.std.proofs.Common.{◌≡◌, ◌<◌, ◌≤◌, ℕ, List, ◌∷◌, [], length, refl, sym, ◌∙◌, ap, subst, arith, length-append}
use Rattle.disk_model.specs.Disk.{Same}
use Rattle.disk_model.proofs.Run.{started, goes_on_same}
use Rattle.recovery.specs.Deals.{InSlots}
use Rattle.recovery.proofs.Dealing.{slots_snoc}
use Rattle.stable_buffer.specs.Low.{low_count}
use Rattle.stable_buffer.specs.Numbers.{length_at}
use Rattle.stable_buffer.specs.Stands.{InSlot, slot_of}
use Rattle.two_worlds.proofs.pump.surveying.read_live.Goals as goal

pub loop-n-init : goal.loop-n-init
loop-n-init g c =
    let m = g.D.Disk.told in
    let low = c.args.low.now in
    let none = c.requires.none in
    let size : length c.args.live.now.items ≡ 0 = ap length none in
    record {
      from = omega arith;
      read = omega (arith, size);
      slots = λ told i lt. absurd (omega (arith, lt, size));
      ready = c.requires.ready;
      stored = refl;
      row' = refl;
      moves = started m Same (λ d. refl) low.register.disk;
      count = omega arith;
    }

pub loop-n-preserved : goal.loop-n-preserved
loop-n-preserved g c =
    let m = g.D.Disk.told in
    let i = c.loop-n.invariant in
    let row = c.args.row.now in
    let n = c.loop-n.n in
    let ms = c.loop-n.live.items in
    let x = c.in-Ok.message in
    let d = m.reading c.args.low.now.register.disk in
    let r = c.read_message.ensures in
    let more = c.in-Ok-push.ensures.items in
    record {
      from = omega (arith, i.from);
      read = omega (arith, i.read, ap length more, length-append ms (x ∷ []));
      slots = λ told. subst (λ (xs : List (List ℕ)). InSlots row c.args.from xs d) (sym more)
          (slots_snoc row c.args.from n ms x d i.read (i.slots told) (subst (λ (z : List ℕ). InSlot row n x z) (i.moves.reads told) (c.in-Ok.ensures.stands told)));
      ready = c.in-Ok.ensures.ready;
      stored = r.count ∙ i.stored;
      row' = r.row ∙ i.row';
      moves = goes_on_same m Same _ _ _ i.moves r.moves;
      count = omega (arith, i.count, r.counts);
    }

pub returns-in-Err-clause-long : goal.returns-in-Err-clause-long
returns-in-Err-clause-long g c = λ other told.
    let i = c.loop-n.invariant in
    let row = c.args.row.now in
    let n = c.loop-n.n in
    let test = c.loop-n-test.true in
    let all = c.accepted-to.ensures in
    let lt : n < low_count c.args.low.now = omega (arith, test, all) in
    (n, i.from, lt, subst (λ (z : List ℕ). row.message < length_at z (slot_of row n)) (i.moves.reads told) (c.in-Err.ensures.long other told))

pub returns-in-Err-clause-device : goal.returns-in-Err-clause-device
returns-in-Err-clause-device g c = λ is.
    let rose = c.in-Err.ensures.device is in
    let count = c.loop-n.invariant.count in
    omega (arith, rose, count)

pub returns-in-Err-clause-counts : goal.returns-in-Err-clause-counts
returns-in-Err-clause-counts g c =
    let counts = c.read_message.ensures.counts in
    let count = c.loop-n.invariant.count in
    omega (arith, counts, count)

pub returns-in-Err-clause-moves : goal.returns-in-Err-clause-moves
returns-in-Err-clause-moves g c = goes_on_same g.D.Disk.told Same _ _ _ c.loop-n.invariant.moves c.read_message.ensures.moves

pub returns-in-Err-push-clause-counts : goal.returns-in-Err-push-clause-counts
returns-in-Err-push-clause-counts g c =
    let counts = c.read_message.ensures.counts in
    let count = c.loop-n.invariant.count in
    omega (arith, counts, count)

pub returns-in-Err-push-clause-moves : goal.returns-in-Err-push-clause-moves
returns-in-Err-push-clause-moves g c = goes_on_same g.D.Disk.told Same _ _ _ c.loop-n.invariant.moves c.read_message.ensures.moves

pub returns-clause-count : goal.returns-clause-count
returns-clause-count g c =
    let i = c.loop-n.invariant in
    let all = c.accepted-to.ensures in
    let range = c.requires.range in
    let some : c.args.from ≤ c.accepted-to.result = omega (arith, all, range) in
    let end = c.loop-n.auto.n-end some in
    let test = c.loop-n-test.false in
    let read = i.read in
    omega (arith, all, end, test, read)

pub returns-clause-stand : goal.returns-clause-stand
returns-clause-stand g c = c.loop-n.invariant.slots

pub returns-clause-moves : goal.returns-clause-moves
returns-clause-moves g c = c.loop-n.invariant.moves

pub returns-clause-counts : goal.returns-clause-counts
returns-clause-counts g c = c.loop-n.invariant.count

pub read_message-requires-clause-ready : goal.read_message-requires-clause-ready
read_message-requires-clause-ready g c = c.loop-n.invariant.ready

pub read_message-requires-clause-row : goal.read_message-requires-clause-row
read_message-requires-clause-row g c = c.loop-n.invariant.row' ∙ c.requires.row

pub read_message-requires-clause-kept : goal.read_message-requires-clause-kept
read_message-requires-clause-kept g c =
    let i = c.loop-n.invariant in
    let stored = i.stored in
    let from = i.from in
    let range = c.requires.range in
    omega (arith, stored, from, range)

pub read_message-requires-clause-stored : goal.read_message-requires-clause-stored
read_message-requires-clause-stored g c =
    let stored = c.loop-n.invariant.stored in
    let test = c.loop-n-test.true in
    let all = c.accepted-to.ensures in
    omega (arith, stored, test, all)

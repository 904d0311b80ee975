use Rattle.std.proofs.Common.{◌≡◌, ℕ, ◌+◌, ◌-◌, ◌≤◌, List, [], ◌∷◌, ◌++◌, length, refl, sym, ◌∙◌, ap, subst, arith, length-append}
use Rattle.std.proofs.lemmas.List.Elements.{All-nil, All-push}
use Rattle.disk_model.specs.Disk.{Same}
use Rattle.disk_model.proofs.Run.{started, goes_on_same}
use Rattle.pump_core.specs.Passage.{Low, Shape, ComesNext}
use Rattle.pump_frame.specs.declared.frame.Item.{Item}
use Rattle.stable_buffer.specs.Stands.{InSlot}
use Rattle.recovery.specs.Refusals.{bad_slot}
use Rattle.recovery.specs.Deals.{numbered}
use Rattle.recovery.proofs.Dealing.{numbered_snoc, length_numbered, comes_all, slots_snoc}
use Rattle.recovery.proofs.hands.fill.Goals as goal

pub loop-n-init : goal.loop-n-init
loop-n-init g c =
    let m = g.D.Disk.told in
    let low = c.args.low.now in
    record {
      from = omega arith;
      to = omega (arith, c.requires.range.0);
      messages = [];
      length' = omega arith;
      short = All-nil (λ message. length message ≤ c.args.row.now.message);
      slots = λ told i lt. absurd (omega (arith, lt));
      fills = λ l h stood empty. subst (λ (z : List Item). g.L.LowSide.stands c.args.ends.now (record l { forwarded = z }) h) empty stood;
      same = (refl, refl);
      rest = λ told k le. let e : k ≡ c.args.from + k - c.args.from = omega arith in ap (λ j. bad_slot c.args.row.now (m.reading low.register.disk) c.args.from j) e;
      ready = c.requires.ready;
      stored = refl;
      row' = refl;
      moves = started m Same (λ d. refl) low.register.disk;
      count = omega arith;
      room = λ plan. refl;
      calm = c.requires.calm;
    }

pub offer-requires-clause-stands : goal.offer-requires-clause-stands
offer-requires-clause-stands g c =
    let i = c.loop-n.invariant in
    let f = c.requires.fresh in
    let at : c.args.from + length i.messages ≡ c.in_ok-item.item.number = i.length' ∙ sym c.in_ok-item.ensures.number in (
      record f.0 { forwarded = numbered c.args.from i.messages },
      f.1,
      i.fills f.0 f.1 f.2 f.3,
      subst (λ k. ComesNext (numbered c.args.from i.messages) k) at (comes_all c.args.from i.messages),
    )

pub unreachable-requires : goal.unreachable-requires
unreachable-requires g c =
    let i = c.loop-n.invariant in
    let f = c.requires.fresh in
    let past : Low = record f.0 { forwarded = numbered c.args.from i.messages } in
    let at : c.args.from + length i.messages ≡ c.in_ok-item.item.number = i.length' ∙ sym c.in_ok-item.ensures.number in
    let full = c.in-Full.ensures.step past f.1 (i.fills f.0 f.1 f.2 f.3) (subst (λ k. ComesNext (numbered c.args.from i.messages) k) at (comes_all c.args.from i.messages)) in
    let size = length_numbered c.args.from i.messages in
    let places = ap (λ (s : Shape). s.places) i.same.0 in
    omega (arith, full.1, size, places, i.length', c.loop-n-test.true, c.requires.room)

pub loop-n-preserved : goal.loop-n-preserved
loop-n-preserved g c =
    let m = g.D.Disk.told in
    let i = c.loop-n.invariant in
    let row = c.args.row.now in
    let from = c.args.from in
    let n = c.loop-n.n in
    let x = c.in_ok-item.item in
    let ms = i.messages in
    let d = m.reading c.args.low.now.register.disk in
    let calls = c.read_live.ensures.reads.calls in
    let at : from + length ms ≡ x.number = i.length' ∙ sym c.in_ok-item.ensures.number in
    let same : numbered from ms ++ x ∷ [] ≡ numbered from (ms ++ x.payload ∷ []) =
    (λ j. numbered from ms ++ record { number = sym at j; payload = x.payload } ∷ []) ∙ sym (numbered_snoc from ms x.payload) in
    record {
      from = omega (arith, i.from);
      to = omega (arith, c.loop-n-test.true);
      messages = ms ++ x.payload ∷ [];
      length' = omega (arith, i.length', length-append ms (x.payload ∷ []));
      short = All-push (λ message. length message ≤ row.message) ms x.payload i.short c.in_ok-item.ensures.short;
      slots = λ told. slots_snoc row from n ms x.payload d i.length' (i.slots told)
          (subst (λ (z : List ℕ). InSlot row n x.payload z) (i.moves.reads told) (c.in_ok-item.ensures.stands told));
      fills = λ l h stood empty.
          let past : Low = record l { forwarded = numbered from ms } in
          let passed = c.in-Passed.ensures.step past h (i.fills l h stood empty) (subst (λ k. ComesNext (numbered from ms) k) at (comes_all from ms)) in
          subst (λ (z : List Item). g.L.LowSide.stands c.offer.new.ends (record l { forwarded = z }) h) same passed.1;
      same = (c.offer.ensures.shape ∙ i.same.0, c.offer.ensures.place ∙ i.same.1);
      rest = λ told k le.
          let j = from + k - n in
          let fine = c.in_ok-item.ensures.fine told j (omega (arith, le)) in
          let here : bad_slot row d n j ≡ bad_slot row d (n + 1) (j - 1) = subst (λ (z : List ℕ). bad_slot row z n j ≡ bad_slot row z (n + 1) (j - 1)) (i.moves.reads told) fine in
          let e : j - 1 ≡ from + k - (n + 1) = omega (arith, le) in
          i.rest told k (omega (arith, le)) ∙ here ∙ ap (λ p. bad_slot row d (n + 1) p) e;
      ready = c.in_ok-item.ensures.reads.ready;
      stored = c.read_live.ensures.reads.count ∙ i.stored;
      row' = c.read_live.ensures.reads.row ∙ i.row';
      moves = goes_on_same m Same _ _ _ i.moves c.read_live.ensures.reads.moves;
      count = omega (arith, i.count, calls.counts);
      room = λ plan. calls.room plan ∙ i.room plan;
      calm = calls.disarmed;
    }

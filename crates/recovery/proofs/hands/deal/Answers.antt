use Rattle.std.proofs.Common.{rules, ◌≡◌, ℕ, ◌+◌, ◌-◌, ◌<◌, ◌≤◌, List, true, false, Some, ◌∙◌, refl, ap, subst, arith}
use Rattle.std.proofs.lemmas.Result.{err_from_is_err_and}
use Rattle.disk_model.specs.Disk.{Same}
use Rattle.disk_model.proofs.Run.{started, goes_on_same}
use Rattle.stable_buffer.specs.Stands.{InSlot}
use Rattle.recovery.specs.Calls.{Calls, is_device}
use Rattle.recovery.specs.Refusals.{bad_slot}
use Rattle.recovery.specs.declared.why.Why.TheVariants.{Device}
use Rattle.recovery.specs.Deals.{InSlots}
use Rattle.pump_frame.specs.Rows.{IsLawfulRow}
use Rattle.recovery.proofs.Rows.{row_capacity}
use Rattle.recovery.proofs.Comparing.{calls_none, calls_on}
use Rattle.recovery.proofs.Dealing.{none_dealt, some_dealt, all_dealt}
use Rattle.recovery.proofs.hands.deal.Goals as goal

pub returns-in_err-first : goal.returns-in_err-first
returns-in_err-first g c = record {
  dealt = search rules;
  fine = search rules;
  exact =
      let m = g.D.Disk.told in
      let row = c.args.row.now in
      let d = m.reading c.args.low.now.register.disk in
      let e = c.args.low.now.register.first in
      let b = c.args.removed in
      let why = c.in_err-first.field-0.0 in
      let some : 0 < e - b = omega (arith, c.accepted-next.ensures, c.if-removed-next.false, c.requires.between.0) in
      let fact : is_device why ≡ false → m.tells → bad_slot row d b (e - b) ≡ Some why = λ nd told. c.in_err-first.ensures.exact nd told (e - b) some in
      let r = err_from_is_err_and c.from_residual.result c.from_residual.ensures.1 in
      rw (r.1, r.2) fact;
  reads = record {
    device =
        let why = c.in_err-first.field-0.0 in
        let fact : is_device why ≡ true → why ≡ Device (g.D.Disk.told.count c.read_live.new.low.register.disk) = c.in_err-first.ensures.reads.device in
        let r = err_from_is_err_and c.from_residual.result c.from_residual.ensures.1 in
        rw (r.1, r.2) fact;
    calls =
        let why = c.in_err-first.field-0.0 in
        let fact : Calls g.D.Disk.told c.args.low.now.register.disk c.read_live.new.low.register.disk (is_device why) = c.in_err-first.ensures.reads.calls in
        let r = err_from_is_err_and c.from_residual.result c.from_residual.ensures.1 in
        rw (r.1, r.2) fact;
    ready = search rules;
    count = c.read_live.ensures.reads.count;
    row = c.read_live.ensures.reads.row;
    moves = c.read_live.ensures.reads.moves;
  };
  ends = (refl, refl);
}

pub returns-in_err-fill : goal.returns-in_err-fill
returns-in_err-fill g c = record {
  dealt = search rules;
  fine = search rules;
  exact =
      let m = g.D.Disk.told in
      let row = c.args.row.now in
      let d = m.reading c.args.low.now.register.disk in
      let e = c.args.low.now.register.first in
      let b = c.args.removed in
      let why = c.in_err-fill.field-0.0 in
      let some : 0 < e - b = omega (arith, c.accepted-next.ensures, c.if-removed-next.false, c.requires.between.0) in
      let fact : is_device why ≡ false → m.tells → bad_slot row d b (e - b) ≡ Some why = λ nd told.
      let reach : c.min.result ≤ b + 1 + (e - b - 1) = omega (arith, some, c.min.ensures, c.accepted-next.ensures) in
      c.in_ok-first.ensures.fine told (e - b) some
      ∙ subst (λ (z : List ℕ). bad_slot row z (b + 1) (e - b - 1) ≡ Some why) (c.read_live.ensures.reads.moves.reads told) (c.in_err-fill.ensures.exact nd told (e - b - 1) reach) in
      let r = err_from_is_err_and c.from_residual-in_err-fill.result c.from_residual-in_err-fill.ensures.1 in
      rw (r.1, r.2) fact;
  reads = record {
    device =
        let why = c.in_err-fill.field-0.0 in
        let fact : is_device why ≡ true → why ≡ Device (g.D.Disk.told.count c.fill.new.low.register.disk) = c.in_err-fill.ensures.reads.device in
        let r = err_from_is_err_and c.from_residual-in_err-fill.result c.from_residual-in_err-fill.ensures.1 in
        rw (r.1, r.2) fact;
    calls =
        let why = c.in_err-fill.field-0.0 in
        let fact : Calls g.D.Disk.told c.args.low.now.register.disk c.fill.new.low.register.disk (is_device why) = calls_on g.D.Disk.told c.args.low.now.register.disk c.read_live.new.low.register.disk c.fill.new.low.register.disk (is_device why) c.in_ok-first.ensures.reads.calls c.in_err-fill.ensures.reads.calls in
        let r = err_from_is_err_and c.from_residual-in_err-fill.result c.from_residual-in_err-fill.ensures.1 in
        rw (r.1, r.2) fact;
    ready = search rules;
    count = c.fill.ensures.reads.count ∙ c.read_live.ensures.reads.count;
    row = c.fill.ensures.reads.row ∙ c.read_live.ensures.reads.row;
    moves = goes_on_same g.D.Disk.told Same _ _ _ c.read_live.ensures.reads.moves c.fill.ensures.reads.moves;
  };
  ends = c.fill.ensures.ends;
}

pub returns-then-next-last : goal.returns-then-next-last
returns-then-next-last g c = record {
  dealt =
      let m = g.D.Disk.told in
      let row = c.args.row.now in
      let d = m.reading c.args.low.now.register.disk in
      let e = c.args.low.now.register.first in
      let b = c.args.removed in
      let (ms, count, short, slots, fills) = c.in_ok-fill.ensures.forwarded in
      let to : c.min.result ≡ e = omega (arith, c.min.ensures, c.accepted-next.ensures, c.if-next-last.true) in
      some_dealt row b e m.tells d (g.L.LowSide.stands c.args.ends.now) (g.L.LowSide.stands c.fill.new.ends) c.in_ok-first.first c.in_ok-first.ensures.number c.in_ok-first.ensures.short c.in_ok-first.ensures.stands
      ms short (λ told. subst (λ (z : List ℕ). InSlots row (b + 1) ms z) (c.read_live.ensures.reads.moves.reads told) (slots told)) fills
      (omega (arith, count, to)) (omega (arith, c.accepted-next.ensures, c.if-next-last.true));
  fine =
      λ told.
      let m = g.D.Disk.told in
      let row = c.args.row.now in
      let d = m.reading c.args.low.now.register.disk in
      let e = c.args.low.now.register.first in
      let b = c.args.removed in
      let some : 0 < e - b = omega (arith, c.accepted-next.ensures, c.if-removed-next.false, c.requires.between.0) in
      let to : c.min.result ≡ e = omega (arith, c.min.ensures, c.accepted-next.ensures, c.if-next-last.true) in
      let reach : c.min.result ≤ b + 1 + (e - b - 1) = omega (arith, some, to) in
      let none : b + 1 + (e - b - 1) - c.min.result ≡ 0 = omega (arith, some, to) in
      c.in_ok-first.ensures.fine told (e - b) some
      ∙ subst (λ (z : List ℕ). bad_slot row z (b + 1) (e - b - 1) ≡ bad_slot row z c.min.result (b + 1 + (e - b - 1) - c.min.result)) (c.read_live.ensures.reads.moves.reads told) (c.in_ok-fill.ensures.fine told (e - b - 1) reach)
      ∙ ap (λ k. bad_slot row d c.min.result k) none;
  exact = search rules;
  reads = record {
    device = search rules;
    calls = calls_on g.D.Disk.told c.args.low.now.register.disk c.read_live.new.low.register.disk c.fill.new.low.register.disk false c.in_ok-first.ensures.reads.calls c.in_ok-fill.ensures.reads.calls;
    ready = c.in_ok-fill.ensures.reads.ready;
    count = c.fill.ensures.reads.count ∙ c.read_live.ensures.reads.count;
    row = c.fill.ensures.reads.row ∙ c.read_live.ensures.reads.row;
    moves = goes_on_same g.D.Disk.told Same _ _ _ c.read_live.ensures.reads.moves c.fill.ensures.reads.moves;
  };
  ends = c.fill.ensures.ends;
}

pub returns-in_err-held : goal.returns-in_err-held
returns-in_err-held g c = record {
  dealt = search rules;
  fine = search rules;
  exact =
      let m = g.D.Disk.told in
      let row = c.args.row.now in
      let d = m.reading c.args.low.now.register.disk in
      let e = c.args.low.now.register.first in
      let b = c.args.removed in
      let last = b + row.capacity - 1 in
      let why = c.in_err-held.field-0.0 in
      let some : 0 < e - b = omega (arith, c.accepted-next.ensures, c.if-removed-next.false, c.requires.between.0) in
      let to : c.min.result ≡ last = omega (arith, c.min.ensures, c.accepted-next.ensures, c.if-next-last.false) in
      let reach : c.min.result ≤ b + 1 + (e - b - 1) = omega (arith, some, to, c.accepted-next.ensures, c.if-next-last.false) in
      let one : 0 < b + 1 + (e - b - 1) - c.min.result = omega (arith, some, to, c.accepted-next.ensures, c.if-next-last.false) in
      let fact : is_device why ≡ false → m.tells → bad_slot row d b (e - b) ≡ Some why = λ nd told.
      let first = c.read_live.ensures.reads.moves.reads told in
      let second = c.fill.ensures.reads.moves.reads told ∙ first in
      c.in_ok-first.ensures.fine told (e - b) some
      ∙ subst (λ (z : List ℕ). bad_slot row z (b + 1) (e - b - 1) ≡ bad_slot row z c.min.result (b + 1 + (e - b - 1) - c.min.result)) first (c.in_ok-fill.ensures.fine told (e - b - 1) reach)
      ∙ ap (λ n. bad_slot row d n (b + 1 + (e - b - 1) - c.min.result)) to
      ∙ subst (λ (z : List ℕ). bad_slot row z last (b + 1 + (e - b - 1) - c.min.result) ≡ Some why) second (c.in_err-held.ensures.exact nd told (b + 1 + (e - b - 1) - c.min.result) one) in
      let r = err_from_is_err_and c.from_residual-in_err-held.result c.from_residual-in_err-held.ensures.1 in
      rw (r.1, r.2) fact;
  reads = record {
    device =
        let why = c.in_err-held.field-0.0 in
        let fact : is_device why ≡ true → why ≡ Device (g.D.Disk.told.count c.read_live-2.new.low.register.disk) = c.in_err-held.ensures.reads.device in
        let r = err_from_is_err_and c.from_residual-in_err-held.result c.from_residual-in_err-held.ensures.1 in
        rw (r.1, r.2) fact;
    calls =
        let why = c.in_err-held.field-0.0 in
        let fact : Calls g.D.Disk.told c.args.low.now.register.disk c.read_live-2.new.low.register.disk (is_device why) = calls_on g.D.Disk.told c.args.low.now.register.disk c.fill.new.low.register.disk c.read_live-2.new.low.register.disk (is_device why) (calls_on g.D.Disk.told c.args.low.now.register.disk c.read_live.new.low.register.disk c.fill.new.low.register.disk false c.in_ok-first.ensures.reads.calls c.in_ok-fill.ensures.reads.calls) c.in_err-held.ensures.reads.calls in
        let r = err_from_is_err_and c.from_residual-in_err-held.result c.from_residual-in_err-held.ensures.1 in
        rw (r.1, r.2) fact;
    ready = search rules;
    count = c.read_live-2.ensures.reads.count ∙ c.fill.ensures.reads.count ∙ c.read_live.ensures.reads.count;
    row = c.read_live-2.ensures.reads.row ∙ c.fill.ensures.reads.row ∙ c.read_live.ensures.reads.row;
    moves =
        let m = g.D.Disk.told in
        goes_on_same m Same _ _ _ (goes_on_same m Same _ _ _ c.read_live.ensures.reads.moves c.fill.ensures.reads.moves) c.read_live-2.ensures.reads.moves;
  };
  ends = c.fill.ensures.ends;
}

pub returns : goal.returns
returns g c = record {
  dealt =
      let m = g.D.Disk.told in
      let row = c.args.row.now in
      let d = m.reading c.args.low.now.register.disk in
      let e = c.args.low.now.register.first in
      let b = c.args.removed in
      let last = b + row.capacity - 1 in
      let (ms, count, short, slots, fills) = c.in_ok-fill.ensures.forwarded in
      let to : c.min.result ≡ last = omega (arith, c.min.ensures, c.accepted-next.ensures, c.if-next-last.false) in
      let wide : 3 ≤ row.capacity = (row_capacity row (subst IsLawfulRow c.requires.row c.requires.ready.lawful)).0 in
      all_dealt row b e m.tells d (g.L.LowSide.stands c.args.ends.now) (g.L.LowSide.stands c.fill.new.ends) c.in_ok-first.first c.in_ok-first.ensures.number c.in_ok-first.ensures.short c.in_ok-first.ensures.stands
      ms short (λ told. subst (λ (z : List ℕ). InSlots row (b + 1) ms z) (c.read_live.ensures.reads.moves.reads told) (slots told)) fills
      c.in_ok-held.held c.in_ok-held.ensures.number c.in_ok-held.ensures.short (λ told. subst (λ (z : List ℕ). InSlot row last c.in_ok-held.held.payload z) (c.fill.ensures.reads.moves.reads told ∙ c.read_live.ensures.reads.moves.reads told) (c.in_ok-held.ensures.stands told))
      wide (omega (arith, count, to)) (omega (arith, c.accepted-next.ensures, c.requires.between.1, c.if-next-last.false, wide));
  fine =
      λ told.
      let m = g.D.Disk.told in
      let row = c.args.row.now in
      let d = m.reading c.args.low.now.register.disk in
      let e = c.args.low.now.register.first in
      let b = c.args.removed in
      let last = b + row.capacity - 1 in
      let k = b + 1 + (e - b - 1) - c.min.result in
      let some : 0 < e - b = omega (arith, c.accepted-next.ensures, c.if-removed-next.false, c.requires.between.0) in
      let to : c.min.result ≡ last = omega (arith, c.min.ensures, c.accepted-next.ensures, c.if-next-last.false) in
      let reach : c.min.result ≤ b + 1 + (e - b - 1) = omega (arith, some, to, c.accepted-next.ensures, c.if-next-last.false) in
      let one : 0 < k = omega (arith, some, to, c.accepted-next.ensures, c.if-next-last.false) in
      let none : k - 1 ≡ 0 = omega (arith, some, to, c.accepted-next.ensures, c.requires.between.1, c.if-next-last.false) in
      let first = c.read_live.ensures.reads.moves.reads told in
      let second = c.fill.ensures.reads.moves.reads told ∙ first in
      c.in_ok-first.ensures.fine told (e - b) some
      ∙ subst (λ (z : List ℕ). bad_slot row z (b + 1) (e - b - 1) ≡ bad_slot row z c.min.result k) first (c.in_ok-fill.ensures.fine told (e - b - 1) reach)
      ∙ ap (λ n. bad_slot row d n k) to
      ∙ subst (λ (z : List ℕ). bad_slot row z last k ≡ bad_slot row z (last + 1) (k - 1)) second (c.in_ok-held.ensures.fine told k one)
      ∙ ap (λ j. bad_slot row d (last + 1) j) none;
  exact = search rules;
  reads = record {
    device = search rules;
    calls = calls_on g.D.Disk.told c.args.low.now.register.disk c.fill.new.low.register.disk c.read_live-2.new.low.register.disk false (calls_on g.D.Disk.told c.args.low.now.register.disk c.read_live.new.low.register.disk c.fill.new.low.register.disk false c.in_ok-first.ensures.reads.calls c.in_ok-fill.ensures.reads.calls) c.in_ok-held.ensures.reads.calls;
    ready = c.in_ok-held.ensures.reads.ready;
    count = c.read_live-2.ensures.reads.count ∙ c.fill.ensures.reads.count ∙ c.read_live.ensures.reads.count;
    row = c.read_live-2.ensures.reads.row ∙ c.fill.ensures.reads.row ∙ c.read_live.ensures.reads.row;
    moves =
        let m = g.D.Disk.told in
        goes_on_same m Same _ _ _ (goes_on_same m Same _ _ _ c.read_live.ensures.reads.moves c.fill.ensures.reads.moves) c.read_live-2.ensures.reads.moves;
  };
  ends = c.fill.ensures.ends;
}

pub returns-then-removed-next : goal.returns-then-removed-next
returns-then-removed-next g c = record {
  dealt =
      let m = g.D.Disk.told in
      let low = c.args.low.now in
      let stands = g.L.LowSide.stands c.args.ends.now in
      none_dealt c.args.row.now c.args.removed low.register.first m.tells (m.reading low.register.disk) stands stands (c.if-removed-next.true ∙ c.accepted-next.ensures) (λ l h stood. stood);
  fine = search rules;
  exact = search rules;
  reads = record {
    device = search rules;
    calls = calls_none g.D.Disk.told c.args.low.now.register.disk c.requires.calm;
    ready = search rules;
    count = search rules;
    row = search rules;
    moves = started g.D.Disk.told Same (λ d. refl) c.args.low.now.register.disk;
  };
  ends = search rules;
}

pub fill-requires-clause-ready : goal.fill-requires-clause-ready
fill-requires-clause-ready g c = c.in_ok-first.ensures.reads.ready

pub fill-requires-clause-row : goal.fill-requires-clause-row
fill-requires-clause-row g c = c.read_live.ensures.reads.row ∙ c.requires.row

pub fill-requires-clause-calm : goal.fill-requires-clause-calm
fill-requires-clause-calm g c = c.in_ok-first.ensures.reads.calls.disarmed

pub fill-requires-clause-fresh : goal.fill-requires-clause-fresh
fill-requires-clause-fresh g c = c.requires.fresh

pub read_live-requires-clause-ready : goal.read_live-requires-clause-ready
read_live-requires-clause-ready g c = c.requires.ready

pub read_live-requires-clause-row : goal.read_live-requires-clause-row
read_live-requires-clause-row g c = c.requires.row

pub read_live-requires-2-clause-ready : goal.read_live-requires-2-clause-ready
read_live-requires-2-clause-ready g c = c.in_ok-fill.ensures.reads.ready

pub read_live-requires-2-clause-row : goal.read_live-requires-2-clause-row
read_live-requires-2-clause-row g c = c.fill.ensures.reads.row ∙ c.read_live.ensures.reads.row ∙ c.requires.row

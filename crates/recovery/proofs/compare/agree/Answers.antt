use Rattle.std.proofs.Common.{◌≡◌, inl, inr, ◌∙◌, ℕ, List, [], false, not, get_or, refl, sym, ap, subst, arith}
use Rattle.std.proofs.lemmas.Bool.{cases_lt, false≢true}
use Rattle.disk_model.specs.Disk.{Same}
use Rattle.disk_model.proofs.Run.{started, goes_on_same}
use Rattle.pump_frame.specs.declared.row.SessionRow.{SessionRow}
use Rattle.stable_buffer.specs.Stands.{InSlot}
use Rattle.stable_buffer.specs.Log.{RecvStands}
use Rattle.recovery.specs.Calls.{Calls}
use Rattle.recovery.proofs.Comparing.{low_called, goes_on, receiver_called, at_same}
use Rattle.recovery.proofs.compare.agree.Goals as goal

pub returns-then-taken-removed : goal.returns-then-taken-removed
returns-then-taken-removed g c =
    let same = started g.D.Disk.told Same (λ d. refl) in
    record {
      fine = tt;
      exact = λ nd told ms s. (c.count-taken.ensures, inl (omega (arith, c.count-taken.ensures, c.if-taken-removed.true), refl));
      told = record {
        low_faults = λ is. elim (false≢true is) [ ];
        receiver_faults = λ is. elim (false≢true is) [ ];
        shut = λ is. elim (false≢true is) [ ];
        one = λ _. c.requires.receiver.is_open;
        both = λ _. (c.requires.low.ready.is_open, c.requires.receiver.is_open);
      };
      idle = λ _. (refl, refl);
      calls = λ less within. let no : ⊥ = omega (arith, c.count-taken.ensures, c.if-taken-removed.true, less, within) in elim no [ ];
      «open» = tt;
      low = record {
        ready = λ _. c.requires.low;
        count = refl;
        row = refl;
        moves = same _;
      };
      receiver = record {
        ready = λ _. c.requires.receiver;
        count = refl;
        end = refl;
        row = refl;
        size = refl;
        moves = same _;
      };
    }

pub returns-then-taken-next : goal.returns-then-taken-next
returns-then-taken-next g c =
    let same = started g.D.Disk.told Same (λ d. refl) in
    record {
      fine = tt;
      exact = λ nd told ms s. (c.count-taken.ensures, inr (omega (arith, c.count-taken.ensures, c.if-taken-removed.false), omega (arith, c.count-taken.ensures, c.accepted-next.ensures, c.if-taken-next.true), c.accepted-next.ensures));
      told = record {
        low_faults = λ is. elim (false≢true is) [ ];
        receiver_faults = λ is. elim (false≢true is) [ ];
        shut = λ is. elim (false≢true is) [ ];
        one = λ _. c.requires.receiver.is_open;
        both = λ _. (c.requires.low.ready.is_open, c.requires.receiver.is_open);
      };
      idle = λ _. (refl, refl);
      calls = λ less within. let no : ⊥ = omega (arith, c.count-taken.ensures, c.accepted-next.ensures, c.if-taken-next.true, less, within) in elim no [ ];
      «open» = tt;
      low = record {
        ready = λ _. c.requires.low;
        count = refl;
        row = refl;
        moves = same _;
      };
      receiver = record {
        ready = λ _. c.requires.receiver;
        count = refl;
        end = refl;
        row = refl;
        size = refl;
        moves = same _;
      };
    }

pub returns-in-Ok-false : goal.returns-in-Ok-false
returns-in-Ok-false g c =
    let m = g.D.Disk.told in
    let i = c.loop-n.invariant in
    let e = c.is_same.ensures in
    let low = c.args.low.now in
    let receiver = c.args.receiver.now in
    record {
      fine = tt;
      exact = λ nd told ms s.
          let now = at_same (λ w d. RecvStands w ms d) _ _ _ _ i.receiver_is.2 (i.moves_receiver.reads told) s in (
            omega (arith, i.from, c.count-taken.ensures, c.loop-n-test.true),
            omega (arith, c.count-taken.ensures, c.accepted-next.ensures, c.if-taken-next.false),
            i.from,
            omega (arith, c.count-taken.ensures, c.loop-n-test.true),
            i.same told ms s,
            (λ has. c.in-Ok-false.ensures.same.other c.in-Ok-false.field-0-test told ms now (at_same (λ w d. InSlot w c.loop-n.n (get_or ms c.loop-n.n []) d) _ _ _ _ i.low_is.1 (i.moves_low.reads told) has)),
          );
      told = record {
        low_faults = λ is. elim (false≢true is) [ ];
        receiver_faults = λ is. elim (false≢true is) [ ];
        shut = λ is. elim (false≢true is) [ ];
        one = λ _. c.in-Ok-false.ensures.open.1;
        both = λ _. c.in-Ok-false.ensures.open;
      };
      idle = λ none. absurd (elim none [
        | inl few ↦ omega (arith, few, i.from, c.count-taken.ensures, c.loop-n-test.true)
        | inr many ↦ omega (arith, many, c.count-taken.ensures, c.accepted-next.ensures, c.if-taken-next.false)
      ]);
      calls = λ less within. record {
        low_called = low_called m c.args.removed c.loop-n.n low c.loop-n.low receiver c.loop-n.receiver i.from i.first c.is_same.new.low.register.disk (not c.is_same.new.low.register.is_open) i.calls_low e.calls.low_called;
        receiver_called =
            receiver_called m c.args.removed c.loop-n.n low c.loop-n.low receiver c.loop-n.receiver i.from i.first c.is_same.new.receiver i.calls_receiver i.ready_receiver.is_open e.calls.receiver_called;
      };
      «open» = tt;
      low = record {
        ready = e.low.ready;
        count = e.low.count ∙ i.low_is.0;
        row = e.low.row ∙ i.low_is.1;
        moves = goes_on_same m Same _ _ _ i.moves_low e.low.moves;
      };
      receiver = record {
        ready = e.receiver.ready;
        count = e.receiver.count ∙ i.receiver_is.0;
        end = e.receiver.end ∙ i.receiver_is.1;
        row = e.receiver.row ∙ i.receiver_is.2;
        size = e.receiver.size ∙ i.receiver_is.3;
        moves = goes_on_same m Same _ _ _ i.moves_receiver e.receiver.moves;
      };
    }

pub returns-in-Err : goal.returns-in-Err
returns-in-Err g c =
    let m = g.D.Disk.told in
    let i = c.loop-n.invariant in
    let e = c.is_same.ensures in
    let low = c.args.low.now in
    let receiver = c.args.receiver.now in
    record {
      fine = tt;
      exact = λ nd. absurd (false≢true (sym nd ∙ c.in-Err.ensures.device));
      told = c.in-Err.ensures.told;
      idle = λ none. absurd (elim none [
        | inl few ↦ omega (arith, few, i.from, c.count-taken.ensures, c.loop-n-test.true)
        | inr many ↦ omega (arith, many, c.count-taken.ensures, c.accepted-next.ensures, c.if-taken-next.false)
      ]);
      calls = λ less within. record {
        low_called = low_called m c.args.removed c.loop-n.n low c.loop-n.low receiver c.loop-n.receiver i.from i.first c.is_same.new.low.register.disk (not c.is_same.new.low.register.is_open) i.calls_low e.calls.low_called;
        receiver_called =
            receiver_called m c.args.removed c.loop-n.n low c.loop-n.low receiver c.loop-n.receiver i.from i.first c.is_same.new.receiver i.calls_receiver i.ready_receiver.is_open e.calls.receiver_called;
      };
      «open» = tt;
      low = record {
        ready = e.low.ready;
        count = e.low.count ∙ i.low_is.0;
        row = e.low.row ∙ i.low_is.1;
        moves = goes_on_same m Same _ _ _ i.moves_low e.low.moves;
      };
      receiver = record {
        ready = e.receiver.ready;
        count = e.receiver.count ∙ i.receiver_is.0;
        end = e.receiver.end ∙ i.receiver_is.1;
        row = e.receiver.row ∙ i.receiver_is.2;
        size = e.receiver.size ∙ i.receiver_is.3;
        moves = goes_on_same m Same _ _ _ i.moves_receiver e.receiver.moves;
      };
    }

pub loop-n-preserved : goal.loop-n-preserved
loop-n-preserved g c =
    let m = g.D.Disk.told in
    let i = c.loop-n.invariant in
    let e = c.is_same.ensures in
    let both = c.in-Ok-true.ensures.open in
    let low = c.args.low.now in
    let receiver = c.args.receiver.now in
    let called = c.in-Ok-true.ensures.called c.in-Ok-true.field-0-test in
    record {
      from = omega (arith, i.from);
      to = omega (arith, c.loop-n-test.true);
      ready_low = e.low.ready both.0;
      ready_receiver = e.receiver.ready both.1;
      low_is = (e.low.count ∙ i.low_is.0, e.low.row ∙ i.low_is.1);
      receiver_is = (e.receiver.count ∙ i.receiver_is.0, e.receiver.end ∙ i.receiver_is.1, e.receiver.row ∙ i.receiver_is.2, e.receiver.size ∙ i.receiver_is.3);
      moves_low = goes_on_same m Same _ _ _ i.moves_low e.low.moves;
      moves_receiver = goes_on_same m Same _ _ _ i.moves_receiver e.receiver.moves;
      same = λ told ms s n from to. elim (cases_lt n c.loop-n.n) [
        | inl early ↦ i.same told ms s n from early
        | inr late ↦
            let here : c.loop-n.n ≡ n = omega (arith, late, to) in
            let d = m.reading low.register.disk in
            let s' : RecvStands c.loop-n.receiver.row ms (m.reading c.loop-n.receiver.register.disk) =
            subst (λ (w : SessionRow). RecvStands w ms (m.reading c.loop-n.receiver.register.disk)) (sym i.receiver_is.2) (subst (λ (z : List ℕ). RecvStands receiver.row ms z) (sym (i.moves_receiver.reads told)) s) in
            let has = c.in-Ok-true.ensures.same.same c.in-Ok-true.field-0-test told ms s' in
            subst (λ k. InSlot low.row k (get_or ms k []) d) here
            (subst (λ (w : SessionRow). InSlot w c.loop-n.n (get_or ms c.loop-n.n []) d) i.low_is.1 (subst (λ (z : List ℕ). InSlot c.loop-n.low.row c.loop-n.n (get_or ms c.loop-n.n []) z) (i.moves_low.reads told) has))
      ];
      first = λ is. absurd (omega (arith, is, i.from));
      calls_low = λ lt.
          low_called m c.args.removed c.loop-n.n low c.loop-n.low receiver c.loop-n.receiver i.from i.first c.is_same.new.low.register.disk false i.calls_low
          (subst (λ f. Calls m c.loop-n.low.register.disk c.is_same.new.low.register.disk f) (ap not both.0) e.calls.low_called);
      calls_receiver = λ lt.
          goes_on m c.args.removed c.loop-n.n low c.loop-n.low receiver c.loop-n.receiver i.from i.first c.is_same.new.receiver.register.disk i.calls_receiver called.0 called.1;
    }

pub returns : goal.returns
returns g c =
    let m = g.D.Disk.told in
    let i = c.loop-n.invariant in
    let count = c.count-taken.ensures in
    record {
      fine = (
        omega (arith, count, c.if-taken-removed.false),
        omega (arith, count, c.accepted-next.ensures, c.if-taken-next.false),
        (λ told ms s n from to. i.same told ms s n from (omega (arith, to, count, c.loop-n-test.false))),
      );
      exact = tt;
      told = tt;
      idle = λ none. i.first (elim none [
        | inl few ↦ omega (arith, few, count, i.from, i.to)
        | inr many ↦ absurd (omega (arith, many, count, c.accepted-next.ensures, c.if-taken-next.false))
      ]);
      calls = λ less within. record {
        low_called = subst (λ f. Calls m c.args.low.now.register.disk c.loop-n.low.register.disk f) (sym (ap not i.ready_low.ready.is_open)) (i.calls_low (omega (arith, less, count, c.loop-n-test.false)));
        receiver_called =
            let called = i.calls_receiver (omega (arith, less, count, c.loop-n-test.false)) in
            inl (subst (λ f. Calls m c.args.receiver.now.register.disk c.loop-n.receiver.register.disk f) (sym (ap not i.ready_receiver.is_open)) called.0, called.1);
      };
      «open» = (i.ready_low.ready.is_open, i.ready_receiver.is_open);
      low = record {
        ready = λ _. i.ready_low;
        count = i.low_is.0;
        row = i.low_is.1;
        moves = i.moves_low;
      };
      receiver = record {
        ready = λ _. i.ready_receiver;
        count = i.receiver_is.0;
        end = i.receiver_is.1;
        row = i.receiver_is.2;
        size = i.receiver_is.3;
        moves = i.moves_receiver;
      };
    }

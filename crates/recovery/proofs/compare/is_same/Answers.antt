use Rattle.std.proofs.Common.{◌≡◌, ◌∙◌, inl, inr, ℕ, List, ◌≤◌, false, not, length, refl, sym, ap, subst, arith}
use Rattle.std.proofs.lemmas.Bool.{cases_lt, false≢true}
use Rattle.disk_model.specs.Disk.{Same}
use Rattle.disk_model.proofs.Run.{started}
use Rattle.stable_buffer.specs.Stands.{InSlot}
use Rattle.recovery.specs.declared.why.Why.TheVariants.{Device}
use Rattle.recovery.proofs.Slots.{slot_length, slot_one}
use Rattle.recovery.proofs.Comparing.{calls_ok, calls_err}
use Rattle.recovery.proofs.Calls.{not_armed}
use Rattle.recovery.proofs.compare.is_same.Goals as goal

pub returns-then-length-len : goal.returns-then-length-len
returns-then-length-len g c =
    let m = g.D.Disk.told in
    let row = c.args.low.now.row in
    let s = c.in-Ok.ensures in
    record {
      same = record {
        same = λ is. elim (false≢true is) [ ];
        other = λ _ told ms stand has.
            let e = s.read.is told ∙ slot_length row c.requires.low.ranges.short c.args.n _ (m.reading c.args.low.now.register.disk) has in
            let short : c.in-Ok.length ≤ row.message = omega (arith, e, has.fits) in
            omega (arith, s.read.fits short, c.len.ensures.value, c.if-length-len.true);
      };
      device = tt;
      told = tt;
      calls = record {
        low_called = calls_ok m _ _ _ _ s.answers _ (ap not s.ready.ready.is_open);
        receiver_called = inr (
          refl,
          (λ plan go.
              let e = s.read.is (m.plan_tells plan) in
              let short : c.in-Ok.length ≤ row.message = omega (arith, e, go.1) in
              omega (arith, s.read.fits short, c.len.ensures.value, c.if-length-len.true)),
        );
      };
      called = λ is. elim (false≢true is) [ ];
      «open» = (s.ready.ready.is_open, c.requires.receiver.is_open);
      low = record {
        ready = λ _. s.ready;
        count = s.keeps.count;
        row = s.keeps.row;
        moves = s.keeps.moves;
      };
      receiver = record {
        ready = λ _. c.requires.receiver;
        count = refl;
        end = refl;
        row = refl;
        size = refl;
        moves = started m Same (λ d. refl) c.args.receiver.now.register.disk;
      };
    }

pub returns-in-Err : goal.returns-in-Err
returns-in-Err g c =
    let m = g.D.Disk.told in
    let e = c.in-Err.ensures in
    let holds = λ (plan : m.tells_plan). (c.requires.low.stands (m.plan_tells plan)).2.size in
    record {
      same = tt;
      device = refl;
      told = record {
        low_faults = λ _. λ _. ap Device e.device;
        receiver_faults = λ _. λ shut. elim (false≢true (sym shut ∙ c.requires.receiver.is_open)) [ ];
        shut = λ _. inl e.closed;
        one = λ _. c.requires.receiver.is_open;
        both = λ is. elim (false≢true (sym is)) [ ];
      };
      calls = record {
        low_called = calls_err m _ _ _ _ e.answers (λ plan. omega (arith, holds plan)) _ (ap not e.closed);
        receiver_called = inr (refl, (λ plan go. absurd (false≢true (e.answers.never plan go.0 (omega (arith, holds plan))))));
      };
      called = tt;
      «open» = tt;
      low = record {
        ready = λ is_open. elim (false≢true (sym e.closed ∙ is_open)) [ ];
        count = e.keeps.count;
        row = e.keeps.row;
        moves = e.keeps.moves;
      };
      receiver = record {
        ready = λ _. c.requires.receiver;
        count = refl;
        end = refl;
        row = refl;
        size = refl;
        moves = started m Same (λ d. refl) c.args.receiver.now.register.disk;
      };
    }

pub returns-in-Err-message : goal.returns-in-Err-message
returns-in-Err-message g c =
    let m = g.D.Disk.told in
    let row = c.args.low.now.row in
    let l = c.in-Ok.length in
    let s = c.in-Ok.ensures in
    let e = c.in-Err-message.ensures in
    let short : l ≤ row.message = elim (cases_lt row.message l) [
      | inl long ↦ absurd (omega (arith, ap length (s.read.left long ∙ c.default-stored.ensures), c.len.ensures.value, c.if-length-len.false, long))
      | inr le ↦ le
    ] in
    record {
      same = tt;
      device = refl;
      told = record {
        low_faults = λ _. λ shut. elim (false≢true (sym shut ∙ s.ready.ready.is_open)) [ ];
        receiver_faults = λ _. λ _. ap Device e.device;
        shut = λ _. inr e.closed;
        one = λ shut. elim (false≢true (sym shut ∙ s.ready.ready.is_open)) [ ];
        both = λ is. elim (false≢true (sym is)) [ ];
      };
      calls = record {
        low_called = calls_ok m _ _ _ _ s.answers _ (ap not s.ready.ready.is_open);
        receiver_called = inl (
          calls_err m _ _ _ _ e.answers (λ _. tt) _ (ap not e.closed),
          (λ plan. (not_armed _ (s.answers.always plan), (let k = s.read.is (m.plan_tells plan) in omega (arith, k, short)))),
        );
      };
      called = tt;
      «open» = tt;
      low = record {
        ready = λ _. s.ready;
        count = s.keeps.count;
        row = s.keeps.row;
        moves = s.keeps.moves;
      };
      receiver = record {
        ready = λ is_open. elim (false≢true (sym e.closed ∙ is_open)) [ ];
        count = e.keeps.count;
        end = e.keeps.end;
        row = e.keeps.row;
        size = e.keeps.size;
        moves = e.keeps.moves;
      };
    }

pub returns : goal.returns
returns g c =
    let m = g.D.Disk.told in
    let row = c.args.low.now.row in
    let l = c.in-Ok.length in
    let s = c.in-Ok.ensures in
    let e = c.in_default.ensures in
    let short : l ≤ row.message = elim (cases_lt row.message l) [
      | inl long ↦ absurd (omega (arith, ap length (s.read.left long ∙ c.default-stored.ensures), c.len.ensures.value, c.if-length-len.false, long))
      | inr le ↦ le
    ] in
    record {
      same = record {
        same = λ is told ms stand. subst (λ (x : List ℕ). InSlot row c.args.n x (m.reading c.args.low.now.register.disk)) (c.are_equal.ensures.equal is ∙ e.message told ms stand) (s.read.stands short told);
        other = λ is told ms stand has.
            let one : c.slot.new.into ≡ c.message.new.into =
            slot_one row c.requires.low.ranges.short c.args.n _ _ (m.reading c.args.low.now.register.disk) (s.read.stands short told) has ∙ sym (e.message told ms stand) in
            c.are_equal.ensures.unequal is one;
      };
      device = tt;
      told = tt;
      calls = record {
        low_called = calls_ok m _ _ _ _ s.answers _ (ap not s.ready.ready.is_open);
        receiver_called = inl (
          calls_ok m _ _ _ _ e.answers _ (ap not e.ready.is_open),
          (λ plan. (not_armed _ (s.answers.always plan), (let k = s.read.is (m.plan_tells plan) in omega (arith, k, short)))),
        );
      };
      called = λ is. (
        calls_ok m _ _ _ _ e.answers false refl,
        (λ plan. (not_armed _ (s.answers.always plan), (let k = s.read.is (m.plan_tells plan) in omega (arith, k, short)))),
      );
      «open» = (s.ready.ready.is_open, e.ready.is_open);
      low = record {
        ready = λ _. s.ready;
        count = s.keeps.count;
        row = s.keeps.row;
        moves = s.keeps.moves;
      };
      receiver = record {
        ready = λ _. e.ready;
        count = e.keeps.count;
        end = e.keeps.end;
        row = e.keeps.row;
        size = e.keeps.size;
        moves = e.keeps.moves;
      };
    }

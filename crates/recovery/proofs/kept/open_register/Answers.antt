use Rattle.std.proofs.Common.{◌∙◌, length, ap, arith, false, true, refl, sym}
use Rattle.std.proofs.lemmas.Bool.{false≢true}
use Rattle.disk_model.specs.Disk.{Same}
use Rattle.disk_model.proofs.Run.{goes_on_same}
use Rattle.recovery.specs.declared.why.Why.TheVariants.{Device}
use Rattle.stable_buffer.specs.Register.{value_of}
use Rattle.recovery.proofs.Comparing.{calls_ok, calls_err, calls_on}
use Rattle.recovery.proofs.kept.open_register.Goals as goal

pub returns-in-Err : goal.returns-in-Err
returns-in-Err g c =
    let e = c.in-Err.ensures in
    record {
      ready = tt;
      settled = tt;
      value = tt;
      size = tt;
      fine = tt;
      header = tt;
      back = record {
        exact = e.exact;
        device = e.device;
        calls = e.calls;
        same = e.moves;
      };
      calls = tt;
      same = tt;
    }

pub returns-in-Ok-open : goal.returns-in-Ok-open
returns-in-Ok-open g c =
    let m = g.D.Disk.told in
    let mid = c.check_shape.new.disk in
    let register = c.in-Ok-open.register in
    let e = c.in-Ok.ensures in
    let o = c.in-Ok-open.ensures in
    record {
      ready = o.ready;
      settled = o.settled;
      value = λ told. o.found told ∙ ap value_of (e.moves.reads told);
      size = e.size;
      fine = e.fine;
      header = e.header;
      back = tt;
      calls = calls_on m c.args.disk mid register.disk false e.calls (calls_ok m _ mid register.disk register o.answers false refl);
      same = goes_on_same m Same _ _ _ e.moves o.moves;
    }

pub returns-in-Err-open : goal.returns-in-Err-open
returns-in-Err-open g c =
    let m = g.D.Disk.told in
    let mid = c.check_shape.new.disk in
    let disk = c.in-Err-open.disk in
    let e = c.in-Ok.ensures in
    let o = c.in-Err-open.ensures in
    record {
      ready = tt;
      settled = tt;
      value = tt;
      size = tt;
      fine = tt;
      header = tt;
      back = record {
        exact = λ fine. elim (false≢true (sym fine)) [ ];
        device = λ _. ap Device c.faults-faults.ensures;
        calls = calls_on m c.args.disk mid disk true e.calls (calls_err m _ mid disk _ o.answers (λ plan. let told = m.plan_tells plan in omega (arith, e.whole, e.size told, ap length (e.moves.reads told))) true refl);
        same = goes_on_same m Same _ _ _ e.moves o.moves;
      };
      calls = tt;
      same = tt;
    }

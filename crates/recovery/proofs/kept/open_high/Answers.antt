use Rattle.std.proofs.Common.{◌≡◌, ◌∙◌, ◌⊎◌, inl, inr, ◌<◌, ◌^◌, sym, subst, rules, false}
use Rattle.std.proofs.lemmas.Bool.{false≢true}
use Rattle.disk_model.specs.Disk.{Moves, Same}
use Rattle.disk_model.specs.declared.name.Role.TheVariants.{High}
use Rattle.recovery.specs.Calls.{Calls}
use Rattle.recovery.proofs.Openings.{refused_alone, count_alone, fine_alone}
use Rattle.recovery.proofs.kept.open_high.Goals as goal
use Rattle.recovery.proofs.kept.open_high.Goals.{then-first-gt-GREATEST_COUNT-via-then-first-gt-GREATEST_COUNT, then-first-gt-GREATEST_COUNT-via-else-first-gt-GREATEST_COUNT+then-second-ne0}

pub returns-in-Err : goal.returns-in-Err
returns-in-Err g c =
    let e = c.in-Err.ensures in
    record {
      ready = tt;
      stands = tt;
      fine = tt;
      back = record {
        exact = λ fine told. refused_alone c.args.row.now High (g.D.Disk.told.reading c.args.disk) c.in-Err.refused.1 (e.back.exact fine told);
        device = e.back.device;
        calls = e.back.calls;
        same = e.back.same;
      };
      calls = tt;
      same = tt;
    }

pub returns-then-first-gt-GREATEST_COUNT : goal.returns-then-first-gt-GREATEST_COUNT
returns-then-first-gt-GREATEST_COUNT g c =
    let m = g.D.Disk.told in
    let e = c.in-Ok.ensures in
    let v = c.value-first.result in
    let apart : (2 ^ 48 < v.0) ⊎ (v.1 ≡ 0 → ⊥) = elim c.then-first-gt-GREATEST_COUNT.branch [
      | then-first-gt-GREATEST_COUNT-via-then-first-gt-GREATEST_COUNT w ↦ inl w.if-first-gt-GREATEST_COUNT.true
      | then-first-gt-GREATEST_COUNT-via-else-first-gt-GREATEST_COUNT+then-second-ne0 w ↦ inr w.if-second-ne0.true
    ] in
    let back = sym c.into_disk-disk.ensures in
    record {
      ready = tt;
      stands = tt;
      fine = tt;
      back = record {
        exact = λ _ told. count_alone c.args.row.now High (m.reading c.args.disk) v.0 v.1 (e.fine told) (c.value-first.ensures ∙ e.value told) apart;
        device = λ is. elim (false≢true is) [ ];
        calls = subst (λ d. Calls m c.args.disk d false) back e.calls;
        same = subst (λ d. Moves m Same c.args.disk d) back e.same;
      };
      calls = tt;
      same = tt;
    }

pub returns-else-second-ne0 : goal.returns-else-second-ne0
returns-else-second-ne0 g c =
    let m = g.D.Disk.told in
    let e = c.in-Ok.ensures in
    let over = c.over.ensures in
    let v = c.value-first.result in
    record {
      ready = over.ready;
      stands = search rules;
      fine = λ told. fine_alone c.args.row.now High (m.reading c.args.disk) v.0 v.1 (e.fine told) (c.value-first.ensures ∙ e.value told) c.if-first-gt-GREATEST_COUNT.false c.if-second-ne0.false;
      back = tt;
      calls = subst (λ d. Calls m c.args.disk d false) (sym over.disk) e.calls;
      same = subst (λ d. Moves m Same c.args.disk d) (sym over.disk) e.same;
    }

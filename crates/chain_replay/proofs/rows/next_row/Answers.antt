use Rattle.std.proofs.Common.{◌+◌, ◌-◌, ◌^◌, min, [], refl, ap, arith, ◌∙◌}
use Rattle.script_reader.specs.Lines.{to_come}
use Rattle.script_replay.proofs.SoFar.{within_failed}
use Rattle.chain_replay.proofs.Reading.{so_far_kept, halted_line, halted_bad, halted_end, read_skip, read_row}
use Rattle.chain_replay.proofs.rows.next_row.Goals as goal

pub turns-init : goal.turns-init
turns-init g c = (λ o all begun lacks h. h, c.requires.few, omega arith)

pub turns-preserved : goal.turns-preserved
turns-preserved g c =
    let i = c.turns.invariant in
    let n = c.in-Line.ensures.next in (
      λ o all begun lacks h. read_skip o all c.turns.lines c.next_head.new.self _ _ begun _ lacks (i.0 o all begun lacks h) n (c.in-Line.ensures.few (λ e. cc) (λ e. cc)) (c.in-Nothing.ensures c.next_head.new.body),
      c.in-Line.ensures.few (λ e. cc) (λ e. cc),
      omega (arith, c.next_head.ensures.later, i.2),
    )

pub returns-in-Pump-clause-row : goal.returns-in-Pump-clause-row
returns-in-Pump-clause-row g c = λ o all begun lacks h.
    read_row o all c.turns.lines c.next_head.new.self _ _ begun _ c.in-Pump.row (c.turns.invariant.0 o all begun lacks h) c.in-Line.ensures.next (c.in-Pump.ensures c.next_head.new.body).0

pub returns-in-Pump-clause-held : goal.returns-in-Pump-clause-held
returns-in-Pump-clause-held g c = let n = c.in-Line.ensures.next in omega (arith, n.5)

pub returns-in-Wrongly-clause-halted : goal.returns-in-Wrongly-clause-halted
returns-in-Wrongly-clause-halted g c = λ o all begun lacks h.
    let t = c.turns.invariant.0 o all begun lacks h in
    let n = c.in-Line.ensures.next in
    record {
      lines = t.0;
      rest = to_come c.turns.lines (g.I.Source.left c.turns.script);
      so_far = t.1;
      halted = halted_line o all c.turns.lines c.next_head.new.self _ _ begun [] t _ n c.number.result (g.I.Source.faults c.args.script.now) (g.I.Source.faults c.next_head.new.script) (c.in-Wrongly.ensures c.next_head.new.body begun lacks) c.number.ensures (omega arith);
    }

pub returns-in-Bad-clause-halted : goal.returns-in-Bad-clause-halted
returns-in-Bad-clause-halted g c = λ o all begun lacks h.
    let t = c.turns.invariant.0 o all begun lacks h in
    let n = c.in-Bad.ensures.next in
    record {
      lines = t.0;
      rest = to_come c.turns.lines (g.I.Source.left c.turns.script);
      so_far = t.1;
      halted = halted_bad o all c.turns.lines c.next_head.new.self _ _ begun [] t n c.number-in-Bad.result (g.I.Source.faults c.args.script.now) (g.I.Source.faults c.next_head.new.script) c.number-in-Bad.ensures;
    }

pub returns-in-Failed-clause-halted : goal.returns-in-Failed-clause-halted
returns-in-Failed-clause-halted g c = λ o all begun lacks h.
    let t = c.turns.invariant.0 o all begun lacks h in
    let n = c.in-Failed.ensures.next in
    record {
      lines = t.0;
      rest = to_come c.next_head.new.self (g.I.Source.left c.next_head.new.script);
      so_far = so_far_kept o all _ _ t.0 begun [] t.1 n.0;
      halted = (omega (arith, c.in-Failed.ensures.failed refl, c.turns.invariant.2), within_failed c.turns.lines c.next_head.new.self _ _ n);
    }

pub returns-in-Failed-clause-number : goal.returns-in-Failed-clause-number
returns-in-Failed-clause-number g c = let n = c.in-Failed.ensures.next in omega (arith, n.1, c.turns.invariant.1)

pub returns-in-End-clause-halted : goal.returns-in-End-clause-halted
returns-in-End-clause-halted g c = λ o all begun lacks h.
    let t = c.turns.invariant.0 o all begun lacks h in
    let n = c.in-End.ensures.next in
    let r = c.in-End.ensures.reads in
    record {
      lines = t.0;
      rest = to_come c.turns.lines (g.I.Source.left c.turns.script);
      so_far = t.1;
      halted = halted_end o all c.turns.lines c.next_head.new.self _ _ begun [] t n c.saturating_add.result (g.I.Source.faults c.args.script.now) (g.I.Source.faults c.next_head.new.script) lacks (r.2.0 ∙ r.2.1) (c.saturating_add.ensures ∙ ap (λ k. min (k + 1) (2 ^ 32 - 1)) (c.number-in-End.ensures ∙ n.2));
    }

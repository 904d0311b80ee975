use Rattle.std.proofs.Common.{◌≡◌, sym, subst, ◌∙◌, arith}
use Rattle.script_reader.specs.Lines.{LineIsReady}
use Rattle.script_reader.proofs.LineEnds.{not_ended, unready, Keeps-then}
use Rattle.script_reader.proofs.ReadLaws.{reads_more, reads_kept}
use Rattle.script_reader.proofs.held_lines.HeldLines.first_line.Goals as goal

pub returns-in-Some-clause-first : goal.returns-in-Some-clause-first
returns-in-Some-clause-first g c = sym c.line_end.ensures.at ∙ c.in-Some.is

pub returns-then-held-gt2400-clause-first : goal.returns-then-held-gt2400-clause-first
returns-then-held-gt2400-clause-first g c = (
  not_ended c.turns.self (sym c.line_end.ensures.at ∙ c.in_default.is),
  rw (← c.held.ensures.held) c.if-held-gt2400.true,
)

pub returns-in-Ok-eq0-clause-first : goal.returns-in-Ok-eq0-clause-first
returns-in-Ok-eq0-clause-first g c =
    let fill = c.in-Ok-eq0.ensures in
    let same : c.fill.new.self ≡ c.turns.self = fill.same c.in-Ok-eq0.field-0-test in (
      rw same (not_ended c.turns.self (sym c.line_end.ensures.at ∙ c.in_default.is)),
      fill.end c.in-Ok-eq0.field-0-test,
    )

pub returns-in-Ok-eq0-clause-kept : goal.returns-in-Ok-eq0-clause-kept
returns-in-Ok-eq0-clause-kept g c = Keeps-then _ _ _ c.turns.invariant.0 c.in-Ok-eq0.ensures.kept

pub returns-in-Ok-eq0-clause-reads : goal.returns-in-Ok-eq0-clause-reads
returns-in-Ok-eq0-clause-reads g c =
    let fill = c.in-Ok-eq0.ensures in
    reads_more _ c.turns.self _ fill.fills.0 _ _ _ c.turns.invariant.3
    (unready c.turns.self (sym c.line_end.ensures.at ∙ c.in_default.is) (rw (← c.held.ensures.held) c.if-held-gt2400.false))
    fill.fills.3 fill.fills.2

pub returns-in-Ok-eq0-clause-unasked : goal.returns-in-Ok-eq0-clause-unasked
returns-in-Ok-eq0-clause-unasked g c =
    λ ready. absurd (unready c.turns.self (sym c.line_end.ensures.at ∙ c.in_default.is) (rw (← c.held.ensures.held) c.if-held-gt2400.false) (rw ((c.turns.invariant.2 ready).0) ready))

pub returns-in-Err-clause-first : goal.returns-in-Err-clause-first
returns-in-Err-clause-first g c =
    λ ready. unready c.turns.self (sym c.line_end.ensures.at ∙ c.in_default.is) (rw (← c.held.ensures.held) c.if-held-gt2400.false) (subst LineIsReady c.in-Err.ensures.fills.0 ready)

pub returns-in-Err-clause-kept : goal.returns-in-Err-clause-kept
returns-in-Err-clause-kept g c = Keeps-then _ _ _ c.turns.invariant.0 c.in-Err.ensures.kept

pub returns-in-Err-clause-reads : goal.returns-in-Err-clause-reads
returns-in-Err-clause-reads g c =
    let fill = c.in-Err.ensures in
    reads_kept _ c.turns.self _ _ _ _ c.turns.invariant.3 fill.fills.1 fill.fills.0

pub returns-in-Err-clause-unasked : goal.returns-in-Err-clause-unasked
returns-in-Err-clause-unasked g c =
    λ ready. absurd (unready c.turns.self (sym c.line_end.ensures.at ∙ c.in_default.is) (rw (← c.held.ensures.held) c.if-held-gt2400.false) (rw ((c.turns.invariant.2 ready).0) ready))

pub turns-preserved : goal.turns-preserved
turns-preserved g c =
    let fill = c.in-Ok.ensures in (
      Keeps-then _ _ _ c.turns.invariant.0 fill.kept,
      omega (arith, c.turns.invariant.1, fill.cause.later),
      λ ready. absurd (unready c.turns.self (sym c.line_end.ensures.at ∙ c.in_default.is) (rw (← c.held.ensures.held) c.if-held-gt2400.false) (rw ((c.turns.invariant.2 ready).0) ready)),
      reads_more _ c.turns.self _ fill.fills.0 _ _ _ c.turns.invariant.3
          (unready c.turns.self (sym c.line_end.ensures.at ∙ c.in_default.is) (rw (← c.held.ensures.held) c.if-held-gt2400.false))
          fill.fills.3 fill.fills.2,
    )

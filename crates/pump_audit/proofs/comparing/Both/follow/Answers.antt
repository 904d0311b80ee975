use Rattle.std.proofs.Common.{◌∙◌, refl, sym, arith}
use Rattle.pump_audit.proofs.BothLaws.{cut_off, too_many, outside, goes_on, separated, end_comes}
use Rattle.pump_audit.proofs.comparing.Both.follow.Goals as goal

pub returns-in-Cut-clause-side : goal.returns-in-Cut-clause-side
returns-in-Cut-clause-side g c first bytes before goes =
    cut_off first c.args.is_first before bytes c.lines.side c.lines.self.lines _ (c.lines.invariant.goes first bytes before goes) c.in-Cut.ensures.next

pub returns-in-End-clause-side : goal.returns-in-End-clause-side
returns-in-End-clause-side g c first bytes before goes =
    end_comes first c.args.is_first before bytes c.lines.side c.lines.self.lines _ (c.lines.invariant.goes first bytes before goes) _ c.ended.result c.in-End.ensures.next c.ended.ensures

pub returns-then-lines-clause-side : goal.returns-then-lines-clause-side
returns-then-lines-clause-side g c first bytes before goes =
    too_many first c.args.is_first before bytes c.lines.side c.lines.self.lines _ (c.lines.invariant.goes first bytes before goes) _ c.next.new.text.items (omega (arith, c.if-lines.true, c.lines-lines.ensures)) c.in-Text.ensures.next.1

pub returns-then-is_separator-clause-side : goal.returns-then-is_separator-clause-side
returns-then-is_separator-clause-side g c first bytes before goes =
    let is = c.is_separator.ensures.yes c.if-is_separator.true in
    (separated first c.args.is_first before bytes c.lines.side c.lines.self.lines _ (c.lines.invariant.goes first bytes before goes) c.lines-lines.result c.lines-lines.ensures _ c.next.new.text.items c.in-Text.ensures.next.1 is.0 is.1 (sym c.as_slice.ensures.value ∙ is.2))

pub lines-preserved : goal.lines-preserved
lines-preserved g c =
    let added = rw (c.in-Ok-true.field-0-test, c.as_slice-in-lines.ensures.value) at c.in-Ok-true.ensures in
    record {
      goes = λ first bytes before goes.
          let was = c.lines.invariant.goes first bytes before goes in
          (goes_on first c.args.is_first before bytes c.lines.side c.lines.self.lines _ was c.lines-lines.result c.lines-lines.ensures _ c.next.new.text.items c.add.new.self c.in-Text.ensures.next.0 c.in-Text.ensures.next.1 (added first was.so_far was.stands));
      later = omega (arith, c.lines.invariant.later, c.next.ensures.later);
    }

pub returns-in-Ok-false-clause-side : goal.returns-in-Ok-false-clause-side
returns-in-Ok-false-clause-side g c first bytes before goes =
    let was = c.lines.invariant.goes first bytes before goes in
    let added = rw (c.in-Ok-false.field-0-test, c.as_slice-in-lines.ensures.value) at c.in-Ok-false.ensures in
    let other = rw c.as_slice.ensures.value at (c.is_separator.ensures.no c.if-is_separator.false) in
    outside first c.args.is_first before bytes c.lines.side c.lines.self.lines _ was _ c.next.new.text.items c.in-Text.ensures.next.0 c.in-Text.ensures.next.1 other (added first was.so_far was.stands)

pub returns-in-Cut-clause-read : goal.returns-in-Cut-clause-read
returns-in-Cut-clause-read g c = λ failed. cc

pub returns-in-Cut-clause-later : goal.returns-in-Cut-clause-later
returns-in-Cut-clause-later g c = omega (arith, c.lines.invariant.later, c.next.ensures.later)

pub returns-in-End-clause-read : goal.returns-in-End-clause-read
returns-in-End-clause-read g c = λ failed. cc

pub returns-in-End-clause-later : goal.returns-in-End-clause-later
returns-in-End-clause-later g c = omega (arith, c.lines.invariant.later, c.next.ensures.later)

pub returns-then-lines-clause-read : goal.returns-then-lines-clause-read
returns-then-lines-clause-read g c = λ failed. cc

pub returns-then-lines-clause-later : goal.returns-then-lines-clause-later
returns-then-lines-clause-later g c = omega (arith, c.lines.invariant.later, c.next.ensures.later)

pub returns-then-is_separator-clause-read : goal.returns-then-is_separator-clause-read
returns-then-is_separator-clause-read g c = λ failed. cc

pub returns-then-is_separator-clause-later : goal.returns-then-is_separator-clause-later
returns-then-is_separator-clause-later g c = omega (arith, c.lines.invariant.later, c.next.ensures.later)

pub returns-in-Ok-false-clause-read : goal.returns-in-Ok-false-clause-read
returns-in-Ok-false-clause-read g c = λ failed. cc

pub returns-in-Ok-false-clause-later : goal.returns-in-Ok-false-clause-later
returns-in-Ok-false-clause-later g c = omega (arith, c.lines.invariant.later, c.next.ensures.later)

pub returns-in-Failed : goal.returns-in-Failed
returns-in-Failed g c = record {
  side = λ first bytes before goes. tt;
  read = λ failed. (let rose = c.in-Failed.ensures.failed refl in let before = c.lines.invariant.later in omega (arith, rose, before));
  later = omega (arith, c.lines.invariant.later, c.next.ensures.later);
}

pub returns-in-Err : goal.returns-in-Err
returns-in-Err g c = record {
  side = λ first bytes before goes. tt;
  read = λ failed. cc;
  later = omega (arith, c.lines.invariant.later, c.next.ensures.later);
}

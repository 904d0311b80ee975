use Rattle.std.proofs.Common.{◌≡◌, ◌+◌, ◌^◌, ◌<◌, refl, arith}
use Rattle.pump_audit.proofs.StreamLaws.{goes_on, stops, cut_off, too_many, ends}
use Rattle.pump_audit.proofs.checking.follow.Goals as goal

pub returns-in-Cut-clause-verdict : goal.returns-in-Cut-clause-verdict
returns-in-Cut-clause-verdict g c bytes reads =
    rw c.misplaced.ensures (cut_off bytes c.lines.audit _ (c.lines.invariant.reads bytes reads) (c.from-line.result + 1) (omega (arith, c.from-line.ensures, c.lines-lines.ensures)) c.in-Cut.ensures.next)

pub returns-in-End-clause-verdict : goal.returns-in-End-clause-verdict
returns-in-End-clause-verdict g c bytes reads =
    let was = c.lines.invariant.reads bytes reads in
    ends bytes c.lines.audit _ was c.verdict.result c.in-End.ensures.next (c.verdict.ensures was.so_far was.audits)

pub returns-then-lines-clause-verdict : goal.returns-then-lines-clause-verdict
returns-then-lines-clause-verdict g c bytes reads =
    let next = c.in-Text.ensures.next in
    let line : c.from-line.result + 1 ≡ c.lines.audit.lines + 1 = omega (arith, c.from-line.ensures, c.lines-lines.ensures) in
    rw c.misplaced-then-lines.ensures (too_many bytes c.lines.audit _ (c.lines.invariant.reads bytes reads) _ c.next.new.text.items (c.from-line.result + 1) line (omega (arith, c.if-lines.true, c.lines-lines.ensures)) next.1)

pub lines-preserved : goal.lines-preserved
lines-preserved g c =
    let next = c.in-Text.ensures.next in
    let more = rw c.in-Ok-None.field-0-is at c.in-Ok-None.ensures.more in
    let is = rw (c.in-Ok-None.field-0-is, c.as_slice.ensures.value) at c.in-Ok-None.ensures.is in
    record {
      reads = λ bytes reads.
          let was = c.lines.invariant.reads bytes reads in
          goes_on bytes c.lines.audit _ was c.add.new.self _ c.next.new.text.items next.0 next.1 (is was.so_far was.audits) (omega (arith, more, c.if-lines.false, c.lines-lines.ensures));
      later = omega (arith, c.lines.invariant.later, c.next.ensures.later);
    }

pub returns-in-Ok-Some-clause-verdict : goal.returns-in-Ok-Some-clause-verdict
returns-in-Ok-Some-clause-verdict g c bytes reads =
    let next = c.in-Text.ensures.next in
    let was = c.lines.invariant.reads bytes reads in
    let line : c.from-line.result + 1 ≡ c.lines.audit.lines + 1 = omega (arith, c.from-line.ensures, c.lines-lines.ensures) in
    let few : c.lines.audit.lines + 1 < 2 ^ 32 = omega (arith, c.if-lines.false, c.lines-lines.ensures) in
    let is = rw (c.in-Ok-Some.field-0-is, c.as_slice.ensures.value) at c.in-Ok-Some.ensures.is in
    stops bytes c.lines.audit _ was _ c.next.new.text.items (c.from-line.result + 1) c.in-Ok-Some.cause line few next.0 next.1 (is was.so_far was.audits)

pub returns-in-Cut-clause-read : goal.returns-in-Cut-clause-read
returns-in-Cut-clause-read g c = λ failed. cc

pub returns-in-Cut-clause-later : goal.returns-in-Cut-clause-later
returns-in-Cut-clause-later g c = omega (arith, c.lines.invariant.later, c.next.ensures.later)

pub returns-in-End-clause-read : goal.returns-in-End-clause-read
returns-in-End-clause-read g c = λ failed. cc

pub returns-in-End-clause-later : goal.returns-in-End-clause-later
returns-in-End-clause-later g c = omega (arith, c.lines.invariant.later, c.next.ensures.later)

pub returns-then-lines-clause-read : goal.returns-then-lines-clause-read
returns-then-lines-clause-read g c = λ failed. cc

pub returns-then-lines-clause-later : goal.returns-then-lines-clause-later
returns-then-lines-clause-later g c = omega (arith, c.lines.invariant.later, c.next.ensures.later)

pub returns-in-Ok-Some-clause-read : goal.returns-in-Ok-Some-clause-read
returns-in-Ok-Some-clause-read g c = λ failed. cc

pub returns-in-Ok-Some-clause-later : goal.returns-in-Ok-Some-clause-later
returns-in-Ok-Some-clause-later g c = omega (arith, c.lines.invariant.later, c.next.ensures.later)

pub returns-in-Failed : goal.returns-in-Failed
returns-in-Failed g c = record {
  verdict = λ bytes reads. tt;
  read = λ failed. (let rose = c.in-Failed.ensures.failed refl in let before = c.lines.invariant.later in omega (arith, rose, before));
  later = omega (arith, c.lines.invariant.later, c.next.ensures.later);
}

pub returns-in-Err : goal.returns-in-Err
returns-in-Err g c = record {
  verdict = λ bytes reads. tt;
  read = λ failed. cc;
  later = omega (arith, c.lines.invariant.later, c.next.ensures.later);
}

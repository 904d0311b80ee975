use Rattle.std.proofs.Common.{arith}
use Rattle.pump_audit.proofs.BothLaws.{first_none, first_full, first_outside, first_goes}
use Rattle.pump_audit.proofs.comparing.Both.side.Goals as goal

pub returns-in-Cut-clause-side : goal.returns-in-Cut-clause-side
returns-in-Cut-clause-side g c first bytes told known = first_none first c.args.is_first c.args.self.now.lines bytes _ known _ c.next.new.text.items c.next.result c.in-Cut.is c.next.ensures.next

pub returns-then-lines-clause-side : goal.returns-then-lines-clause-side
returns-then-lines-clause-side g c first bytes told known =
    first_full first c.args.is_first c.args.self.now.lines bytes _ known _ c.next.new.text.items (omega (arith, c.if-lines.true, c.lines-lines.ensures)) c.in-Text.ensures.next.1

pub returns-in-Some-clause-side : goal.returns-in-Some-clause-side
returns-in-Some-clause-side g c first bytes told known =
    let opened = rw (c.in-Some.is, c.as_slice.ensures.value) at (c.begin.ensures first told) in
    c.follow.ensures.side first bytes c.args.self.now.lines
    (first_goes first c.args.is_first c.args.self.now.lines bytes _ known c.lines-lines.result c.lines-lines.ensures _ c.next.new.text.items c.in-Some.side c.in-Text.ensures.next.0 c.in-Text.ensures.next.1 opened)

pub returns-in-None-clause-side : goal.returns-in-None-clause-side
returns-in-None-clause-side g c first bytes told known =
    let opened = rw (c.in-None.is, c.as_slice.ensures.value) at (c.begin.ensures first told) in
    first_outside first c.args.is_first c.args.self.now.lines bytes _ known _ c.next.new.text.items c.in-Text.ensures.next.0 c.in-Text.ensures.next.1 opened

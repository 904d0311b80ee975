use Rattle.std.proofs.Common.{ap, ◌∙◌, sym}
use Rattle.std.specs.Prelude.{◌&&◌, nat_eq}
use Rattle.std.specs.Str.{bytes_eq}
use Rattle.low_process.proofs.Greetings.{begins_otherwise, begins_so, no_colon}
use Rattle.low_process.proofs.frames.is_greeting.Goals as goal

pub returns-in_default : goal.returns-in_default
returns-in_default c = begins_otherwise c.args.payload.now c.args.low.now c.args.high.now c.in_default.ensures.cases

pub returns-then-colon-eq58 : goal.returns-then-colon-eq58
returns-then-colon-eq58 c =
    let begins = c.in-Some.ensures.cases in
    let s = c.in-Some-split_first in
    c.eq.ensures
    ∙ ap (λ n. nat_eq n 58 && bytes_eq s.name.now c.args.high.now) (sym c.if-colon-eq58.true)
    ∙ begins_so c.args.payload.now c.args.low.now c.args.high.now c.in-Some.rest.now s.name.now s.colon.now begins.0 begins.1 s.ensures.cases.0

pub returns-else-colon-eq58 : goal.returns-else-colon-eq58
returns-else-colon-eq58 c =
    let begins = c.in-Some.ensures.cases in
    let s = c.in-Some-split_first in
    no_colon s.colon.now (bytes_eq s.name.now c.args.high.now) c.if-colon-eq58.false
    ∙ begins_so c.args.payload.now c.args.low.now c.args.high.now c.in-Some.rest.now s.name.now s.colon.now begins.0 begins.1 s.ensures.cases.0

use Rattle.std.proofs.Common.{Some, codes, decimal, subst, sym, ap, ◌∙◌}
use Rattle.file_messages.specs.FileNames.{IsFileName}
use Rattle.folders.proofs.Dashes.{free_decimal, free_prefix, untrue}
use Rattle.folders.proofs.One.{built}
use Rattle.folders.proofs.reading.guess.Goals as goal

pub returns-in_err-text : goal.returns-in_err-text
returns-in_err-text c session mark low is shape = absurd (c.in_err-text.ensures (codes ".np") _ free_prefix shape)

pub returns-in_err-text-2 : goal.returns-in_err-text-2
returns-in_err-text-2 c session mark low is shape =
    let first = c.in_ok-text.ensures (codes ".np") _ free_prefix shape in
    absurd (c.in_err-text-2.ensures (decimal session) _ (free_decimal session low) first.1)

pub returns-in_err-stage : goal.returns-in_err-stage
returns-in_err-stage c session mark low is shape =
    let first = c.in_ok-text.ensures (codes ".np") _ free_prefix shape in
    let second = c.in_ok-text-2.ensures (decimal session) _ (free_decimal session low) first.1 in
    absurd (c.in_err-stage.ensures mark.stage mark.name is.numbers is.digest second.1)

pub returns-in_err-parse : goal.returns-in_err-parse
returns-in_err-parse c session mark low is shape =
    let first = c.in_ok-text.ensures (codes ".np") _ free_prefix shape in
    let second = c.in_ok-text-2.ensures (decimal session) _ (free_decimal session low) first.1 in
    let third = c.in_ok-stage.ensures mark.stage mark.name is.numbers is.digest second.1 in
    absurd (untrue (c.in_err-parse.ensures.some.1 (subst IsFileName (sym third.1) is.name)))

pub returns : goal.returns
returns c session mark low is shape =
    let first = c.in_ok-text.ensures (codes ".np") _ free_prefix shape in
    let second = c.in_ok-text-2.ensures (decimal session) _ (free_decimal session low) first.1 in
    let third = c.in_ok-stage.ensures mark.stage mark.name is.numbers is.digest second.1 in
    ap (λ stage. Some (built stage c.in_ok-parse.field-0)) third.0 ∙ ap (λ name. Some (built mark.stage name)) (c.in_ok-parse.ensures.value ∙ third.1)

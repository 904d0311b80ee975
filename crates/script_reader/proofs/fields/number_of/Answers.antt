use Rattle.std.proofs.Common.{◌^◌, sym, ◌∙◌, arith}
use Rattle.script_reader.proofs.FieldLaws.{number_takes, number_again, number_fewer, number_over}
use Rattle.script_reader.proofs.fields.number_of.Goals as goal

pub returns-in_err-n-clause-read : goal.returns-in_err-n-clause-read
returns-in_err-n-clause-read c = c.from_residual.ensures ∙ number_fewer c.args.bound c.args.field.now (omega arith) (sym c.any_number_of.ensures ∙ c.in_err-n.was)

pub returns-then-n-bound-clause-read : goal.returns-then-n-bound-clause-read
returns-then-n-bound-clause-read c =
    let p = number_takes (2 ^ 64) c.args.field.now c.in_ok-n.n (sym c.any_number_of.ensures ∙ c.in_ok-n.was) in
    rw p.1 (sym (number_again c.args.bound c.in_ok-n.n c.if-n-bound.true (omega arith)))

pub returns-else-n-bound-clause-read : goal.returns-else-n-bound-clause-read
returns-else-n-bound-clause-read c =
    let p = number_takes (2 ^ 64) c.args.field.now c.in_ok-n.n (sym c.any_number_of.ensures ∙ c.in_ok-n.was) in
    number_over c.args.bound c.args.field.now c.in_ok-n.n (omega arith) p.1 p.0 c.if-n-bound.false

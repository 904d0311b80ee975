use Rattle.std.proofs.Common.{◌≡◌, ◌+◌, List, ℕ, Some, take, inl, inr, arith, ap, ◌∙◌, subst}
use Rattle.std.specs.Str.Parse.{AllDigits, digits_value}
use Rattle.std.proofs.lemmas.List.{take_all}
use Rattle.std.proofs.lemmas.Str.{digit_value_digit}
use Rattle.std.proofs.lemmas.Int.Digits.{digits_more, digits_value_more}
use Rattle.script_reader.proofs.FieldLaws.{number_undigit, number_large, number_written}
use Rattle.script_reader.proofs.fields.long_number_of.Goals as goal

pub returns-then-not-is_ascii_digit : goal.returns-then-not-is_ascii_digit
returns-then-not-is_ascii_digit c = number_undigit c.args.field.now c.digits.i (omega arith) (λ r.
    elim c.if-not-is_ascii_digit.ensures.cases [
      | inl low ↦ absurd (omega (arith, r.0, low))
      | inr high ↦ absurd (omega (arith, r.1, high))
    ])

pub returns-in_err-tens : goal.returns-in_err-tens
returns-in_err-tens c =
    let more = digits_value_more 10 c.args.field.now c.digits.i (omega arith) in
    c.from_residual.ensures ∙ number_large c.args.field.now (c.digits.i + 1) (omega (arith, more, c.digits.invariant.1, c.in_err-tens.ensures))

pub returns-in_err-n : goal.returns-in_err-n
returns-in_err-n c =
    let more = digits_value_more 10 c.args.field.now c.digits.i (omega arith) in
    let digit = digit_value_digit _ c.if-not-is_ascii_digit.ensures.cases in
    c.from_residual-in_err-n.ensures ∙ number_large c.args.field.now (c.digits.i + 1) (omega (arith, more, digit, c.digits.invariant.1, c.in_ok-tens.ensures, c.from.ensures, c.in_err-n.ensures))

pub digits-preserved : goal.digits-preserved
digits-preserved c =
    let more = digits_value_more 10 c.args.field.now c.digits.i (omega arith) in
    let k = c.if-not-is_ascii_digit.ensures in
    let digit = digit_value_digit _ k.cases in (
      digits_more 10 c.args.field.now c.digits.i (omega arith) c.digits.invariant.0 k.bound,
      omega (arith, more, digit, c.digits.invariant.1, c.in_ok-tens.ensures, c.from.ensures, c.in_ok-n.ensures),
      omega (arith, c.in_ok-n.ensures),
    )

pub returns : goal.returns
returns c =
    let whole : take c.digits.i c.args.field.now ≡ c.args.field.now = take_all c.digits.i c.args.field.now (omega arith) in
    let all = subst (λ (f : List ℕ). AllDigits 10 f) whole c.digits.invariant.0 in
    let value : c.digits.n ≡ digits_value 10 c.args.field.now = c.digits.invariant.1 ∙ ap (digits_value 10) whole in
    ap Some value ∙ number_written c.args.field.now c.requires all (omega (arith, value, c.digits.invariant.2))

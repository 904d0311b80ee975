use Rattle.std.proofs.Common.{arith}
use Rattle.std.proofs.lemmas.Str.{digit_value_digit}
use Rattle.std.proofs.lemmas.Int.Digits.{digits_more, digits_value_more}
use Rattle.script_reader.proofs.FieldLaws.{few_digits}
use Rattle.script_reader.proofs.fields.leading_digits.Goals as goal

pub overflow_mul-n : goal.overflow_mul-n
overflow_mul-n c = omega (arith, few_digits c.args.bytes.now c.digits.i c.digits.invariant.0 (omega arith), c.digits.invariant.1)

pub overflow_add-n : goal.overflow_add-n
overflow_add-n c = omega (arith, few_digits c.args.bytes.now c.digits.i c.digits.invariant.0 (omega arith), c.digits.invariant.1)

pub digits-preserved : goal.digits-preserved
digits-preserved c =
    let more = digits_value_more 10 c.args.bytes.now c.digits.i (omega arith) in
    let k = c.if-not-is_ascii_digit.ensures in
    let digit = digit_value_digit _ k.cases in (
      digits_more 10 c.args.bytes.now c.digits.i (omega arith) c.digits.invariant.0 k.bound,
      omega (arith, more, digit, c.digits.invariant.1, c.from.ensures),
    )

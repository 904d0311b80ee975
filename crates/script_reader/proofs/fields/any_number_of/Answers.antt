use Rattle.std.proofs.Common.{rules, ◌≡◌, ◌^◌, List, ℕ, take, arith, subst}
use Rattle.std.specs.Str.Parse.{AllDigits}
use Rattle.std.proofs.lemmas.Bool.{iff_false}
use Rattle.std.proofs.lemmas.List.{take_all}
use Rattle.script_reader.specs.Parsing.{IsPlain}
use Rattle.script_reader.proofs.FieldLaws.{number_unplain, number_written, few_digits_whole}
use Rattle.script_reader.proofs.fields.any_number_of.Goals as goal

pub returns-then-not-is_plain : goal.returns-then-not-is_plain
returns-then-not-is_plain c = number_unplain (2 ^ 64) c.args.field.now (omega arith) (iff_false c.is_plain.ensures c.if-not-is_plain.true)

pub returns-then-count-field : goal.returns-then-count-field
returns-then-count-field c =
    let d = c.leading_digits-n.ensures in
    let whole : take c.leading_digits-n.result.1 c.args.field.now ≡ c.args.field.now = take_all c.leading_digits-n.result.1 c.args.field.now (omega (arith, c.if-count-field.true)) in
    let plain : IsPlain c.args.field.now = search rules in
    let all = subst (λ (f : List ℕ). AllDigits 10 f) whole d.digits in
    rw (d.value, whole) (number_written c.args.field.now plain all (few_digits_whole c.args.field.now all (omega (arith, d.few, c.if-count-field.true))))

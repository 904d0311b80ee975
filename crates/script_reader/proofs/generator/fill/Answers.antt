use Rattle.std.proofs.Common.{◌≡◌, ℕ, ◌+◌, ◌/◌, ◌%◌, ◌<◌, List, [], ◌∷◌, ◌++◌, length, take, sym, ap, ◌∙◌, add-one, arith}
use Rattle.std.proofs.lemmas.List.{length-set, take_all, take_more_set}
use Rattle.script_reader.specs.Generated.{counting}
use Rattle.script_reader.proofs.Takings.{length_counting, counting_more, counting_prefix}
use Rattle.script_reader.proofs.generator.fill.Goals as goal

pub bytes-preserved : goal.bytes-preserved
bytes-preserved c =
    let byte : ℕ = (c.from.result + c.from-in-bytes.result) % 256 in
    let within : c.bytes.i < length c.bytes.bytes = omega (arith, c.bytes.invariant.0, c.bytes-test.true) in
    let sum : byte ≡ (c.args.message + c.bytes.i) % 256 = ap (λ (n : ℕ). n % 256) (omega (arith, c.from.ensures, c.from-in-bytes.ensures)) in (
      length-set c.bytes.bytes c.bytes.i byte ∙ c.bytes.invariant.0,
      take_more_set c.bytes.bytes c.bytes.i byte within ∙ ap (λ (xs : List ℕ). xs ++ byte ∷ []) c.bytes.invariant.1
          ∙ ap (λ (b : ℕ). counting c.bytes.i c.args.message ++ b ∷ []) sum ∙ sym (counting_more c.bytes.i c.args.message)
          ∙ ap (λ (n : ℕ). counting n c.args.message) (sym (add-one c.bytes.i)),
    )

pub returns-clause-value : goal.returns-clause-value
returns-clause-value c =
    let count : ℕ = c.args.draw / 16777216 % 65 in
    let last : c.bytes.i ≡ 64 = omega (arith, c.bytes-test.false, c.bytes.auto.i-end) in
    let whole : c.bytes.bytes ≡ counting 64 c.args.message =
    sym (take_all c.bytes.i c.bytes.bytes (omega (arith, c.bytes.invariant.0, c.bytes-test.false))) ∙ c.bytes.invariant.1 ∙ ap (λ (n : ℕ). counting n c.args.message) last in
    c.set.ensures ∙ ap (take count) whole ∙ counting_prefix count 64 c.args.message (omega arith)

pub returns-clause-few : goal.returns-clause-few
returns-clause-few c = omega (arith, ap length (returns-clause-value c), length_counting (c.args.draw / 16777216 % 65) c.args.message)

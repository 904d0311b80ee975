use Rattle.std.proofs.Common.{rules, arith, inl, inr, ◌≡◌, ◌∷◌, [], length, take, drop, sym, ◌∙◌, length-drop}
use Rattle.std.proofs.lemmas.List.{take_all}
use Rattle.file_collector.specs.Registers.{header}
use Rattle.file_collector.specs.Making.{new_register}
use Rattle.file_collector.proofs.making.told_by.Goals as goal
use Rattle.file_collector.proofs.making.told_by.Goals.{then-eq-2, else-eq-2}

pub returns-then-eq-3-clause-unmade : goal.returns-then-eq-3-clause-unmade
returns-then-eq-3-clause-unmade c = λ is.
    let other : take 32 c.args.bytes.now ≡ header → ⊥ = search rules in
    let size : length c.args.bytes.now ≡ 220 = search rules in
    let all : take 216 (drop 4 c.args.bytes.now) ≡ drop 4 c.args.bytes.now =
    take_all 216 (drop 4 c.args.bytes.now) (omega (arith, size, length-drop 4 c.args.bytes.now)) in
    elim c.if-eq-2.branch [
      | then-eq-2 w ↦ let zeros : take 4 c.args.bytes.now ≡ 0 ∷ 0 ∷ 0 ∷ 0 ∷ [] = search rules in inl zeros
      | else-eq-2 w ↦ let behind : take 216 (drop 4 c.args.bytes.now) ≡ drop 4 new_register = search rules in inr (other, sym all ∙ behind)
    ]

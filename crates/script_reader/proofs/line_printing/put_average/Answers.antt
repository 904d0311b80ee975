use Rattle.std.proofs.Common.{ℕ, List, ◌∷◌, ◌++◌, ◌∙◌, ap, append_assoc, decimal}
use Rattle.script_reader.proofs.line_printing.put_average.Goals as goal

pub returns-clause-items : goal.returns-clause-items
returns-clause-items g c =
    let count : List ℕ = 32 ∷ decimal c.args.count in
    let average : List ℕ = 47 ∷ decimal c.args.average in
    (rw c.from-2.ensures at c.put_marked.ensures.items)
    ∙ ap (λ (z : List ℕ). z ++ average) (rw c.from.ensures at c.put_field.ensures.items)
    ∙ append_assoc c.args.into.now.items count average

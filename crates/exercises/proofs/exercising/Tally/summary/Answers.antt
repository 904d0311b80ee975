use Rattle.std.proofs.Common.{◌∙◌, ◌++◌, ap, codes, decimal}
use Rattle.std.proofs.lemmas.Result.{IfOk-weaker}
use Rattle.exercises.proofs.Tallies.{text_pieces}
use Rattle.exercises.proofs.exercising.Tally.summary.Goals as goal

pub returns : goal.returns
returns c =
    let tally = c.args.self.now in
    IfOk-weaker c.format.result _ _ (λ text h.
    h
    ∙ ap (λ t. codes "exercise " ++ t) (text_pieces (decimal c.args.seed) (codes " ") (decimal c.args.count) (codes " looks ") (decimal tally.looks) (codes " acks ") (decimal tally.acks)
    (codes " full ") (decimal tally.full) (codes " removed ") (decimal tally.removed) (codes " delay ") (decimal tally.delay) (codes "\n")))
    c.format.ensures.ok

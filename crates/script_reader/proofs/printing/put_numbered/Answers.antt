use Rattle.std.proofs.Common.{ℕ, List, [], ◌∷◌, ◌++◌, ◌∙◌, ap, append_assoc}
use Rattle.script_reader.proofs.Behind.{field_put, end_put}
use Rattle.script_reader.proofs.printing.put_numbered.Goals as goal

pub returns : goal.returns
returns g c =
    let word = c.put-2.ensures.items ∙ ap (λ (z : List ℕ). z ++ c.args.word.now) c.put.ensures.items ∙ append_assoc c.put_prefix.new.into.items (32 ∷ []) c.args.word.now in
    end_put _ _ _ _ _ (field_put _ _ _ _ _ _ (field_put _ _ _ _ _ _ c.put_prefix.ensures.fields word) c.put_field.ensures.items) c.put-3.ensures.items

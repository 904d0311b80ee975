-- Answers that say nothing of the pieces, whether or not the source tells its bytes.
use Rattle.std.proofs.Common.{ℕ, List, Option, None, Some}
use Rattle.file_cutter.specs.Cutting.{to_come, Counts, CountsIn, Gives, GivesNext}
use Rattle.file_cutter.specs.declared.pieces.Pieces.{Pieces}
use Rattle.file_cutter.specs.declared.pieces.Cut.{Cut}

pub gives_unseen : (old new : Pieces) (left rest : Option (List ℕ)) (message : List ℕ) (result : Cut) → ((before after : List (List ℕ)) → Gives result before after message) → GivesNext old new left rest message result
gives_unseen old new None rest message result holds = tt
gives_unseen old new (Some xs) None message result holds = tt
gives_unseen old new (Some xs) (Some ys) message result holds = holds (to_come old xs) (to_come new ys)

pub counts_unseen : (old new : Pieces) (left rest : Option (List ℕ)) (result : Cut) → ((xs ys : List ℕ) → CountsIn result old new xs ys) → Counts result old new left rest
counts_unseen old new None rest result holds = tt
counts_unseen old new (Some xs) None result holds = tt
counts_unseen old new (Some xs) (Some ys) result holds = holds xs ys

use Rattle.std.proofs.Common.{ℕ, ◌+◌, refl, ◌∙◌, ap}
use Rattle.file_messages.specs.Files.{Between}
use Rattle.file_collector.proofs.opening.count_shown.Goals as goal

pub returns-in-Ok-clause-counted : goal.returns-in-Ok-clause-counted
returns-in-Ok-clause-counted g c = λ count state kept.
    let e = c.in-Ok.ensures in
    record {
      ready = e.ready;
      value = e.value ∙ ap (λ (v : ℕ × ℕ). (v.0 + 1, 0)) kept.value;
      settled = e.settled;
      stands = λ told. let turned = e.turned Between refl told in turned.more count state (kept.stands told) tt;
    }

pub returns-in-Ok-clause-moves : goal.returns-in-Ok-clause-moves
returns-in-Ok-clause-moves g c = c.turn.ensures.moves Between refl

pub returns-in-Err-clause-moves : goal.returns-in-Err-clause-moves
returns-in-Err-clause-moves g c = c.turn.ensures.moves Between refl

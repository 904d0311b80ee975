-- What became of a task that a thread was to run.
use Rattle.std.specs.Prelude.{◌≡◌}
use Rattle.relay_threads.specs.declared.pair.Done.{Done}
use Rattle.relay_threads.specs.declared.pair.Done.TheVariants.{Ran, Kept}

-- it was run and gave this, or it comes back as it was
abbrev pub IsDoneFrom : {S A : Type 0} → (S → A → Type 0) → S → Done S A → Type 0
IsDoneFrom gives task (Ran given) = gives task given
IsDoneFrom gives task (Kept same) = same ≡ task

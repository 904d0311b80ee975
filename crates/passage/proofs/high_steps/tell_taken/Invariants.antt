use Rattle.passage.proofs.high_steps.tell_taken.Given as goal

abbrev pub ghosts-swap_taken : goal.ghosts-swap_taken
ghosts-swap_taken g a = record { removed = a.removed }

use Rattle.passage.proofs.high_steps.find_taken.Given as goal

abbrev pub ghosts-load_taken : goal.ghosts-load_taken
ghosts-load_taken g a = record { forwarded = a.forwarded }

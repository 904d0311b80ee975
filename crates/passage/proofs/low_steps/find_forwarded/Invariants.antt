use Rattle.passage.proofs.low_steps.find_forwarded.Given as goal

abbrev pub ghosts-load_forwarded : goal.ghosts-load_forwarded
ghosts-load_forwarded g a = record { taken = a.taken }

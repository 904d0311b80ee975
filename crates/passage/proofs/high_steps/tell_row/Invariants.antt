use Rattle.passage.proofs.high_steps.tell_row.Given as goal

abbrev pub ghosts-swap_row : goal.ghosts-swap_row
ghosts-swap_row g a = record { places = a.places; averaging = a.averaging }

use Rattle.passage.proofs.high_steps.tell_time.Given as goal

abbrev pub ghosts-swap_time : goal.ghosts-swap_time
ghosts-swap_time g a = record { micros = a.micros }

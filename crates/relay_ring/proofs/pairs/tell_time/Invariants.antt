use Rattle.relay_ring.proofs.pairs.tell_time.Given as goal

abbrev pub ghosts-store_pair : goal.ghosts-store_pair
ghosts-store_pair a = record { micros = a.micros; taken = a.taken }

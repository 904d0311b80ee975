use Rattle.relay_ring.proofs.ends.RingHighHighEnd.next_into.Given as goal

abbrev pub ghosts-take_up : goal.ghosts-take_up
ghosts-take_up a = record { removed = a.removed }

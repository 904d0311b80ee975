use Rattle.std.proofs.Common.{rules, Some}
use Rattle.relay_threads.proofs.low_round.hear_if.Goals as goal

pub returns-then-wants-clause-heard : goal.returns-then-wants-clause-heard
returns-then-wants-clause-heard g c = let h = c.hear.ensures.heard in (Some h.0, search rules, h.1, h.2, h.3, h.4)

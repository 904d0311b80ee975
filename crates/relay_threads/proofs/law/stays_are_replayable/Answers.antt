use Rattle.relay_threads.proofs.LowReplays.{stays_lawful, stays_connected, stays_readable}
use Rattle.relay_threads.proofs.law.stays_are_replayable.Goals as goal

pub returns-clause-lawful : goal.returns-clause-lawful
returns-clause-lawful g c row o stays are = stays_lawful row o stays are

pub returns-clause-connected : goal.returns-clause-connected
returns-clause-connected g c row o stays are made = stays_connected row o stays are made

pub returns-clause-readable : goal.returns-clause-readable
returns-clause-readable g c row o stays lawful are = stays_readable row o stays lawful are

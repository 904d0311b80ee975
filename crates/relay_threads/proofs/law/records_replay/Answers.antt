use Rattle.relay_threads.proofs.Replaying.{replays, stops_at_last}
use Rattle.relay_threads.proofs.law.records_replay.Goals as goal

pub returns-clause-whole : goal.returns-clause-whole
returns-clause-whole c opens row o made lawful are takes connected fine = replays opens row o lawful made are takes connected fine

pub returns-clause-stopped : goal.returns-clause-stopped
returns-clause-stopped c opens row o made lawful are takes connected lost = stops_at_last opens row o lawful made are takes connected lost

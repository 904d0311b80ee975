use Rattle.relay_threads.proofs.HighSending.{sends_rounds, sends_stays}
use Rattle.relay_threads.proofs.high_law.sends_what_came.Goals as goal

pub returns-clause-rounds : goal.returns-clause-rounds
returns-clause-rounds g c row first hand rounds are = sends_rounds row first hand rounds are

pub returns-clause-stays : goal.returns-clause-stays
returns-clause-stays g c row first hand stays are = sends_stays row first hand stays are

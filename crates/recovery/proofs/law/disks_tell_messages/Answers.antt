use Rattle.recovery.proofs.Readings.{low_tells, receiver_tells}
use Rattle.recovery.proofs.law.disks_tell_messages.Goals as goal

pub returns-clause-low : goal.returns-clause-low
returns-clause-low c = low_tells

pub returns-clause-receiver : goal.returns-clause-receiver
returns-clause-receiver c = receiver_tells

use Rattle.std.proofs.Common.{Some, refl}
use Rattle.high_process.proofs.process.HighProcess.take_up.Goals as goal

pub returns-then-fetch-clause-fills : goal.returns-then-fetch-clause-fills
returns-then-fetch-clause-fills g c = record { got = Some c.fetch.new.into; filled = refl; takes = c.if-fetch.ensures.takes }

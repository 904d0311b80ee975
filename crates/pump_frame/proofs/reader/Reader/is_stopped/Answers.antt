use Rattle.std.proofs.Common.{subst}
use Rattle.pump_frame.specs.Readings.{HasBegun}
use Rattle.pump_frame.proofs.Feeding.{begun_at}
use Rattle.pump_frame.proofs.reader.Reader.is_stopped.Goals as goal

pub returns-clause-begun : goal.returns-clause-begun
returns-clause-begun c = subst HasBegun c.self.view_is (begun_at c.self.inside.bad c.self.inside.held.items c.self.inside.place c.self.invariant)

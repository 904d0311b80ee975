use Rattle.std.proofs.Common.{None, refl}
use Rattle.pump_frame.proofs.Feeding.{nothing_held}
use Rattle.pump_frame.proofs.reader.Reader.new.Goals as goal

pub returns-clause-begun : goal.returns-clause-begun
returns-clause-begun c = nothing_held None c.new.result.items refl c.new.ensures

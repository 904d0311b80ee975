use Rattle.pump_frame.proofs.Streams.{streams_one}
use Rattle.pump_frame.proofs.laws.streams_are_one.Goals as goal

pub returns : goal.returns
returns c = streams_one

use Rattle.pump_frame.proofs.Streams.{all_streams}
use Rattle.pump_frame.proofs.laws.all_bytes_are_a_stream.Goals as goal

pub returns : goal.returns
returns c = all_streams

use Rattle.script_reader.proofs.OneReading as reading
use Rattle.script_reader.proofs.laws.one_reading.Goals as goal

pub returns : goal.returns
returns c = reading.one_reading

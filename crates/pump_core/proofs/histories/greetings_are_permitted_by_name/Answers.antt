use Rattle.pump_core.proofs.Greetings.{permits_by_name}
use Rattle.pump_core.proofs.histories.greetings_are_permitted_by_name.Goals as goal

pub returns : goal.returns
returns c = permits_by_name

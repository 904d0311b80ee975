use Rattle.relay_laws.proofs.Prefixes.{holds_prefix}
use Rattle.relay_laws.proofs.laws.receivers_of_a_relay_hold_a_prefix.Goals as goal

pub returns : goal.returns
returns c row earlier stored sent past pairs size start turns had is are heard count prefix = (holds_prefix row size earlier stored sent is.data_are start had turns are heard (count, prefix)).1

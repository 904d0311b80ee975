use Rattle.peers.proofs.OneReception.{one_reception}
use Rattle.peers.proofs.laws.receptions_are_one.Goals as goal

pub returns : goal.returns
returns c = λ row size most start x y n k end other calm calm' r r' prefixes. one_reception row size most start x y n k end other calm calm' r r' prefixes

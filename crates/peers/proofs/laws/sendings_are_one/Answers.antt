use Rattle.peers.proofs.OneSending.{one_sending}
use Rattle.peers.proofs.laws.sendings_are_one.Goals as goal

pub returns : goal.returns
returns c = λ row most script left rest x y n k end other calm calm' r r' prefixes. one_sending row most script left rest x y n k end other calm calm' r r' prefixes

use Rattle.world_laws.proofs.Runs.Classes.{few}
use Rattle.world_laws.proofs.Runs.ListedClasses.{agree_in_averages}
use Rattle.world_laws.proofs.coarse_pairs_agree.Goals as goal

pub returns-clause-pairs : goal.returns-clause-pairs
returns-clause-pairs c = λ row steps others t u h k xs ys coarse one other agree p q.
    c.averages_decide.ensures row steps others t u h k xs ys one other (agree_in_averages row steps others t u coarse one.leads other.leads agree) p q

pub returns-clause-few : goal.returns-clause-few
returns-clause-few c = few

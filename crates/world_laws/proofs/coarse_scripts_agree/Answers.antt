use Rattle.script_reader.specs.Sides.{averages}
use Rattle.world_laws.proofs.Runs.Classes.{same_averages}
use Rattle.world_laws.proofs.Runs.CoarseScripts.{made_alike, levels_so_far, levels_in}
use Rattle.world_laws.proofs.coarse_scripts_agree.Goals as goal

pub returns-clause-whole : goal.returns-clause-whole
returns-clause-whole c = λ o p script other xs ys h k opens agree.
    let same = same_averages (averages xs) (averages ys) (levels_in o script xs h agree.coarse) (levels_in p other ys k (made_alike script other agree.low_side agree.coarse)) agree.classes in
    c.full_moments_and_averages_decide.ensures.whole o p script other xs ys h k opens agree.low_side agree.moments agree.full agree.restarts same

pub returns-clause-so_far : goal.returns-clause-so_far
returns-clause-so_far c = λ o p script other running after xs ys h k opens agree.
    let same = same_averages (averages xs) (averages ys) (levels_so_far o script running xs h agree.coarse)
    (levels_so_far p other after ys k (made_alike script other agree.low_side agree.coarse)) agree.classes in
    c.full_moments_and_averages_decide.ensures.so_far o p script other running after xs ys h k opens agree.low_side agree.moments agree.full agree.restarts same

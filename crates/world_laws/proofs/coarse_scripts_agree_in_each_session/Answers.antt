use Rattle.script_reader.specs.Sessions.{session_at, lines_of, events_of}
use Rattle.script_reader.proofs.Beside.{own_transcript}
use Rattle.script_reader.proofs.BesideStop.{own_so_far}
use Rattle.world_laws.proofs.coarse_scripts_agree_in_each_session.Goals as goal

pub returns-clause-whole : goal.returns-clause-whole
returns-clause-whole c = λ o p script other xs ys number h k.
    c.coarse_scripts_agree.ensures.whole o p (lines_of number script) (lines_of number other) (events_of number xs) (events_of number ys)
    (own_transcript o script xs h number) (own_transcript p other ys k number)

pub returns-clause-so_far : goal.returns-clause-so_far
returns-clause-so_far c = λ o p script other t u xs ys number h k.
    c.coarse_scripts_agree.ensures.so_far o p (lines_of number script) (lines_of number other) (session_at number t.begun) (session_at number u.begun) (events_of number xs) (events_of number ys)
    (own_so_far o script t xs h number) (own_so_far p other u ys k number)

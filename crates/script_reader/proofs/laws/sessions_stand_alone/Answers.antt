use Rattle.script_reader.specs.Sessions.{no_sessions}
use Rattle.script_reader.proofs.Beside.{one_of, own_transcript}
use Rattle.script_reader.proofs.BesideStop.{own_so_far}
use Rattle.script_reader.proofs.LoneSession.{alone_transcript, alone_so_far}
use Rattle.script_reader.proofs.laws.sessions_stand_alone.Goals as goal

pub returns-clause-lead : goal.returns-clause-lead
returns-clause-lead c = λ o script t printed h number. one_of o number no_sessions script t printed h

pub returns-clause-so_far : goal.returns-clause-so_far
returns-clause-so_far c = own_so_far

pub returns-clause-whole : goal.returns-clause-whole
returns-clause-whole c = own_transcript

pub returns-clause-alone : goal.returns-clause-alone
returns-clause-alone c = alone_transcript

pub returns-clause-alone_so_far : goal.returns-clause-alone_so_far
returns-clause-alone_so_far c = alone_so_far

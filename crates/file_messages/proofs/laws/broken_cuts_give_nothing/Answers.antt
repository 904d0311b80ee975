use Rattle.file_messages.proofs.Broken.{broken_none, broken_between}
use Rattle.file_messages.proofs.laws.broken_cuts_give_nothing.Goals as goal

pub returns-clause-none : goal.returns-clause-none
returns-clause-none c = broken_none

pub returns-clause-between : goal.returns-clause-between
returns-clause-between c = broken_between

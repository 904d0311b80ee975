use Rattle.std.proofs.Common.{arith}
use Rattle.script_reader.specs.Sessions.{no_sessions}
use Rattle.script_reader.proofs.Beside.{rises}
use Rattle.script_reader.proofs.OneWhole.{at_most_16}
use Rattle.script_reader.proofs.laws.sessions_rise.Goals as goal

pub returns : goal.returns
returns c = λ o script t printed h. (rises o no_sessions script t printed h tt, at_most_16 o no_sessions script t printed h tt (omega arith))

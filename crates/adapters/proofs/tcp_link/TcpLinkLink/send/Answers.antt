use Rattle.std.proofs.Common.{[], refl, sym, append-nil}
use Rattle.adapters.proofs.tcp_link.TcpLinkLink.send.Goals as goal

pub returns-in-Ok-clause-sent : goal.returns-in-Ok-clause-sent
returns-in-Ok-clause-sent c = (c.args.bytes.now, [], sym (append-nil c.args.bytes.now), refl, record { told = λ log t. tt })

pub returns-in-Err-clause-sent : goal.returns-in-Err-clause-sent
returns-in-Err-clause-sent c = ([], c.args.bytes.now, refl, tt, record { told = λ log t. tt })

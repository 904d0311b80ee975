use Rattle.std.proofs.Common.{true, refl, subst}
use Rattle.pump_link.specs.Causes.{AppendsPrefix}
use Rattle.std.specs.Io.KnownBytes.{Appends}
use Rattle.race.proofs.Tapes.{keeps_written, keeps_cut}
use Rattle.race.proofs.tape.Tape.flush.Goals as goal

pub returns-in-Ok-clause-stays : goal.returns-in-Ok-clause-stays
returns-in-Ok-clause-stays g c = λ start first bytes k.
    let O = g.O.Sink in
    keeps_written c.args.self.now (record c.args.self.now { held = c.clear-in-Ok.new.self }) start (O.written c.args.out.now) (O.written c.write_all.new.out) first (O.faults c.args.out.now) (O.faults c.write_all.new.out) bytes
    c.if-self.false c.clear-in-Ok.ensures c.if-self.false c.write_all.ensures.cause.later
    (subst (Appends (O.written c.args.out.now) (O.written c.write_all.new.out)) c.as_slice.ensures.value c.in-Ok.ensures.ok) k

pub returns-in-Err-clause-stays : goal.returns-in-Err-clause-stays
returns-in-Err-clause-stays g c = λ start first bytes k.
    let O = g.O.Sink in
    keeps_cut c.args.self.now (record c.args.self.now { held = c.clear-in-Err.new.self; has_failed = true }) start (O.written c.args.out.now) (O.written c.write_all.new.out) first (O.faults c.args.out.now) (O.faults c.write_all.new.out) bytes
    c.if-self.false refl c.write_all.ensures.cause.later c.in-Err.ensures.cause.failed
    (subst (AppendsPrefix (O.written c.args.out.now) (O.written c.write_all.new.out)) c.as_slice.ensures.value c.in-Err.ensures.err) k

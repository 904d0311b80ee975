use Rattle.std.proofs.Common.{ap}
use Rattle.std.specs.Prelude.{Err, is_err}
use Rattle.folders.specs.declared.outbox_log.Change.TheVariants.{Take}
use Rattle.folders.proofs.OutboxLogs.{moves_by, cause_by}
use Rattle.folders.proofs.mem_outbox.MemOutboxOutbox.take.Goals as goal

pub returns-in-Ok-clause-moves : goal.returns-in-Ok-clause-moves
returns-in-Ok-clause-moves c = moves_by (Take c.args.name.now) c.args.self.now c.change.new.self c.change.result c.change.ensures

pub returns-in-Err-clause-moves : goal.returns-in-Err-clause-moves
returns-in-Err-clause-moves c = moves_by (Take c.args.name.now) c.args.self.now c.change.new.self c.change.result c.change.ensures

pub returns-in-Err-clause-cause : goal.returns-in-Err-clause-cause
returns-in-Err-clause-cause c =
    cause_by (Take c.args.name.now) c.args.self.now c.change.new.self c.change.result (Err c.in-Err.fault) c.change.ensures (λ err. ap is_err c.in-Err.is)

use Rattle.folders.specs.declared.outbox_log.Change.TheVariants.{Mark}
use Rattle.folders.proofs.OutboxLogs.{moves_by, makes_by, cause_by}
use Rattle.folders.proofs.mem_outbox.MemOutboxOutbox.mark.Goals as goal

pub returns-clause-moves : goal.returns-clause-moves
returns-clause-moves c = moves_by (Mark c.args.mark.now) c.args.self.now c.change.new.self c.change.result c.change.ensures

pub returns-clause-marked : goal.returns-clause-marked
returns-clause-marked c = λ ok. makes_by (Mark c.args.mark.now) c.args.self.now c.change.new.self c.change.result c.change.ensures ok

pub returns-clause-cause : goal.returns-clause-cause
returns-clause-cause c = cause_by (Mark c.args.mark.now) c.args.self.now c.change.new.self c.change.result c.change.result c.change.ensures (λ err. err)

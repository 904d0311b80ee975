use Rattle.folders.specs.declared.outbox_log.Change.TheVariants.{Remove}
use Rattle.folders.proofs.OutboxLogs.{moves_by, makes_by, cause_by}
use Rattle.folders.proofs.mem_outbox.MemOutboxOutbox.remove.Goals as goal

pub returns-clause-moves : goal.returns-clause-moves
returns-clause-moves c = moves_by Remove c.args.self.now c.change.new.self c.change.result c.change.ensures

pub returns-clause-removed : goal.returns-clause-removed
returns-clause-removed c = λ ok. makes_by Remove c.args.self.now c.change.new.self c.change.result c.change.ensures ok

pub returns-clause-cause : goal.returns-clause-cause
returns-clause-cause c = cause_by Remove c.args.self.now c.change.new.self c.change.result c.change.result c.change.ensures (λ err. err)

use Rattle.std.proofs.Common.{◌∷◌, ◌∙◌, ap, refl}
use Rattle.folders.specs.MemOutboxes.{MemoryOutbox}
use Rattle.folders.specs.declared.outbox_log.Entry.TheVariants.{Crashed}
use Rattle.folders.proofs.OutboxLogs.{image_crashed, image_same}
use Rattle.folders.proofs.mem_outbox.MemOutbox.crash.Goals as goal

pub returns-then-not-put_first-clause-image : goal.returns-then-not-put_first-clause-image
returns-then-not-put_first-clause-image c =
    image_same c.args.self.now.log c.put_first.new.log.items (c.put_first.ensures.not c.if-not-put_first.true ∙ ap (λ (o : MemoryOutbox). o.log) c.self.view_is)

pub returns-then-kept-clause-image : goal.returns-then-kept-clause-image
returns-then-kept-clause-image c =
    image_crashed c.args.kept c.args.self.now.log c.put_first.new.log.items
    (c.if-not-put_first.ensures.put refl ∙ ap (λ (o : MemoryOutbox). Crashed c.args.kept ∷ o.log) c.self.view_is)

pub returns-else-kept-clause-image : goal.returns-else-kept-clause-image
returns-else-kept-clause-image c =
    image_crashed c.args.kept c.args.self.now.log c.put_first.new.log.items
    (c.if-not-put_first.ensures.put refl ∙ ap (λ (o : MemoryOutbox). Crashed c.args.kept ∷ o.log) c.self.view_is)

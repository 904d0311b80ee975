use Rattle.std.proofs.Common.{◌≡◌, ◌∷◌, ◌∙◌, sym, ap, refl, List}
use Rattle.folders.specs.MemOutboxes.{MemoryOutbox, with_entry}
use Rattle.folders.specs.declared.outbox_log.Entry.{Entry}
use Rattle.folders.specs.declared.outbox_log.Entry.TheVariants.{Opened}
use Rattle.folders.proofs.mem_outbox.MemOutbox.give.Goals as goal

pub returns-clause-ok : goal.returns-clause-ok
returns-clause-ok c =
    let log : c.put_first.new.log.items ≡ Opened c.in_ok-noted.noted ∷ c.self.inside.log.items = c.if-not-put_first.ensures.put refl in
    let before : List Entry → MemoryOutbox = λ l. record { log = l; number = c.self.inside.number; fails = c.self.inside.fails.items; faults = c.self.inside.faults } in (
      ap (λ s. s.faults) c.new-2.ensures,
      (
        c.in_ok-noted.noted,
        ap (λ s. s.left) c.new-2.ensures ∙ c.in_ok-given.ensures.items ∙ sym c.in_ok-noted.ensures.items,
        ap before log ∙ ap (with_entry (Opened c.in_ok-noted.noted)) c.self.view_is,
      ),
    )

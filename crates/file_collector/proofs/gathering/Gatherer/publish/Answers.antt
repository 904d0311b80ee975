use Rattle.std.proofs.Common.{Err, refl, sym, ◌∙◌, ap}
use Rattle.std.proofs.lemmas.Result.{err_from_is_err_and}
use Rattle.file_collector.proofs.Gathers.{shown_whole, shown_not}
use Rattle.file_collector.proofs.gathering.Gatherer.publish.Goals as goal

pub returns-in_err-name-clause-places : goal.returns-in_err-name-clause-places
returns-in_err-name-clause-places g c = λ state message has progress is from.
    let e = c.in_err-name.ensures in
    let (fault, was, equal) = err_from_is_err_and c.from_residual.result c.from_residual.ensures.1 in
    shown_not g.I.Inbox.told g.I.Disk.Disk.told c.args.number message state c.args.progress.now c.args.self.now
    (record { inbox = c.show.new.inbox; part = c.take.new.self; assembly = c.args.self.now.assembly }) c.in-Some.part c.in_err-name.field-0.0 c.from_residual.result has progress is
    (sym c.take.ensures.value ∙ c.in-Some.is) c.take.ensures.after e.turns e.later e.cause (was ∙ ap (λ f. Err f) equal)

pub returns-clause-places : goal.returns-clause-places
returns-clause-places g c = λ state message has progress is from.
    let e = c.in_ok-name.ensures in
    shown_whole g.I.Inbox.told g.I.Disk.Disk.told c.args.number message c.args.digest.now state c.args.progress.now c.args.self.now
    (record { inbox = c.show.new.inbox; part = c.take.new.self; assembly = c.args.self.now.assembly }) c.in-Some.part
    (record { name = c.in_ok-name.name; size = c.args.progress.now.size; digest = c.copy_from_slice.new.self }) has progress is from
    (sym c.take.ensures.value ∙ c.in-Some.is) c.take.ensures.after e.turns e.durable e.later e.gone e.chosen e.shown refl c.copy_from_slice.ensures.after

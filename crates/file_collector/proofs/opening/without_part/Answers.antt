use Rattle.std.proofs.Common.{◌≡◌, ◌+◌, Err, IfErr, sym, ◌∙◌, ap, subst}
use Rattle.stable_buffer.specs.declared.register.Register.{Register}
use Rattle.file_messages.specs.Files.{Between}
use Rattle.file_collector.specs.Registers.{IsKept}
use Rattle.std.proofs.lemmas.Result.{err_from_is_err_and}
use Rattle.disk_model.specs.Disk.{Moves}
use Rattle.stable_buffer.specs.Register.{register_disk}
use Rattle.file_collector.specs.Closed.{MaySkip, IsTurnFault}
use Rattle.file_collector.proofs.Crashes.{turn_skips, leave_skips, turn_fault}
use Rattle.file_collector.proofs.opening.without_part.Goals as goal

pub returns-in_ok-count_shown-clause-shown : goal.returns-in_ok-count_shown-clause-shown
returns-in_ok-count_shown-clause-shown g c = λ whole n state kept.
    (subst (λ (r : Register _). IsKept g.D.Disk.told r (n + 1) Between) (sym c.between.ensures.register) (c.in_ok-count_shown.ensures.counted n state kept), c.between.ensures.lost)

pub returns-in_ok-leave_lost-clause-left : goal.returns-in_ok-leave_lost-clause-left
returns-in_ok-leave_lost-clause-left g c = λ some n state kept.
    subst (λ (r : Register _). IsKept g.D.Disk.told r n Between) (sym c.between-else-count-progress.ensures.register) (c.in_ok-leave_lost.ensures.kept n state kept)

pub returns-in_err-count_shown-clause-cause : goal.returns-in_err-count_shown-clause-cause
returns-in_err-count_shown-clause-cause g c =
    let m = g.D.Disk.told in
    let whole = c.args.count ≡ c.args.progress.now.size in
    let (fault, was, equal) = err_from_is_err_and c.from_residual.result c.from_residual.ensures.1 in
    let fault = c.in_err-count_shown.field-0.0 in
    subst (λ r. IfErr r (λ fault. IsTurnFault m (MaySkip whole) (register_disk c.args.register) fault)) (sym (was ∙ ap (λ f. Err f) equal))
    (turn_fault m (MaySkip whole) (register_disk c.args.register) (register_disk c.count_shown.new.register) fault
    (turn_skips m whole c.if-count-progress.true (register_disk c.args.register) (register_disk c.count_shown.new.register) c.count_shown.ensures.moves) c.in_err-count_shown.ensures.cause)

pub returns-in_err-leave_lost-clause-cause : goal.returns-in_err-leave_lost-clause-cause
returns-in_err-leave_lost-clause-cause g c =
    let m = g.D.Disk.told in
    let whole = c.args.count ≡ c.args.progress.now.size in
    let (fault, was, equal) = err_from_is_err_and c.from_residual-in_err-leave_lost.result c.from_residual-in_err-leave_lost.ensures.1 in
    let fault = c.in_err-leave_lost.field-0.0 in
    subst (λ r. IfErr r (λ fault. IsTurnFault m (MaySkip whole) (register_disk c.args.register) fault)) (sym (was ∙ ap (λ f. Err f) equal))
    (turn_fault m (MaySkip whole) (register_disk c.args.register) (register_disk c.leave_lost.new.register) fault
    (leave_skips m whole c.if-count-progress.false (register_disk c.args.register) (register_disk c.leave_lost.new.register) c.leave_lost.ensures.moves) c.in_err-leave_lost.ensures.cause)

pub returns-in_ok-count_shown-clause-moves : goal.returns-in_ok-count_shown-clause-moves
returns-in_ok-count_shown-clause-moves g c =
    let m = g.D.Disk.told in
    let whole = c.args.count ≡ c.args.progress.now.size in
    subst (λ (r : Register _). Moves m (MaySkip whole) (register_disk c.args.register) (register_disk r)) (sym c.between.ensures.register)
    (turn_skips m whole c.if-count-progress.true (register_disk c.args.register) (register_disk c.count_shown.new.register) c.count_shown.ensures.moves)

pub returns-in_ok-leave_lost-clause-moves : goal.returns-in_ok-leave_lost-clause-moves
returns-in_ok-leave_lost-clause-moves g c =
    let m = g.D.Disk.told in
    let whole = c.args.count ≡ c.args.progress.now.size in
    subst (λ (r : Register _). Moves m (MaySkip whole) (register_disk c.args.register) (register_disk r)) (sym c.between-else-count-progress.ensures.register)
    (leave_skips m whole c.if-count-progress.false (register_disk c.args.register) (register_disk c.leave_lost.new.register) c.leave_lost.ensures.moves)

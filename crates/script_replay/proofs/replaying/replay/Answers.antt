use Rattle.std.proofs.Common.{ℕ, inl, inr, refl, sym, ◌∙◌, subst}
use Rattle.script_replay.specs.Runners.{IsDeviceFaultOf}
use Rattle.script_replay.specs.Ends.{EndsReplay}
use Rattle.script_replay.specs.Failing.{FailsAt}
use Rattle.script_replay.proofs.Ending.{ends_to, told_to_fail, downs, named_so, all_are_back, all_are_out}
use Rattle.script_replay.proofs.ByStatus.{of_status, ends_by_status, ends_at_once}
use Rattle.script_replay.proofs.Told.{alone_so}
use Rattle.script_replay.proofs.replaying.replay.Goals as goal

pub leave_all-requires-clause-out : goal.leave_all-requires-clause-out
leave_all-requires-clause-out g c = all_are_out g.S.Disk.Disk.told g.S.Shelf.told.tells (g.S.Shelf.told.disk c.args.shelf.now) (g.S.Shelf.told.disk c.run-ended.new.shelf) c.run-ended.new.replaying.sessions.begun.items c.run-ended.ensures.hands

pub returns-clause-ends : goal.returns-clause-ends
returns-clause-ends g c = λ told tells.
    let before = g.S.Shelf.told.disk c.args.shelf.now in
    let mid = g.S.Shelf.told.disk c.run-ended.new.shelf in
    let after = g.S.Shelf.told.disk c.leave_all.new.shelf in
    let begun = c.run-ended.new.replaying.sessions.begun.items in
    let ends = c.run-ended.ensures.ends told tells in
    subst (λ (n : ℕ). EndsReplay n before after (FailsAt g.S.Shelf.told g.S.Disk.Disk.told c.args.shelf.now c.leave_all.new.shelf) (g.I.Source.left c.args.script.now) (g.I.Source.left c.run-ended.new.script)
    (g.O.Sink.written c.args.out.now) (g.O.Sink.written c.run-ended.new.out) (g.I.Source.faults c.args.script.now) (g.I.Source.faults c.run-ended.new.script)) (sym c.status.ensures.is)
    (ends_by_status before after (FailsAt g.S.Shelf.told g.S.Disk.Disk.told c.args.shelf.now c.leave_all.new.shelf) _ _ _ _ _ _ c.run-ended.result
    (ends_to g.S.Disk.Disk.told g.S.Shelf.told.tells told tells before mid after begun c.leave_all.ensures.left _ _ _ _ _ _ c.run-ended.result ends)
    (λ number role is.
    let failed : IsDeviceFaultOf number role c.run-ended.result = subst (IsDeviceFaultOf number role) (sym is) (refl, refl) in
    downs g.S.Disk.Disk.told g.S.Shelf.told.tells told tells before mid after begun c.leave_all.ensures.left _ _ _ _ _ _ (FailsAt g.S.Shelf.told g.S.Disk.Disk.told c.args.shelf.now c.leave_all.new.shelf) number role
    (named_so g.S.Shelf.told g.S.Disk.Disk.told before c.args.shelf.now c.run-ended.new.shelf c.leave_all.new.shelf begun number role refl (c.run-ended.ensures.device number role failed) c.run-ended.ensures.later c.leave_all.ensures.later c.leave_all.ensures.left (c.leave_all.ensures.failed number role))
    c.run-ended.result is ends))

pub returns-clause-back : goal.returns-clause-back
returns-clause-back g c = λ told. all_are_back g.S.Disk.Disk.told g.S.Shelf.told.tells (g.S.Shelf.told.disk c.args.shelf.now) (g.S.Shelf.told.disk c.run-ended.new.shelf) (g.S.Shelf.told.disk c.leave_all.new.shelf) c.run-ended.new.replaying.sessions.begun.items told c.run-ended.ensures.hands c.leave_all.ensures.left

pub returns-clause-memory : goal.returns-clause-memory
returns-clause-memory g c = λ is. c.run-ended.ensures.memory (of_status 1 c.run-ended.result (sym c.status.ensures.is ∙ is))

pub returns-clause-words : goal.returns-clause-words
returns-clause-words g c = λ is. c.run-ended.ensures.words (of_status 2 c.run-ended.result (sym c.status.ensures.is ∙ is))

pub returns-clause-read : goal.returns-clause-read
returns-clause-read g c = λ is. c.run-ended.ensures.read (of_status 3 c.run-ended.result (sym c.status.ensures.is ∙ is))

pub returns-clause-write : goal.returns-clause-write
returns-clause-write g c = λ is. c.run-ended.ensures.write (of_status 4 c.run-ended.result (sym c.status.ensures.is ∙ is))

pub returns-clause-device : goal.returns-clause-device
returns-clause-device g c = λ is.
    let (number, role, of) = of_status 7 c.run-ended.result (sym c.status.ensures.is ∙ is) in
    let before = g.S.Shelf.told.disk c.args.shelf.now in
    let begun = c.run-ended.new.replaying.sessions.begun.items in
    let failed : IsDeviceFaultOf number role c.run-ended.result = subst (IsDeviceFaultOf number role) (sym of) (refl, refl) in
    elim (named_so g.S.Shelf.told g.S.Disk.Disk.told before c.args.shelf.now c.run-ended.new.shelf c.leave_all.new.shelf begun number role refl (c.run-ended.ensures.device number role failed) c.run-ended.ensures.later c.leave_all.ensures.later c.leave_all.ensures.left (c.leave_all.ensures.failed number role)) [
      | inl fails ↦ inl fails.0
      | inr (id, p, e) ↦ inr (
        alone_so _ _ id p e (c.run-ended.ensures.told number role failed),
        λ told tells.
            told_to_fail g.S.Disk.Disk.told g.S.Shelf.told.tells told tells before (g.S.Shelf.told.disk c.run-ended.new.shelf) (g.S.Shelf.told.disk c.leave_all.new.shelf) begun c.leave_all.ensures.left _ _ _ _ _ _ number id role p e c.run-ended.result of (c.run-ended.ensures.ends told tells),
      )
    ]

pub returns-in-Err-clause-ends : goal.returns-in-Err-clause-ends
returns-in-Err-clause-ends g c = λ told tells.
    ends_at_once (g.S.Shelf.told.disk c.args.shelf.now) (FailsAt g.S.Shelf.told g.S.Disk.Disk.told c.args.shelf.now c.args.shelf.now) (g.I.Source.left c.args.script.now) (g.O.Sink.written c.args.out.now) (g.I.Source.faults c.args.script.now)

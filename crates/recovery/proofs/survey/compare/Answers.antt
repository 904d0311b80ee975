use Rattle.std.proofs.Common.{◌≡◌, ℕ, List, false, sym, ap, subst}
use Rattle.stable_buffer.specs.Log.{RecvStands}
use Rattle.recovery.specs.Agreement.{Disagrees}
use Rattle.recovery.specs.Calls.{is_device}
use Rattle.recovery.specs.declared.trio.MoveFault.{MoveFault}
use Rattle.recovery.specs.declared.why.Why.{Why}
use Rattle.recovery.proofs.survey.compare.Goals.{then-is_open, else-is_open}
use Rattle.recovery.proofs.survey.compare.Goals as goal

pub returns-after-is_open-clause-refused : goal.returns-after-is_open-clause-refused
returns-after-is_open-clause-refused g c = λ nd told.
    let m = g.D.Disk.told in
    let low = c.args.low.now in
    let receiver = c.args.receiver.now in
    let made = c.old_fault.ensures in
    let why : c.old_fault.result.why ≡ c.in-Err.why = ap (λ (f : MoveFault). f.why) made in
    let nd' : is_device c.in-Err.why ≡ false = subst (λ w. is_device w ≡ false) why nd in
    let opened = c.in-Err.ensures.told.both nd' in
    let differs = subst (λ (w : Why). (messages : List (List ℕ)) → RecvStands receiver.row messages (m.reading receiver.register.disk)
    → Disagrees low.row c.args.removed receiver.register.first low.register.first messages (m.reading low.register.disk) w) (sym why) (c.in-Err.ensures.exact nd' told) in
    elim c.if-is_open.branch [
      | then-is_open w ↦ (let role = w.role-is in cc (made, role, why), differs)
      | else-is_open w ↦ absurd (let shut = w.if-is_open.false in let is = c.is_open.ensures in cc (opened.0, shut, is))
    ]

use Rattle.std.proofs.Common.{inl, inr, refl, sym, ap, ◌∙◌}
use Rattle.pump_frame.specs.declared.row.SessionRow.{SessionRow}
use Rattle.pump_chain.proofs.Applying.{still_both, still_prefixes, second_coarse, same_prefixes}
use Rattle.pump_chain.proofs.Failing.{same_later, alone_later}
use Rattle.pump_chain.proofs.chain.Chain.coarsen_second.Goals.{then-self-via-then-self, then-self-via-else-self+then-is_coarse}
use Rattle.pump_chain.proofs.chain.Chain.coarsen_second.Goals as goal

pub returns-then-self-clause-applies : goal.returns-then-self-clause-applies
returns-then-self-clause-applies g c = λ told s stands. (
  elim c.then-self.branch [
    | then-self-via-then-self w ↦ inl (sym stands.under_way ∙ w.if-self.true)
    | then-self-via-else-self+then-is_coarse w ↦ inr (sym (ap (λ (r : SessionRow). r.coarse) stands.second_row) ∙ sym w.is_coarse.ensures ∙ w.if-is_coarse.true)
  ],
  refl,
  stands,
  still_both g.D.Disk.told c.args.self.now s stands,
)

pub returns-then-self-clause-crashes : goal.returns-then-self-clause-crashes
returns-then-self-clause-crashes g c = λ told s stands. still_prefixes g.D.Disk.told c.args.self.now s stands

pub returns-clause-applies : goal.returns-clause-applies
returns-clause-applies g c = λ told s stands.
    let e = c.make_coarse.ensures in
    second_coarse g.D.Disk.told c.args.self.now _ s stands c.if-self.false refl refl (λ role. refl) c.make_coarse.ensures.disks refl (sym c.is_coarse.ensures ∙ c.if-is_coarse.false) e.row e.stands

pub returns-clause-crashes : goal.returns-clause-crashes
returns-clause-crashes g c = λ told s stands. same_prefixes g.D.Disk.told c.args.self.now c.args.self.now.first c.make_coarse.new.self s stands (λ role. refl) (λ role. c.make_coarse.ensures.disks role)

pub returns-clause-later : goal.returns-clause-later
returns-clause-later g c = (alone_later g.D.Disk.told c.args.self.now.first c.args.self.now.first refl, same_later g.D.Disk.told c.args.self.now.second c.make_coarse.new.self c.make_coarse.ensures.disks)

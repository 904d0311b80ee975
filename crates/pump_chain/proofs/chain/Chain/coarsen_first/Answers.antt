use Rattle.std.proofs.Common.{inl, inr, refl, sym, ap, ◌∙◌}
use Rattle.pump_frame.specs.declared.row.SessionRow.{SessionRow}
use Rattle.std.proofs.Math.Logic.{∥∥₁_map}
use Rattle.std.proofs.lemmas.Bool.{or_parts}
use Rattle.pump_chain.proofs.Applying.{still_both, still_prefixes, first_coarse, same_prefixes}
use Rattle.pump_chain.proofs.Placing.{keeps_still}
use Rattle.pump_chain.proofs.Failing.{same_later, alone_later}
use Rattle.pump_chain.proofs.chain.Chain.coarsen_first.Goals.{then-self-via-then-self, then-self-via-else-self+then-is_coarse}
use Rattle.pump_chain.proofs.chain.Chain.coarsen_first.Goals as goal

pub returns-then-self-clause-applies : goal.returns-then-self-clause-applies
returns-then-self-clause-applies g c = λ told s stands. (
  elim c.then-self.branch [
    | then-self-via-then-self w ↦ inl (sym stands.under_way ∙ w.if-self.true)
    | then-self-via-else-self+then-is_coarse w ↦ inr (sym (ap (λ (r : SessionRow). r.coarse) stands.first_row) ∙ sym w.is_coarse.ensures ∙ w.if-is_coarse.true)
  ],
  refl,
  stands,
  still_both g.D.Disk.told c.args.self.now s stands,
)

pub returns-then-self-clause-crashes : goal.returns-then-self-clause-crashes
returns-then-self-clause-crashes g c = λ told s stands. still_prefixes g.D.Disk.told c.args.self.now s stands

pub invariant_of-self : goal.invariant_of-self
invariant_of-self g c = record {
  keeps = ∥∥₁_map c.args.self.now.keeps (λ k. keeps_still c.args.self.now.first c.make_coarse.new.self (or_parts _ _ c.requires.up).0 c.args.self.now.place c.make_coarse.ensures.stands k);
}

pub returns-clause-applies : goal.returns-clause-applies
returns-clause-applies g c = λ told s stands.
    let e = c.make_coarse.ensures in
    first_coarse g.D.Disk.told c.args.self.now _ s stands c.if-self.false refl refl c.make_coarse.ensures.disks (λ role. refl) refl (sym c.is_coarse.ensures ∙ c.if-is_coarse.false) e.row e.stands

pub returns-clause-crashes : goal.returns-clause-crashes
returns-clause-crashes g c = λ told s stands. same_prefixes g.D.Disk.told c.args.self.now c.make_coarse.new.self c.args.self.now.second s stands (λ role. c.make_coarse.ensures.disks role) (λ role. refl)

pub returns-clause-later : goal.returns-clause-later
returns-clause-later g c = (same_later g.D.Disk.told c.args.self.now.first c.make_coarse.new.self c.make_coarse.ensures.disks, alone_later g.D.Disk.told c.args.self.now.second c.args.self.now.second refl)

use Rattle.std.proofs.Common.{◌≡◌, ◌+◌, min, take, length, drop, arith, length-drop, sym, ap, ◌∙◌}
use Rattle.std.proofs.lemmas.Grind.{common_steps}
use Rattle.std.proofs.lemmas.List.{take_rest, drop_all}
use Rattle.pump_link.proofs.Known.{prefix_and_rest}
use Rattle.pump_link.proofs.memory.MemSourceSource.read.Goals as goal

pub returns-clause-bytes : goal.returns-clause-bytes
returns-clause-bytes c =
    let whole = c.deref-2.ensures.value in
    let rest = drop c.self.inside.at c.self.inside.bytes.items in
    let copied : c.copy_from_slice.new.self ≡ take c.min-count.result rest = simp (whole, take_rest) at c.copy_from_slice.ensures.after in
    let count : c.min-count.result ≡ min c.min.result (length rest) = simp (whole, take_rest) at c.min-count.ensures in
    let first : c.min.result ≡ min c.self.inside.piece (length c.args.into.now) = c.min.ensures in (
      ap (λ s. s.left) (sym c.self.view_is) ∙ prefix_and_rest c.min-count.result c.self.inside.at c.self.inside.bytes.items c.args.into.now _ (omega arith) copied,
      λ zero room. drop_all (c.self.inside.at + c.min-count.result) c.self.inside.bytes.items (omega (arith, first, count, c.requires, c.self.invariant, length-drop c.self.inside.at c.self.inside.bytes.items)),
    )

pub returns-clause-gives : goal.returns-clause-gives
returns-clause-gives c = record { told = λ rest t. (_, (returns-clause-bytes c).0, t) }

pub invariant_of-self-2 : goal.invariant_of-self-2
invariant_of-self-2 c = grind (arith, common_steps)

pub returns-clause-ok : goal.returns-clause-ok
returns-clause-ok c = grind (arith, common_steps)

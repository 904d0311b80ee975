use Rattle.std.proofs.Common.{◌≡◌, ◌∙◌, ℕ, ◌-◌, length, ap, subst, arith}
use Rattle.std.proofs.lemmas.Grind.{common_steps}
use Rattle.disk_model.specs.Disk.{Meaning, Moves, IsWritten, Torn, Leaves}
use Rattle.disk_model.proofs.Run.{weaker, each_after, each_settled, leaves}
use Rattle.stable_buffer.specs.Register.{Selects, HoldsNext, KeepsValue, IsReady, place_of, value_of}
use Rattle.stable_buffer.specs.declared.register.Register.{Register}
use Rattle.stable_buffer.proofs.Cells.{staging, staging_keeps, cell_written, value-selects}
use Rattle.stable_buffer.proofs.register.Register.stage.Goals as goal

pub returns-in-Err-clause-moves : goal.returns-in-Err-clause-moves
returns-in-Err-clause-moves g c =
    let m = g.D.Disk.told in
    let r = c.args.self.now in
    let at = place_of (1 - r.parity) in
    let moved : Moves m (Torn at 16) r.disk c.write_and_sync.new.disk =
    subst (λ (n : ℕ). Moves m (Torn at n) r.disk c.write_and_sync.new.disk) (ap length c.cell_of-cell.ensures) c.write_and_sync.ensures.moves in
    weaker m (Selects r.parity r.first r.second) (Torn at 16) KeepsValue r.disk c.write_and_sync.new.disk c.requires.each
    (λ a b is torn. staging_keeps r.parity r.first r.second a b c.requires.parity is torn) moved

pub returns-clause-staged : goal.returns-clause-staged
returns-clause-staged g c =
    let m = g.D.Disk.told in
    let r = c.args.self.now in
    let P = Selects r.parity r.first r.second in
    let at = place_of (1 - r.parity) in
    let moved : Moves m (Torn at 16) r.disk c.write_and_sync.new.disk =
    subst (λ (n : ℕ). Moves m (Torn at n) r.disk c.write_and_sync.new.disk) (ap length c.cell_of-cell.ensures) c.write_and_sync.ensures.moves in
    record {
      ready = record {
        is_open = c.requires.is_open;
        parity = c.requires.parity;
        each = each_after m P P (Torn at 16) r.disk c.write_and_sync.new.disk c.requires.each (λ a b is torn. staging r.parity r.first r.second a b c.requires.parity is torn) moved;
      };
      next = each_settled m (HoldsNext r.parity c.args.first c.args.second) c.write_and_sync.new.disk c.in_default.ensures.settled
          (λ told. let is = c.requires.each.reading told in
          cell_written c.args.first c.args.second (m.reading r.disk) at (m.reading c.write_and_sync.new.disk) (omega arith) (omega arith) (omega (arith, is.size))
          (subst (λ bytes. IsWritten (m.reading r.disk) at bytes (m.reading c.write_and_sync.new.disk)) c.cell_of-cell.ensures (c.in_default.ensures.written told)));
    }

pub returns-clause-moves : goal.returns-clause-moves
returns-clause-moves g c =
    let m = g.D.Disk.told in
    let r = c.args.self.now in
    let at = place_of (1 - r.parity) in
    let moved : Moves m (Torn at 16) r.disk c.write_and_sync.new.disk =
    subst (λ (n : ℕ). Moves m (Torn at n) r.disk c.write_and_sync.new.disk) (ap length c.cell_of-cell.ensures) c.write_and_sync.ensures.moves in
    weaker m (Selects r.parity r.first r.second) (Torn at 16) KeepsValue r.disk c.write_and_sync.new.disk c.requires.each
    (λ a b is torn. staging_keeps r.parity r.first r.second a b c.requires.parity is torn) moved

-- every image since the start has the value of then
during : {D : Type 0} (m : Meaning D) (r : Register D) (new : D) → IsReady m r → Moves m KeepsValue r.disk new
    → Leaves m r.disk new (λ c. value_of c ≡ (r.first, r.second))
during m r new ready moved =
    leaves m (Selects r.parity r.first r.second) (λ c. value_of c ≡ (r.first, r.second)) KeepsValue r.disk new ready.each
    (λ a is. value-selects r.parity r.first r.second a is) (λ a b is keeps. keeps.value ∙ value-selects r.parity r.first r.second a is) moved

pub returns-in-Err-clause-during : goal.returns-in-Err-clause-during
returns-in-Err-clause-during g c = during g.D.Disk.told c.args.self.now c.write_and_sync.new.disk c.requires (returns-in-Err-clause-moves g c)

pub returns-clause-during : goal.returns-clause-during
returns-clause-during g c = during g.D.Disk.told c.args.self.now c.write_and_sync.new.disk c.requires (returns-clause-moves g c)

pub overflow_add-at : goal.overflow_add-at
overflow_add-at g c = grind (arith, common_steps)

pub overflow_mul-at : goal.overflow_mul-at
overflow_mul-at g c = grind (arith, common_steps)

pub returns-clause-answers : goal.returns-clause-answers
returns-clause-answers g c = grind (arith, common_steps)

use Rattle.std.proofs.Common.{◌≡◌, ℕ, ◌+◌, sym, ◌∙◌, ap, subst, arith}
use Rattle.std.proofs.lemmas.Grind.{common_steps}
use Rattle.disk_model.specs.Disk.{Moves, Each}
use Rattle.stable_buffer.specs.Register.{MayTurnTo, Selects, SameOutside, value_of}
use Rattle.stable_buffer.specs.Stands.{InSlot, CellStandsOn}
use Rattle.pump_frame.specs.Rows.{IsLawfulRow}
use Rattle.stable_buffer.specs.Low.{HasRanges, StandsForCount}
use Rattle.pump_frame.specs.declared.row.SessionRow.{SessionRow}
use Rattle.stable_buffer.proofs.Cells.{value-selects}
use Rattle.stable_buffer.proofs.Store.{so_far, staged, slot_settled, turned, stored, gained, stands_after, stored_during}
use Rattle.stable_buffer.proofs.low.LowStore.store.Goals as goal

pub returns-in_err-write_slot-clause-moves : goal.returns-in_err-write_slot-clause-moves
returns-in_err-write_slot-clause-moves g c = so_far g.D.Disk.told c.args.self.now.row c.args.payload.now c.args.self.now.register.disk c.write_slot.new.self.register.disk c.write_slot.ensures.moves

pub returns-in_err-stage-clause-moves : goal.returns-in_err-stage-clause-moves
returns-in_err-stage-clause-moves g c =
    let m = g.D.Disk.told in
    let s = c.args.self.now in
    let row = s.row in
    let r = s.register in
    let message = c.args.payload.now in
    let wrote = c.write_slot.ensures.moves in
    let stood : Moves m (CellStandsOn row) r.disk c.stage.new.self.disk = staged m row message r.disk c.write_slot.new.self.register.disk c.stage.new.self.disk wrote c.stage.ensures.moves in
    so_far m row message r.disk c.stage.new.self.disk stood

pub returns-in_err-commit-clause-moves : goal.returns-in_err-commit-clause-moves
returns-in_err-commit-clause-moves g c =
    let m = g.D.Disk.told in
    let s = c.args.self.now in
    let row = s.row in
    let r = s.register in
    let message = c.args.payload.now in
    let wrote = c.write_slot.ensures.moves in
    let stood : Moves m (CellStandsOn row) r.disk c.stage.new.self.disk = staged m row message r.disk c.write_slot.new.self.register.disk c.stage.new.self.disk wrote c.stage.ensures.moves in
    let q = c.stage.new.self in
    let was = c.in_ok-stage.ensures.staged in
    let number : c.value-number.result.0 ≡ r.first = ap (λ (v : ℕ × ℕ). v.0) c.value-number.ensures in
    let first : q.first ≡ r.first = ap (λ (v : ℕ × ℕ). v.0) (c.stage.ensures.value ∙ c.write_slot.ensures.value) in
    let next : (q.next_first, q.next_second) ≡ (r.first + 1, 0) = c.in_ok-stage.ensures.next ∙ (λ i. (number i + 1, 0)) in
    let has : Each m (InSlot row r.first message) q.disk =
    slot_settled m row message r.first c.write_slot.new.self.register.disk q.disk c.in_ok-write_slot.ensures.slot c.stage.ensures.moves c.in_ok-stage.ensures.settled in
    let selects : Each m (Selects q.parity r.first q.second) q.disk = subst (λ f. Each m (Selects q.parity f q.second) q.disk) first was.ready.each in
    let turn : Moves m (MayTurnTo (r.first + 1, 0)) q.disk c.commit.new.self.disk = subst (λ (v : ℕ × ℕ). Moves m (MayTurnTo v) q.disk c.commit.new.self.disk) next c.commit.ensures.moves in
    stored m row message r.disk q.disk c.commit.new.self.disk stood (turned m row message q.parity r.first q.second q.disk c.commit.new.self.disk selects has turn)

pub returns-clause-moves : goal.returns-clause-moves
returns-clause-moves g c =
    let m = g.D.Disk.told in
    let s = c.args.self.now in
    let row = s.row in
    let r = s.register in
    let message = c.args.payload.now in
    let wrote = c.write_slot.ensures.moves in
    let stood : Moves m (CellStandsOn row) r.disk c.stage.new.self.disk = staged m row message r.disk c.write_slot.new.self.register.disk c.stage.new.self.disk wrote c.stage.ensures.moves in
    let q = c.stage.new.self in
    let was = c.in_ok-stage.ensures.staged in
    let number : c.value-number.result.0 ≡ r.first = ap (λ (v : ℕ × ℕ). v.0) c.value-number.ensures in
    let first : q.first ≡ r.first = ap (λ (v : ℕ × ℕ). v.0) (c.stage.ensures.value ∙ c.write_slot.ensures.value) in
    let next : (q.next_first, q.next_second) ≡ (r.first + 1, 0) = c.in_ok-stage.ensures.next ∙ (λ i. (number i + 1, 0)) in
    let has : Each m (InSlot row r.first message) q.disk =
    slot_settled m row message r.first c.write_slot.new.self.register.disk q.disk c.in_ok-write_slot.ensures.slot c.stage.ensures.moves c.in_ok-stage.ensures.settled in
    let selects : Each m (Selects q.parity r.first q.second) q.disk = subst (λ f. Each m (Selects q.parity f q.second) q.disk) first was.ready.each in
    let turn : Moves m (MayTurnTo (r.first + 1, 0)) q.disk c.commit.new.self.disk = subst (λ (v : ℕ × ℕ). Moves m (MayTurnTo v) q.disk c.commit.new.self.disk) next c.commit.ensures.moves in
    stored m row message r.disk q.disk c.commit.new.self.disk stood (turned m row message q.parity r.first q.second q.disk c.commit.new.self.disk selects has turn)

pub returns-clause-gained : goal.returns-clause-gained
returns-clause-gained g c = λ told.
    let m = g.D.Disk.told in
    let s = c.args.self.now in
    let row = s.row in
    let r = s.register in
    let message = c.args.payload.now in
    let wrote = c.write_slot.ensures.moves in
    let stood : Moves m (CellStandsOn row) r.disk c.stage.new.self.disk = staged m row message r.disk c.write_slot.new.self.register.disk c.stage.new.self.disk wrote c.stage.ensures.moves in
    let q = c.stage.new.self in
    let was = c.in_ok-stage.ensures.staged in
    let number : c.value-number.result.0 ≡ r.first = ap (λ (v : ℕ × ℕ). v.0) c.value-number.ensures in
    let first : q.first ≡ r.first = ap (λ (v : ℕ × ℕ). v.0) (c.stage.ensures.value ∙ c.write_slot.ensures.value) in
    let next : (q.next_first, q.next_second) ≡ (r.first + 1, 0) = c.in_ok-stage.ensures.next ∙ (λ i. (number i + 1, 0)) in
    let has : Each m (InSlot row r.first message) q.disk =
    slot_settled m row message r.first c.write_slot.new.self.register.disk q.disk c.in_ok-write_slot.ensures.slot c.stage.ensures.moves c.in_ok-stage.ensures.settled in
    let n = c.commit.new.self in
    let ready = c.in_ok-commit.ensures.ready in
    let value : value_of (m.reading n.disk) ≡ (r.first + 1, 0) = value-selects n.parity n.first n.second (m.reading n.disk) (ready.each.reading told) ∙ c.in_ok-commit.ensures.value ∙ next in
    let outside : SameOutside (m.reading q.disk) (m.reading n.disk) = let turn = c.commit.ensures.moves.reads told in turn.outside in
    gained m row message r.parity r.first r.second (m.reading r.disk) (m.reading q.disk) (m.reading n.disk) (c.requires.ready.ready.each.reading told) (stood.reads told) (has.reading told) outside value

pub returns-clause-ready : goal.returns-clause-ready
returns-clause-ready g c =
    let m = g.D.Disk.told in
    let s = c.args.self.now in
    let row = s.row in
    let r = s.register in
    let message = c.args.payload.now in
    let q = c.stage.new.self in
    let n = c.commit.new.self in
    let was = c.in_ok-stage.ensures.staged in
    let number : c.value-number.result.0 ≡ r.first = ap (λ (v : ℕ × ℕ). v.0) c.value-number.ensures in
    let value = c.in_ok-commit.ensures.value ∙ c.in_ok-stage.ensures.next in
    let first : n.first ≡ r.first + 1 = ap (λ (v : ℕ × ℕ). v.0) value ∙ ap (λ (k : ℕ). k + 1) number in
    let second : n.second ≡ 0 = ap (λ (v : ℕ × ℕ). v.1) value in
    let same : c.write_slot.new.self.row ≡ row = c.write_slot.ensures.row in
    record {
      ready = c.in_ok-commit.ensures.ready;
      count = omega (arith, first, c.requires.below);
      second = second;
      lawful = subst IsLawfulRow (sym same) c.requires.ready.lawful;
      ranges = subst HasRanges (sym same) c.requires.ready.ranges;
      settled = c.in_ok-commit.ensures.settled;
      stands = λ told.
          let after : StandsForCount row (r.first + 1) (m.reading n.disk) =
          stands_after m row message r.first (m.reading r.disk) (m.reading n.disk) c.requires.ready.ranges.some (returns-clause-gained g c told) (c.requires.ready.stands told) in
          subst (λ (w : SessionRow). StandsForCount w n.first (m.reading n.disk)) (sym same) (subst (λ f. StandsForCount row f (m.reading n.disk)) (sym first) after);
    }

pub returns-in_err-write_slot-clause-during : goal.returns-in_err-write_slot-clause-during
returns-in_err-write_slot-clause-during g c = λ b messages free stands.
    let s = c.args.self.now in
    stored_during g.D.Disk.told s.row c.args.payload.now s.register.first b messages s.register.disk c.write_slot.new.self.register.disk c.requires.ready.settled free stands (returns-in_err-write_slot-clause-moves g c)

pub returns-in_err-stage-clause-during : goal.returns-in_err-stage-clause-during
returns-in_err-stage-clause-during g c = λ b messages free stands.
    let s = c.args.self.now in
    stored_during g.D.Disk.told s.row c.args.payload.now s.register.first b messages s.register.disk c.stage.new.self.disk c.requires.ready.settled free stands (returns-in_err-stage-clause-moves g c)

pub returns-in_err-commit-clause-during : goal.returns-in_err-commit-clause-during
returns-in_err-commit-clause-during g c = λ b messages free stands.
    let s = c.args.self.now in
    stored_during g.D.Disk.told s.row c.args.payload.now s.register.first b messages s.register.disk c.commit.new.self.disk c.requires.ready.settled free stands (returns-in_err-commit-clause-moves g c)

pub returns-clause-during : goal.returns-clause-during
returns-clause-during g c = λ b messages free stands.
    let s = c.args.self.now in
    stored_during g.D.Disk.told s.row c.args.payload.now s.register.first b messages s.register.disk c.commit.new.self.disk c.requires.ready.settled free stands (returns-clause-moves g c)

pub returns-clause-answers : goal.returns-clause-answers
returns-clause-answers g c = grind (arith, common_steps)

pub returns-in_err-commit-clause-answers : goal.returns-in_err-commit-clause-answers
returns-in_err-commit-clause-answers g c = grind (arith, common_steps)

pub returns-in_err-stage-clause-answers : goal.returns-in_err-stage-clause-answers
returns-in_err-stage-clause-answers g c = grind (arith, common_steps)

pub returns-in_err-write_slot-clause-answers : goal.returns-in_err-write_slot-clause-answers
returns-in_err-write_slot-clause-answers g c = grind (arith, common_steps)

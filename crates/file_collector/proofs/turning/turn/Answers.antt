use Rattle.std.proofs.Common.{◌≡◌, ℕ, ◌+◌, ◌∙◌, ap, subst}
use Rattle.disk_model.specs.Disk.{Moves, Each}
use Rattle.stable_buffer.specs.Register.{MayTurnTo, Selects, SameOutside, value_of}
use Rattle.stable_buffer.proofs.Cells.{value-selects}
use Rattle.file_collector.specs.Held.{held_by}
use Rattle.file_collector.specs.Registers.{StandsOn, HasStart, held}
use Rattle.file_collector.proofs.Turns.{so_far_turns, staged, start_settled, turns, stored, all_turned, held_is}
use Rattle.file_collector.proofs.turning.turn.Goals as goal

pub returns-in_err-prepare-clause-moves : goal.returns-in_err-prepare-clause-moves
returns-in_err-prepare-clause-moves g c = λ next is.
    so_far_turns g.D.Disk.told next c.args.register.now.disk c.prepare.new.register.disk c.in_err-prepare.ensures.moves

pub returns-in_err-stage-clause-moves : goal.returns-in_err-stage-clause-moves
returns-in_err-stage-clause-moves g c = λ next is.
    let m = g.D.Disk.told in
    let old = c.args.register.now.disk in
    let mid = c.prepare.new.register.disk in
    let now = c.stage.new.self.disk in
    so_far_turns m next old now (staged m old mid now c.prepare.ensures.moves c.stage.ensures.moves)

pub returns-in_err-commit-clause-moves : goal.returns-in_err-commit-clause-moves
returns-in_err-commit-clause-moves g c = λ next is.
    let m = g.D.Disk.told in
    let r = c.args.register.now in
    let p = c.prepare.new.register in
    let q = c.stage.new.self in
    let n = c.commit.new.self in
    let stood : Moves m StandsOn r.disk q.disk = staged m r.disk p.disk q.disk c.prepare.ensures.moves c.stage.ensures.moves in
    let same : (q.first, q.second) ≡ (r.first, r.second) = c.stage.ensures.value ∙ c.prepare.ensures.value in
    let count : c.value-count.result.0 ≡ r.first = ap (λ (v : ℕ × ℕ). v.0) c.value-count.ensures in
    let holds : c.held.result ≡ held next = c.held.ensures ∙ ap held_by is ∙ held_is next in
    let to : (q.next_first, q.next_second) ≡ (r.first + 1, held next) = c.in_ok-stage.ensures.next ∙ (λ i. (count i + 1, holds i)) in
    let selects : Each m (Selects q.parity r.first r.second) q.disk = subst (λ (f : ℕ × ℕ). Each m (Selects q.parity f.0 f.1) q.disk) same (let staged = c.in_ok-stage.ensures.staged in staged.ready.each) in
    let has : Each m (λ c. r.second ≡ 0 → HasStart next c) q.disk = start_settled m next r.second p.disk q.disk (c.in_ok-prepare.ensures.started next is) c.stage.ensures.moves c.in_ok-stage.ensures.settled in
    let turn : Moves m (MayTurnTo (r.first + 1, held next)) q.disk n.disk = subst (λ (v : ℕ × ℕ). Moves m (MayTurnTo v) q.disk n.disk) to c.commit.ensures.moves in
    stored m next r.disk q.disk n.disk stood (turns m q.parity r.first r.second next q.disk n.disk selects has turn)

pub returns-clause-moves : goal.returns-clause-moves
returns-clause-moves g c = λ next is.
    let m = g.D.Disk.told in
    let r = c.args.register.now in
    let p = c.prepare.new.register in
    let q = c.stage.new.self in
    let n = c.commit.new.self in
    let stood : Moves m StandsOn r.disk q.disk = staged m r.disk p.disk q.disk c.prepare.ensures.moves c.stage.ensures.moves in
    let same : (q.first, q.second) ≡ (r.first, r.second) = c.stage.ensures.value ∙ c.prepare.ensures.value in
    let count : c.value-count.result.0 ≡ r.first = ap (λ (v : ℕ × ℕ). v.0) c.value-count.ensures in
    let holds : c.held.result ≡ held next = c.held.ensures ∙ ap held_by is ∙ held_is next in
    let to : (q.next_first, q.next_second) ≡ (r.first + 1, held next) = c.in_ok-stage.ensures.next ∙ (λ i. (count i + 1, holds i)) in
    let selects : Each m (Selects q.parity r.first r.second) q.disk = subst (λ (f : ℕ × ℕ). Each m (Selects q.parity f.0 f.1) q.disk) same (let staged = c.in_ok-stage.ensures.staged in staged.ready.each) in
    let has : Each m (λ c. r.second ≡ 0 → HasStart next c) q.disk = start_settled m next r.second p.disk q.disk (c.in_ok-prepare.ensures.started next is) c.stage.ensures.moves c.in_ok-stage.ensures.settled in
    let turn : Moves m (MayTurnTo (r.first + 1, held next)) q.disk n.disk = subst (λ (v : ℕ × ℕ). Moves m (MayTurnTo v) q.disk n.disk) to c.commit.ensures.moves in
    stored m next r.disk q.disk n.disk stood (turns m q.parity r.first r.second next q.disk n.disk selects has turn)

pub returns-clause-turned : goal.returns-clause-turned
returns-clause-turned g c = λ next is told.
    let m = g.D.Disk.told in
    let r = c.args.register.now in
    let p = c.prepare.new.register in
    let q = c.stage.new.self in
    let n = c.commit.new.self in
    let stood : Moves m StandsOn r.disk q.disk = staged m r.disk p.disk q.disk c.prepare.ensures.moves c.stage.ensures.moves in
    let same : (q.first, q.second) ≡ (r.first, r.second) = c.stage.ensures.value ∙ c.prepare.ensures.value in
    let count : c.value-count.result.0 ≡ r.first = ap (λ (v : ℕ × ℕ). v.0) c.value-count.ensures in
    let holds : c.held.result ≡ held next = c.held.ensures ∙ ap held_by is ∙ held_is next in
    let to : (q.next_first, q.next_second) ≡ (r.first + 1, held next) = c.in_ok-stage.ensures.next ∙ (λ i. (count i + 1, holds i)) in
    let selects : Each m (Selects q.parity r.first r.second) q.disk = subst (λ (f : ℕ × ℕ). Each m (Selects q.parity f.0 f.1) q.disk) same (let staged = c.in_ok-stage.ensures.staged in staged.ready.each) in
    let has : Each m (λ c. r.second ≡ 0 → HasStart next c) q.disk = start_settled m next r.second p.disk q.disk (c.in_ok-prepare.ensures.started next is) c.stage.ensures.moves c.in_ok-stage.ensures.settled in
    let value : value_of (m.reading n.disk) ≡ (r.first + 1, held next) =
    value-selects n.parity n.first n.second (m.reading n.disk) (let ready = c.in_ok-commit.ensures.ready in ready.each.reading told) ∙ c.in_ok-commit.ensures.value ∙ to in
    let outside : SameOutside (m.reading q.disk) (m.reading n.disk) = let t = c.commit.ensures.moves.reads told in t.outside in
    all_turned q.parity r.first r.second next (m.reading r.disk) (m.reading q.disk) (m.reading n.disk) (selects.reading told) (has.reading told) (stood.reads told) outside value

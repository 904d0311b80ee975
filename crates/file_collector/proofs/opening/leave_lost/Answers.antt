use Rattle.std.proofs.Common.{◌≡◌, ℕ, sym, ◌∙◌, ap, subst}
use Rattle.disk_model.specs.Disk.{Moves}
use Rattle.stable_buffer.specs.Register.{MayTurnTo}
use Rattle.file_collector.proofs.Crashes.{left_file}
use Rattle.file_collector.proofs.opening.leave_lost.Goals as goal

pub returns-in-Ok-commit-clause-moves : goal.returns-in-Ok-commit-clause-moves
returns-in-Ok-commit-clause-moves g c =
    let m = g.D.Disk.told in
    let r = c.args.register.now in
    let q = c.stage.new.self in
    let n = c.commit.new.self in
    let count : c.value-count.result.0 ≡ r.first = ap (λ (v : ℕ × ℕ). v.0) c.value-count.ensures in
    let first : q.first ≡ r.first = ap (λ (v : ℕ × ℕ). v.0) c.stage.ensures.value in
    let to : (q.next_first, q.next_second) ≡ (q.first, 0) = c.in-Ok.ensures.next ∙ (λ i. ((count ∙ sym first) i, 0)) in
    let staged = c.in-Ok.ensures.staged in
    left_file m q.parity q.first q.second r.disk q.disk n.disk staged.ready.each c.stage.ensures.moves
    (subst (λ (v : ℕ × ℕ). Moves m (MayTurnTo v) q.disk n.disk) to c.commit.ensures.moves)

pub returns-in-Err-commit-clause-moves : goal.returns-in-Err-commit-clause-moves
returns-in-Err-commit-clause-moves g c =
    let m = g.D.Disk.told in
    let r = c.args.register.now in
    let q = c.stage.new.self in
    let n = c.commit.new.self in
    let count : c.value-count.result.0 ≡ r.first = ap (λ (v : ℕ × ℕ). v.0) c.value-count.ensures in
    let first : q.first ≡ r.first = ap (λ (v : ℕ × ℕ). v.0) c.stage.ensures.value in
    let to : (q.next_first, q.next_second) ≡ (q.first, 0) = c.in-Ok.ensures.next ∙ (λ i. ((count ∙ sym first) i, 0)) in
    let staged = c.in-Ok.ensures.staged in
    left_file m q.parity q.first q.second r.disk q.disk n.disk staged.ready.each c.stage.ensures.moves
    (subst (λ (v : ℕ × ℕ). Moves m (MayTurnTo v) q.disk n.disk) to c.commit.ensures.moves)

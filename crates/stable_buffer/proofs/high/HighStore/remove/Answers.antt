use Rattle.std.proofs.Common.{◌≡◌, ℕ, ◌+◌, sym, ◌∙◌, ap, subst, arith}
use Rattle.std.proofs.lemmas.Grind.{common_steps}
use Rattle.disk_model.specs.Disk.{Moves, Each}
use Rattle.disk_model.proofs.Run.{weaker, goes_on, each_weaker}
use Rattle.stable_buffer.specs.Register.{KeepsValue, MayTurnTo, Selects, SameOutside, value_of}
use Rattle.stable_buffer.specs.Stands.{MayRemove}
use Rattle.stable_buffer.specs.High.{StandsForRemoved}
use Rattle.stable_buffer.proofs.Cells.{value-selects}
use Rattle.stable_buffer.proofs.Store.{removed_during}
use Rattle.stable_buffer.proofs.Slots.{high_keeps, high_turns, high_removes}
use Rattle.stable_buffer.proofs.high.HighStore.remove.Goals as goal

pub returns-in_err-stage-clause-moves : goal.returns-in_err-stage-clause-moves
returns-in_err-stage-clause-moves g c =
    let m = g.D.Disk.told in
    let r = c.args.self.now.register in
    let q = c.stage.new.self in
    weaker m (λ d. Unit {0}) KeepsValue MayRemove r.disk q.disk (record { reading = λ told. tt; images = λ told d is. tt }) (λ a b _ keeps. high_keeps a b keeps) c.stage.ensures.moves

pub returns-in_err-commit-clause-moves : goal.returns-in_err-commit-clause-moves
returns-in_err-commit-clause-moves g c =
    let m = g.D.Disk.told in
    let r = c.args.self.now.register in
    let q = c.stage.new.self in
    let n = c.commit.new.self in
    let number : c.value-number.result.0 ≡ r.first = ap (λ (v : ℕ × ℕ). v.0) c.value-number.ensures in
    let next : (q.next_first, q.next_second) ≡ (r.first + 1, 0) = c.in_ok-stage.ensures.next ∙ (λ i. (number i + 1, 0)) in
    let turn : Moves m (MayTurnTo (r.first + 1, 0)) q.disk n.disk = subst (λ (v : ℕ × ℕ). Moves m (MayTurnTo v) q.disk n.disk) next c.commit.ensures.moves in
    let has : Each m (λ d. value_of d ≡ (r.first, 0)) r.disk =
    each_weaker m (Selects r.parity r.first r.second) (λ d. value_of d ≡ (r.first, 0)) r.disk
    (λ d is. subst (λ k. value_of d ≡ (r.first, k)) c.requires.ready.second (value-selects r.parity r.first r.second d is)) c.requires.ready.ready.each in
    goes_on m (λ d. value_of d ≡ (r.first, 0)) KeepsValue (MayTurnTo (r.first + 1, 0)) MayRemove r.disk q.disk n.disk has
    (λ a b _ keeps. high_keeps a b keeps) (λ a b d is keeps t. high_turns r.first a b d is keeps t) c.stage.ensures.moves turn

pub returns-clause-moves : goal.returns-clause-moves
returns-clause-moves g c =
    let m = g.D.Disk.told in
    let r = c.args.self.now.register in
    let q = c.stage.new.self in
    let n = c.commit.new.self in
    let number : c.value-number.result.0 ≡ r.first = ap (λ (v : ℕ × ℕ). v.0) c.value-number.ensures in
    let next : (q.next_first, q.next_second) ≡ (r.first + 1, 0) = c.in_ok-stage.ensures.next ∙ (λ i. (number i + 1, 0)) in
    let turn : Moves m (MayTurnTo (r.first + 1, 0)) q.disk n.disk = subst (λ (v : ℕ × ℕ). Moves m (MayTurnTo v) q.disk n.disk) next c.commit.ensures.moves in
    let has : Each m (λ d. value_of d ≡ (r.first, 0)) r.disk =
    each_weaker m (Selects r.parity r.first r.second) (λ d. value_of d ≡ (r.first, 0)) r.disk
    (λ d is. subst (λ k. value_of d ≡ (r.first, k)) c.requires.ready.second (value-selects r.parity r.first r.second d is)) c.requires.ready.ready.each in
    goes_on m (λ d. value_of d ≡ (r.first, 0)) KeepsValue (MayTurnTo (r.first + 1, 0)) MayRemove r.disk q.disk n.disk has
    (λ a b _ keeps. high_keeps a b keeps) (λ a b d is keeps t. high_turns r.first a b d is keeps t) c.stage.ensures.moves turn

pub returns-clause-removed : goal.returns-clause-removed
returns-clause-removed g c = λ told.
    let m = g.D.Disk.told in
    let r = c.args.self.now.register in
    let q = c.stage.new.self in
    let n = c.commit.new.self in
    let number : c.value-number.result.0 ≡ r.first = ap (λ (v : ℕ × ℕ). v.0) c.value-number.ensures in
    let next : (q.next_first, q.next_second) ≡ (r.first + 1, 0) = c.in_ok-stage.ensures.next ∙ (λ i. (number i + 1, 0)) in
    let ready = c.in_ok-commit.ensures.ready in
    let value : value_of (m.reading n.disk) ≡ (r.first + 1, 0) = value-selects n.parity n.first n.second (m.reading n.disk) (ready.each.reading told) ∙ c.in_ok-commit.ensures.value ∙ next in
    let outside : SameOutside (m.reading q.disk) (m.reading n.disk) = let t = c.commit.ensures.moves.reads told in t.outside in
    let is : value_of (m.reading r.disk) ≡ (r.first, 0) =
    subst (λ k. value_of (m.reading r.disk) ≡ (r.first, k)) c.requires.ready.second (value-selects r.parity r.first r.second (m.reading r.disk) (c.requires.ready.ready.each.reading told)) in
    high_removes r.first (m.reading r.disk) (m.reading q.disk) (m.reading n.disk) is (c.stage.ensures.moves.reads told) outside value

pub returns-clause-ready : goal.returns-clause-ready
returns-clause-ready g c =
    let m = g.D.Disk.told in
    let r = c.args.self.now.register in
    let n = c.commit.new.self in
    let number : c.value-number.result.0 ≡ r.first = ap (λ (v : ℕ × ℕ). v.0) c.value-number.ensures in
    let value : (n.first, n.second) ≡ (r.first + 1, 0) = c.in_ok-commit.ensures.value ∙ c.in_ok-stage.ensures.next ∙ (λ i. (number i + 1, 0)) in
    let first : n.first ≡ r.first + 1 = ap (λ (v : ℕ × ℕ). v.0) value in
    record {
      ready = c.in_ok-commit.ensures.ready;
      count = omega (arith, first, c.requires.below);
      second = ap (λ (v : ℕ × ℕ). v.1) value;
      settled = c.in_ok-commit.ensures.settled;
      stands = λ told.
          let old = c.requires.ready.stands told in
          let gone = returns-clause-removed g c told in
          subst (λ k. StandsForRemoved k (m.reading n.disk)) (sym first) (old.0, gone.more old.0 r.first old.1);
    }

pub returns-in_err-stage-clause-during : goal.returns-in_err-stage-clause-during
returns-in_err-stage-clause-during g c = λ row stands.
    let r = c.args.self.now.register in
    removed_during g.D.Disk.told row r.first r.disk c.stage.new.self.disk c.requires.ready.settled stands (returns-in_err-stage-clause-moves g c)

pub returns-in_err-commit-clause-during : goal.returns-in_err-commit-clause-during
returns-in_err-commit-clause-during g c = λ row stands.
    let r = c.args.self.now.register in
    removed_during g.D.Disk.told row r.first r.disk c.commit.new.self.disk c.requires.ready.settled stands (returns-in_err-commit-clause-moves g c)

pub returns-clause-during : goal.returns-clause-during
returns-clause-during g c = λ row stands.
    let r = c.args.self.now.register in
    removed_during g.D.Disk.told row r.first r.disk c.commit.new.self.disk c.requires.ready.settled stands (returns-clause-moves g c)

pub returns-clause-answers : goal.returns-clause-answers
returns-clause-answers g c = grind (arith, common_steps)

pub returns-in_err-commit-clause-answers : goal.returns-in_err-commit-clause-answers
returns-in_err-commit-clause-answers g c = grind (arith, common_steps)

pub returns-in_err-stage-clause-answers : goal.returns-in_err-stage-clause-answers
returns-in_err-stage-clause-answers g c = grind (arith, common_steps)

pub overflow_add-number : goal.overflow_add-number
overflow_add-number g c = grind (arith, common_steps)

use Rattle.std.proofs.Common.{Ok, Err, Result, OnOk, ◌≡◌, ◌≤◌, List, [], ◌∷◌, length, take, drop, ℕ, ◌∙◌, subst}
use Rattle.disk_model.specs.Disk.{Meaning, Moves, Torn, IsWritten, Settled}
use Rattle.disk_model.proofs.Run.{goes_on_same}
use Rattle.file_collector.specs.Registers.{register_size}
use Rattle.file_collector.specs.Making.{new_register, IsUnmade, MayBeMade, MayClear}
use Rattle.file_collector.proofs.Makes.{before_mark, unmade_each, clear_made, behind_made, mark_made}
use Rattle.file_collector.proofs.Made.{is_made}
use Rattle.file_collector.proofs.making.write_new.Goals as goal

either : {T E : Type 0} (A : Type 0) (r : Result T E) → A → OnOk r A
either A (Ok t) a = a
either A (Err e) a = tt

pub returns-clause-made : goal.returns-clause-made
returns-clause-made g c =
    let m = g.D.Disk.told in
    let e = c.in_ok-clear.ensures in
    either (m.tells → m.reading c.sync-2.new.self ≡ new_register) c.sync-2.result (λ told.
    c.sync-2.ensures.moves.reads told
    ∙ is_made (m.reading c.clear.new.disk) (m.reading c.sync.new.self) (m.reading c.write_at-2.new.self) (e.few told) (e.cleared told)
    (c.sync.ensures.moves.reads told ∙ subst (λ (l : List ℕ). IsWritten (m.reading c.clear.new.disk) 4 l (m.reading c.write_at.new.self)) c.behind_mark-behind.ensures (c.in_ok-write_at.ensures.written told))
    (c.in_ok-write_at-2.ensures.written told))

-- as far as the bytes behind the mark
behind : {D : Type 0} (m : Meaning D) (old mid new : D) (bytes : List ℕ) → bytes ≡ drop 4 new_register → Settled m old → (m.tells → IsUnmade (m.reading old)) → Moves m MayClear old mid → Settled m mid
    → (m.tells → take 4 (m.reading mid) ≡ 0 ∷ 0 ∷ 0 ∷ 0 ∷ []) → (m.tells → length (m.reading mid) ≤ register_size) → Moves m (Torn 4 (length bytes)) mid new → Moves m MayBeMade old new
behind m old mid new bytes is settled unmade clears settles zeros few moves =
    let each = unmade_each m old settled unmade in
    behind_made m old mid new each settles zeros few (clear_made m old mid each clears)
    (subst (λ (l : List ℕ). Moves m (Torn 4 (length l)) mid new) is moves)

pub returns-in_err-clear-clause-moves : goal.returns-in_err-clear-clause-moves
returns-in_err-clear-clause-moves g c = λ settled unmade.
    let m = g.D.Disk.told in
    let old = c.args.disk.now in
    clear_made m old c.clear.new.disk (unmade_each m old settled unmade) (c.clear.ensures.moves settled)

pub returns-in_err-write_at-clause-moves : goal.returns-in_err-write_at-clause-moves
returns-in_err-write_at-clause-moves g c = λ settled unmade.
    let e = c.in_ok-clear.ensures in
    behind g.D.Disk.told c.args.disk.now c.clear.new.disk c.write_at.new.self c.behind_mark-behind.result c.behind_mark-behind.ensures settled unmade (c.clear.ensures.moves settled) (e.settled settled) e.cleared e.few c.write_at.ensures.moves

pub returns-in_err-sync-clause-moves : goal.returns-in_err-sync-clause-moves
returns-in_err-sync-clause-moves g c = λ settled unmade.
    let m = g.D.Disk.told in
    let e = c.in_ok-clear.ensures in
    let old = c.args.disk.now in
    goes_on_same m MayBeMade old c.write_at.new.self c.sync.new.self
    (behind m old c.clear.new.disk c.write_at.new.self c.behind_mark-behind.result c.behind_mark-behind.ensures settled unmade (c.clear.ensures.moves settled) (e.settled settled) e.cleared e.few c.write_at.ensures.moves)
    c.sync.ensures.moves

pub returns-in_err-write_at-2-clause-moves : goal.returns-in_err-write_at-2-clause-moves
returns-in_err-write_at-2-clause-moves g c = λ settled unmade.
    let m = g.D.Disk.told in
    let e = c.in_ok-clear.ensures in
    let old = c.args.disk.now in
    mark_made m old c.sync.new.self c.write_at-2.new.self (unmade_each m old settled unmade) c.in_ok-sync.ensures.durable
    (λ told. c.sync.ensures.moves.reads told
    ∙ before_mark (m.reading c.clear.new.disk) (m.reading c.write_at.new.self) (e.few told) (e.cleared told)
    (subst (λ (l : List ℕ). IsWritten (m.reading c.clear.new.disk) 4 l (m.reading c.write_at.new.self)) c.behind_mark-behind.ensures (c.in_ok-write_at.ensures.written told)))
    (goes_on_same m MayBeMade old c.write_at.new.self c.sync.new.self
    (behind m old c.clear.new.disk c.write_at.new.self c.behind_mark-behind.result c.behind_mark-behind.ensures settled unmade (c.clear.ensures.moves settled) (e.settled settled) e.cleared e.few c.write_at.ensures.moves)
    c.sync.ensures.moves)
    c.write_at-2.ensures.moves

pub returns-clause-moves : goal.returns-clause-moves
returns-clause-moves g c = λ settled unmade.
    let m = g.D.Disk.told in
    let e = c.in_ok-clear.ensures in
    let old = c.args.disk.now in
    goes_on_same m MayBeMade old c.write_at-2.new.self c.sync-2.new.self
    (mark_made m old c.sync.new.self c.write_at-2.new.self (unmade_each m old settled unmade) c.in_ok-sync.ensures.durable
    (λ told. c.sync.ensures.moves.reads told
    ∙ before_mark (m.reading c.clear.new.disk) (m.reading c.write_at.new.self) (e.few told) (e.cleared told)
    (subst (λ (l : List ℕ). IsWritten (m.reading c.clear.new.disk) 4 l (m.reading c.write_at.new.self)) c.behind_mark-behind.ensures (c.in_ok-write_at.ensures.written told)))
    (goes_on_same m MayBeMade old c.write_at.new.self c.sync.new.self
    (behind m old c.clear.new.disk c.write_at.new.self c.behind_mark-behind.result c.behind_mark-behind.ensures settled unmade (c.clear.ensures.moves settled) (e.settled settled) e.cleared e.few c.write_at.ensures.moves)
    c.sync.ensures.moves)
    c.write_at-2.ensures.moves)
    c.sync-2.ensures.moves

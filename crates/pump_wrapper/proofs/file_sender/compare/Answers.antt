use Rattle.std.proofs.Common.{ℕ, ◌∙◌, [], List, Result, Ok, refl, sym, subst, arith}
use Rattle.std.specs.Prelude.{IfErr, OnOk}
use Rattle.std.proofs.KnownBytes.{Consumes-nil}
use Rattle.pump_frame.specs.declared.row.SessionRow.{SessionRow}
use Rattle.stable_buffer.specs.Log.{RecvStands}
use Rattle.high_receiver.specs.Receiving.{recv_disk, recv_row}
use Rattle.pump_wrapper.specs.Comparing.{Compares, SameBytes}
use Rattle.pump_wrapper.specs.Cutting.{MayCut}
use Rattle.pump_wrapper.specs.Wraps.{end_of_comparison}
use Rattle.pump_wrapper.specs.WrapEnds.{ComparesNot, TakesSoFar}
use Rattle.pump_wrapper.specs.declared.compare.CompareFault.{CompareFault}
use Rattle.pump_wrapper.specs.declared.file_sender.WrapEnd.{WrapEnd}
use Rattle.pump_wrapper.proofs.Comparisons.{ok_of, ok_only, compares_not, takes_so_far, read_compared}
use Rattle.pump_wrapper.proofs.file_sender.compare.Goals as goal

pub returns-in-Err-clause-not : goal.returns-in-Err-clause-not
returns-in-Err-clause-not g c =
    let e = c.in-Err.ensures in
    (refl, (λ dev. (e.device dev, e.calls_err.rose dev)), λ other told. e.exact other told)

pub returns-in-Err-clause-takes : goal.returns-in-Err-clause-takes
returns-in-Err-clause-takes g c = (let few = c.requires.may.few in ([], Consumes-nil (g.I.Source.left c.args.file.now), (λ e. absurd (cc)), (λ e. omega (arith, few)), λ e. absurd (cc)))

pub returns-clause-compares : goal.returns-clause-compares
returns-clause-compares g c =
    let m = g.D.Disk.told in
    let e = c.in-Ok.ensures in
    let s = c.skip_received.ensures in
    subst (λ (r : Result (Unit {0}) WrapEnd). OnOk r (m.tells → (messages : List (List ℕ)) → RecvStands c.args.row.now messages (m.reading c.args.recv)
    → Compares messages c.args.cutter.now c.skip_received.new.cutter (g.I.Source.left c.args.file.now) (g.I.Source.left c.skip_received.new.file) (Ok tt)))
    (sym c.compared-answer.ensures)
    (ok_only c.skip_received.result (λ is told messages stands.
    let row = recv_row c.in-Ok.receiver in
    let held = subst (λ (r : SessionRow). RecvStands r messages (m.reading c.args.recv)) (sym e.row) stands in
    let read = subst (λ (bytes : List ℕ). RecvStands row messages bytes) (sym (e.same.reads told)) held in
    subst (λ (r : Result (Unit {0}) CompareFault). Compares messages c.args.cutter.now c.skip_received.new.cutter (g.I.Source.left c.args.file.now) (g.I.Source.left c.skip_received.new.file) r) is
    (s.compares told messages read)))

pub returns-clause-not : goal.returns-clause-not
returns-clause-not g c =
    let m = g.D.Disk.told in
    let e = c.in-Ok.ensures in
    let s = c.skip_received.ensures in
    let left = g.I.Source.left c.args.file.now in
    let rest = g.I.Source.left c.skip_received.new.file in
    let disk = recv_disk c.skip_received.new.receiver in
    subst (λ (r : Result (Unit {0}) WrapEnd). IfErr r (λ end. ComparesNot m c.args.row.now c.args.recv c.into_disk.result c.args.cutter.now left end))
    (sym c.compared-answer.ensures)
    (subst (λ d. IfErr (end_of_comparison c.skip_received.result) (λ end. ComparesNot m c.args.row.now c.args.recv d c.args.cutter.now left end)) (sym c.into_disk.ensures)
    (compares_not m c.args.row.now c.args.recv (recv_disk c.in-Ok.receiver) disk c.args.cutter.now c.skip_received.new.cutter left rest _ _ c.skip_received.result s.takes
    (λ told messages stands.
    let row = recv_row c.in-Ok.receiver in
    let held = subst (λ (r : SessionRow). RecvStands r messages (m.reading c.args.recv)) (sym e.row) stands in
    s.compares told messages (subst (λ (bytes : List ℕ). RecvStands row messages bytes) (sym (e.same.reads told)) held))
    e.calls.counts s.cause))

pub returns-clause-bytes : goal.returns-clause-bytes
returns-clause-bytes g c =
    subst (λ (r : Result (Unit {0}) WrapEnd). OnOk r (SameBytes c.args.cutter.now c.skip_received.new.cutter (g.I.Source.left c.args.file.now) (g.I.Source.left c.skip_received.new.file)))
    (sym c.compared-answer.ensures) (ok_of c.skip_received.result (λ is same. same) c.skip_received.ensures.same)

pub returns-clause-may : goal.returns-clause-may
returns-clause-may g c =
    subst (λ (r : Result (Unit {0}) WrapEnd). OnOk r (MayCut c.skip_received.new.cutter)) (sym c.compared-answer.ensures) (ok_of c.skip_received.result (λ is may. may) c.skip_received.ensures.may)

pub returns-clause-takes : goal.returns-clause-takes
returns-clause-takes g c =
    subst (λ (r : Result (Unit {0}) WrapEnd). TakesSoFar c.args.cutter.now c.skip_received.new.cutter (g.I.Source.left c.args.file.now) (g.I.Source.left c.skip_received.new.file) r)
    (sym c.compared-answer.ensures) (takes_so_far c.args.cutter.now c.skip_received.new.cutter _ _ c.skip_received.result c.skip_received.ensures.takes)

pub returns-clause-read : goal.returns-clause-read
returns-clause-read g c = λ e. read_compared _ _ _ _ c.skip_received.result c.skip_received.ensures.cause (sym c.compared-answer.ensures ∙ e)

use Rattle.std.proofs.Common.{◌≡◌, ◌∙◌, ◌-◌, ◌≤◌, ℕ, Some, ap, subst, sym, map, length, inl, inr}
use Rattle.file_messages.specs.Messages.{piece_message}
use Rattle.file_messages.specs.Cuts.{pieces}
use Rattle.file_dropper.specs.Readings.{still}
use Rattle.file_dropper.specs.declared.work.Sent.{Sent}
use Rattle.file_dropper.specs.declared.work.Work.TheVariants.{Free}
use Rattle.file_dropper.proofs.Outside.{leaves_then}
use Rattle.file_dropper.proofs.Steps.{counted, leaves_same, leaves_opened, leaves_begun, stands_begun, next_err, next_weaker}
use Rattle.file_dropper.proofs.sending.Dropper+O+O+File.begin.Goals as goal

pub returns-in_err-measure-clause-behind : goal.returns-in_err-measure-clause-behind
returns-in_err-measure-clause-behind g c = λ tells messages stands.
    let d = c.args.self.now in
    let m = g.O.Outbox.told in
    let rest = c.requires.may.on.marked tells in (
      elim c.in_err-measure.ensures.err [
        | inl same ↦ leaves_same m tells messages d.outbox stands.settled (Some c.args.name.now) rest stands.work.0 c.measure.new.self.outbox same
        | inr (bytes, opens) ↦ leaves_opened m tells messages d.outbox stands.settled (Some c.args.name.now) rest stands.work.0 c.measure.new.self.outbox bytes opens
      ],
      next_err m g.O.File.Source.left c.measure.new.self messages c.args.into.now _ c.from_residual.result c.from_residual.ensures.0,
    )

pub returns-clause-behind : goal.returns-clause-behind
returns-clause-behind g c = λ tells messages stands.
    let d = c.args.self.now in
    let m = g.O.Outbox.told in
    let left = g.O.File.Source.left in
    let rest = c.requires.may.on.marked tells in
    let is = counted m tells left messages (record d { work = Free (Some c.args.name.now) }) c.requires.may.not_awaited stands.count in
    let one = c.in_ok-measure.ensures in
    let two = c.in_ok-mark_sending.ensures in
    let three = c.in_ok-sender.ensures in
    let sender = c.in_ok-sender.sender in
    let (bytes, opens, measured) = one.ok.1 in
    let (same_sent, first, may, fits, again) = three.ok in
    let (whole, reopens, reads) = again in
    let o1 = c.measure.new.self in
    let o2 = c.mark_sending.new.self in
    let o3 = c.reopen.new.self in
    let m1 : o1.message ≡ d.message = ap (λ x. x.message) one.same in
    let m2 : o2.message ≡ o1.message = ap (λ x. x.message) two.same in
    let m3 : o3.message ≡ o2.message = ap (λ x. x.message) three.same in
    let n1 : o1.number ≡ d.number = ap (λ x. x.number) one.same in
    let n2 : o2.number ≡ o1.number = ap (λ x. x.number) two.same in
    let n3 : o3.number ≡ o2.number = ap (λ x. x.number) three.same in
    let a1 : o1.awaited ≡ d.awaited = ap (λ x. x.awaited) one.same in
    let a2 : o2.awaited ≡ o1.awaited = ap (λ x. x.awaited) two.same in
    let a3 : o3.awaited ≡ o2.awaited = ap (λ x. x.awaited) three.same in
    let sent = c.new-sent.result in
    let start : length messages ≡ sent.start = sym (ap (λ (x : Sent). x.start) c.new-sent.ensures.value ∙ n1 ∙ is) in
    let room = subst (λ (k : ℕ). 138 ≤ k) (sym m1) c.requires.may.on.least in
    let later = c.send.ensures.behind tells messages
    (stands_begun m tells messages d.outbox stands.settled (Some c.args.name.now) rest stands.work.0 o1.outbox bytes opens o1.message sent room start stands.work.1 o2.outbox two.moves two.ok o3.outbox whole reopens left sender same_sent first
    (reads tells).0 (subst (λ (k : ℕ). still left sender.reading ≡ map piece_message (pieces (k - 1) whole)) m2 (reads tells).1) o3.message o3.number o3.awaited (m3 ∙ m2) (n3 ∙ n2 ∙ n1 ∙ is) (a3 ∙ a2 ∙ a1 ∙ c.requires.may.not_awaited)) in (
      leaves_then m tells messages d.outbox o3.outbox c.send.new.self.outbox
          (leaves_begun m tells messages d.outbox stands.settled (Some c.args.name.now) rest stands.work.0 o1.outbox bytes opens o1.message sent room start stands.work.1 o2.outbox two.moves two.ok o3.outbox whole reopens)
          later.0,
      next_weaker m left c.send.new.self messages c.send.new.into _ _ c.send.result (λ start name other. let bad = sym first ∙ other.0 in cc) later.1,
    )

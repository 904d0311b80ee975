use Rattle.std.proofs.Common.{◌≡◌, ◌∙◌, ◌+◌, ◌-◌, ◌<◌, ℕ, ap, subst, sym, arith, length, inl, inr}
use Rattle.file_dropper.specs.Leaving.{sending, cut_length}
use Rattle.file_dropper.specs.Works.{bytes_of, still_of, IsOther, IsLawfulSent, IsMarked, mark_of}
use Rattle.file_dropper.specs.declared.work.Sent.{Sent}
use Rattle.file_dropper.proofs.Outside.{leaves_then}
use Rattle.file_dropper.proofs.Resuming.{leaves_opened, settled_opened, fits_now, gives_now, marked_still, bytes_opened, gives_up_for, ends_before, stands_on}
use Rattle.file_dropper.proofs.Steps.{on_weaker}
use Rattle.folders.specs.Outboxes.{Standing}
use Rattle.file_dropper.proofs.settling.Dropper+O+O+File.go_on.Goals as goal

pub returns-in-Message-clause-ask : goal.returns-in-Message-clause-ask
returns-in-Message-clause-ask g c =
    let d = c.args.self.now in
    let o = c.reopen.new.self in
    let three = c.in_ok-sender.ensures in
    let (same_sent, first, may, fits, again) = three.ok in
    let (whole, reopens, reads) = again in
    let m1 : o.message ≡ d.message = ap (λ x. x.message) three.same in
    let n1 : o.number ≡ d.number = ap (λ x. x.number) three.same in
    let sent : c.skip.new.sender.sent ≡ c.args.sent.now = c.skip.ensures.sent ∙ same_sent in
    let start : c.skip.new.sender.sent.start ≡ c.args.sent.now.start = ap (λ (x : Sent). x.start) sent in (
      record {
        on = record {
          least = omega (arith, m1, c.requires.may.least);
          greatest = omega (arith, m1, c.requires.may.greatest);
          work = record {
            sent = subst (λ (k : ℕ). IsLawfulSent k c.skip.new.sender.sent) (sym n1) (subst (IsLawfulSent d.number) (sym sent) c.requires.sent);
            may = c.skip.ensures.may c.in-Message.is;
            fits = c.skip.ensures.message ∙ fits ∙ sym m1;
            first = λ off. omega (arith, c.skip.ensures.first c.in-Message.is off, n1, start, c.requires.sent.start);
          };
          marked = λ tells.
              subst (λ (x : Sent). IsMarked (mark_of o.message x) (g.O.Outbox.told.stands o.outbox).marked) (sym sent)
              (subst (λ (k : ℕ). IsMarked (mark_of k c.args.sent.now) (g.O.Outbox.told.stands o.outbox).marked) (sym m1)
              (subst (λ (s : Standing). IsMarked (mark_of d.message c.args.sent.now) s.marked) (sym (reopens.stands tells))
              (marked_still (mark_of d.message c.args.sent.now) whole (g.O.Outbox.told.stands d.outbox).marked (c.requires.marked tells))));
        };
        asking = tt;
        not_awaited = ap (λ x. x.awaited) three.same ∙ c.requires.may.not_awaited;
      },
      n1,
    )

pub returns-in-Message-clause-behind : goal.returns-in-Message-clause-behind
returns-in-Message-clause-behind g c = λ tells messages is settled fits.
    let d = c.args.self.now in
    let m = g.O.Outbox.told in
    let left = g.O.File.Source.left in
    let o = c.reopen.new.self in
    let sent = c.args.sent.now in
    let three = c.in_ok-sender.ensures in
    let (same_sent, first, may, cuts, again) = three.ok in
    let (whole, reopens, reads) = again in
    let m1 : o.message ≡ d.message = ap (λ x. x.message) three.same in
    let n1 : o.number ≡ d.number = ap (λ x. x.number) three.same in
    let less : length messages < sent.start + cut_length d.message sent.size = omega (arith, c.requires.short, is) in
    let marked = c.requires.marked tells in (
      leaves_opened m tells left messages d.message sent d.outbox o.outbox settled fits marked less whole reopens,
      λ unchanged.
          let (before, part, rest, parts, starts, same) = unchanged in
          stands_on m tells left messages d.message sent d.outbox o.outbox settled fits marked less whole reopens c.in_ok-sender.sender c.skip.new.sender same_sent c.skip.ensures.sent first (reads tells).1
          (o.number - sent.start) (c.skip.ensures.skipped c.in-Message.is whole _ (reads tells).0) (omega (arith, n1, is, c.requires.sent.start)) before part rest parts starts
          (ap (λ (k : ℕ). sending k c.skip.new.sender.sent.name c.skip.new.sender.sent.size (bytes_of (m.stands o.outbox).marked)) (sym m1) ∙ same) o.message o.number o.awaited m1 (n1 ∙ is) (ap (λ x. x.awaited) three.same ∙ c.requires.may.not_awaited),
    )

pub returns-in-Failed-clause-behind : goal.returns-in-Failed-clause-behind
returns-in-Failed-clause-behind g c = λ tells messages is settled fits.
    let d = c.args.self.now in
    let three = c.in_ok-sender.ensures in
    let (whole, reopens, reads) = three.ok.4 in (
      leaves_opened g.O.Outbox.told tells g.O.File.Source.left messages d.message c.args.sent.now d.outbox c.reopen.new.self.outbox settled fits (c.requires.marked tells) (omega (arith, c.requires.short, is)) whole reopens,
      tt,
    )

pub returns-in-Done-clause-behind : goal.returns-in-Done-clause-behind
returns-in-Done-clause-behind g c = λ tells messages is settled fits.
    let d = c.args.self.now in
    let m = g.O.Outbox.told in
    let left = g.O.File.Source.left in
    let o = c.reopen.new.self in
    let sent = c.args.sent.now in
    let three = c.in_ok-sender.ensures in
    let (whole, reopens, reads) = three.ok.4 in
    let n1 : o.number ≡ d.number = ap (λ x. x.number) three.same in
    let less : length messages < sent.start + cut_length d.message sent.size = omega (arith, c.requires.short, is) in
    let marked = c.requires.marked tells in
    let later = c.give_up_file.ensures.behind tells messages (n1 ∙ is) (settled_opened m tells left messages d.message sent d.outbox o.outbox settled fits marked less whole reopens)
    (fits_now m tells left messages d.message sent d.outbox o.outbox settled fits marked less whole reopens) (gives_now m tells left messages d.message sent d.outbox o.outbox settled fits marked less whole reopens) in (
      leaves_then m tells messages d.outbox o.outbox c.give_up_file.new.self.outbox (leaves_opened m tells left messages d.message sent d.outbox o.outbox settled fits marked less whole reopens) later.0,
      on_weaker c.give_up_file.result _ _ later.1 (λ stands unchanged. stands),
    )

pub returns-in-Done-clause-answer : goal.returns-in-Done-clause-answer
returns-in-Done-clause-answer g c = λ tells.
    let d = c.args.self.now in
    let m = g.O.Outbox.told in
    let left = g.O.File.Source.left in
    let o = c.reopen.new.self in
    let sent = c.args.sent.now in
    let mark = mark_of d.message sent in
    let three = c.in_ok-sender.ensures in
    let (whole, reopens, reads) = three.ok.4 in
    let n1 : o.number ≡ d.number = ap (λ x. x.number) three.same in
    let other : IsOther sent whole = elim c.in-Done.is [
      | inl done ↦ ends_before left d.message sent d.number c.in_ok-sender.sender whole c.requires.may.least three.ok.1 (reads tells).1
          (subst (λ (k : ℕ). length (still_of left c.in_ok-sender.sender) < k - sent.start) n1 (c.skip.ensures.done done whole _ (reads tells).0)) c.requires.short
      | inr long ↦ λ same. omega (arith, c.skip.ensures.too_long long whole _ (reads tells).0, same.0, c.requires.sent.size)
    ] in
    let now : bytes_of (m.stands o.outbox).marked ≡ whole =
    ap (λ (s : Standing). bytes_of s.marked) (reopens.stands tells) ∙ bytes_opened mark whole (m.stands d.outbox).marked (c.requires.marked tells) in
    gives_up_for sent _ c.give_up_file.result c.give_up_file.ensures.answer
    (on_weaker c.give_up_file.result _ _ c.give_up_file.ensures.bytes (λ kept. subst (IsOther sent) (sym (kept tells ∙ now)) other))

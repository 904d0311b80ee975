use Rattle.std.proofs.Common.{sym, subst}
use Rattle.high_receiver.specs.LogReading.{HasStepped}
use Rattle.high_receiver.proofs.Blocks.{Holds, held, refilled, message_given, reading_on}
use Rattle.high_receiver.proofs.log_reader.LogReader.advance.Goals.{then-is_none+in_ok-fill, else-is_none}
use Rattle.high_receiver.proofs.log_reader.LogReader.advance.Goals as goal

pub returns-clause-message : goal.returns-clause-message
returns-clause-message g c = λ told messages stands.
    let m = g.D.Disk.told in
    let r = c.args.receiver.now in
    let s = c.args.self.now in
    let st = c.if-is_none in
    let q = c.requires in
    let holds : Holds m r st.receiver s st.self = elim st.branch [
      | then-is_none+in_ok-fill w ↦ let f = w.in_ok-fill.ensures in let r' = w.fill.new.receiver in let s' = w.fill.new.self in
          subst (λ k. Holds m r st.receiver s k) (sym w.self-is) (subst (λ k. Holds m r k s s') (sym w.receiver-is)
          (refilled m r s q.ready q.reading q.more r' s' f.ready f.reading f.filled f.keeps.count f.keeps.end f.keeps.row f.keeps.moves))
      | else-is_none w ↦ subst (λ k. Holds m r st.receiver s k) (sym w.self-is) (subst (λ k. Holds m r k s s) (sym w.receiver-is)
          (held m r s q.ready q.reading q.more c.most-most.result c.next_length.result w.if-is_none.ensures c.next_length.ensures.some))
    ] in
    message_given m r st.receiver s st.self c.step.new.self holds (subst (λ k. HasStepped k st.self c.step.new.self) c.most-most.ensures c.step.ensures.steps) told messages stands

pub returns-clause-reading : goal.returns-clause-reading
returns-clause-reading g c =
    let m = g.D.Disk.told in
    let r = c.args.receiver.now in
    let s = c.args.self.now in
    let st = c.if-is_none in
    let q = c.requires in
    let holds : Holds m r st.receiver s st.self = elim st.branch [
      | then-is_none+in_ok-fill w ↦ let f = w.in_ok-fill.ensures in let r' = w.fill.new.receiver in let s' = w.fill.new.self in
          subst (λ k. Holds m r st.receiver s k) (sym w.self-is) (subst (λ k. Holds m r k s s') (sym w.receiver-is)
          (refilled m r s q.ready q.reading q.more r' s' f.ready f.reading f.filled f.keeps.count f.keeps.end f.keeps.row f.keeps.moves))
      | else-is_none w ↦ subst (λ k. Holds m r st.receiver s k) (sym w.self-is) (subst (λ k. Holds m r k s s) (sym w.receiver-is)
          (held m r s q.ready q.reading q.more c.most-most.result c.next_length.result w.if-is_none.ensures c.next_length.ensures.some))
    ] in
    reading_on m r st.receiver s st.self c.step.new.self holds (subst (λ k. HasStepped k st.self c.step.new.self) c.most-most.ensures c.step.ensures.steps) c.step.ensures.block

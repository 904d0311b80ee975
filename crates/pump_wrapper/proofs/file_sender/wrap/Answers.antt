use Rattle.std.proofs.Common.{◌^◌, ◌<◌, ◌++◌, inr, ℕ, List, Option, Result, Ok, subst, arith}
use Rattle.std.specs.Io.KnownBytes.{Consumes}
use Rattle.script_reader.specs.Openings.{accepted_in}
use Rattle.pump_wrapper.specs.Comparing.{Compares, SameBytes}
use Rattle.pump_wrapper.specs.WrapEnds.{BeginFile, ComparesNot, TakesSoFar}
use Rattle.pump_wrapper.specs.declared.file_sender.WrapEnd.{WrapEnd}
use Rattle.pump_wrapper.specs.Wrapped.{wrapped}
use Rattle.pump_wrapper.proofs.Ending.{refuses_never}
use Rattle.pump_wrapper.proofs.Joining.{keeps_since, keeps_then, read_keeps}
use Rattle.pump_wrapper.proofs.Leaving.{prefix_wider, holds_some}
use Rattle.pump_wrapper.proofs.Wholes.{sent_whole}
use Rattle.pump_wrapper.proofs.Wrappings.{at_ok, at_err, has_still, prefix_still, not_ends, continues, gave_then}
use Rattle.pump_wrapper.proofs.file_sender.wrap.Goals as goal

pub returns-in-Err-clause-ends : goal.returns-in-Err-clause-ends
returns-in-Err-clause-ends g c = λ told f stand. c.in-Err.ensures.not.ends told (g.I.Source.left c.args.file.now) f stand

pub returns-in-Err-clause-images : goal.returns-in-Err-clause-images
returns-in-Err-clause-images g c = λ told f stand bytes is begins. c.in-Err.ensures.not.images told f stand (wrapped c.args.row.now.message bytes) begins

pub returns-in-Err-clause-since : goal.returns-in-Err-clause-since
returns-in-Err-clause-since g c = λ told f stand bytes is begins some prefix.
    let m = g.D.Disk.told in
    let row = c.args.row.now in
    let all = wrapped row.message bytes in
    keeps_since m row all c.args.disks.recv c.in-Err.failed.disks.recv told prefix (c.in-Err.ensures.not.keeps told f stand all begins some prefix)

pub returns-in-Ok-answer-clause-whole : goal.returns-in-Ok-answer-clause-whole
returns-in-Ok-answer-clause-whole g c = λ told bytes is.
    let m = g.D.Disk.told in
    let row = c.args.row.now in
    let e = c.in-Ok.ensures.empties in
    let (f, stand) = e.opened told in
    let messages = accepted_in f in
    let has = e.emptied told f stand in
    let a = c.compare-recv.ensures in
    let ok = c.in-Ok-answer.is in
    let r = c.compare-recv.result.1 in
    let start = c.new-cutter.result in
    let now = c.compare-recv.new.cutter in
    let rest = g.I.Source.left c.compare-recv.new.file in
    let mid = c.in-Ok.disks in
    let recv = c.compare-recv.result.0 in
    let sent = c.send_further.ensures.sent told messages (has_still m row mid.low mid.high mid.recv recv a.same messages told has) in
    sent_whole m row bytes messages start now rest a.takes.0 c.send_further.result.end c.send_further.result.disks (c.new-cutter.ensures.all bytes) (c.new-cutter.ensures.total bytes)
    (subst (λ (l : Option (List ℕ)). Consumes l rest a.takes.0) is a.takes.1)
    (subst (λ (l : Option (List ℕ)). Compares messages start now l rest (Ok tt)) is (at_ok r ok a.compares told messages has.hold.recv_is))
    (subst (λ (l : Option (List ℕ)). SameBytes start now l rest) is (at_ok r ok a.bytes)) sent

pub returns-in-Ok-answer-clause-ends : goal.returns-in-Ok-answer-clause-ends
returns-in-Ok-answer-clause-ends g c = λ told f stand.
    let m = g.D.Disk.told in
    let row = c.args.row.now in
    let messages = accepted_in f in
    let has = c.in-Ok.ensures.empties.emptied told f stand in
    let a = c.compare-recv.ensures in
    let ok = c.in-Ok-answer.is in
    let r = c.compare-recv.result.1 in
    let left = g.I.Source.left c.args.file.now in
    let rest = g.I.Source.left c.compare-recv.new.file in
    let mid = c.in-Ok.disks in
    let recv = c.compare-recv.result.0 in
    inr (c.send_further.ensures.ends told messages (has_still m row mid.low mid.high mid.recv recv a.same messages told has) left
    (continues row messages c.new-cutter.result c.compare-recv.new.cutter left rest a.takes.0 a.takes.1 c.new-cutter.ensures.all (at_ok r ok a.compares told messages has.hold.recv_is)))

pub returns-in-Ok-answer-clause-refused : goal.returns-in-Ok-answer-clause-refused
returns-in-Ok-answer-clause-refused g c =
    let m = g.D.Disk.told in
    let row = c.args.row.now in
    let a = c.compare-recv.ensures in
    let ok = c.in-Ok-answer.is in
    let r = c.compare-recv.result.1 in
    let left = g.I.Source.left c.args.file.now in
    let rest = g.I.Source.left c.compare-recv.new.file in
    let mid = c.in-Ok.disks in
    let recv = c.compare-recv.result.0 in
    refuses_never m row left c.args.disks c.send_further.result.disks c.send_further.result.disks c.send_further.result.end (λ told.
    let (f, stand) = c.in-Ok.ensures.empties.opened told in
    let messages = accepted_in f in
    let has = c.in-Ok.ensures.empties.emptied told f stand in (
      messages,
      c.send_further.ensures.ends told messages (has_still m row mid.low mid.high mid.recv recv a.same messages told has) left
          (continues row messages c.new-cutter.result c.compare-recv.new.cutter left rest a.takes.0 a.takes.1 c.new-cutter.ensures.all (at_ok r ok a.compares told messages has.hold.recv_is)),
    ))

pub returns-in-Ok-answer-clause-images : goal.returns-in-Ok-answer-clause-images
returns-in-Ok-answer-clause-images g c = λ told f stand bytes is begins was.
    let m = g.D.Disk.told in
    let row = c.args.row.now in
    let tells = m.images_tell told in
    let messages = accepted_in f in
    let e = c.in-Ok.ensures.empties in
    let has = e.emptied tells f stand in
    let a = c.compare-recv.ensures in
    let ok = c.in-Ok-answer.is in
    let r = c.compare-recv.result.1 in
    let left = g.I.Source.left c.args.file.now in
    let rest = g.I.Source.left c.compare-recv.new.file in
    let mid = c.in-Ok.disks in
    let recv = c.compare-recv.result.0 in
    let on = continues row messages c.new-cutter.result c.compare-recv.new.cutter left rest a.takes.0 a.takes.1 c.new-cutter.ensures.all (at_ok r ok a.compares tells messages has.hold.recv_is) in
    c.send_further.ensures.images told messages (has_still m row mid.low mid.high mid.recv recv a.same messages tells has)
    (prefix_still m row mid.low mid.high mid.recv recv a.same messages told (e.images told f stand)) (wrapped row.message bytes) begins
    (λ more first. subst (λ (l : Option (List ℕ)). BeginFile row l (messages ++ more)) is (on more first))

pub returns-in-Ok-answer-clause-since : goal.returns-in-Ok-answer-clause-since
returns-in-Ok-answer-clause-since g c = λ told f stand bytes is begins some prefix.
    let m = g.D.Disk.told in
    let row = c.args.row.now in
    let tells = m.images_tell told in
    let messages = accepted_in f in
    let all = wrapped row.message bytes in
    let e = c.in-Ok.ensures.empties in
    let has = e.emptied tells f stand in
    let a = c.compare-recv.ensures in
    let ok = c.in-Ok-answer.is in
    let r = c.compare-recv.result.1 in
    let left = g.I.Source.left c.args.file.now in
    let rest = g.I.Source.left c.compare-recv.new.file in
    let mid = c.in-Ok.disks in
    let recv = c.compare-recv.result.0 in
    let still = has_still m row mid.low mid.high mid.recv recv a.same messages tells has in
    let wider = prefix_wider m row messages all mid.recv begins (e.images told f stand) in
    let on = continues row messages c.new-cutter.result c.compare-recv.new.cutter left rest a.takes.0 a.takes.1 c.new-cutter.ensures.all (at_ok r ok a.compares tells messages has.hold.recv_is) in
    let read = keeps_then m row all c.args.disks.recv mid.recv recv (e.keeps told f stand all begins some prefix) (read_keeps m row all mid.recv recv (λ told. wider) a.same) in
    let sent = c.send_further.ensures.keeps told messages still all begins (λ more first. subst (λ (l : Option (List ℕ)). BeginFile row l (messages ++ more)) is (on more first))
    (holds_some row messages _ still.hold.recv_is) (prefix_still m row mid.low mid.high mid.recv recv a.same all told wider) in
    keeps_since m row all c.args.disks.recv c.send_further.result.disks.recv told prefix (keeps_then m row all c.args.disks.recv recv c.send_further.result.disks.recv read sent)

pub returns-in-Ok-answer-clause-gave : goal.returns-in-Ok-answer-clause-gave
returns-in-Ok-answer-clause-gave g c =
    let left = g.I.Source.left c.args.file.now in
    let rest = g.I.Source.left c.compare-recv.new.file in
    let takes = subst (λ (r : Result (Unit {0}) WrapEnd). TakesSoFar c.new-cutter.result c.compare-recv.new.cutter left rest r) c.in-Ok-answer.is c.compare-recv.ensures.takes in
    gave_then c.new-cutter.result c.compare-recv.new.cutter left rest _ _ c.new-cutter.ensures.bytes takes c.send_further.ensures.gave

pub returns-in-Err-answer-clause-ends : goal.returns-in-Err-answer-clause-ends
returns-in-Err-answer-clause-ends g c = λ told f stand.
    let row = c.args.row.now in
    let small : row.id < 2 ^ 32 = omega arith in
    let mid = c.in-Ok.disks in
    let a = c.compare-recv.ensures in
    let not = at_err (λ end. ComparesNot g.D.Disk.told c.args.row.now c.in-Ok.disks.recv c.compare-recv.result.0 c.new-cutter.result (g.I.Source.left c.args.file.now) end) c.compare-recv.result.1 c.in-Err-answer.end c.in-Err-answer.is a.not in
    inr (not_ends g.D.Disk.told row mid.low mid.high mid.recv c.compare-recv.result.0 a.same (accepted_in f) c.new-cutter.result (g.I.Source.left c.args.file.now) small c.requires.lawful c.new-cutter.ensures.all
    (c.in-Ok.ensures.empties.emptied told f stand) told c.in-Err-answer.end not)

pub returns-in-Err-answer-clause-refused : goal.returns-in-Err-answer-clause-refused
returns-in-Err-answer-clause-refused g c =
    let m = g.D.Disk.told in
    let row = c.args.row.now in
    let small : row.id < 2 ^ 32 = omega arith in
    let mid = c.in-Ok.disks in
    let a = c.compare-recv.ensures in
    let not = at_err (λ end. ComparesNot g.D.Disk.told c.args.row.now c.in-Ok.disks.recv c.compare-recv.result.0 c.new-cutter.result (g.I.Source.left c.args.file.now) end) c.compare-recv.result.1 c.in-Err-answer.end c.in-Err-answer.is a.not in
    let recv = c.compare-recv.result.0 in
    let left = g.I.Source.left c.args.file.now in
    refuses_never m row left c.args.disks _ (record { low = mid.low; high = mid.high; recv = recv }) c.in-Err-answer.end (λ told.
    let (f, stand) = c.in-Ok.ensures.empties.opened told in (
      accepted_in f,
      not_ends m row mid.low mid.high mid.recv recv a.same (accepted_in f) c.new-cutter.result left small c.requires.lawful c.new-cutter.ensures.all
          (c.in-Ok.ensures.empties.emptied told f stand) told c.in-Err-answer.end not,
    ))

pub returns-in-Err-answer-clause-images : goal.returns-in-Err-answer-clause-images
returns-in-Err-answer-clause-images g c = λ told f stand bytes is begins was.
    let m = g.D.Disk.told in
    let row = c.args.row.now in
    let mid = c.in-Ok.disks in
    let all = wrapped row.message bytes in
    prefix_still m row mid.low mid.high mid.recv c.compare-recv.result.0 c.compare-recv.ensures.same all told (prefix_wider m row (accepted_in f) all mid.recv begins (c.in-Ok.ensures.empties.images told f stand))

pub returns-in-Err-answer-clause-since : goal.returns-in-Err-answer-clause-since
returns-in-Err-answer-clause-since g c = λ told f stand bytes is begins some prefix.
    let m = g.D.Disk.told in
    let row = c.args.row.now in
    let mid = c.in-Ok.disks in
    let all = wrapped row.message bytes in
    let recv = c.compare-recv.result.0 in
    let e = c.in-Ok.ensures.empties in
    let wider = prefix_wider m row (accepted_in f) all mid.recv begins (e.images told f stand) in
    keeps_since m row all c.args.disks.recv recv told prefix
    (keeps_then m row all c.args.disks.recv mid.recv recv (e.keeps told f stand all begins some prefix) (read_keeps m row all mid.recv recv (λ told. wider) c.compare-recv.ensures.same))

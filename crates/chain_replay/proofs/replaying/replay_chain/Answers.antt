use Rattle.std.proofs.Common.{length, refl, sym, subst, inl, inr}
use Rattle.pump_chain.specs.Opening.{trio_of}
use Rattle.pump_chain.specs.Scripted.{chain_of}
use Rattle.script_reader.specs.declared.fault.Fault.TheVariants as faults
use Rattle.script_reader.specs.Openings.{new_disks}
use Rattle.script_replay.specs.Failing.{FailsAt}
use Rattle.script_replay.proofs.Stops.{closed_not}
use Rattle.chain_replay.specs.Opened.{shelved}
use Rattle.chain_replay.specs.Private.{IsDevice, IsDeviceEnd, lent}
use Rattle.chain_replay.proofs.Joining.{all_back, joins, out_left}
use Rattle.chain_replay.proofs.Mapped.{mapped}
use Rattle.chain_replay.proofs.Returning.{keeps_so, outlives_so}
use Rattle.chain_replay.proofs.Taking.{are_out, others_more}
use Rattle.chain_replay.proofs.EndsUnbegun.{ends, writes_nothing, not_stopped, rose_by_device, write_rose, not_given, not_joined}
use Rattle.chain_replay.proofs.Whole.{no_rows, both_begin, not_words, read_rose, stopped_same}
use Rattle.chain_replay.proofs.Failed.{fails_at, rose_back, not_device}
use Rattle.chain_replay.proofs.replaying.replay_chain.Goals as goal

pub returns-in-Err-clause-ends : goal.returns-in-Err-clause-ends
returns-in-Err-clause-ends g c = λ told tells.
    let h = c.in-Err.ensures.halted new_disks in
    no_rows (shelved (g.S.Shelf.told.disk c.args.shelf.now) (g.S.Shelf.told.disk c.args.shelf.now) (FailsAt g.S.Shelf.told g.S.Disk.Disk.told c.args.shelf.now c.args.shelf.now)) new_disks _ _ _ _ (g.I.Source.faults c.args.script.now) (g.I.Source.faults c.read_rows.new.script) h.0 c.in-Err.fault c.stop.result _ _ h.1 (λ name. refl) h.2 c.stop.ensures

pub returns-in-Err-clause-words : goal.returns-in-Err-clause-words
returns-in-Err-clause-words g c =
    let h = c.in-Err.ensures.halted new_disks in
    closed_not _ _ _ _ _ _ _ c.stop.result c.stop.ensures (not_words h.2.rest (g.I.Source.left c.read_rows.new.script) (length h.2.lines) (g.I.Source.faults c.args.script.now) (g.I.Source.faults c.read_rows.new.script) h.0 c.in-Err.fault h.2.halted)

pub returns-in-Err-clause-read : goal.returns-in-Err-clause-read
returns-in-Err-clause-read g c = λ e.
    let h = c.in-Err.ensures.halted new_disks in
    read_rose h.2.rest (g.I.Source.left c.read_rows.new.script) (length h.2.lines) (g.I.Source.faults c.args.script.now) (g.I.Source.faults c.read_rows.new.script) h.0 c.in-Err.fault h.2.halted
    (stopped_same _ _ _ _ _ c.in-Err.fault _ c.stop.result c.stop.ensures e)

-- no chain has begun
pub returns-in-Err-take_six : goal.returns-in-Err-take_six
returns-in-Err-take_six g c =
    let h = g.S.Shelf.told in
    let m = g.S.Disk.Disk.told in
    let old = c.args.shelf.now in
    let new = c.take_six.new.shelf in
    let one = c.in-Ok.rows.0 in
    let two = c.in-Ok.rows.1 in
    let written = g.O.Sink.written c.args.out.now in
    let later = g.O.Sink.written c.end_unbegun.new.out in
    let rose = g.O.Sink.faults c.args.out.now in
    let risen = g.O.Sink.faults c.end_unbegun.new.out in
    let result = c.end_unbegun.result in
    let fault = c.in-Err-take_six.fault in
    let e = c.in-Err-take_six.ensures in
    let closes = c.end_unbegun.ensures in
    let unjoined = not_given h m old new one two fault e.alike e.others e.of e.cause in
    record {
      ends = ends h m old new one two written later rose risen result fault unjoined closes new_disks (g.I.Source.left c.args.script.now) (g.I.Source.left c.read_rows.new.script)
          (g.I.Source.faults c.args.script.now) (g.I.Source.faults c.read_rows.new.script) c.read_rows.new.lines c.in-Ok.ensures.follows (c.in-Ok.ensures.rows new_disks) c.read_rows.ensures.number;
      memory = writes_nothing h m old new one two written later rose risen result fault closes;
      words = not_stopped h m old new one two written later rose risen result fault unjoined.line closes faults.Words (λ none. none);
      back = unjoined.back;
      device = rose_by_device h m old new one two written later rose risen result fault unjoined closes;
      read = λ is. absurd (not_stopped h m old new one two written later rose risen result fault unjoined.line closes faults.Read (λ none. none) is);
      write = write_rose h m old new one two written later rose risen result fault closes;
    }

pub put_six_back-requires-clause-first : goal.put_six_back-requires-clause-first
put_six_back-requires-clause-first g c = are_out g.S.Disk.Disk.told (g.S.Shelf.told.disk c.take_six.new.shelf) c.in-Ok.rows.0.id c.in-Ok-take_six.disks.first c.in-Ok-take_six.ensures.first_out

pub put_six_back-requires-clause-second : goal.put_six_back-requires-clause-second
put_six_back-requires-clause-second g c = are_out g.S.Disk.Disk.told (g.S.Shelf.told.disk c.take_six.new.shelf) c.in-Ok.rows.1.id c.in-Ok-take_six.disks.second c.in-Ok-take_six.ensures.second_out

pub returns-in-Err-open : goal.returns-in-Err-open
returns-in-Err-open g c =
    let h = g.S.Shelf.told in
    let m = g.S.Disk.Disk.told in
    let old = c.args.shelf.now in
    let new = c.put_six_back.new.shelf in
    let one = c.in-Ok.rows.0 in
    let two = c.in-Ok.rows.1 in
    let written = g.O.Sink.written c.args.out.now in
    let later = g.O.Sink.written c.end_unbegun-in-Err-open.new.out in
    let rose = g.O.Sink.faults c.args.out.now in
    let risen = g.O.Sink.faults c.end_unbegun-in-Err-open.new.out in
    let result = c.end_unbegun-in-Err-open.result in
    let fault = c.chain_fault.result in
    let t = c.in-Ok-take_six.ensures in
    let p = c.put_six_back.ensures in
    let closes = c.end_unbegun-in-Err-open.ensures in
    let refused = c.in-Err-open.refused in
    let unjoined = not_joined h m old new one two c.take_six.new.shelf c.in-Ok-take_six.disks refused.disks t.later t.first_read t.second_read t.first_out t.second_out t.others
    p.first p.second p.first_rises p.second_rises p.others refused.why fault c.chain_fault.ensures.is c.chain_fault.ensures.line c.in-Err-open.ensures.back in
    record {
      ends = ends h m old new one two written later rose risen result fault unjoined closes new_disks (g.I.Source.left c.args.script.now) (g.I.Source.left c.read_rows.new.script)
          (g.I.Source.faults c.args.script.now) (g.I.Source.faults c.read_rows.new.script) c.read_rows.new.lines c.in-Ok.ensures.follows (c.in-Ok.ensures.rows new_disks) c.read_rows.ensures.number;
      memory = writes_nothing h m old new one two written later rose risen result fault closes;
      words = not_stopped h m old new one two written later rose risen result fault unjoined.line closes faults.Words (λ none. none);
      back = unjoined.back;
      device = rose_by_device h m old new one two written later rose risen result fault unjoined closes;
      read = λ is. absurd (not_stopped h m old new one two written later rose risen result fault unjoined.line closes faults.Read (λ none. none) is);
      write = write_rose h m old new one two written later rose risen result fault closes;
    }

-- the chain has ended
pub leave-requires-clause-first : goal.leave-requires-clause-first
leave-requires-clause-first g c = are_out g.S.Disk.Disk.told (g.S.Shelf.told.disk c.take_six.new.shelf) c.in-Ok.rows.0.id (trio_of c.in-Ok-open.chain.first) (out_left g.S.Disk.Disk.told (g.S.Shelf.told.disk c.take_six.new.shelf) c.in-Ok.rows.0 c.in-Ok-take_six.disks.first (trio_of c.in-Ok-open.chain.first) c.in-Ok-open.ensures.left.0 c.in-Ok-take_six.ensures.first_out)

pub leave-requires-clause-second : goal.leave-requires-clause-second
leave-requires-clause-second g c = are_out g.S.Disk.Disk.told (g.S.Shelf.told.disk c.take_six.new.shelf) c.in-Ok.rows.1.id (trio_of c.in-Ok-open.chain.second) (out_left g.S.Disk.Disk.told (g.S.Shelf.told.disk c.take_six.new.shelf) c.in-Ok.rows.1 c.in-Ok-take_six.disks.second (trio_of c.in-Ok-open.chain.second) c.in-Ok-open.ensures.left.1 c.in-Ok-take_six.ensures.second_out)

pub returns-in-Ok-open-clause-ends : goal.returns-in-Ok-open-clause-ends
returns-in-Ok-open-clause-ends g c = λ told tells.
    let before = g.S.Shelf.told.disk c.args.shelf.now in
    let after = g.S.Shelf.told.disk c.leave.new.shelf in
    let all = g.I.Source.left c.args.script.now in
    let one = c.in-Ok.rows.0 in
    let two = c.in-Ok.rows.1 in
    let t = c.in-Ok-take_six.ensures in
    let o = c.in-Ok-open.ensures in
    let j = joins g.S.Disk.Disk.told before one two c.in-Ok-open.chain c.in-Ok-take_six.disks.first c.in-Ok-take_six.disks.second c.in-Ok.ensures.lawful c.in-Ok.ensures.follows
    (t.first_read told) (t.second_read told) (o.first tells) (o.second tells) (o.stands tells) in
    let read = both_begin j.openings all (g.I.Source.left c.read_rows.new.script) c.read_rows.new.lines one two c.in-Ok.ensures.follows j.linked (c.in-Ok.ensures.rows j.openings) c.read_rows.ensures.number in
    let others = others_more before (g.S.Shelf.told.disk c.take_six.new.shelf) after one.id two.id c.in-Ok-take_six.ensures.others c.leave.ensures.others in
    mapped (lent g.S.Disk.Disk.told c.in-Ok-open.chain c.run-ended.new.chain j.openings one two) (shelved before after (FailsAt g.S.Shelf.told g.S.Disk.Disk.told c.args.shelf.now c.leave.new.shelf)) (λ h. absurd h)
    (keeps_so g.S.Disk.Disk.told c.in-Ok-open.chain c.run-ended.new.chain before after j.openings one two j.first_found j.second_found (c.leave.ensures.left told tells) others)
    (outlives_so g.S.Disk.Disk.told c.in-Ok-open.chain c.run-ended.new.chain before after j.openings one two j.first_found j.second_found (c.leave.ensures.left told tells) others) (λ row other h. absurd h) (λ row other fault h. absurd h)
    (fails_at g.S.Shelf.told g.S.Disk.Disk.told c.args.shelf.now c.take_six.new.shelf c.leave.new.shelf one.id two.id c.in-Ok-open.chain c.run-ended.new.chain (out_left g.S.Disk.Disk.told (g.S.Shelf.told.disk c.take_six.new.shelf) c.in-Ok.rows.0 c.in-Ok-take_six.disks.first (trio_of c.in-Ok-open.chain.first) c.in-Ok-open.ensures.left.0 c.in-Ok-take_six.ensures.first_out) (out_left g.S.Disk.Disk.told (g.S.Shelf.told.disk c.take_six.new.shelf) c.in-Ok.rows.1 c.in-Ok-take_six.disks.second (trio_of c.in-Ok-open.chain.second) c.in-Ok-open.ensures.left.1 c.in-Ok-take_six.ensures.second_out) c.in-Ok-take_six.ensures.later
    c.leave.ensures.first_rises c.leave.ensures.second_rises c.leave.ensures.first_back c.leave.ensures.second_back)
    all (g.I.Source.left c.run-ended.new.script) (g.O.Sink.written c.args.out.now) (g.O.Sink.written c.run-ended.new.out) (g.I.Source.faults c.args.script.now) (g.I.Source.faults c.read_rows.new.script) (g.I.Source.faults c.run-ended.new.script)
    c.read_rows.ensures.later c.run-ended.result (c.run-ended.ensures.ends tells j.openings all one two (chain_of j.openings one two) refl j.stands (refl, refl) read)

pub returns-in-Ok-open-clause-back : goal.returns-in-Ok-open-clause-back
returns-in-Ok-open-clause-back g c = λ told.
    let home = c.leave.ensures.home told in
    all_back (g.S.Shelf.told.disk c.args.shelf.now) (g.S.Shelf.told.disk c.leave.new.shelf) c.in-Ok.rows.0.id c.in-Ok.rows.1.id
    (others_more (g.S.Shelf.told.disk c.args.shelf.now) (g.S.Shelf.told.disk c.take_six.new.shelf) (g.S.Shelf.told.disk c.leave.new.shelf) _ _ c.in-Ok-take_six.ensures.others c.leave.ensures.others) home.0 home.1

pub returns-in-Err-clause-device : goal.returns-in-Err-clause-device
returns-in-Err-clause-device g c = λ session role e.
    let h = c.in-Err.ensures.halted new_disks in
    absurd (not_device h.2.rest (g.I.Source.left c.read_rows.new.script) (length h.2.lines) (g.I.Source.faults c.args.script.now) (g.I.Source.faults c.read_rows.new.script) h.0 c.in-Err.fault h.2.halted
    (subst IsDevice (sym (stopped_same _ _ _ _ _ c.in-Err.fault _ c.stop.result c.stop.ensures e)) tt))

pub returns-in-Ok-open-clause-device : goal.returns-in-Ok-open-clause-device
returns-in-Ok-open-clause-device g c = λ session role e.
    let m = g.S.Disk.Disk.told in
    let out = g.S.Shelf.told.disk c.take_six.new.shelf in
    let first = g.S.Shelf.told.disk_faults c.args.shelf.now in
    let mid = g.S.Shelf.told.disk_faults c.take_six.new.shelf in
    let last = g.S.Shelf.told.disk_faults c.leave.new.shelf in
    let opened = c.in-Ok-open.chain in
    let ran = c.run-ended.new.chain in
    elim (c.run-ended.ensures.device (subst IsDeviceEnd (sym e) tt)) [
      | inl failed ↦ rose_back m out c.in-Ok.rows.0.id (trio_of opened.first) (trio_of ran.first) first mid last c.in-Ok-take_six.ensures.later (out_left g.S.Disk.Disk.told (g.S.Shelf.told.disk c.take_six.new.shelf) c.in-Ok.rows.0 c.in-Ok-take_six.disks.first (trio_of c.in-Ok-open.chain.first) c.in-Ok-open.ensures.left.0 c.in-Ok-take_six.ensures.first_out) c.leave.ensures.first_rises failed
      | inr failed ↦ rose_back m out c.in-Ok.rows.1.id (trio_of opened.second) (trio_of ran.second) first mid last c.in-Ok-take_six.ensures.later (out_left g.S.Disk.Disk.told (g.S.Shelf.told.disk c.take_six.new.shelf) c.in-Ok.rows.1 c.in-Ok-take_six.disks.second (trio_of c.in-Ok-open.chain.second) c.in-Ok-open.ensures.left.1 c.in-Ok-take_six.ensures.second_out) c.leave.ensures.second_rises failed
    ]

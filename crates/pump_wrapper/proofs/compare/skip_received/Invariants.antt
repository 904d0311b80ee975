use Rattle.std.proofs.Common.{◌≡◌, ℕ, ◌+◌, ◌≤◌, List, length, take}
use Rattle.std.specs.Io.KnownBytes.{Consumes}
use Rattle.stable_buffer.specs.Log.{RecvStands}
use Rattle.high_receiver.specs.Receiving.{IsRecvReady, IsRecordAt, recv_disk, recv_row}
use Rattle.pump_wrapper.specs.Comparing.{SameBytes}
use Rattle.pump_wrapper.specs.Cutting.{MayCut, cut_bytes, cut_message}
use Rattle.pump_wrapper.specs.Receivers.{ReadsReceiver}
use Rattle.pump_wrapper.proofs.Compared.{passed}
use Rattle.pump_wrapper.proofs.compare.skip_received.Given as goal

abbrev pub invariant-loop-number : goal.invariant-loop-number
invariant-loop-number g l =
    let m = g.D.Disk.told in
    let r = l.fn.receiver in
    record {
      ready : IsRecvReady m l.receiver;
      keeps : ReadsReceiver m r l.receiver;
      place : IsRecordAt m l.receiver l.number l.at;
      later : g.I.Source.faults l.fn.file ≤ g.I.Source.faults l.file;
      may : MayCut l.cutter;
      message : cut_message l.cutter ≡ cut_message l.fn.cutter;
      passed : m.tells → (messages : List (List ℕ)) → RecvStands (recv_row r) messages (m.reading (recv_disk r)) → passed (take l.number messages) l.fn.cutter l.cutter (g.I.Source.left l.fn.file) (g.I.Source.left l.file);
      same : SameBytes l.fn.cutter l.cutter (g.I.Source.left l.fn.file) (g.I.Source.left l.file);
      bytes : (taken : List ℕ) × Consumes (g.I.Source.left l.fn.file) (g.I.Source.left l.file) taken × (cut_bytes l.cutter ≡ cut_bytes l.fn.cutter + length taken);
    }

use Rattle.std.proofs.Common.{◌≡◌, ℕ, ◌≤◌, false, List, drop, take}
use Rattle.std.specs.Io.KnownBytes.{Appends}
use Rattle.disk_model.specs.Plain.{plain_meaning}
use Rattle.high_receiver.specs.LogReading.{IsReading, given_count}
use Rattle.high_receiver.specs.Receiving.{IsRecvReady, recv_count, recv_disk, recv_row}
use Rattle.stable_buffer.specs.Log.{RecvStands}
use Rattle.commands.specs.Messages.{message_lines}
use Rattle.commands.proofs.messages.write_messages.Given as goal

abbrev pub invariant-loop-number : goal.invariant-loop-number
invariant-loop-number g l =
    let r = l.fn.receiver in
    record {
      ready : IsRecvReady plain_meaning l.receiver;
      calm : (recv_disk l.receiver).armed ≡ false;
      count : recv_count l.receiver ≡ recv_count r;
      row : recv_row l.receiver ≡ recv_row r;
      same : (recv_disk l.receiver).bytes ≡ (recv_disk r).bytes;
      reading : IsReading plain_meaning l.receiver l.log;
      given : given_count l.log ≡ l.number;
      later : g.O.Sink.faults l.fn.out ≤ g.O.Sink.faults l.out;
      wrote : (messages : List (List ℕ)) → RecvStands (recv_row r) messages (recv_disk r).bytes
          → Appends (g.O.Sink.written l.fn.out) (g.O.Sink.written l.out) (message_lines l.fn.session l.fn.from (drop l.fn.from (take l.number messages)));
    }

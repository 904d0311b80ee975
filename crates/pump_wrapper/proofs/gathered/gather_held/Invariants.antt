use Rattle.std.proofs.Common.{◌≡◌, ℕ, ◌-◌, ◌*◌, ◌≤◌, List, length, take}
use Rattle.stable_buffer.specs.Log.{RecvStands}
use Rattle.high_receiver.specs.Receiving.{IsRecvReady, recv_disk, recv_row}
use Rattle.high_receiver.specs.LogReading.{IsReading, given_count}
use Rattle.pump_wrapper.specs.HeldBack.{Held, held_in}
use Rattle.pump_wrapper.specs.Receivers.{ReadsReceiver}
use Rattle.pump_wrapper.specs.Wrapped.{unwrapped}
use Rattle.pump_wrapper.specs.Gathering.{HasTaken}
use Rattle.pump_wrapper.proofs.gathered.gather_held.Given as goal

abbrev pub invariant-loop-number : goal.invariant-loop-number
invariant-loop-number g l =
    let m = g.D.Disk.told in
    let r = l.fn.receiver in
    record {
      ready : IsRecvReady m l.receiver;
      keeps : ReadsReceiver m r l.receiver;
      reading : IsReading m l.receiver l.log;
      given : given_count l.log ≡ l.number;
      later : g.O.Sink.faults l.fn.out ≤ g.O.Sink.faults l.out;
      piece : l.gathering.size ≡ l.fn.message - 1;
      few : l.gathering.bytes ≤ l.number * 1024;
      taken : m.tells → (messages : List (List ℕ)) → RecvStands (recv_row r) messages (m.reading (recv_disk r)) → HasTaken l.fn.message (take l.number messages) l.gathering;
      bytes : m.tells → (messages : List (List ℕ)) → RecvStands (recv_row r) messages (m.reading (recv_disk r)) → l.gathering.bytes ≡ length (unwrapped (take l.number messages));
      wrote : m.tells → (messages : List (List ℕ)) → RecvStands (recv_row r) messages (m.reading (recv_disk r)) → Held (g.O.Sink.written l.fn.out) (g.O.Sink.written l.out) (held_in l.room) (unwrapped (take l.number messages));
    }

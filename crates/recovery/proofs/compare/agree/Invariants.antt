use Rattle.std.proofs.Common.{◌≡◌, ◌<◌, ◌≤◌, ℕ, List, false}
use Rattle.disk_model.specs.Disk.{Moves, Same}
use Rattle.stable_buffer.specs.Low.{IsLowReady, low_count, low_disk, low_row}
use Rattle.stable_buffer.specs.Log.{RecvStands}
use Rattle.high_receiver.specs.Receiving.{IsRecvReady, recv_disk, recv_row, recv_count, recv_end, recv_size}
use Rattle.recovery.specs.Agreement.{SlotsAgree}
use Rattle.recovery.specs.Calls.{Calls, GivesSlot}
use Rattle.recovery.proofs.compare.agree.Given as goal

abbrev pub invariant-loop-n : goal.invariant-loop-n
invariant-loop-n g l =
    let m = g.D.Disk.told in
    let low = l.fn.low in
    let receiver = l.fn.receiver in
    record {
      from : l.removed ≤ l.n;
      to : l.n ≤ l.taken;
      ready_low : IsLowReady m l.low;
      ready_receiver : IsRecvReady m l.receiver;
      low_is : (low_count l.low ≡ low_count low) × (low_row l.low ≡ low_row low);
      receiver_is : (recv_count l.receiver ≡ recv_count receiver) × (recv_end l.receiver ≡ recv_end receiver) × (recv_row l.receiver ≡ recv_row receiver) × (recv_size l.receiver ≡ recv_size receiver);
      moves_low : Moves m Same (low_disk low) (low_disk l.low);
      moves_receiver : Moves m Same (recv_disk receiver) (recv_disk l.receiver);
      same : m.tells → (messages : List (List ℕ)) → RecvStands (recv_row receiver) messages (m.reading (recv_disk receiver)) → SlotsAgree (low_row low) l.removed l.n messages (m.reading (low_disk low));
      first : l.n ≡ l.removed → (l.low ≡ low) × (l.receiver ≡ receiver);
      calls_low : l.removed < l.n → Calls m (low_disk low) (low_disk l.low) false;
      calls_receiver : l.removed < l.n → Calls m (recv_disk receiver) (recv_disk l.receiver) false × (m.tells_plan → GivesSlot m (low_row low) l.removed (low_disk low));
    }

-- A receiver is as ready with its row made coarse.
use Rattle.disk_model.specs.Disk.{Meaning}
use Rattle.stable_buffer.proofs.Coarse.{recv_stands}
use Rattle.high_receiver.specs.Receiving.{IsRecvReady, recv_made_coarse}
use Rattle.high_receiver.specs.declared.receiver.Receiver.{Receiver}

pub recv_ready : {D : Type 0} (m : Meaning D) (receiver : Receiver D) → IsRecvReady m receiver → IsRecvReady m (recv_made_coarse receiver)
recv_ready m receiver r = record {
  is_open = r.is_open;
  ready = r.ready;
  lawful = r.lawful;
  short = r.short;
  count = r.count;
  from = r.from;
  within = r.within;
  settled = r.settled;
  stands = λ told. (let s = r.stands told in (s.0, recv_stands receiver.row s.0 _ s.1));
}

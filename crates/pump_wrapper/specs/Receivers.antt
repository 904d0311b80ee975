-- What reading leaves of a receiver.
use Rattle.std.specs.Prelude.{◌≤◌}
use Rattle.disk_model.specs.Disk.{Meaning}
use Rattle.high_receiver.specs.Receiving.{KeepsLog, recv_disk}
use Rattle.high_receiver.specs.declared.receiver.Receiver.{Receiver}

-- it has the same messages, also after a crash; only the disk's count of faults may rise
pub record ReadsReceiver {D : Type 0} (m : Meaning D) (before after : Receiver D) : Type 0 where
  pub log : KeepsLog m before after
  pub counts : m.count (recv_disk before) ≤ m.count (recv_disk after)

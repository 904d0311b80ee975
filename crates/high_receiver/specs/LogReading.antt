-- What a reader of a receiver's log has given, and what it holds.
use Rattle.std.specs.Prelude.{◌≡◌, ℕ, ◌+◌, ◌-◌, ◌≤◌, false, List, length, take, drop, min, Result, OnOk, OnErr}
use Rattle.disk_model.specs.Disk.{Meaning}
use Rattle.pump_frame.specs.Counts.{Rose}
use Rattle.stable_buffer.specs.Log.{RecvStands}
use Rattle.stable_buffer.specs.Numbers.{length_at, message_at}
use Rattle.high_receiver.specs.Receiving.{recv_disk, recv_end, recv_row, record_at}
use Rattle.high_receiver.specs.declared.log_reader.LogReader.{LogReader}
use Rattle.high_receiver.specs.declared.receiver.Receiver.{Receiver}

-- how many messages it has given
abbrev pub given_count : LogReader → ℕ
given_count reader = reader.count

-- the one that it gave last
abbrev pub given_message : LogReader → List ℕ
given_message reader = take (reader.until - reader.from) (drop reader.from reader.block)

-- the message, of 1,024 bytes at most, is in the part of the block that is filled
pub record IsInBlock (reader : LogReader) : Type 0 where
  pub block : length reader.block ≡ 65536
  pub filled : reader.filled ≤ 65536
  pub from : reader.from ≤ reader.until
  pub until : reader.until ≤ reader.filled
  pub short : reader.until ≤ reader.from + 1024

-- it has given none, and holds nothing of a log
pub record IsNew (reader : LogReader) : Type 0 where
  pub in_block : IsInBlock reader
  pub start : reader.start ≡ 80
  pub filled : reader.filled ≡ 0
  pub until : reader.until ≡ 0
  pub count : reader.count ≡ 0

-- it holds a part of a receiver's log, and the next record stands behind those of the messages that were given
pub record IsReading {D : Type 0} (m : Meaning D) (receiver : Receiver D) (reader : LogReader) : Type 0 where
  pub in_block : IsInBlock reader
  pub within : reader.start + reader.filled ≤ recv_end receiver
  pub bytes : m.tells → take reader.filled reader.block
      ≡ take reader.filled (drop reader.start (m.reading (recv_disk receiver)))
  pub place : m.tells → (messages : List (List ℕ))
      → RecvStands (recv_row receiver) messages (m.reading (recv_disk receiver))
      → reader.start + reader.until ≡ record_at messages reader.count

-- the block begins at the next record, and goes to the log's end where that fits
pub record HasFilled {D : Type 0} (receiver : Receiver D) (old new : LogReader) : Type 0 where
  pub start : new.start ≡ old.start + old.until
  pub filled : new.filled ≡ min (recv_end receiver - new.start) 65536
  pub until : new.until ≡ 0
  pub count : new.count ≡ old.count

-- The next message, of `most` bytes at most, is given where its record is in the block. All else is as before.
pub record HasStepped (most : ℕ) (old new : LogReader) : Type 0 where
  pub block : new.block ≡ old.block
  pub start : new.start ≡ old.start
  pub filled : new.filled ≡ old.filled
  pub count : new.count ≡ old.count + 1
  pub short : new.until ≤ new.from + most
  pub found : length_at old.block old.until ≤ most → old.until + (2 + length_at old.block old.until) ≤ old.filled
      → (given_message new ≡ message_at old.block old.until)
      × (new.until ≡ old.until + (2 + length_at old.block old.until))

-- The disk was called, or what was asked for was held already. It fails only where a call did: by its count, and by
-- the plan of a disk that tells one.
pub record MayAnswer {D T E : Type 0} (m : Meaning D) (old new : D) (result : Result T E) : Type 0 where
  pub counts : m.count old ≤ m.count new
  pub rose : OnErr result (Rose (m.count old) (m.count new))
  pub never : OnErr result (m.tells_plan → m.armed old ≡ false → ⊥)
  pub room : m.tells_plan → m.room new ≡ m.room old
  pub armed : OnOk result (m.tells_plan → m.armed new ≡ m.armed old)
  pub disarmed : OnErr result (m.tells_plan → m.armed new ≡ false)

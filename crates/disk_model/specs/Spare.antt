-- The buffers and the record of a MemDisk. Only its own proofs read this.
use Rattle.std.specs.Prelude.{◌≡◌, ℕ, ◌+◌, ◌≤◌, [], All, Vec, vec_len, vec_capacity}
use Rattle.std.specs.VecDeque.{deque_len, deque_capacity}
use Rattle.std.specs.declared.collections.VecDeque.{VecDeque}
use Rattle.std.specs.declared.alloc.Global.{Global}
use Rattle.disk_model.specs.Contents.{Held}
use Rattle.disk_model.specs.Record.{replay}
use Rattle.disk_model.specs.declared.record.Entry.{Entry}

-- an empty buffer that takes this many bytes
pub record HasSpare (room : ℕ) (buffer : Vec ℕ Global) : Type 0 where
  pub empty : buffer.items ≡ []
  pub takes : room ≤ vec_capacity buffer

-- what is read is what the record gives, and each call that the record still takes finds its memory
pub record IsKept (start current made : Held) (log : VecDeque Entry Global) (spare : Vec (Vec ℕ Global) Global)
    (left : ℕ) : Type 0 where
  pub replayed : current.bytes ≡ replay start log.items
  pub current_room : current.room ≡ start.room
  pub made_room : made.room ≡ start.room
  pub spare_room : All (HasSpare start.room) spare.items
  pub spare_count : left ≤ vec_len spare
  pub log_room : deque_len log + left ≤ deque_capacity log

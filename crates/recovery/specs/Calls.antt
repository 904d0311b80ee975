-- When an opening says that a disk failed.
use Rattle.std.specs.Prelude.{◌≡◌, ◌⊎◌, ◌≤◌, ◌&&◌, ℕ, Bool, true, false, not, Result, Ok, Err, Option, Some, None}
use Rattle.pump_frame.specs.Counts.{Rose}
use Rattle.pump_frame.specs.declared.row.SessionRow.{SessionRow}
use Rattle.disk_model.specs.Disk.{Meaning, Moves, Same}
use Rattle.disk_model.specs.declared.name.Role.{Role}
use Rattle.disk_model.specs.declared.name.Role.TheVariants.{Low, High, Recv}
use Rattle.stable_buffer.specs.Numbers.{length_at}
use Rattle.stable_buffer.specs.Stands.{slot_of}
use Rattle.stable_buffer.specs.Low.{low_disk}
use Rattle.stable_buffer.specs.High.{high_disk}
use Rattle.high_receiver.specs.Receiving.{recv_disk, recv_is_open}
use Rattle.high_receiver.specs.declared.receiver.Receiver.{Receiver}
use Rattle.recovery.specs.Refusals.{refused_disk}
use Rattle.recovery.specs.declared.why.Why.{Why}
use Rattle.recovery.specs.declared.why.Why.TheVariants.{Device, NotABuffer, WrongShape, BadRegister, Mismatch, BadSlot}
use Rattle.recovery.specs.declared.why.Why.TheVariants.{Apart, Differs, NotEmpty, Small, TooLong}
use Rattle.recovery.specs.declared.pump.Opened.{Opened}
use Rattle.recovery.specs.declared.pump.NotOpened.{NotOpened}

-- the cause is that a call of a disk failed
abbrev pub is_device : Why → Bool
is_device (Device faults) = true
is_device (NotABuffer size bytes) = false
is_device (WrongShape field found wanted) = false
is_device (BadRegister first second) = false
is_device (Mismatch removed accepted) = false
is_device (BadSlot number length) = false
is_device (Apart count bound) = false
is_device (Differs number) = false
is_device (NotEmpty size) = false
is_device (Small held capacity) = false
is_device (TooLong number length) = false

-- the answer is that the disk failed
abbrev pub failed : {T : Type 0} → Result T Why → Bool
failed (Ok value) = false
failed (Err why) = is_device why

abbrev pub is_low : Role → Bool
is_low Low = true
is_low High = false
is_low Recv = false

abbrev pub is_high : Role → Bool
is_high Low = false
is_high High = true
is_high Recv = false

-- .. low's disk, or high's, where there are two
abbrev pub low_failed : {D : Type 0} → Result (Opened D) (NotOpened D) → Bool
low_failed (Ok opened) = false
low_failed (Err refused) = is_low refused.role && is_device refused.why

abbrev pub high_failed : {D : Type 0} → Result (Opened D) (NotOpened D) → Bool
high_failed (Ok opened) = false
high_failed (Err refused) = is_high refused.role && is_device refused.why

-- the disks after an opening
abbrev pub low_left : {D : Type 0} → Result (Opened D) (NotOpened D) → D
low_left (Ok opened) = low_disk opened.low
low_left (Err refused) = refused.low

abbrev pub high_left : {D : Type 0} → Result (Opened D) (NotOpened D) → D
high_left (Ok opened) = high_disk opened.high
high_left (Err refused) = refused.high

-- The disk was called. It failed only where its count rose; by the plan never where it wasn't armed, and always where
-- it was. After that it isn't armed.
pub record Calls {D : Type 0} (m : Meaning D) (old new : D) (failed : Bool) : Type 0 where
  pub counts : m.count old ≤ m.count new
  pub rose : failed ≡ true → Rose (m.count old) (m.count new)
  pub never : m.tells_plan → m.armed old ≡ false → failed ≡ false
  pub always : m.tells_plan → m.armed old ≡ true → failed ≡ true
  pub room : m.tells_plan → m.room new ≡ m.room old
  pub disarmed : m.tells_plan → m.armed new ≡ false

-- An opening that is refused gives the disk back: unwritten, with the first cause in the order, or with a failed call
-- of it and the count of those as it is then.
pub record GivesBack {D : Type 0} (m : Meaning D) (first : Option Why) (old : D) (back : D × Why) : Type 0 where
  pub exact : is_device back.1 ≡ false → m.tells → first ≡ Some back.1
  pub device : is_device back.1 ≡ true → back.1 ≡ Device (m.count back.0)
  pub calls : Calls m old back.0 (is_device back.1)
  pub same : Moves m Same old back.0

-- by the plan low's disk alone lets an opening go on to high's
abbrev pub LetsGoOn : {D : Type 0} → Meaning D → SessionRow → D → Type 0
LetsGoOn m row low = (m.armed low ≡ false) × (refused_disk row Low (m.reading low) ≡ None)

-- High's disk was called, or it is as it was: the latter exactly where low's alone stopped the opening.
abbrev pub CallsHigh : {D : Type 0} → Meaning D → SessionRow → D → D → D → Bool → Type 0
CallsHigh m row low old new failed =
    (Calls m old new failed × (m.tells_plan → LetsGoOn m row low))
    ⊎ ((new ≡ old) × (failed ≡ false) × (m.tells_plan → LetsGoOn m row low → ⊥))

-- by the plan low's disk gives the message of a slot
abbrev pub GivesSlot : {D : Type 0} → Meaning D → SessionRow → ℕ → D → Type 0
GivesSlot m row n low = (m.armed low ≡ false) × (length_at (m.reading low) (slot_of row n) ≤ row.message)

-- The receiver's disk was called, or the receiver is as it was: the latter exactly where low's disk gave no message
-- of this slot to compare.
abbrev pub CallsReceiver : {D : Type 0} → Meaning D → SessionRow → ℕ → D → Receiver D → Receiver D → Type 0
CallsReceiver m row n low old new =
    (Calls m (recv_disk old) (recv_disk new) (not (recv_is_open new)) × (m.tells_plan → GivesSlot m row n low))
    ⊎ ((new ≡ old) × (m.tells_plan → GivesSlot m row n low → ⊥))

-- What an opening of a pump's two stores promises.
use Rattle.std.specs.Prelude.{◌≡◌, ◌⊎◌, ℕ, ◌+◌, ◌-◌, ◌≤◌, ◌&&◌, true, false, List, [], Option, Result, Some, None, IfOk}
use Rattle.std.specs.Prelude.{OnOk, IfErr}
use Rattle.pump_frame.specs.declared.row.SessionRow.{SessionRow}
use Rattle.disk_model.specs.Disk.{Meaning, Moves, Same}
use Rattle.disk_model.specs.declared.name.Role.TheVariants.{Low as LowRole, High as HighRole}
use Rattle.stable_buffer.specs.Stands.{LowStands, HighStands}
use Rattle.stable_buffer.specs.Low.{IsLowReady, low_count, low_row, low_disk}
use Rattle.stable_buffer.specs.High.{IsHighReady, high_count, high_disk}
use Rattle.pump_core.specs.Passage.{Shape, Low, High}
use Rattle.recovery.specs.Refusals.{refused_pump, bad_slot, told_of}
use Rattle.recovery.specs.Calls.{Calls, CallsHigh, LetsGoOn, is_device, is_low, is_high, low_failed, high_failed}
use Rattle.recovery.specs.Calls.{low_left, high_left}
use Rattle.recovery.specs.Deals.{IsDealt, HandsFit}
use Rattle.recovery.specs.declared.pump.Opened.{Opened}
use Rattle.recovery.specs.declared.pump.NotOpened.{NotOpened}
use Rattle.recovery.specs.declared.pump.Pair.{Pair}
use Rattle.recovery.specs.declared.why.Why.{Why}
use Rattle.recovery.specs.declared.why.Why.TheVariants.{Device}

-- ---- a refusal ----

pub record IsNotOpened {D : Type 0} (m : Meaning D) (session : SessionRow) (low high : D) (refused : NotOpened D) : Type
    0 where
  -- the first refusal in the order
  pub exact : is_device refused.why ≡ false → m.tells → refused_pump session (m.reading low) (m.reading high)
      ≡ Some (refused.role, refused.why)
  -- a device that failed: its count of failures as it is then
  pub device_low : is_device refused.why ≡ true → refused.role ≡ LowRole → refused.why ≡ Device (m.count refused.low)
  pub device_high : is_device refused.why ≡ true → refused.role ≡ HighRole → refused.why ≡ Device (m.count refused.high)
  -- the cause is low's disk or high's
  pub role : (refused.role ≡ LowRole) ⊎ (refused.role ≡ HighRole)
  -- which disk was called, and which call failed
  pub calls_low : Calls m low refused.low (is_low refused.role && is_device refused.why)
  pub calls_high : CallsHigh m session low high refused.high (is_high refused.role && is_device refused.why)
  -- no disk is written
  pub moves_low : Moves m Same low refused.low
  pub moves_high : Moves m Same high refused.high

-- ---- the two stores, before their messages are read ----

pub record ArePaired {D : Type 0} (m : Meaning D) (session : SessionRow) (low high : D) (pair : Pair D) : Type 0 where
  pub ready_low : IsLowReady m pair.low
  pub ready_high : IsHighReady m pair.high
  pub row : low_row pair.low ≡ session
  pub between : (high_count pair.high ≤ low_count pair.low)
      × (low_count pair.low ≤ high_count pair.high + session.capacity)
  pub low_stands : m.tells → LowStands session (low_count pair.low) (low_count pair.low) [] (m.reading low)
  pub high_stands : m.tells → HighStands session (high_count pair.high) (m.reading high)
  -- what refuses them now is a message that is too long
  pub slots : m.tells → (why : Option Why)
      → bad_slot session (m.reading low) (high_count pair.high) (low_count pair.low - high_count pair.high) ≡ why
      → refused_pump session (m.reading low) (m.reading high) ≡ told_of LowRole why
  -- both disks were called, and no call failed
  pub calls_low : Calls m low (low_disk pair.low) false
  pub calls_high : Calls m high (high_disk pair.high) false
  pub goes_on : m.tells_plan → LetsGoOn m session low
  pub same_low : Moves m Same low (low_disk pair.low)
  pub same_high : Moves m Same high (high_disk pair.high)

-- ---- the whole opening ----

-- The two disks before the call, and its result. Of the passage's low end: its shape, its place and what it stands
-- for, and the end before and after.
pub record IsOpening {D E Place : Type 0} (m : Meaning D) (session : SessionRow) (low high : D)
    (result : Result (Opened D) (NotOpened D)) (shape : E → Shape) (place : E → Place) (stands : E → Low → High
    → Type 0) (before after : E) : Type 0 where
  -- the stores can be written
  pub ready_low : IfOk result (λ o. IsLowReady m o.low)
  pub ready_high : IfOk result (λ o. IsHighReady m o.high)
  -- low's store has this row
  pub row : IfOk result (λ o. low_row o.low ≡ session)
  -- the counts given are those of the stores
  pub counts : IfOk result (λ o. (low_count o.low ≡ o.next) × (high_count o.high ≡ o.removed))
  -- what low's disk stands for is dealt out to the hands and the passage
  pub dealt : IfOk result (λ o. (messages : List (List ℕ))
      × (m.tells → LowStands session o.next o.removed messages (m.reading low))
      × IsDealt session o.removed o.next messages o.high_hand o.low_hand (stands before) (stands after))
  -- the numbers in the hands
  pub hands : IfOk result (λ o. HandsFit session.capacity o.removed o.next o.high_hand o.low_hand)
  -- what high's disk stands for
  pub removed : IfOk result (λ o. m.tells → HighStands session o.removed (m.reading high))
  -- the first refusal in the order, exactly where it holds, and nothing else but a device
  pub fine : OnOk result (m.tells → refused_pump session (m.reading low) (m.reading high) ≡ None)
  pub exact : IfErr result (λ e. is_device e.why ≡ false → m.tells
      → refused_pump session (m.reading low) (m.reading high) ≡ Some (e.role, e.why))
  -- a device that failed: its count of failures as it is then
  pub device_low : IfErr result (λ e. is_device e.why ≡ true → e.role ≡ LowRole → e.why ≡ Device (m.count e.low))
  pub device_high : IfErr result (λ e. is_device e.why ≡ true → e.role ≡ HighRole → e.why ≡ Device (m.count e.high))
  -- the cause is low's disk or high's
  pub role : IfErr result (λ e. (e.role ≡ LowRole) ⊎ (e.role ≡ HighRole))
  -- which disk was called, and which call failed
  pub calls_low : Calls m low (low_left result) (low_failed result)
  pub calls_high : CallsHigh m session low high (high_left result) (high_failed result)
  -- no disk is written
  pub moves_low : Moves m Same low (low_left result)
  pub moves_high : Moves m Same high (high_left result)
  -- the end is still one of this passage
  pub ends : (shape after ≡ shape before) × (place after ≡ place before)

-- How three new disks are written, and what they are then.
use Rattle.std.specs.Prelude.{◌≡◌, ℕ, ◌≤◌, List, length, Bool, true, Result}
use Rattle.std.specs.List.{All}
use Rattle.pump_frame.specs.declared.row.SessionRow.{SessionRow}
use Rattle.disk_model.specs.Disk.{Meaning, Settled}
use Rattle.disk_model.specs.declared.name.Role.TheVariants.{Low, High, Recv}
use Rattle.stable_buffer.specs.Register.{value_of}
use Rattle.stable_buffer.specs.Stands.{LowStands, HighStands}
use Rattle.stable_buffer.specs.Log.{RecvStands}
use Rattle.recovery.specs.Fillings.{IsMadeFrom}
use Rattle.recovery.specs.Moves.{IsKept, Counted, IsMade, is_blamed, AreWritten, AreWrittenInTurn}
use Rattle.recovery.specs.Moves.{low_bytes, high_bytes}
use Rattle.recovery.specs.declared.survey.Counts.{Counts}
use Rattle.recovery.specs.declared.trio.Trio.{Trio}
use Rattle.recovery.specs.declared.trio.MoveFault.{MoveFault}

-- None of three disks is written, and the failures of each are counted. `new` says whether they are the new ones.
pub record AreKept {D T : Type 0} (m : Meaning D) (new : Bool) (old now : Trio D) (result : Result T MoveFault)
    : Type 0 where
  pub low : IsKept m old.low now.low (is_blamed new Low result)
  pub high : IsKept m old.high now.high (is_blamed new High result)
  pub recv : IsKept m old.recv now.recv (is_blamed new Recv result)

-- the failures of each of the new disks are counted
pub record AreCounted {D T : Type 0} (m : Meaning D) (old now : Trio D) (result : Result T MoveFault) : Type 0 where
  pub low : Counted m old.low now.low (is_blamed true Low result)
  pub high : Counted m old.high now.high (is_blamed true High result)
  pub recv : Counted m old.recv now.recv (is_blamed true Recv result)

-- What the old disks stand for with the row `from`, the new ones now stand for with `to` where it fits, byte by byte
-- as it has to be, and a crash leaves just that.
pub record StandMoved {D : Type 0} (m : Meaning D) (from to : SessionRow) (counts : Counts) (old now : Trio D) : Type 0
  where
    pub low : m.tells → (live : List (List ℕ))
        → LowStands from counts.accepted counts.removed live (m.reading old.low)
        → All (λ message. length message ≤ to.message) live
        → LowStands to counts.accepted counts.removed live (m.reading now.low)
    pub high : m.tells → HighStands to counts.removed (m.reading now.high)
    pub recv : m.tells → (received : List (List ℕ)) → RecvStands from received (m.reading old.recv)
        → value_of (m.reading old.recv) ≡ (counts.received, counts.end)
        → All (λ message. length message ≤ to.message) received → RecvStands to received (m.reading now.recv)
    pub bytes : m.tells → (live : List (List ℕ))
        → LowStands from counts.accepted counts.removed live (m.reading old.low)
        → All (λ message. length message ≤ to.message) live
        → value_of (m.reading old.recv) ≡ (counts.received, counts.end)
        → AreWritten to counts.accepted counts.removed counts.received live (m.reading old.recv) (m.reading now.low)
        (m.reading now.high) (m.reading now.recv)
    pub settled : Settled m now.low × Settled m now.high × Settled m now.recv

-- However the writing ends: the new disks are written in turn, and a crash at any moment leaves of each no buffer, or
-- one that stands for what the old ones do.
pub record AreFilled {D T : Type 0} (m : Meaning D) (from to : SessionRow) (counts : Counts) (old empty now : Trio D)
    (result : Result T MoveFault) : Type 0 where
  pub turn : (live : List (List ℕ)) → (m.tells
      → LowStands from counts.accepted counts.removed live (m.reading old.low))
      → (m.tells → All (λ message. length message ≤ to.message) live)
      → AreWrittenInTurn m (low_bytes to counts.accepted counts.removed live) (high_bytes to counts.removed) empty now
      result
  pub low : (live : List (List ℕ)) → (m.tells
      → LowStands from counts.accepted counts.removed live (m.reading old.low))
      → (m.tells → All (λ message. length message ≤ to.message) live)
      → IsMadeFrom m (LowStands to counts.accepted counts.removed live) empty.low now.low
  pub high : IsMadeFrom m (HighStands to counts.removed) empty.high now.high
  pub recv : (received : List (List ℕ)) → (m.tells → RecvStands from received (m.reading old.recv))
      → (m.tells → value_of (m.reading old.recv) ≡ (counts.received, counts.end))
      → (m.tells → All (λ message. length message ≤ to.message) received)
      → IsMadeFrom m (RecvStands to received) empty.recv now.recv

-- .. for just these messages
pub record AreMade {D T : Type 0} (m : Meaning D) (to : SessionRow) (E B : ℕ) (live received : List (List ℕ))
    (empty now : Trio D) (result : Result T MoveFault) : Type 0 where
  pub turn : AreWrittenInTurn m (low_bytes to E B live) (high_bytes to B) empty now result
  pub low : IsMade m (LowStands to E B live) empty.low now.low
  pub high : IsMade m (HighStands to B) empty.high now.high
  pub recv : IsMade m (RecvStands to received) empty.recv now.recv

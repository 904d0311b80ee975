-- The times that the receiver of a race needs, one for each message, what it takes, and what the gate
-- of a worker is asked.
use Rattle.std.specs.Prelude.{◌≡◌, ℕ, zero, suc, ◌+◌, ◌%◌, ◌^◌, ◌<◌, ◌≤◌, Bool, true, false, if◌then◌else◌, List, []}
use Rattle.std.specs.Prelude.{◌∷◌, ◌++◌, length, slice_index}
use Rattle.std.specs.List.{All}
use Rattle.pump_frame.specs.Counts.{raised, Rose}
use Rattle.pump_frame.specs.declared.frame.Item.{Item}
use Rattle.stable_buffer.specs.Log.{RecvStands}
use Rattle.pump_link.specs.Tells.{Grows}
use Rattle.script_reader.specs.Generated.{generated_row}

-- the time of message n: the times come in turn, and begin again after the last
abbrev pub turn : List ℕ → ℕ → ℕ
turn times n = slice_index times (n % length times)

-- the times of the first so many messages
abbrev pub turns : List ℕ → ℕ → List ℕ
turns times zero = []
turns times (suc n) = turns times n ++ turn times n ∷ []

-- the times are 1 to 16, each at most 10^9, and the messages are at most 100000
pub record CanTurn (times : List ℕ) (count : ℕ) : Type 0 where
  pub some : 0 < length times
  pub most : length times ≤ 16
  pub short : All (λ t. t ≤ 10 ^ 9) times
  pub few : count ≤ 100000

abbrev pub payload_in : Item → List ℕ
payload_in x = x.payload

-- ---- what a gate is asked ----

-- The looks of a worker, the newest first: whether one of its messages was done by each. The high
-- worker's message is done where the receiver took it right behind the look.

-- how many looks; the count stays at the greatest u64
abbrev pub looks_in : List Bool → ℕ
looks_in [] = 0
looks_in (done ∷ before) = raised (looks_in before)

-- how many messages were done
abbrev pub done_in : List Bool → ℕ
done_in [] = 0
done_in (true ∷ before) = done_in before + 1
done_in (false ∷ before) = done_in before

-- what is asked once these looks were made
abbrev pub ask_after : List Bool → ℕ × ℕ
ask_after before = (looks_in before, done_in before)

-- what was asked before each of them, the first ask first
abbrev pub asks_of : List Bool → List (ℕ × ℕ)
asks_of [] = []
asks_of (done ∷ before) = asks_of before ++ ask_after before ∷ []

-- all that was asked in a run of these looks: one ask more where the gate stopped it
abbrev pub asks_in_run : Bool → List Bool → List (ℕ × ℕ)
asks_in_run is_stopped looks = asks_of (if is_stopped then false ∷ looks else looks)

-- What the gate of a high worker was asked in a run that left these bytes of the receiver's: they have
-- as many messages as the looks took, which are all where the worker was not stopped.
pub record AsksHigh (count : ℕ) (is_stopped : Bool) (old new : List (ℕ × ℕ) → Type 0) (recv : List ℕ) : Type 0 where
  pub turns_made : List Bool
  pub asked : Grows old new (asks_in_run is_stopped turns_made)
  pub received : List (List ℕ)
  pub stands : RecvStands generated_row received recv
  pub taken : length received ≡ done_in turns_made
  pub most : done_in turns_made ≤ count
  pub ended : is_stopped ≡ false → done_in turns_made ≡ count

-- the gate has counted a stop where it stopped the worker, and none where it did not
abbrev pub CountsStop : Bool → ℕ → ℕ → Type 0
CountsStop true before now = Rose before now
CountsStop false before now = now ≡ before

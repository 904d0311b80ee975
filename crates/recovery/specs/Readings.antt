-- A disk stands for one list of messages.
use Rattle.std.specs.Prelude.{◌≡◌, ℕ, ◌-◌, ◌≤◌, List, drop}
use Rattle.pump_frame.specs.Rows.{IsLawfulRow}
use Rattle.pump_frame.specs.declared.row.SessionRow.{SessionRow}
use Rattle.stable_buffer.specs.Stands.{LowStands}
use Rattle.stable_buffer.specs.Log.{RecvStands}

-- a low disk that stands for the messages from number b on, and for those from a later one on, has in both the same
abbrev pub LowTells : Type 0
LowTells = (row : SessionRow) (count b later : ℕ) (messages rest : List (List ℕ)) (disk : List ℕ) → IsLawfulRow row
    → b ≤ later
    → LowStands row count b messages disk → LowStands row count later rest disk → rest ≡ drop (later - b) messages

-- a receiver's disk stands for one list
abbrev pub ReceiverTells : Type 0
ReceiverTells = (row : SessionRow) (messages others : List (List ℕ)) (disk : List ℕ) → RecvStands row messages disk
    → RecvStands row others disk → messages ≡ others

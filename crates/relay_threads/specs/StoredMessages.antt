-- The messages that a life stored, the oldest first, and a low disk that stands for the last of them.
use Rattle.std.specs.Prelude.{ℕ, ◌+◌, ◌-◌, ◌≤◌, List, [], ◌∷◌, ◌++◌, length, drop, map}
use Rattle.pump_frame.specs.declared.frame.Item.{Item}
use Rattle.pump_frame.specs.declared.row.SessionRow.{SessionRow}
use Rattle.pump_core.specs.History.{Arrival, Came, Look}
use Rattle.pump_core.specs.Exchanges.{Part, Offering, Dropped, Delivery}
use Rattle.pump_core.specs.Replies.{number_in}
use Rattle.stable_buffer.specs.Stands.{LowStands}

abbrev pub payload_in : Arrival → List ℕ
payload_in (Came f) = f.payload
payload_in _ = []

-- the message that came to a look
abbrev pub item_in : Look → Item
item_in x = record { number = number_in x.arrival; payload = payload_in x.arrival }

-- the message that a part stored, if it stored one
abbrev pub message_stored : Part → List Item
message_stored (Offering first full) = item_in first ∷ []
message_stored (Dropped first full gone) = item_in first ∷ []
message_stored (Delivery first full passing wait) = item_in first ∷ []
message_stored _ = []

-- all that these parts stored
abbrev pub stored_in : List Part → List Item
stored_in [] = []
stored_in (p ∷ before) = stored_in before ++ message_stored p

abbrev pub payloads : List Item → List (List ℕ)
payloads items = map (λ x. x.payload) items

-- of all these messages, the first of which has this number, the last stand in their slots, as many as there
-- are slots
abbrev pub StandsForLast : SessionRow → ℕ → List (List ℕ) → List ℕ → Type 0
StandsForLast row first all disk = (b : ℕ) → first ≤ b → b ≤ first + length all → first + length all ≤ b + row.capacity
    → LowStands row (first + length all) b (drop (b - first) all) disk

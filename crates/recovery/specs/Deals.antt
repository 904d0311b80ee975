-- How the messages of an opened pump are dealt out.
use Rattle.std.specs.Prelude.{◌≡◌, ℕ, ◌+◌, ◌-◌, ◌<◌, ◌≤◌, ◌==◌, nat_lt, if◌then◌else◌, List, [], ◌∷◌, take, drop}
use Rattle.std.specs.Prelude.{length, slice_get, slice_index_or, Option, Some, None}
use Rattle.std.specs.List.{All}
use Rattle.pump_frame.specs.declared.frame.Item.{Item}
use Rattle.pump_frame.specs.declared.row.SessionRow.{SessionRow}
use Rattle.pump_core.specs.Passage.{Low, High}
use Rattle.stable_buffer.specs.Stands.{InSlot}

-- messages with the numbers from n on
abbrev pub numbered : ℕ → List (List ℕ) → List Item
numbered n [] = []
numbered n (m ∷ ms) = record { number = n; payload = m } ∷ numbered (n + 1) ms

-- the first is in the high hand, and the last place of all is the low hand
pub record InHands (capacity : ℕ) (items : List Item) (high low : Option Item) : Type 0 where
  pub first : high ≡ slice_get items 0
  pub last : low ≡ slice_get items (capacity - 1)

-- the ones between the hands
abbrev pub passing : ℕ → List Item → List Item
passing capacity items = take (capacity - 2) (drop 1 items)

-- a passage in which nothing was forwarded has these in it
abbrev pub Fills : (Low → High → Type 0) → (Low → High → Type 0) → List Item → Type 0
Fills before after items = (l : Low) (h : High) → before l h → l.forwarded ≡ []
    → after (record l { forwarded = items }) h

-- messages stand in their slots from number b on
abbrev pub InSlots : SessionRow → ℕ → List (List ℕ) → List ℕ → Type 0
InSlots row b messages disk = (i : ℕ) → i < length messages → InSlot row (b + i) (slice_index_or messages i []) disk

-- ---- what an opened pump has, whatever is on its disks ----

-- messages with the numbers from `removed` to before `next` are dealt out; they are no more than there are places,
-- and none is longer than the row's
pub record IsDealt (row : SessionRow) (removed next : ℕ) (messages : List (List ℕ)) (high low : Option Item)
    (before after : Low → High → Type 0) : Type 0 where
  pub count : removed + length messages ≡ next
  pub places : next ≤ removed + row.capacity
  pub short : All (λ message. length message ≤ row.message) messages
  pub hands : InHands row.capacity (numbered removed messages) high low
  pub fills : Fills before after (passing row.capacity (numbered removed messages))

-- the number of the message in a hand
abbrev pub number_of : Option Item → Option ℕ
number_of None = None
number_of (Some x) = Some x.number

-- the first message that isn't removed is in the high hand, and the last one of all in the low hand exactly where all
-- places are taken
pub record HandsFit (capacity removed next : ℕ) (high low : Option Item) : Type 0 where
  pub first : number_of high ≡ (if nat_lt removed next then Some removed else None)
  pub last : number_of low ≡ (if next == removed + capacity then Some (next - 1) else None)

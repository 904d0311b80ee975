-- The rule of the ring: one word counts the items forwarded and one those taken up, and each item in between
-- lies in the slot of its place.
use Rattle.std.specs.Prelude.{◌≡◌, ◌≢◌, ℕ, ◌+◌, ◌%◌, ◌^◌, ◌≤◌, ◌<◌, ◌==◌, true, false, MatchBool, MatchOption, List, []}
use Rattle.std.specs.Prelude.{◌∷◌, ◌++◌, length, slice_index, slice_get, Option, Some, None}
use Rattle.std.specs.List.{All}
use mathlib.Core.Option.{some}
use lib.ListN.{get_elem?}
use Rattle.atomic_table.specs.Table.{State, Me}
use Rattle.pump_core.specs.Passage.{Numbered, Rises}
use Rattle.pump_frame.specs.declared.frame.Item.{Item}
use Rattle.relay_ring.specs.declared.ring.RingView.{RingView}

-- the two words, each with 128 bytes of the table's own on either side
abbrev pub forwarded_word : ℕ
forwarded_word = 16

abbrev pub taken_word : ℕ
taken_word = 32

abbrev pub word_count : ℕ
word_count = 48

-- the one low end knows what was forwarded, and how many items it may forward in all; no number taken up
-- that it found is above the present one
pub record IsLowView (low : ℕ) (sent got : List Item) (most : ℕ) (id : ℕ) (v : RingView) : Type 0 where
  pub one : id ≡ low
  pub forwarded : v.forwarded ≡ sent
  pub limit : v.limit ≡ most
  pub tries : All (λ t. t.1 ≤ length got) v.low_tries

-- the one high end knows what was taken up, and which items behind them it found; no number forwarded that
-- it found is above the present one
pub record IsHighView (high : ℕ) (sent got next : List Item) (id : ℕ) (v : RingView) : Type 0 where
  pub one : id ≡ high
  pub taken : v.taken ≡ got
  pub ahead : v.ahead ≡ next
  pub tries : All (λ t. t.0 ≤ length sent) v.high_tries

abbrev pub RingFits : ℕ → ℕ → List Item → List Item → List Item → ℕ → ℕ → RingView → Type 0
RingFits low high sent got next most id v =
    (v.is_low ≡ true → IsLowView low sent got most id v)
    × (v.is_high ≡ true → IsHighView high sent got next id v)

-- the slot of place p is at home; where the p-th item was forwarded, it has that item
abbrev pub IsHome : List (mathlib.Core.Option.Option (Option Item)) → ℕ → List Item → ℕ → Type 0
IsHome homes slots sent p =
    (y : Option Item) × (get_elem? homes (p % slots) ≡ some (some y)) × (p < length sent → y ≡ slice_get sent p)

-- from the first item that was not taken up, each place of one turn has its slot at home, but for two: the
-- low end has the slot behind the last item while it may forward more, and the high end that of the
-- first item ahead
abbrev pub AreHome : List (mathlib.Core.Option.Option (Option Item)) → ℕ → List Item → ℕ → List Item → ℕ → Type 0
AreHome homes slots sent got next most =
    (p : ℕ) → got ≤ p → p < got + slots → (length sent ≢ most → p ≢ length sent) → (0 < length next → p ≢ got)
    → IsHome homes slots sent p

-- the items forwarded are those taken up, then those that the high end found, then the rest; their numbers
-- rise by one and are below 2^48; the low end may forward no more than there are places
pub record RingKept (s : State (Option Item) RingView) : Type 0 where
  pub low : ℕ
  pub high : ℕ
  pub forwarded : List Item
  pub taken : List Item
  pub ahead : List Item
  pub rest : List Item
  pub limit : ℕ
  pub words : (slice_index s.words forwarded_word ≡ length forwarded) × (slice_index s.words taken_word ≡ length taken)
      × (length s.words ≡ word_count)
  pub whole : forwarded ≡ taken ++ (ahead ++ rest)
  pub some_slots : 0 < length s.homes
  pub below : length forwarded ≤ limit
  pub room : limit ≤ length taken + length s.homes
  pub number : ℕ
  pub numbered : Numbered number forwarded
  pub small : number + length forwarded ≤ 2 ^ 48
  pub homes : AreHome s.homes (length s.homes) forwarded (length taken) ahead limit
  pub each : (id : ℕ) (v : RingView) → get_elem? s.views id ≡ some v
      → RingFits low high forwarded taken ahead limit id v

-- before any step, with both roles in one view
abbrev pub ring_first : RingView
ring_first = record {
  is_low = true;
  forwarded = [];
  limit = 0;
  low_tries = [];
  is_high = true;
  taken = [];
  floor = 0;
  ahead = [];
  high_tries = [];
}

-- a seat: what it knows, and the slots that it has
abbrev pub Mine : Type 0
Mine = Me (Option Item) RingView

-- the low end finds all places full; it finds room; an item is forwarded
abbrev pub with_refusal : RingView → ℕ → RingView
with_refusal v taken = record v { low_tries = v.low_tries ++ (length v.forwarded, taken) ∷ [] }

abbrev pub with_room : RingView → ℕ → RingView
with_room v most = record v { limit = most }

abbrev pub with_forwarded : RingView → Item → RingView
with_forwarded v x = record v { forwarded = v.forwarded ++ x ∷ [] }

-- the high end finds no item; it finds some; the first of them is taken up, where so many messages were
-- removed
abbrev pub with_seek : RingView → ℕ → RingView
with_seek v forwarded = record v { high_tries = v.high_tries ++ (forwarded, length v.taken) ∷ [] }

abbrev pub with_ahead : RingView → List Item → RingView
with_ahead v items = record v { ahead = items }

abbrev pub with_taken : RingView → Item → ℕ → List Item → RingView
with_taken v x removed items = record v { taken = v.taken ++ x ∷ []; floor = removed + 1; ahead = items }

-- while the low end may forward more, it has the slot behind the last item
abbrev pub HoldsNext : ℕ → Mine → Type 0
HoldsNext slots m =
    MatchBool (length m.0.forwarded == m.0.limit) (m.1 ≡ [])
    ((y : Option Item) × (m.1 ≡ (length m.0.forwarded % slots, y) ∷ []))

-- a slot with the first of these items, if there is one
abbrev pub first_in : ℕ → List Item → List (ℕ × Option Item)
first_in slot [] = []
first_in slot (x ∷ xs) = (slot, Some x) ∷ []

-- the high end has the slot of the first item ahead
abbrev pub HoldsFirst : ℕ → Mine → Type 0
HoldsFirst slots m = m.1 ≡ first_in (length m.0.taken % slots) m.0.ahead

-- the low end looks how many were taken up
abbrev pub SeesRoom : ℕ → Mine → ℕ → Mine → Type 0
SeesRoom slots m taken m' =
    (taken ≤ 2 ^ 48) × (length m.0.forwarded ≤ taken + slots)
    × MatchBool (length m.0.forwarded == taken + slots) (m' ≡ (with_refusal m.0 taken, m.1))
    ((m'.0 ≡ with_room m.0 (taken + slots)) × HoldsNext slots m')

-- what is in the slot that was taken last
abbrev pub in_prefix : List (ℕ × Option Item) → Option Item
in_prefix [] = None
in_prefix (x ∷ xs) = x.1

-- the item in its slot was forwarded
abbrev pub Stored : ℕ → Mine → Mine → Type 0
Stored slots m m' =
    MatchOption (in_prefix m.1) (Unit {0}) (λ x. (m'.0 ≡ with_forwarded m.0 x) × HoldsNext slots m')

-- the high end looks how many were forwarded
abbrev pub SeesItems : ℕ → Mine → ℕ → Mine → Type 0
SeesItems slots m forwarded m' =
    (forwarded ≤ 2 ^ 48) × (length m.0.taken ≤ forwarded)
    × MatchBool (forwarded == length m.0.taken) (m' ≡ (with_seek m.0 forwarded, m.1))
    ((items : List Item) × (m'.0 ≡ with_ahead m.0 items) × (forwarded ≡ length m.0.taken + length items)
    × HoldsFirst slots m')

-- the first item ahead was taken up, where so many messages were removed
abbrev pub TookUp : ℕ → Mine → ℕ → List Item → Mine → Type 0
TookUp slots m removed [] m' = Unit {0}
TookUp slots m removed (x ∷ xs) m' = (m'.0 ≡ with_taken m.0 x removed xs) × HoldsFirst slots m'

-- a view is parted into the two roles, and a high end's view is taken in
abbrev pub ring_low : RingView → RingView
ring_low v = record v { is_high = false; taken = []; floor = 0; ahead = []; high_tries = [] }

abbrev pub ring_high : RingView → RingView
ring_high v = record {
  is_low = false;
  forwarded = [];
  limit = 0;
  low_tries = [];
  is_high = v.is_high;
  taken = v.taken;
  floor = v.floor;
  ahead = v.ahead;
  high_tries = v.high_tries;
}

abbrev pub ring_both : RingView → RingView → RingView
ring_both v w = record v {
  is_high = w.is_high;
  taken = w.taken;
  floor = w.floor;
  ahead = w.ahead;
  high_tries = w.high_tries;
}

abbrev pub ring_spent : RingView
ring_spent = record {
  is_low = false;
  forwarded = [];
  limit = 0;
  low_tries = [];
  is_high = false;
  taken = [];
  floor = 0;
  ahead = [];
  high_tries = [];
}

-- what a view with both roles knows
pub record RingTies (slots : ℕ) (v : RingView) : Type 0 where
  pub held : (rest : List Item) × (v.forwarded ≡ v.taken ++ rest)
  pub rises : Rises v.forwarded
  pub low_tries : All (λ t. t.1 ≤ length v.taken) v.low_tries
  pub high_tries : All (λ t. t.0 ≤ length v.forwarded) v.high_tries
  pub room : length v.forwarded ≤ length v.taken + slots

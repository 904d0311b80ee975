-- What the ends of the ring stand for.
use Rattle.std.specs.Prelude.{◌≡◌, ℕ, ◌+◌, ◌-◌, ◌^◌, ◌≤◌, ◌<◌, true, false, List, [], ◌∷◌, length}
use Rattle.std.specs.List.{All}
use Rattle.atomic_table.specs.Seated.{TableId}
use Rattle.pump_frame.specs.Rows.{greatest_capacity}
use Rattle.pump_core.specs.Passage.{Shape, Low, High}
use Rattle.moving_avg.specs.Windows.{HoldsTimes, averaging_in}
use Rattle.relay_ring.specs.RingRule.{word_count, HoldsNext, HoldsFirst}
use Rattle.relay_ring.specs.PairRule.{pair_words, pair_shape, IsAveraged}
use Rattle.relay_ring.specs.declared.ends.RingLow.{RingLow}
use Rattle.relay_ring.specs.declared.ends.RingHigh.{RingHigh}

-- a table with the ring's words, and as many slots as places
pub record IsRing (table : TableId) (places : ℕ) : Type 0 where
  pub words : table.words ≡ word_count
  pub slots : table.slots ≡ places
  pub some : 0 < places
  pub few : places ≤ greatest_capacity - 2

-- the seats are of these tables; the low end has the slot behind the last item while it may forward more
pub record IsLow (e : RingLow) : Type 0 where
  pub ring : e.seat.table_id ≡ e.ring.now.shared.table_id
  pub table : IsRing e.seat.table_id e.places
  pub role : (e.seat.me.0.is_low ≡ true) × (e.seat.me.0.is_high ≡ false)
  pub count : e.forwarded ≡ length e.seat.me.0.forwarded
  pub limit : e.limit ≡ e.seat.me.0.limit
  pub below : e.forwarded ≤ e.limit
  pub small : e.limit ≤ 2 ^ 48 + greatest_capacity
  pub holds : HoldsNext e.places e.seat.me
  pub pairs : e.reader.table_id ≡ e.pairs.now.shared.table_id
  pub width : e.reader.table_id.words ≡ pair_words
  pub reads : (e.reader.me.0.writes ≡ false) × (e.reader.me.0.reads ≡ true) × (e.reader.me.1 ≡ [])
  -- each average that it read comes down of some times
  pub read_as : e.reader.me.0.read_as ≡ e.averaging
  pub averaged : All (λ p. IsAveraged e.averaging p.1) e.reader.me.0.pairs

abbrev pub low_shape : RingLow → Shape
low_shape e = record { places = e.places; averaging = e.averaging }

-- what it did, as its seats tell
abbrev pub low_side : RingLow → Low
low_side e = record { forwarded = e.seat.me.0.forwarded; tries = e.seat.me.0.low_tries; pairs = e.reader.me.0.pairs }

abbrev pub LowEndStands : RingLow → Low → High → Type 0
LowEndStands e l h = IsLow e × (l ≡ low_side e)

-- the seats are of these tables; the high end has the slot of the first item that it knows of
pub record IsHigh (e : RingHigh) : Type 0 where
  pub ring : e.seat.table_id ≡ e.ring.now.shared.table_id
  pub table : IsRing e.seat.table_id e.places
  pub role : (e.seat.me.0.is_low ≡ false) × (e.seat.me.0.is_high ≡ true)
  pub count : e.taken ≡ length e.seat.me.0.taken
  pub limit : e.limit ≡ e.taken + length e.seat.me.0.ahead
  pub small : e.limit ≤ 2 ^ 48
  pub holds : HoldsFirst e.places e.seat.me
  pub pairs : e.writer.table_id ≡ e.pairs.now.shared.table_id
  pub width : e.writer.table_id.words ≡ pair_words
  pub writes : (e.writer.me.0.writes ≡ true) × (e.writer.me.0.reads ≡ false) × (e.writer.me.1 ≡ [])
  pub places : e.writer.me.0.places ≡ e.places
  pub averaging : (pair_shape e.writer.me.0).averaging ≡ averaging_in e.window
  pub times : HoldsTimes e.window e.writer.me.0.times
  -- beside each time stands the number taken up when it was published
  pub each_time : length e.writer.me.0.taken_before ≡ length e.writer.me.0.times
  pub before : All (λ n. n ≤ e.taken) e.writer.me.0.taken_before

abbrev pub high_shape : RingHigh → Shape
high_shape e = pair_shape e.writer.me.0

-- what it did, as its seats tell
pub record HighEndStands (e : RingHigh) (l : Low) (h : High) : Type 0 where
  pub is : IsHigh e
  pub taken : h.taken ≡ e.seat.me.0.taken
  pub floor : h.floor ≡ e.seat.me.0.floor
  pub times : h.times ≡ e.writer.me.0.times
  pub taken_before : h.taken_before ≡ e.writer.me.0.taken_before
  pub tries : h.tries ≡ e.seat.me.0.high_tries

-- the two tables
abbrev pub low_place : RingLow → List TableId
low_place e = e.ring.now.shared.table_id ∷ e.pairs.now.shared.table_id ∷ []

abbrev pub high_place : RingHigh → List TableId
high_place e = e.ring.now.shared.table_id ∷ e.pairs.now.shared.table_id ∷ []

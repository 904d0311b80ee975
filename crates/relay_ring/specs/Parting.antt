-- A ring before its ends are parted.
use Rattle.std.specs.Prelude.{◌≡◌, [], MatchOption}
use Rattle.moving_avg.specs.Windows.{HoldsTimes, averaging_in}
use Rattle.pump_core.specs.Passage.{Shape}
use Rattle.relay_ring.specs.RingRule.{ring_first}
use Rattle.relay_ring.specs.PairRule.{pair_words, pair_first}
use Rattle.relay_ring.specs.RingEnds.{IsRing}
use Rattle.relay_ring.specs.declared.ring_passage.Unparted.{Unparted}
use Rattle.relay_ring.specs.declared.ring_passage.RingPassage.{RingPassage}

-- the passage's places, and how times are averaged in it
abbrev pub ring_shape : RingPassage → Shape
ring_shape p = record { places = p.places; averaging = p.averaging }

-- the seats are new ones of the passage's tables, and nothing was published
pub record IsPartOf (p : RingPassage) (u : Unparted) : Type 0 where
  pub ring : u.seat.table_id ≡ p.ring.shared.table_id
  pub table : IsRing u.seat.table_id p.places
  pub view : u.seat.me ≡ (ring_first, [])
  pub pairs : u.pair_seat.table_id ≡ p.pairs.shared.table_id
  pub width : u.pair_seat.table_id.words ≡ pair_words
  pub pair_view : u.pair_seat.me ≡ (pair_first (record { places = p.places; averaging = p.averaging }), [])
  pub times : HoldsTimes u.window []
  pub averaging : averaging_in u.window ≡ (ring_shape p).averaging

-- its ends were not parted yet
abbrev pub IsUnparted : RingPassage → Type 0
IsUnparted p = MatchOption p.unparted ⊥ (IsPartOf p)

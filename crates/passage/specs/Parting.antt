-- A passage between two threads before its ends are parted.
use Rattle.std.specs.Prelude.{◌≡◌, ◌-◌, ◌≤◌, [], MatchOption}
use Rattle.crossbeam_queue.specs.Passes.{view, IsPassOf, ruled_capacity}
use Rattle.crossbeam_utils.specs.Seq.{cell_view}
use Rattle.pump_frame.specs.Rows.{greatest_capacity}
use Rattle.moving_avg.specs.Windows.{HoldsTimes, averaging_in}
use Rattle.pump_core.specs.Passage.{Shape}
use Rattle.passage.specs.HighRule.{high_first}
use Rattle.passage.specs.LowRule.{low_first}
use Rattle.passage.specs.QueueRule.{queue_first}
use Rattle.passage.specs.declared.queue_passage.Unparted.{Unparted}
use Rattle.passage.specs.declared.queue_passage.QueuePassage.{QueuePassage}

-- the passage's places, and how times are averaged in it
abbrev pub queue_shape : QueuePassage → Shape
queue_shape p = record { places = p.places; averaging = p.averaging }

-- the queue has room for as many items as there are places; the passes are new ones of the passage's
-- objects, and nothing was published
pub record IsPartOf (p : QueuePassage) (u : Unparted) : Type 0 where
  pub capacity : ruled_capacity p.queue ≡ p.places
  pub queue : IsPassOf p.queue u.queue
  pub queue_view : view u.queue ≡ queue_first
  pub low : u.low.table_id ≡ p.low_cell.table.shared.table_id
  pub low_view : cell_view u.low ≡ low_first
  pub high : u.high.table_id ≡ p.high_cell.table.shared.table_id
  pub high_view : cell_view u.high ≡ high_first
  pub times : HoldsTimes u.window []
  pub places : p.places ≤ greatest_capacity - 2
  pub averaging : averaging_in u.window ≡ (queue_shape p).averaging

-- its ends were not parted yet
abbrev pub IsUnparted : QueuePassage → Type 0
IsUnparted p = MatchOption p.unparted ⊥ (IsPartOf p)

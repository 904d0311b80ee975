-- What the ends between two threads stand for.
use Rattle.std.specs.Prelude.{◌≡◌, ◌+◌, ◌-◌, ◌^◌, ◌≤◌, true, false, List, [], ◌∷◌, length}
use Rattle.crossbeam_queue.specs.Passes.{view, IsPassOf, ruled_capacity}
use Rattle.crossbeam_utils.specs.Seq.{cell_view}
use Rattle.atomic_table.specs.Seated.{TableId}
use Rattle.pump_frame.specs.Rows.{greatest_capacity}
use Rattle.pump_core.specs.Passage.{Shape, Low, High}
use Rattle.moving_avg.specs.Windows.{HoldsTimes, averaging_in}
use Rattle.passage.specs.HighRule.{shape_told}
use Rattle.passage.specs.declared.queue_ends.QueueLow.{QueueLow}
use Rattle.passage.specs.declared.queue_ends.QueueHigh.{QueueHigh}

-- the passes are of these objects, and the queue has room for as many items as there are places; the
-- low end pushes, writes low's cell and reads high's
pub record IsLow (e : QueueLow) : Type 0 where
  pub capacity : ruled_capacity e.queue.now ≡ e.places
  pub queue : IsPassOf e.queue.now e.sent
  pub pushes : (view e.sent).pushes ≡ true
  pub count : e.forwarded ≡ length (view e.sent).forwarded
  pub low_cell : e.told.table_id ≡ e.low_cell.now.table.shared.table_id
  pub writes : ((cell_view e.told).writes ≡ true) × ((cell_view e.told).reads ≡ false)
  pub tells : (cell_view e.told).forwarded ≡ e.forwarded
  pub high_cell : e.read.table_id ≡ e.high_cell.now.table.shared.table_id
  pub reads : ((cell_view e.read).writes ≡ false) × ((cell_view e.read).reads ≡ true)
  pub room : (cell_view e.read).room ≡ e.places
  pub held : e.forwarded ≤ (cell_view e.read).found + e.places
  pub small : e.places ≤ greatest_capacity - 2

abbrev pub low_shape : QueueLow → Shape
low_shape e = record { places = e.places; averaging = e.averaging }

-- what it did, as its passes tell
abbrev pub low_side : QueueLow → Low
low_side e = record {
  forwarded = (view e.sent).forwarded;
  tries = (cell_view e.read).tries;
  pairs = (cell_view e.read).pairs;
}

abbrev pub LowEndStands : QueueLow → Low → High → Type 0
LowEndStands e l h = IsLow e × (l ≡ low_side e)

-- the high end pops, writes high's cell and reads low's
pub record IsHigh (e : QueueHigh) : Type 0 where
  pub queue : IsPassOf e.queue.now e.popped
  pub pops : (view e.popped).pops ≡ true
  pub count : e.taken ≡ length (view e.popped).taken
  pub small : e.taken ≤ 2 ^ 48
  pub low_cell : e.sought.table_id ≡ e.low_cell.now.table.shared.table_id
  pub reads : ((cell_view e.sought).writes ≡ false) × ((cell_view e.sought).reads ≡ true)
  pub high_cell : e.told.table_id ≡ e.high_cell.now.table.shared.table_id
  pub writes : ((cell_view e.told).writes ≡ true) × ((cell_view e.told).reads ≡ false)
  pub tells : (cell_view e.told).taken ≡ e.taken
  pub averaging : (cell_view e.told).averaging ≡ averaging_in e.window
  pub times : HoldsTimes e.window (cell_view e.told).times

abbrev pub high_shape : QueueHigh → Shape
high_shape e = shape_told (cell_view e.told)

-- what it did, as its passes tell
pub record HighEndStands (e : QueueHigh) (l : Low) (h : High) : Type 0 where
  pub is : IsHigh e
  pub taken : h.taken ≡ (view e.popped).taken
  pub floor : h.floor ≡ (cell_view e.told).floor
  pub times : h.times ≡ (cell_view e.told).times
  pub taken_before : h.taken_before ≡ (cell_view e.told).taken_before
  pub tries : h.tries ≡ (cell_view e.sought).tries

-- the queue and the two cells
abbrev pub low_place : QueueLow → List TableId
low_place e = e.queue.now.table.shared.table_id ∷ e.low_cell.now.table.shared.table_id
    ∷ e.high_cell.now.table.shared.table_id ∷ []

abbrev pub high_place : QueueHigh → List TableId
high_place e = e.queue.now.table.shared.table_id ∷ e.low_cell.now.table.shared.table_id
    ∷ e.high_cell.now.table.shared.table_id ∷ []

-- What both ends on one thread stand for.
use Rattle.std.specs.Prelude.{◌≡◌, ℕ, ◌+◌, ◌++◌, List, Option, Some, None}
use Rattle.pump_frame.specs.declared.frame.Item.{Item}
use Rattle.moving_avg.specs.Windows.{HoldsTimes, averaging_in}
use Rattle.pump_core.specs.Passage.{Shape, Low, High, Fits}
use Rattle.passage.specs.declared.plain.PlainEnds.{PlainEnds}

abbrev pub shape_of : PlainEnds → Shape
shape_of e = record { places = e.items.capacity; averaging = averaging_in e.window }

-- the items in between, the next one first
abbrev pub held_in : PlainEnds → List Item
held_in e = e.items.items

-- one above this number, or 0 where there is none
abbrev pub above : Option ℕ → ℕ
above None = 0
above (Some n) = n + 1

-- the ends did this in all: they keep the law of a passage, and hold the items that were forwarded
-- and not taken up, the number removed at the last item taken up, and the times that were published
pub record StandsFor (e : PlainEnds) (l : Low) (h : High) : Type 0 where
  pub lawful : Fits (shape_of e) l h
  pub between : l.forwarded ≡ h.taken ++ held_in e
  pub floor : h.floor ≡ above e.last_removed
  pub times : HoldsTimes e.window h.times

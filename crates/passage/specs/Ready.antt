-- What the tests keep from call to call, so that each end may be called; it serves them alone.
use Rattle.std.specs.Prelude.{◌≡◌, ℕ, ◌≤◌, length}
use Rattle.pump_core.specs.Passage.{Low, High, ComesNext}

-- some past that lets an item of this number come, and the next be taken up
pub record Ready (stands : Low → High → Type 0) (next removed published : ℕ) : Type 0 where
  pub l : Low
  pub h : High
  pub stand : stands l h
  pub follows : ComesNext l.forwarded next
  pub above : h.floor ≤ removed
  pub count : length h.times ≡ published

-- the same of two ends that know nothing of each other
pub record LowReady (stands : Low → High → Type 0) (next : ℕ) : Type 0 where
  pub l : Low
  pub h : High
  pub stand : stands l h
  pub follows : ComesNext l.forwarded next

pub record HighReady (stands : Low → High → Type 0) (removed published : ℕ) : Type 0 where
  pub l : Low
  pub h : High
  pub stand : stands l h
  pub above : h.floor ≤ removed
  pub count : length h.times ≡ published

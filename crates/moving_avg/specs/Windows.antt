-- What a window stands for.
use Rattle.std.specs.Prelude.{◌≡◌, ℕ, List, length}
use Rattle.pump_frame.specs.declared.averaging.Averaging.{Averaging}
use Rattle.pump_frame.specs.Averages.{latest}
use Rattle.moving_avg.specs.declared.Window.{Window}

-- how it averages: how many of the last times, its mean while there is none, and whether it is coarse
abbrev pub averaging_in : Window → Averaging
averaging_in w = record { window = w.ring.capacity; start = w.start; coarse = w.coarse }

-- how many times there are
abbrev pub count_of : Window → ℕ
count_of w = w.count

-- these are all its times, the oldest first
abbrev pub HoldsTimes : Window → List ℕ → Type 0
HoldsTimes w times = (w.count ≡ length times) × (w.ring.items ≡ latest w.ring.capacity times)

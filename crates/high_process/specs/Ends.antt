-- What a look does with the high end of the passage.
use Rattle.std.specs.Prelude.{◌≡◌, ℕ, ◌-◌, ◌^◌, ◌<◌, ◌≤◌, Bool, true, false, length, Option, Some, None}
use Rattle.pump_frame.specs.declared.frame.Item.{Item}
use Rattle.pump_core.specs.Passage.{Shape, Low, High, publishes, Gives, GivesNone}
use Rattle.high_process.specs.declared.process.HighProcess.{HighProcess}
use Rattle.pump_core.specs.Sendings.{expected}
use Rattle.high_process.specs.States.{removed_of, hand_of, published_of}

-- a time that may be published, where so many were
abbrev pub IsTime : ℕ → ℕ → Type 0
IsTime count x = (x ≤ 10 ^ 9) × (count < 2 ^ 32 - 1)

-- what the high end did, once the time is published, if there is one
abbrev pub told_time : Option ℕ → High → High
told_time None h = h
told_time (Some x) h = publishes h x

-- the end is asked for a message, if one is wanted. `after` is what it stands for at the return
abbrev pub TakesUp : Shape → Bool → (Low → High → Type 0) → Low → High → Bool → ℕ → Option Item → Type 0
TakesUp s on_one_thread after l h true removed (Some x) = Gives s on_one_thread after l h x removed
TakesUp s on_one_thread after l h true removed None = GivesNone s on_one_thread after l h
TakesUp s on_one_thread after l h false removed got = (got ≡ None) × after l h

-- the end published as many times as the process, and gave no message but those that are removed and
-- the one in the hand
pub record FitsEnd (p : HighProcess) (h : High) : Type 0 where
  pub count : length h.times ≡ published_of p
  pub floor : h.floor ≤ expected (removed_of p) (hand_of p)

-- the end stands for this, and fits the process
abbrev pub StandsFitting : (Low → High → Type 0) → HighProcess → Low → High → Type 0
StandsFitting stands p l h = stands l h × FitsEnd p h

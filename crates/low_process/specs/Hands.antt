-- What always holds of a low process's numbers, and the frames that may come.
use Rattle.std.specs.Prelude.{◌≡◌, ℕ, ◌+◌, ◌^◌, ◌<◌, ◌==◌, nat_lt, Bool, true, false}
use Rattle.pump_frame.specs.declared.frame.Frame.{Frame}
use Rattle.pump_core.specs.Exchanges.{is_data}
use Rattle.low_process.specs.declared.values.Phase.{Phase}
use Rattle.low_process.specs.declared.values.Phase.TheVariants.{Idle, Passing, Waiting}
use Rattle.low_process.specs.declared.values.Asking.{Asking}
use Rattle.low_process.specs.declared.values.Asking.TheVariants.{Nothing, Forward, Average}

-- a DATA frame has a number below 2^48, as every lawful one
abbrev pub HasNumber : Frame → Type 0
HasNumber f = is_data f.kind ≡ true → f.number < 2 ^ 48

-- the message in the hand is the last one that was stored, and one that waits to be acknowledged
-- was stored, where `next` is the number after the last
abbrev pub is_hand_of : ℕ → Phase → ℕ → Bool
is_hand_of next (Passing owed) hand = hand + 1 == next
is_hand_of next (Waiting number due) hand = nat_lt number next
is_hand_of next _ hand = true

-- a question is open only in the phase that asks it, and a message that came once more was stored
abbrev pub is_asked_of : ℕ → Phase → Asking → Bool
is_asked_of next phase Nothing = true
is_asked_of next (Passing owed) Forward = true
is_asked_of next Idle (Average number) = nat_lt number next
is_asked_of next _ _ = false

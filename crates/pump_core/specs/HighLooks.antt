-- A look of the high side: a TAKEN comes back, the message in the hand is removed and its time is
-- published, the next message is taken up, and the message in the hand is sent.
use Rattle.std.specs.Prelude.{◌≡◌, ◌⊎◌, ℕ, Bool, true, false, nat_lt, if◌then◌else◌, List, [], ◌∷◌, ◌++◌}
use Rattle.std.specs.Prelude.{option_to_list, Option, Some, None}
use Rattle.pump_core.specs.declared.event.Event.{Event}
use Rattle.pump_core.specs.declared.event.Event.TheVariants.{TakeUp, Send, ReturnTaken, RemoveBegin, RemoveEnd}
use Rattle.pump_core.specs.World.{World}
use Rattle.pump_core.specs.Events.{Happens, Run}
use Rattle.pump_core.specs.Sendings.{Sending, removal_time, sends_hand, sending_of}

-- what the high side has come to: the world, the times published since the opening, the oldest first,
-- and the sendings since the opening, the newest first
pub record HighPast : Type 0 where
  pub world : World
  pub times : List ℕ
  pub sends : List Sending

-- these events happen, where the first of them can; else nothing happens
abbrev pub Perhaps : World → Event → List Event → World → Type 0
Perhaps w e later v = Run w (e ∷ later) v ⊎ (((x : World) → Happens w e x → ⊥) × (v ≡ w))

-- the TAKEN at this place of those ever sent comes back, or none does
abbrev pub Returns : World → Option ℕ → World → Type 0
Returns w None v = v ≡ w
Returns w (Some k) v = Happens w (ReturnTaken k) v

-- whether a removal happened between these worlds
abbrev pub has_removed : World → World → Bool
has_removed w v = nat_lt w.removed v.removed

-- the time that is published with the removal at m, if one happened
abbrev pub time_between : HighPast → ℕ → World → World → Option ℕ
time_between p m w v = if has_removed w v then removal_time w.removed m p.sends p.times else None

-- the first part of a look at m: a TAKEN comes back, the message in the hand is removed where that is
-- due, and its time is published
pub record RemovalPart (p : HighPast) (m : ℕ) (back : Option ℕ) (q : HighPast) : Type 0 where
  pub answered : World
  pub returns : Returns p.world back answered
  pub removes : Perhaps answered RemoveBegin (RemoveEnd ∷ []) q.world
  pub time : Option ℕ
  pub is_time : time ≡ time_between p m answered q.world
  pub times : q.times ≡ p.times ++ option_to_list time
  pub sends : q.sends ≡ p.sends

-- the high hand is sent, or nothing is
abbrev pub IsSent : Bool → World → World → Type 0
IsSent true w v = Happens w Send v
IsSent false w v = v ≡ w

-- the second part of a look at m: an empty hand takes up the next message, and the message in the hand
-- is sent where it is due, and in any case where a receiver attaches
pub record SendingPart (resend : ℕ) (attaches : Bool) (p : HighPast) (m : ℕ) (q : HighPast) : Type 0 where
  pub taken : World
  pub takes_up : Perhaps p.world TakeUp [] taken
  pub is_sent : Bool
  pub cause : is_sent ≡ sends_hand resend attaches p.sends m taken.high_hand
  pub sent : IsSent is_sent taken q.world
  pub times : q.times ≡ p.times
  pub sends : q.sends ≡ (if is_sent then sending_of m taken.high_hand ++ p.sends else p.sends)

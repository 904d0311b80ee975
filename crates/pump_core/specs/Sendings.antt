-- What the high side sends, and the times that it publishes.
use Rattle.std.specs.Prelude.{ℕ, ◌+◌, ◌-◌, ◌^◌, Bool, true, false, ◌==◌, ◌||◌, nat_lt, nat_le, min, if◌then◌else◌, List}
use Rattle.std.specs.Prelude.{[], ◌∷◌, length, Option, Some, None, is_some}

-- a sending of the message with this number. In a list of sendings the newest stands first
pub record Sending : Type 0 where
  pub number : ℕ
  pub moment : ℕ

-- the moment of the last sending of message n
abbrev pub last_sending : ℕ → List Sending → Option ℕ
last_sending n [] = None
last_sending n (x ∷ earlier) = if x.number == n then Some x.moment else last_sending n earlier

-- the first of two, or else the second
abbrev pub or_else : Option ℕ → Option ℕ → Option ℕ
or_else (Some a) b = Some a
or_else None b = b

-- the moment of the first sending of message n
abbrev pub first_sending : ℕ → List Sending → Option ℕ
first_sending n [] = None
first_sending n (x ∷ earlier) = or_else (first_sending n earlier) (if x.number == n then Some x.moment else None)

-- High's time at m for a message that was first sent at t, cut at 10^9 microseconds; no time where it
-- was not sent since the opening
abbrev pub time_since : Option ℕ → ℕ → Option ℕ
time_since None m = None
time_since (Some t) m = Some (min (m - t) (10 ^ 9))

-- a time is published, unless 2^32 - 1 times were
abbrev pub published : List ℕ → Option ℕ → Option ℕ
published times time = if nat_lt (length times) (2 ^ 32 - 1) then time else None

-- the time that the removal of message n at m publishes, after these sendings and times
abbrev pub removal_time : ℕ → ℕ → List Sending → List ℕ → Option ℕ
removal_time n m sends times = published times (time_since (first_sending n sends) m)

-- due at m where it was not sent since the opening, or was last sent `resend` before
abbrev pub is_due : ℕ → Option ℕ → ℕ → Bool
is_due resend None m = true
is_due resend (Some t) m = nat_le (t + resend) m

-- whether the message in the hand is sent at m: where it is due, and in any case where a receiver
-- attaches
abbrev pub sends_hand : ℕ → Bool → List Sending → ℕ → Option ℕ → Bool
sends_hand resend attaches sends m None = false
sends_hand resend attaches sends m (Some n) = attaches || is_due resend (last_sending n sends) m

-- its sending
abbrev pub sending_of : ℕ → Option ℕ → List Sending
sending_of m None = []
sending_of m (Some n) = record { number = n; moment = m } ∷ []

-- the first number that was not sent, where so many are removed: one above that of the message in the
-- hand, or the next one
abbrev pub expected : {X : Type 0} → ℕ → Option X → ℕ
expected removed hand = if is_some hand then removed + 1 else removed

-- What a high worker does on one connection.
use Rattle.std.specs.Prelude.{◌≡◌, ℕ, ◌<◌, ◌≤◌, Bool, true, false, List, [], ◌∷◌, length, Option, Some, None}
use Rattle.pump_frame.specs.declared.frame.Frame.{Frame}
use Rattle.pump_frame.specs.Counts.{Rose}
use Rattle.pump_frame.specs.Readings.{Reading, Within, HasBegun}
use Rattle.high_process.specs.declared.process.HighProcess.{HighProcess}
use Rattle.high_process.specs.States.{row_of, is_down}
use Rattle.high_process.specs.Past.{ProcessPast}
use Rattle.high_process.specs.Looks.{StandsFor}
use Rattle.relay_threads.specs.declared.high_served.HighWhy.{HighWhy}
use Rattle.relay_threads.specs.declared.high_served.HighWhy.TheVariants.{Device, LinkFailed, Looks, Stopped}
use Rattle.relay_threads.specs.declared.high_served.HighServed.{HighServed}
use Rattle.relay_threads.specs.declared.high_round.HighConnection.{HighConnection}
use Rattle.relay_threads.specs.Hearings.{IsHearing, Leaves, heard_as, held_in}
use Rattle.relay_threads.specs.HighRounds.{Made, Round, cause, frame_heard, IsLook, MakesLook, past_after, plan_of}
use Rattle.relay_threads.specs.HighRounds.{served, GoOn, AreRounds, newest_cause}

-- a connection that is read on
pub record IsOpen (c : HighConnection) : Type 0 where
  pub within : c.reader ≡ Within (held_in c.reader)
  pub begun : HasBegun c.reader

-- a look with this frame or none leads from p to q
pub record LookMade (p q : HighProcess) (m : ℕ) (frame : Option Frame) (x : Made) : Type 0 where
  pub row : row_of q ≡ row_of p
  pub given : x.frame ≡ frame
  pub looks : (t : ProcessPast) → StandsFor p t → IsLook (row_of p) t m x
  pub past : is_down q ≡ false → (t : ProcessPast) → StandsFor p t → StandsFor q (past_after (row_of p) t m (Some x))

-- a round leads from p to q, and from the held bytes to that reader
pub record RoundMade (p q : HighProcess) (held : List ℕ) (now : Reading) (is_attached : Bool) (r : Round) : Type 0 where
  pub row : row_of q ≡ row_of p
  pub reads : IsHearing held r.heard
  pub leaves : Leaves held r.heard.bytes r.heard.ending now
  pub makes : (t : ProcessPast) → StandsFor p t
      → MakesLook (row_of p) t r.moment (plan_of is_attached (heard_as r.heard.ending))
      (frame_heard (heard_as r.heard.ending)) r.made
  pub whole : cause is_attached r ≡ None → r.is_sent ≡ true
  pub past : is_down q ≡ false → (t : ProcessPast) → StandsFor p t
      → StandsFor q (past_after (row_of p) t r.moment r.made)

-- the rounds keep the rule, and lead the process from p to q
pub record Serves (p q : HighProcess) (rounds : List Round) : Type 0 where
  pub row : row_of q ≡ row_of p
  pub rule : (t : ProcessPast) → StandsFor p t → AreRounds (row_of p) t rounds
  pub past : is_down q ≡ false → (t : ProcessPast) → StandsFor p t → StandsFor q (served (row_of p) t rounds)

-- what the newest round sends was sent whole
abbrev pub all_sent : List Round → Bool
all_sent [] = true
all_sent (r ∷ past) = r.is_sent

-- Why the call ended: the given number of rounds was made and none ended it; the gate stopped it before
-- that; or the newest round ended it, and for this reason.
abbrev pub EndsBy : List Round → ℕ → HighWhy → Type 0
EndsBy rounds most Looks = (length rounds ≡ most) × GoOn rounds
EndsBy rounds most Stopped = (length rounds < most) × GoOn rounds
EndsBy rounds most why = (length rounds ≤ most) × (newest_cause rounds ≡ Some why)

abbrev pub IsServed : List Round → ℕ → HighServed → Type 0
IsServed rounds most s = (s.looks ≡ length rounds) × EndsBy rounds most s.why

-- the high disk failed
abbrev pub is_device : HighWhy → Bool
is_device (Device faults) = true
is_device _ = false

abbrev pub device_in : Option HighWhy → Bool
device_in None = false
device_in (Some why) = is_device why

-- a fault of the disk carries its count, which rose
abbrev pub CountsFault : HighWhy → ℕ → ℕ → Type 0
CountsFault (Device faults) before now = (faults ≡ now) × Rose before now
CountsFault _ before now = Unit {0}

abbrev pub CountsFaultIn : Option HighWhy → ℕ → ℕ → Type 0
CountsFaultIn None before now = Unit {0}
CountsFaultIn (Some why) before now = CountsFault why before now

-- What failed or stopped the worker, as its answer says: a count rose for it. So with the faults of the link and of
-- the disk, and with the stops of the gate, each before the call and after it.
pub record IsCaused (why : HighWhy) (link_was link_now disk_was disk_now stops_was stops_now : ℕ) : Type 0 where
  pub link : why ≡ LinkFailed → Rose link_was link_now
  pub device : CountsFault why disk_was disk_now
  pub stopped : why ≡ Stopped → Rose stops_was stops_now
  -- with any other answer the gate stopped nobody
  pub went : (why ≡ Stopped → ⊥) → stops_now ≡ stops_was

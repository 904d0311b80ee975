-- What the parts did in a low look.
use Rattle.std.proofs.Common.{◌≡◌, ℕ, Bool, true, false, List, [], drop, refl, sym, ap, ◌∙◌}
use Rattle.std.specs.Prelude.{if◌then◌else◌, ◌&&◌, ◌||◌}
use Rattle.disk_model.specs.Disk.{Meaning}
use Rattle.pump_core.specs.History.{Arrival, Gone}
use Rattle.passage.specs.Plain.{shape_of, StandsFor}
use Rattle.low_process.specs.declared.values.LowLook.{LowLook}
use Rattle.low_process.specs.Looks.{row_of, last_of, hand_of, hand_after}
use Rattle.low_process.specs.Ends.{StandsFitting, EndStep}
use Rattle.low_process.specs.Whole.{HasStore, LookStep, LeavesStored}
use Rattle.script_reader.specs.Lows.{is_bad}
use Rattle.two_worlds.specs.declared.pump.parts.Parts.{Parts}
use Rattle.two_worlds.specs.Connections.{Connected, unused, waits_of, is_broken_of, reading_of}

-- what the parts did in a look
pub record Looked {D : Type 0} (m : Meaning D) (c d : Parts D) (moment word : ℕ) (a : Arrival) (is_fault : Bool) (l : LowLook) : Type 0 where
  pub step : LookStep m c.low d.low c.low_store d.low_store moment word a is_fault l
  pub store : HasStore m d.low d.low_store
  pub images : LeavesStored m c.low c.low_store d.low_store a
  pub hand : hand_of d.low ≡ hand_after (hand_of c.low) a l
  pub row : row_of d.low ≡ row_of c.low
  pub last : last_of d.low ≡ moment
  pub shape : shape_of d.ends ≡ shape_of c.ends
  pub ends : (low : _) (high : _) → StandsFitting (StandsFor c.ends) c.low low high
      → EndStep (shape_of c.ends) true (StandsFitting (StandsFor d.ends) d.low) low high (hand_of c.low) l.feedback
  pub waits : waits_of d.connection ≡ (if l.taken then drop 1 (waits_of c.connection) else waits_of c.connection)
  pub broken : is_broken_of d.connection ≡ (is_broken_of c.connection || (l.taken && is_bad a))
  pub reading : reading_of d.connection ≡ reading_of c.connection
  pub rest : d ≡ record c { low = d.low; low_store = d.low_store; ends = d.ends; connection = d.connection; moment = moment }

-- ---- a connection that is lost ----

-- nothing waits on a new connection, whatever a look takes
no_drop : {X : Type 0} (taken : Bool) (xs : List X) → xs ≡ [] → xs ≡ (if taken then drop 1 xs else xs)
no_drop false xs e = refl
no_drop true xs e = e ∙ sym (ap (drop 1) e)

pub no_waits : (taken : Bool) (n : Connected) → n ≡ unused → waits_of n ≡ (if taken then drop 1 (waits_of n) else waits_of n)
no_waits taken n e = no_drop taken (waits_of n) (ap waits_of e)

or_neither : (b taken : Bool) → b ≡ (b || (taken && false))
or_neither true taken = refl
or_neither false true = refl
or_neither false false = refl

pub no_bad : (taken : Bool) (n : Connected) → is_broken_of n ≡ (is_broken_of n || (taken && is_bad Gone))
no_bad taken n = or_neither (is_broken_of n) taken

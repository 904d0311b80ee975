-- A pump that is open, and one that is shut.
use Rattle.std.specs.Prelude.{◌≡◌, ℕ, Bool, true, List}
use Rattle.disk_model.specs.Disk.{Meaning}
use Rattle.high_process.specs.States as high
use Rattle.high_receiver.specs.Receiving.{recv_count}
use Rattle.low_process.specs.Looks as low
use Rattle.script_reader.specs.declared.event.Event.{Event}
use Rattle.script_reader.specs.declared.line.Line.{Line as ScriptLine}
use Rattle.script_reader.specs.Past.{Past}
use Rattle.two_worlds.specs.declared.pump.parts.Parts.{Parts}
use Rattle.two_worlds.specs.declared.pump.state.BareDisks.{BareDisks}
use Rattle.two_worlds.specs.declared.pump.state.PumpState.{PumpState}
use Rattle.two_worlds.specs.declared.pump.state.PumpState.TheVariants.{Open, Shut}
use Rattle.two_worlds.specs.Standing.{Stands, bare_of, is_down}
use Rattle.two_worlds.specs.Working.{IsAheadBy}

-- its disks
abbrev pub disks_in : {D : Type 0} → PumpState D → BareDisks D
disks_in (Open c) = bare_of c
disks_in (Shut d) = d

-- the disks, with their row made coarse
abbrev pub coarse_disks : {D : Type 0} → BareDisks D → BareDisks D
coarse_disks d = record d { row = record d.row { coarse = true } }

-- a pump that is shut is down
abbrev pub is_down_in : {D : Type 0} → PumpState D → Bool
is_down_in (Open c) = is_down c
is_down_in (Shut d) = true

-- the moment of the last line that had one; 0 where it is shut
abbrev pub kept_moment_in : {D : Type 0} → PumpState D → ℕ
kept_moment_in (Open c) = c.moment
kept_moment_in (Shut d) = 0

-- how many messages were accepted, how many are removed, and how many the receiver has, whatever the disks tell;
-- none where it is shut
abbrev pub counts_in : {D : Type 0} → PumpState D → ℕ × ℕ × ℕ
counts_in (Open c) = (low.next_of c.low, high.removed_of c.high, recv_count c.receiver)
counts_in (Shut d) = (0, 0, 0)

-- it is open, and this holds of its parts
abbrev pub IsOpenWith : {D : Type 0} → (Parts D → Type 0) → PumpState D → Type 0
IsOpenWith P (Open c) = P c
IsOpenWith P (Shut d) = ⊥

-- it stands for what a session has been through
abbrev pub StandsIn : {D : Type 0} → Meaning D → PumpState D → Past → Type 0
StandsIn m s p = IsOpenWith (λ c. Stands m c p) s

-- where the packet of this line is refused nothing is printed after `out`, and no disk is changed
abbrev pub RefusesAheadIn : {D : Type 0} → PumpState D → PumpState D → ScriptLine → List Event → List Event → Type 0
RefusesAheadIn s t line out now = IsOpenWith (λ c. IsAheadBy c line) s → (now ≡ out) × (disks_in t ≡ disks_in s)

-- How a session that was to be served ended.
use Rattle.std.specs.Prelude.{◌≡◌, ℕ, ◌≤◌, Bool, true, false, List, None, Some, Result, Ok, Err}
use Rattle.disk_model.specs.Disk.{Meaning}
use Rattle.disk_model.specs.declared.name.Role.{Role}
use Rattle.disk_model.specs.declared.name.Role.TheVariants as roles
use Rattle.pump_frame.specs.Counts.{Rose}
use Rattle.pump_frame.specs.declared.row.SessionRow.{SessionRow}
use Rattle.recovery.specs.Calls.{is_device}
use Rattle.recovery.specs.Refusals.{refused_pump}
use Rattle.pump_link.specs.Ports.{PortsStep}
use Rattle.relay_side.specs.Sides.{ports}
use Rattle.relay_side.specs.declared.side.RelaySide.{RelaySide}
use Rattle.relay_threads.specs.declared.rounds_end.RoundsEnd.{RoundsEnd}
use Rattle.serving.specs.Doors.{WantDoor, OpensAndShuts}
use Rattle.serving.specs.declared.session.SessionEnd.{SessionEnd}
use Rattle.serving.specs.declared.session.SessionEnd.TheVariants.{Memory, Refused, NoDoor, NoThread, Ended}

-- the end, by how the workers ended, or where no second thread could be started
abbrev pub workers_end : {T F : Type 0} → Result T F → RoundsEnd → RoundsEnd → SessionEnd
workers_end (Ok done) low high = Ended low high
workers_end (Err fault) low high = NoThread

abbrev pub IfEnded : SessionEnd → (RoundsEnd → RoundsEnd → Type 0) → Type 0
IfEnded (Ended low high) Holds = Holds low high
IfEnded Memory Holds = Unit {0}
IfEnded (Refused role why) Holds = Unit {0}
IfEnded NoDoor Holds = Unit {0}
IfEnded NoThread Holds = Unit {0}

-- the disks were opened
abbrev pub is_opened : SessionEnd → Bool
is_opened Memory = false
is_opened (Refused role why) = false
is_opened NoDoor = true
is_opened NoThread = true
is_opened (Ended low high) = true

-- the workers ran
abbrev pub has_run : SessionEnd → Bool
has_run (Ended low high) = true
has_run Memory = false
has_run (Refused role why) = false
has_run NoDoor = false
has_run NoThread = false

-- one of the two failed
abbrev pub RoseAt : {S : Type 0} → Meaning S → Role → S → S → S → S → Type 0
RoseAt m roles.Low low high now_low now_high = Rose (m.count low) (m.count now_low)
RoseAt m roles.High low high now_low now_high = Rose (m.count high) (m.count now_high)
RoseAt m roles.Recv low high now_low now_high = ⊥

-- Why the disks were not opened: the first cause in the order of refusals, or the disk failed. An opening
-- that is not refused has no such cause.
abbrev pub OpensBy : {S : Type 0} → Meaning S → SessionRow → S → S → S → S → SessionEnd → Type 0
OpensBy m row low high now_low now_high (Refused role why) =
    (is_device why ≡ true → RoseAt m role low high now_low now_high)
    × (is_device why ≡ false → m.tells → refused_pump row (m.reading low) (m.reading high) ≡ Some (role, why))
OpensBy m row low high now_low now_high NoDoor = m.tells → refused_pump row (m.reading low) (m.reading high) ≡ None
OpensBy m row low high now_low now_high NoThread = m.tells → refused_pump row (m.reading low) (m.reading high) ≡ None
OpensBy m row low high now_low now_high (Ended how_low how_high) =
    m.tells → refused_pump row (m.reading low) (m.reading high) ≡ None
OpensBy m row low high now_low now_high Memory = Unit {0}

-- How a session came to its end, by the causes of each, and what it left. `did` and `faults` are what its ports tell.
pub record SessionComes {P K R L O S : Type 0} (did : P → List (PortsStep L R) → Type 0) (faults : P
    → ℕ) (m : Meaning S) (row : SessionRow) (low_side high_side now_low_side now_high_side : RelaySide P K)
    (tape now_tape : O) (low high now_low now_high : S) (end : SessionEnd) : Type 0 where
  pub opens : OpensBy m row low high now_low now_high end
  pub wanting : end ≡ NoDoor → WantDoor (ports did faults low_side.ports now_low_side.ports)
      (ports did faults high_side.ports now_high_side.ports) row.low_port row.high_port
  pub unstarted : end ≡ NoThread → OpensAndShuts (ports did faults low_side.ports now_low_side.ports) row.low_port
      × OpensAndShuts (ports did faults high_side.ports now_high_side.ports) row.high_port
  -- before the disks are opened nothing is done at either side, and before the workers run no clock is read, and
  -- nothing is written
  pub closed : is_opened end ≡ false → (now_low_side ≡ low_side) × (now_high_side ≡ high_side)
  pub idle : has_run end ≡ false → (now_low_side.clock ≡ low_side.clock) × (now_high_side.clock ≡ high_side.clock)
      × (now_tape ≡ tape)
  pub still : has_run end ≡ false → m.tells → (m.reading now_low ≡ m.reading low)
      × (m.reading now_high ≡ m.reading high)
  pub counts : (m.count low ≤ m.count now_low) × (m.count high ≤ m.count now_high)

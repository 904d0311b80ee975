-- How a session comes to its end where its disks are not opened, or its workers don't run.
use Rattle.std.proofs.Common.{◌≡◌, ◌⊎◌, ◌≤◌, ◌&&◌, ℕ, Bool, true, false, List, None, inl, inr, refl, sym, subst, arith}
use Rattle.disk_model.specs.Disk.{Meaning}
use Rattle.disk_model.specs.declared.name.Role.{Role}
use Rattle.disk_model.specs.declared.name.Role.TheVariants as roles
use Rattle.pump_frame.specs.declared.row.SessionRow.{SessionRow}
use Rattle.recovery.specs.Calls.{Calls, CallsHigh, is_low, is_high}
use Rattle.recovery.specs.Refusals.{refused_pump}
use Rattle.pump_link.specs.Ports.{PortsStep}
use Rattle.relay_side.specs.Sides.{ports}
use Rattle.relay_side.specs.declared.side.RelaySide.{RelaySide}
use Rattle.serving.specs.Doors.{WantDoor, OpensAndShuts}
use Rattle.relay_threads.specs.declared.rounds_end.RoundsEnd.{RoundsEnd}
use Rattle.serving.specs.Sessions.{RoseAt, SessionComes}
use Rattle.serving.specs.declared.session.SessionEnd.{SessionEnd}
use Rattle.serving.specs.declared.session.SessionEnd.TheVariants.{NoDoor, NoThread, Ended}

-- the high disk has not failed less often
pub high_calls : {S : Type 0} (m : Meaning S) (row : SessionRow) (low old new : S) (failed : Bool) → CallsHigh m row low old new failed → m.count old ≤ m.count new
high_calls m row low old new failed (inl called) = called.0.counts
high_calls {S} m row low old new failed (inr left) = subst (λ (x : S). m.count old ≤ m.count x) (sym left.0) (omega arith)

-- a disk that failed is the one that is named
pub rose_so : {S : Type 0} (m : Meaning S) (row : SessionRow) (role : Role) (device : Bool) (low high now_low now_high : S) → (role ≡ roles.Low) ⊎ (role ≡ roles.High)
    → Calls m low now_low (is_low role && device) → CallsHigh m row low high now_high (is_high role && device) → device ≡ true → RoseAt m role low high now_low now_high
rose_so m row roles.Low true low high now_low now_high either low_calls high_calls failed = low_calls.rose refl
rose_so m row roles.Low false low high now_low now_high either low_calls high_calls failed = absurd (cc)
rose_so m row roles.High true low high now_low now_high either low_calls (inl called) failed = called.0.rose refl
rose_so m row roles.High true low high now_low now_high either low_calls (inr left) failed = (let e = left.1 in absurd (cc))
rose_so m row roles.High false low high now_low now_high either low_calls high_calls failed = absurd (cc)
rose_so m row roles.Recv device low high now_low now_high either low_calls high_calls failed = elim either [ inl e ↦ absurd (cc) | inr e ↦ absurd (cc) ]

-- ---- opened ----

module _ {P K R L O S : Type 0} (did : P → List (PortsStep L R) → Type 0) (faults : P → ℕ) (m : Meaning S) (row : SessionRow) (low_side high_side now_low_side now_high_side : RelaySide P K) (tape now_tape : O) (low high now_low now_high : S)
    (fine : m.tells → refused_pump row (m.reading low) (m.reading high) ≡ None) (counts : (m.count low ≤ m.count now_low) × (m.count high ≤ m.count now_high)) where
  abbrev Comes : SessionEnd → Type 0
  Comes end = SessionComes did faults m row low_side high_side now_low_side now_high_side tape now_tape low high now_low now_high end

  -- both workers ran
  pub ended_comes : (how_low how_high : RoundsEnd) → Comes (Ended how_low how_high)
  ended_comes how_low how_high = record { opens = fine; wanting = λ e. absurd (cc); unstarted = λ e. absurd (cc); closed = λ e. absurd (cc); idle = λ e. absurd (cc); still = λ e. absurd (cc); counts = counts }

  module _ (idle : (now_low_side.clock ≡ low_side.clock) × (now_high_side.clock ≡ high_side.clock) × (now_tape ≡ tape)) (still : m.tells → (m.reading now_low ≡ m.reading low) × (m.reading now_high ≡ m.reading high)) where
    -- no worker ran: a door was wanting, or the second thread
    pub no_door_comes : WantDoor (ports did faults low_side.ports now_low_side.ports) (ports did faults high_side.ports now_high_side.ports) row.low_port row.high_port → Comes NoDoor
    no_door_comes wanting = record { opens = fine; wanting = λ e. wanting; unstarted = λ e. absurd (cc); closed = λ e. absurd (cc); idle = λ e. idle; still = λ e. still; counts = counts }

    pub no_thread_comes : OpensAndShuts (ports did faults low_side.ports now_low_side.ports) row.low_port × OpensAndShuts (ports did faults high_side.ports now_high_side.ports) row.high_port → Comes NoThread
    no_thread_comes unstarted = record { opens = fine; wanting = λ e. absurd (cc); unstarted = λ e. unstarted; closed = λ e. absurd (cc); idle = λ e. idle; still = λ e. still; counts = counts }

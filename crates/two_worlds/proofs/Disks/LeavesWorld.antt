-- What crashes leave of the disks of a pump stands for its world, with each unfinished call kept or lost.
use Rattle.std.proofs.Common.{◌≡◌, inl, inr, ℕ, ◌^◌, ◌≤◌, ◌<◌, Bool, true, false, List, [], ◌∷◌, length, Option, Some, None, refl, ap, arith, length-append}
use Rattle.std.specs.Prelude.{◌&&◌}
use Rattle.disk_model.specs.Disk.{Meaning}
use Rattle.disk_model.specs.declared.name.Role.TheVariants as roles
use Rattle.pump_frame.specs.Rows.{IsLawfulRow}
use Rattle.pump_frame.specs.declared.row.SessionRow.{SessionRow}
use Rattle.stable_buffer.specs.Format.{receiver_size}
use Rattle.pump_frame.specs.declared.payload.Payload.{Payload}
use Rattle.pump_core.specs.declared.event.Event.TheVariants.{Crash}
use Rattle.pump_core.specs.World.{World}
use Rattle.pump_core.specs.Events.{with_kept}
use Rattle.pump_core.specs.Lawful.{IsLawful}
use Rattle.pump_core.proofs.Laws.{stays_lawful}
use Rattle.recovery.proofs.Triples.{each_world}
use Rattle.script_reader.specs.Past.{Past}
use Rattle.script_reader.specs.Highs.{log_end}
use Rattle.two_worlds.specs.declared.pump.parts.Parts.{Parts}
use Rattle.world_laws.specs.Disks.{LowFits, HighFits, RecvFits, DisksFit, FitsRow, crashed, StandFor, StandForLeft, AreFound, OpenAgain, LeaveWorld}
use Rattle.two_worlds.specs.declared.pump.Pump.{Pump}
use Rattle.two_worlds.specs.declared.pump.state.PumpState.{PumpState}
use Rattle.two_worlds.specs.declared.pump.state.PumpState.TheVariants.{Open, Shut}
use Rattle.two_worlds.specs.Pumps.{StandsOrFails, row_of, disk_at}
use Rattle.two_worlds.specs.Standing.{Stands}
use Rattle.two_worlds.specs.States.{disks_in, StandsIn}
use Rattle.two_worlds.proofs.Carry.Carried.{log_end_push}
use Rattle.two_worlds.proofs.Opening.Opened.{received_end}
use Rattle.two_worlds.proofs.Disks.Crashes.{low_case, high_case, recv_case, low_from, kept_longer, prefix_length, and_right}

shorter : (kept : Bool) (o : Option Payload) (ps : List Payload) → length (with_kept kept o ps) ≤ length (with_kept true o ps)
shorter true o ps = omega arith
shorter false None ps = omega arith
shorter false (Some p) ps = omega (arith, length-append ps (p ∷ []))

ends_before : (kept taking : Bool) (o : Option Payload) (ps : List Payload) → log_end (with_kept (kept && taking) o ps) ≤ log_end (with_kept taking o ps)
ends_before true taking o ps = omega arith
ends_before false false o ps = omega arith
ends_before false true None ps = omega arith
ends_before false true (Some p) ps = omega (arith, log_end_push ps p)

stands_left : (row : SessionRow) (w : World) (a b c : List ℕ) → IsLawful w → FitsRow row w → LowFits row w a → HighFits row w b → RecvFits row w c → StandForLeft row w a b c
stands_left row w a b c lawful fits fa fb fc =
    let low = low_case row w a lawful.bounded.within.below fa in
    let high = high_case row w b fb in
    let recv = recv_case row w c fc in
    let some : (high.0 && w.removing) ≡ true → w.removed < length (with_kept low.0 w.storing w.accepted) = λ e.
    let due = lawful.bounded.removal.cause (and_right high.0 w.removing e) in
    let less = lawful.delivered.due due in
    omega (arith, less, prefix_length w.received lawful.delivered.prefix.0 w.accepted lawful.delivered.prefix.1, kept_longer low.0 w.storing w.accepted) in (
      low.0,
      high.0,
      recv.0,
      record {
        lawful = stays_lawful w (Crash (Some (low.0, high.0)) (Some recv.0)) _ lawful refl;
        capacity = fits.capacity;
        count = let l = shorter low.0 w.storing w.accepted in omega (arith, l, fits.count);
        end = let l = ends_before recv.0 w.taking w.packet w.received in omega (arith, l, fits.end);
        low_is = low_from row (high.0 && w.removing) w.removed (with_kept low.0 w.storing w.accepted) a some low.1;
        high_is = high.1;
        recv_is = recv.1;
      },
    )

leaves_world : {D : Type 0} (m : Meaning D) (row : SessionRow) (w : World) (low high recv : D) → IsLawful w → FitsRow row w → DisksFit m row low high recv w → LeaveWorld m row w low high recv
leaves_world m row w low high recv lawful fits disks = record {
  readings = λ told. stands_left row w _ _ _ lawful fits (disks.low_disk.reading told) (disks.high_disk.reading told) (disks.recv_disk.reading told);
  crashes = λ told a b c ia ib ic. stands_left row w a b c lawful fits (disks.low_disk.images told a ia) (disks.high_disk.images told b ib) (disks.recv_disk.images told c ic);
}

-- .. so nothing is refused of them
found : (row : SessionRow) (w : World) (low high recv : List ℕ) → IsLawfulRow row → row.id < 2 ^ 32 → StandFor row w low high recv → AreFound row w low high recv
found row w low high recv lawful small s = each_world row w receiver_size low high recv lawful small (record {
  lawful = s.lawful;
  capacity = s.capacity;
  count = s.count;
  room = (let e = received_end row w.received recv s.recv_is in let l = s.end in omega (arith, e, l));
  low_stands = s.low_is;
  high_stands = s.high_is;
  recv_stands = s.recv_is;
})

pub opens_again : {D : Type 0} (m : Meaning D) (row : SessionRow) (w : World) (low high recv : D) → IsLawfulRow row → row.id < 2 ^ 32 → LeaveWorld m row w low high recv → OpenAgain m row w low high recv
opens_again m row w low high recv lawful small leaves told a b c ia ib ic =
    let s = leaves.crashes told a b c ia ib ic in
    (s.0, s.1, s.2, s.3, found row (crashed w s.0 s.1 s.2) a b c lawful small s.3)

-- ---- a world whose calls are finished ----

same_accepted : (o : Option Payload) (ps : List Payload) → o ≡ None → with_kept true o ps ≡ ps
same_accepted None ps e = refl
same_accepted (Some p) ps e = absurd (cc)

same_received : (b : Bool) (o : Option Payload) (ps : List Payload) → b ≡ false → with_kept b o ps ≡ ps
same_received false o ps e = refl
same_received true o ps e = absurd (cc)

pub fits_row : {D : Type 0} (m : Meaning D) (c : Parts D) (p : Past) → Stands m c p → FitsRow c.row p.world
fits_row m c p s = record {
  capacity = s.world.capacity;
  count = (let e = ap length (same_accepted p.world.storing p.world.accepted s.sound.rest.storing) in let few = c.low.in_range in omega (arith, e, few, s.world.accepted));
  end = (let e = ap log_end (same_received p.world.taking p.world.packet p.world.received s.sound.rest.taking) in
      let within = s.recv_ready.ready.within in
      omega (arith, e, within, s.world.end, s.recv_ready.size));
}

standing_leaves : {D : Type 0} (m : Meaning D) (s : PumpState D) (p : Past) → StandsIn m s p
    → LeaveWorld m (disks_in s).row p.world (disks_in s).low (disks_in s).high (disks_in s).recv
standing_leaves m (Open c) p s = leaves_world m c.row p.world _ _ _ s.sound.lawful (fits_row m c p s) s.disks
standing_leaves m (Shut d) p s = absurd s

-- the pump stands for this, or came to this when a disk failed
pub pump_leaves : {D : Type 0} {g : _} (m : Meaning D) (s : Pump D g) (p : Past) → StandsOrFails m s p
    → LeaveWorld m (row_of s) p.world (disk_at roles.Low s) (disk_at roles.High s) (disk_at roles.Recv s)
pump_leaves m s p (inl stands) = standing_leaves m s.state p stands
pump_leaves m s p (inr f) = leaves_world m (row_of s) p.world _ _ _ f.2.1.lawful f.2.1.fits f.2.1.disks

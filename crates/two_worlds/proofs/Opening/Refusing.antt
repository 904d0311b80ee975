-- Disks that stand for something are refused for nothing.
use Rattle.std.proofs.Common.{◌≡◌, inl, inr, ℕ, ◌^◌, ◌<◌, ◌&&◌, Bool, true, false, List, length, Option, Some, None, IfSome, refl, subst, arith}
use Rattle.disk_model.specs.Disk.{Meaning}
use Rattle.disk_model.specs.declared.name.Role.{Role}
use Rattle.disk_model.specs.declared.name.Role.TheVariants as roles
use Rattle.pump_frame.specs.Rows.{IsLawfulRow}
use Rattle.pump_frame.specs.declared.row.SessionRow.{SessionRow}
use Rattle.stable_buffer.specs.Format.{size_of, receiver_size}
use Rattle.pump_core.specs.Events.{Opened}
use Rattle.pump_core.proofs.Laws.{begins_lawful}
use Rattle.recovery.specs.Agreement.{Disagrees}
use Rattle.recovery.specs.Calls.{is_device}
use Rattle.recovery.specs.Joint.{OpensJointly}
use Rattle.recovery.specs.declared.why.Why.{Why}
use Rattle.recovery.proofs.Triples.{each_world}
use Rattle.script_reader.specs.Openings.{Found, accepted_in, opened_world}
use Rattle.script_reader.proofs.Opened.{row_capacity}
use Rattle.two_worlds.specs.Openings.{StandForFound, DisksStandFor, IsRefused, ComeBack, failed_at, is_for_device, readied}
use Rattle.two_worlds.specs.Rooms.{HasRoom, is_role}
use Rattle.two_worlds.specs.declared.not_open.NotOpen.{NotOpen}
use Rattle.two_worlds.proofs.Opening.Comparing.{never_fails}
use Rattle.two_worlds.proofs.Opening.Opened.{received_end}

module _ (row : SessionRow) (lawful : IsLawfulRow row) (small : row.id < 2 ^ 32) (f : Found) (low high recv : List ℕ) (s : StandForFound row f low high recv) where
  opens : OpensJointly row receiver_size (length (accepted_in f)) f.removed (length f.received) f.received low high recv
  opens =
      let wide = row_capacity row lawful in
      each_world row (opened_world row f) receiver_size low high recv lawful small (record {
        lawful = begins_lawful _ (Opened row.capacity f.removed f.received f.later wide.0 wide.1 s.can_open.agree);
        capacity = refl;
        count = s.can_open.count;
        room = (let e = received_end row f.received recv s.recv_is in let l = s.can_open.end in omega (arith, e, l));
        low_stands = s.low_is;
        high_stands = s.high_is;
        recv_stands = s.recv_is;
      })

  pub never_refused : (role : Role) (why : Why) → IsRefused row low high recv role why → ⊥
  never_refused role why (inl is) = let none = opens.pump in absurd (cc)
  never_refused role why (inr (fine, at, inl is)) = let none = opens.receiver in absurd (cc)
  never_refused role why (inr (fine, at, inr (none, differs))) =
      opens.never why (subst (λ (t : ℕ × ℕ × ℕ). Disagrees row t.0 t.1 t.2 f.received low why)
      (λ i. ((s.high_is.value i).0, (s.recv_is.value i).0, (s.low_is.value i).0)) (differs f.received s.recv_is))

device_by : (b : Bool) → (b ≡ false → ⊥) → b ≡ true
device_by true h = refl
device_by false h = absurd (h refl)

only_device : (why : Option Why) → IfSome why (λ w. is_device w ≡ false → ⊥) → IfSome why (λ w. is_device w ≡ true)
only_device None h = h
only_device (Some w) h = device_by (is_device w) h

unrefused : (told : Type 0) → told → (row : SessionRow) (low high recv : List ℕ) (role : Role) (why : Option Why) → ((w : Why) → IsRefused row low high recv role w → ⊥)
    → IfSome why (λ w. is_device w ≡ false → told → IsRefused row low high recv role w) → IfSome why (λ w. is_device w ≡ false → ⊥)
unrefused told here row low high recv role None never h = h
unrefused told here row low high recv role (Some w) never h = λ other. never w (h other here)

-- .. so only a device is a cause
pub only_devices : {D : Type 0} (m : Meaning D) → m.tells → (row : SessionRow) → IsLawfulRow row → row.id < 2 ^ 32 → (low high recv : D) (f : Found) → DisksStandFor m row low high recv f
    → (e : NotOpen D) → ComeBack m row low high recv e → IfSome e.why (λ w. is_device w ≡ true)
only_devices m told row lawful small low high recv f s e back =
    let a = readied row roles.Low (m.reading low) in
    let b = readied row roles.High (m.reading high) in
    let c = readied row roles.Recv (m.reading recv) in
    only_device e.why (unrefused m.tells told row a b c e.role e.why (never_refused row lawful small f a b c s e.role) back.refused)

-- no device either, where no disk is armed and each has room
none_failed : (role : Role) (why : Option Why) → IfSome why (λ w. is_device w ≡ true) → (is_for_device why && is_role roles.Low role) ≡ false → (is_for_device why && is_role roles.High role) ≡ false
    → (is_for_device why && is_role roles.Recv role) ≡ false → why ≡ None
none_failed role None device low high recv = refl
none_failed roles.Low (Some w) device low high recv = absurd (cc)
none_failed roles.High (Some w) device low high recv = absurd (cc)
none_failed roles.Recv (Some w) device low high recv = absurd (cc)

pub none_fails : {D : Type 0} (m : Meaning D) → m.tells_plan → (row : SessionRow) (low high recv : D) (e : NotOpen D) → HasRoom m row low high recv → ComeBack m row low high recv e
    → IfSome e.why (λ w. is_device w ≡ true) → e.why ≡ None
none_fails m plan row low high recv e room back device = none_failed e.role e.why device
    (never_fails m (size_of row roles.Low) (size_of row roles.Low) low e.low (failed_at roles.Low e) plan (omega arith) back.low_disk.serves room.low_free)
    (never_fails m 80 80 high e.high (failed_at roles.High e) plan (omega arith) back.high_disk.serves room.high_free)
    (never_fails m 80 receiver_size recv e.recv (failed_at roles.Recv e) plan (omega arith) back.recv_disk.serves room.recv_free)

-- The receiver's disk is refused where it is opened again, or its device fails.
use Rattle.std.proofs.Common.{◌≡◌, ℕ, ◌<◌, ◌≤◌, ◌^◌, Bool, true, false, Some, None, Err, refl, sym, ap, ◌∙◌, subst, arith}
use Rattle.disk_model.specs.Disk.{Meaning, Moves, Same}
use Rattle.disk_model.specs.declared.name.Role.TheVariants as roles
use Rattle.pump_frame.specs.declared.row.SessionRow.{SessionRow}
use Rattle.stable_buffer.specs.Low.{low_disk}
use Rattle.stable_buffer.specs.High.{high_disk}
use Rattle.stable_buffer.specs.Stands.{low_size}
use Rattle.high_receiver.specs.Receiving.{recv_disk}
use Rattle.recovery.specs.Calls.{Calls, is_device}
use Rattle.recovery.specs.Refusals.{refused_receiver}
use Rattle.recovery.specs.declared.why.Why.{Why}
use Rattle.recovery.specs.declared.why.Why.TheVariants as whys
use Rattle.recovery.proofs.Accepts.{recv_none}
use Rattle.script_reader.specs.Past.{Past}
use Rattle.script_reader.specs.Highs.{receiver_size}
use Rattle.script_reader.proofs.Opened.{row_capacity}
use Rattle.two_worlds.specs.declared.applied.Stop.TheVariants.{Device, Disk}
use Rattle.two_worlds.specs.declared.pump.parts.Parts.{Parts}
use Rattle.two_worlds.specs.declared.pump.state.BareDisks.{BareDisks}
use Rattle.two_worlds.specs.declared.pump.state.PumpState.TheVariants.{Shut}
use Rattle.two_worlds.specs.Private.Restarting.{stop_for}
use Rattle.two_worlds.specs.Private.Reopening.{Reopens}
use Rattle.two_worlds.specs.Standing.{Stands, bare_of}
use Rattle.two_worlds.specs.Working.{IsAble}
use Rattle.two_worlds.proofs.Carry.Serves.{serves_alone, behind_alone}
use Rattle.two_worlds.proofs.Disks.LeavesWorld.{fits_row}
use Rattle.two_worlds.proofs.Opening.Ready.{recv_reading}
use Rattle.two_worlds.proofs.Reopening.Receiver.{value_read, calls_serve, recv_still, recv_still_has, still_fits}

-- the disk of parts that stand for something is refused for nothing
never_refused : {D : Type 0} (m : Meaning D) (c : Parts D) → c.row.id < 2 ^ 32 → m.tells → (p : Past) → Stands m c p → refused_receiver c.row receiver_size (m.reading (recv_disk c.receiver)) ≡ None
never_refused m c small told p s =
    let disk = m.reading (recv_disk c.receiver) in
    let ready = s.recv_ready.ready in
    let end = ap (λ (v : ℕ × ℕ). v.1) (value_read m c.receiver ready told) in
    let most = (row_capacity c.row s.row).1 in
    recv_none c.row (record {
      session = small;
      capacity = omega (arith, most);
      message = subst (λ (r : SessionRow). r.message ≤ 1024) s.recv_ready.row ready.short;
    }) receiver_size p.world.received disk (omega (arith, ready.count, s.world.received)) (omega (arith, end, ready.within, s.recv_ready.size))
    (recv_reading c.row p.world disk s.sound.rest.packet (s.disks.recv_disk.reading told))

module _ {D : Type 0} (m : Meaning D) (c : Parts D) (recv : D) where
  -- what is said of an opening that gave this cause
  pub record Refused (why : Why) : Type 0 where
    pub cause : is_device why ≡ false → m.tells → refused_receiver c.row receiver_size (m.reading (recv_disk c.receiver)) ≡ Some why
    pub device : is_device why ≡ true → why ≡ whys.Device (m.count recv)
    pub calls : Calls m (recv_disk c.receiver) recv (is_device why)
    pub same : Moves m Same (recv_disk c.receiver) recv

  abbrev left : BareDisks D
  left = record (bare_of c) { recv = recv }

  module _ (able : IsAble m c) (small : c.row.id < 2 ^ 32) where
    failed : (faults : ℕ) → Refused (whys.Device faults) → Reopens m c (Shut left) (Err (Device roles.Recv faults))
    failed faults r =
        let counted : faults ≡ m.count recv = (let is = r.device refl in cc) in
        record {
          from = λ told p s. (
            refl,
            refl,
            record {
              counted = counted;
              lawful = s.sound.lawful;
              fits = fits_row m c p s;
              disks = record { low_disk = s.disks.low_disk; high_disk = s.disks.high_disk; recv_disk = recv_still m c recv r.same p s };
            },
            still_fits m c recv r.same p s,
          );
          on = (refl, refl, counted);
          serve = (
            refl,
            record {
              low_goes = serves_alone m (low_size c.row) (low_disk c.low_store);
              high_goes = serves_alone m 80 (high_disk c.high_store);
              recv_goes = calls_serve m receiver_size (recv_disk c.receiver) recv true r.calls;
              behind = behind_alone m c recv able.stands (recv_still_has m c recv r.same);
            },
          );
          rest = refl;
        }

    other : (why : Why) → is_device why ≡ false → Refused why → Reopens m c (Shut left) (Err (Disk roles.Recv why))
    other why fine r = record {
      from = λ told p s. (let never = sym (never_refused m c small told p s) ∙ r.cause fine told in absurd (cc));
      on = (refl, refl, fine);
      serve = (
        refl,
        record {
          low_goes = serves_alone m (low_size c.row) (low_disk c.low_store);
          high_goes = serves_alone m 80 (high_disk c.high_store);
          recv_goes = calls_serve m receiver_size (recv_disk c.receiver) recv false (subst (λ (b : Bool). Calls m (recv_disk c.receiver) recv b) fine r.calls);
          behind = behind_alone m c recv able.stands (recv_still_has m c recv r.same);
        },
      );
      rest = refl;
    }

    -- whatever the cause is, the disks are bare
    pub refused : (why : Why) → Refused why → Reopens m c (Shut left) (Err (stop_for roles.Recv why))
    refused (whys.Device faults) r = failed faults r
    refused (whys.NotABuffer size bytes) r = other (whys.NotABuffer size bytes) refl r
    refused (whys.WrongShape field found wanted) r = other (whys.WrongShape field found wanted) refl r
    refused (whys.BadRegister first second) r = other (whys.BadRegister first second) refl r
    refused (whys.Mismatch removed accepted) r = other (whys.Mismatch removed accepted) refl r
    refused (whys.BadSlot number size_of_message) r = other (whys.BadSlot number size_of_message) refl r
    refused (whys.Apart count bound) r = other (whys.Apart count bound) refl r
    refused (whys.Differs number) r = other (whys.Differs number) refl r
    refused (whys.NotEmpty size) r = other (whys.NotEmpty size) refl r
    refused (whys.Small held capacity) r = other (whys.Small held capacity) refl r
    refused (whys.TooLong number size) r = other (whys.TooLong number size) refl r

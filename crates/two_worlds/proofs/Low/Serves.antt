-- The calls that a low look makes of the disks.
use Rattle.std.proofs.Common.{◌≡◌, inl, inr, ℕ, ◌≤◌, Bool, true, false, List, length, Option, Some, None, Result, Ok, Err, refl, sym, ap, ◌∙◌, subst, arith}
use Rattle.std.specs.Prelude.{if◌then◌else◌, ◌||◌}
use Rattle.std.specs.Result.{result_err}
use Rattle.std.proofs.Math.Logic.{∥∥₁_elim}
use Rattle.std.proofs.Props.{props}
use Rattle.std.specs.Coded.{le_prop}
use Rattle.disk_model.specs.Disk.{Meaning}
use Rattle.disk_model.specs.declared.name.Role.TheVariants as roles
use Rattle.pump_frame.specs.declared.payload.Payload.{Payload}
use Rattle.pump_frame.specs.declared.row.SessionRow.{SessionRow}
use Rattle.stable_buffer.specs.Stands.{low_size, slot_end}
use Rattle.stable_buffer.specs.Low.{low_row, low_count, low_disk}
use Rattle.stable_buffer.specs.High.{high_disk}
use Rattle.stable_buffer.proofs.Slots.{slot_within_low}
use Rattle.high_receiver.specs.Receiving.{recv_disk}
use Rattle.pump_core.specs.History.{Arrival}
use Rattle.low_process.specs.declared.values.LowLook.{LowLook}
use Rattle.low_process.specs.Looks.{is_down}
use Rattle.low_process.specs.Storing.{StoreStep, message_in}
use Rattle.two_worlds.specs.declared.applied.Stop.{Stop}
use Rattle.two_worlds.specs.declared.applied.Stop.TheVariants.{Device}
use Rattle.two_worlds.specs.declared.pump.parts.Parts.{Parts}
use Rattle.world_laws.specs.Disks.{RemovesBehind}
use Rattle.two_worlds.specs.Private.Serving.{DisksServe}
use Rattle.two_worlds.specs.Rooms.{Serves, stops_at}
use Rattle.two_worlds.specs.Private.LowLooks.{stop_of}
use Rattle.two_worlds.specs.Working.{IsAble}
use Rattle.two_worlds.proofs.Opening.Ends.{low_is_up}
use Rattle.two_worlds.proofs.Opening.Ready.{low_has_store, high_reading, recv_reading}
use Rattle.two_worlds.proofs.Low.Looked.{Looked}
use Rattle.two_worlds.proofs.Low.Wants.{taking, is_short}

-- Ok, or the low disk failed
abbrev pub stop_by : Bool → ℕ → Result (Unit {0}) Stop
stop_by is_fault faults = if is_fault then Err (Device roles.Low faults) else Ok tt

low_fails : (b : Bool) (faults : ℕ) → stops_at roles.Low (result_err (stop_by b faults)) ≡ b
low_fails true faults = refl
low_fails false faults = refl

high_fine : (b : Bool) (faults : ℕ) → stops_at roles.High (result_err (stop_by b faults)) ≡ false
high_fine true faults = refl
high_fine false faults = refl

recv_fine : (b : Bool) (faults : ℕ) → stops_at roles.Recv (result_err (stop_by b faults)) ≡ false
recv_fine true faults = refl
recv_fine false faults = refl

-- a message that is no longer than the row's messages ends on the disk
slot_ends : (row : SessionRow) (n : ℕ) (message : List ℕ) → 1 ≤ row.capacity → length message ≤ row.message → slot_end row n message ≤ low_size row
slot_ends row n message some short = let e = slot_within_low row n some in omega (arith, e, short)

module _ {D : Type 0} (m : Meaning D) (c d : Parts D) (moment word : ℕ) (a : Arrival) (is_fault : Bool) (l : LowLook) (did : Looked m c d moment word a is_fault l) (able : IsAble m c) where
  same_row : low_row c.low_store ≡ c.row
  same_row = ∥∥₁_elim able.works (hlevel props) (λ s. s.low_ready.store.row ∙ s.low_ready.row)

  fits : (message : Payload) → message_in c.low a ≡ Some message → low_size c.row ≤ m.room (low_disk c.low_store)
      → slot_end (low_row c.low_store) (low_count c.low_store) message ≤ m.room (low_disk c.low_store)
  fits message e le =
      let has = low_has_store m c able in
      let short : length message ≤ (low_row c.low_store).message = subst (λ (r : SessionRow). length message ≤ r.message) (sym has.row) (is_short c.low a message (taking c.low a message e)) in
      let within = slot_ends (low_row c.low_store) (low_count c.low_store) message has.ready.ranges.some short in
      let le' : low_size (low_row c.low_store) ≤ m.room (low_disk c.low_store) = subst (λ (r : SessionRow). low_size r ≤ m.room (low_disk c.low_store)) (sym same_row) le in
      omega (arith, within, le')

  by_message : (message : Option Payload) → message_in c.low a ≡ message → StoreStep m message c.low_store d.low_store is_fault → Serves m (low_size c.row) (low_disk c.low_store) (low_disk d.low_store) is_fault
  by_message None e s = inl (ap low_disk s.1, s.0)
  by_message (Some message) e s = inr (record {
    counts = s.answers.counts;
    rose = s.answers.rose;
    never = λ told unarmed le. s.answers.never told unarmed (fits message e le);
    always = s.answers.always;
    room = s.answers.room;
    disarmed = s.answers.disarmed;
  })

  -- the process is down exactly where the device failed
  pub down_is : is_down d.low ≡ is_fault
  down_is = did.step.falls ∙ ap (λ (b : Bool). b || is_fault) (low_is_up m c able)

  behind : RemovesBehind m (high_disk c.high_store) (high_disk c.high_store) (recv_disk c.receiver)
  behind told high left recv is = ∥∥₁_elim (able.stands (m.images_tell told)) le_prop (λ s.
      let p = s.0 in
      let h = high_reading c.row p.world high s.1.sound.rest.removing (s.1.disks.high_disk.images told high (m.only_now told (high_disk c.high_store) high left)) in
      let r = recv_reading c.row p.world recv s.1.sound.rest.packet (s.1.disks.recv_disk.images told recv is) in
      let e = ap (λ (t : ℕ × ℕ). t.0) h.value in
      let f = ap (λ (t : ℕ × ℕ). t.0) r.value in
      let le = s.1.sound.lawful.delivered.removed in
      omega (arith, e, f, le))

  abbrev d' : Parts D
  d' = record c { low = d.low; low_store = d.low_store; ends = d.ends; connection = d.connection; moment = moment }

  serve_then : (faults : ℕ) → DisksServe m c d' (stop_by is_fault faults)
  serve_then faults = record {
    low_goes = subst (λ (b : Bool). Serves m (low_size c.row) (low_disk c.low_store) (low_disk d.low_store) b) (sym (low_fails is_fault faults)) (by_message (message_in c.low a) refl did.step.keeps);
    high_goes = inl (refl, high_fine is_fault faults);
    recv_goes = inl (refl, recv_fine is_fault faults);
    behind = behind;
  }

  pub low_serves : (result : Result (Unit {0}) Stop) → result ≡ stop_of m d.low d.low_store → DisksServe m c d result
  low_serves result stop =
      let faults = m.count (low_disk d.low_store) in
      let e : result ≡ stop_by is_fault faults = stop ∙ ap (λ (b : Bool). stop_by b faults) down_is in
      subst (λ (t : Parts D × Result (Unit {0}) Stop). DisksServe m c t.0 t.1) (λ i. (sym did.rest i, sym e i)) (serve_then faults)

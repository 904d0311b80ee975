-- The calls of the three disks in a high look.
use Rattle.disk_model.specs.Disk.{Answers, Meaning}
use Rattle.high_process.specs.Storing.{Fares, LeavesCounted}
use Rattle.high_process.specs.declared.process.HighProcess.{HighProcess}
use Rattle.high_process.specs.declared.values.HighFault.TheVariants.{Device}
use Rattle.high_process.specs.declared.values.HighFault.{HighFault}
use Rattle.high_process.specs.declared.values.HighLook.{HighLook}
use Rattle.high_process.specs.declared.values.Task.TheVariants.{Keep, Refuse, Remove}
use Rattle.high_process.specs.declared.values.Task.{Task}
use Rattle.high_receiver.specs.Receiving.{recv_disk}
use Rattle.passage.specs.declared.plain.PlainEnds.{PlainEnds}
use Rattle.pump_frame.specs.declared.frame.Frame.{Frame}
use Rattle.script_reader.specs.Past.{Past}
use Rattle.stable_buffer.specs.High.{high_disk, removal_end}
use Rattle.stable_buffer.specs.declared.high.HighStore.{HighStore}
use Rattle.std.proofs.Common.{Bool, Ok, Option, ap, arith, false, inl, inr, le_trans, refl, subst, sym, true, ℕ, ◌≡◌, ◌≤◌}
use Rattle.std.proofs.Math.Logic.{∥∥₁_elim}
use Rattle.std.specs.Coded.{le_prop}
use Rattle.two_worlds.proofs.High.Disks.{behind, failed, went}
use Rattle.world_laws.specs.Disks.{RemovesBehind}
use Rattle.two_worlds.specs.Private.Serving.{DisksServe}
use Rattle.two_worlds.specs.Rooms.{Serves}
use Rattle.two_worlds.specs.Private.HighLooks.{ComesBack}
use Rattle.two_worlds.specs.Standing.{Stands}
use Rattle.two_worlds.specs.Working.{IsAble}
use Rattle.two_worlds.specs.declared.pump.parts.Parts.{Parts}
use Rattle.two_worlds.proofs.High.Works.{is_device}
use Rattle.two_worlds.proofs.High.Standing.{looked_parts}

-- ---- the high disk ----

short : {D : Type 0} (store : HighStore D) → removal_end store ≤ 80
short store = omega arith

module _ {D : Type 0} (m : Meaning D) (q r : HighProcess) (old new : HighStore D) where
  served : (look : HighLook) → Answers m (removal_end old ≤ m.room (high_disk old)) (high_disk old) (high_disk new) (went look) → Serves m 80 (high_disk old) (high_disk new) false
  served look a = inr (record {
    counts = a.counts;
    rose = a.rose;
    never = λ plan off fits. a.never plan off (le_trans (short old) fits);
    always = a.always;
    room = a.room;
    disarmed = a.disarmed;
  })

  pub serves : (task : Task) (look : HighLook) → Fares m task q r old new (went look) → Serves m 80 (high_disk old) (high_disk new) false
  serves Keep look fares = inl (ap high_disk fares.1, refl)
  serves (Refuse e) look fares = inl (ap high_disk fares.2, refl)
  serves Remove look fares = served look fares.0.answers

  pub broken : (e : HighFault) → Answers m (removal_end old ≤ m.room (high_disk old)) (high_disk old) (high_disk new) (failed e) → Serves m 80 (high_disk old) (high_disk new) true
  broken e a = inr (record {
    counts = a.counts;
    rose = a.rose;
    never = λ plan off fits. a.never plan off (le_trans (short old) fits);
    always = a.always;
    room = a.room;
    disarmed = a.disarmed;
  })

-- ---- the calls of a look ----

module _ {D : Type 0} (m : Meaning D) (c : Parts D) (q : HighProcess) (store : HighStore D) (frame : Option Frame) where
  pub broken_serves : (task : Task) (faults : ℕ) → Fares m task c.high q c.high_store store (failed (Device faults)) → (task ≡ Refuse (Device faults) → ⊥) → Serves m 80 (high_disk c.high_store) (high_disk store) true
  broken_serves Keep faults fares never = absurd fares.0
  broken_serves Remove faults fares never = broken m c.high q c.high_store store (Device faults) fares.0.answers
  broken_serves (Refuse e) faults fares never = absurd (never (cc))

  pub refused_serves : (task : Task) (e : HighFault) → is_device e ≡ false → Fares m task c.high q c.high_store store (failed e) → Serves m 80 (high_disk c.high_store) (high_disk store) false
  refused_serves Keep e fine fares = absurd fares.0
  refused_serves Remove e fine fares = let no = ap is_device fares.0.fault in absurd (cc)
  refused_serves (Refuse f) e fine fares = inl (ap high_disk fares.2, refl)

  module _ (able : IsAble m c) (comes : (p : Past) → Stands m c p → (attaches : Bool) × (back : Option ℕ) × ComesBack c.row.id p.world attaches frame back) where
    -- whatever comes back, no crash leaves more removed than taken
    pub removes_behind : LeavesCounted m c.high c.high_store store frame → RemovesBehind m (high_disk c.high_store) (high_disk store) (recv_disk c.receiver)
    removes_behind leaves = λ told b left d image.
        ∥∥₁_elim (able.stands (m.images_tell told)) le_prop (λ s. (let back = comes s.0 s.1 in behind m c s.0 s.1 store back.0 frame back.1 back.2 leaves told b left d image))

-- after a look that went well
pub looked_serves : {D : Type 0} (m : Meaning D) (c : Parts D) (moment : ℕ) (q : HighProcess) (store : HighStore D) (ends : PlainEnds) (look : HighLook) (task : Task)
    → Fares m task c.high q c.high_store store (went look) → RemovesBehind m (high_disk c.high_store) (high_disk store) (recv_disk c.receiver)
    → (d : Parts D) → d ≡ looked_parts m c moment q store ends look.sent → DisksServe m c d (Ok tt)
looked_serves {D} m c moment q store ends look task fares behind d is =
    subst (λ (e : Parts D). DisksServe m c e (Ok tt)) (sym is) (record {
      low_goes = inl (refl, refl);
      high_goes = serves m c.high q c.high_store store task look fares;
      recv_goes = inl (refl, refl);
      behind = behind;
    })

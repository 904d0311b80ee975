-- The disks' calls in a carry: only the receiver's disk is called, and no crash leaves more removed than taken.
use Rattle.std.proofs.Common.{◌≡◌, inl, inr, ⊎_elim, ℕ, ◌+◌, ◌≤◌, Bool, true, false, List, [], ◌∷◌, ◌++◌, length, Result, Ok, Err, refl, sym, ap, subst, arith, length-append, IsOk, IsErr}
use Rattle.std.specs.Coded.{le_prop}
use Rattle.std.proofs.Math.Logic.{∥∥₁_elim}
use Rattle.std.proofs.Props.{props}
use Rattle.circular_buffer.specs.Buffer.{Buffer}
use Rattle.disk_model.specs.Disk.{Meaning, Each, Moves, Answers}
use Rattle.disk_model.specs.declared.name.Role.TheVariants as roles
use Rattle.disk_model.proofs.Run.{each_after, each_weaker}
use Rattle.pump_frame.specs.declared.row.SessionRow.{SessionRow}
use Rattle.stable_buffer.specs.Register.{value_of}
use Rattle.stable_buffer.specs.Stands.{low_size}
use Rattle.stable_buffer.specs.Log.{RecvStands}
use Rattle.stable_buffer.specs.High.{high_disk}
use Rattle.low_process.specs.Storing.{outcome}
use Rattle.high_receiver.specs.Steps.{MayTake}
use Rattle.high_receiver.specs.Receiving.{recv_count, recv_end, recv_row, recv_size, recv_disk}
use Rattle.high_receiver.specs.declared.receiver.Receiver.{Receiver}
use Rattle.high_receiver.specs.declared.values.Taken.{Taken}
use Rattle.high_receiver.specs.declared.values.Taken.TheVariants as answers
use Rattle.high_receiver.specs.declared.values.TakeFault.{TakeFault}
use Rattle.high_receiver.specs.declared.values.TakeFault.TheVariants as faults
use Rattle.script_reader.specs.Past.{Past}
use Rattle.script_reader.specs.Highs.{receiver_size}
use Rattle.two_worlds.specs.declared.applied.Stop.TheVariants.{Device, Full}
use Rattle.two_worlds.specs.declared.pump.parts.Parts.{Parts}
use Rattle.world_laws.specs.Disks.{RecvFits, HighFits, RemovesBehind}
use Rattle.two_worlds.specs.Private.Serving.{DisksServe}
use Rattle.two_worlds.specs.Rooms.{Serves}
use Rattle.two_worlds.specs.Standing.{Stands, StandsForSome, disk_at}
use Rattle.two_worlds.specs.Working.{IsAble}
use Rattle.two_worlds.proofs.Carry.Answered.{AnsweredWith, in_store, full, took, repeated}
use Rattle.two_worlds.proofs.Opening.Ready.{high_reading, recv_reading}

-- a receiver's disk has taken so many at least
abbrev pub HasTaken : ℕ → List ℕ → Type 0
HasTaken removed disk = removed ≤ (value_of disk).0

taken_by : (row : SessionRow) (removed : ℕ) (messages : List (List ℕ)) (disk : List ℕ) → removed ≤ length messages → RecvStands row messages disk → HasTaken removed disk
taken_by row removed messages disk le s = let v = ap (λ (v : ℕ × ℕ). v.0) s.value in omega (arith, le, v)

taken_more : (row : SessionRow) (removed : ℕ) (messages : List (List ℕ)) (message disk : List ℕ) → removed ≤ length messages → RecvStands row (messages ++ message ∷ []) disk → HasTaken removed disk
taken_more row removed messages message disk le s =
    let v = ap (λ (v : ℕ × ℕ). v.0) s.value in
    let l = length-append messages (message ∷ []) in
    omega (arith, le, v, l)

module _ {D : Type 0} (m : Meaning D) (c : Parts D) where
  -- the receiver's disk has what was removed
  pub recv_has : (p : Past) → Stands m c p → Each m (HasTaken p.world.removed) (recv_disk c.receiver)
  recv_has p s = each_weaker m (RecvFits c.row p.world) (HasTaken p.world.removed) (recv_disk c.receiver)
      (λ disk fit. taken_by c.row p.world.removed p.world.received disk s.sound.lawful.delivered.removed (recv_reading c.row p.world disk s.sound.rest.packet fit)) s.disks.recv_disk

  -- .. and after a taking too
  pub recv_has_after : (p : Past) (message : List ℕ) (new : D) → Stands m c p → Moves m (MayTake (recv_row c.receiver) message) (recv_disk c.receiver) new → Each m (HasTaken p.world.removed) new
  recv_has_after p message new s moves =
      each_after m (RecvFits c.row p.world) (HasTaken p.world.removed) (MayTake (recv_row c.receiver) message) (recv_disk c.receiver) new s.disks.recv_disk
      (λ old now fit may.
      let le = s.sound.lawful.delivered.removed in
      let row = recv_row c.receiver in
      let was : RecvStands row p.world.received old = subst (λ (r : SessionRow). RecvStands r p.world.received old) (sym s.recv_ready.row) (recv_reading c.row p.world old s.sound.rest.packet fit) in
      ⊎_elim (λ stays. taken_by row p.world.removed p.world.received now le stays) (λ more. taken_more row p.world.removed p.world.received message now le more) (may.either p.world.received was))
      moves

  -- the high disk has what was removed
  pub high_has : (p : Past) → Stands m c p → Each m (λ disk. (value_of disk).0 ≡ p.world.removed) (high_disk c.high_store)
  high_has p s = each_weaker m (HighFits c.row p.world) (λ disk. (value_of disk).0 ≡ p.world.removed) (high_disk c.high_store)
      (λ disk fit. ap (λ (v : ℕ × ℕ). v.0) (high_reading c.row p.world disk s.sound.rest.removing fit).value) s.disks.high_disk

  -- the high disk is left alone
  pub behind_alone : (recv : D) → (m.tells → ∥ StandsForSome m c ∥₁) → ((p : Past) → Stands m c p → Each m (HasTaken p.world.removed) recv)
      → RemovesBehind m (high_disk c.high_store) (high_disk c.high_store) recv
  behind_alone recv some has = λ told b since d image. ∥∥₁_elim (some (m.images_tell told)) le_prop (λ s.
      let high = (high_has s.0 s.1).images told b (m.only_now told (high_disk c.high_store) b since) in
      let taken = (has s.0 s.1).images told d image in
      omega (arith, high, taken))

-- no call of a disk
pub serves_alone : {D : Type 0} (m : Meaning D) (least : ℕ) (d : D) → Serves m least d d false
serves_alone m least d = inl (refl, refl)

-- a receiver's store answers as its disk's calls do
store_serves : {D : Type 0} (m : Meaning D) (fits : Type 0) (least : ℕ) (old new : D) (is_fault : Bool) (result : Result Taken TakeFault) → (least ≤ m.room old → fits)
    → (IsErr result → IsErr (outcome is_fault)) → (IsErr (outcome is_fault) → IsErr result) → (IsOk result → IsOk (outcome is_fault)) → Answers m fits old new result → Serves m least old new is_fault
store_serves m fits least old new is_fault result room there back ok a = inr (record {
  counts = a.counts;
  rose = λ e. a.rose (back e);
  never = λ plan unarmed has. ok (a.never plan unarmed (room has));
  always = λ plan armed. there (a.always plan armed);
  room = a.room;
  disarmed = a.disarmed;
})

module _ {D : Type 0} (m : Meaning D) (c : Parts D) (able : IsAble m c) (message : List ℕ) (n : ℕ) (new : Receiver D) where
  abbrev pub With : Result Taken TakeFault → Type 0
  With result = AnsweredWith m message n (recv_count c.receiver) (recv_end c.receiver) (recv_size c.receiver) c.receiver new result

  size_is : recv_size c.receiver ≡ receiver_size
  size_is = ∥∥₁_elim able.works (hlevel props) (λ s. s.recv_ready.size)

  roomy : recv_end c.receiver + 2 + length message ≤ recv_size c.receiver → receiver_size ≤ m.room (recv_disk c.receiver) → recv_end c.receiver + 2 + length message ≤ m.room (recv_disk c.receiver)
  roomy fits room = let e = size_is in omega (arith, fits, room, e)

  unchanged : new ≡ c.receiver → (p : Past) → Stands m c p → Each m (HasTaken p.world.removed) (recv_disk new)
  unchanged same p s = subst (λ (r : Receiver D). Each m (HasTaken p.world.removed) (recv_disk r)) (sym same) (recv_has m c p s)

  pub serves_ok : (t : Taken) (returned : Buffer ℕ) → With (Ok t) → DisksServe m c (record c { receiver = new; returned = returned }) (Ok tt)
  serves_ok answers.Took returned w =
      let a = took m message n (recv_count c.receiver) (recv_end c.receiver) (recv_size c.receiver) c.receiver new w in
      record {
        low_goes = serves_alone m (low_size c.row) (disk_at roles.Low c);
        high_goes = serves_alone m 80 (disk_at roles.High c);
        recv_goes = store_serves m (recv_end c.receiver + 2 + length message ≤ m.room (recv_disk c.receiver)) receiver_size (recv_disk c.receiver) (recv_disk new) false (Ok answers.Took) (roomy a.1) (λ e. e) (λ e. e) (λ e. e) a.2.answers;
        behind = behind_alone m c (recv_disk new) able.stands (λ p s. recv_has_after m c p message (recv_disk new) s a.2.moves);
      }
  serves_ok answers.Repeat returned w =
      let a = repeated m message n (recv_count c.receiver) (recv_end c.receiver) (recv_size c.receiver) c.receiver new w in
      record {
        low_goes = serves_alone m (low_size c.row) (disk_at roles.Low c);
        high_goes = serves_alone m 80 (disk_at roles.High c);
        recv_goes = inl (ap (λ (r : Receiver D). recv_disk r) a.1, refl);
        behind = behind_alone m c (recv_disk new) able.stands (unchanged a.1);
      }

  pub serves_device : (count : ℕ) → With (Err (faults.Device count)) → DisksServe m c (record c { receiver = new }) (Err (Device roles.Recv count))
  serves_device count w =
      let a = in_store m message n (recv_count c.receiver) (recv_end c.receiver) (recv_size c.receiver) c.receiver new count w in
      record {
        low_goes = serves_alone m (low_size c.row) (disk_at roles.Low c);
        high_goes = serves_alone m 80 (disk_at roles.High c);
        recv_goes = store_serves m (recv_end c.receiver + 2 + length message ≤ m.room (recv_disk c.receiver)) receiver_size (recv_disk c.receiver) (recv_disk new) true (Err (faults.Device count)) (roomy a.1) (λ e. e) (λ e. e) (λ e. e) a.2.answers;
        behind = behind_alone m c (recv_disk new) able.stands (λ p s. recv_has_after m c p message (recv_disk new) s a.2.moves);
      }

  pub serves_full : (end size_of_message size : ℕ) → With (Err (faults.LogFull end size_of_message size)) → DisksServe m c (record c { receiver = new }) (Err (Full end size_of_message size))
  serves_full end k size w =
      let a = full m message n (recv_count c.receiver) (recv_end c.receiver) (recv_size c.receiver) c.receiver new end k size w in
      record {
        low_goes = serves_alone m (low_size c.row) (disk_at roles.Low c);
        high_goes = serves_alone m 80 (disk_at roles.High c);
        recv_goes = inl (ap (λ (r : Receiver D). recv_disk r) a.same, refl);
        behind = behind_alone m c (recv_disk new) able.stands (unchanged a.same);
      }

-- a receiver that did nothing
pub serves_nothing : {D : Type 0} (m : Meaning D) (c : Parts D) (able : IsAble m c) (new : Receiver D) → new ≡ c.receiver → DisksServe m c (record c { receiver = new }) (Ok tt)
serves_nothing {D} m c able new same = record {
  low_goes = serves_alone m (low_size c.row) (disk_at roles.Low c);
  high_goes = serves_alone m 80 (disk_at roles.High c);
  recv_goes = inl (ap (λ (r : Receiver D). recv_disk r) same, refl);
  behind = behind_alone m c (recv_disk new) able.stands (λ p s. subst (λ (r : Receiver D). Each m (HasTaken p.world.removed) (recv_disk r)) (sym same) (recv_has m c p s));
}

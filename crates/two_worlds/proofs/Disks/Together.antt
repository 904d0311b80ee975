-- The calls of the disks over two parts of a line.
use Rattle.std.proofs.Common.{◌≡◌, inl, inr, ℕ, ◌≤◌, Bool, false, List, length, None, Result, Ok, Err, refl, sym, ap, ◌∙◌, subst, arith, le_trans}
use Rattle.std.specs.Coded.{le_prop}
use Rattle.std.specs.Result.{result_err}
use Rattle.std.proofs.Math.Logic.{∥∥₁_elim}
use Rattle.pump_frame.specs.Counts.{Rose}
use Rattle.disk_model.specs.Disk.{Meaning, Answers}
use Rattle.disk_model.specs.declared.name.Role.TheVariants as roles
use Rattle.pump_frame.specs.declared.row.SessionRow.{SessionRow}
use Rattle.stable_buffer.specs.Register.{value_of}
use Rattle.stable_buffer.specs.Stands.{low_size}
use Rattle.low_process.specs.Storing.{outcome}
use Rattle.pump_core.specs.World.{World}
use Rattle.script_reader.specs.Highs.{receiver_size}
use Rattle.two_worlds.specs.declared.applied.Stop.{Stop}
use Rattle.two_worlds.specs.declared.applied.Stop.TheVariants.{Line}
use Rattle.two_worlds.specs.declared.pump.parts.Parts.{Parts}
use Rattle.two_worlds.specs.Connections.{Connected}
use Rattle.world_laws.specs.Disks.{HighFits, RecvFits, RemovesBehind}
use Rattle.two_worlds.specs.Doing.{LeavesAlone}
use Rattle.two_worlds.specs.Private.Serving.{DisksServe}
use Rattle.two_worlds.specs.Rooms.{Serves, stops_at}
use Rattle.two_worlds.specs.Standing.{disk_at}
use Rattle.two_worlds.specs.Working.{IsAble}
use Rattle.two_worlds.proofs.Opening.Ready.{high_reading, recv_reading}

-- ---- two rows of calls ----

module _ {D : Type 0} (m : Meaning D) (least : ℕ) (old mid new : D) (is_fault : Bool) where
  rose_then : Rose (m.count mid) (m.count new) → m.count old ≤ m.count mid → Rose (m.count old) (m.count new)
  rose_then rose le = omega (arith, rose, le)

  answers_then : Answers m (least ≤ m.room old) old mid (outcome false) → Answers m (least ≤ m.room mid) mid new (outcome is_fault) → Answers m (least ≤ m.room old) old new (outcome is_fault)
  answers_then a b = record {
    counts = le_trans a.counts b.counts;
    rose = λ failed. rose_then (b.rose failed) a.counts;
    never = λ plan unarmed fits. b.never plan (a.disarmed plan) (subst (λ (n : ℕ). least ≤ n) (sym (a.room plan)) fits);
    always = λ plan armed. (let failed = a.always plan armed in absurd (cc));
    room = λ plan. b.room plan ∙ a.room plan;
    disarmed = b.disarmed;
  }

  pub serves_then : Serves m least old mid false → Serves m least mid new is_fault → Serves m least old new is_fault
  serves_then (inl (same, none)) (inl (same', none')) = inl (same' ∙ same, none')
  serves_then (inl (same, none)) (inr b) = inr (subst (λ (d : D). Answers m (least ≤ m.room d) d new (outcome is_fault)) same b)
  serves_then (inr a) (inl (same', none')) =
      inr (subst (λ (b : Bool). Answers m (least ≤ m.room old) old new (outcome b)) (sym none') (subst (λ (d : D). Answers m (least ≤ m.room old) old d (outcome false)) (sym same') a))
  serves_then (inr a) (inr b) = inr (answers_then a b)

-- the first part left the high disk alone
pub serve_then : {D : Type 0} (m : Meaning D) (c e d : Parts D) (result : Result (Unit {0}) Stop) → DisksServe m c e (Ok tt) → LeavesAlone roles.High c e → e.row ≡ c.row → DisksServe m e d result → DisksServe m c d result
serve_then {D} m c e d result first same row second = record {
  low_goes = serves_then m (low_size c.row) (disk_at roles.Low c) (disk_at roles.Low e) (disk_at roles.Low d) (stops_at roles.Low (result_err result)) first.low_goes
      (subst (λ (r : SessionRow). Serves m (low_size r) (disk_at roles.Low e) (disk_at roles.Low d) (stops_at roles.Low (result_err result))) row second.low_goes);
  high_goes = serves_then m 80 (disk_at roles.High c) (disk_at roles.High e) (disk_at roles.High d) (stops_at roles.High (result_err result)) first.high_goes second.high_goes;
  recv_goes = serves_then m receiver_size (disk_at roles.Recv c) (disk_at roles.Recv e) (disk_at roles.Recv d) (stops_at roles.Recv (result_err result)) first.recv_goes second.recv_goes;
  behind = subst (λ (h : D). RemovesBehind m h (disk_at roles.High d) (disk_at roles.Recv d)) same second.behind;
}

-- ---- no call ----

removed_at : (row : SessionRow) (w : World) (disk : List ℕ) → w.removing ≡ false → HighFits row w disk → (value_of disk).0 ≡ w.removed
removed_at row w disk none fit = ap (λ (v : ℕ × ℕ). v.0) (high_reading row w disk none fit).value

received_at : (row : SessionRow) (w : World) (disk : List ℕ) → w.packet ≡ None → RecvFits row w disk → (value_of disk).0 ≡ length w.received
received_at row w disk none fit = ap (λ (v : ℕ × ℕ). v.0) (recv_reading row w disk none fit).value

module _ {D : Type 0} (m : Meaning D) (c : Parts D) (able : IsAble m c) where
  pub still_behind : RemovesBehind m (disk_at roles.High c) (disk_at roles.High c) (disk_at roles.Recv c)
  still_behind = λ told b since d image. ∥∥₁_elim (able.stands (m.images_tell told)) le_prop (λ s.
      let high = removed_at c.row s.0.world b s.1.sound.rest.removing (s.1.disks.high_disk.images told b (m.only_now told (disk_at roles.High c) b since)) in
      let recv = received_at c.row s.0.world d s.1.sound.rest.packet (s.1.disks.recv_disk.images told d image) in
      let le = s.1.sound.lawful.delivered.removed in
      omega (arith, high, recv, le))

  -- a line that can't be applied calls no disk
  pub serve_none : (k : Connected) → DisksServe m c (record c { connection = k }) (Err Line)
  serve_none k = record { low_goes = inl (refl, refl); high_goes = inl (refl, refl); recv_goes = inl (refl, refl); behind = still_behind }

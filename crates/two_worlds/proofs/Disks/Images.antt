-- What crashes leave of the disks at any moment of a part of a line fits the world before or the one after.
use Rattle.std.proofs.Common.{◌≡◌, ◌⊎◌, inl, inr, ⊎_elim, ℕ, ◌+◌, ◌≤◌, Bool, false, List, [], ◌∷◌, ◌++◌, length, drop, Option, Some, None, refl, sym, ap, ◌∙◌, subst, arith, length-append}
use Rattle.std.specs.Prelude.{option_to_list}
use Rattle.disk_model.specs.Disk.{Meaning, Moves}
use Rattle.disk_model.specs.declared.name.Role.{Role}
use Rattle.disk_model.specs.declared.name.Role.TheVariants as roles
use Rattle.pump_frame.specs.declared.payload.Payload.{Payload}
use Rattle.pump_frame.specs.declared.row.SessionRow.{SessionRow}
use Rattle.stable_buffer.specs.Stands.{LowStands, HighStands, MayGain, MayRemove}
use Rattle.stable_buffer.specs.Log.{RecvStands}
use Rattle.stable_buffer.specs.Low.{low_disk, low_row}
use Rattle.stable_buffer.specs.High.{high_disk}
use Rattle.stable_buffer.specs.declared.high.HighStore.{HighStore}
use Rattle.high_receiver.specs.Receiving.{recv_disk}
use Rattle.pump_core.specs.History.{Arrival}
use Rattle.pump_core.specs.World.{World}
use Rattle.pump_core.proofs.Bounded.{place}
use Rattle.low_process.specs.Looks as low
use Rattle.low_process.specs.Storing.{StoreStep, Storing, message_in}
use Rattle.low_process.specs.declared.values.LowLook.{LowLook}
use Rattle.script_reader.specs.Past.{Past}
use Rattle.two_worlds.specs.declared.pump.parts.Parts.{Parts}
use Rattle.world_laws.specs.Disks.{live_messages, LowFits, HighFits, RecvFits}
use Rattle.two_worlds.specs.Doing.{LeavesOn, LowFitsAfter, PartsLeaveFit, PartsFail}
use Rattle.two_worlds.specs.Standing.{Stands, disk_at, number_of}
use Rattle.two_worlds.proofs.Low.Disks.{live_push}
use Rattle.two_worlds.proofs.Low.Grows.{Grows}
use Rattle.two_worlds.proofs.Low.Looked.{Looked}
use Rattle.two_worlds.proofs.Low.Wants.{taking, hand_is_empty}
use Rattle.two_worlds.proofs.Disks.Leaving.{leaves_alone, leaves_by_step, leaves_weaker}
use Rattle.two_worlds.proofs.Disks.OpensSurely.{one_received}
use Rattle.two_worlds.proofs.Opening.Ready.{low_reading, high_reading, recv_reading}

module _ {D : Type 0} (m : Meaning D) (c : Parts D) (p : Past) (stands : Stands m c p) where
  pub low_alone : (Q : List ℕ → Type 0) (new : D) → new ≡ disk_at roles.Low c → LeavesOn m (disk_at roles.Low c) new (λ x. LowFits c.row p.world x ⊎ Q x)
  low_alone Q new same = leaves_alone m (λ x. LowFits c.row p.world x ⊎ Q x) (disk_at roles.Low c) new same

  pub high_alone : (Q : List ℕ → Type 0) (new : D) → new ≡ disk_at roles.High c → LeavesOn m (disk_at roles.High c) new (λ x. HighFits c.row p.world x ⊎ Q x)
  high_alone Q new same = leaves_alone m (λ x. HighFits c.row p.world x ⊎ Q x) (disk_at roles.High c) new same

  pub recv_alone : (Q : List ℕ → Type 0) (new : D) → new ≡ disk_at roles.Recv c → LeavesOn m (disk_at roles.Recv c) new (λ x. RecvFits c.row p.world x ⊎ Q x)
  recv_alone Q new same = leaves_alone m (λ x. RecvFits c.row p.world x ⊎ Q x) (disk_at roles.Recv c) new same

  -- no call was made
  pub all_alone : (d : Parts D) (q : Past) → disk_at roles.Low d ≡ disk_at roles.Low c → disk_at roles.High d ≡ disk_at roles.High c → disk_at roles.Recv d ≡ disk_at roles.Recv c → PartsLeaveFit m c d p q
  all_alone d q low high recv = record {
    low = low_alone (LowFitsAfter c.row p q) (disk_at roles.Low d) low;
    high = high_alone (HighFits c.row q.world) (disk_at roles.High d) high;
    recv = recv_alone (RecvFits c.row q.world) (disk_at roles.Recv d) recv;
  }

  -- a high look
  pub high_leaves : (Q : List ℕ → Type 0) (store : HighStore D) → Moves m MayRemove (high_disk c.high_store) (high_disk store)
      → ((x : List ℕ) → HighStands c.row (p.world.removed + 1) x → Q x) → LeavesOn m (high_disk c.high_store) (high_disk store) (λ x. HighFits c.row p.world x ⊎ Q x)
  high_leaves Q store moves more = leaves_by_step m (HighFits c.row p.world) (λ x. HighFits c.row p.world x ⊎ Q x) MayRemove (high_disk c.high_store) (high_disk store) stands.disks.high_disk
      (λ x y fit may. ⊎_elim (λ is. inl (inl is)) (λ is. inr (more y is)) (may.either c.row p.world.removed (high_reading c.row p.world x stands.sound.rest.removing fit)))
      moves

-- ---- a low look ----

-- the world after it has the message too
grown : (row : SessionRow) (w v : World) (o : Option Payload) (message : Payload) (x : List ℕ) → w.removed ≤ length w.accepted → Grows w v (option_to_list o) → o ≡ Some message
    → LowStands row (length w.accepted + 1) w.removed (live_messages w ++ message ∷ []) x → LowStands row (length v.accepted) v.removed (live_messages v) x
grown row w v o message x below grows is stands =
    let accepted : v.accepted ≡ w.accepted ++ message ∷ [] = grows.accepted ∙ ap (λ (t : Option Payload). w.accepted ++ option_to_list t) is in
    let count : length w.accepted + 1 ≡ length v.accepted = omega (arith, ap length accepted, length-append w.accepted (message ∷ [])) in
    let list : live_messages w ++ message ∷ [] ≡ live_messages v = sym (live_push w message below) ∙ (λ i. drop (sym grows.removed i) (sym accepted i)) in
    subst (λ (t : ℕ × ℕ × List (List ℕ)). LowStands row t.0 t.1 t.2 x) (λ i. (count i, sym grows.removed i, list i)) stands

module _ {D : Type 0} (m : Meaning D) (c d : Parts D) (p : Past) (moment word : ℕ) (a : Arrival) (is_fault : Bool) (l : LowLook) (did : Looked m c d moment word a is_fault l) (stands : Stands m c p) where
  store_row_is : low_row c.low_store ≡ c.row
  store_row_is = stands.low_ready.store.row ∙ stands.low_ready.row

  free : (message : Payload) → message_in c.low a ≡ Some message → low.next_of c.low + 1 ≤ p.world.removed + (low_row c.low_store).capacity
  free message e =
      let none = hand_is_empty c.low a message (taking c.low a message e) in
      let b = stands.sound.lawful.bounded in
      let low : p.world.low_hand ≡ None = stands.world.low_hand ∙ ap number_of none in
      let has = (place p.world b low).place in
      let same : (low_row c.low_store).capacity ≡ c.row.capacity = ap (λ (r : SessionRow). r.capacity) store_row_is in
      omega (arith, has, b.size, b.within.below, stands.world.capacity, stands.world.accepted, same)

  module _ (Q : List ℕ → Type 0) where
    -- where it stores this message
    Stored : Payload → Type 0
    Stored message = (x : List ℕ) → LowStands c.row (length p.world.accepted + 1) p.world.removed (live_messages p.world ++ message ∷ []) x → Q x

    stored_leaves : (message : Payload) → message_in c.low a ≡ Some message → Storing m message c.low_store d.low_store is_fault → Stored message
        → LeavesOn m (low_disk c.low_store) (low_disk d.low_store) (λ x. LowFits c.row p.world x ⊎ Q x)
    unfolding Stored
    stored_leaves message e s more = leaves_by_step m (LowFits c.row p.world) (λ x. LowFits c.row p.world x ⊎ Q x) (MayGain (low_row c.low_store) message) (low_disk c.low_store) (low_disk d.low_store) stands.disks.low_disk
        (λ x y fit may.
        let was = low_reading c.row p.world x stands.sound.rest.storing fit in
        let room = free message e in
        ⊎_elim
        (λ is. inl (inl (subst (λ (r : SessionRow). LowStands r (length p.world.accepted) p.world.removed (live_messages p.world) y) store_row_is is)))
        (λ is. inr (more y (subst (λ (r : SessionRow). LowStands r (length p.world.accepted + 1) p.world.removed (live_messages p.world ++ message ∷ []) y) store_row_is is)))
        (may.either (length p.world.accepted) p.world.removed (live_messages p.world) (omega (arith, room, stands.world.accepted))
        (subst (λ (r : SessionRow). LowStands r (length p.world.accepted) p.world.removed (live_messages p.world) x) (sym store_row_is) was)))
        s.moves

    leaves_by : (message : Option Payload) → message_in c.low a ≡ message → StoreStep m message c.low_store d.low_store is_fault
        → ((t : Payload) → message_in c.low a ≡ Some t → Stored t) → LeavesOn m (low_disk c.low_store) (low_disk d.low_store) (λ x. LowFits c.row p.world x ⊎ Q x)
    leaves_by None e s more = low_alone m c p stands Q (low_disk d.low_store) (ap low_disk s.1)
    leaves_by (Some message) e s more = stored_leaves message e s (more message e)

  high_same : high_disk d.high_store ≡ high_disk c.high_store
  high_same = ap (λ (t : Parts D). high_disk t.high_store) did.rest

  recv_same : recv_disk d.receiver ≡ recv_disk c.receiver
  recv_same = ap (λ (t : Parts D). recv_disk t.receiver) did.rest

  -- it went well
  pub grown_fits : (q : Past) → Grows p.world q.world (option_to_list (message_in c.low a)) → PartsLeaveFit m c d p q
  unfolding Stored
  grown_fits q grows = record {
    low = leaves_by (LowFitsAfter c.row p q) (message_in c.low a) refl did.step.keeps
        (λ message e x is. (grows.removed, inl (grown c.row p.world q.world (message_in c.low a) message x stands.sound.lawful.bounded.within.below grows e is)));
    high = high_alone m c p stands (HighFits c.row q.world) (high_disk d.high_store) high_same;
    recv = recv_alone m c p stands (RecvFits c.row q.world) (recv_disk d.receiver) recv_same;
  }

  -- the device failed in the store of a message
  pub lost_fits : (q : Past) (message stored : Payload) → message_in c.low a ≡ Some message → message ≡ stored → q.world ≡ record p.world { storing = Some stored } → PartsLeaveFit m c d p q
  unfolding Stored
  lost_fits q message stored e same world = record {
    low = leaves_by (LowFitsAfter c.row p q) (message_in c.low a) refl did.step.keeps
        (λ t f x is.
        let one : t ≡ stored = some_same t message (sym f ∙ e) ∙ same in (
          ap (λ (w : World). w.removed) world,
          subst (λ (w : World). LowFits c.row w x) (sym world)
              (inr (stored, refl, subst (λ (u : Payload). LowStands c.row (length p.world.accepted + 1) p.world.removed (live_messages p.world ++ u ∷ []) x) one is)),
        ));
    high = high_alone m c p stands (HighFits c.row q.world) (high_disk d.high_store) high_same;
    recv = recv_alone m c p stands (RecvFits c.row q.world) (recv_disk d.receiver) recv_same;
  } where
    some_same : (t u : Payload) → Some t ≡ Some u → t ≡ u
    some_same t u e = cc

-- ---- two parts of a line ----

-- one disk that fits two worlds
high_onto : (row : SessionRow) (w v : World) (r x : List ℕ) → w.removing ≡ false → HighFits row w r → HighFits row v r → HighFits row w x → HighFits row v x
high_onto row w v r x idle is (inl other) fits =
    let a = high_reading row w r idle is in
    let b = high_reading row w x idle fits in
    let same : w.removed ≡ v.removed = ap (λ (t : ℕ × ℕ). t.0) (sym a.value ∙ other.value) in
    inl (subst (λ n. HighStands row n x) same b)
high_onto row w v r x idle is (inr (e, other)) fits =
    let a = high_reading row w r idle is in
    let b = high_reading row w x idle fits in
    let same : w.removed ≡ v.removed + 1 = ap (λ (t : ℕ × ℕ). t.0) (sym a.value ∙ other.value) in
    inr (e, subst (λ n. HighStands row n x) same b)

recv_onto : (row : SessionRow) (w v : World) (r x : List ℕ) → w.packet ≡ None → RecvFits row w r → RecvFits row v r → RecvFits row w x → RecvFits row v x
recv_onto row w v r x idle is (inl other) fits =
    let same = one_received row w.received v.received r (recv_reading row w r idle is) other in
    inl (subst (λ (l : List Payload). RecvStands row l x) same (recv_reading row w x idle fits))
recv_onto row w v r x idle is (inr (p, e, t, other)) fits =
    let same = one_received row w.received (v.received ++ p ∷ []) r (recv_reading row w r idle is) other in
    inr (p, e, t, subst (λ (l : List Payload). RecvStands row l x) same (recv_reading row w x idle fits))

-- the disks of a past that the parts stand for, or came to when a disk failed
pub record Reads {D : Type 0} (m : Meaning D) (d : Parts D) (q : Past) : Type 0 where
  pub high : m.tells → HighFits d.row q.world (m.reading (disk_at roles.High d))
  pub recv : m.tells → RecvFits d.row q.world (m.reading (disk_at roles.Recv d))

pub stands_reads : {D : Type 0} (m : Meaning D) (d : Parts D) (q : Past) → Stands m d q → Reads m d q
stands_reads m d q s = record { high = s.disks.high_disk.reading; recv = s.disks.recv_disk.reading }

pub fails_reads : {D : Type 0} (m : Meaning D) (d : Parts D) (q : Past) (role : Role) (faults : ℕ) → PartsFail m d q role faults → Reads m d q
fails_reads m d q role faults f = record { high = f.1.disks.high_disk.reading; recv = f.1.disks.recv_disk.reading }

module _ {D : Type 0} (m : Meaning D) (c e d : Parts D) (p mid q : Past) (stands : Stands m c p) (stands_mid : Stands m e mid) (row : e.row ≡ c.row) where
  -- what fits in the middle, fits before where the disk was left alone until then
  high_before : disk_at roles.High e ≡ disk_at roles.High c → m.tells → (x : List ℕ) → HighFits e.row mid.world x → HighFits c.row p.world x
  high_before same told x fits =
      let was : HighFits e.row p.world (m.reading (disk_at roles.High e)) = subst (λ (t : SessionRow × D). HighFits t.0 p.world (m.reading t.1)) (λ i. (sym row i, sym same i)) (stands.disks.high_disk.reading told) in
      subst (λ (r : SessionRow). HighFits r p.world x) row (high_onto e.row mid.world p.world (m.reading (disk_at roles.High e)) x stands_mid.sound.rest.removing (stands_mid.disks.high_disk.reading told) was fits)

  recv_before : disk_at roles.Recv e ≡ disk_at roles.Recv c → m.tells → (x : List ℕ) → RecvFits e.row mid.world x → RecvFits c.row p.world x
  recv_before same told x fits =
      let was : RecvFits e.row p.world (m.reading (disk_at roles.Recv e)) = subst (λ (t : SessionRow × D). RecvFits t.0 p.world (m.reading t.1)) (λ i. (sym row i, sym same i)) (stands.disks.recv_disk.reading told) in
      subst (λ (r : SessionRow). RecvFits r p.world x) row (recv_onto e.row mid.world p.world (m.reading (disk_at roles.Recv e)) x stands_mid.sound.rest.packet (stands_mid.disks.recv_disk.reading told) was fits)

  -- .. and after where it is left alone from then on
  recv_after : disk_at roles.Recv d ≡ disk_at roles.Recv e → d.row ≡ e.row → Reads m d q → m.tells → (x : List ℕ) → RecvFits c.row mid.world x → RecvFits c.row q.world x
  recv_after same row' reads told x fits =
      let is : RecvFits c.row q.world (m.reading (disk_at roles.Recv e)) = subst (λ (t : SessionRow × D). RecvFits t.0 q.world (m.reading t.1)) (λ i. ((row' ∙ row) i, same i)) (reads.recv told) in
      recv_onto c.row mid.world q.world (m.reading (disk_at roles.Recv e)) x stands_mid.sound.rest.packet (subst (λ (r : SessionRow). RecvFits r mid.world (m.reading (disk_at roles.Recv e))) row (stands_mid.disks.recv_disk.reading told)) is fits

  -- the high disk was called after the middle alone
  high_later : disk_at roles.High e ≡ disk_at roles.High c → PartsLeaveFit m e d mid q → LeavesOn m (disk_at roles.High c) (disk_at roles.High d) (λ x. HighFits c.row p.world x ⊎ HighFits c.row q.world x)
  high_later high fits = leaves_weaker m (λ x. HighFits e.row mid.world x ⊎ HighFits e.row q.world x) (λ x. HighFits c.row p.world x ⊎ HighFits c.row q.world x) (disk_at roles.High c) (disk_at roles.High d)
      (λ told x. ⊎_elim
      (λ is. inl (high_before high (m.images_tell told) x is))
      (λ is. inr (subst (λ (r : SessionRow). HighFits r q.world x) row is)))
      (subst (λ (h : D). LeavesOn m h (disk_at roles.High d) (λ x. HighFits e.row mid.world x ⊎ HighFits e.row q.world x)) high fits.high)

  -- the first part called no disk, and the second not the low one
  pub later_fits : disk_at roles.Low d ≡ disk_at roles.Low c → disk_at roles.High e ≡ disk_at roles.High c → disk_at roles.Recv e ≡ disk_at roles.Recv c → PartsLeaveFit m e d mid q → PartsLeaveFit m c d p q
  later_fits low high recv fits = record {
    low = low_alone m c p stands (LowFitsAfter c.row p q) (disk_at roles.Low d) low;
    high = high_later high fits;
    recv = leaves_weaker m (λ x. RecvFits e.row mid.world x ⊎ RecvFits e.row q.world x) (λ x. RecvFits c.row p.world x ⊎ RecvFits c.row q.world x) (disk_at roles.Recv c) (disk_at roles.Recv d)
        (λ told x. ⊎_elim
        (λ is. inl (recv_before recv (m.images_tell told) x is))
        (λ is. inr (subst (λ (r : SessionRow). RecvFits r q.world x) row is)))
        (subst (λ (h : D). LeavesOn m h (disk_at roles.Recv d) (λ x. RecvFits e.row mid.world x ⊎ RecvFits e.row q.world x)) recv fits.recv);
  }

  -- the first part called the receiver's disk alone, and the second the high one alone
  pub both_fit : disk_at roles.Low d ≡ disk_at roles.Low c → disk_at roles.High e ≡ disk_at roles.High c → disk_at roles.Recv d ≡ disk_at roles.Recv e → d.row ≡ e.row → Reads m d q
      → PartsLeaveFit m c e p mid → PartsLeaveFit m e d mid q → PartsLeaveFit m c d p q
  both_fit low high recv row' reads first second = record {
    low = low_alone m c p stands (LowFitsAfter c.row p q) (disk_at roles.Low d) low;
    high = high_later high second;
    recv = leaves_weaker m (λ x. RecvFits c.row p.world x ⊎ RecvFits c.row mid.world x) (λ x. RecvFits c.row p.world x ⊎ RecvFits c.row q.world x) (disk_at roles.Recv c) (disk_at roles.Recv d)
        (λ told x. ⊎_elim
        (λ is. inl is)
        (λ is. inr (recv_after recv row' reads (m.images_tell told) x is)))
        (subst (λ (h : D). LeavesOn m (disk_at roles.Recv c) h (λ x. RecvFits c.row p.world x ⊎ RecvFits c.row mid.world x)) (sym recv) first.recv);
  }

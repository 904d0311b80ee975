-- What a high look leaves of the three disks.
use Rattle.std.proofs.Common.{◌≡◌, ◌⊎◌, inl, inr, ⊎_elim, Bool, true, false, ℕ, ◌+◌, ◌≤◌, ◌<◌, List, [], ◌∷◌, length, drop, Option, Some, None, Result, Ok, Err, refl, sym, ap, ◌∙◌, subst, arith, length-drop, suc}
use Rattle.std.specs.Prelude.{slice_index_or}
use Rattle.disk_model.specs.Disk.{Meaning, Each}
use Rattle.pump_frame.specs.declared.frame.Frame.{Frame}
use Rattle.pump_frame.specs.declared.row.SessionRow.{SessionRow}
use Rattle.stable_buffer.specs.Register.{value_of}
use Rattle.stable_buffer.specs.Stands.{InSlot, LowStands, HighStands}
use Rattle.stable_buffer.specs.Low.{low_disk}
use Rattle.stable_buffer.specs.High.{IsHighReady, high_disk}
use Rattle.stable_buffer.specs.declared.high.HighStore.{HighStore}
use Rattle.high_receiver.specs.Receiving.{recv_disk}
use Rattle.pump_core.specs.World.{World}
use Rattle.pump_core.proofs.Bounded.{in_hand}
use Rattle.pump_core.proofs.Lists.{All-at}
use Rattle.high_process.specs.States as high
use Rattle.high_process.specs.Storing.{Removing, GivenBack, StandsOrRemoved, LeavesCounted}
use Rattle.high_process.specs.declared.values.HighFault.{HighFault}
use Rattle.high_process.specs.declared.values.HighLook.{HighLook}
use Rattle.script_reader.specs.Past.{Past}
use Rattle.world_laws.specs.Disks.{LowFits, HighFits, RecvFits, DisksFit, RemovesBehind, live_messages}
use Rattle.two_worlds.specs.Standing.{Stands, number_of}
use Rattle.two_worlds.specs.Private.HighLooks.{ComesBack}
use Rattle.two_worlds.specs.declared.pump.parts.Parts.{Parts}
use Rattle.two_worlds.proofs.High.Removals.{TakesHand, with_begun, without_first}
use Rattle.world_laws.proofs.Packets.{drop_one}
use Rattle.two_worlds.proofs.Opening.Ready.{high_reading, recv_reading}

-- the two answers of a look
abbrev pub went : HighLook → Result HighLook HighFault
went look = Ok look

abbrev pub failed : HighFault → Result HighLook HighFault
failed e = Err e

-- ---- one message less is live ----

abbrev messages_from : World → ℕ → List (List ℕ)
messages_from w n = drop n w.accepted

forgets : (row : SessionRow) (E b : ℕ) (messages : List (List ℕ)) (disk : List ℕ) → 0 < length messages → LowStands row E b messages disk → LowStands row E (b + 1) (drop 1 messages) disk
forgets row E b [] disk some stands = absurd (omega (arith, some))
forgets row E b (x ∷ messages) disk some stands = record {
  header = stands.header;
  size = stands.size;
  value = stands.value;
  kept = omega (arith, stands.kept);
  count = omega (arith, stands.count);
  slots = λ i less.
      let e : b + suc i ≡ b + 1 + i = omega arith in
      subst (λ n. InSlot row n (slice_index_or messages i []) disk) e (stands.slots (suc i) (omega (arith, less)));
}

low_forgets : (row : SessionRow) (w : World) (disk : List ℕ) → w.storing ≡ None → w.removed < length w.accepted → LowFits row w disk → LowFits row (without_first w) disk
low_forgets row w disk none less (inl stands) =
    let next : suc w.removed ≡ w.removed + 1 = omega arith in
    let e : drop 1 (live_messages w) ≡ drop (w.removed + 1) w.accepted = drop_one w.removed w.accepted ∙ ap (λ n. messages_from w n) next in
    inl (subst (λ l. LowStands row (length w.accepted) (w.removed + 1) l disk) e (forgets row (length w.accepted) w.removed (live_messages w) disk (omega (arith, less, length-drop w.removed w.accepted)) stands))
low_forgets row w disk none less (inr x) = let e = x.1 in absurd (cc)

recv_value : (row : SessionRow) (w : World) (disk : List ℕ) → w.packet ≡ None → RecvFits row w disk → (value_of disk).0 ≡ length w.received
recv_value row w disk none fits = ap (λ (v : ℕ × ℕ). v.0) (recv_reading row w disk none fits).value

each_more : {D : Type 0} (m : Meaning D) (P Q : List ℕ → Type 0) (d : D) → ((disk : List ℕ) → P disk → Q disk) → Each m P d → Each m Q d
each_more m P Q d f e = record { reading = λ told. f (m.reading d) (e.reading told); images = λ told c image. f c (e.images told c image) }

-- ---- a removal ----

module _ {D : Type 0} (m : Meaning D) (c : Parts D) (p : Past) (stands : Stands m c p) (store : HighStore D) where
  abbrev w : World
  w = p.world

  was : Each m (HighStands c.row w.removed) (high_disk c.high_store)
  was = each_more m (HighFits c.row w) (HighStands c.row w.removed) (high_disk c.high_store) (λ d. high_reading c.row w d stands.sound.rest.removing) stands.disks.high_disk

  -- it is done
  pub removed_disks : (look : HighLook) (k : ℕ) → TakesHand c p k → IsHighReady m store → Removing m c.high_store store (went look)
      → DisksFit m c.row (low_disk c.low_store) (high_disk store) (recv_disk c.receiver) (without_first w)
  removed_disks look k takes ready removing =
      let reads : m.tells → HighFits c.row (without_first w) (m.reading (high_disk store)) = λ told. inl ((removing.removed told).more c.row w.removed (was.reading told)) in
      let less : w.removed < length w.accepted = (in_hand w takes.item.number stands.sound.lawful.bounded (stands.world.high_hand ∙ ap number_of takes.hand)).1 in
      record {
        low_disk = each_more m (LowFits c.row w) (LowFits c.row (without_first w)) (low_disk c.low_store) (λ d. low_forgets c.row w d stands.sound.rest.storing less) stands.disks.low_disk;
        high_disk = record {
          reading = reads;
          images = λ told d image. subst (HighFits c.row (without_first w)) (sym (ready.settled told d image)) (reads (m.images_tell told));
        };
        recv_disk = stands.disks.recv_disk;
      }

  may_remove : (d : List ℕ) → (HighStands c.row w.removed d ⊎ HighStands c.row (w.removed + 1) d) → HighFits c.row (with_begun w) d
  may_remove d either = ⊎_elim (λ is. inl is) (λ is. inr (refl, is)) either

  -- it failed
  pub broken_disks : (e : HighFault) → Removing m c.high_store store (failed e)
      → DisksFit m c.row (low_disk c.low_store) (high_disk store) (recv_disk c.receiver) (with_begun w)
  broken_disks e removing = record {
    low_disk = stands.disks.low_disk;
    high_disk = record {
      reading = λ told. may_remove (m.reading (high_disk store)) ((removing.moves.reads told).either c.row w.removed (was.reading told));
      images = λ told d image. (let from = removing.moves.now told d image in may_remove d (from.2.either c.row w.removed (was.images told from.0 from.1)));
    };
    recv_disk = stands.disks.recv_disk;
  }

  -- ---- no more is removed than taken ----

  given_below : (attaches : Bool) (frame : Option Frame) (back : Option ℕ) (session : ℕ) → ComesBack c.row.id w attaches frame back → GivenBack session (high.removed_of c.high) frame → high.removed_of c.high + 1 ≤ length w.received
  given_below attaches None back session comes given = absurd given
  given_below true (Some f) back session comes given =
      let count = comes.2 in
      ⊎_elim (λ t. (let a = t.0 in let b = comes.0 in absurd (cc))) (λ t. omega (arith, count, t.1)) given.1
  given_below false (Some f) None session comes given = absurd comes
  given_below false (Some f) (Some k) session comes given =
      let below : f.number < length w.received = All-at (λ n. n < length w.received) w.returned k f.number stands.sound.lawful.delivered.returned comes.2 in
      ⊎_elim (λ t. omega (arith, below, t.1)) (λ t. (let a = t.0 in let b = comes.0 in absurd (cc))) given.1

  high_below : (attaches : Bool) (frame : Option Frame) (back : Option ℕ) (session : ℕ) (disk : List ℕ) → ComesBack c.row.id w attaches frame back
      → StandsOrRemoved c.row session (high.removed_of c.high) frame disk → (value_of disk).0 ≤ length w.received
  high_below attaches frame back session disk comes (inl is) = omega (arith, ap (λ (v : ℕ × ℕ). v.0) is.value, stands.world.removed, stands.sound.lawful.delivered.removed)
  high_below attaches frame back session disk comes (inr (given, is)) = omega (arith, given_below attaches frame back session comes given, ap (λ (v : ℕ × ℕ). v.0) is.value)

  pub behind : (attaches : Bool) (frame : Option Frame) (back : Option ℕ) → ComesBack c.row.id w attaches frame back → LeavesCounted m c.high c.high_store store frame
      → RemovesBehind m (high_disk c.high_store) (high_disk store) (recv_disk c.receiver)
  behind attaches frame back comes leaves = λ told b left d image.
      let reads : m.tells → HighStands c.row (high.removed_of c.high) (m.reading (high_disk c.high_store)) = λ t. subst (λ n. HighStands c.row n (m.reading (high_disk c.high_store))) stands.world.removed (was.reading t) in
      let low = high_below attaches frame back (high.row_of c.high).id b comes (leaves c.row reads told b left) in
      let high = recv_value c.row w d stands.sound.rest.packet (stands.disks.recv_disk.images told d image) in
      omega (arith, low, high)

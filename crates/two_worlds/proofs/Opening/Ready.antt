-- The stores and the receiver of parts that work are ready.
use Rattle.std.proofs.Common.{◌≡◌, inl, inr, ℕ, ◌≤◌, false, true, List, [], length, Option, Some, None, refl, sym, ap, ◌∙◌, subst, arith}
use Rattle.std.proofs.Math.Logic.{∥∥₁_elim, ∥∥₁_map}
use Rattle.std.proofs.Props.{props}
use Rattle.std.specs.Coded.{le_prop}
use Rattle.disk_model.specs.Disk.{Meaning}
use Rattle.pump_frame.specs.declared.row.SessionRow.{SessionRow}
use Rattle.stable_buffer.specs.Register.{value_of}
use Rattle.stable_buffer.specs.Stands.{LowStands, HighStands}
use Rattle.stable_buffer.specs.Low.{IsLowReady, StandsForCount, low_disk}
use Rattle.stable_buffer.specs.High.{IsHighReady, high_count, high_disk}
use Rattle.stable_buffer.specs.Log.{RecvStands, is_log, log_of}
use Rattle.stable_buffer.proofs.Logs.{found, finds}
use Rattle.high_receiver.specs.Receiving.{IsRecvReady, StandsForSome as DiskStandsForSome}
use Rattle.low_process.specs.Whole.{IsStoreOf}
use Rattle.high_process.specs.States as high
use Rattle.std.specs.Prelude.{is_some}
use Rattle.pump_core.specs.World.{World}
use Rattle.world_laws.specs.Disks.{LowFits, HighFits, RecvFits, live_messages}
use Rattle.two_worlds.specs.declared.pump.parts.Parts.{Parts}
use Rattle.two_worlds.specs.Working.{IsAble}
use Rattle.two_worlds.proofs.Opening.Headers.{header_is, high_stands_is}

-- ---- what a disk stands for at rest ----

pub low_reading : (row : SessionRow) (w : World) (disk : List ℕ) → w.storing ≡ None → LowFits row w disk
    → LowStands row (length w.accepted) w.removed (live_messages w) disk
low_reading row w disk none (inl is) = is
low_reading row w disk none (inr x) = let e = x.1 in absurd (cc)

pub high_reading : (row : SessionRow) (w : World) (disk : List ℕ) → w.removing ≡ false → HighFits row w disk → HighStands row w.removed disk
high_reading row w disk none (inl is) = is
high_reading row w disk none (inr x) = let e = x.0 in absurd (cc)

pub recv_reading : (row : SessionRow) (w : World) (disk : List ℕ) → w.packet ≡ None → RecvFits row w disk → RecvStands row w.received disk
recv_reading row w disk none (inl is) = is
recv_reading row w disk none (inr x) = let e = x.1 in absurd (cc)

-- ---- a disk that stands for something, whatever it is ----

-- the end of a disk's records, by the disk
end_is : (row : SessionRow) (messages : List (List ℕ)) (disk : List ℕ) (s : RecvStands row messages disk) → s.end ≡ (value_of disk).1
end_is row messages disk s = ap (λ (v : ℕ × ℕ). v.1) (sym s.value)

-- the records that a disk's register counts fill its log
fills : (row : SessionRow) (messages : List (List ℕ)) (disk : List ℕ) → RecvStands row messages disk → is_log row.message (value_of disk).0 (log_of (value_of disk).1 disk) ≡ true
fills row messages disk s =
    subst (λ (v : ℕ × ℕ). is_log row.message v.0 (log_of v.1 disk) ≡ true) (sym s.value) (finds row.message messages (log_of s.end disk) s.records)

-- a disk that stands for some messages tells them
pub disk_stands : (row : SessionRow) (disk : List ℕ) → ∥ DiskStandsForSome row disk ∥₁ → DiskStandsForSome row disk
disk_stands row disk some =
    let v = value_of disk in
    let log = found row.message v.0 (log_of v.1 disk) (∥∥₁_elim some (hlevel props) (λ s. fills row s.0 disk s.1)) in (
      log.0,
      record {
        header = header_is row _ _ (∥∥₁_map some (λ s. s.1.header));
        end = v.1;
        from = ∥∥₁_elim some le_prop (λ s. subst (λ (n : ℕ). 80 ≤ n) (end_is row s.0 disk s.1) s.1.from);
        within = ∥∥₁_elim some le_prop (λ s. subst (λ (n : ℕ). n ≤ length disk) (end_is row s.0 disk s.1) s.1.within);
        value = ap (λ (n : ℕ). (n, v.1)) (sym log.1);
        records = log.2;
      },
    )

none_by : {X : Type 0} (o : Option X) → is_some o ≡ false → o ≡ None
none_by None e = refl
none_by (Some x) e = absurd (cc)

module _ {D : Type 0} (m : Meaning D) (c : Parts D) (able : IsAble m c) where
  pub recv_is_ready : IsRecvReady m c.receiver
  recv_is_ready = record {
    is_open = ∥∥₁_elim able.works (hlevel props) (λ s. s.recv_ready.ready.is_open);
    ready = record {
      is_open = ∥∥₁_elim able.works (hlevel props) (λ s. s.recv_ready.ready.ready.is_open);
      parity = ∥∥₁_elim able.works le_prop (λ s. s.recv_ready.ready.ready.parity);
      each = ∥∥₁_elim able.works (hlevel props) (λ s. s.recv_ready.ready.ready.each);
    };
    lawful = ∥∥₁_elim able.works (hlevel props) (λ s. s.recv_ready.ready.lawful);
    short = ∥∥₁_elim able.works le_prop (λ s. s.recv_ready.ready.short);
    count = ∥∥₁_elim able.works le_prop (λ s. s.recv_ready.ready.count);
    from = ∥∥₁_elim able.works le_prop (λ s. s.recv_ready.ready.from);
    within = ∥∥₁_elim able.works le_prop (λ s. s.recv_ready.ready.within);
    settled = ∥∥₁_elim able.works (hlevel props) (λ s. s.recv_ready.ready.settled);
    stands = λ told. disk_stands _ _ (∥∥₁_elim able.works (hlevel props) (λ s. ∣ s.recv_ready.ready.stands told ∣₁));
  }

  -- the count alone tells what a low disk stands for
  low_stands : m.tells → StandsForCount c.low_store.row c.low_store.register.first (m.reading (low_disk c.low_store))
  low_stands told =
      let E = c.low_store.register.first in
      let row = c.low_store.row in
      let disk = m.reading (low_disk c.low_store) in (
        E,
        [],
        record {
          header = header_is row _ _ (∥∥₁_map able.works (λ s. (s.low_ready.store.ready.stands told).2.header));
          size = ∥∥₁_elim able.works (hlevel props) (λ s. (s.low_ready.store.ready.stands told).2.size);
          value = ∥∥₁_elim able.works (hlevel props) (λ s. (s.low_ready.store.ready.stands told).2.value);
          kept = omega arith;
          count = omega arith;
          slots = λ i less. absurd (omega (arith, less));
        },
      )

  pub low_is_ready : IsLowReady m c.low_store
  low_is_ready = record {
    ready = record {
      is_open = ∥∥₁_elim able.works (hlevel props) (λ s. s.low_ready.store.ready.ready.is_open);
      parity = ∥∥₁_elim able.works le_prop (λ s. s.low_ready.store.ready.ready.parity);
      each = ∥∥₁_elim able.works (hlevel props) (λ s. s.low_ready.store.ready.ready.each);
    };
    count = ∥∥₁_elim able.works le_prop (λ s. s.low_ready.store.ready.count);
    second = ∥∥₁_elim able.works (hlevel props) (λ s. s.low_ready.store.ready.second);
    lawful = ∥∥₁_elim able.works (hlevel props) (λ s. s.low_ready.store.ready.lawful);
    ranges = ∥∥₁_elim able.works (hlevel props) (λ s. s.low_ready.store.ready.ranges);
    settled = ∥∥₁_elim able.works (hlevel props) (λ s. s.low_ready.store.ready.settled);
    stands = low_stands;
  }

  pub low_has_store : IsStoreOf m c.low c.low_store
  low_has_store = record {
    ready = low_is_ready;
    count = ∥∥₁_elim able.works (hlevel props) (λ s. s.low_ready.store.count);
    row = ∥∥₁_elim able.works (hlevel props) (λ s. s.low_ready.store.row);
  }

  high_stands : m.tells → HighStands c.row (high_count c.high_store) (m.reading (high_disk c.high_store))
  high_stands told = high_stands_is c.row (high_count c.high_store) (m.reading (high_disk c.high_store)) (∥∥₁_map (able.stands told) (λ s.
      subst (λ (n : ℕ). HighStands c.row n (m.reading (high_disk c.high_store))) (s.1.world.removed ∙ sym s.1.high_ready.count)
      (high_reading c.row s.0.world (m.reading (high_disk c.high_store)) s.1.sound.rest.removing (s.1.disks.high_disk.reading told))))

  pub high_is_up : high.is_down c.high ≡ false
  high_is_up = ∥∥₁_elim able.works (hlevel props) (λ s. s.high_ready.up)

  pub high_is_between : high.IsBetweenLooks c.high
  high_is_between = none_by c.high.asking (∥∥₁_elim able.works (hlevel props) (λ s. ap is_some s.high_ready.between))

  pub high_is_timely : high.last_of c.high ≤ c.moment
  high_is_timely = ∥∥₁_elim able.works le_prop (λ s. s.high_ready.last)

  pub high_counts : high_count c.high_store ≡ high.removed_of c.high
  high_counts = ∥∥₁_elim able.works (hlevel props) (λ s. s.high_ready.count)

  pub high_is_ready : IsHighReady m c.high_store
  high_is_ready = record {
    ready = record {
      is_open = ∥∥₁_elim able.works (hlevel props) (λ s. s.high_ready.store.ready.is_open);
      parity = ∥∥₁_elim able.works le_prop (λ s. s.high_ready.store.ready.parity);
      each = ∥∥₁_elim able.works (hlevel props) (λ s. s.high_ready.store.ready.each);
    };
    count = ∥∥₁_elim able.works le_prop (λ s. s.high_ready.store.count);
    second = ∥∥₁_elim able.works (hlevel props) (λ s. s.high_ready.store.second);
    settled = ∥∥₁_elim able.works (hlevel props) (λ s. s.high_ready.store.settled);
    stands = λ told. (c.row, high_stands told);
  }

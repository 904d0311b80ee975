-- A disk that stands for something by a row stands for it by the row made coarse.
use Rattle.std.proofs.Common.{ℕ, ◌+◌, true, List}
use Rattle.disk_model.specs.Disk.{Meaning}
use Rattle.pump_frame.specs.declared.row.SessionRow.{SessionRow}
use Rattle.stable_buffer.specs.Log.{RecvStands}
use Rattle.stable_buffer.specs.Low.{IsLowReady, StandsForCount, low_made_coarse}
use Rattle.stable_buffer.specs.Stands.{HasHeader, InSlot, LowStands, HighStands}
use Rattle.stable_buffer.specs.declared.low.LowStore.{LowStore}

module _ (row : SessionRow) where
  abbrev made : SessionRow
  made = record row { coarse = true }

  header : (role : ℕ) (prefix : List ℕ) → HasHeader row role prefix → HasHeader made role prefix
  header role prefix h = record { version = h.version; known = h.known; mark = h.mark; numbers = h.numbers }

  slot : (n : ℕ) (message disk : List ℕ) → InSlot row n message disk → InSlot made n message disk
  slot n message disk s = record { fits = s.fits; bytes = s.bytes }

  pub low_stands : (E b : ℕ) (messages : List (List ℕ)) (disk : List ℕ) → LowStands row E b messages disk → LowStands made E b messages disk
  low_stands E b messages disk s = record {
    header = header 76 _ s.header;
    size = s.size;
    value = s.value;
    kept = s.kept;
    count = s.count;
    slots = λ i le. slot (b + i) _ disk (s.slots i le);
  }

  pub high_stands : (B : ℕ) (disk : List ℕ) → HighStands row B disk → HighStands made B disk
  high_stands B disk s = record { header = header 72 _ s.header; size = s.size; value = s.value }

  pub recv_stands : (messages : List (List ℕ)) (disk : List ℕ) → RecvStands row messages disk → RecvStands made messages disk
  recv_stands messages disk s = record {
    header = header 82 _ s.header;
    end = s.end;
    from = s.from;
    within = s.within;
    value = s.value;
    records = s.records;
  }

  count_stands : (E : ℕ) (disk : List ℕ) → StandsForCount row E disk → StandsForCount made E disk
  count_stands E disk (b, messages, s) = (b, messages, low_stands E b messages disk s)

pub low_ready : {D : Type 0} (m : Meaning D) (store : LowStore D) → IsLowReady m store → IsLowReady m (low_made_coarse store)
low_ready m store r = record {
  ready = r.ready;
  count = r.count;
  second = r.second;
  lawful = r.lawful;
  ranges = record { some = r.ranges.some; few = r.ranges.few; short = r.ranges.short };
  settled = r.settled;
  stands = λ told. count_stands store.row store.register.first _ (r.stands told);
}

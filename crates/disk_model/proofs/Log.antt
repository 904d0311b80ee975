-- One more entry of a record.
use Rattle.std.proofs.Common.{◌≡◌, inl, inr, ⊎_elim, ℕ, ◌+◌, ◌≤◌, List, ◌∷◌, length, sym, ap, subst, arith}
use Rattle.disk_model.specs.Contents.{Held}
use Rattle.disk_model.specs.Disk.{Moves, Same, Torn, IsWritten}
use Rattle.disk_model.specs.Mem.{Memory, mem_meaning, mem_reading}
use Rattle.disk_model.specs.Record.{replay, IsImage, WasImage}
use Rattle.disk_model.specs.RecordLaws.{replay_image}
use Rattle.disk_model.specs.Ranges.{written_torn, written_holds}
use Rattle.disk_model.specs.declared.record.Entry.{Entry}
use Rattle.disk_model.specs.declared.record.Entry.TheVariants.{Write, Sync}

module _ (old new : Memory) (e : Entry) (start : new.start ≡ old.start) (pushed : new.log ≡ e ∷ old.log) where
  pub reading_pushed : mem_reading new ≡ replay old.start (e ∷ old.log)
  reading_pushed = λ i. replay (start i) (pushed i)

  pub moves_pushed : (step : List ℕ → List ℕ → Type 0) → step (mem_reading old) (mem_reading new)
      → ((c : List ℕ) → IsImage old.start (e ∷ old.log) c → (d : List ℕ) × IsImage old.start old.log d × step d c) → Moves mem_meaning step old new
  moves_pushed step reads from = record {
    reads = λ told. reads;
    later = omega (arith, ap length pushed);
    now = λ told c is. from c (here c is);
    each = λ told t c le was. ⊎_elim (λ is. inr (from c is)) (λ earlier. inl earlier.1) (before t c was);
    keeps = λ told t c le was. after t c (inr (le, was));
  }
    where
      here : (c : List ℕ) → IsImage new.start new.log c → IsImage old.start (e ∷ old.log) c
      here c is = subst (λ (l : List Entry). IsImage old.start l c) pushed (subst (λ (h : Held). IsImage h new.log c) start is)

      before : (t : ℕ) (c : List ℕ) → WasImage new.start new.log t c → WasImage old.start (e ∷ old.log) t c
      before t c is = subst (λ (l : List Entry). WasImage old.start l t c) pushed (subst (λ (h : Held). WasImage h new.log t c) start is)

      after : (t : ℕ) (c : List ℕ) → WasImage old.start (e ∷ old.log) t c → WasImage new.start new.log t c
      after t c is = subst (λ (h : Held). WasImage h new.log t c) (sym start) (subst (λ (l : List Entry). WasImage old.start l t c) (sym pushed) is)

-- a write is kept
pub moves_written : (old new : Memory) (at : ℕ) (bytes : List ℕ) → new.start ≡ old.start → new.log ≡ Write at bytes ∷ old.log → Moves mem_meaning (Torn at (length bytes)) old new
moves_written old new at bytes start pushed =
    moves_pushed old new (Write at bytes) start pushed (Torn at (length bytes))
    (subst (λ (l : List ℕ). Torn at (length bytes) (mem_reading old) l) (sym (reading_pushed old new (Write at bytes) start pushed))
    (written_torn old.start.room (mem_reading old) at bytes))
    (λ c is. is)

pub holds_written : (old new : Memory) (at : ℕ) (bytes : List ℕ) → new.start ≡ old.start → new.log ≡ Write at bytes ∷ old.log → at ≤ length (mem_reading old) → at + length bytes ≤ old.start.room
    → IsWritten (mem_reading old) at bytes (mem_reading new)
holds_written old new at bytes start pushed within ends =
    subst (λ (l : List ℕ). IsWritten (mem_reading old) at bytes l) (sym (reading_pushed old new (Write at bytes) start pushed)) (written_holds old.start.room (mem_reading old) at bytes within ends)

-- a sync is kept
pub moves_synced : (old new : Memory) → new.start ≡ old.start → new.log ≡ Sync ∷ old.log → Moves mem_meaning Same old new
moves_synced old new start pushed =
    moves_pushed old new Sync start pushed Same (reading_pushed old new Sync start pushed)
    (λ c is. (mem_reading old, replay_image old.start old.log, is))

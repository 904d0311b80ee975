-- The disks after a low look.
use Rattle.std.proofs.Common.{◌≡◌, ◌⊎◌, inl, inr, ⊎_elim, ℕ, ◌+◌, ◌≤◌, Bool, true, false, List, [], ◌∷◌, ◌++◌, length, drop, Option, Some, None, refl, sym, ap, ◌∙◌, subst, arith, append-nil, length-append}
use Rattle.std.specs.Prelude.{option_to_list}
use Rattle.std.proofs.lemmas.List.{drop-append-le}
use Rattle.disk_model.specs.Disk.{Meaning, Each}
use Rattle.disk_model.proofs.Run.{each_weaker, each_settled, each_after}
use Rattle.pump_frame.specs.declared.payload.Payload.{Payload}
use Rattle.pump_frame.specs.declared.row.SessionRow.{SessionRow}
use Rattle.stable_buffer.specs.Stands.{LowStands, HighStands, MayGain}
use Rattle.stable_buffer.specs.Log.{RecvStands}
use Rattle.stable_buffer.specs.Low.{low_disk, low_row}
use Rattle.stable_buffer.specs.declared.low.LowStore.{LowStore}
use Rattle.low_process.specs.Storing.{StoreStep}
use Rattle.pump_core.specs.World.{World}
use Rattle.world_laws.specs.Disks.{live_messages, LowFits, HighFits, RecvFits}
use Rattle.two_worlds.proofs.Opening.Ready.{low_reading}
use Rattle.two_worlds.proofs.Low.Grows.{Grows}

pub live_push : (w : World) (p : Payload) → w.removed ≤ length w.accepted → drop w.removed (w.accepted ++ p ∷ []) ≡ live_messages w ++ p ∷ []
live_push w p le = drop-append-le w.removed w.accepted (p ∷ []) le

low_same : (row : SessionRow) (w v : World) (disk : List ℕ) → v.accepted ≡ w.accepted → v.removed ≡ w.removed → LowStands row (length w.accepted) w.removed (live_messages w) disk → LowFits row v disk
low_same row w v disk accepted removed is = inl (subst (λ (t : List Payload × ℕ). LowStands row (length t.0) t.1 (drop t.1 t.0) disk) (λ i. (sym accepted i, sym removed i)) is)

module _ {D : Type 0} (m : Meaning D) (row : SessionRow) where
  -- the removals and takings are as before
  pub high_same : (w v : World) (disk : D) → v.removed ≡ w.removed → v.removing ≡ w.removing → Each m (HighFits row w) disk → Each m (HighFits row v) disk
  high_same w v disk removed removing fits = each_weaker m (HighFits row w) (HighFits row v) disk
      (λ bytes is. subst (λ (t : ℕ × Bool). HighStands row t.0 bytes ⊎ ((t.1 ≡ true) × HighStands row (t.0 + 1) bytes)) (λ i. (sym removed i, sym removing i)) is) fits

  pub recv_same : (w v : World) (disk : D) → v.received ≡ w.received → v.packet ≡ w.packet → v.taking ≡ w.taking → Each m (RecvFits row w) disk → Each m (RecvFits row v) disk
  recv_same w v disk received packet taking fits = each_weaker m (RecvFits row w) (RecvFits row v) disk
      (λ bytes is. subst (λ (t : List Payload × Option Payload × Bool). RecvStands row t.0 bytes ⊎ ((p : Payload) × (t.1 ≡ Some p) × (t.2 ≡ true) × RecvStands row (t.0 ++ p ∷ []) bytes))
      (λ i. (sym received i, sym packet i, sym taking i)) is) fits

module _ {D : Type 0} (m : Meaning D) (old new : LowStore D) (w : World) (rest : w.storing ≡ None) where
  -- the look stored this message, or none
  pub low_after : (v : World) (message : Option Payload) → ((p : Payload) → message ≡ Some p → length w.accepted + 1 ≤ w.removed + (low_row old).capacity) → w.removed ≤ length w.accepted
      → StoreStep m message old new false → Grows w v (option_to_list message) → Each m (LowFits (low_row old) w) (low_disk old) → Each m (LowFits (low_row old) v) (low_disk new)
  low_after v None free below s grows fits =
      let accepted : v.accepted ≡ w.accepted = grows.accepted ∙ append-nil w.accepted in
      subst (λ (t : LowStore D). Each m (LowFits (low_row old) v) (low_disk t)) (sym s.1)
      (each_weaker m (LowFits (low_row old) w) (LowFits (low_row old) v) (low_disk old) (λ c fit. low_same (low_row old) w v c accepted grows.removed (low_reading (low_row old) w c rest fit)) fits)
  low_after v (Some p) free below s grows fits =
      each_settled m (LowFits (low_row old) v) (low_disk new) (s.ready refl).settled (λ told.
      let was = low_reading (low_row old) w (m.reading (low_disk old)) rest (fits.reading told) in
      let more = (s.gained refl told).more (length w.accepted) w.removed (live_messages w) (free p refl) was in
      let count : length w.accepted + 1 ≡ length v.accepted = omega (arith, ap length grows.accepted, length-append w.accepted (p ∷ [])) in
      let list : live_messages w ++ p ∷ [] ≡ live_messages v = sym (live_push w p below) ∙ (λ i. drop (sym grows.removed i) (sym grows.accepted i)) in
      inl (subst (λ (t : ℕ × ℕ × List (List ℕ)). LowStands (low_row old) t.0 t.1 t.2 (m.reading (low_disk new))) (λ i. (count i, sym grows.removed i, list i)) more))

  -- the device failed in the store of this message
  pub low_failed : (p : Payload) → length w.accepted + 1 ≤ w.removed + (low_row old).capacity
      → StoreStep m (Some p) old new true → Each m (LowFits (low_row old) w) (low_disk old) → Each m (LowFits (low_row old) (record w { storing = Some p })) (low_disk new)
  low_failed p free s fits =
      each_after m (LowFits (low_row old) w) (LowFits (low_row old) (record w { storing = Some p })) (MayGain (low_row old) p) (low_disk old) (low_disk new) fits
      (λ c d fit may. ⊎_elim (λ stays. inl stays) (λ more. inr (p, refl, more)) (may.either (length w.accepted) w.removed (live_messages w) free (low_reading (low_row old) w c rest fit))) s.moves

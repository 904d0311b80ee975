-- What crashes leave of the disks of a lawful world stands for a lawful world.
use Rattle.std.proofs.Common.{◌≡◌, inl, inr, ℕ, ◌+◌, ◌-◌, ◌≤◌, ◌<◌, Bool, true, false, List, [], ◌∷◌, ◌++◌, length, drop, Option, Some, None, refl, sym, ap, ◌∙◌, subst, arith, length-append, length-drop, get_or-drop}
use Rattle.std.specs.Prelude.{◌&&◌, if◌then◌else◌, slice_index_or}
use Rattle.std.proofs.lemmas.List.{drop-append-le}
use Rattle.disk_model.specs.Disk.{Meaning}
use Rattle.pump_frame.specs.declared.row.SessionRow.{SessionRow}
use Rattle.pump_frame.specs.declared.payload.Payload.{Payload}
use Rattle.stable_buffer.specs.Stands.{LowStands, HighStands, InSlot}
use Rattle.stable_buffer.specs.Log.{RecvStands}
use Rattle.pump_core.specs.declared.event.Event.TheVariants.{Crash}
use Rattle.pump_core.specs.World.{World}
use Rattle.pump_core.specs.Events.{with_kept, pump_crashed, receiver_crashed}
use Rattle.pump_core.specs.Lawful.{IsLawful}
use Rattle.pump_core.proofs.Laws.{stays_lawful}
use Rattle.world_laws.specs.Disks.{LowFits, HighFits, RecvFits, Hold, DisksOpen, CrashesOpen}

abbrev pub LowAt : SessionRow → ℕ → List Payload → List ℕ → Type 0
LowAt row removed accepted disk = LowStands row (length accepted) removed (drop removed accepted) disk

-- the oldest messages may be left out
pub low_later : (row : SessionRow) (b n : ℕ) (accepted : List Payload) (disk : List ℕ) → b ≤ n → n ≤ length accepted → LowAt row b accepted disk → LowAt row n accepted disk
low_later row b n accepted disk le most stands = record {
  header = stands.header;
  size = stands.size;
  value = stands.value;
  kept = omega (arith, stands.kept, le);
  count = omega (arith, length-drop n accepted, most);
  slots = λ i lt.
      let on : b + (n - b + i) ≡ n + i = omega (arith, le) in
      let less : n - b + i < length (drop b accepted) = omega (arith, lt, le, most, length-drop b accepted, length-drop n accepted) in
      let same : slice_index_or (drop b accepted) (n - b + i) [] ≡ slice_index_or (drop n accepted) i [] =
      get_or-drop b accepted (n - b + i) [] ∙ ap (λ (k : ℕ). slice_index_or accepted k []) on ∙ sym (get_or-drop n accepted i []) in
      subst (λ (t : ℕ × List ℕ). InSlot row t.0 t.1 disk) (λ j. (on j, same j)) (stands.slots (n - b + i) less);
}

pub low_from : (row : SessionRow) (gone : Bool) (removed : ℕ) (accepted : List Payload) (disk : List ℕ) → (gone ≡ true → removed < length accepted) → LowAt row removed accepted disk → LowAt row (if gone then removed + 1 else removed) accepted disk
low_from row false removed accepted disk some is = is
low_from row true removed accepted disk some is = low_later row removed (removed + 1) accepted disk (omega arith) (omega (arith, some refl)) is

pub low_case : (row : SessionRow) (w : World) (disk : List ℕ) → w.removed ≤ length w.accepted → LowFits row w disk → (kept : Bool) × LowAt row w.removed (with_kept kept w.storing w.accepted) disk
low_case row w disk le (inl is) = (false, is)
low_case row w disk le (inr (p, e, is)) =
    let count : length w.accepted + 1 ≡ length (w.accepted ++ p ∷ []) = omega (arith, length-append w.accepted (p ∷ [])) in
    (true, rw e (subst (λ (t : ℕ × List (List ℕ)). LowStands row t.0 w.removed t.1 disk) (λ i. (count i, sym (drop-append-le w.removed w.accepted (p ∷ []) le) i)) is))

pub high_case : (row : SessionRow) (w : World) (disk : List ℕ) → HighFits row w disk → (kept : Bool) × HighStands row (if kept && w.removing then w.removed + 1 else w.removed) disk
high_case row w disk (inl is) = (false, is)
high_case row w disk (inr (e, is)) = (true, rw e is)

pub recv_case : (row : SessionRow) (w : World) (disk : List ℕ) → RecvFits row w disk → (kept : Bool) × RecvStands row (with_kept (kept && w.taking) w.packet w.received) disk
recv_case row w disk (inl is) = (false, is)
recv_case row w disk (inr (p, e, t, is)) = (true, rw (t, e) is)

pub and_right : (b c : Bool) → (b && c) ≡ true → c ≡ true
and_right true c e = e
and_right false c e = absurd (cc)

pub kept_longer : (kept : Bool) (o : Option Payload) (ps : List Payload) → length ps ≤ length (with_kept kept o ps)
kept_longer true (Some p) ps = omega (arith, length-append ps (p ∷ []))
kept_longer true None ps = omega arith
kept_longer false o ps = omega arith

pub prefix_length : (xs rest ys : List Payload) → xs ++ rest ≡ ys → length xs ≤ length ys
prefix_length xs rest ys e = omega (arith, ap length e, length-append xs rest)

pub opens : (row : SessionRow) (w : World) (a b c : List ℕ) → IsLawful w → LowFits row w a → HighFits row w b → RecvFits row w c → DisksOpen row a b c
opens row w a b c lawful fa fb fc =
    let low = low_case row w a lawful.bounded.within.below fa in
    let high = high_case row w b fb in
    let recv = recv_case row w c fc in
    let some : (high.0 && w.removing) ≡ true → w.removed < length (with_kept low.0 w.storing w.accepted) = λ e.
    let due = lawful.bounded.removal.cause (and_right high.0 w.removing e) in
    let less = lawful.delivered.due due in
    omega (arith, less, prefix_length w.received lawful.delivered.prefix.0 w.accepted lawful.delivered.prefix.1, kept_longer low.0 w.storing w.accepted) in
    record {
      world = receiver_crashed (pump_crashed w (Some (low.0, high.0))) (Some recv.0);
      lawful = stays_lawful w (Crash (Some (low.0, high.0)) (Some recv.0)) _ lawful refl;
      low_is = low_from row (high.0 && w.removing) w.removed (with_kept low.0 w.storing w.accepted) a some low.1;
      high_is = high.1;
      recv_is = recv.1;
    }

module _ {D : Type 0} (m : Meaning D) (row : SessionRow) (low high recv : D) (h : Hold m row low high recv) where
  pub crashes_open : CrashesOpen m row low high recv
  crashes_open told a b c ia ib ic = opens row h.world a b c h.lawful (h.disks.low_disk.images told a ia) (h.disks.high_disk.images told b ib) (h.disks.recv_disk.images told c ic)

  pub readings_open : m.tells → DisksOpen row (m.reading low) (m.reading high) (m.reading recv)
  readings_open told = opens row h.world _ _ _ h.lawful (h.disks.low_disk.reading told) (h.disks.high_disk.reading told) (h.disks.recv_disk.reading told)

-- The first bytes of a disk.
use Rattle.std.proofs.Common.{◌≡◌, ℕ, ◌+◌, ◌<◌, ◌≤◌, nat_le, nat_lt, if◌then◌else◌, true, false, Bool, List, [], length, get_or, take, drop, Option, Some, None, sym, ◌∙◌, ap, subst, arith}
use Rattle.std.proofs.lemmas.List.{get_or-take, take-take}
use Rattle.stable_buffer.specs.Register.{value_of}
use Rattle.stable_buffer.specs.Stands.{HasHeader, LowStands, low_size}
use Rattle.pump_frame.specs.declared.row.SessionRow.{SessionRow}
use Rattle.disk_model.specs.declared.name.Role.{Role}
use Rattle.disk_model.specs.declared.name.Role.TheVariants.{Low}
use Rattle.stable_buffer.specs.Log.{RecvStands, is_log, log_of}
use Rattle.stable_buffer.proofs.Logs.{found}
use Rattle.recovery.specs.Refusals.{word_at, other_size, refused_shape, or_else}
use Rattle.recovery.specs.declared.why.Why.{Why}
use Rattle.recovery.proofs.Words.{word_at-agree}
use Rattle.recovery.specs.declared.why.Why.TheVariants.{NotABuffer}

-- a disk too small for a header
pub small_is : (row : SessionRow) (role : Role) (size bytes : ℕ) (mark disk : List ℕ) → size ≡ length disk → size < 80 → 4 ≤ size → mark ≡ take 4 (drop 0 disk) → bytes ≡ word_at mark 0 → refused_shape row role disk ≡ Some (NotABuffer size bytes)
small_is row role size bytes mark disk is small some read value =
    let one : nat_le 80 (length disk) ≡ false = grind (arith, is, small) in
    let two : nat_lt (length disk) 4 ≡ false = grind (arith, is, some) in
    let same : word_at (take 80 disk) 0 ≡ bytes = word_at-agree (take 80 disk) 0 mark 0
    (λ i lt. get_or-take 80 disk (0 + i) 0 (omega arith) ∙ sym (get_or-take 4 disk (0 + i) 0 (omega arith)) ∙ ap (λ (l : List ℕ). get_or l (0 + i) 0) (sym read)) ∙ sym value in
    rw (one, two) (λ i. Some (NotABuffer (sym is i) (same i)))

pub prefix_is : (row : SessionRow) (letter : ℕ) (area disk now : List ℕ) → area ≡ take 80 (drop 0 now) → now ≡ disk → HasHeader row letter (take 32 area) → HasHeader row letter (take 32 disk)
prefix_is row letter area disk now read same has =
    subst (HasHeader row letter) (ap (λ (l : List ℕ). take 32 l) read ∙ take-take 32 80 now (omega arith) ∙ ap (λ (l : List ℕ). take 32 l) same) has

pick : (b : Bool) (x y : Option Why) (w : Why) → (if b then or_else x y else Some w) ≡ None → y ≡ None
pick true None y w is = is
pick true (Some z) y w is = absurd (cc)
pick false x y w is = absurd (cc)

low_sized : (row : SessionRow) (size : ℕ) → other_size row Low size ≡ None → size ≡ low_size row
low_sized row size is = grind (arith, is)

-- a low disk that isn't refused stands for its count
pub low_from : (row : SessionRow) (first second : ℕ) (disk now : List ℕ) → now ≡ disk → HasHeader row 76 (take 32 disk) → refused_shape row Low disk ≡ None → (first, second) ≡ value_of disk → second ≡ 0
    → LowStands row first first [] now
low_from row first second disk now same header fine value zero' = subst (LowStands row first first []) (sym same) (record {
  header = header;
  size = low_sized row (length disk) (pick _ _ _ _ fine);
  value = sym value ∙ (λ i. (first, zero' i));
  kept = omega arith;
  count = omega arith;
  slots = λ i lt. absurd (omega (arith, lt));
})

-- a receiver's disk whose records were found stands for them
pub recv_from : (row : SessionRow) (first second : ℕ) (disk now : List ℕ) → now ≡ disk → HasHeader row 82 (take 32 disk) → (first, second) ≡ value_of disk → 80 ≤ second → second ≤ length disk
    → is_log row.message first (log_of second disk) ≡ true → (messages : List (List ℕ)) × (length messages ≡ first) × RecvStands row messages now
recv_from row first second disk now same header value from within is =
    let (ms, count, fill) = found row.message first (log_of second disk) is in
    (ms, count, subst (RecvStands row ms) (sym same) (record { header = header; end = second; from = from; within = within; value = sym value ∙ (λ i. (sym count i, second)); records = fill }))

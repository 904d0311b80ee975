-- New disks that are whole.
use Rattle.std.proofs.Common.{◌≡◌, ℕ, suc, ◌+◌, ◌-◌, ◌^◌, ◌<◌, ◌≤◌, List, [], ◌∷◌, length, get_or, take, drop, replicate, sym, ◌∙◌, ap, subst, arith, length-append, length-drop}
use Rattle.std.proofs.lemmas.List.{take_at, drop-take, drop-drop, length-replicate, length-take-le}
use Rattle.std.proofs.lemmas.List.Elements.{All-get_or}
use Rattle.std.specs.List.{All}
use Rattle.disk_model.specs.Disk.{Meaning, IsWritten}
use Rattle.disk_model.specs.Ranges.{holds_before, holds_length}
use Rattle.disk_model.specs.declared.name.Role.{Role}
use Rattle.disk_model.specs.declared.name.Role.TheVariants.{Low, High, Recv}
use Rattle.pump_frame.specs.declared.row.SessionRow.{SessionRow}
use Rattle.stable_buffer.specs.Format.{header_of, role_byte, size_of, bare_bytes}
use Rattle.stable_buffer.specs.Log.{Records, RecvStands, log_of}
use Rattle.stable_buffer.specs.Making.{marked, IsNone, IsNoneOr, LeavesFrom}
use Rattle.stable_buffer.specs.Register.{value_of}
use Rattle.stable_buffer.specs.Stands.{LowStands, HighStands, slot_of, low_size}
use Rattle.stable_buffer.proofs.Fresh.{has_header, has_value, header_length}
use Rattle.stable_buffer.proofs.Slots.{holds_range}
use Rattle.recovery.specs.Deals.{InSlots}

-- ---- what a crash leaves ----

module _ {D : Type 0} (m : Meaning D) (P : List ℕ → Type 0) (moment : ℕ) (d : D) where
  pub none_leaves : LeavesFrom m moment IsNone d → LeavesFrom m moment (IsNoneOr P) d
  none_leaves none told c left long is = absurd (none told c left long is)

  pub whole_leaves : (w : List ℕ) → (m.tells → P w) → LeavesFrom m moment (IsNoneOr (λ c. c ≡ w)) d → LeavesFrom m moment (IsNoneOr P) d
  whole_leaves w stands whole told c left long is = subst P (sym (whole told c left long is)) (stands (m.images_tell told))

-- ---- a disk with its mark ----

pub marked_drop : (p : ℕ) (d : List ℕ) → 4 ≤ p → drop p (marked d) ≡ drop p d
marked_drop p d le =
    let e : 4 + (p - 4) ≡ p = omega (arith, le) in
    subst (λ k. drop k (marked d) ≡ drop k d) e (sym (drop-drop (p - 4) 4 (marked d)) ∙ drop-drop (p - 4) 4 d)

marked_first : (d e : List ℕ) → take 80 d ≡ take 80 e → take 80 (marked d) ≡ take 80 (marked e)
marked_first d e same =
    let rest : take 76 (drop 4 d) ≡ take 76 (drop 4 e) = sym (drop-take 4 76 d) ∙ ap (λ (l : List ℕ). drop 4 l) same ∙ drop-take 4 76 e in
    (λ i. 78 ∷ 80 ∷ 68 ∷ 49 ∷ rest i)

marked_length : (d : List ℕ) → 4 ≤ length d → length (marked d) ≡ length d
marked_length d le = omega (arith, length-drop 4 d, le)

bare_first : (row : SessionRow) (role : Role) (first second : ℕ) (d : List ℕ) → marked d ≡ bare_bytes row role first second → take 80 (marked d) ≡ header_of row (role_byte role) first second
bare_first row role first second d is =
    ap (λ (l : List ℕ). take 80 l) is
    ∙ take_at (header_of row (role_byte role) first second) (replicate (size_of row role - 80) 0) 80 (header_length row (role_byte role) first second)

bare_length : (row : SessionRow) (role : Role) (first second : ℕ) → length (bare_bytes row role first second) ≡ 80 + (size_of row role - 80)
bare_length row role first second =
    omega (arith, length-append (header_of row (role_byte role) first second) (replicate (size_of row role - 80) 0), header_length row (role_byte role) first second, length-replicate {A = ℕ} (size_of row role - 80) 0)

-- how long a disk is that was begun
pub begun_length : (row : SessionRow) (role : Role) (first second : ℕ) (d : List ℕ) → 80 ≤ size_of row role → marked d ≡ bare_bytes row role first second → length d ≡ size_of row role
begun_length row role first second d le is = omega (arith, ap length is, length-drop 4 d, bare_length row role first second, le)

-- ---- what they stand for ----

pub high_whole : (row : SessionRow) (B : ℕ) (d : List ℕ) → B ≤ 2 ^ 48 → marked d ≡ bare_bytes row High B 0 → HighStands row B (marked d)
high_whole row B d small is =
    let first = bare_first row High B 0 d is in
    record {
      header = has_header row 72 B 0 (marked d) first;
      size = omega (arith, ap length is, bare_length row High B 0);
      value = has_value row 72 B 0 (marked d) first (omega (arith, small)) (omega arith);
    }

pub low_whole : (from to : SessionRow) (E B : ℕ) (live : List (List ℕ)) (src begun d : List ℕ) → E ≤ 2 ^ 48 → E ≤ B + to.capacity → LowStands from E B live src → marked begun ≡ bare_bytes to Low E 0 → take 80 d ≡ take 80 begun
    → length d ≡ low_size to → InSlots to B live d → LowStands to E B live (marked d)
low_whole from to E B live src begun d small fits s is same size slots =
    let first = marked_first d begun same ∙ bare_first to Low E 0 begun is in
    record {
      header = has_header to 76 E 0 (marked d) first;
      size = marked_length d (omega (arith, size)) ∙ size;
      value = has_value to 76 E 0 (marked d) first (omega (arith, small)) (omega arith);
      kept = fits;
      count = s.count;
      slots = λ i lt. let was = slots i lt in record {
        fits = was.fits;
        bytes = ap (λ (l : List ℕ). take (2 + length (get_or live i [])) l) (marked_drop (slot_of to (B + i)) d (omega arith)) ∙ was.bytes;
      };
    }

-- records are those of a row that lets a message be as long as these are
refit : (most less : ℕ) (ms : List (List ℕ)) (bytes : List ℕ) → ((i : ℕ) → i < length ms → length (get_or ms i []) ≤ less) → Records most ms bytes → Records less ms bytes
refit most less [] bytes short fill = fill
refit most less (m ∷ ms) bytes short (fits, is, _, here, fill) =
    (fits, is, short 0 (omega arith), here, refit most less ms (drop (2 + length m) bytes) (λ i lt. short (suc i) (omega (arith, lt))) fill)

pub recv_whole : (from to : SessionRow) (R end : ℕ) (received : List (List ℕ)) (src begun d : List ℕ) → R ≤ 2 ^ 48 → RecvStands from received src → value_of src ≡ (R, end) → All (λ message. length message ≤ to.message) received
    → marked begun ≡ bare_bytes to Recv R end → IsWritten begun 80 (take (end - 80) (drop 80 src)) d → end < 2 ^ 64 → RecvStands to received (marked d)
recv_whole from to R end received src begun d small s value short is wrote fits =
    let at : (R, end) ≡ (length received, s.end) = sym value ∙ s.value in
    let count : R ≡ length received = ap (λ (v : ℕ × ℕ). v.0) at in
    let end_is : end ≡ s.end = ap (λ (v : ℕ × ℕ). v.1) at in
    let begun_is : length begun ≡ 80 = begun_length to Recv R end begun (omega arith) is in
    let log = take (end - 80) (drop 80 src) in
    let log_size : length log ≡ end - 80 = length-take-le (end - 80) (drop 80 src) (omega (arith, length-drop 80 src, s.within, end_is)) in
    let first = marked_first d begun (holds_before begun 80 log d (omega (arith, begun_is)) wrote) ∙ bare_first to Recv R end begun is in
    let long : length d ≡ end = omega (arith, holds_length begun 80 log d (omega (arith, begun_is)) wrote, begun_is, log_size, s.from, end_is) in
    let there : take (end - 80) (drop 80 (marked d)) ≡ log =
    ap (λ (l : List ℕ). take (end - 80) l) (marked_drop 80 d (omega arith)) ∙ ap (λ k. take k (drop 80 d)) (sym log_size) ∙ holds_range begun 80 log d (omega (arith, begun_is)) wrote in
    let same : log_of end (marked d) ≡ log_of s.end src = there ∙ ap (λ k. log_of k src) end_is in
    record {
      header = has_header to 82 R end (marked d) first;
      end = end;
      from = omega (arith, s.from, end_is);
      within = omega (arith, marked_length d (omega (arith, long, s.from, end_is)), long);
      value = has_value to 82 R end (marked d) first (omega (arith, small)) fits ∙ (λ i. (count i, end));
      records = refit from.message to.message received (log_of end (marked d)) (λ i lt. All-get_or (λ (message : List ℕ). length message ≤ to.message) received i [] lt short)
          (subst (λ (l : List ℕ). Records from.message received l) (sym same) s.records);
    }

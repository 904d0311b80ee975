-- The bytes of new disks.
use Rattle.std.proofs.Common.{◌≡◌, ℕ, zero, suc, ◌+◌, ◌-◌, ◌<◌, ◌≤◌, List, [], ◌∷◌, ◌++◌, length, get_or, take, drop, refl, sym, ◌∙◌, ap, arith, length-append}
use Rattle.std.proofs.lemmas.List.{append-nil, drop-take, drop-append-le, drop_all, length-take, take_all}
use Rattle.disk_model.specs.Disk.{IsWritten}
use Rattle.disk_model.specs.declared.name.Role.TheVariants.{Low, Recv}
use Rattle.pump_frame.specs.declared.row.SessionRow.{SessionRow}
use Rattle.stable_buffer.specs.Format.{bare_bytes}
use Rattle.stable_buffer.specs.Log.{log_of}
use Rattle.stable_buffer.specs.Making.{marked}
use Rattle.stable_buffer.specs.Register.{value_of}
use Rattle.stable_buffer.specs.Stands.{slot_of, spelled}
use Rattle.recovery.specs.Moves.{with_message, with_messages, low_bytes, recv_bytes}
use Rattle.recovery.proofs.Wholes.{marked_drop, begun_length}

-- one message more in its slot
pub next_message : (row : SessionRow) (n k : ℕ) (ms : List (List ℕ)) (d : List ℕ) → k < length ms
    → with_messages row n (take (suc k) ms) d ≡ with_message row (n + k) (get_or ms k []) (with_messages row n (take k ms) d)
next_message row n k [] d lt = absurd (omega (arith, lt))
next_message row n zero (m ∷ ms) d lt = let e : n ≡ n + 0 = omega arith in ap (λ j. with_message row j m d) e
next_message row n (suc k) (m ∷ ms) d lt =
    let e : n + 1 + k ≡ n + suc k = omega arith in
    next_message row (n + 1) k ms (with_message row n m d) (omega (arith, lt))
    ∙ ap (λ j. with_message row j (get_or ms k []) (with_messages row (n + 1) (take k ms) (with_message row n m d))) e

-- the first four bytes have no part in a write behind them
marked_write : (s : ℕ) (x d : List ℕ) → 4 ≤ s → 4 ≤ length d → marked (take s d ++ x ++ drop (s + length x) d) ≡ take s (marked d) ++ x ++ drop (s + length x) (marked d)
marked_write s x d four long =
    let a = take s d in
    let r = drop (s + length x) d in
    let e : 4 + (s - 4) ≡ s = omega (arith, four) in
    let size : 4 ≤ length a = omega (arith, length-take s d, four, long) in
    let cut : drop 4 (a ++ x ++ r) ≡ drop 4 a ++ x ++ r = drop-append-le 4 (a ++ x) r (omega (arith, length-append a x, size)) ∙ ap (λ (l : List ℕ). l ++ r) (drop-append-le 4 a x size) in
    let rest : drop 4 a ≡ take (s - 4) (drop 4 d) = ap (λ j. drop 4 (take j d)) (sym e) ∙ drop-take 4 (s - 4) d in
    let up : suc (suc (suc (suc (s - 4)))) ≡ s = omega (arith, four) in
    let prefix : 78 ∷ 80 ∷ 68 ∷ 49 ∷ drop 4 a ≡ take s (marked d) = ap (λ (l : List ℕ). 78 ∷ 80 ∷ 68 ∷ 49 ∷ l) rest ∙ ap (λ j. take j (marked d)) up in
    ap (λ (l : List ℕ). 78 ∷ 80 ∷ 68 ∷ 49 ∷ l) cut ∙ (λ i. prefix i ++ x ++ sym (marked_drop (s + length x) d (omega (arith, four))) i)

marked_messages : (row : SessionRow) (n : ℕ) (ms : List (List ℕ)) (d : List ℕ) → 4 ≤ length d → marked (with_messages row n ms d) ≡ with_messages row n ms (marked d)
marked_messages row n [] d long = refl
marked_messages row n (m ∷ ms) d long =
    let s = slot_of row n in
    let x = spelled m in
    let still : 4 ≤ length (with_message row n m d) = omega (arith, length-append (take s d ++ x) (drop (s + length x) d), length-append (take s d) x, length-take s d, long) in
    marked_messages row (n + 1) ms (with_message row n m d) still ∙ ap (λ (l : List ℕ). with_messages row (n + 1) ms l) (marked_write s x d (omega arith) long)

pub low_written : (to : SessionRow) (E B : ℕ) (live : List (List ℕ)) (begun d : List ℕ) → marked begun ≡ bare_bytes to Low E 0 → d ≡ with_messages to B live begun → marked d ≡ low_bytes to E B live
low_written to E B live begun d is filled =
    ap marked filled ∙ marked_messages to B live begun (omega (arith, begun_length to Low E 0 begun (omega arith) is)) ∙ ap (λ (l : List ℕ). with_messages to B live l) is

pub recv_written : (to : SessionRow) (R end : ℕ) (old begun d : List ℕ) → value_of old ≡ (R, end) → marked begun ≡ bare_bytes to Recv R end → IsWritten begun 80 (take (end - 80) (drop 80 old)) d → marked d ≡ recv_bytes to R old
recv_written to R end old begun d value is wrote =
    let log = take (end - 80) (drop 80 old) in
    let size : length begun ≡ 80 = begun_length to Recv R end begun (omega arith) is in
    let whole : take 80 begun ≡ begun = take_all 80 begun (omega (arith, size)) in
    let none : drop (80 + length log) begun ≡ [] = drop_all (80 + length log) begun (omega (arith, size)) in
    let joined : d ≡ begun ++ log = wrote ∙ (λ i. whole i ++ log ++ none i) ∙ append-nil (begun ++ log) in
    let behind : drop 4 (begun ++ log) ≡ drop 4 begun ++ log = drop-append-le 4 begun log (omega (arith, size)) in
    let at : end ≡ (value_of old).1 = ap (λ (v : ℕ × ℕ). v.1) (sym value) in
    ap marked joined ∙ ap (λ (l : List ℕ). 78 ∷ 80 ∷ 68 ∷ 49 ∷ l) behind ∙ ap (λ (l : List ℕ). l ++ log) is
    ∙ (λ i. bare_bytes to Recv R (at i) ++ log_of (at i) old)

-- One record after another.
use Rattle.std.proofs.Common.{◌≡◌, ℕ, zero, suc, Bool, true, false, Result, Ok, Err, OnErr, ◌+◌, ◌-◌, ◌<◌, ◌≤◌, List, [], ◌∷◌, ◌++◌, length, slice_index_or, take, drop, refl, sym, ◌∙◌, ap, subst, arith, length-drop}
use Rattle.std.proofs.lemmas.List.{drop-drop, drop-take, take-take, length-take-le, take-append-drop, drop-append-le, take_at}
use Rattle.stable_buffer.specs.Numbers.{length_at}
use Rattle.stable_buffer.specs.Log.{Records}
use Rattle.high_receiver.specs.Records.{RecordsFrom}
use Rattle.high_receiver.proofs.Appends.{length_prefix}

-- the length at an offset is that of the bytes from there
length_there : (at : ℕ) (disk : List ℕ) → length_at (drop at disk) 0 ≡ length_at disk at
unfolding length_at
length_there at disk = refl

pub length_taken : (k at : ℕ) (disk : List ℕ) → 2 ≤ k → at + k ≤ length disk → length_at (take k (drop at disk)) 0 ≡ length_at disk at
length_taken k at disk two within =
    let size : length (take k (drop at disk)) ≡ k = length-take-le k (drop at disk) (omega (arith, within, length-drop at disk)) in
    sym (length_prefix (take k (drop at disk)) (drop k (drop at disk)) (omega (arith, two, size)))
    ∙ ap (λ (l : List ℕ). length_at l 0) (take-append-drop k (drop at disk)) ∙ length_there at disk

-- what the first of these records says, and what follows it
pub record Here (most : ℕ) (message : List ℕ) (later : List (List ℕ)) (at end : ℕ) (disk : List ℕ) : Type 0 where
  pub size : length_at disk at ≡ length message
  pub fits : length message ≤ most
  pub within : at + (2 + length message) ≤ end
  pub bytes : take (length message) (drop 2 (drop at disk)) ≡ message
  pub rest : RecordsFrom most later (at + (2 + length message)) end disk

pub first : (most : ℕ) (m : List ℕ) (ms : List (List ℕ)) (at end : ℕ) (disk : List ℕ) → RecordsFrom most (m ∷ ms) at end disk → Here most m ms at end disk
first most m ms at end disk (le, on, (whole, is, few, here, fill)) =
    let k = end - at in
    let l = drop at disk in
    let n = length m in
    let size : length (take k l) ≡ k = length-take-le k l (omega (arith, le, on, length-drop at disk)) in
    let k2 : 2 + n + (k - (2 + n)) ≡ k = omega (arith, whole, size) in
    let k1 : 2 + (k - 2) ≡ k = omega (arith, whole, size) in
    let skip : drop 2 (take k l) ≡ take (k - 2) (drop 2 l) = ap (λ j. drop 2 (take j l)) (sym k1) ∙ drop-take 2 (k - 2) l in
    let past : drop (2 + n) (take k l) ≡ take (end - (at + (2 + n))) (drop (at + (2 + n)) disk) =
    ap (λ j. drop (2 + n) (take j l)) (sym k2) ∙ drop-take (2 + n) (k - (2 + n)) l
    ∙ (let e : k - (2 + n) ≡ end - (at + (2 + n)) = omega (arith, whole, size) in λ i. take (e i) (drop-drop (2 + n) at disk i)) in
    record {
      size = sym (length_taken k at disk (omega (arith, whole, size)) (omega (arith, le, on))) ∙ is;
      fits = few;
      within = omega (arith, whole, size, le);
      bytes = sym (take-take n (k - 2) (drop 2 l) (omega (arith, whole, size))) ∙ ap (λ (b : List ℕ). take n b) (sym skip) ∙ here;
      rest = (omega (arith, whole, size, le), on, subst (λ (b : List ℕ). Records most ms b) past fill);
    }

-- the record of message i
pub at_message : (most : ℕ) (messages : List (List ℕ)) (i at end : ℕ) (disk : List ℕ) → i < length messages → RecordsFrom most (drop i messages) at end disk
    → Here most (slice_index_or messages i []) (drop (suc i) messages) at end disk
at_message most [] i at end disk lt from = absurd (omega (arith, lt))
at_message most (m ∷ ms) zero at end disk lt from = first most m ms at end disk from
at_message most (m ∷ ms) (suc i) at end disk lt from = at_message most ms i at end disk (omega (arith, lt)) from

-- where the next record stands
pub next_place : (most : ℕ) (messages : List (List ℕ)) (i at end l : ℕ) (disk : List ℕ) → i < length messages → RecordsFrom most (drop i messages) at end disk → l ≡ length_at disk at
    → (at + (2 + l) ≤ end) × RecordsFrom most (drop (i + 1) messages) (at + (2 + l)) end disk
next_place most messages i at end l disk lt from is =
    let here = at_message most messages i at end disk lt from in
    let size : length (slice_index_or messages i []) ≡ l = sym here.size ∙ sym is in
    let next : suc i ≡ i + 1 = omega arith in
    (omega (arith, here.within, size), subst (λ j. RecordsFrom most (drop j messages) (at + (2 + l)) end disk) next (subst (λ k. RecordsFrom most (drop (suc i) messages) (at + (2 + k)) end disk) size here.rest))

abbrev IsOff : Bool → Type 0
IsOff true = ⊥
IsOff false = Unit {0}

-- a call that failed did not go well
pub failed : false ≡ true → ⊥
failed e = subst IsOff e tt

-- what stands behind the length is the message
pub found_bytes : (l k at : ℕ) (into rest mid disk message : List ℕ) → k ≡ 2 + l → length into ≡ k → into ≡ take k (drop at mid) → mid ≡ disk → l ≡ length message
    → take (length message) (drop 2 (drop at disk)) ≡ message → take (2 + l - 2) (drop 2 (into ++ rest)) ≡ message
found_bytes l k at into rest mid disk message kl size read same is bytes =
    let e : 2 + l - 2 ≡ l = omega arith in
    let prefix : drop 2 (into ++ rest) ≡ drop 2 into ++ rest = drop-append-le 2 into rest (omega (arith, size, kl)) in
    let there : into ≡ take (2 + l) (drop at disk) = read ∙ (λ i. take (kl i) (drop at (same i))) in
    let here : drop 2 into ≡ message = ap (λ (b : List ℕ). drop 2 b) there ∙ drop-take 2 l (drop at disk) ∙ ap (λ j. take j (drop 2 (drop at disk))) is ∙ bytes in
    (λ i. take (e i) (prefix i)) ∙ take_at (drop 2 into) rest l (omega (arith, length-drop 2 into, size, kl)) ∙ here

-- a call that went well found the disk not armed
pub calm : (before after : Bool) → (before ≡ true → ⊥) → after ≡ false → after ≡ before
calm true after never off = absurd (never refl)
calm false after never off = off

pub on_err : {T E : Type 0} {P : Type 0} → (r : Result T E) → P → OnErr r P
on_err (Ok x) p = tt
on_err (Err e) p = p

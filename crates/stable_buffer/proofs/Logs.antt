-- Records that fill bytes.
use Rattle.std.proofs.Common.{◌≡◌, ℕ, zero, suc, ◌+◌, ◌≤◌, nat_le, true, List, [], ◌∷◌, ◌++◌, length, take, drop, refl, sym, ◌∙◌, ap, subst, arith, length-drop}
use Rattle.std.proofs.lemmas.List.{length-take-le, take_at, take_all, drop-drop}
use Rattle.stable_buffer.specs.Numbers.{length_at, message_at}
use Rattle.byteorder.specs.Endian.{big_bytes}
use Rattle.stable_buffer.specs.Stands.{slot_of, InSlot}
use Rattle.pump_frame.specs.declared.row.SessionRow.{SessionRow}
use Rattle.stable_buffer.specs.Log.{Records, is_log}

-- what the check finds
pub found : (most n : ℕ) (bytes : List ℕ) → is_log most n bytes ≡ true → (messages : List (List ℕ)) × (length messages ≡ n) × Records most messages bytes
found most zero bytes is = ([], refl, grind (arith, is))
found most (suc n) bytes is =
    let l = length_at bytes 0 in
    let m = take l (drop 2 bytes) in
    let fits : 2 + l ≤ length bytes = grind (arith, is) in
    let small : l ≤ most = grind (arith, is) in
    let rest : is_log most n (drop (2 + l) bytes) ≡ true = grind (arith, is) in
    let size : length m ≡ l = length-take-le l (drop 2 bytes) (omega (arith, length-drop 2 bytes)) in
    let (ms, count, fill) = found most n (drop (2 + l) bytes) rest in
    (m ∷ ms, ap suc count, (omega (arith, size, fits), sym size, omega (arith, size, small), ap (λ k. take k (drop 2 bytes)) size, subst (λ k. Records most ms (drop (2 + k) bytes)) (sym size) fill))

-- the check finds it
pub finds : (most : ℕ) (messages : List (List ℕ)) (bytes : List ℕ) → Records most messages bytes → is_log most (length messages) bytes ≡ true
finds most [] bytes fill = grind (arith, fill)
finds most (m ∷ ms) bytes (fits, is, small, _, fill) =
    let rest : is_log most (length ms) (drop (2 + length_at bytes 0) bytes) ≡ true = subst (λ k. is_log most (length ms) (drop (2 + k) bytes) ≡ true) (sym is) (finds most ms (drop (2 + length m) bytes) fill) in
    let one : nat_le (2 + length_at bytes 0) (length bytes) ≡ true = grind (arith, is, fits) in
    let two : nat_le (length_at bytes 0) most ≡ true = grind (arith, is, small) in
    rw (one, two) rest

-- a message that was read behind its length
pub taken_message : (l k : ℕ) (into rest payload mid disk : List ℕ) (at : ℕ) → payload ≡ take l (into ++ rest) → length into ≡ k → k ≡ l → into ≡ take k (drop (at + 2) mid) → mid ≡ disk → l ≡ length_at disk at → payload ≡ message_at disk at
taken_message l k into rest payload mid disk at is size kl read same length =
    is ∙ take_at into rest l (size ∙ kl) ∙ read ∙ (λ i. take ((kl ∙ length) i) (drop (at + 2) (same i)))

take_two : (k : ℕ) (xs : List ℕ) → take (suc (suc k)) xs ≡ take 2 xs ++ take k (drop 2 xs)
take_two k [] = sym (take_all k [] (omega arith))
take_two k (x ∷ []) = ap (λ (l : List ℕ). x ∷ l) (sym (take_all k [] (omega arith)))
take_two k (x ∷ y ∷ zs) = refl

-- a length and a message that were read are a message in its slot
pub in_slot : (row : SessionRow) (n l : ℕ) (payload disk : List ℕ) → l ≤ row.message → length payload ≡ l → l ≡ length_at disk (slot_of row n)
    → big_bytes 2 l ≡ take 2 (drop (slot_of row n) disk) → payload ≡ message_at disk (slot_of row n) → InSlot row n payload disk
in_slot row n l payload disk fits size is spells message = record {
  fits = omega (arith, fits, size);
  bytes =
      let s = slot_of row n in
      let k = length payload in
      let e : suc (suc k) ≡ 2 + k = omega arith in
      let there : take (2 + k) (drop s disk) ≡ take 2 (drop s disk) ++ take k (drop 2 (drop s disk)) = subst (λ j. take j (drop s disk) ≡ take 2 (drop s disk) ++ take k (drop 2 (drop s disk))) e (take_two k (drop s disk)) in
      let prefix : take 2 (drop s disk) ≡ big_bytes 2 k = sym spells ∙ ap (λ j. big_bytes 2 j) (sym size) in
      let at : drop 2 (drop s disk) ≡ drop (s + 2) disk = drop-drop 2 s disk in
      let back : take k (drop 2 (drop s disk)) ≡ payload = (λ i. take ((size ∙ is) i) (at i)) ∙ sym message in
      there ∙ (λ i. prefix i ++ back i);
}

pub taken_length : (l k : ℕ) (into rest payload : List ℕ) → payload ≡ take l (into ++ rest) → length into ≡ k → k ≡ l → length payload ≡ l
taken_length l k into rest payload is size kl = ap length (is ∙ take_at into rest l (size ∙ kl)) ∙ size ∙ kl

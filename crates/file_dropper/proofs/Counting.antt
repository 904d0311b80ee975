-- How many messages a file is.
use Rattle.std.proofs.Common.{◌≡◌, ◌∙◌, ℕ, zero, suc, ◌+◌, ◌-◌, ◌/◌, ◌<◌, ◌≤◌, inl, inr, List, [], ◌∷◌, length, drop, refl, sym, ap, arith, length-append, length-drop}
use Rattle.std.proofs.Math.Nat.{add-div_left, div-eq_of_lt}
use Rattle.std.proofs.lemmas.List.{length-map}
use Rattle.std.proofs.lemmas.Bool.{cases_lt}
use Rattle.file_messages.specs.Messages.{piece_message}
use Rattle.file_messages.specs.Files.{File}
use Rattle.file_messages.specs.Cuts.{first_pieces, pieces, begun, end_of, cut}
use Rattle.file_dropper.specs.Leaving.{cut_length, sending}

none_fill : (n size : ℕ) → 0 < n → size ≡ 0 → (size + (n - 1)) / n ≡ 0
none_fill n size some none = ap (λ (x : ℕ). x / n) (let e : size + (n - 1) ≡ n - 1 = omega (arith, none) in e) ∙ div-eq_of_lt (omega (arith, some))

one_fills : (n size : ℕ) → 0 < n → 0 < size → (size + (n - 1)) / n ≡ (size - n + (n - 1)) / n + 1
one_fills n size some any = elim (cases_lt size n) [
  | inl less ↦
      let e : size + (n - 1) ≡ n + (size - 1) = omega (arith, some, any) in
      let none : (size - 1) / n ≡ 0 = div-eq_of_lt (omega (arith, less, any)) in
      ap (λ (x : ℕ). x / n) e ∙ add-div_left (size - 1) some ∙ ap (λ k. k + 1) (none ∙ sym (none_fill n (size - n) some (omega (arith, less))))
  | inr le ↦
      let e : size + (n - 1) ≡ n + (size - n + (n - 1)) = omega (arith, le) in
      ap (λ (x : ℕ). x / n) e ∙ add-div_left (size - n + (n - 1)) some
]

first_count : (k n : ℕ) (bytes : List ℕ) → 0 < n → length bytes ≤ k → length (first_pieces k n bytes) ≡ (length bytes + (n - 1)) / n
first_count zero n bytes some le = sym (none_fill n (length bytes) some (omega (arith, le)))
first_count (suc k) n [] some le = sym (none_fill n 0 some refl)
first_count (suc k) n (b ∷ bs) some le =
    let rest = drop n (b ∷ bs) in
    let fewer = length-drop n (b ∷ bs) in
    let later = first_count k n rest some (omega (arith, le, fewer, some)) in
    ap suc later ∙ omega (arith, ap (λ (l : ℕ). (l + (n - 1)) / n) fewer, one_fills n (length (b ∷ bs)) some (omega arith))

pub count_pieces : (n : ℕ) (bytes : List ℕ) → 0 < n → length (pieces n bytes) ≡ (length bytes + (n - 1)) / n
unfolding pieces
count_pieces n bytes some = first_count (length bytes) n bytes some (omega arith)

-- a file before its end
pub count_sending : (message : ℕ) (name : List ℕ) (size : ℕ) (bytes : List ℕ) → 2 ≤ message → length (sending message name size bytes) + 1 ≡ cut_length message (length bytes)
count_sending message name size bytes two =
    let e : message - 1 - 1 ≡ message - 2 = omega arith in
    let n = count_pieces (message - 1) bytes (omega (arith, two)) ∙ ap (λ (k : ℕ). (length bytes + k) / (message - 1)) e in
    omega (arith, n, length-map (pieces (message - 1) bytes) piece_message)

-- all of it
pub count_cut : (message : ℕ) (file : File) → 2 ≤ message → length (cut message file) ≡ cut_length message (length file.bytes)
count_cut message file two =
    length-append (begun message file) (end_of file ∷ []) ∙ count_sending message file.name (length file.bytes) file.bytes two

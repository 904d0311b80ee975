-- The pieces of some bytes.
use Rattle.std.proofs.Common.{◌≡◌, ℕ, zero, suc, ◌<◌, ◌≤◌, List, [], ◌∷◌, ◌++◌, length, take, drop, refl, ◌∙◌, ap, arith, length-drop, length-take}
use Rattle.std.specs.List.{AllByRecursion, concat}
use Rattle.std.proofs.lemmas.List.{take-append-drop}
use Rattle.file_messages.specs.Cuts.{first_pieces, pieces}

-- a piece has some bytes
abbrev pub HasBytes : List ℕ → Type 0
HasBytes piece = 0 < length piece

first_some : (k n : ℕ) (bytes : List ℕ) → 0 < n → AllByRecursion HasBytes (first_pieces k n bytes)
first_some zero n bytes some = tt
first_some (suc k) n [] some = tt
first_some (suc k) n (b ∷ bs) some = (omega (arith, some, length-take n (b ∷ bs)), first_some k n (drop n (b ∷ bs)) some)

pub pieces_have : (n : ℕ) (bytes : List ℕ) → 0 < n → AllByRecursion HasBytes (pieces n bytes)
unfolding pieces
pieces_have n bytes some = first_some (length bytes) n bytes some

all_pieces : (k n : ℕ) (bytes : List ℕ) → 0 < n → length bytes ≤ k → concat (first_pieces k n bytes) ≡ bytes
all_pieces zero n [] some le = refl
all_pieces zero n (b ∷ bs) some le = absurd (omega (arith, le))
all_pieces (suc k) n [] some le = refl
all_pieces (suc k) n (b ∷ bs) some le =
    ap (λ (l : List ℕ). take n (b ∷ bs) ++ l) (all_pieces k n (drop n (b ∷ bs)) some (omega (arith, le, some, length-drop n (b ∷ bs)))) ∙ take-append-drop n (b ∷ bs)

pub pieces_make : (n : ℕ) (bytes : List ℕ) → 0 < n → concat (pieces n bytes) ≡ bytes
unfolding pieces
pieces_make n bytes some = all_pieces (length bytes) n bytes some (omega arith)

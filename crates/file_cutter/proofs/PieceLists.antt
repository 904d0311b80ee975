-- The pieces of some bytes, one after another.
use Rattle.std.proofs.Common.{◌≡◌, ℕ, zero, suc, ◌<◌, ◌≤◌, List, [], ◌∷◌, ◌++◌, length, take, drop, refl, ◌∙◌, ap, subst, arith, length-append, length-drop}
use Rattle.std.proofs.Math.Seq.{take-append_seam, drop-append_seam}
use Rattle.std.proofs.Math.ListN.{drop_of_length-le}
use Rattle.std.proofs.lemmas.List.{take_all}
use Rattle.file_messages.specs.Cuts.{first_pieces, pieces}

-- as many steps as bytes are enough
enough : (k j n : ℕ) (file : List ℕ) → 0 < n → length file ≤ k → length file ≤ j → first_pieces k n file ≡ first_pieces j n file
enough zero zero n file some le le' = refl
enough zero (suc j) n [] some le le' = refl
enough zero (suc j) n (b ∷ bs) some le le' = absurd (omega (arith, le))
enough (suc k) zero n [] some le le' = refl
enough (suc k) zero n (b ∷ bs) some le le' = absurd (omega (arith, le'))
enough (suc k) (suc j) n [] some le le' = refl
enough (suc k) (suc j) n (b ∷ bs) some le le' =
    ap (λ (ps : List (List ℕ)). take n (b ∷ bs) ∷ ps) (enough k j n (drop n (b ∷ bs)) some (omega (arith, le, some, length-drop n (b ∷ bs))) (omega (arith, le', some, length-drop n (b ∷ bs))))

pub pieces_none : (n : ℕ) → pieces n [] ≡ []
unfolding pieces
pieces_none n = refl

pub pieces_some : (n : ℕ) (file : List ℕ) → 0 < n → 0 < length file → pieces n file ≡ take n file ∷ pieces n (drop n file)
unfolding pieces
pieces_some n [] some any = absurd (omega (arith, any))
pieces_some n (b ∷ bs) some any =
    ap (λ (ps : List (List ℕ)). take n (b ∷ bs) ∷ ps) (enough (length bs) (length (drop n (b ∷ bs))) n (drop n (b ∷ bs)) some (omega (arith, some, length-drop n (b ∷ bs))) (omega arith))

-- a full piece before a rest
pub pieces_before : (n : ℕ) (piece rest : List ℕ) → 0 < length piece → length piece ≡ n → pieces n (piece ++ rest) ≡ piece ∷ pieces n rest
pieces_before n piece rest any full =
    let here : take n (piece ++ rest) ≡ piece = subst (λ k. take k (piece ++ rest) ≡ piece) full (take-append_seam piece rest) in
    let there : drop n (piece ++ rest) ≡ rest = subst (λ k. drop k (piece ++ rest) ≡ rest) full (drop-append_seam piece rest) in
    pieces_some n (piece ++ rest) (omega (arith, any, full)) (omega (arith, any, length-append piece rest)) ∙ (λ i. here i ∷ pieces n (there i))

-- the last piece
pub pieces_last : (n : ℕ) (piece : List ℕ) → 0 < length piece → length piece ≤ n → pieces n piece ≡ piece ∷ []
pieces_last n piece any le =
    let here : take n piece ≡ piece = take_all n piece le in
    let there : drop n piece ≡ [] = drop_of_length-le piece le in
    pieces_some n piece (omega (arith, any, le)) any ∙ (λ i. here i ∷ pieces n (there i)) ∙ ap (λ (ps : List (List ℕ)). piece ∷ ps) (pieces_none n)

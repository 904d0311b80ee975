-- Bytes that are read into a room.
use Rattle.std.proofs.Common.{◌≡◌, ℕ, ◌+◌, ◌≤◌, List, [], ◌∷◌, ◌++◌, length, take, sym, ap, ◌∙◌, arith}
use Rattle.std.proofs.lemmas.List.{take-append-le, length-take-le}
use Rattle.std.proofs.Math.Seq.{take-append-add}
use borrow.Rule.Slice.PartMut.{put_mid, post_of}

-- behind those that it has
pub read_behind : (room into : List ℕ) (at n k : ℕ) → at ≤ length room → n ≤ length into → take (at + n) (put_mid at k room into) ≡ take at room ++ take n into
read_behind room into at n k fits few =
    let held = take at room in
    let rest = post_of at k room in
    ap (λ m. take (m + n) (held ++ (into ++ rest))) (sym (length-take-le at room fits))
    ∙ take-append-add held (into ++ rest) n
    ∙ ap (λ z. held ++ z) (take-append-le n into rest few)

-- behind a zero
pub behind_zero : (into rest : List ℕ) (n : ℕ) → n ≤ length into → take (n + 1) (0 ∷ into ++ rest) ≡ 0 ∷ take n into
behind_zero into rest n few =
    let e : n + 1 ≡ 1 + n = omega arith in
    ap (λ k. take k (0 ∷ into ++ rest)) e ∙ take-append-add (0 ∷ []) (into ++ rest) n ∙ ap (λ (z : List ℕ). 0 ∷ z) (take-append-le n into rest few)

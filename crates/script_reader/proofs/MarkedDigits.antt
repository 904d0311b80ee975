-- A mark and the digits of a number, written at the end of a room that is filled with the mark.
use Rattle.std.proofs.Common.{◌≡◌, ℕ, ◌+◌, ◌^◌, ◌<◌, ◌≤◌, List, ◌∷◌, ◌++◌, length, get_or, take, drop, replicate, decimal, sym, ap, ◌∙◌, append-nil, length-append, length-drop, arith}
use Rattle.std.proofs.lemmas.Fmt.{decimal_nonempty}
use Rattle.std.proofs.lemmas.List.{get_or-take, get_or-replicate, drop_more}

pub marked : (mark n first k : ℕ) (room : List ℕ) → n < 2 ^ 64 → k + 1 ≡ first → first ≤ 21 → drop first room ≡ decimal n ++ drop 21 (replicate 21 mark) → take first room ≡ take first (replicate 21 mark) → drop k room ≡ mark ∷ decimal n
marked mark n first k room fits e low digits before =
    let long = length-append (decimal n) (drop 21 (replicate 21 mark)) in
    let inside : k < length room = omega (arith, e, ap length digits, length-drop first room, long, decimal_nonempty n fits) in
    let here : get_or room k 0 ≡ mark =
    sym (get_or-take first room k 0 (omega (arith, e)))
    ∙ ap (λ (xs : List ℕ). get_or xs k 0) before
    ∙ get_or-take first (replicate 21 mark) k 0 (omega (arith, e))
    ∙ get_or-replicate 21 k mark 0 (omega (arith, e, low)) in
    let rest : drop (k + 1) room ≡ decimal n = rw e (digits ∙ append-nil (decimal n)) in
    drop_more room k 0 inside ∙ ap (λ (b : ℕ). b ∷ drop (k + 1) room) here ∙ ap (λ (xs : List ℕ). mark ∷ xs) rest

-- Bytes that are read ahead.
use Rattle.std.proofs.Common.{◌≡◌, ℕ, ◌+◌, ◌-◌, ◌<◌, ◌≤◌, List, [], ◌∷◌, ◌++◌, Option, Some, None, length, take, drop, get_or, sym, ap, ◌∙◌, arith, suc}
use Rattle.std.proofs.Math.Seq.{drop-cons}
use Rattle.std.specs.Io.KnownBytes.{prepend_known, Consumes}

-- what is held begins with the byte at the start
pub held_is : (cells : List ℕ) (start end : ℕ) → start < end → end ≤ length cells → take (end - start) (drop start cells) ≡ get_or cells start 0 ∷ take (end - (start + 1)) (drop (start + 1) cells)
held_is cells start end some fits =
    let n : end - start ≡ suc (end - (start + 1)) = omega (arith, some) in
    let next : suc start ≡ start + 1 = omega arith in
    let d : drop start cells ≡ get_or cells start 0 ∷ drop (suc start) cells = drop-cons cells start 0 (omega (arith, some, fits)) in
    ap (λ k. take k (drop start cells)) n ∙ ap (λ (l : List ℕ). take (suc (end - (start + 1))) l) d ∙ ap (λ k. get_or cells start 0 ∷ take (end - (start + 1)) (drop k cells)) next

pub takes_held : (a : Option (List ℕ)) (x : ℕ) (held rest : List ℕ) → held ≡ x ∷ rest → Consumes (prepend_known held a) (prepend_known rest a) (x ∷ [])
takes_held None x held rest e = tt
takes_held (Some xs) x held rest e = ap (λ (l : List ℕ). l ++ xs) e

pub takes_read : (a b : Option (List ℕ)) (x : ℕ) (held piece rest : List ℕ) → held ≡ [] → Consumes a b piece → piece ≡ x ∷ rest → Consumes (prepend_known held a) (prepend_known rest b) (x ∷ [])
takes_read None b x held piece rest none c e = tt
takes_read (Some xs) None x held piece rest none c e = absurd c
takes_read (Some xs) (Some ys) x held piece rest none c e = ap (λ (l : List ℕ). l ++ xs) none ∙ c ∙ ap (λ (l : List ℕ). l ++ ys) e

pub first_is : (cells : List ℕ) (n : ℕ) → 0 < n → n ≤ length cells → take n cells ≡ get_or cells 0 0 ∷ take (n - (0 + 1)) (drop (0 + 1) cells)
first_is cells n some fits =
    let same : n - 0 ≡ n = omega arith in
    ap (λ k. take k cells) (sym same) ∙ held_is cells 0 n some fits

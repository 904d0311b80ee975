-- Bytes that are read behind others.
use Rattle.std.proofs.Common.{◌≡◌, ℕ, ◌+◌, ◌≤◌, List, ◌++◌, length, take, sym, ap, ◌∙◌}
use Rattle.std.proofs.lemmas.List.{take-append-le, length-take-le}
use Rattle.std.proofs.Math.Seq.{take-append-add}
use borrow.Rule.Slice.PartMut.{put_mid, post_of}

pub read_behind : (key into : List ℕ) (at n k : ℕ) → at ≤ length key → n ≤ length into → take (at + n) (put_mid at k key into) ≡ take at key ++ take n into
read_behind key into at n k fits few =
    let held = take at key in
    let rest = post_of at k key in
    ap (λ m. take (m + n) (held ++ (into ++ rest))) (sym (length-take-le at key fits))
    ∙ take-append-add held (into ++ rest) n
    ∙ ap (λ z. held ++ z) (take-append-le n into rest few)

-- A script is read in one way only.
use Rattle.std.proofs.Common.{◌≡◌, ℕ, List, [], ◌∷◌, ◌++◌, Option, None, Some, refl, sym, ◌∙◌, append_assoc}
use Rattle.std.specs.Io.KnownBytes.{Consumes}
use Rattle.script_reader.specs.declared.line.Line.{Line}
use Rattle.script_reader.specs.Lines.{AreLines}
use Rattle.script_reader.proofs.LineEnds.{one_prefix}
use Rattle.script_reader.proofs.LineLaws.{one_line}

pub taken : (all bytes : List ℕ) (mid : Option (List ℕ)) → Consumes (Some all) mid (bytes ++ 10 ∷ []) → (rest : List ℕ) × (mid ≡ Some rest) × (all ≡ bytes ++ 10 ∷ rest)
taken all bytes None h = absurd h
taken all bytes (Some rest) h = (rest, refl, h ∙ append_assoc bytes (10 ∷ []) rest)

pub not_nothing : (bytes rest : List ℕ) → bytes ++ 10 ∷ rest ≡ [] → ⊥
not_nothing [] rest e = cc
not_nothing (b ∷ bytes) rest e = cc

pub one_reading : (all : List ℕ) (a b : List Line) → AreLines (Some all) a (Some []) → AreLines (Some all) b (Some []) → a ≡ b
one_reading all [] [] p q = refl
one_reading all [] (y ∷ ys) p q =
    let t = taken all q.0 q.1 q.4 in
    absurd (not_nothing q.0 t.0 (sym t.2 ∙ sym p))
one_reading all (x ∷ xs) [] p q =
    let t = taken all p.0 p.1 p.4 in
    absurd (not_nothing p.0 t.0 (sym t.2 ∙ sym q))
one_reading all (x ∷ xs) (y ∷ ys) p q =
    let t = taken all p.0 p.1 p.4 in
    let u = taken all q.0 q.1 q.4 in
    let same = one_prefix p.0 q.0 t.0 u.0 p.2 q.2 (sym t.2 ∙ u.2) in
    let first : x ≡ y = one_line q.0 x y (rw same.0 at p.3) q.3 in
    let left : AreLines (Some u.0) xs (Some []) = rw (t.1, same.1) at p.5 in
    let right : AreLines (Some u.0) ys (Some []) = rw u.1 at q.5 in
    let more = one_reading u.0 xs ys left right in
    cc

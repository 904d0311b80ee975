-- Laws of bytes that are known to be written.
use Rattle.std.proofs.Common.{◌≡◌, ℕ, ◌+◌, ◌≤◌, List, [], ◌++◌, Option, Some, None, length, take, drop, sym, ap, ◌∙◌, append_assoc, append-nil}
use Rattle.std.proofs.lemmas.List.{drop-drop, take-append-drop, take_at, length-take-le}
use Rattle.std.proofs.Math.Seq.{take-add}
use Rattle.std.specs.Io.KnownBytes.{Appends, Keeps}
use Rattle.pump_link.specs.Causes.{AppendsPrefix}

pub Appends-none : (a : Option (List ℕ)) → Appends a a []
Appends-none None = tt
Appends-none (Some xs) = sym (append-nil xs)

pub Appends-then : (a b c : Option (List ℕ)) (x y : List ℕ) → Appends a b x → Appends b c y → Appends a c (x ++ y)
Appends-then None b c x y p q = tt
Appends-then (Some old) None c x y p q = absurd p
Appends-then (Some old) (Some mid) None x y p q = absurd q
Appends-then (Some old) (Some mid) (Some cs) x y p q = q ∙ ap (λ z. z ++ y) p ∙ append_assoc old x y

pub Appends-keeps : (a b c : Option (List ℕ)) (x : List ℕ) → Appends a b x → Keeps b c → Appends a c x
Appends-keeps None b c x p q = tt
Appends-keeps (Some old) None c x p q = absurd p
Appends-keeps (Some old) (Some mid) None x p q = absurd q
Appends-keeps (Some old) (Some mid) (Some cs) x p q = q ∙ p

pub AppendsPrefix-stops : (a b c : Option (List ℕ)) (bs : List ℕ) (at : ℕ) → Appends a b (take at bs) → Keeps b c → AppendsPrefix a c bs
AppendsPrefix-stops a b c bs at p q = (take at bs, drop at bs, sym (take-append-drop at bs), Appends-keeps a b c _ p q)

pub Appends-piece : (a b c : Option (List ℕ)) (bs : List ℕ) (at n : ℕ) → Appends a b (take at bs) → Appends b c (take n (drop at bs)) → Appends a c (take (at + n) bs)
Appends-piece a b c bs at n p q = rw (take-add at n bs) (Appends-then a b c _ _ p q)

-- what a read of n bytes copied, and what is left after it, are what was left
pub prefix_and_rest : (n at : ℕ) (bytes into copied : List ℕ) → n ≤ length (drop at bytes) → copied ≡ take n (drop at bytes) → drop at bytes ≡ take n (copied ++ drop n into) ++ drop (at + n) bytes
prefix_and_rest n at bytes into copied fits e =
    let l : length (take n (drop at bytes)) ≡ n = length-take-le n (drop at bytes) fits in
    let cut : take n (copied ++ drop n into) ≡ take n (drop at bytes) = rw e (take_at (take n (drop at bytes)) (drop n into) n l) in
    rw (cut, ← drop-drop n at bytes) (sym (take-append-drop n (drop at bytes)))

-- One piece of a record after another.
use Rattle.std.proofs.Common.{◌≡◌, ◌⊎◌, inl, inr, ℕ, ◌≤◌, Bool, true, false, List, [], ◌++◌, Option, refl, sym, ap, ◌∙◌, subst, append-nil, append_assoc, le_refl, le_trans, arith}
use Rattle.std.specs.Prelude.{◌||◌}
use Rattle.std.specs.Io.KnownBytes.{Appends}
use Rattle.pump_frame.specs.Counts.{Rose}
use Rattle.pump_link.specs.Causes.{AppendsPrefix}
use Rattle.pump_link.proofs.Known.{Appends-none, Appends-then}
use Rattle.race.specs.Tape.{held_of, has_failed, Keeps, Prints, Written}
use Rattle.race.specs.declared.tape.Tape.{Tape}

pub rose_later : (a b c : ℕ) → a ≤ b → Rose b c → Rose a c
rose_later a b c le h = omega (arith, le, h)

prefix_more : (a b : Option (List ℕ)) (x y : List ℕ) → AppendsPrefix a b x → AppendsPrefix a b (x ++ y)
prefix_more a b x y (prefix, rest, is, p) = (prefix, rest ++ y, ap (λ (z : List ℕ). z ++ y) is ∙ append_assoc prefix rest y, p)

all_prefix : (a b : Option (List ℕ)) (x : List ℕ) → Appends a b x → AppendsPrefix a b x
all_prefix a b x p = (x, [], sym (append-nil x), p)

then_prefix : (a b c : Option (List ℕ)) (x y : List ℕ) → Appends a b x → AppendsPrefix b c y → AppendsPrefix a c (x ++ y)
then_prefix a b c x y p (prefix, rest, is, q) = (x ++ prefix, rest, ap (λ (z : List ℕ). x ++ z) is ∙ sym (append_assoc x prefix rest), Appends-then a b c x prefix p q)

-- a new tape
pub keeps_none : (tape : Tape) (start : Option (List ℕ)) (count : ℕ) → held_of tape ≡ [] → has_failed tape ≡ false → Keeps tape start start count count []
keeps_none tape start count empty going = record {
  whole = λ e. ([], Appends-none start, sym empty);
  prefix = all_prefix start start [] (Appends-none start);
  cause = λ e. (let no = sym e ∙ going in absurd (cc));
  later = le_refl count;
}

-- more is held
pub keeps_more : (tape later : Tape) (start now : Option (List ℕ)) (first count : ℕ) (bytes more : List ℕ) → held_of later ≡ held_of tape ++ more → has_failed later ≡ has_failed tape
    → Keeps tape start now first count bytes → Keeps later start now first count (bytes ++ more)
keeps_more tape later start now first count bytes more held failed k = record {
  whole = λ e.
      let w = k.whole (sym failed ∙ e) in
      (w.0, w.1, ap (λ (z : List ℕ). z ++ more) w.2 ∙ append_assoc w.0 (held_of tape) more ∙ ap (λ (z : List ℕ). w.0 ++ z) (sym held));
  prefix = prefix_more start now bytes more k.prefix;
  cause = λ e. k.cause (sym failed ∙ e);
  later = k.later;
}

-- all that was held is written
pub keeps_written : (tape later : Tape) (start now new : Option (List ℕ)) (first count count' : ℕ) (bytes : List ℕ) → has_failed tape ≡ false → held_of later ≡ [] → has_failed later ≡ false → count ≤ count'
    → Appends now new (held_of tape) → Keeps tape start now first count bytes → Keeps later start new first count' bytes
keeps_written tape later start now new first count count' bytes going empty still le p k =
    let w = k.whole going in
    let all : Appends start new bytes = subst (Appends start new) (sym w.2) (Appends-then start now new w.0 (held_of tape) w.1 p) in
    record {
      whole = λ e. (bytes, all, sym (append-nil bytes) ∙ ap (λ (z : List ℕ). bytes ++ z) (sym empty));
      prefix = all_prefix start new bytes all;
      cause = λ e. (let no = sym e ∙ still in absurd (cc));
      later = le_trans k.later le;
    }

-- the write failed
pub keeps_cut : (tape later : Tape) (start now new : Option (List ℕ)) (first count count' : ℕ) (bytes : List ℕ) → has_failed tape ≡ false → has_failed later ≡ true → count ≤ count' → Rose count count'
    → AppendsPrefix now new (held_of tape) → Keeps tape start now first count bytes → Keeps later start new first count' bytes
keeps_cut tape later start now new first count count' bytes going failed le rose p k =
    let w = k.whole going in
    record {
      whole = λ e. (let no = sym e ∙ failed in absurd (cc));
      prefix = subst (AppendsPrefix start new) (sym w.2) (then_prefix start now new w.0 (held_of tape) w.1 p);
      cause = λ e. rose_later first count count' k.later rose;
      later = le_trans k.later le;
    }

-- nothing is held any more
pub written_of : (tape : Tape) (start now : Option (List ℕ)) (first count : ℕ) (bytes : List ℕ) → held_of tape ≡ [] → Keeps tape start now first count bytes → Written (has_failed tape) start now first count bytes
written_of tape start now first count bytes empty k = record {
  whole = λ e.
      let w = k.whole e in
      subst (Appends start now) (sym (append-nil w.0) ∙ ap (λ (z : List ℕ). w.0 ++ z) (sym empty) ∙ sym w.2) w.1;
  prefix = k.prefix;
  cause = k.cause;
}

pub prints_none : (tape : Tape) (now : Option (List ℕ)) (count : ℕ) → Prints tape tape now now count count []
prints_none tape now count = λ start first earlier k. subst (Keeps tape start now first count) (sym (append-nil earlier)) k

pub prints_then : (a b c : Tape) (o p q : Option (List ℕ)) (i j k : ℕ) (xs ys : List ℕ) → Prints a b o p i j xs → Prints b c p q j k ys → Prints a c o q i k (xs ++ ys)
prints_then a b c o p q i j k xs ys one two = λ start first earlier kept.
    subst (Keeps c start q first k) (append_assoc earlier xs ys) (two start first (earlier ++ xs) (one start first earlier kept))

pub either : (a b : Bool) → (a ≡ true) ⊎ (b ≡ true) → a || b ≡ true
either true b e = refl
either false b (inl e) = absurd (cc)
either false b (inr e) = e

-- what holds of a failure whether a worker was stopped or not
pub failed_of : (low high failed : Bool) (R : Type 0) → (low ≡ false → high ≡ false → failed ≡ true → R) → ((low ≡ true) ⊎ (high ≡ true) → failed ≡ true → R) → failed ≡ true → R
failed_of false false failed R ran stopped e = ran refl refl e
failed_of false true failed R ran stopped e = stopped (inr refl) e
failed_of true high failed R ran stopped e = stopped (inl refl) e

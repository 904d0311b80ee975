-- Laws of lists that are told: what grows at its end, and what is drawn from its prefix.
use Rattle.std.proofs.Common.{List, [], ◌++◌, sym, subst, append_assoc, append-nil}
use Rattle.pump_link.specs.Tells.{Grows, Draws}

pub Grows-nil : {A : Type 0} (p : List A → Type 0) → Grows p p []
Grows-nil p = record { told = λ log t. subst p (sym (append-nil log)) t }

pub Grows-then : {A : Type 0} (p q r : List A → Type 0) (xs ys : List A) → Grows p q xs → Grows q r ys → Grows p r (xs ++ ys)
Grows-then p q r xs ys f g = record { told = λ log t. subst r (append_assoc log xs ys) (g.told (log ++ xs) (f.told log t)) }

-- a step that adds nothing, behind another or before it
pub Grows-kept : {A : Type 0} (p q r : List A → Type 0) (xs : List A) → Grows p q xs → Grows q r [] → Grows p r xs
Grows-kept p q r xs f g = subst (Grows p r) (append-nil xs) (Grows-then p q r xs [] f g)

pub Grows-after : {A : Type 0} (p q r : List A → Type 0) (xs : List A) → Grows p q [] → Grows q r xs → Grows p r xs
Grows-after p q r xs f g = Grows-then p q r [] xs f g

-- what began with nothing told has just this
pub Grows-all : {A : Type 0} (p q : List A → Type 0) (xs : List A) → p [] → Grows p q xs → q xs
Grows-all p q xs none f = f.told [] none

pub Draws-nil : {A : Type 0} (p : List A → Type 0) → Draws p p []
Draws-nil p = record { told = λ rest t. t }

pub Draws-then : {A : Type 0} (p q r : List A → Type 0) (xs ys : List A) → Draws p q xs → Draws q r ys → Draws p r (xs ++ ys)
Draws-then p q r xs ys f g = record { told = λ rest t. subst p (sym (append_assoc xs ys rest)) (f.told (ys ++ rest) (g.told rest t)) }

pub Draws-kept : {A : Type 0} (p q r : List A → Type 0) (xs : List A) → Draws p q xs → Draws q r [] → Draws p r xs
Draws-kept p q r xs f g = subst (Draws p r) (append-nil xs) (Draws-then p q r xs [] f g)

-- what was drawn from is told to give this, where the rest is told to give nothing, as it always is
pub Draws-all : {A : Type 0} (p q : List A → Type 0) (xs : List A) → q [] → Draws p q xs → p xs
Draws-all p q xs none f = subst p (append-nil xs) (f.told [] none)

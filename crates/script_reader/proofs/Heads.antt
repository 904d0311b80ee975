-- A line's head that is not there is no line.
use Rattle.std.proofs.Common.{◌≡◌, Option, None, Some, option_map, refl}

pub unmapped : {A B : Type 0} (f : A → B) (given : Option A) (y : B) → ((x : A) → given ≡ Some x → ⊥) → option_map f given ≡ Some y → ⊥
unmapped f None y never e = cc
unmapped f (Some x) y never e = never x refl

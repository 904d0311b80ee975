-- A disk that isn't the one that a fault is of.
use Rattle.std.proofs.Common.{◌≡◌, ℕ, ◌&&◌, Bool, true, false, not, Err, refl, sym, ◌∙◌, ap, subst}
use Rattle.std.proofs.lemmas.Bool.{false≢true}
use Rattle.disk_model.specs.Disk.{Meaning}
use Rattle.disk_model.specs.DiskNames.{same_role}
use Rattle.disk_model.specs.declared.name.Role.{Role}
use Rattle.recovery.specs.Calls.{is_device}
use Rattle.recovery.specs.Moves.{IsKept, Counted, is_blamed}
use Rattle.recovery.specs.declared.trio.MoveFault.{MoveFault}

other_side : (x s d : Bool) → (d ≡ true → x ≡ false) → (x && s && d) ≡ false
other_side false s d is = refl
other_side true s true is = absurd (false≢true (sym (is refl)))
other_side true true false is = refl
other_side true false false is = refl

only : (b : Bool) → (true && b && false) ≡ false
only true = refl
only false = refl

other_role : (x d : Bool) (q r role : Role) → (d ≡ true → q ≡ r) → same_role r role ≡ false → (x && same_role q role && d) ≡ false
other_role false d q r role is apart = refl
other_role true true q r role is apart = let none : same_role q role ≡ false = ap (λ s. same_role s role) (is refl) ∙ apart in ap (λ b. true && b && true) none
other_role true false q r role is apart = only (same_role q role)

module _ {D : Type 0} (m : Meaning D) (role : Role) (f : MoveFault) (old now : D) where
  -- a fault of a new disk
  pub old_kept : (is_device f.why ≡ true → f.new ≡ true) → IsKept m old now false → IsKept m old now (is_blamed {T = ℕ} false role (Err f))
  old_kept is was = subst (λ b. IsKept m old now b) (sym (other_side (not f.new) (same_role f.role role) (is_device f.why) (λ broken. ap not (is broken)))) was

  -- a fault of an old disk
  pub new_kept : (is_device f.why ≡ true → f.new ≡ false) → IsKept m old now false → IsKept m old now (is_blamed {T = ℕ} true role (Err f))
  new_kept is was = subst (λ b. IsKept m old now b) (sym (other_side f.new (same_role f.role role) (is_device f.why) is)) was

  -- a fault of a disk of another role
  module _ (r : Role) (is : is_device f.why ≡ true → f.role ≡ r) (apart : same_role r role ≡ false) where
    pub apart_kept : (new : Bool) → IsKept m old now false → IsKept m old now (is_blamed {T = ℕ} new role (Err f))
    apart_kept true was = subst (λ b. IsKept m old now b) (sym (other_role f.new (is_device f.why) f.role r role is apart)) was
    apart_kept false was = subst (λ b. IsKept m old now b) (sym (other_role (not f.new) (is_device f.why) f.role r role is apart)) was

    pub apart_counted : Counted m old now false → Counted m old now (is_blamed {T = ℕ} true role (Err f))
    apart_counted was = subst (λ b. Counted m old now b) (sym (other_role f.new (is_device f.why) f.role r role is apart)) was

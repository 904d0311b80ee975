-- A disk that an opening called is kept.
use Rattle.std.proofs.Common.{◌≡◌, ◌⊎◌, inl, inr, ◌&&◌, Bool, true, false, refl, sym, ap, subst, arith}
use Rattle.std.proofs.lemmas.Bool.{false≢true}
use Rattle.disk_model.specs.Disk.{Meaning, Moves, Same}
use Rattle.disk_model.specs.declared.name.Role.{Role}
use Rattle.disk_model.specs.declared.name.Role.TheVariants.{Low, High, Recv}
use Rattle.disk_model.proofs.Run.{started}
use Rattle.pump_frame.specs.declared.row.SessionRow.{SessionRow}
use Rattle.recovery.specs.Calls.{Calls, CallsHigh, is_low, is_high}
use Rattle.recovery.specs.Moves.{IsKept}
use Rattle.recovery.specs.declared.why.Why.{Why}
use Rattle.disk_model.specs.DiskNames.{same_role}

module _ {D : Type 0} (m : Meaning D) where
  pub kept : (old new : D) (f : Bool) → Moves m Same old new → Calls m old new f → IsKept m old new f
  kept old new f moves calls = record { moves = moves; counted = record { counts = calls.counts; rose = calls.rose } }

  -- one that no call reached
  pub kept_still : (d : D) → IsKept m d d false
  kept_still d = record { moves = started m Same (λ c. refl) d; counted = record { counts = omega arith; rose = λ is. elim (false≢true is) [ ] } }

  low_named : (role : Role) → is_low role ≡ same_role role Low
  low_named Low = refl
  low_named High = refl
  low_named Recv = refl

  high_named : (role : Role) → is_high role ≡ same_role role High
  high_named Low = refl
  high_named High = refl
  high_named Recv = refl

  -- the two disks after a refused opening
  pub kept_low : (role : Role) (failed : Bool) (old new : D) → Moves m Same old new → Calls m old new (is_low role && failed) → IsKept m old new (same_role role Low && failed)
  kept_low role failed old new moves calls = subst (λ b. IsKept m old new (b && failed)) (low_named role) (kept old new (is_low role && failed) moves calls)

  pub kept_high : (row : SessionRow) (low : D) (role : Role) (failed : Bool) (old new : D) → Moves m Same old new → CallsHigh m row low old new (is_high role && failed) → IsKept m old new (same_role role High && failed)
  kept_high row low role failed old new moves calls = subst (λ b. IsKept m old new (b && failed)) (high_named role) (elim calls [
    | inl called ↦ kept old new (is_high role && failed) moves called.0
    | inr not_called ↦ subst (λ d. IsKept m old d (is_high role && failed)) (sym not_called.0) (subst (λ b. IsKept m old old b) (sym not_called.1) (kept_still old))
  ])

-- the count of the one of two disks that failed
pub told_of_one : (role : Role) (why low high : Why) → (role ≡ Low) ⊎ (role ≡ High) → (role ≡ Low → why ≡ low) → (role ≡ High → why ≡ high) → ((role ≡ Low) × (why ≡ low)) ⊎ ((role ≡ High) × (why ≡ high))
told_of_one role why low high (inl is) first second = inl (is, first is)
told_of_one role why low high (inr is) first second = inr (is, second is)

-- where the pump's two disks alone can fail, a failure isn't the receiver's
pub recv_unblamed : (role : Role) (failed : Bool) → (failed ≡ true → (role ≡ Low) ⊎ (role ≡ High)) → (same_role role Recv && failed) ≡ false
recv_unblamed Low failed is = refl
recv_unblamed High failed is = refl
recv_unblamed Recv true is = absurd (elim (is refl) [ inl low ↦ false≢true (ap is_low low) | inr high ↦ false≢true (ap is_high high) ])
recv_unblamed Recv false is = refl

-- Whose disk failed, where an opening is refused.
use Rattle.std.proofs.Common.{◌≡◌, ◌⊎◌, inl, inr, ◌&&◌, Bool, true, false, refl, sym, ap, ◌∙◌}
use Rattle.disk_model.specs.Disk.{Meaning}
use Rattle.disk_model.specs.declared.name.Role.{Role}
use Rattle.disk_model.specs.declared.name.Role.TheVariants as roles
use Rattle.recovery.specs.Calls.{is_low}
use Rattle.recovery.specs.declared.why.Why.{Why}
use Rattle.recovery.specs.declared.why.Why.TheVariants.{Device}
use Rattle.two_worlds.specs.Openings.{disk_back}
use Rattle.two_worlds.specs.Private.Readied.{role_blamed}
use Rattle.two_worlds.specs.Rooms.{is_role}
use Rattle.two_worlds.specs.declared.not_open.NotOpen.{NotOpen}

-- low's disk, by either way of saying it
pub low_said : (role : Role) (device : Bool) → (is_low role && device) ≡ (device && is_role roles.Low role)
low_said roles.Low true = refl
low_said roles.Low false = refl
low_said roles.High true = refl
low_said roles.High false = refl
low_said roles.Recv true = refl
low_said roles.Recv false = refl

pub none_failed : (device : Bool) → (device && false) ≡ false
none_failed true = refl
none_failed false = refl

pub one_failed : (device : Bool) → (device && true) ≡ device
one_failed true = refl
one_failed false = refl

-- it is not the receiver's
pub not_recv : (role : Role) (device : Bool) → (role ≡ roles.Low) ⊎ (role ≡ roles.High) → (device && is_role roles.Recv role) ≡ false
not_recv role device (inl is) = ap (λ (r : Role). device && is_role roles.Recv r) is ∙ none_failed device
not_recv role device (inr is) = ap (λ (r : Role). device && is_role roles.Recv r) is ∙ none_failed device

-- the count that is told is that of the disk that failed
module _ {D : Type 0} (m : Meaning D) (e : NotOpen D) (why : Why) where
  pub counts_pump : (role : Role) → (role ≡ roles.Low) ⊎ (role ≡ roles.High) → (role ≡ roles.Low → why ≡ Device (m.count e.low)) → (role ≡ roles.High → why ≡ Device (m.count e.high))
      → why ≡ Device (m.count (disk_back role e))
  counts_pump role (inl is) low high = low is ∙ ap (λ (r : Role). Device (m.count (disk_back r e))) (sym is)
  counts_pump role (inr is) low high = high is ∙ ap (λ (r : Role). Device (m.count (disk_back r e))) (sym is)

  pub counts_blamed : (up : Bool) (role : Role) → role ≡ role_blamed up → (up ≡ false → why ≡ Device (m.count e.low)) → (up ≡ true → why ≡ Device (m.count e.recv))
      → why ≡ Device (m.count (disk_back role e))
  counts_blamed true role is low recv = recv refl ∙ ap (λ (r : Role). Device (m.count (disk_back r e))) (sym is)
  counts_blamed false role is low recv = low refl ∙ ap (λ (r : Role). Device (m.count (disk_back r e))) (sym is)

-- Names of disks are told apart by `same_name`.
use Rattle.std.proofs.Common.{◌≡◌, refl, Bool, true, false, arith}
use Rattle.std.proofs.lemmas.Bool.Decides.{nat_tests}
use Rattle.disk_model.specs.DiskNames.{same_role, same_name}
use Rattle.disk_model.specs.declared.name.DiskName.{DiskName}
use Rattle.disk_model.specs.declared.name.Role.{Role}
use Rattle.disk_model.specs.declared.name.Role.TheVariants.{Low, High, Recv}

same_role_is : (a b : Role) → same_role a b ≡ true → a ≡ b
same_role_is Low Low h = refl
same_role_is Low High h = cc
same_role_is Low Recv h = cc
same_role_is High Low h = cc
same_role_is High High h = refl
same_role_is High Recv h = cc
same_role_is Recv Low h = cc
same_role_is Recv High h = cc
same_role_is Recv Recv h = refl

same_role_refl : (a : Role) → same_role a a ≡ true
same_role_refl Low = refl
same_role_refl High = refl
same_role_refl Recv = refl

pub same_name_is : (a b : DiskName) → same_name a b ≡ true → a ≡ b
same_name_is a b h =
    let sessions : a.session ≡ b.session = grind (arith, nat_tests) in
    let roles : same_role a.role b.role ≡ true = grind (arith, nat_tests) in
    let role = same_role_is a.role b.role roles in
    λ i. record { session = sessions i; role = role i }

pub same_name_refl : (a : DiskName) → same_name a a ≡ true
same_name_refl a = let role = same_role_refl a.role in grind (arith, nat_tests)

pub not_same_name : (a b : DiskName) → (a ≡ b → ⊥) → same_name a b ≡ false
not_same_name a b apart = go (same_name a b) refl
  where
    go : (t : Bool) → same_name a b ≡ t → same_name a b ≡ false
    go true h = absurd (apart (same_name_is a b h))
    go false h = h

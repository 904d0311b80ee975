-- No disk of a chain fails less often than before.
use Rattle.std.proofs.Common.{◌≡◌, ◌≤◌, ℕ, Bool, inl, inr, Option, refl, sym, subst, arith}
use Rattle.disk_model.specs.Disk.{Meaning}
use Rattle.disk_model.specs.declared.name.Role.{Role}
use Rattle.disk_model.specs.declared.name.Role.TheVariants as roles
use Rattle.two_worlds.specs.declared.applied.Stop.{Stop}
use Rattle.two_worlds.specs.declared.pump.Pump.{Pump}
use Rattle.two_worlds.specs.Pumps.{disk_at}
use Rattle.two_worlds.specs.Reads.{ReadsAlone}
use Rattle.two_worlds.specs.Rooms.{Serves}
use Rattle.pump_chain.specs.Failing.{FailsNoLess}
use Rattle.pump_chain.proofs.Counting.{Goes}

serves_later : {D : Type 0} (m : Meaning D) (least : ℕ) (old new : D) (is_fault : Bool) → Serves m least old new is_fault → m.count old ≤ m.count new
serves_later m least old new is_fault (inl (same, none)) = subst (λ d. m.count old ≤ m.count d) (sym same) (omega arith)
serves_later m least old new is_fault (inr a) = a.counts

module _ {D : Type 0} {g : _} (m : Meaning D) where
  -- its disks are as they were
  pub same_later : (s t : Pump D g) → ((role : Role) → disk_at role t ≡ disk_at role s) → FailsNoLess m s t
  same_later s t same role = subst (λ d. m.count (disk_at role s) ≤ m.count d) (sym (same role)) (omega arith)

  -- it was given a line
  pub goes_later : (s t : Pump D g) (stop : Option Stop) → Goes m s t stop → FailsNoLess m s t
  goes_later s t stop go roles.Low = serves_later m _ _ _ _ go.low_goes
  goes_later s t stop go roles.High = serves_later m _ _ _ _ go.high_goes
  goes_later s t stop go roles.Recv = serves_later m _ _ _ _ go.recv_goes

  -- its receiver was read
  pub reads_later : (s t : Pump D g) (is_fault : Bool) → ReadsAlone m roles.Recv s.state t.state is_fault → FailsNoLess m s t
  reads_later s t is_fault r roles.Low = subst (λ d. m.count (disk_at roles.Low s) ≤ m.count d) (sym (r.others roles.Low refl)) (omega arith)
  reads_later s t is_fault r roles.High = subst (λ d. m.count (disk_at roles.High s) ≤ m.count d) (sym (r.others roles.High refl)) (omega arith)
  reads_later s t is_fault r roles.Recv = serves_later m _ _ _ _ r.serves

  -- the other pump is as it was
  pub alone_later : (s t : Pump D g) → t ≡ s → FailsNoLess m s t
  alone_later s t e = subst (λ x. FailsNoLess m s x) (sym e) (λ role. omega arith)

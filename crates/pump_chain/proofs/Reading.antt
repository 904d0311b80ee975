-- The first receiver is read more than once.
use Rattle.std.proofs.Common.{◌≡◌, inl, Bool, true, false, Result, Ok, Err, OnOk, OnErr, refl, ◌∙◌}
use Rattle.disk_model.specs.Disk.{Meaning, Same}
use Rattle.disk_model.specs.declared.name.Role.{Role}
use Rattle.disk_model.proofs.Run.{goes_on_same, started}
use Rattle.two_worlds.specs.declared.pump.Pump.{Pump}
use Rattle.two_worlds.specs.declared.pump.state.PumpState.{PumpState}
use Rattle.two_worlds.specs.Pumps.{is_down}
use Rattle.two_worlds.specs.Reads.{ReadsAlone, ReadsOn, FailsReading}
use Rattle.two_worlds.proofs.Disks.Together.{serves_then}

module _ {D : Type 0} (m : Meaning D) (role : Role) where
  alone_then : (s t u : PumpState D) (is_fault : Bool) → ReadsAlone m role s t false → ReadsAlone m role t u is_fault → ReadsAlone m role s u is_fault
  alone_then s t u is_fault a b = record {
    same = goes_on_same m Same _ _ _ a.same b.same;
    serves = serves_then m 0 _ _ _ is_fault a.serves b.serves;
    others = λ other e. b.others other e ∙ a.others other e;
    row = b.row ∙ a.row;
    down = b.down;
  }

  pub reads_then : {g : _} (s t u : Pump D g) → ReadsOn m role s t → ReadsOn m role t u → ReadsOn m role s u
  reads_then s t u a b = record {
    alone = alone_then s.state t.state u.state false a.alone b.alone;
    moment = b.moment ∙ a.moment;
    counts = b.counts ∙ a.counts;
    stands = λ p h. b.stands p (a.stands p h);
  }

  pub fails_then : {g : _} (s t u : Pump D g) → ReadsOn m role s t → FailsReading m role t u → FailsReading m role s u
  fails_then s t u a b = record {
    alone = alone_then s.state t.state u.state true a.alone b.alone;
    fails = λ p h. b.fails p (a.stands p h);
  }

  -- no read
  pub reads_nothing : {g : _} (s : Pump D g) → is_down s ≡ false → ReadsOn m role s s
  reads_nothing s up = record {
    alone = record { same = started m Same (λ c. refl) _; serves = inl (refl, refl); others = λ other e. refl; row = refl; down = up };
    moment = refl;
    counts = refl;
    stands = λ p h. h;
  }

-- ---- results ----

pub ok_then : {T E X Y : Type 0} (r : Result T E) → (X → Y) → OnOk r X → OnOk r Y
ok_then (Ok value) f x = f x
ok_then (Err e) f x = tt

pub err_then : {T E X Y : Type 0} (r : Result T E) → (X → Y) → OnErr r X → OnErr r Y
err_then (Ok value) f x = tt
err_then (Err e) f x = f x

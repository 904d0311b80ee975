-- Whether an opening goes on to high's disk.
use Rattle.std.proofs.Common.{◌≡◌, Bool, true, false, Option, Some, None, refl, sym}
use Rattle.pump_frame.specs.declared.row.SessionRow.{SessionRow}
use Rattle.disk_model.specs.Disk.{Meaning}
use Rattle.disk_model.specs.declared.name.Role.TheVariants.{Low}
use Rattle.recovery.specs.Refusals.{refused_disk}
use Rattle.recovery.specs.Calls.{Calls, LetsGoOn, is_device}
use Rattle.recovery.specs.declared.why.Why.{Why}

pub some_none : {A : Type 0} (x : Option A) (y : A) → x ≡ None → x ≡ Some y → ⊥
some_none x y none some = absurd (cc)

pub not_armed : (b : Bool) → (b ≡ true → false ≡ true) → b ≡ false
not_armed false never = refl
not_armed true never = sym (never refl)

module _ {D : Type 0} (m : Meaning D) (row : SessionRow) (low : D) where
  -- low's disk is opened
  pub gone_on : (left : D) → Calls m low left false → (m.tells → refused_disk row Low (m.reading low) ≡ None) → m.tells_plan → LetsGoOn m row low
  gone_on left calls fine plan = (not_armed (m.armed low) (calls.always plan), fine (m.plan_tells plan))

  -- low's disk is refused, or failed
  pub stopped : (why : Why) (left : D) → Calls m low left (is_device why) → (is_device why ≡ false → m.tells → refused_disk row Low (m.reading low) ≡ Some why) → m.tells_plan → LetsGoOn m row low → ⊥
  stopped why left calls exact plan go = some_none _ why go.1 (exact (calls.never plan go.0) (m.plan_tells plan))

-- Workers that ran, or that no second thread could be started for.
use Rattle.std.proofs.Common.{◌≡◌, refl, sym, subst}
use Rattle.std.specs.Prelude.{Result, Ok, Err, OnOk, OnErr}
use Rattle.relay_threads.specs.declared.rounds_end.RoundsEnd.{RoundsEnd}
use Rattle.serving.specs.Sessions.{IfEnded, workers_end}
use Rattle.serving.specs.declared.session.SessionEnd.{SessionEnd}
use Rattle.serving.specs.declared.session.SessionEnd.TheVariants.{Memory, Refused, NoDoor, NoThread, Ended}

-- what holds of either end holds of the one that came
pub by_end : {T F : Type 0} (s : Result T F) (low high : RoundsEnd) (end : SessionEnd) → end ≡ workers_end s low high → (LowRan HighRan Kept : Type 0) (Holds : SessionEnd → Type 0)
    → OnOk s LowRan → OnOk s HighRan → OnErr s Kept → (LowRan → HighRan → Holds (Ended low high)) → (Kept → Holds NoThread) → Holds end
by_end {T} {F} s low high end is LowRan HighRan Kept Holds low_ran high_ran kept ended unstarted = subst Holds (sym is) (by s low_ran high_ran kept) where
  by : (x : Result T F) → OnOk x LowRan → OnOk x HighRan → OnErr x Kept → Holds (workers_end x low high)
  by (Ok done) low_ran high_ran kept = ended low_ran high_ran
  by (Err fault) low_ran high_ran kept = unstarted kept

-- what holds where the workers ran
pub ended_so : (end : SessionEnd) (low high : RoundsEnd) (Holds : RoundsEnd → RoundsEnd → Type 0) → end ≡ Ended low high → IfEnded end Holds → Holds low high
ended_so end low high Holds is held = subst (λ e. IfEnded e Holds) is held

pub so_ended : (end : SessionEnd) (low high : RoundsEnd) (Holds : RoundsEnd → RoundsEnd → Type 0) → end ≡ Ended low high → Holds low high → IfEnded end Holds
so_ended end low high Holds is held = subst (λ e. IfEnded e Holds) (sym is) held

pub not_ended : (end : SessionEnd) (Holds : RoundsEnd → RoundsEnd → Type 0) → ((low high : RoundsEnd) → end ≡ Ended low high → ⊥) → IfEnded end Holds
not_ended (Ended low high) Holds none = absurd (none low high refl)
not_ended Memory Holds none = tt
not_ended (Refused role why) Holds none = tt
not_ended NoDoor Holds none = tt
not_ended NoThread Holds none = tt

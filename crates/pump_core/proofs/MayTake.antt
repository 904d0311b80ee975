-- A look may take what it is offered just where the low process is idle.
use Rattle.std.proofs.Common.{◌≡◌, Bool, true, false, cond, List, [], ◌∷◌, None, refl}
use Rattle.std.specs.Prelude.{not}
use Rattle.pump_frame.specs.declared.row.SessionRow.{SessionRow}
use Rattle.pump_core.specs.Phases.{Phase, Idle, Passing}
use Rattle.pump_core.specs.History.{Opening}
use Rattle.pump_core.specs.Exchanges.{Waiting, Over, Part, Holding, Release, Empty, Leaving, Answer, Repeated, Offering, Dropped, Delivery, Loss}
use Rattle.pump_core.specs.Comings.{may_take}
use Rattle.pump_core.specs.Standing.{phase_after}

abbrev pub is_idle : Phase → Bool
is_idle Idle = true
is_idle _ = false

pub may_take_is : (row : SessionRow) (o : Opening) (parts : List Part) → may_take o parts ≡ is_idle (phase_after row o parts)
may_take_is row o [] = elim o.is_held as (λ b. not b ≡ is_idle (cond b (Passing None) Idle)) [ true ↦ refl | false ↦ refl ]
may_take_is row o (Holding newest older ∷ before) = refl
may_take_is row o (Release looks last ∷ before) = refl
may_take_is row o (Empty x ∷ before) = refl
may_take_is row o (Leaving x ∷ before) = refl
may_take_is row o (Answer x ∷ before) = refl
may_take_is row o (Repeated first (Waiting quiet) ∷ before) = refl
may_take_is row o (Repeated first (Over quiet last) ∷ before) = refl
may_take_is row o (Offering first full ∷ before) = refl
may_take_is row o (Dropped first full gone ∷ before) = refl
may_take_is row o (Delivery first full passing (Waiting quiet) ∷ before) = refl
may_take_is row o (Delivery first full passing (Over quiet last) ∷ before) = refl
may_take_is row o (Loss first rest ∷ before) = refl

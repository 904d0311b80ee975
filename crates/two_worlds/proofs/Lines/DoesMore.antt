-- What a part of a line does, said with other words.
use Rattle.std.proofs.Common.{◌≡◌, ℕ, List, [], ◌∷◌, ◌++◌, Result, Ok, Err, ap, ◌∙◌, append_assoc}
use Rattle.disk_model.specs.Disk.{Meaning}
use Rattle.disk_model.specs.declared.name.Role.{Role}
use Rattle.script_reader.specs.declared.event.Event.{Event}
use Rattle.script_reader.specs.Past.{Past}
use Rattle.two_worlds.specs.Doing.{DoesFrom, NeverOverfills, PartsLeaveFit}
use Rattle.two_worlds.specs.declared.applied.Stop.{Stop}
use Rattle.two_worlds.specs.declared.applied.Stop.TheVariants.{Line, Device, Full, Disk}
use Rattle.two_worlds.specs.declared.pump.parts.Parts.{Parts}

-- what leads and breaks off from p also does so by the other words
pub does_more : {D : Type 0} (m : Meaning D) (c c' d : Parts D) (out now : List Event) (p : Past)
    (leads leads_by : Past → Past → List Event → Type 0) (breaks breaks_by : Role → Past → Past → List Event → Type 0)
    (overfills : Past → Past → List Event → ℕ → ℕ → ℕ → Type 0) (result : Result (Unit {0}) Stop)
    → ((q : Past) (printed : List Event) → leads p q printed → leads_by p q printed)
    → ((role : Role) (q : Past) (printed : List Event) → breaks role p q printed → breaks_by role p q printed)
    → ((q : Past) → PartsLeaveFit m c' d p q → PartsLeaveFit m c d p q)
    → DoesFrom leads breaks overfills m c' d out now p result → DoesFrom leads_by breaks_by overfills m c d out now p result
does_more m c c' d out now p leads leads_by breaks breaks_by overfills (Ok done) f g k (q, printed, h, told, stand, fit) = (q, printed, f q printed h, told, stand, k q fit)
does_more m c c' d out now p leads leads_by breaks breaks_by overfills (Err Line) f g k h = h
does_more m c c' d out now p leads leads_by breaks breaks_by overfills (Err (Device role faults)) f g k (q, printed, h, told, fails, fit) = (q, printed, g role q printed h, told, fails, k q fit)
does_more m c c' d out now p leads leads_by breaks breaks_by overfills (Err (Full end length size)) f g k (q, printed, h, told, stand, fit) = (q, printed, h, told, stand, k q fit)
does_more m c c' d out now p leads leads_by breaks breaks_by overfills (Err (Disk role why)) f g k h = h

-- .. and so where a line was printed before
pub does_after : {D : Type 0} (m : Meaning D) (c c' d : Parts D) (out mid now : List Event) (line : Event) (p : Past)
    (leads leads_by : Past → Past → List Event → Type 0) (breaks breaks_by : Role → Past → Past → List Event → Type 0) (result : Result (Unit {0}) Stop)
    → mid ≡ out ++ line ∷ []
    → ((q : Past) (printed : List Event) → leads p q printed → leads_by p q (line ∷ printed))
    → ((role : Role) (q : Past) (printed : List Event) → breaks role p q printed → breaks_by role p q (line ∷ printed))
    → ((q : Past) → PartsLeaveFit m c' d p q → PartsLeaveFit m c d p q)
    → DoesFrom leads breaks NeverOverfills m c' d mid now p result → DoesFrom leads_by breaks_by NeverOverfills m c d out now p result
does_after m c c' d out mid now line p leads leads_by breaks breaks_by (Ok done) is f g k (q, printed, h, told, stand, fit) =
    (q, line ∷ printed, f q printed h, told ∙ ap (λ (l : List Event). l ++ printed) is ∙ append_assoc out (line ∷ []) printed, stand, k q fit)
does_after m c c' d out mid now line p leads leads_by breaks breaks_by (Err Line) is f g k h = h
does_after m c c' d out mid now line p leads leads_by breaks breaks_by (Err (Device role faults)) is f g k (q, printed, h, told, fails, fit) =
    (q, line ∷ printed, g role q printed h, told ∙ ap (λ (l : List Event). l ++ printed) is ∙ append_assoc out (line ∷ []) printed, fails, k q fit)
does_after m c c' d out mid now line p leads leads_by breaks breaks_by (Err (Full end length size)) is f g k (q, printed, h, told, stand, fit) = absurd h
does_after m c c' d out mid now line p leads leads_by breaks breaks_by (Err (Disk role why)) is f g k h = absurd h

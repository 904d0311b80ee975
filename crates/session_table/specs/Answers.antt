-- How a call answers what a definition gives.
use Rattle.std.specs.Prelude.{◌≡◌, ⊤, Result, Ok, Err}
use Rattle.std.specs.Borrow.{Bor}
use Rattle.session_table.specs.declared.fault.TableFault.{TableFault}
use Rattle.session_table.specs.declared.fault.TableFault.TheVariants.{Memory}

-- The answer is what the definition gives. Want of memory alone is free.
abbrev pub Answers : {A : Type 0} → Result A TableFault → Result A TableFault → Type 0
Answers (Ok x) given = given ≡ Ok x
Answers (Err Memory) given = ⊤
Answers (Err fault) given = given ≡ Err fault

-- the same, of a value that the definition sees as `view` shows it
abbrev pub AnswersBy : {A B : Type 0} → (A → B) → Result A TableFault → Result B TableFault → Type 0
AnswersBy view (Ok x) given = given ≡ Ok (view x)
AnswersBy view (Err Memory) given = ⊤
AnswersBy view (Err fault) given = given ≡ Err fault

-- the same, of a value that is lent, where no memory is taken
abbrev pub LendsBy : {A B : Type 0} → (A → B) → Result (Bor A) TableFault → Result B TableFault → Type 0
LendsBy view (Ok x) given = given ≡ Ok (view x.now)
LendsBy view (Err fault) given = given ≡ Err fault

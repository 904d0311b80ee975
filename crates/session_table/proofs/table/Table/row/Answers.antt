use Rattle.std.proofs.Common.{◌≡◌, Bool, List, [], ◌∷◌, suc, IfSome, find, ◌==◌, rules, arith, inl, inr}
use Rattle.std.proofs.lemmas.Bool.{cases_Bool}
use Rattle.std.specs.List.{All}
use Rattle.pump_frame.specs.Rows.{IsLawfulRow}
use Rattle.pump_frame.specs.declared.row.SessionRow.{SessionRow}
use Rattle.session_table.specs.Tables.{IsTable}
use Rattle.session_table.proofs.table.Table.row.Goals as goal

-- what holds of each element holds of the one that is found
IfSome-find : {X : Type 0} (P : X → Type 0) (test : X → Bool) (xs : List X) → All P xs → IfSome (find test xs) P
IfSome-find P test [] all = tt
IfSome-find P test (x ∷ xs) all = elim (cases_Bool (test x)) [
  | inl is ↦ rw is (all 0 x (omega arith))
  | inr not ↦ rw not (IfSome-find P test xs (λ k d l. all (suc k) d (omega arith)))
]

pub returns-clause-lawful : goal.returns-clause-lawful
returns-clause-lawful c =
    let found : c.copied.result ≡ find (λ (row : SessionRow). row.id == c.args.id) c.args.self.now = search rules in
    let table : IsTable c.args.self.now = rw (← c.self.view_is) c.self.invariant in
    rw found (IfSome-find IsLawfulRow (λ row. row.id == c.args.id) c.args.self.now table.lawful)

use Rattle.std.proofs.Common.{◌≡◌, ◌∙◌, ◌↔◌, ℕ, List, Bool, IsTrue, Contains, nat_eq, ◌∷◌, [], true, refl, ap, sym, rules, arith}
use Rattle.std.proofs.lemmas.Bool.Decides.{nat_tests}
use Rattle.std.proofs.lemmas.Map.Views.{Contains-from_any, list_any-from_Contains}
use Rattle.std.specs.List.{list_any}
use Rattle.pump_frame.specs.Counts.{raised}
use Rattle.disk_model.proofs.mem_shelf.MemShelf.is_failing.Goals as goal

sides : (x : ℕ) (xs : List ℕ) → list_any (nat_eq x) xs ≡ list_any (λ y. nat_eq y x) xs
sides x [] = refl
sides x (y ∷ ys) = let rest = sides x ys in grind (arith, nat_tests)

same : (a b : ℕ) → nat_eq a b ≡ true → a ≡ b
same a b q = grind (arith, nat_tests)

one_way : (xs : List ℕ) (x : ℕ) (t : Bool) → t ≡ list_any (λ y. nat_eq y x) xs → t ≡ true → Contains xs x
one_way xs x t e h = Contains-from_any {eq = nat_eq} same x xs (sides x xs ∙ sym e ∙ h)

other_way : (xs : List ℕ) (x : ℕ) (t : Bool) → t ≡ list_any (λ y. nat_eq y x) xs → Contains xs x → t ≡ true
other_way xs x t e h = e ∙ sym (sides x xs) ∙ list_any-from_Contains {eq = nat_eq} (search rules) x xs h

is_any : (xs : List ℕ) (x : ℕ) (t : Bool) → t ≡ list_any (λ y. nat_eq y x) xs → IsTrue t ↔ Contains xs x
is_any xs x t e = (λ h. one_way xs x t e (search rules), λ h. let yes = other_way xs x t e h in search rules)

pub returns-clause-failing : goal.returns-clause-failing
returns-clause-failing g c =
    let fails : c.deref.result.now ≡ c.args.self.now.fails = c.deref.ensures.value ∙ ap (λ s. s.fails) c.self.view_is in
    let calls : c.self.inside.calls ≡ c.args.self.now.calls = ap (λ s. s.calls) c.self.view_is in
    is_any c.args.self.now.fails c.args.self.now.calls c.contains.result (rw (fails, calls) at c.contains.ensures.value)

pub returns-clause-after : goal.returns-clause-after
returns-clause-after g c =
    let calls : c.raised-self-inside.result ≡ raised c.args.self.now.calls = c.raised-self-inside.ensures ∙ ap (λ s. raised s.calls) c.self.view_is in
    λ i. record (c.self.view_is i) { calls = calls i }

use Rattle.std.proofs.Common.{None, Some, map, sym, ap, subst, refl}
use Rattle.pump_audit.specs.declared.compared.Compared.{Compared}
use Rattle.pump_audit.specs.Comparing.{IsCompared}
use Rattle.pump_audit.specs.Siding.{tells}
use Rattle.pump_audit.proofs.StreamLaws.{known_ahead, where_told}
use Rattle.pump_audit.proofs.BothLaws.{first_not, second_not, both_are}
use Rattle.pump_audit.proofs.comparing.compare.Goals as goal

pub returns-in_default-clause-compared : goal.returns-in_default-clause-compared
returns-in_default-clause-compared g c = where_told _ (λ bytes. IsCompared bytes c.not_record.result) (λ bytes known.
    let comes = rw c.in_default.is at (c.in_ok-first.ensures.side None bytes (ap (map tells) c.new-4.ensures.items) (known_ahead c.new.result _ bytes c.new.ensures known)) in
    subst (λ (r : Compared). IsCompared bytes r) (sym c.not_record.ensures) (first_not bytes _ c.side.new.self.lines refl comes))

pub returns-in_default-2-clause-compared : goal.returns-in_default-2-clause-compared
returns-in_default-2-clause-compared g c = where_told _ (λ bytes. IsCompared bytes c.not_record-in_default-2.result) (λ bytes known.
    let first = rw c.in-Some.is at (c.in_ok-first.ensures.side None bytes (ap (map tells) c.new-4.ensures.items) (known_ahead c.new.result _ bytes c.new.ensures known)) in
    let comes = rw c.in_default-2.is at (c.in_ok-second.ensures.side (Some first.side.items) first.left (c.to_match.ensures first.side.items first.stands.looks) (first.known refl)) in
    subst (λ (r : Compared). IsCompared bytes r) (sym c.not_record-in_default-2.ensures) (second_not bytes c.in-Some.first _ _ c.side-2.new.self.lines _ first refl comes))

pub returns-clause-compared : goal.returns-clause-compared
returns-clause-compared g c = where_told _ (λ bytes. IsCompared bytes c.compared.result) (λ bytes known.
    let first = rw c.in-Some.is at (c.in_ok-first.ensures.side None bytes (ap (map tells) c.new-4.ensures.items) (known_ahead c.new.result _ bytes c.new.ensures known)) in
    let second = rw c.in-Some-2.is at (c.in_ok-second.ensures.side (Some first.side.items) first.left (c.to_match.ensures first.side.items first.stands.looks) (first.known refl)) in
    both_are bytes c.in-Some.first c.in-Some-2.second _ _ _ _ first second c.compared.result (c.compared.ensures first.side second.side first.stands.opens second.stands))

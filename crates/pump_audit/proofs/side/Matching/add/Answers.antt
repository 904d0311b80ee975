use Rattle.std.proofs.Common.{◌≡◌, ◌∙◌, ◌+◌, ◌<◌, ◌≤◌, List, ◌++◌, ◌∷◌, [], length, get_or, sym, subst, refl}
use Rattle.pump_audit.specs.declared.side.Item.{Item}
use Rattle.pump_audit.specs.Comparing.{item_of}
use Rattle.pump_audit.specs.Siding.{MatchesTo}
use Rattle.pump_audit.proofs.SideLaws.{not_yet, differs_now, alike_on, longer_now}
use Rattle.pump_audit.proofs.side.Matching.add.Goals as goal

pub returns-in-Some-unlike : goal.returns-in-Some-unlike
returns-in-Some-unlike c us xs h =
    let m = c.args.self.now in
    let is_next = λ (low : m.alike < length c.deref.result.now) (is : c.in-Some.own.now ≡ get_or c.deref.result.now m.alike c.in-Some.own.now).
    subst (λ (l : List Item). (m.alike < length l) × (c.in-Some.own.now ≡ get_or l m.alike c.in-Some.own.now)) c.deref.ensures.value (low, is) in
    let was = subst (λ d. MatchesTo us m.alike d xs) (not_yet m.difference (sym c.is_some.ensures ∙ c.if-is_some.false)) h.1 in
    (h.0, (differs_now us xs (item_of c.args.line.now) m.alike m.first.items h.0 was c.in-Some.own.now (is_next c.in-Some.ensures.lookup.3.0 c.in-Some.ensures.lookup.1) c.in-Some-unlike.what (sym c.in-Some-unlike.ensures)))

pub returns-in-None-unlike : goal.returns-in-None-unlike
returns-in-None-unlike c us xs h =
    let m = c.args.self.now in
    let is_next = λ (low : m.alike < length c.deref.result.now) (is : c.in-Some.own.now ≡ get_or c.deref.result.now m.alike c.in-Some.own.now).
    subst (λ (l : List Item). (m.alike < length l) × (c.in-Some.own.now ≡ get_or l m.alike c.in-Some.own.now)) c.deref.ensures.value (low, is) in
    let none = not_yet m.difference (sym c.is_some.ensures ∙ c.if-is_some.false) in
    let was = subst (λ d. MatchesTo us m.alike d xs) none h.1 in
    (h.0, subst (λ d. MatchesTo us (m.alike + 1) d (xs ++ item_of c.args.line.now ∷ [])) (sym none) (alike_on us xs (item_of c.args.line.now) m.alike m.first.items h.0 was c.in-Some.own.now (is_next c.in-Some.ensures.lookup.3.0 c.in-Some.ensures.lookup.1) (sym c.unlike.ensures ∙ c.in-None-unlike.is) (m.alike + 1) refl))

pub returns-in-None : goal.returns-in-None
returns-in-None c us xs h =
    let m = c.args.self.now in
    let was = subst (λ d. MatchesTo us m.alike d xs) (not_yet m.difference (sym c.is_some.ensures ∙ c.if-is_some.false)) h.1 in
    (h.0, longer_now us xs (item_of c.args.line.now) m.alike m.first.items h.0 was (subst (λ (l : List Item). length l ≤ m.alike) c.deref.ensures.value c.in-None.ensures.lookup.3))

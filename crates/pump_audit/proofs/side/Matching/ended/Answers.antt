use Rattle.std.proofs.Common.{◌∙◌, [], length, sym, subst, ap, arith}
use Rattle.std.proofs.lemmas.List.{append-nil}
use Rattle.pump_audit.specs.Comparing.{DifferAt}
use Rattle.pump_audit.specs.Siding.{MatchesTo}
use Rattle.pump_audit.specs.declared.compared.What.TheVariants as what
use Rattle.pump_audit.proofs.SideLaws.{all_alike, ends_before, told_length}
use Rattle.pump_audit.proofs.side.Matching.ended.Goals as goal

pub returns-in-Some-clause-is : goal.returns-in-Some-clause-is
returns-in-Some-clause-is c us xs h =
    let m = c.args.self.now in
    subst (λ ys. DifferAt us ys m.alike c.in-Some.what) (append-nil xs) ((subst (λ d. MatchesTo us m.alike d xs) c.in-Some.is h.1) [])

pub returns-in-None-clause-is : goal.returns-in-None-clause-is
returns-in-None-clause-is c us xs h =
    let m = c.args.self.now in
    let was = subst (λ d. MatchesTo us m.alike d xs) c.in-None.is h.1 in
    let all = sym (told_length m.first.items) ∙ ap length h.0 in
    subst (λ n. DifferAt us xs n what.Length) (sym was.1) (ends_before us xs was.0 (omega (arith, was.1, all, c.if-self-len.true, c.len.ensures, m.first.ok)))

pub returns-in-None-2-clause-is : goal.returns-in-None-2-clause-is
returns-in-None-2-clause-is c us xs h =
    let m = c.args.self.now in
    let was = subst (λ d. MatchesTo us m.alike d xs) c.in-None-2.is h.1 in
    let all = sym (told_length m.first.items) ∙ ap length h.0 in
    let r = all_alike us xs was.0 (omega (arith, was.1, all, c.if-self-len.false, c.len.ensures, m.first.ok)) in
    (r.0, was.1 ∙ r.1)

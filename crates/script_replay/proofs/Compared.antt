-- Two readings of one script go the same way as far as both go.
use Rattle.std.proofs.Common.{◌≡◌, ℕ, ◌<◌, List, [], ◌∷◌, Option, None, Some, length, refl, sym, ◌∙◌, subst, arith}
use Rattle.script_reader.specs.declared.line.Line.{Line}
use Rattle.script_reader.specs.declared.event.Event.{Event}
use Rattle.script_reader.specs.Openings.{Openings}
use Rattle.script_reader.specs.Lines.{AreLines, IsBad}
use Rattle.script_reader.specs.Sessions.{Sessions, ScriptLeads, ScriptLeadsTo}
use Rattle.script_reader.proofs.LineEnds.{one_prefix}
use Rattle.script_reader.proofs.LineLaws.{one_line}
use Rattle.script_reader.proofs.OneReading.{taken, not_nothing}
use Rattle.script_reader.proofs.OneWhole.{script_leads_one}
use Rattle.script_replay.proofs.SoFar.{Keeps-same}

-- the next line can be applied, and the script goes on
pub record GoesOn (o : Openings) (rest : List ℕ) (running : Sessions) : Type 0 where
  pub line : Line
  pub left : Option (List ℕ)
  pub spelled : AreLines (Some rest) (line ∷ []) left
  pub after : Sessions
  pub printed : List Event
  pub leads : ScriptLeads o running line after printed

-- there is a next line, and one alone
pub no_line : (rest : List ℕ) (line : Line) (left : Option (List ℕ)) → AreLines (Some rest) (line ∷ []) left → rest ≡ [] → ⊥
no_line rest line left h none =
    let t = taken rest h.0 h.1 h.4 in
    not_nothing h.0 t.0 (sym t.2 ∙ none)

pub good_line : (rest : List ℕ) (line : Line) (left : Option (List ℕ)) → AreLines (Some rest) (line ∷ []) left → IsBad rest → ⊥
good_line rest line left h bad =
    let t = taken rest h.0 h.1 h.4 in
    bad.bad line h.0 t.0 (record { unended = h.2; spelled = h.3; whole = t.2 })

pub same_line : (rest : List ℕ) (x y : Line) (a b : Option (List ℕ)) → AreLines (Some rest) (x ∷ []) a → AreLines (Some rest) (y ∷ []) b → x ≡ y
same_line rest x y a b p q =
    let t = taken rest p.0 p.1 p.4 in
    let u = taken rest q.0 q.1 q.4 in
    let same = one_prefix p.0 q.0 t.0 u.0 p.2 q.2 (sym t.2 ∙ u.2) in
    one_line q.0 x y (rw same.0 at p.3) q.3

-- the rest is told where the whole is
pub told_rest : (all : List ℕ) (ls : List Line) (rest : Option (List ℕ)) → AreLines (Some all) ls rest → (r : List ℕ) × (rest ≡ Some r)
told_rest all [] None h = absurd h
told_rest all [] (Some r) h = (r, refl)
told_rest all (x ∷ xs) rest h =
    let t = taken all h.0 h.1 h.4 in
    told_rest t.0 xs rest (subst (λ (m : Option (List ℕ)). AreLines m xs rest) t.1 h.5)

first_goes : (o : Openings) (all rest : List ℕ) (x : Line) (xs : List Line) (r : List ℕ) (from running after : Sessions) (events : List Event) → rest ≡ all → running ≡ from
    → AreLines (Some all) (x ∷ xs) (Some r) → ScriptLeadsTo o from (x ∷ xs) after events → GoesOn o rest running
first_goes o all rest x xs r from running after events is same q k = record {
  line = x;
  left = q.1;
  spelled = subst (λ (l : List ℕ). AreLines (Some l) (x ∷ []) q.1) (sym is) (q.0, q.1, q.2, q.3, q.4, Keeps-same q.1);
  after = k.0;
  printed = k.1;
  leads = subst (λ (b : Sessions). ScriptLeads o b x k.0 k.1) (sym same) k.3;
}

-- they are the same, or one goes on where the other ends
pub compare : {P : Type 0} (o : Openings) (all r1 r2 : List ℕ) (ls ms : List Line) (from a b : Sessions) (es fs : List Event)
    → AreLines (Some all) ls (Some r1) → ScriptLeadsTo o from ls a es → AreLines (Some all) ms (Some r2) → ScriptLeadsTo o from ms b fs
    → (r1 ≡ r2 → a ≡ b → length ls ≡ length ms → P) → (GoesOn o r1 a → length ls < length ms → P) → (GoesOn o r2 b → length ms < length ls → P) → P
compare o all r1 r2 [] [] from a b es fs p h q k same first second = same (p ∙ sym q) (h.0 ∙ sym k.0) refl
compare o all r1 r2 [] (y ∷ ys) from a b es fs p h q k same first second = first (first_goes o all r1 y ys r2 from a b fs p h.0 q k) (omega arith)
compare o all r1 r2 (x ∷ xs) [] from a b es fs p h q k same first second = second (first_goes o all r2 x xs r1 from b a es q k.0 p h) (omega arith)
compare o all r1 r2 (x ∷ xs) (y ∷ ys) from a b es fs p h q k same first second =
    let t = taken all p.0 p.1 p.4 in
    let u = taken all q.0 q.1 q.4 in
    let one = one_prefix p.0 q.0 t.0 u.0 p.2 q.2 (sym t.2 ∙ u.2) in
    let line : x ≡ y = one_line q.0 x y (rw one.0 at p.3) q.3 in
    let left : AreLines (Some u.0) xs (Some r1) = rw (t.1, one.1) at p.5 in
    let right : AreLines (Some u.0) ys (Some r2) = rw u.1 at q.5 in
    let led = script_leads_one o from x h.0 k.0 h.1 k.1 h.3 (subst (λ (l : Line). ScriptLeads o from l k.0 k.1) (sym line) k.3) in
    compare o u.0 r1 r2 xs ys h.0 a b h.2 k.2 left h.4 right (subst (λ (r : Sessions). ScriptLeadsTo o r ys b k.2) (sym led.after) k.4)
    (λ e f n. same e f (omega (arith, n))) (λ g n. first g (omega (arith, n))) (λ g n. second g (omega (arith, n)))

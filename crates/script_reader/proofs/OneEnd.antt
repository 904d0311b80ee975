-- A script with a faulty line has no transcript.
use Rattle.std.proofs.Common.{◌≡◌, inl, inr, ℕ, false, ap, arith, length, List, [], ◌∷◌, ◌++◌, Option, None, Some, sym, ◌∙◌, subst}
use Rattle.std.proofs.lemmas.Bool.{both_ways}
use Rattle.script_reader.specs.declared.event.Event.{Event}
use Rattle.script_reader.specs.declared.line.Line.{Line}
use Rattle.script_reader.specs.declared.line.Line.TheVariants as lines
use Rattle.script_reader.specs.Grammar.{IsLine}
use Rattle.script_reader.specs.Lines.{AreLines, IsUnended}
use Rattle.script_reader.specs.Scripts.{Running, RunningAlone, Begun, Whole, Alone, GoesWhole, GoesAlone, may_coarsen, Coarsens, Leads, LeadTo, IsRefused, IsTranscript}
use Rattle.script_reader.specs.Faults.{IsFaultyBy, IsFaulty}
use Rattle.script_reader.proofs.LineEnds.{one_prefix}
use Rattle.script_reader.proofs.LineLaws.{one_line}
use Rattle.script_reader.proofs.OneReading.{taken, not_nothing}
use Rattle.pump_frame.specs.declared.row.SessionRow.{SessionRow}
use Rattle.script_reader.specs.Past.{Past}
use Rattle.script_reader.specs.Openings.{Openings}
use Rattle.script_reader.specs.Steps.{LineComing, joined, IsCrowded, IsRefusedWhole, LineStep}
use Rattle.script_reader.specs.Alone.{PastAlone, joined_alone, IsCrowdedAlone, IsRefusedAlone, StepAlone}
use Rattle.script_reader.proofs.One.{arrives_one}
use Rattle.script_reader.proofs.OneScript.{leads_one}

no_key : {A : Type 0} (o : Option A) (x : A) → o ≡ None → o ≡ Some x → ⊥
no_key o x e f = cc

crowded_steps : (s : SessionRow) (p : Past) (line : Line) (q : Past) (printed : List Event) → IsCrowded p line → LineStep s p line q printed → ⊥
crowded_steps s p (lines.Look session m w z) q printed (c, comes, many) (d, comes', (few, look)) =
    let same = ap (λ (t : LineComing). length (joined p t).waits) (arrives_one session p.reading z c d comes comes') in
    absurd (omega (arith, many, few, same))
crowded_steps s p lines.Skip q printed h k = h
crowded_steps s p (lines.Session row) q printed h k = h
crowded_steps s p (lines.LowSession row next held) q printed h k = h
crowded_steps s p (lines.Coarse session) q printed h k = h
crowded_steps s p (lines.Told session m w fault told z) q printed h k = h
crowded_steps s p (lines.Step session m w) q printed h k = h
crowded_steps s p (lines.Gone session m) q printed h k = h
crowded_steps s p (lines.High session m) q printed h k = h
crowded_steps s p (lines.Carry session back) q printed h k = h
crowded_steps s p (lines.Return session m back) q printed h k = h
crowded_steps s p (lines.Done session m t) q printed h k = h
crowded_steps s p (lines.Restart session m) q printed h k = h
crowded_steps s p (lines.ReceiverRestart session m) q printed h k = h

refused_goes : (s : Running) (line : Line) (mid : Option Begun) (printed : List Event) → IsRefusedWhole s.row s.past line → GoesWhole s line mid printed → ⊥
refused_goes s line mid printed h (timely, (q, step, e)) =
    elim h [ inl late ↦ both_ways _ late timely | inr crowded ↦ crowded_steps s.row s.past line q printed crowded step ]

crowded_low : (s : SessionRow) (p : PastAlone) (line : Line) (q : PastAlone) (printed : List Event) → IsCrowdedAlone p line → StepAlone s p line false q printed → ⊥
crowded_low s p (lines.Told session m w fault told z) q printed (c, comes, many) (d, comes', (few, look)) =
    let same = ap (λ (t : LineComing). length (joined_alone p fault t).waits) (arrives_one session p.reading z c d comes comes') in
    absurd (omega (arith, many, few, same))
crowded_low s p lines.Skip q printed h k = h
crowded_low s p (lines.Session row) q printed h k = h
crowded_low s p (lines.LowSession row next held) q printed h k = h
crowded_low s p (lines.Coarse session) q printed h k = h
crowded_low s p (lines.Look session m w z) q printed h k = h
crowded_low s p (lines.Gone session m) q printed h k = h
crowded_low s p (lines.High session m) q printed h k = h
crowded_low s p (lines.Carry session back) q printed h k = h
crowded_low s p (lines.Return session m back) q printed h k = h
crowded_low s p (lines.Done session m t) q printed h k = h
crowded_low s p (lines.Restart session m) q printed h k = h
crowded_low s p (lines.ReceiverRestart session m) q printed h k = h
crowded_low s p (lines.Step session m w) q printed h k = h

refused_low : (s : RunningAlone) (line : Line) (mid : Option Begun) (printed : List Event) → IsRefusedAlone s.row s.past line → GoesAlone s line mid printed → ⊥
refused_low s line mid printed h (timely, (q, step, e)) =
    elim h [ inl late ↦ both_ways _ late timely | inr crowded ↦ crowded_low s.row s.past line q printed crowded step ]

refused_coarse : (o : Openings) (s : Begun) (session : ℕ) (after : Option Begun) → IsRefused (Some s) (lines.Coarse session) → Coarsens o s session after → ⊥
refused_coarse o s session after r (may, new, e) = elim r [ inl not_so ↦ both_ways (may_coarsen session s) not_so may | inr never ↦ never o new ]

-- a line that can't be applied leads nowhere
pub refused_leads : (o : Openings) (running : Option Begun) (line : Line) (mid : Option Begun) (printed : List Event) → IsRefused running line → Leads o running line mid printed → ⊥
refused_leads o running lines.Skip mid printed r h = absurd r
refused_leads o None (lines.Session row) mid printed r h = no_key _ r.0 h.0.0 r.1
refused_leads o None (lines.LowSession row next held) mid printed r h = no_key _ r.0 h.0.0 r.1
refused_leads o None (lines.Coarse session) mid printed r h = absurd h
refused_leads o None (lines.Look session m w z) mid printed r h = absurd h
refused_leads o None (lines.Told session m w fault told z) mid printed r h = absurd h
refused_leads o None (lines.Step session m w) mid printed r h = absurd h
refused_leads o None (lines.Gone session m) mid printed r h = absurd h
refused_leads o None (lines.High session m) mid printed r h = absurd h
refused_leads o None (lines.Carry session back) mid printed r h = absurd h
refused_leads o None (lines.Return session m back) mid printed r h = absurd h
refused_leads o None (lines.Done session m t) mid printed r h = absurd h
refused_leads o None (lines.Restart session m) mid printed r h = absurd h
refused_leads o None (lines.ReceiverRestart session m) mid printed r h = absurd h
refused_leads o (Some (Whole s)) (lines.Session row) mid printed r h = refused_goes s (lines.Session row) mid printed r h
refused_leads o (Some (Whole s)) (lines.LowSession row next held) mid printed r h = refused_goes s (lines.LowSession row next held) mid printed r h
refused_leads o (Some (Whole s)) (lines.Coarse session) mid printed r h = refused_coarse o (Whole s) session mid r h.0
refused_leads o (Some (Whole s)) (lines.Look session m w z) mid printed r h = refused_goes s (lines.Look session m w z) mid printed r h
refused_leads o (Some (Whole s)) (lines.Told session m w fault told z) mid printed r h = refused_goes s (lines.Told session m w fault told z) mid printed r h
refused_leads o (Some (Whole s)) (lines.Step session m w) mid printed r h = refused_goes s (lines.Step session m w) mid printed r h
refused_leads o (Some (Whole s)) (lines.Gone session m) mid printed r h = refused_goes s (lines.Gone session m) mid printed r h
refused_leads o (Some (Whole s)) (lines.High session m) mid printed r h = refused_goes s (lines.High session m) mid printed r h
refused_leads o (Some (Whole s)) (lines.Carry session back) mid printed r h = refused_goes s (lines.Carry session back) mid printed r h
refused_leads o (Some (Whole s)) (lines.Return session m back) mid printed r h = refused_goes s (lines.Return session m back) mid printed r h
refused_leads o (Some (Whole s)) (lines.Done session m t) mid printed r h = refused_goes s (lines.Done session m t) mid printed r h
refused_leads o (Some (Whole s)) (lines.Restart session m) mid printed r h = refused_goes s (lines.Restart session m) mid printed r h
refused_leads o (Some (Whole s)) (lines.ReceiverRestart session m) mid printed r h = refused_goes s (lines.ReceiverRestart session m) mid printed r h
refused_leads o (Some (Alone s)) (lines.Session row) mid printed r h = refused_low s (lines.Session row) mid printed r h
refused_leads o (Some (Alone s)) (lines.LowSession row next held) mid printed r h = refused_low s (lines.LowSession row next held) mid printed r h
refused_leads o (Some (Alone s)) (lines.Coarse session) mid printed r h = refused_coarse o (Alone s) session mid r h.0
refused_leads o (Some (Alone s)) (lines.Look session m w z) mid printed r h = refused_low s (lines.Look session m w z) mid printed r h
refused_leads o (Some (Alone s)) (lines.Told session m w fault told z) mid printed r h = refused_low s (lines.Told session m w fault told z) mid printed r h
refused_leads o (Some (Alone s)) (lines.Step session m w) mid printed r h = refused_low s (lines.Step session m w) mid printed r h
refused_leads o (Some (Alone s)) (lines.Gone session m) mid printed r h = refused_low s (lines.Gone session m) mid printed r h
refused_leads o (Some (Alone s)) (lines.High session m) mid printed r h = refused_low s (lines.High session m) mid printed r h
refused_leads o (Some (Alone s)) (lines.Carry session back) mid printed r h = refused_low s (lines.Carry session back) mid printed r h
refused_leads o (Some (Alone s)) (lines.Return session m back) mid printed r h = refused_low s (lines.Return session m back) mid printed r h
refused_leads o (Some (Alone s)) (lines.Done session m t) mid printed r h = refused_low s (lines.Done session m t) mid printed r h
refused_leads o (Some (Alone s)) (lines.Restart session m) mid printed r h = refused_low s (lines.Restart session m) mid printed r h
refused_leads o (Some (Alone s)) (lines.ReceiverRestart session m) mid printed r h = refused_low s (lines.ReceiverRestart session m) mid printed r h

-- ---- a script with a faulty line ----

-- these lines lead from one state to another, one after another
abbrev pub GoTo : {S : Type 0} → (S → Line → S → List Event → Type 0) → S → List Line → S → Type 0
GoTo Goes s [] t = t ≡ s
GoTo {S} Goes s (line ∷ later) t = (mid : S) × (printed : List Event) × Goes s line mid printed × GoTo Goes mid later t

-- a line leads to one state, and a refused one to none
module _ {S : Type 0} (Goes : S → Line → S → List Event → Type 0) (Refuses : S → Line → Type 0)
    (one : (s : S) (line : Line) (a b : S) (xs ys : List Event) → Goes s line a xs → Goes s line b ys → a ≡ b)
    (refused : (s : S) (line : Line) (a : S) (xs : List Event) → Refuses s line → Goes s line a xs → ⊥) where
  -- no line stands at the end
  end_is_fine : (s : S) (rest : List ℕ) → rest ≡ [] → IsFaultyBy (Refuses s) (Some rest) → ⊥
  end_is_fine s rest e f =
      elim f [
        | inl bad ↦ bad.some e
        | inr r ↦
            let t = taken rest r.2.0 r.2.1 r.2.4 in
            not_nothing r.2.0 t.0 (sym t.2 ∙ e)
      ]

  -- the next line is the one that there is
  next_is_fine : (s mid : S) (rest bytes left : List ℕ) (line : Line) (printed : List Event) → rest ≡ bytes ++ 10 ∷ left → IsUnended bytes → IsLine line bytes
      → Goes s line mid printed → IsFaultyBy (Refuses s) (Some rest) → ⊥
  next_is_fine s mid rest bytes left line printed e u i h f =
      elim f [
        | inl bad ↦ bad.bad line bytes left (record { unended = u; spelled = i; whole = e })
        | inr r ↦
            let t = taken rest r.2.0 r.2.1 r.2.4 in
            let same = one_prefix bytes r.2.0 left t.0 u r.2.2 (sym e ∙ t.2) in
            let line_is : line ≡ r.0 = one_line bytes line r.0 i (rw same.0 r.2.3) in
            refused s line mid printed (subst (λ l. Refuses s l) (sym line_is) r.3) h
      ]

  pub both_end : (all rest : List ℕ) (ls script : List Line) (from running after : S)
      → AreLines (Some all) ls (Some rest) → GoTo Goes from ls running → IsFaultyBy (Refuses running) (Some rest)
      → AreLines (Some all) script (Some []) → GoTo Goes from script after → ⊥
  both_end all rest [] [] from running after p h f q k =
      end_is_fine running rest (p ∙ sym q) f
  both_end all rest [] (x ∷ xs) from running after p h f q k =
      let t = taken all q.0 q.1 q.4 in
      next_is_fine from k.0 rest q.0 t.0 x k.1 (p ∙ t.2) q.2 q.3 k.2 (subst (λ s. IsFaultyBy (Refuses s) (Some rest)) h f)
  both_end all rest (x ∷ xs) [] from running after p h f q k =
      let t = taken all p.0 p.1 p.4 in
      not_nothing p.0 t.0 (sym t.2 ∙ sym q)
  both_end all rest (x ∷ xs) (y ∷ ys) from running after p h f q k =
      let t = taken all p.0 p.1 p.4 in
      let u = taken all q.0 q.1 q.4 in
      let same = one_prefix p.0 q.0 t.0 u.0 p.2 q.2 (sym t.2 ∙ u.2) in
      let first : x ≡ y = one_line q.0 x y (rw same.0 at p.3) q.3 in
      let left : AreLines (Some u.0) xs (Some rest) = rw (t.1, same.1) at p.5 in
      let right : AreLines (Some u.0) ys (Some []) = rw u.1 at q.5 in
      let led = one from x h.0 k.0 h.1 k.1 h.2 (subst (λ l. Goes from l k.0 k.1) (sym first) k.2) in
      both_end u.0 rest xs ys h.0 running after left h.3 f right (subst (λ s. GoTo Goes s ys after) (sym led) k.3)

leads_go : (o : Openings) (running : Option Begun) (script : List Line) (after : Option Begun) (events : List Event) → LeadTo o running script after events → GoTo (Leads o) running script after
leads_go o running [] after events h = h.0
leads_go o running (line ∷ later) after events (mid, first, second, h, rest, e) = (mid, first, h, leads_go o mid later after second rest)

pub faulty_scripts : (o : Openings) (all rest : List ℕ) (ls script : List Line) (running : Option Begun) (events printed : List Event)
    → AreLines (Some all) ls (Some rest) → LeadTo o None ls running events → IsFaulty (Some rest) running
    → AreLines (Some all) script (Some []) → IsTranscript o script printed → ⊥
faulty_scripts o all rest ls script running events printed p h f q k =
    both_end (Leads o) IsRefused (λ s line a b xs ys h k. (leads_one o s line a b xs ys h k).after) (refused_leads o)
    all rest ls script None running k.0 p (leads_go o None ls running events h) f q (leads_go o None script k.0 k.1 k.3)

-- A script has one transcript at most.
use Rattle.std.proofs.Common.{◌≡◌, List, [], ◌∷◌, ◌++◌, false, Option, Some, None, sym, ap, ◌∙◌, subst}
use Rattle.pump_core.specs.Exchanges.{Part, count_after}
use Rattle.pump_core.proofs.Cuts.{one_cut}
use Rattle.script_reader.specs.declared.line.Line.{Line}
use Rattle.script_reader.specs.declared.line.Line.TheVariants as lines
use Rattle.script_reader.specs.declared.event.Event.{Event}
use Rattle.script_reader.specs.declared.event.Event.TheVariants.{End}
use Rattle.script_reader.specs.Past.{Past}
use Rattle.script_reader.specs.Openings.{Openings}
use Rattle.script_reader.specs.Alone.{PastAlone}
use Rattle.script_reader.specs.Scripts.{Running, RunningAlone, Begun, Whole, Alone, GoesWhole, GoesAlone, GoesOn, Leads, LeadTo, Ends, IsTranscript}
use Rattle.script_reader.proofs.One.{step_one}
use Rattle.script_reader.proofs.OneLow.{step_low_one}

pub record Alike (a b : Option Begun) (xs ys : List Event) : Type 0 where
  pub after : a ≡ b
  pub printed : xs ≡ ys

goes_one : (s : Running) (line : Line) (a b : Option Begun) (xs ys : List Event) → GoesWhole s line a xs → GoesWhole s line b ys → Alike a b xs ys
goes_one s line a b xs ys (timely, (q, h, e)) (timely', (r, k, f)) =
    let x = step_one s.row s.past line q r xs ys h k in
    record { after = e ∙ ap (λ (t : Past). Some (Whole (record { row = s.row; past = t }))) x.past ∙ sym f; printed = x.printed }

goes_low_one : (s : RunningAlone) (line : Line) (a b : Option Begun) (xs ys : List Event) → GoesAlone s line a xs → GoesAlone s line b ys → Alike a b xs ys
goes_low_one s line a b xs ys (timely, (q, h, e)) (timely', (r, k, f)) =
    let x = step_low_one s.row s.past line false q r xs ys h k in
    record { after = e ∙ ap (λ (t : PastAlone). Some (Alone (record { row = s.row; past = t }))) x.past ∙ sym f; printed = x.printed }

goes_on_one : (s : Begun) (line : Line) (a b : Option Begun) (xs ys : List Event) → GoesOn s line a xs → GoesOn s line b ys → Alike a b xs ys
goes_on_one (Whole s) line a b xs ys h k = goes_one s line a b xs ys h k
goes_on_one (Alone s) line a b xs ys h k = goes_low_one s line a b xs ys h k

pub leads_one : (o : Openings) (running : Option Begun) (line : Line) (a b : Option Begun) (xs ys : List Event) → Leads o running line a xs → Leads o running line b ys → Alike a b xs ys
leads_one o None lines.Skip a b xs ys h k = record { after = h.0 ∙ sym k.0; printed = h.1 ∙ sym k.1 }
leads_one o (Some s) lines.Skip a b xs ys h k = record { after = h.0 ∙ sym k.0; printed = h.1 ∙ sym k.1 }
leads_one o None (lines.Session row) a b xs ys h k = record { after = h.0.2 ∙ sym k.0.2; printed = h.1 ∙ sym k.1 }
leads_one o None (lines.LowSession row next held) a b xs ys h k = record { after = h.0.1 ∙ sym k.0.1; printed = h.1 ∙ sym k.1 }
leads_one o None (lines.Coarse session) a b xs ys h k = absurd h
leads_one o None (lines.Look session m w z) a b xs ys h k = absurd h
leads_one o None (lines.Told session m w fault told z) a b xs ys h k = absurd h
leads_one o None (lines.Step session m w) a b xs ys h k = absurd h
leads_one o None (lines.Gone session m) a b xs ys h k = absurd h
leads_one o None (lines.High session m) a b xs ys h k = absurd h
leads_one o None (lines.Carry session back) a b xs ys h k = absurd h
leads_one o None (lines.Return session m back) a b xs ys h k = absurd h
leads_one o None (lines.Done session m t) a b xs ys h k = absurd h
leads_one o None (lines.Restart session m) a b xs ys h k = absurd h
leads_one o None (lines.ReceiverRestart session m) a b xs ys h k = absurd h
leads_one o (Some s) (lines.Session row) a b xs ys h k = goes_on_one s (lines.Session row) a b xs ys h k
leads_one o (Some s) (lines.LowSession row next held) a b xs ys h k = goes_on_one s (lines.LowSession row next held) a b xs ys h k
leads_one o (Some s) (lines.Coarse session) a b xs ys h k = record { after = h.0.2 ∙ sym k.0.2; printed = h.1 ∙ sym k.1 }
leads_one o (Some s) (lines.Look session m w z) a b xs ys h k = goes_on_one s (lines.Look session m w z) a b xs ys h k
leads_one o (Some s) (lines.Told session m w fault told z) a b xs ys h k = goes_on_one s (lines.Told session m w fault told z) a b xs ys h k
leads_one o (Some s) (lines.Step session m w) a b xs ys h k = goes_on_one s (lines.Step session m w) a b xs ys h k
leads_one o (Some s) (lines.Gone session m) a b xs ys h k = goes_on_one s (lines.Gone session m) a b xs ys h k
leads_one o (Some s) (lines.High session m) a b xs ys h k = goes_on_one s (lines.High session m) a b xs ys h k
leads_one o (Some s) (lines.Carry session back) a b xs ys h k = goes_on_one s (lines.Carry session back) a b xs ys h k
leads_one o (Some s) (lines.Return session m back) a b xs ys h k = goes_on_one s (lines.Return session m back) a b xs ys h k
leads_one o (Some s) (lines.Done session m t) a b xs ys h k = goes_on_one s (lines.Done session m t) a b xs ys h k
leads_one o (Some s) (lines.Restart session m) a b xs ys h k = goes_on_one s (lines.Restart session m) a b xs ys h k
leads_one o (Some s) (lines.ReceiverRestart session m) a b xs ys h k = goes_on_one s (lines.ReceiverRestart session m) a b xs ys h k

pub lead_one : (o : Openings) (running : Option Begun) (script : List Line) (a b : Option Begun) (xs ys : List Event) → LeadTo o running script a xs → LeadTo o running script b ys → Alike a b xs ys
lead_one o running [] a b xs ys h k = record { after = h.0 ∙ sym k.0; printed = h.1 ∙ sym k.1 }
lead_one o running (line ∷ script) a b xs ys (mid, c, d, h, t, e) (mid', c', d', h', t', e') =
    let x = leads_one o running line mid mid' c c' h h' in
    let y = lead_one o mid script a b d d' t (subst (λ (u : Option Begun). LeadTo o u script b d') (sym x.after) t') in
    record { after = y.after; printed = e ∙ (λ i. x.printed i ++ y.printed i) ∙ sym e' }

pub ends_one : (running : Option Begun) (xs ys : List Event) → Ends running xs → Ends running ys → xs ≡ ys
ends_one None xs ys h k = h ∙ sym k
ends_one (Some (Whole s)) xs ys h k = h ∙ sym k
ends_one (Some (Alone s)) xs ys (x, (parts, cut, e), f) (y, (parts', cut', e'), f') =
    let c = one_cut s.row s.past.history.life parts parts' cut cut' in
    let same : x ≡ y = e ∙ ap (λ (u : List Part). End s.row.id (count_after s.past.history.life.opening u) None) c ∙ sym e' in
    f ∙ ap (λ (u : Event). u ∷ []) same ∙ sym f'

pub transcript_one : (o : Openings) (script : List Line) (xs ys : List Event) → IsTranscript o script xs → IsTranscript o script ys → xs ≡ ys
transcript_one o script xs ys (a, c, l, h, end, e) (b, d, l', k, end', f) =
    let x = lead_one o None script a b c d h k in
    let y = ends_one a l l' end (subst (λ (u : Option Begun). Ends u l') (sym x.after) end') in
    e ∙ (λ i. x.printed i ++ y i) ∙ sym f

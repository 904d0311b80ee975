-- Until a line comes that does not stand first, each session of a script is new.
use Rattle.std.proofs.Common.{◌≡◌, ℕ, ◌||◌, true, false, List, [], ◌∷◌, Option, Some, None, refl, sym, ap, ◌∙◌, subst}
use Rattle.std.specs.Prelude.{◌==◌, not}
use Rattle.std.proofs.lemmas.Bool.{eqb-true, eqb-false, or_parts, not-false}
use Rattle.std.proofs.lemmas.Option.{same_Some}
use Rattle.script_reader.specs.declared.line.Line.{Line}
use Rattle.script_reader.specs.declared.line.Line.TheVariants as lines
use Rattle.script_reader.specs.declared.event.Event.{Event}
use Rattle.script_reader.specs.Openings.{Openings}
use Rattle.script_reader.specs.Scripts.{Begun, Whole, Alone, GoesOn, IsNew, made_coarse, Leads}
use Rattle.script_reader.specs.Sessions.{session_number, session_in, stands_first, session_at, Sessions, no_sessions, LeadsOne, ScriptLeadsTo}
use Rattle.script_reader.proofs.Leading.{led}
use Rattle.script_reader.proofs.Beside.{placed, left}

-- a line that stands first is none of a session that runs
first_goes : (s : Begun) (line : Line) (after : Option Begun) (printed : List Event) → stands_first line ≡ true → GoesOn s line after printed → ⊥
first_goes (Whole s) (lines.Session row) after printed first h = cc h.0
first_goes (Alone s) (lines.Session row) after printed first h = cc h.0
first_goes (Whole s) (lines.LowSession row next held) after printed first h = cc h.0
first_goes (Alone s) (lines.LowSession row next held) after printed first h = cc h.0
first_goes (Whole s) (lines.Coarse session) after printed first h = cc h.0
first_goes (Alone s) (lines.Coarse session) after printed first h = cc h.0
first_goes s lines.Skip after printed first h = absurd (cc)
first_goes s (lines.Look session m w z) after printed first h = absurd (cc)
first_goes s (lines.Told session m w fault told z) after printed first h = absurd (cc)
first_goes s (lines.Step session m w) after printed first h = absurd (cc)
first_goes s (lines.Gone session m) after printed first h = absurd (cc)
first_goes s (lines.High session m) after printed first h = absurd (cc)
first_goes s (lines.Carry session back) after printed first h = absurd (cc)
first_goes s (lines.Return session m back) after printed first h = absurd (cc)
first_goes s (lines.Done session m time) after printed first h = absurd (cc)
first_goes s (lines.Restart session m) after printed first h = absurd (cc)
first_goes s (lines.ReceiverRestart session m) after printed first h = absurd (cc)

-- it leads to a new session
first_leads : (o : Openings) (running : Option Begun) (line : Line) (s : Begun) (printed : List Event) (n : ℕ) → session_in line ≡ Some n → stands_first line ≡ true
    → Leads o running line (Some s) printed → IsNew o s
first_leads o running line s printed n named first h =
    led o running line (Some s) printed h
    (λ skip e f. let none : None ≡ Some n = sym (ap session_in skip) ∙ named in absurd (cc))
    (λ r none new e f. subst (IsNew o) (sym (same_Some s r e)) new)
    (λ r some goes. absurd (first_goes r line (Some s) printed first goes))
    (λ r session some is new again e f. subst (IsNew o) (sym (same_Some s (made_coarse r) e)) again)

-- where no other line came, each session is new
abbrev AreNew : Openings → Sessions → Type 0
AreNew o t = t.is_under_way ≡ false → (number : ℕ) (s : Begun) → session_at number t.begun ≡ Some s → IsNew o s

new_by : (o : Openings) (t : Sessions) (line : Line) (at : Option ℕ) (u : Sessions) (printed : List Event) → session_in line ≡ at → LeadsOne o t line at u printed → AreNew o t → AreNew o u
new_by o t line None u printed named (e, f) new = subst (AreNew o) (sym e) new
new_by o t line (Some n) u printed named (turn, (s, leads, e)) new = λ still number r found.
    let way : (t.is_under_way || not (stands_first line)) ≡ false = sym (ap (λ (w : Sessions). w.is_under_way) e) ∙ still in
    let parts = or_parts t.is_under_way (not (stands_first line)) way in
    elim (session_number s == number) as (λ b. (session_number s == number) ≡ b → IsNew o r) [
      | true ↦ λ is.
          let same = same_Some s r (sym (placed number t line s u e (eqb-true (session_number s) number is)) ∙ found) in
          subst (IsNew o) same (first_leads o (session_at n t.begun) line s printed n named (not-false (stands_first line) parts.1) leads)
      | false ↦ λ is. new parts.0 number r (sym (left number t line s u e (eqb-false (session_number s) number is)) ∙ found)
    ] refl

new_sessions : (o : Openings) (t : Sessions) (script : List Line) (u : Sessions) (printed : List Event) → ScriptLeadsTo o t script u printed → AreNew o t → AreNew o u
new_sessions o t [] u printed (e, f) new = subst (AreNew o) (sym e) new
new_sessions o t (line ∷ later) u printed (mid, first, second, one, rest, e) new =
    new_sessions o mid later u second rest (new_by o t line (session_in line) mid first refl one new)

-- no session is there before the first line
pub begins_new : (o : Openings) (script : List Line) (t : Sessions) (printed : List Event) → ScriptLeadsTo o no_sessions script t printed → t.is_under_way ≡ false
    → (number : ℕ) (s : Begun) → session_at number t.begun ≡ Some s → IsNew o s
begins_new o script t printed h = new_sessions o no_sessions script t printed h (λ still number s found. absurd (cc))

-- What the disks of one more session were found to hold: the lines before it lead to the same.
use Rattle.std.proofs.Common.{◌≡◌, ℕ, Bool, true, false, ◌==◌, if◌then◌else◌, List, [], ◌∷◌, Option, None, Some, inl, inr, refl, sym, ap, ◌∙◌, subst}
use Rattle.std.proofs.lemmas.Bool.{and_parts, eq-eqb, ne_eqb, eqb-true, eqb-false}
use Rattle.std.proofs.lemmas.Option.{same_Some}
use Rattle.script_reader.specs.declared.event.Event.{Event}
use Rattle.script_reader.specs.declared.line.Line.{Line}
use Rattle.script_reader.specs.declared.line.Line.TheVariants as lines
use Rattle.script_reader.specs.Openings.{Openings, Found, CanOpen, first_past}
use Rattle.script_reader.specs.Scripts.{Begun, Whole, Alone, GoesOn, IsNew, may_coarsen, Leads}
use Rattle.script_reader.specs.Sessions.{Sessions, no_sessions, session_number, session_in, stands_first, session_at, led_to, is_in_turn, LeadsOne, ScriptLeads, ScriptLeadsTo}
use Rattle.script_reader.proofs.Apart.{session_at-own, session_at-other, found_number}
use Rattle.script_reader.proofs.Beside.{beside, has_number}
use Rattle.script_reader.proofs.Leading.{led}
use Rattle.script_reader.proofs.Named.{leads_of}
use Rattle.script_reader.proofs.NewSessions.{begins_new}
use Rattle.pump_frame.specs.Rows.{IsLawfulRow}
use Rattle.script_replay.specs.Replays.{IsSoFar}
use Rattle.script_replay.specs.Runners.{Finds, AllFind, LeadsFrom, OneLeadsFrom}
use Rattle.script_replay.specs.Shelves.{Places, HasFound}
use Rattle.script_replay.proofs.Coarse.{still_new}
use Rattle.script_replay.proofs.Going.{leads_from}

-- ---- one line ----

pub named_some : (line : Line) (number : ℕ) → session_in line ≡ Some number → line ≡ lines.Skip → ⊥
named_some line number named e = let none : None ≡ Some number = sym (ap session_in e) ∙ named in cc

-- one that is new is so by what its own disks were found to hold
new_same : (o p : Openings) (s : Begun) → o (session_number s) ≡ p (session_number s) → IsNew o s → IsNew p s
new_same o p (Whole s) same new = subst (λ (f : Found). IsLawfulRow s.row × CanOpen s.row f × (s.past ≡ first_past s.row f)) same new
new_same o p (Alone s) same new = new

coarsens_number : (s : Begun) (session : ℕ) → may_coarsen session s ≡ true → session_number s ≡ session
coarsens_number (Whole s) session may = sym (eqb-true session s.row.id (and_parts (session == s.row.id) _ may).0)
coarsens_number (Alone s) session may = sym (eqb-true session s.row.id (and_parts (session == s.row.id) _ may).0)

coarse_same : (o p : Openings) (s : Begun) (session number : ℕ) (after : Option Begun) (printed : List Event) → Some session ≡ Some number → o number ≡ p number
    → Leads o (Some s) (lines.Coarse session) after printed → Leads p (Some s) (lines.Coarse session) after printed
coarse_same o p s session number after printed named same ((may, new, is), silent) =
    let mine : session_number s ≡ number = coarsens_number s session may ∙ same_Some session number named in
    ((may, new_same o p s (ap o mine ∙ same ∙ sym (ap p mine)) new, is), silent)

leads_same : (o p : Openings) (running : Option Begun) (line : Line) (number : ℕ) (after : Option Begun) (printed : List Event) → session_in line ≡ Some number → o number ≡ p number
    → Leads o running line after printed → Leads p running line after printed
leads_same o p (Some s) line number after printed named same h =
    led o (Some s) line after printed h
    (λ skip e f. absurd (named_some line number named skip))
    (λ r none new e f. cc)
    (λ r some goes. leads_from p s line after printed (named_some line number named) (subst (λ (x : Begun). GoesOn x line after printed) (sym (same_Some s r some)) goes))
    (λ r session some is new made e f.
    subst (λ (l : Line). Leads p (Some s) l after printed) (sym is)
    (coarse_same o p s session number after printed (sym (ap session_in is) ∙ named) same (subst (λ (l : Line). Leads o (Some s) l after printed) is h)))
leads_same o p None (lines.Session row) number after printed named same h =
    let id : row.id ≡ number = same_Some row.id number named in
    let found : o row.id ≡ p row.id = ap o id ∙ same ∙ sym (ap p id) in
    (subst (λ (f : Found). IsLawfulRow row × CanOpen row f × (after ≡ Some (Whole (record { row = row; past = first_past row f })))) found h.0, h.1)
leads_same o p None (lines.LowSession row next held) number after printed named same h = h
leads_same o p None lines.Skip number after printed named same h = cc
leads_same o p None (lines.Coarse session) number after printed named same h = absurd h
leads_same o p None (lines.Look session m w z) number after printed named same h = absurd h
leads_same o p None (lines.Told session m w fault told z) number after printed named same h = absurd h
leads_same o p None (lines.Step session m w) number after printed named same h = absurd h
leads_same o p None (lines.Gone session m) number after printed named same h = absurd h
leads_same o p None (lines.High session m) number after printed named same h = absurd h
leads_same o p None (lines.Carry session back) number after printed named same h = absurd h
leads_same o p None (lines.Return session m back) number after printed named same h = absurd h
leads_same o p None (lines.Done session m t) number after printed named same h = absurd h
leads_same o p None (lines.Restart session m) number after printed named same h = absurd h
leads_same o p None (lines.ReceiverRestart session m) number after printed named same h = absurd h

-- the session that a line leads to has the number that the line names
pub led_number : (o : Openings) (number : ℕ) (t : Sessions) (line : Line) (s : Begun) (printed : List Event) → session_in line ≡ Some number → Leads o (session_at number t.begun) line (Some s) printed → session_number s ≡ number
led_number o number t line s printed named h =
    (leads_of o (session_at number t.begun) line number (Some s) printed named (has_number number t.begun (session_at number t.begun) refl) h).session

pub led_there : (number : ℕ) (t : Sessions) (line : Line) (s : Begun) (u : Sessions) → u ≡ led_to t line s → session_number s ≡ number → session_at number u.begun ≡ Some s
led_there number t line s u e same = ap (λ (v : Sessions). session_at number v.begun) e ∙ session_at-own number s t.begun same

pub led_beside : (other number : ℕ) (t : Sessions) (line : Line) (s : Begun) (u : Sessions) → u ≡ led_to t line s → session_number s ≡ number → (other ≡ number → ⊥) → session_at other u.begun ≡ session_at other t.begun
led_beside other number t line s u e same apart = ap (λ (v : Sessions). session_at other v.begun) e ∙ session_at-other other s t.begun (λ is. apart (sym is ∙ same))

-- ---- a script ----

-- a session that isn't there was not before
not_before : (o : Openings) (number : ℕ) (t : Sessions) (line : Line) (u : Sessions) (printed : List Event) → ScriptLeads o t line u printed → session_at number u.begun ≡ None → session_at number t.begun ≡ None
not_before o number t line u printed h none = elim (beside o number t line u printed h) [
  | inl x ↦ let there = x.found in cc (sym there ∙ none)
  | inr x ↦ sym x.found ∙ none
]

none_before : (o : Openings) (number : ℕ) (t : Sessions) (script : List Line) (u : Sessions) (printed : List Event) → ScriptLeadsTo o t script u printed → session_at number u.begun ≡ None → session_at number t.begun ≡ None
none_before o number t [] u printed h none = ap (λ (v : Sessions). session_at number v.begun) (sym h.0) ∙ none
none_before o number t (line ∷ later) u printed (mid, first, second, h, rest, e) none = not_before o number t line mid first h (none_before o number mid later u second rest none)

module _ (o p : Openings) (number : ℕ) (same : (k : ℕ) → (k ≡ number → ⊥) → o k ≡ p k) where
  one_same : (t : Sessions) (line : Line) (at : Option ℕ) (u : Sessions) (printed : List Event) → session_in line ≡ at → LeadsOne o t line at u printed → session_at number u.begun ≡ None → LeadsOne p t line at u printed
  one_same t line None u printed named h none = h
  one_same t line (Some n) u printed named (turn, (s, h, e)) none =
      let mine = led_number o n t line s printed named h in
      let apart : n ≡ number → ⊥ = λ is. cc (sym (led_there number t line s u e (mine ∙ is)) ∙ none) in
      (turn, (s, leads_same o p (session_at n t.begun) line n (Some s) printed named (same n apart) h, e))

  pub lead_same : (t : Sessions) (script : List Line) (u : Sessions) (printed : List Event) → ScriptLeadsTo o t script u printed → session_at number u.begun ≡ None → ScriptLeadsTo p t script u printed
  lead_same t [] u printed h none = h
  lead_same t (line ∷ later) u printed (mid, first, second, h, rest, e) none = (
    mid,
    first,
    second,
    one_same t line (session_in line) mid first refl h (none_before o number mid later u second rest none),
    lead_same mid later u second rest none,
    e,
  )

-- ---- one more session ----

-- what p has at this number, and o at all others
module _ (number : ℕ) (p o : Openings) where
  abbrev wide : Openings
  wide = λ k. if k == number then p k else o k

  at_it : wide number ≡ p number
  at_it = ap (λ (b : Bool). if b then p number else o number) (eq-eqb number number refl)

  beside_it : (k : ℕ) → (k ≡ number → ⊥) → wide k ≡ o k
  beside_it k apart = ap (λ (b : Bool). if b then p k else o k) (ne_eqb k number apart)

finds_same : (before : Places) (o p : Openings) (running : Option Begun) (number : ℕ) → ((s : Begun) → running ≡ Some s → session_number s ≡ number) → o number ≡ p number → Finds before o running → Finds before p running
finds_same before o p (Some (Whole s)) number of same h =
    let id : s.row.id ≡ number = of (Whole s) refl in
    subst (λ (f : Found). HasFound before s.row f) (ap o id ∙ same ∙ sym (ap p id)) h
finds_same before o p (Some (Alone s)) number of same h = tt
finds_same before o p None number of same h = tt

-- the openings by which a line leads on from where the lines before it came
pub record Advance (before : Places) (all rest : Option (List ℕ)) (lines : List Line) (events : List Event) (t : Sessions) (line : Line) (u : Sessions) (printed : List Event) : Type 0 where
  pub openings : Openings
  pub so_far : IsSoFar openings all rest lines events t
  pub leads : ScriptLeads openings t line u printed
  pub found : AllFind before openings u.begun

module _ (before : Places) (o : Openings) (all rest : Option (List ℕ)) (lines : List Line) (events : List Event) (t : Sessions) (line : Line) (u : Sessions) (printed : List Event) (so_far : IsSoFar o all rest lines events t) (found : AllFind before o t.begun) where
  abbrev There : Type 0
  There = Advance before all rest lines events t line u printed

  -- of each number, once one has changed
  found_all : (p : Openings) (number : ℕ) (s : Begun) → u ≡ led_to t line s → session_number s ≡ number → Finds before p (Some s) → ((k : ℕ) → (k ≡ number → ⊥) → o k ≡ p k) → AllFind before p u.begun
  found_all p number s e mine new same = λ k.
      elim (k == number) as (λ b. (k == number) ≡ b → Finds before p (session_at k u.begun)) [
        | true ↦ λ is. subst (λ (x : Option Begun). Finds before p x) (sym (led_there k t line s u e (mine ∙ sym (eqb-true k number is)))) new
        | false ↦ λ is.
            let apart = eqb-false k number is in
            subst (λ (x : Option Begun). Finds before p x) (sym (led_beside k number t line s u e mine apart))
            (finds_same before o p (session_at k t.begun) k (λ r there. found_number k t.begun r there) (same k apart) (found k))
      ] refl

  one_more : (number : ℕ) (running : Option Begun) (s : Begun) → session_in line ≡ Some number → session_at number t.begun ≡ running → is_in_turn t line ≡ true → u ≡ led_to t line s → LeadsFrom before running line (Some s) printed → There
  one_more number (Some r) s named there turn e goes =
      let new : stands_first line ≡ true → IsNew o r = λ first. begins_new o lines t events so_far.leads (still_new t line turn first) number r there in
      let h = goes o (subst (λ (x : Option Begun). Finds before o x) there (found number)) new in
      let leads : Leads o (session_at number t.begun) line (Some s) printed = subst (λ (x : Option Begun). Leads o x line (Some s) printed) (sym there) h.0 in
      record {
        openings = o;
        so_far = so_far;
        leads = subst (λ (at : Option ℕ). LeadsOne o t line at u printed) (sym named) (turn, (s, leads, e));
        found = found_all o number s e (led_number o number t line s printed named leads) h.1 (λ k apart. refl);
      }
  one_more number None s named there turn e (p, goes, finds) =
      let w = wide number p o in
      let leads : Leads w (session_at number t.begun) line (Some s) printed =
      subst (λ (x : Option Begun). Leads w x line (Some s) printed) (sym there) (leads_same p w None line number (Some s) printed named (sym (at_it number p o)) goes) in
      let mine = led_number w number t line s printed named leads in
      record {
        openings = w;
        so_far = record { spelled = so_far.spelled; leads = lead_same o w number (λ k apart. sym (beside_it number p o k apart)) no_sessions lines t events so_far.leads there };
        leads = subst (λ (at : Option ℕ). LeadsOne w t line at u printed) (sym named) (turn, (s, leads, e));
        found = found_all w number s e mine (finds_same before p w (Some s) number (λ r is. ap session_number (sym (same_Some s r is)) ∙ mine) (sym (at_it number p o)) finds)
            (λ k apart. sym (beside_it number p o k apart));
      }

  at_line : (at : Option ℕ) → session_in line ≡ at → OneLeadsFrom before t line at u printed → There
  at_line None named (e, silent) = record {
    openings = o;
    so_far = so_far;
    leads = subst (λ (at : Option ℕ). LeadsOne o t line at u printed) (sym named) (e, silent);
    found = subst (λ (v : Sessions). AllFind before o v.begun) (sym e) found;
  }
  at_line (Some number) named (turn, (s, goes, e)) = one_more number (session_at number t.begun) s named refl turn e goes

  pub advance : OneLeadsFrom before t line (session_in line) u printed → There
  advance h = at_line (session_in line) refl h

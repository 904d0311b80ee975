-- Two openings that are found on the same disks lead the same lines to the same.
use Rattle.std.proofs.Common.{◌≡◌, ℕ, true, false, ◌==◌, List, [], ◌∷◌, Option, None, Some, inl, inr, refl, sym, ◌∙◌, subst}
use Rattle.std.specs.List.{AllByRecursion}
use Rattle.std.proofs.lemmas.Bool.{eqb-true, eqb-false}
use Rattle.std.proofs.lemmas.Option.{same_Some}
use Rattle.pump_frame.specs.Rows.{IsLawfulRow}
use Rattle.script_reader.specs.declared.event.Event.{Event}
use Rattle.script_reader.specs.declared.line.Line.{Line}
use Rattle.script_reader.specs.declared.line.Line.TheVariants as lines
use Rattle.script_reader.specs.Openings.{Openings, Found, CanOpen, first_past}
use Rattle.script_reader.specs.Scripts.{Begun, Whole, Alone, GoesOn, IsNew, made_coarse, Leads}
use Rattle.script_reader.specs.Sessions.{Sessions, session_in, session_at, LeadsOne, ScriptLeads, ScriptLeadsTo}
use Rattle.script_reader.proofs.Beside.{beside}
use Rattle.script_reader.proofs.Leading.{led}
use Rattle.script_replay.specs.Runners.{Finds, AllFind}
use Rattle.script_replay.specs.Shelves.{Places}
use Rattle.script_replay.specs.Statuses.{IsFoundFor}
use Rattle.script_replay.proofs.FoundOnce.{one_found, found_fine}
use Rattle.script_replay.proofs.Going.{leads_from}
use Rattle.script_replay.proofs.Widened.{named_some, led_number, led_there, led_beside}

-- ---- what was found before a line ----

module _ (before : Places) (p : Openings) where
  goes_back : (r : Begun) (line : Line) (after : Option Begun) (printed : List Event) → GoesOn r line after printed → Finds before p after → Finds before p (Some r)
  goes_back (Whole s) line after printed (timely, (q, step, e)) found = subst (λ (x : Option Begun). Finds before p x) e found
  goes_back (Alone s) line after printed h found = tt

  coarse_back : (r : Begun) → Finds before p (Some (made_coarse r)) → Finds before p (Some r)
  coarse_back (Whole s) found = found_fine before s.row (p s.row.id) found
  coarse_back (Alone s) found = tt

  back_some : (running : Option Begun) (r : Begun) → running ≡ Some r → Finds before p (Some r) → Finds before p running
  back_some running r is found = subst (λ (x : Option Begun). Finds before p x) (sym is) found

  back_one : (running : Option Begun) (line : Line) (after : Option Begun) (printed : List Event) → Leads p running line after printed → Finds before p after → Finds before p running
  back_one running line after printed h found = led p running line after printed h
      (λ skip e f. subst (λ (x : Option Begun). Finds before p x) e found)
      (λ r none new e f. subst (λ (x : Option Begun). Finds before p x) (sym none) tt)
      (λ r some goes. back_some running r some (goes_back r line after printed goes found))
      (λ r session some is new made e f. back_some running r some (coarse_back r (subst (λ (x : Option Begun). Finds before p x) e found)))

  finds_back : (t : Sessions) (line : Line) (u : Sessions) (printed : List Event) → ScriptLeads p t line u printed → AllFind before p u.begun → AllFind before p t.begun
  finds_back t line u printed h found = λ k. elim (beside p k t line u printed h) [
    | inl own ↦ back_one (session_at k t.begun) line (Some own.session) printed own.leads (subst (λ (x : Option Begun). Finds before p x) own.found (found k))
    | inr other ↦ subst (λ (x : Option Begun). Finds before p x) other.found (found k)
  ]

  pub all_back : (t : Sessions) (script : List Line) (u : Sessions) (printed : List Event) → ScriptLeadsTo p t script u printed → AllFind before p u.begun → AllFind before p t.begun
  all_back t [] u printed h found = subst (λ (v : Sessions). AllFind before p v.begun) h.0 found
  all_back t (line ∷ later) u printed (mid, first, second, h, rest, e) found = finds_back t line mid first h (all_back mid later u second rest found)

-- ---- one line ----

module _ (before : Places) (p o : Openings) where
  -- both openings have the same for the session
  abbrev pub IsSame : Option Begun → Type 0
  IsSame None = Unit {0}
  IsSame (Some (Whole s)) = p s.row.id ≡ o s.row.id
  IsSame (Some (Alone s)) = Unit {0}

  new_alike : (s : Begun) → IsSame (Some s) → IsNew p s → IsNew o s
  new_alike (Whole s) same new = subst (λ (f : Found). IsLawfulRow s.row × CanOpen s.row f × (s.past ≡ first_past s.row f)) same new
  new_alike (Alone s) same new = new

  coarse_alike : (s : Begun) → IsSame (Some s) → IsSame (Some (made_coarse s))
  coarse_alike (Whole s) same = same
  coarse_alike (Alone s) same = tt

  goes_alike : (s : Begun) (line : Line) (after : Option Begun) (printed : List Event) → GoesOn s line after printed → IsSame (Some s) → IsSame after
  goes_alike (Whole s) line after printed (timely, (q, step, e)) same = subst IsSame (sym e) same
  goes_alike (Alone s) line after printed (timely, (q, step, e)) same = subst IsSame (sym e) tt

  abbrev Alike : Option Begun → Line → Option Begun → List Event → Type 0
  Alike running line after printed = Leads o running line after printed × IsSame after

  some_alike : (s : Begun) (line : Line) (after : Option Begun) (printed : List Event) → Leads p (Some s) line after printed → IsSame (Some s) → (line ≡ lines.Skip → ⊥) → Alike (Some s) line after printed
  some_alike s line after printed h same some = led p (Some s) line after printed h
      (λ skip e f. absurd (some skip))
      (λ r none new e f. cc)
      (λ r is goes.
      let mine = subst (λ (x : Begun). GoesOn x line after printed) (sym (same_Some s r is)) goes in
      (leads_from o s line after printed some mine, goes_alike s line after printed mine same))
      (λ r session is line_is new made e f.
      let me : s ≡ r = same_Some s r is in
      let h' = subst (λ (l : Line). Leads p (Some s) l after printed) line_is h in (
        subst (λ (l : Line). Leads o (Some s) l after printed) (sym line_is) ((h'.0.0, new_alike s same h'.0.1, h'.0.2), h'.1),
        subst IsSame (sym h'.0.2) (coarse_alike s same),
      ))

  none_alike : (line : Line) (after : Option Begun) (printed : List Event) → Leads p None line after printed → Finds before p after → IsFoundFor before o line → (line ≡ lines.Skip → ⊥) → Alike None line after printed
  none_alike (lines.Session row) after printed ((lawful, can, e), silent) found here some =
      let same : p row.id ≡ o row.id = one_found before row lawful (p row.id) (o row.id) (subst (λ (x : Option Begun). Finds before p x) e found) here in (
        subst (λ (f : Found). (IsLawfulRow row × CanOpen row f × (after ≡ Some (Whole (record { row = row; past = first_past row f })))) × (printed ≡ [])) same ((lawful, can, e), silent),
        subst IsSame (sym e) same,
      )
  none_alike (lines.LowSession row next held) after printed h found here some = (h, subst IsSame (sym h.0.1) tt)
  none_alike lines.Skip after printed h found here some = absurd (some refl)
  none_alike (lines.Coarse session) after printed h found here some = absurd h
  none_alike (lines.Look session m w z) after printed h found here some = absurd h
  none_alike (lines.Told session m w fault told z) after printed h found here some = absurd h
  none_alike (lines.Step session m w) after printed h found here some = absurd h
  none_alike (lines.Gone session m) after printed h found here some = absurd h
  none_alike (lines.High session m) after printed h found here some = absurd h
  none_alike (lines.Carry session back) after printed h found here some = absurd h
  none_alike (lines.Return session m back) after printed h found here some = absurd h
  none_alike (lines.Done session m t) after printed h found here some = absurd h
  none_alike (lines.Restart session m) after printed h found here some = absurd h
  none_alike (lines.ReceiverRestart session m) after printed h found here some = absurd h

  one_alike : (running : Option Begun) (line : Line) (after : Option Begun) (printed : List Event) → Leads p running line after printed → IsSame running → Finds before p after → IsFoundFor before o line → (line ≡ lines.Skip → ⊥)
      → Alike running line after printed
  one_alike None line after printed h same found here some = none_alike line after printed h found here some
  one_alike (Some s) line after printed h same found here some = some_alike s line after printed h same some

  -- ---- a script ----

  abbrev AllSame : List Begun → Type 0
  AllSame begun = (number : ℕ) → IsSame (session_at number begun)

  line_alike : (t : Sessions) (line : Line) (at : Option ℕ) (u : Sessions) (printed : List Event) → session_in line ≡ at → LeadsOne p t line at u printed → AllSame t.begun → AllFind before p u.begun → IsFoundFor before o line
      → LeadsOne o t line at u printed × AllSame u.begun
  line_alike t line None u printed named h same found here = (h, subst (λ (v : Sessions). AllSame v.begun) (sym h.0) same)
  line_alike t line (Some n) u printed named (turn, (s, h, e)) same found here =
      let mine = led_number p n t line s printed named h in
      let a = one_alike (session_at n t.begun) line (Some s) printed h (same n) (subst (λ (x : Option Begun). Finds before p x) (led_there n t line s u e mine) (found n)) here (named_some line n named) in (
        (turn, (s, a.0, e)),
        λ k. elim (k == n) as (λ b. (k == n) ≡ b → IsSame (session_at k u.begun)) [
          | true ↦ λ is. subst IsSame (sym (led_there k t line s u e (mine ∙ sym (eqb-true k n is)))) a.1
          | false ↦ λ is. subst IsSame (sym (led_beside k n t line s u e mine (eqb-false k n is))) (same k)
        ] refl,
      )

  pub lead_alike : (t : Sessions) (script : List Line) (u : Sessions) (printed : List Event) → ScriptLeadsTo p t script u printed → AllSame t.begun → AllFind before p u.begun → AllByRecursion (IsFoundFor before o) script
      → ScriptLeadsTo o t script u printed
  lead_alike t [] u printed h same found here = h
  lead_alike t (line ∷ later) u printed (mid, first, second, h, rest, e) same found here =
      let a = line_alike t line (session_in line) mid first refl h same (all_back before p mid later u second rest found) here.0 in
      (mid, first, second, a.0, lead_alike mid later u second rest a.1 found here.1, e)

-- What a script that a line stopped has printed of each of its sessions.
use Rattle.std.proofs.Common.{◌≡◌, inl, inr, ⊎_elim, ℕ, true, false, List, [], ◌∷◌, ◌++◌, Option, Some, None, refl, sym, ap, ◌∙◌, subst, append-nil}
use Rattle.std.specs.Prelude.{◌⊎◌, ◌==◌}
use Rattle.std.proofs.lemmas.Bool.{eqb-true, eqb-false}
use Rattle.std.proofs.lemmas.List.Elements.{filter-append}
use Rattle.script_reader.specs.declared.line.Line.{Line}
use Rattle.script_reader.specs.declared.fault.Fault.{Fault}
use Rattle.script_reader.specs.declared.event.Event.{Event}
use Rattle.script_reader.specs.Openings.{Openings}
use Rattle.script_reader.specs.Scripts.{Begun, LeadTo, Stops, ComesTo}
use Rattle.script_reader.specs.Sessions.{session_in, session_at, Sessions, no_sessions, is_in_turn, StopsOne, ScriptLeadsTo, ScriptStopsAfter, ScriptComesTo, is_number, lines_of, event_session, events_of}
use Rattle.script_reader.proofs.Beside.{Other, has_number, placed, left, own_line, other_line, one_of}
use Rattle.script_reader.proofs.Named.{AreOf, own_events, others_events, stops_of}

-- the stopping line is the session's own, and stops it; or it is another's
pub record OwnStop (number : ℕ) (t : Sessions) (line : Line) (u : Sessions) (printed : List Event) (fault : Fault) : Type 0 where
  pub named : session_in line ≡ Some number
  pub turn : is_in_turn t line ≡ true
  pub session : Begun
  pub stops : Stops (session_at number t.begun) line (Some session) printed fault
  pub found : session_at number u.begun ≡ Some session
  pub events : events_of number printed ≡ printed

stop_of : (number n : ℕ) (t : Sessions) (line : Line) (u : Sessions) (printed : List Event) (fault : Fault) → session_in line ≡ Some n
    → StopsOne t line (Some n) u printed fault → OwnStop number t line u printed fault ⊎ Other number t line u printed
stop_of number n t line u printed fault named (turn, (s, stops, e)) =
    let of = stops_of (session_at n t.begun) line n (Some s) printed fault (has_number n t.begun (session_at n t.begun) refl) stops in
    elim (n == number) as (λ b. (n == number) ≡ b → OwnStop number t line u printed fault ⊎ Other number t line u printed) [
      | true ↦ λ is.
          let same = eqb-true n number is in
          inl (record {
            named = named ∙ ap (λ (k : ℕ). Some k) same;
            turn = turn;
            session = s;
            stops = subst (λ (k : ℕ). Stops (session_at k t.begun) line (Some s) printed fault) same stops;
            found = placed number t line s u e (of.session ∙ same);
            events = own_events number printed (subst (λ (k : ℕ). AreOf k printed) same of.events);
          })
      | false ↦ λ is.
          let apart = eqb-false n number is in
          inr (record {
            unnamed = ap (is_number number) named ∙ is;
            found = left number t line s u e (λ same. apart (sym of.session ∙ same));
            events = others_events number n printed of.events apart;
          })
    ] refl

-- it is one of them
pub stop_by : (number : ℕ) (t : Sessions) (line : Line) (at : Option ℕ) (u : Sessions) (printed : List Event) (fault : Fault) → session_in line ≡ at
    → StopsOne t line at u printed fault → OwnStop number t line u printed fault ⊎ Other number t line u printed
stop_by number t line None u printed fault named h = absurd h
stop_by number t line (Some n) u printed fault named h = stop_of number n t line u printed fault named h

stopped_of : (o : Openings) (script : List Line) (u : Sessions) (printed : List Event) → ScriptStopsAfter o script u printed → (number : ℕ)
    → ComesTo o (lines_of number script) (session_at number u.begun) (events_of number printed)
stopped_of o script u printed s number =
    let led = one_of o number no_sessions s.before s.sessions s.first s.leads in
    let parts : lines_of number script ≡ lines_of number s.before ++ lines_of number (s.line ∷ []) =
    ap (lines_of number) s.script_is ∙ filter-append (λ line. is_number number (session_in line)) s.before (s.line ∷ []) in
    let split : events_of number printed ≡ events_of number s.first ++ events_of number s.last =
    ap (events_of number) s.printed_is ∙ filter-append (λ event. event_session event == number) s.first s.last in
    elim (stop_by number s.sessions s.line (session_in s.line) u s.last s.fault refl s.stops) [
      | inl x ↦ inr (record {
        before = lines_of number s.before;
        line = s.line;
        script_is = parts ∙ ap (λ ls. lines_of number s.before ++ ls) (own_line number s.line [] x.named);
        running = session_at number s.sessions.begun;
        first = events_of number s.first;
        leads = led;
        last = s.last;
        fault = s.fault;
        stops = subst (λ (r : Option Begun). Stops (session_at number s.sessions.begun) s.line r s.last s.fault) (sym x.found) x.stops;
        printed_is = split ∙ ap (λ l. events_of number s.first ++ l) x.events;
      })
      | inr x ↦
          let script_is = parts ∙ ap (λ ls. lines_of number s.before ++ ls) (other_line number s.line [] x.unnamed) ∙ append-nil (lines_of number s.before) in
          let printed_is = split ∙ ap (λ l. events_of number s.first ++ l) x.events ∙ append-nil (events_of number s.first) in
          inl (subst (λ (c : List Line × Option Begun × List Event). LeadTo o None c.0 c.1 c.2) (λ i. (sym script_is i, sym x.found i, sym printed_is i)) led)
    ]

-- what was printed so far of a session is what its own lines print
pub own_so_far : (o : Openings) (script : List Line) (u : Sessions) (printed : List Event) → ScriptComesTo o script u printed → (number : ℕ)
    → ComesTo o (lines_of number script) (session_at number u.begun) (events_of number printed)
own_so_far o script u printed h number =
    ⊎_elim (λ (l : ScriptLeadsTo o no_sessions script u printed). inl (one_of o number no_sessions script u printed l))
    (λ (s : ScriptStopsAfter o script u printed). stopped_of o script u printed s number) h

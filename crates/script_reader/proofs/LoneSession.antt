-- A session of a script alone: the script of its lines alone leads to it, and prints what is its own.
use Rattle.std.proofs.Common.{◌≡◌, inl, inr, ⊎_elim, ℕ, ◌<◌, ◌≤◌, ◌&&◌, ◌||◌, Bool, true, false, nat_lt, List, [], ◌∷◌, ◌++◌, length, Option, Some, None, refl, sym, ap, ◌∙◌, subst, append-nil, arith}
use Rattle.std.specs.Prelude.{◌==◌, if◌then◌else◌, not, max, option_to_list}
use Rattle.std.proofs.lemmas.Bool.{leb-true, le-leb, lt-ltb, and_parts, and_from, or_cases, or_left, or_right, not-true, not_from_false, false_from_ne_true}
use Rattle.std.proofs.lemmas.List.Elements.{filter-append}
use Rattle.script_reader.specs.declared.line.Line.{Line}
use Rattle.script_reader.specs.declared.fault.Fault.{Fault}
use Rattle.script_reader.specs.declared.event.Event.{Event}
use Rattle.script_reader.specs.Openings.{Openings}
use Rattle.script_reader.specs.Scripts.{Begun, Leads, Stops, Ends}
use Rattle.script_reader.specs.Sessions.{session_in, begins_session, stands_first, moment_in, moment_of, session_at, with_session, Sessions, no_sessions, led_to, is_from, is_in_turn, LeadsOne, ScriptLeads, StopsOne, ScriptStops, ScriptLeadsTo, AllEnd, IsScriptTranscript, ScriptStopsAfter, ScriptComesTo, is_number, lines_of, event_session, events_of}
use Rattle.script_reader.proofs.Beside.{Own, Other, beside, own_line, other_line, own_end, rises}
use Rattle.script_reader.proofs.BesideStop.{OwnStop, stop_by}
use Rattle.script_reader.proofs.Apart.{found_number, session_at-alone, with_alone}

-- v is what t would be with this session alone
pub record IsAlone (number : ℕ) (t v : Sessions) : Type 0 where
  pub begun : v.begun ≡ option_to_list (session_at number t.begun)
  pub moment : v.moment ≤ t.moment
  pub under_way : v.is_under_way ≡ true → t.is_under_way ≡ true

few : (found : Option Begun) → length (option_to_list found) < 16
few None = omega arith
few (Some s) = omega arith

from_less : (a b : ℕ) (m : Option ℕ) → a ≤ b → is_from b m ≡ true → is_from a m ≡ true
from_less a b None less h = refl
from_less a b (Some m) less h = le-leb a m (let after = leb-true b m h in omega (arith, less, after))

-- a line in its turn is so without the lines of others
turn_alone : (number : ℕ) (t v : Sessions) (line : Line) → IsAlone number t v → is_in_turn t line ≡ true → is_in_turn v line ≡ true
turn_alone number t v line a =
    let begins = not (begins_session line) in
    elim (stands_first line) as (λ b. (if b then (not t.is_under_way && (begins || nat_lt (length t.begun) 16)) else is_from t.moment (moment_in line)) ≡ true
    → (if b then (not v.is_under_way && (begins || nat_lt (length v.begun) 16)) else is_from v.moment (moment_in line)) ≡ true) [
      | true ↦ λ h.
          let still = not-true t.is_under_way (and_parts (not t.is_under_way) _ h).0 in
          and_from (not v.is_under_way) _ (not_from_false v.is_under_way (false_from_ne_true v.is_under_way (λ e. let way = a.under_way e in cc)))
          (or_right begins _ (lt-ltb (length v.begun) 16 (rw a.begun (few (session_at number t.begun)))))
      | false ↦ λ h. from_less v.moment t.moment (moment_in line) a.moment h
    ]

under_either : (a b c : Bool) → (a ≡ true → b ≡ true) → (a || c) ≡ true → (b || c) ≡ true
under_either a b c h e = ⊎_elim (λ (x : a ≡ true). or_left b c (h x)) (λ (y : c ≡ true). or_right b c y) (or_cases a c e)

max_less : (a b c : ℕ) → a ≤ b → max a c ≤ max b c
max_less a b c h = omega (arith, h)

-- a line of the session alone does what it does among others
alone_own : (o : Openings) (number : ℕ) (t v : Sessions) (line : Line) (u : Sessions) (printed : List Event) → IsAlone number t v → (x : Own o number t line u printed)
    → ScriptLeads o v line (led_to v line x.session) printed
alone_own o number t v line u printed a x =
    let there : session_at number v.begun ≡ session_at number t.begun =
    ap (session_at number) a.begun ∙ session_at-alone number (session_at number t.begun) (found_number number t.begun) in
    subst (λ (at : Option ℕ). LeadsOne o v line at (led_to v line x.session) printed) (sym x.named)
    (turn_alone number t v line a x.turn, (x.session, subst (λ (r : Option Begun). Leads o r line (Some x.session) printed) (sym there) x.leads, refl))

still_alone : (o : Openings) (number : ℕ) (t v : Sessions) (line : Line) (u : Sessions) (printed : List Event) → IsAlone number t v → (x : Own o number t line u printed)
    → IsAlone number u (led_to v line x.session)
still_alone o number t v line u printed a x = record {
  begun = ap (with_session x.session) a.begun
      ∙ with_alone x.session (session_at number t.begun) (λ r e. found_number number t.begun r e ∙ sym x.numbered)
      ∙ ap option_to_list (sym x.found);
  moment = subst (λ (w : Sessions). max v.moment (moment_of x.session) ≤ w.moment) (sym x.led) (max_less v.moment t.moment (moment_of x.session) a.moment);
  under_way = λ e. ap (λ (w : Sessions). w.is_under_way) x.led ∙ under_either v.is_under_way t.is_under_way (not (stands_first line)) a.under_way e;
}

-- what no line takes back
record Grows (t u : Sessions) : Type 0 where
  moment : t.moment ≤ u.moment
  under_way : t.is_under_way ≡ true → u.is_under_way ≡ true

grows_by : (o : Openings) (t : Sessions) (line : Line) (at : Option ℕ) (u : Sessions) (printed : List Event) → LeadsOne o t line at u printed → Grows t u
grows_by o t line None u printed (e, f) = subst (Grows t) (sym e) (record { moment = omega arith; under_way = λ h. h })
grows_by o t line (Some n) u printed (turn, (s, leads, e)) =
    subst (Grows t) (sym e) (record { moment = omega arith; under_way = λ h. or_left t.is_under_way _ h })

aside_alone : (o : Openings) (number : ℕ) (t v : Sessions) (line : Line) (u : Sessions) (printed : List Event) → IsAlone number t v → ScriptLeads o t line u printed
    → Other number t line u printed → IsAlone number u v
aside_alone o number t v line u printed a h x =
    let g = grows_by o t line (session_in line) u printed h in
    let more = g.moment in
    let least = a.moment in
    record { begun = a.begun ∙ ap option_to_list (sym x.found); moment = omega (arith, more, least); under_way = λ e. g.under_way (a.under_way e) }

-- the lines of the session alone lead to it alone, and print what is the session's
pub alone_leads : (o : Openings) (number : ℕ) (t v : Sessions) (script : List Line) (u : Sessions) (printed : List Event) → IsAlone number t v → ScriptLeadsTo o t script u printed
    → (w : Sessions) × ScriptLeadsTo o v (lines_of number script) w (events_of number printed) × IsAlone number u w
alone_leads o number t v [] u printed a (e, f) = (v, (refl, ap (events_of number) f), subst (λ (w : Sessions). IsAlone number w v) (sym e) a)
alone_leads o number t v (line ∷ later) u printed a (mid, first, second, h, rest, e) =
    let split : events_of number printed ≡ events_of number first ++ events_of number second = ap (events_of number) e ∙ filter-append (λ event. event_session event == number) first second in
    elim (beside o number t line mid first h) [
      | inl x ↦
          let w = led_to v line x.session in
          let ih = alone_leads o number mid w later u second (still_alone o number t v line mid first a x) rest in (
            ih.0,
            subst (λ (ls : List Line). ScriptLeadsTo o v ls ih.0 (events_of number printed)) (sym (own_line number line later x.named))
                (w, first, events_of number second, alone_own o number t v line mid first a x, ih.1, split ∙ ap (λ l. l ++ events_of number second) x.events),
            ih.2,
          )
      | inr x ↦
          let ih = alone_leads o number mid v later u second (aside_alone o number t v line mid first a h x) rest in (
            ih.0,
            subst (λ (c : List Line × List Event). ScriptLeadsTo o v c.0 ih.0 c.1)
                (λ i. (sym (other_line number line later x.unnamed) i, sym (split ∙ ap (λ l. l ++ events_of number second) x.events) i)) ih.1,
            ih.2,
          )
    ]

-- before the first line
begins_alone : (number : ℕ) → IsAlone number no_sessions no_sessions
begins_alone number = record { begun = refl; moment = omega arith; under_way = λ e. e }

-- a line that stops it among others stops it alone
alone_stops : (number : ℕ) (t v : Sessions) (line : Line) (u : Sessions) (printed : List Event) (fault : Fault) → IsAlone number t v → (x : OwnStop number t line u printed fault)
    → ScriptStops v line (led_to v line x.session) printed fault
alone_stops number t v line u printed fault a x =
    let there : session_at number v.begun ≡ session_at number t.begun =
    ap (session_at number) a.begun ∙ session_at-alone number (session_at number t.begun) (found_number number t.begun) in
    subst (λ (at : Option ℕ). StopsOne v line at (led_to v line x.session) printed fault) (sym x.named)
    (turn_alone number t v line a x.turn, (x.session, subst (λ (r : Option Begun). Stops r line (Some x.session) printed fault) (sym there) x.stops, refl))

ends_alone : (found : Option Begun) (last : List Event) → Ends found last → AllEnd (option_to_list found) last
ends_alone None last h = h
ends_alone (Some s) last h = (last, [], h, refl, sym (append-nil last))

-- ---- whole scripts ----

-- the session's own lines have a transcript, which is its lines of the script's
pub alone_transcript : (o : Openings) (script : List Line) (printed : List Event) → IsScriptTranscript o script printed → (number : ℕ) → IsScriptTranscript o (lines_of number script) (events_of number printed)
alone_transcript o script printed (u, body, last, h, end, e) number =
    let a = alone_leads o number no_sessions no_sessions script u body (begins_alone number) h in (
      a.0,
      events_of number body,
      events_of number last,
      a.1,
      subst (λ (sessions : List Begun). AllEnd sessions (events_of number last)) (sym a.2.begun)
          (ends_alone (session_at number u.begun) (events_of number last) (own_end number u.begun last (rises o no_sessions script u body h tt) end)),
      ap (events_of number) e ∙ filter-append (λ event. event_session event == number) body last,
    )

-- .. so far, where a line may have stopped the script
stopped_alone : (o : Openings) (script : List Line) (u : Sessions) (printed : List Event) → ScriptStopsAfter o script u printed → (number : ℕ)
    → (w : Sessions) × ScriptComesTo o (lines_of number script) w (events_of number printed)
stopped_alone o script u printed s number =
    let a = alone_leads o number no_sessions no_sessions s.before s.sessions s.first (begins_alone number) s.leads in
    let parts : lines_of number script ≡ lines_of number s.before ++ lines_of number (s.line ∷ []) =
    ap (lines_of number) s.script_is ∙ filter-append (λ line. is_number number (session_in line)) s.before (s.line ∷ []) in
    let split : events_of number printed ≡ events_of number s.first ++ events_of number s.last =
    ap (events_of number) s.printed_is ∙ filter-append (λ event. event_session event == number) s.first s.last in
    elim (stop_by number s.sessions s.line (session_in s.line) u s.last s.fault refl s.stops) [
      | inl x ↦ (
        led_to a.0 s.line x.session,
        inr (record {
          before = lines_of number s.before;
          line = s.line;
          script_is = parts ∙ ap (λ ls. lines_of number s.before ++ ls) (own_line number s.line [] x.named);
          sessions = a.0;
          first = events_of number s.first;
          leads = a.1;
          last = s.last;
          fault = s.fault;
          stops = alone_stops number s.sessions a.0 s.line u s.last s.fault a.2 x;
          printed_is = split ∙ ap (λ l. events_of number s.first ++ l) x.events;
        }),
      )
      | inr x ↦
          let script_is = parts ∙ ap (λ ls. lines_of number s.before ++ ls) (other_line number s.line [] x.unnamed) ∙ append-nil (lines_of number s.before) in
          let printed_is = split ∙ ap (λ l. events_of number s.first ++ l) x.events ∙ append-nil (events_of number s.first) in
          (a.0, inl (subst (λ (c : List Line × List Event). ScriptLeadsTo o no_sessions c.0 a.0 c.1) (λ i. (sym script_is i, sym printed_is i)) a.1))
    ]

pub alone_so_far : (o : Openings) (script : List Line) (u : Sessions) (printed : List Event) → ScriptComesTo o script u printed → (number : ℕ)
    → (w : Sessions) × ScriptComesTo o (lines_of number script) w (events_of number printed)
alone_so_far o script u printed h number =
    ⊎_elim (λ (l : ScriptLeadsTo o no_sessions script u printed). let a = alone_leads o number no_sessions no_sessions script u printed (begins_alone number) l in (a.0, inl a.1))
    (λ (s : ScriptStopsAfter o script u printed). stopped_alone o script u printed s number) h

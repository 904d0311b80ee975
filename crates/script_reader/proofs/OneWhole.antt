-- A whole script has one transcript at most; a line of it that is refused or stops it leads nowhere.
use Rattle.std.proofs.Common.{◌≡◌, inl, inr, ℕ, ◌<◌, ◌≤◌, true, false, List, [], ◌∷◌, ◌++◌, length, Option, Some, None, refl, sym, ap, ◌∙◌, subst, append_assoc, arith}
use Rattle.std.specs.Prelude.{not}
use Rattle.std.proofs.lemmas.Bool.{both_ways, ltb-true, and_parts}
use Rattle.std.proofs.lemmas.Option.{same_Some}
use Rattle.script_reader.specs.declared.line.Line.{Line}
use Rattle.script_reader.specs.declared.line.Line.TheVariants as lines
use Rattle.script_reader.specs.declared.fault.Fault.{Fault}
use Rattle.script_reader.specs.declared.event.Event.{Event}
use Rattle.script_reader.specs.Lines.{AreLines}
use Rattle.script_reader.specs.Faults.{IsScriptFaulty}
use Rattle.script_reader.specs.Openings.{Openings}
use Rattle.script_reader.specs.Scripts.{Begun, Leads}
use Rattle.script_reader.specs.Sessions.{session_number, session_in, begins_session, session_at, with_session, AreRising, Sessions, no_sessions, led_to, is_in_turn, LeadsOne, ScriptLeads, RefusesOne, ScriptRefuses, StopsOne, ScriptStops, ScriptLeadsTo, AllEnd, IsScriptTranscript}
use Rattle.script_reader.proofs.OneScript.{leads_one, ends_one}
use Rattle.script_reader.proofs.OneEnd.{refused_leads, GoTo, both_end}
use Rattle.script_reader.proofs.Stopping.{stops_leads, stops_one}
use Rattle.script_reader.proofs.Apart.{one_more, as_many}
use Rattle.script_reader.proofs.Named.{leads_of}
use Rattle.script_reader.proofs.Beside.{has_number, rises_by}

-- ---- one line ----

-- two sessions that are led to from one place are one, and print the same
pub record OneLed (a b : Sessions) (xs ys : List Event) : Type 0 where
  pub after : a ≡ b
  pub printed : xs ≡ ys

one_by : (o : Openings) (t : Sessions) (line : Line) (at : Option ℕ) (a b : Sessions) (xs ys : List Event) → LeadsOne o t line at a xs → LeadsOne o t line at b ys → OneLed a b xs ys
one_by o t line None a b xs ys (e, f) (e', f') = record { after = e ∙ sym e'; printed = f ∙ sym f' }
one_by o t line (Some n) a b xs ys (turn, (s, h, e)) (turn', (r, k, e')) =
    let same = leads_one o (session_at n t.begun) line (Some s) (Some r) xs ys h k in
    record { after = e ∙ ap (led_to t line) (same_Some s r same.after) ∙ sym e'; printed = same.printed }

pub script_leads_one : (o : Openings) (t : Sessions) (line : Line) (a b : Sessions) (xs ys : List Event) → ScriptLeads o t line a xs → ScriptLeads o t line b ys → OneLed a b xs ys
script_leads_one o t line a b xs ys h k = one_by o t line (session_in line) a b xs ys h k

refused_by : (o : Openings) (t : Sessions) (line : Line) (at : Option ℕ) (u : Sessions) (printed : List Event) → RefusesOne t line at → LeadsOne o t line at u printed → ⊥
refused_by o t line None u printed r h = r
refused_by o t line (Some n) u printed (inl late) (turn, (s, h, e)) = both_ways (is_in_turn t line) late turn
refused_by o t line (Some n) u printed (inr r) (turn, (s, h, e)) = refused_leads o (session_at n t.begun) line (Some s) printed r h

-- a line that can't be applied leads nowhere
pub script_refused_leads : (o : Openings) (t : Sessions) (line : Line) (u : Sessions) (printed : List Event) → ScriptRefuses t line → ScriptLeads o t line u printed → ⊥
script_refused_leads o t line u printed r h = refused_by o t line (session_in line) u printed r h

stops_by : (o : Openings) (t : Sessions) (line : Line) (at : Option ℕ) (v : Sessions) (first : List Event) (fault : Fault) (u : Sessions) (printed : List Event)
    → StopsOne t line at v first fault → LeadsOne o t line at u printed → ⊥
stops_by o t line None v first fault u printed h k = h
stops_by o t line (Some n) v first fault u printed (turn, (s, h, e)) (turn', (r, k, e')) = stops_leads o (session_at n t.begun) line (Some s) first fault (Some r) printed h k

-- a line that stops the script leads nowhere
pub script_stops_leads : (o : Openings) (t : Sessions) (line : Line) (v : Sessions) (first : List Event) (fault : Fault) (u : Sessions) (printed : List Event)
    → ScriptStops t line v first fault → ScriptLeads o t line u printed → ⊥
script_stops_leads o t line v first fault u printed h k = stops_by o t line (session_in line) v first fault u printed h k

-- it stops it in one way
pub record OneScriptStop (a b : Sessions) (xs ys : List Event) (fault stop : Fault) : Type 0 where
  pub after : a ≡ b
  pub printed : xs ≡ ys
  pub fault_is : fault ≡ stop

one_stop_by : (t : Sessions) (line : Line) (at : Option ℕ) (a b : Sessions) (xs ys : List Event) (fault stop : Fault)
    → StopsOne t line at a xs fault → StopsOne t line at b ys stop → OneScriptStop a b xs ys fault stop
one_stop_by t line None a b xs ys fault stop h k = absurd h
one_stop_by t line (Some n) a b xs ys fault stop (turn, (s, h, e)) (turn', (r, k, e')) =
    let same = stops_one (session_at n t.begun) line (Some s) (Some r) xs ys fault stop h k in
    record { after = e ∙ ap (led_to t line) (same_Some s r same.past) ∙ sym e'; printed = same.printed; fault_is = same.fault_is }

pub script_stops_one : (t : Sessions) (line : Line) (a b : Sessions) (xs ys : List Event) (fault stop : Fault)
    → ScriptStops t line a xs fault → ScriptStops t line b ys stop → OneScriptStop a b xs ys fault stop
script_stops_one t line a b xs ys fault stop h k = one_stop_by t line (session_in line) a b xs ys fault stop h k

-- ---- a script ----

pub script_lead_one : (o : Openings) (t : Sessions) (script : List Line) (a b : Sessions) (xs ys : List Event) → ScriptLeadsTo o t script a xs → ScriptLeadsTo o t script b ys → OneLed a b xs ys
script_lead_one o t [] a b xs ys h k = record { after = h.0 ∙ sym k.0; printed = h.1 ∙ sym k.1 }
script_lead_one o t (line ∷ later) a b xs ys (mid, c, d, h, rest, e) (mid', c', d', h', rest', e') =
    let x = script_leads_one o t line mid mid' c c' h h' in
    let y = script_lead_one o mid later a b d d' rest (subst (λ (u : Sessions). ScriptLeadsTo o u later b d') (sym x.after) rest') in
    record { after = y.after; printed = e ∙ (λ i. x.printed i ++ y.printed i) ∙ sym e' }

all_end_one : (sessions : List Begun) (xs ys : List Event) → AllEnd sessions xs → AllEnd sessions ys → xs ≡ ys
all_end_one [] xs ys h k = h ∙ sym k
all_end_one (s ∷ later) xs ys (a, b, h, rest, e) (c, d, k, rest', f) =
    let first = ends_one (Some s) a c h k in
    let second = all_end_one later b d rest rest' in
    e ∙ (λ i. first i ++ second i) ∙ sym f

pub script_transcript_one : (o : Openings) (script : List Line) (xs ys : List Event) → IsScriptTranscript o script xs → IsScriptTranscript o script ys → xs ≡ ys
script_transcript_one o script xs ys (a, c, l, h, end, e) (b, d, l', k, end', f) =
    let x = script_lead_one o no_sessions script a b c d h k in
    let y = all_end_one a.begun l l' end (subst (λ (u : Sessions). AllEnd u.begun l') (sym x.after) end') in
    e ∙ (λ i. x.printed i ++ y i) ∙ sym f

-- a prefix of the lines of a script, and the lines after it
pub script_parts : (o : Openings) (t : Sessions) (before later : List Line) (u : Sessions) (printed : List Event) → ScriptLeadsTo o t (before ++ later) u printed
    → (mid : Sessions) × (first : List Event) × (second : List Event) × ScriptLeadsTo o t before mid first × ScriptLeadsTo o mid later u second × (printed ≡ first ++ second)
script_parts o t [] later u printed h = (t, [], printed, (refl, refl), h, refl)
script_parts o t (x ∷ before) later u printed (mid, first, second, h, rest, e) =
    let r = script_parts o mid before later u second rest in
    (r.0, first ++ r.1, r.2, (mid, first, r.1, h, r.3, refl), r.4, e ∙ ap (λ xs. first ++ xs) r.5 ∙ sym (append_assoc first r.1 r.2))

pub no_script_transcript : (o : Openings) (before : List Line) (line : Line) (later : List Line) (t u : Sessions) (events first printed : List Event) (fault : Fault)
    → ScriptLeadsTo o no_sessions before t events → ScriptStops t line u first fault → IsScriptTranscript o (before ++ line ∷ later) printed → ⊥
no_script_transcript o before line later t u events first printed fault led_there stops whole =
    let r = script_parts o no_sessions before (line ∷ later) whole.0 whole.1 whole.3 in
    let next = r.4 in
    let same = script_lead_one o no_sessions before t r.0 events r.1 led_there r.3 in
    script_stops_leads o t line u first fault next.0 next.1 stops (subst (λ (v : Sessions). ScriptLeads o v line next.0 next.1) (sym same.after) next.3)

pub one_script_stop : (o : Openings) (before : List Line) (line : Line) (t v u w : Sessions) (events more first second : List Event) (fault stop : Fault)
    → ScriptLeadsTo o no_sessions before t events → ScriptStops t line u first fault → ScriptLeadsTo o no_sessions before v more → ScriptStops v line w second stop
    → (u ≡ w) × (events ++ first ≡ more ++ second) × (fault ≡ stop)
one_script_stop o before line t v u w events more first second fault stop h stops k stops' =
    let same = script_lead_one o no_sessions before t v events more h k in
    let one = script_stops_one t line u w first second fault stop stops (subst (λ (x : Sessions). ScriptStops x line w second stop) (sym same.after) stops') in
    (one.after, (λ i. same.printed i ++ one.printed i), one.fault_is)

-- ---- a script with a faulty line ----

script_goes : (o : Openings) (t : Sessions) (script : List Line) (u : Sessions) (events : List Event) → ScriptLeadsTo o t script u events → GoTo (ScriptLeads o) t script u
script_goes o t [] u events h = h.0
script_goes o t (line ∷ later) u events (mid, first, second, h, rest, e) = (mid, first, h, script_goes o mid later u second rest)

pub faulty_whole_scripts : (o : Openings) (all rest : List ℕ) (ls script : List Line) (t : Sessions) (events printed : List Event)
    → AreLines (Some all) ls (Some rest) → ScriptLeadsTo o no_sessions ls t events → IsScriptFaulty (Some rest) t
    → AreLines (Some all) script (Some []) → IsScriptTranscript o script printed → ⊥
faulty_whole_scripts o all rest ls script t events printed p h f q k =
    both_end (ScriptLeads o) ScriptRefuses (λ t line a b xs ys h k. (script_leads_one o t line a b xs ys h k).after) (script_refused_leads o)
    all rest ls script no_sessions t k.0 p (script_goes o no_sessions ls t events h) f q (script_goes o no_sessions script k.0 k.1 k.3)

-- ---- how many sessions there are ----

-- a line that begins none is of a session that is there
runs : (o : Openings) (found : Option Begun) (line : Line) (s : Begun) (printed : List Event) (n : ℕ) → session_in line ≡ Some n → begins_session line ≡ false
    → Leads o found line (Some s) printed → (r : Begun) × (found ≡ Some r)
runs o (Some r) line s printed n named begins h = (r, refl)
runs o None lines.Skip s printed n named begins h = absurd (cc)
runs o None (lines.Session row) s printed n named begins h = absurd (cc)
runs o None (lines.LowSession row next held) s printed n named begins h = absurd (cc)
runs o None (lines.Coarse session) s printed n named begins h = absurd h
runs o None (lines.Look session m w z) s printed n named begins h = absurd h
runs o None (lines.Told session m w fault told z) s printed n named begins h = absurd h
runs o None (lines.Step session m w) s printed n named begins h = absurd h
runs o None (lines.Gone session m) s printed n named begins h = absurd h
runs o None (lines.High session m) s printed n named begins h = absurd h
runs o None (lines.Carry session back) s printed n named begins h = absurd h
runs o None (lines.Return session m back) s printed n named begins h = absurd h
runs o None (lines.Done session m t) s printed n named begins h = absurd h
runs o None (lines.Restart session m) s printed n named begins h = absurd h
runs o None (lines.ReceiverRestart session m) s printed n named begins h = absurd h

-- a line that begins one finds fewer than 16
fewer : (t : Sessions) (line : Line) → begins_session line ≡ true → is_in_turn t line ≡ true → length t.begun < 16
fewer t (lines.Session row) begins turn = ltb-true (length t.begun) 16 (and_parts (not t.is_under_way) _ turn).1
fewer t (lines.LowSession row next held) begins turn = ltb-true (length t.begun) 16 (and_parts (not t.is_under_way) _ turn).1
fewer t lines.Skip begins turn = absurd (cc)
fewer t (lines.Coarse session) begins turn = absurd (cc)
fewer t (lines.Look session m w z) begins turn = absurd (cc)
fewer t (lines.Told session m w fault told z) begins turn = absurd (cc)
fewer t (lines.Step session m w) begins turn = absurd (cc)
fewer t (lines.Gone session m) begins turn = absurd (cc)
fewer t (lines.High session m) begins turn = absurd (cc)
fewer t (lines.Carry session back) begins turn = absurd (cc)
fewer t (lines.Return session m back) begins turn = absurd (cc)
fewer t (lines.Done session m time) begins turn = absurd (cc)
fewer t (lines.Restart session m) begins turn = absurd (cc)
fewer t (lines.ReceiverRestart session m) begins turn = absurd (cc)

few_by : (o : Openings) (t : Sessions) (line : Line) (at : Option ℕ) (u : Sessions) (printed : List Event) → session_in line ≡ at → LeadsOne o t line at u printed
    → AreRising t.begun → length t.begun ≤ 16 → length u.begun ≤ 16
few_by o t line None u printed named (e, f) rising few = subst (λ (v : Sessions). length v.begun ≤ 16) (sym e) few
few_by o t line (Some n) u printed named (turn, (s, h, e)) rising few =
    subst (λ (v : Sessions). length v.begun ≤ 16) (sym e)
    (elim (begins_session line) as (λ b. begins_session line ≡ b → length (with_session s t.begun) ≤ 16) [
      | true ↦ λ begins.
          let less = fewer t line begins turn in
          let more = one_more s t.begun in
          omega (arith, less, more)
      | false ↦ λ begins.
          let r = runs o (session_at n t.begun) line s printed n named begins h in
          let number : session_number s ≡ n = (leads_of o (session_at n t.begun) line n (Some s) printed named (has_number n t.begun (session_at n t.begun) refl) h).session in
          let same = as_many s r.0 t.begun rising (ap (λ (k : ℕ). session_at k t.begun) number ∙ r.1) in
          omega (arith, same, few)
    ] refl)

pub at_most_16 : (o : Openings) (t : Sessions) (script : List Line) (u : Sessions) (printed : List Event) → ScriptLeadsTo o t script u printed → AreRising t.begun → length t.begun ≤ 16
    → length u.begun ≤ 16
at_most_16 o t [] u printed (e, f) rising few = subst (λ (v : Sessions). length v.begun ≤ 16) (sym e) few
at_most_16 o t (line ∷ later) u printed (mid, first, second, h, rest, e) rising few =
    at_most_16 o mid later u second rest (rises_by o t line (session_in line) mid first h rising) (few_by o t line (session_in line) mid first refl h rising few)

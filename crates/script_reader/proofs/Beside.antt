-- What a script of several sessions does to each of them: what its lines do that name it, as if there were no others.
use Rattle.std.proofs.Common.{◌≡◌, inl, inr, ℕ, Bool, true, false, List, [], ◌∷◌, ◌++◌, Option, Some, None, refl, sym, ap, ◌∙◌, subst, append-nil, arith}
use Rattle.std.specs.Prelude.{◌⊎◌, ◌==◌, if◌then◌else◌}
use Rattle.std.proofs.lemmas.Bool.{eqb-true, eqb-false}
use Rattle.std.proofs.lemmas.List.Elements.{filter-append}
use Rattle.script_reader.specs.declared.line.Line.{Line}
use Rattle.script_reader.specs.declared.event.Event.{Event}
use Rattle.script_reader.specs.Openings.{Openings}
use Rattle.script_reader.specs.Scripts.{Begun, Leads, LeadTo, Ends, IsTranscript}
use Rattle.script_reader.specs.Sessions.{session_number, session_in, session_at, AreRising, Sessions, no_sessions, led_to, is_in_turn, LeadsOne, ScriptLeads, ScriptLeadsTo, AllEnd, IsScriptTranscript, is_number, lines_of, event_session, events_of}
use Rattle.script_reader.proofs.Apart.{session_at-own, session_at-other, found_number, AreAbove, rising_with}
use Rattle.script_reader.proofs.Named.{AreOf, own_events, others_events, HasNumber, leads_of, ends_of}

-- ---- a line, and the session of a number ----

-- the line names the session, and leads it to s
pub record Own (o : Openings) (number : ℕ) (t : Sessions) (line : Line) (u : Sessions) (printed : List Event) : Type 0 where
  pub named : session_in line ≡ Some number
  pub turn : is_in_turn t line ≡ true
  pub session : Begun
  pub numbered : session_number session ≡ number
  pub leads : Leads o (session_at number t.begun) line (Some session) printed
  pub led : u ≡ led_to t line session
  pub found : session_at number u.begun ≡ Some session
  pub events : events_of number printed ≡ printed

-- it does not, and leaves it; nothing of it is printed
pub record Other (number : ℕ) (t : Sessions) (line : Line) (u : Sessions) (printed : List Event) : Type 0 where
  pub unnamed : is_number number (session_in line) ≡ false
  pub found : session_at number u.begun ≡ session_at number t.begun
  pub events : events_of number printed ≡ []

pub has_number : (number : ℕ) (sessions : List Begun) (found : Option Begun) → session_at number sessions ≡ found → HasNumber number found
has_number number sessions None e = tt
has_number number sessions (Some r) e = found_number number sessions r e

-- what the sessions are led to holds the session, and the others as they were
pub placed : (number : ℕ) (t : Sessions) (line : Line) (s : Begun) (u : Sessions) → u ≡ led_to t line s → session_number s ≡ number → session_at number u.begun ≡ Some s
placed number t line s u e same = ap (λ (v : Sessions). session_at number v.begun) e ∙ session_at-own number s t.begun same

pub left : (number : ℕ) (t : Sessions) (line : Line) (s : Begun) (u : Sessions) → u ≡ led_to t line s → (session_number s ≡ number → ⊥) → session_at number u.begun ≡ session_at number t.begun
left number t line s u e differs = ap (λ (v : Sessions). session_at number v.begun) e ∙ session_at-other number s t.begun differs

own : (o : Openings) (number n : ℕ) (t : Sessions) (line : Line) (u : Sessions) (printed : List Event) → session_in line ≡ Some n → n ≡ number
    → LeadsOne o t line (Some n) u printed → Own o number t line u printed
own o number n t line u printed named same (turn, (s, leads, e)) =
    let of = leads_of o (session_at n t.begun) line n (Some s) printed named (has_number n t.begun (session_at n t.begun) refl) leads in
    let numbered : session_number s ≡ number = of.session ∙ same in
    record {
      named = named ∙ ap (λ (k : ℕ). Some k) same;
      turn = turn;
      session = s;
      numbered = numbered;
      leads = subst (λ (k : ℕ). Leads o (session_at k t.begun) line (Some s) printed) same leads;
      led = e;
      found = placed number t line s u e numbered;
      events = own_events number printed (subst (λ (k : ℕ). AreOf k printed) same of.events);
    }

other : (o : Openings) (number n : ℕ) (t : Sessions) (line : Line) (u : Sessions) (printed : List Event) → session_in line ≡ Some n → (n == number) ≡ false
    → LeadsOne o t line (Some n) u printed → Other number t line u printed
other o number n t line u printed named apart (turn, (s, leads, e)) =
    let of = leads_of o (session_at n t.begun) line n (Some s) printed named (has_number n t.begun (session_at n t.begun) refl) leads in
    record {
      unnamed = ap (is_number number) named ∙ apart;
      found = left number t line s u e (λ same. eqb-false n number apart (sym of.session ∙ same));
      events = others_events number n printed of.events (eqb-false n number apart);
    }

beside_by : (o : Openings) (number : ℕ) (t : Sessions) (line : Line) (at : Option ℕ) (u : Sessions) (printed : List Event) → session_in line ≡ at
    → LeadsOne o t line at u printed → Own o number t line u printed ⊎ Other number t line u printed
beside_by o number t line None u printed named (e, f) =
    inr (record { unnamed = ap (is_number number) named; found = ap (λ (v : Sessions). session_at number v.begun) e; events = ap (events_of number) f })
beside_by o number t line (Some n) u printed named h =
    elim (n == number) as (λ b. (n == number) ≡ b → Own o number t line u printed ⊎ Other number t line u printed) [
      | true ↦ λ e. inl (own o number n t line u printed named (eqb-true n number e) h)
      | false ↦ λ e. inr (other o number n t line u printed named e h)
    ] refl

-- a line is the session's own or another's
pub beside : (o : Openings) (number : ℕ) (t : Sessions) (line : Line) (u : Sessions) (printed : List Event) → ScriptLeads o t line u printed
    → Own o number t line u printed ⊎ Other number t line u printed
beside o number t line u printed h = beside_by o number t line (session_in line) u printed refl h

-- ---- the lines of a session ----

pub own_line : (number : ℕ) (line : Line) (later : List Line) → session_in line ≡ Some number → lines_of number (line ∷ later) ≡ line ∷ lines_of number later
own_line number line later e =
    ap (λ (b : Bool). if b then line ∷ lines_of number later else lines_of number later) (ap (is_number number) e ∙ eq-same number)
  where
    eq-same : (n : ℕ) → (n == n) ≡ true
    eq-same n = elim (n == n) as (λ b. (n == n) ≡ b → b ≡ true) [ true ↦ λ e. refl | false ↦ λ e. absurd (eqb-false n n e refl) ] refl

pub other_line : (number : ℕ) (line : Line) (later : List Line) → is_number number (session_in line) ≡ false → lines_of number (line ∷ later) ≡ lines_of number later
other_line number line later e = ap (λ (b : Bool). if b then line ∷ lines_of number later else lines_of number later) e

-- the lines lead a session to what those do that name it
pub one_of : (o : Openings) (number : ℕ) (t : Sessions) (script : List Line) (u : Sessions) (printed : List Event) → ScriptLeadsTo o t script u printed
    → LeadTo o (session_at number t.begun) (lines_of number script) (session_at number u.begun) (events_of number printed)
one_of o number t [] u printed (e, f) = (ap (λ (v : Sessions). session_at number v.begun) e, ap (events_of number) f)
one_of o number t (line ∷ later) u printed (mid, first, second, h, rest, e) =
    let ih = one_of o number mid later u second rest in
    let split : events_of number printed ≡ events_of number first ++ events_of number second = ap (events_of number) e ∙ filter-append (λ event. event_session event == number) first second in
    elim (beside o number t line mid first h) [
      | inl x ↦
          subst (λ (ls : List Line). LeadTo o (session_at number t.begun) ls (session_at number u.begun) (events_of number printed)) (sym (own_line number line later x.named)) (
            Some x.session,
            first,
            events_of number second,
            x.leads,
            subst (λ (r : Option Begun). LeadTo o r (lines_of number later) (session_at number u.begun) (events_of number second)) x.found ih,
            split ∙ ap (λ l. l ++ events_of number second) x.events,
          )
      | inr x ↦
          subst (λ (ls : List Line). LeadTo o (session_at number t.begun) ls (session_at number u.begun) (events_of number printed)) (sym (other_line number line later x.unnamed))
          (subst (λ (v : Option Begun × List Event). LeadTo o v.0 (lines_of number later) (session_at number u.begun) v.1)
          (λ i. (x.found i, (sym (split ∙ ap (λ l. l ++ events_of number second) x.events)) i)) ih)
    ]

-- ---- the end of a script ----

-- the numbers of the sessions rise
pub rises_by : (o : Openings) (t : Sessions) (line : Line) (at : Option ℕ) (u : Sessions) (printed : List Event) → LeadsOne o t line at u printed → AreRising t.begun → AreRising u.begun
rises_by o t line None u printed (e, f) h = subst (λ (v : Sessions). AreRising v.begun) (sym e) h
rises_by o t line (Some n) u printed (turn, (s, leads, e)) h = subst (λ (v : Sessions). AreRising v.begun) (sym e) (rising_with s t.begun h)

pub rises : (o : Openings) (t : Sessions) (script : List Line) (u : Sessions) (printed : List Event) → ScriptLeadsTo o t script u printed → AreRising t.begun → AreRising u.begun
rises o t [] u printed (e, f) h = subst (λ (v : Sessions). AreRising v.begun) (sym e) h
rises o t (line ∷ later) u printed (mid, first, second, one, rest, e) h = rises o mid later u second rest (rises_by o t line (session_in line) mid first one h)

-- sessions of greater numbers end with no line of this one
others_end : (number : ℕ) (sessions : List Begun) (last : List Event) → AreAbove number sessions → AllEnd sessions last → events_of number last ≡ []
others_end number [] last h e = ap (events_of number) e
others_end number (s ∷ later) last h (first, second, ends, rest, e) =
    let above = h.0 in
    ap (events_of number) e ∙ filter-append (λ event. event_session event == number) first second
    ∙ ap (λ l. l ++ events_of number second) (others_events number (session_number s) first (ends_of s first ends) (λ same. absurd (omega (arith, above, same))))
    ∙ others_end number later second h.1 rest

-- the end of a session is its own line alone
pub own_end : (number : ℕ) (sessions : List Begun) (last : List Event) → AreRising sessions → AllEnd sessions last → Ends (session_at number sessions) (events_of number last)
own_end number [] last h e = ap (events_of number) e
own_end number (s ∷ later) last h (first, second, ends, rest, e) =
    let split : events_of number last ≡ events_of number first ++ events_of number second = ap (events_of number) e ∙ filter-append (λ event. event_session event == number) first second in
    elim (session_number s == number) as (λ b. (session_number s == number) ≡ b → Ends (if b then Some s else session_at number later) (events_of number last)) [
      | true ↦ λ is.
          let same = eqb-true (session_number s) number is in
          let mine = own_events number first (subst (λ (n : ℕ). AreOf n first) same (ends_of s first ends)) in
          let none = others_end number later second (subst (λ (n : ℕ). AreAbove n later) same h.0) rest in
          subst (Ends (Some s)) (sym (split ∙ (λ i. mine i ++ none i) ∙ append-nil first)) ends
      | false ↦ λ is.
          let none = others_events number (session_number s) first (ends_of s first ends) (eqb-false (session_number s) number is) in
          subst (Ends (session_at number later)) (sym (split ∙ ap (λ l. l ++ events_of number second) none)) (own_end number later second h.1 rest)
    ] refl

-- ---- whole scripts ----

-- the transcript of a session's own lines, in the words of a script of one session
pub own_transcript : (o : Openings) (script : List Line) (printed : List Event) → IsScriptTranscript o script printed → (number : ℕ) → IsTranscript o (lines_of number script) (events_of number printed)
own_transcript o script printed (u, body, last, h, end, e) number = (
  session_at number u.begun,
  events_of number body,
  events_of number last,
  one_of o number no_sessions script u body h,
  own_end number u.begun last (rises o no_sessions script u body h tt) end,
  ap (events_of number) e ∙ filter-append (λ event. event_session event == number) body last,
)

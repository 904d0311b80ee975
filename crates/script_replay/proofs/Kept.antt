-- What the laws say of lines that can all be applied, of their transcript, and of a line that stops them.
use Rattle.std.proofs.Common.{◌≡◌, ℕ, List, [], ◌∷◌, ◌++◌, Option, None, Some, inl, inr, refl, sym, ap, ◌∙◌, subst, append-nil, append_assoc}
use Rattle.std.proofs.lemmas.List.Elements.{filter-append}
use Rattle.std.specs.Prelude.{◌==◌}
use Rattle.pump_core.specs.Replies.{Sent, LowReplies}
use Rattle.script_reader.specs.declared.event.Event.{Event}
use Rattle.script_reader.specs.declared.fault.Fault.{Fault}
use Rattle.script_reader.specs.declared.line.Line.{Line}
use Rattle.script_reader.specs.Openings.{Openings}
use Rattle.script_reader.specs.Scripts.{Begun, Whole, Alone, LeadTo, Ends}
use Rattle.script_reader.specs.Sessions.{Sessions, no_sessions, session_at, lines_of, events_of, event_session, ScriptLeadsTo, ScriptStops, ScriptComesTo, AllEnd}
use Rattle.script_reader.specs.Readouts.{low_lines, row_of, history_of, Sound}
use Rattle.script_reader.proofs.Beside.{one_of, own_end, rises}
use Rattle.script_reader.proofs.BesideStop.{own_so_far}
use Rattle.script_reader.proofs.OneWhole.{script_parts}
use Rattle.script_reader.proofs.LowFunction.{same_told_so_far, same_full_so_far}
use Rattle.script_reader.proofs.Replying.{low-append}
use Rattle.script_reader.proofs.Soundness.{sound_so}
use Rattle.world_laws.proofs.Timeline.Alone.{script_events}
use Rattle.world_laws.proofs.Timeline.Scripts.{script_runs}
use Rattle.script_replay.specs.Replays.{IsEachSound, AreSound, IsTimed, KeepLaws}

-- ---- each session of a script ----

pub each_sound : (o : Openings) (lines : List Line) (t : Sessions) (printed : List Event) → ScriptComesTo o lines t printed → IsEachSound t.begun printed
each_sound o lines t printed comes number = sound_so o (lines_of number lines) (session_at number t.begun) (events_of number printed) (own_so_far o lines t printed comes number)

-- the lines before another are among those before the last one
prefix_of : (before : List Line) (x : Line) (later lines : List Line) (line : Line) → before ++ x ∷ later ≡ lines ++ line ∷ [] → (more : List Line) × (lines ≡ before ++ more)
prefix_of [] x later lines line e = (lines, refl)
prefix_of (y ∷ before) x later [] line e = absurd (nothing_behind before x later (tail_is e))
  where
    tail_is : {a b : Line} {xs ys : List Line} → a ∷ xs ≡ b ∷ ys → xs ≡ ys
    tail_is e = cc

    nothing_behind : (xs : List Line) (x : Line) (ys : List Line) → xs ++ x ∷ ys ≡ [] → ⊥
    nothing_behind [] x ys e = absurd (cc)
    nothing_behind (a ∷ xs) x ys e = absurd (cc)
prefix_of (y ∷ before) x later (z ∷ lines) line e =
    let r = prefix_of before x later lines line cc in
    let same : y ≡ z = cc in
    (r.0, (λ i. sym same i ∷ r.1 i))

prefixes_so : (o : Openings) (before : List Line) (x : Line) (later : List Line) (t : Sessions) (printed : List Event) → ScriptComesTo o (before ++ x ∷ later) t printed
    → (mid : Sessions) × (first : List Event) × (second : List Event) × ScriptLeadsTo o no_sessions before mid first × (printed ≡ first ++ second)
prefixes_so o before x later t printed (inl l) = let r = script_parts o no_sessions before (x ∷ later) t printed l in (r.0, r.1, r.2, r.3, r.5)
prefixes_so o before x later t printed (inr s) =
    let f = prefix_of before x later s.before s.line s.script_is in
    let r = script_parts o no_sessions before f.0 s.sessions s.first (subst (λ (ls : List Line). ScriptLeadsTo o no_sessions ls s.sessions s.first) f.1 s.leads) in
    (r.0, r.1, r.2 ++ s.last, r.3, s.printed_is ∙ ap (λ xs. xs ++ s.last) r.5 ∙ append_assoc r.1 r.2 s.last)

are_sound : (o : Openings) (lines : List Line) (t : Sessions) (printed : List Event) → ScriptComesTo o lines t printed → AreSound o lines printed
are_sound o lines t printed comes = λ before line later is.
    let f = prefixes_so o before line later t printed (subst (λ (ls : List Line). ScriptComesTo o ls t printed) is comes) in
    (f.0, f.1, f.2, f.3, f.4, each_sound o before f.0 f.1 (inl f.3))

pub keep_laws : (o : Openings) (lines : List Line) (t : Sessions) (printed : List Event) → ScriptComesTo o lines t printed → KeepLaws o lines t printed
keep_laws o lines t printed comes = record {
  sound = each_sound o lines t printed comes;
  each = are_sound o lines t printed comes;
  low = λ p others other events h number opens side told.
      same_told_so_far o p (lines_of number lines) (lines_of number others) (session_at number t.begun) (session_at number other.begun) (events_of number printed) (events_of number events)
      (own_so_far o lines t printed comes number) (own_so_far p others other events h number) opens side told;
  by_moments = λ p others other events h number opens side own full restart averages.
      same_full_so_far o p (lines_of number lines) (lines_of number others) (session_at number t.begun) (session_at number other.begun) (events_of number printed) (events_of number events)
      (own_so_far o lines t printed comes number) (own_so_far p others other events h number) opens side own full restart averages;
}

timed_one : (o : Openings) (lines : List Line) (running : Option Begun) (events : List Event) → LeadTo o None lines running events → IsTimed running
timed_one o lines None events leads = tt
timed_one o lines (Some (Whole s)) events leads = script_runs o None lines (Some (Whole s)) events leads tt
timed_one o lines (Some (Alone s)) events leads = script_events o None lines (Some (Alone s)) events leads tt

pub timed_so : (o : Openings) (lines : List Line) (t : Sessions) (events : List Event) → ScriptLeadsTo o no_sessions lines t events → (number : ℕ) → IsTimed (session_at number t.begun)
timed_so o lines t events leads number = timed_one o (lines_of number lines) (session_at number t.begun) (events_of number events) (one_of o number no_sessions lines t events leads)

-- ---- the end of the sessions ----

-- it is no `low` line
end_is_not_low : (running : Option Begun) (last : List Event) → Ends running last → low_lines last ≡ []
end_is_not_low None last h = ap low_lines h
end_is_not_low (Some (Whole s)) last h = ap low_lines h
end_is_not_low (Some (Alone s)) last h = ap low_lines h.2 ∙ ap (λ event. low_lines (event ∷ [])) h.1.2

low_with_end : (running : Option Begun) (events last : List Event) → Ends running last → low_lines (events ++ last) ≡ low_lines events
low_with_end running events last h =
    low-append events last ∙ ap (λ l. low_lines events ++ l) (end_is_not_low running last h) ∙ append-nil (low_lines events)

sound_end : (running : Option Begun) (events last : List Event) → Ends running last → Sound running events → Sound running (events ++ last)
sound_end None events last ends sound = ap (λ xs. xs ++ last) sound ∙ ends
sound_end (Some s) events last ends sound = record {
  replies = subst (λ (l : List Sent). LowReplies (row_of s) (history_of s) l) (sym (low_with_end (Some s) events last ends)) sound.replies;
  bounds = sound.bounds;
}

pub sound_ends : (o : Openings) (lines : List Line) (t : Sessions) (events last : List Event) → ScriptLeadsTo o no_sessions lines t events → AllEnd t.begun last → IsEachSound t.begun (events ++ last)
sound_ends o lines t events last leads ends number =
    subst (λ (l : List Event). Sound (session_at number t.begun) l) (sym (filter-append (λ event. event_session event == number) events last))
    (sound_end (session_at number t.begun) (events_of number events) (events_of number last) (own_end number t.begun last (rises o no_sessions lines t events leads tt) ends)
    (each_sound o lines t events (inl leads) number))

-- ---- a line that stops the script ----

pub laws_at_stop : (o : Openings) (lines : List Line) (t : Sessions) (events : List Event) (line : Line) (after : Sessions) (printed : List Event) (fault : Fault)
    → ScriptLeadsTo o no_sessions lines t events → ScriptStops t line after printed fault → KeepLaws o (lines ++ line ∷ []) after (events ++ printed)
laws_at_stop o lines t events line after printed fault leads stops =
    keep_laws o (lines ++ line ∷ []) after (events ++ printed) (inr (record {
      before = lines;
      line = line;
      script_is = refl;
      sessions = t;
      first = events;
      leads = leads;
      last = printed;
      fault = fault;
      stops = stops;
      printed_is = refl;
    }))

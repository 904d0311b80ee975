-- What is printed of each session of a script is sound at each line, and where a line stops the script.
use Rattle.std.proofs.Common.{◌≡◌, inl, inr, ℕ, List, ◌∷◌, ◌++◌, ap, ◌∙◌, subst, append_assoc}
use Rattle.script_reader.specs.declared.line.Line.{Line}
use Rattle.script_reader.specs.declared.event.Event.{Event}
use Rattle.script_reader.specs.Openings.{Openings}
use Rattle.script_reader.specs.Readouts.{Sound}
use Rattle.script_reader.specs.Sessions.{session_at, Sessions, no_sessions, ScriptLeadsTo, ScriptComesTo, lines_of, events_of}
use Rattle.script_reader.proofs.Soundness.{sound_lead, sound_so, prefix_of}
use Rattle.script_reader.proofs.Beside.{one_of}
use Rattle.script_reader.proofs.BesideStop.{own_so_far}
use Rattle.script_reader.proofs.OneWhole.{script_parts}

-- what is printed of a session is sound
pub sessions_sound_lead : (o : Openings) (script : List Line) (t : Sessions) (printed : List Event) → ScriptLeadsTo o no_sessions script t printed → (number : ℕ)
    → Sound (session_at number t.begun) (events_of number printed)
sessions_sound_lead o script t printed h number =
    sound_lead o (lines_of number script) (session_at number t.begun) (events_of number printed) (one_of o number no_sessions script t printed h)

pub sessions_sound_so : (o : Openings) (script : List Line) (t : Sessions) (printed : List Event) → ScriptComesTo o script t printed → (number : ℕ)
    → Sound (session_at number t.begun) (events_of number printed)
sessions_sound_so o script t printed h number =
    sound_so o (lines_of number script) (session_at number t.begun) (events_of number printed) (own_so_far o script t printed h number)

-- each prefix of the lines was led to, or is all of them
pub script_prefixes_so : (o : Openings) (before : List Line) (x : Line) (later : List Line) (t : Sessions) (printed : List Event) → ScriptComesTo o (before ++ x ∷ later) t printed
    → (mid : Sessions) × (first : List Event) × (second : List Event) × ScriptLeadsTo o no_sessions before mid first × (printed ≡ first ++ second)
script_prefixes_so o before x later t printed (inl l) = let r = script_parts o no_sessions before (x ∷ later) t printed l in (r.0, r.1, r.2, r.3, r.5)
script_prefixes_so o before x later t printed (inr s) =
    let f = prefix_of before x later s.before s.line s.script_is in
    let r = script_parts o no_sessions before f.0 s.sessions s.first (subst (λ (ls : List Line). ScriptLeadsTo o no_sessions ls s.sessions s.first) f.1 s.leads) in
    (r.0, r.1, r.2 ++ s.last, r.3, s.printed_is ∙ ap (λ xs. xs ++ s.last) r.5 ∙ append_assoc r.1 r.2 s.last)

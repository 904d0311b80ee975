-- What is printed is sound at each line of a script, and where a line stops it.
use Rattle.std.proofs.Common.{◌≡◌, inl, inr, ⊎_elim, ℕ, ◌≤◌, true, false, List, [], ◌∷◌, ◌++◌, length, Option, Some, None, refl, sym, ap, ◌∙◌, subst, append_assoc, append-nil}
use Rattle.pump_frame.specs.declared.row.SessionRow.{SessionRow}
use Rattle.pump_core.specs.Replies.{Sent, LowReplies}
use Rattle.script_reader.specs.declared.line.Line.{Line}
use Rattle.script_reader.specs.declared.line.Line.TheVariants as lines
use Rattle.script_reader.specs.declared.fault.Fault.{Fault}
use Rattle.script_reader.specs.declared.event.Event.{Event}
use Rattle.script_reader.specs.Past.{Past}
use Rattle.script_reader.specs.Openings.{Openings}
use Rattle.script_reader.specs.Steps.{Overfills}
use Rattle.script_reader.specs.Scripts.{Begun, Whole, Alone, GoesOn, Leads, LeadTo, Stops, StopsAfter, ComesTo}
use Rattle.script_reader.specs.Readouts.{low_lines, Sound}
use Rattle.script_reader.proofs.Leading.{led}
use Rattle.script_reader.proofs.Waiting.{high_waits, step_low_waits}
use Rattle.script_reader.proofs.Replying as replying
use Rattle.script_reader.proofs.Replying.{Replies, Grows, aside_grows, high_aside, step_low_grows, low-append}
use Rattle.script_reader.proofs.Bounds as bounding
use Rattle.script_reader.proofs.Bounds.{Holds, Stays, high_lawful, bounds}
use Rattle.script_reader.proofs.Stopping.{lead_parts}

-- ---- nothing is printed before a session is begun ----

abbrev Begins : Option Begun → List Event → Type 0
Begins None printed = printed ≡ []
Begins (Some s) printed = Unit {0}

goes_begins : (s : Begun) (line : Line) (after : Option Begun) (more printed : List Event) → GoesOn s line after more → Begins after printed
goes_begins (Whole s) line after more printed (timely, (q, step, e)) = subst (λ (r : Option Begun). Begins r printed) (sym e) tt
goes_begins (Alone s) line after more printed (timely, (q, step, e)) = subst (λ (r : Option Begun). Begins r printed) (sym e) tt

leads_begins : (o : Openings) (running : Option Begun) (line : Line) (after : Option Begun) (printed more : List Event) → Leads o running line after more → Begins running printed → Begins after (printed ++ more)
leads_begins o running line after printed more h k =
    led o running line after more h
    (λ skip e f. subst (λ (t : Option Begun × List Event). Begins t.0 t.1) (λ i. (sym e i, (sym (append-nil printed) ∙ ap (λ xs. printed ++ xs) (sym f)) i)) k)
    (λ s none new e f. subst (λ (r : Option Begun). Begins r (printed ++ more)) (sym e) tt)
    (λ s some goes. goes_begins s line after more (printed ++ more) goes)
    (λ s session some is new again e f. subst (λ (r : Option Begun). Begins r (printed ++ more)) (sym e) tt)

lead_begins : (o : Openings) (running : Option Begun) (script : List Line) (after : Option Begun) (printed more : List Event) → LeadTo o running script after more → Begins running printed → Begins after (printed ++ more)
lead_begins o running [] after printed more (e, f) k = subst (λ (t : Option Begun × List Event). Begins t.0 t.1) (λ i. (sym e i, (sym (append-nil printed) ∙ ap (λ xs. printed ++ xs) (sym f)) i)) k
lead_begins o running (line ∷ script) after printed more (mid, first, second, h, later, e) k =
    subst (Begins after) (append_assoc printed first second ∙ ap (λ xs. printed ++ xs) (sym e))
    (lead_begins o mid script after (printed ++ first) second later (leads_begins o running line mid printed first h k))

-- ---- what the lines lead to ----

sound_of : (after : Option Begun) (printed : List Event) → Replies after (low_lines printed) → Holds after → Begins after printed → Sound after printed
sound_of None printed replies holds begins = begins
sound_of (Some s) printed replies holds begins = record { replies = replies; bounds = bounds s holds }

pub sound_lead : (o : Openings) (script : List Line) (after : Option Begun) (printed : List Event) → LeadTo o None script after printed → Sound after printed
sound_lead o script after printed h =
    sound_of after printed (replying.lead_so o None script after printed [] h refl) (bounding.lead_so o None script after printed h tt) (lead_begins o None script after [] printed h refl)

-- ---- where a line stops the script ----

overfills_grows : (s : SessionRow) (p : Past) (line : Line) (q : Past) (printed : List Event) (end n size : ℕ) → Overfills s p line q printed end n size → Grows s p.history q.history printed
overfills_grows s p (lines.Carry session back) q printed end n size (o, e, f) = λ rs h.
    subst (λ (t : Past × List Event). LowReplies s t.0.history (rs ++ low_lines t.1)) (λ i. (sym e i, sym f i)) (subst (LowReplies s p.history) (sym (append-nil rs)) h)
overfills_grows s p (lines.Done session m t) q printed end n size (h, hand, o) = aside_grows s p q printed (high_aside s false p m None q printed h)
overfills_grows s p lines.Skip q printed end n size h = absurd h
overfills_grows s p (lines.Session row) q printed end n size h = absurd h
overfills_grows s p (lines.LowSession row next held) q printed end n size h = absurd h
overfills_grows s p (lines.Coarse session) q printed end n size h = absurd h
overfills_grows s p (lines.Look session m w z) q printed end n size h = absurd h
overfills_grows s p (lines.Told session m w fault told z) q printed end n size h = absurd h
overfills_grows s p (lines.Step session m w) q printed end n size h = absurd h
overfills_grows s p (lines.Gone session m) q printed end n size h = absurd h
overfills_grows s p (lines.High session m) q printed end n size h = absurd h
overfills_grows s p (lines.Return session m back) q printed end n size h = absurd h
overfills_grows s p (lines.Restart session m) q printed end n size h = absurd h
overfills_grows s p (lines.ReceiverRestart session m) q printed end n size h = absurd h

overfills_holds : (s : SessionRow) (p : Past) (line : Line) (q : Past) (printed : List Event) (end n size : ℕ) → Overfills s p line q printed end n size
    → Stays s.capacity p.world × (length p.waits ≤ 64) → Stays s.capacity q.world × (length q.waits ≤ 64)
overfills_holds s p (lines.Carry session back) q printed end n size (o, e, f) h = subst (λ (t : Past). Stays s.capacity t.world × (length t.waits ≤ 64)) (sym e) h
overfills_holds s p (lines.Done session m t) q printed end n size (h, hand, o) (l, few) =
    (high_lawful s.capacity s false p m None q printed l h, rw (high_waits s false p m None q printed h) few)
overfills_holds s p lines.Skip q printed end n size h k = absurd h
overfills_holds s p (lines.Session row) q printed end n size h k = absurd h
overfills_holds s p (lines.LowSession row next held) q printed end n size h k = absurd h
overfills_holds s p (lines.Coarse session) q printed end n size h k = absurd h
overfills_holds s p (lines.Look session m w z) q printed end n size h k = absurd h
overfills_holds s p (lines.Told session m w fault told z) q printed end n size h k = absurd h
overfills_holds s p (lines.Step session m w) q printed end n size h k = absurd h
overfills_holds s p (lines.Gone session m) q printed end n size h k = absurd h
overfills_holds s p (lines.High session m) q printed end n size h k = absurd h
overfills_holds s p (lines.Return session m back) q printed end n size h k = absurd h
overfills_holds s p (lines.Restart session m) q printed end n size h k = absurd h
overfills_holds s p (lines.ReceiverRestart session m) q printed end n size h k = absurd h

stops_grows : (running : Option Begun) (line : Line) (after : Option Begun) (printed : List Event) (fault : Fault) (rs : List Sent) → Stops running line after printed fault → Replies running rs → Replies after (rs ++ low_lines printed)
stops_grows None line after printed fault rs h k = absurd h
stops_grows (Some (Whole s)) line after printed fault rs (timely, (q, end, n, size, o, f, e)) k =
    subst (λ (r : Option Begun). Replies r (rs ++ low_lines printed)) (sym e) (overfills_grows s.row s.past line q printed end n size o rs k)
stops_grows (Some (Alone s)) line after printed fault rs (timely, (q, step, f, e)) k =
    subst (λ (r : Option Begun). Replies r (rs ++ low_lines printed)) (sym e) (step_low_grows s.row s.past line true q printed step rs k)

stops_holds : (running : Option Begun) (line : Line) (after : Option Begun) (printed : List Event) (fault : Fault) → Stops running line after printed fault → Holds running → Holds after
stops_holds None line after printed fault h k = absurd h
stops_holds (Some (Whole s)) line after printed fault (timely, (q, end, n, size, o, f, e)) k = subst Holds (sym e) (overfills_holds s.row s.past line q printed end n size o k)
stops_holds (Some (Alone s)) line after printed fault (timely, (q, step, f, e)) k = subst Holds (sym e) (step_low_waits s.row s.past line true q printed step)

stops_begins : (running : Option Begun) (line : Line) (after : Option Begun) (more : List Event) (fault : Fault) (printed : List Event) → Stops running line after more fault → Begins after printed
stops_begins None line after more fault printed h = absurd h
stops_begins (Some (Whole s)) line after more fault printed (timely, (q, end, n, size, o, f, e)) = subst (λ (r : Option Begun). Begins r printed) (sym e) tt
stops_begins (Some (Alone s)) line after more fault printed (timely, (q, step, f, e)) = subst (λ (r : Option Begun). Begins r printed) (sym e) tt

replies_stop : (o : Openings) (script : List Line) (after : Option Begun) (printed : List Event) → StopsAfter o script after printed → Replies after (low_lines printed)
replies_stop o script after printed s =
    subst (Replies after) (sym (ap low_lines s.printed_is ∙ low-append s.first s.last))
    (stops_grows s.running s.line after s.last s.fault (low_lines s.first) s.stops (replying.lead_so o None s.before s.running s.first [] s.leads refl))

-- the low lines of what was printed so far are the replies
pub replies_so : (o : Openings) (script : List Line) (after : Option Begun) (printed : List Event) → ComesTo o script after printed → Replies after (low_lines printed)
replies_so o script after printed h =
    ⊎_elim (λ (l : LeadTo o None script after printed). replying.lead_so o None script after printed [] l refl) (λ (s : StopsAfter o script after printed). replies_stop o script after printed s) h

sound_stop : (o : Openings) (script : List Line) (after : Option Begun) (printed : List Event) → StopsAfter o script after printed → Sound after printed
sound_stop o script after printed s =
    sound_of after printed (replies_stop o script after printed s)
    (stops_holds s.running s.line after s.last s.fault s.stops (bounding.lead_so o None s.before s.running s.first s.leads tt))
    (stops_begins s.running s.line after s.last s.fault printed s.stops)

pub sound_so : (o : Openings) (script : List Line) (after : Option Begun) (printed : List Event) → ComesTo o script after printed → Sound after printed
sound_so o script after printed h = ⊎_elim (λ (l : LeadTo o None script after printed). sound_lead o script after printed l) (λ (s : StopsAfter o script after printed). sound_stop o script after printed s) h

-- ---- at each line ----

-- a prefix of a list whose last element is split off
abbrev pub Prefixes : List Line → List Line → List Line → Line → Type 0
Prefixes before later lines line = (more : List Line) × (lines ≡ before ++ more)

pub prefix_of : (before : List Line) (x : Line) (later lines : List Line) (line : Line) → before ++ x ∷ later ≡ lines ++ line ∷ [] → Prefixes before (x ∷ later) lines line
prefix_of [] x later lines line e = (lines, refl)
prefix_of (y ∷ before) x later [] line e = absurd (nothing_behind before x later (tail_is e))
  where
    tail_is : {a b : Line} {xs ys : List Line} → a ∷ xs ≡ b ∷ ys → xs ≡ ys
    tail_is e = cc

    nothing_behind : (xs : List Line) (x : Line) (ys : List Line) → xs ++ x ∷ ys ≡ [] → ⊥
    nothing_behind [] x ys e = absurd (cc)
    nothing_behind (a ∷ xs) x ys e = absurd (cc)
prefix_of (y ∷ before) x later (z ∷ lines) line e =
    let r = prefix_of before x later lines line cc in
    let same : y ≡ z = cc in
    (r.0, (λ i. sym same i ∷ r.1 i))

-- each prefix of the lines was led to, or is all of them
pub prefixes_so : (o : Openings) (before : List Line) (x : Line) (later : List Line) (after : Option Begun) (printed : List Event) → ComesTo o (before ++ x ∷ later) after printed
    → (mid : Option Begun) × (first : List Event) × (second : List Event) × LeadTo o None before mid first × (printed ≡ first ++ second)
prefixes_so o before x later after printed (inl l) = let r = lead_parts o None before (x ∷ later) after printed l in (r.0, r.1, r.2, r.3, r.5)
prefixes_so o before x later after printed (inr s) =
    let f = prefix_of before x later s.before s.line s.script_is in
    let r = lead_parts o None before f.0 s.running s.first (subst (λ (ls : List Line). LeadTo o None ls s.running s.first) f.1 s.leads) in
    (r.0, r.1, r.2 ++ s.last, r.3, s.printed_is ∙ ap (λ xs. xs ++ s.last) r.5 ∙ append_assoc r.1 r.2 s.last)

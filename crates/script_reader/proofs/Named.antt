-- What a session's line prints names that session, and the line leaves it its number.
use Rattle.std.proofs.Common.{◌≡◌, ℕ, ◌+◌, zero, suc, Bool, true, false, nat_lt, List, [], ◌∷◌, ◌++◌, length, Option, Some, None, refl, sym, ap, ◌∙◌, subst}
use Rattle.std.specs.Prelude.{if◌then◌else◌}
use Rattle.std.specs.List.{AllByRecursion}
use Rattle.std.proofs.lemmas.Bool.{eq-eqb, ne_eqb}
use Rattle.std.proofs.lemmas.Option.{same_Some}
use Rattle.pump_frame.specs.declared.row.SessionRow.{SessionRow}
use Rattle.pump_core.specs.declared.feedback.Feedback.{Feedback}
use Rattle.pump_core.specs.declared.feedback.Feedback.TheVariants.{Quiet, Full, Passed, Released, Repeat}
use Rattle.pump_core.specs.HighLooks.{has_removed}
use Rattle.pump_core.specs.History.{Look}
use Rattle.pump_core.specs.Replies.{Sent}
use Rattle.script_reader.specs.declared.line.Line.{Line}
use Rattle.script_reader.specs.declared.line.Line.TheVariants as lines
use Rattle.script_reader.specs.declared.fault.Fault.{Fault}
use Rattle.script_reader.specs.declared.event.Event.{Event}
use Rattle.script_reader.specs.declared.event.Event.TheVariants as prints
use Rattle.script_reader.specs.Past.{Past}
use Rattle.script_reader.specs.Openings.{Openings}
use Rattle.script_reader.specs.Lows.{printed_store, printed_feedback, printed_replies, IsLook}
use Rattle.script_reader.specs.Highs.{printed_sending, IsRemoval, IsSending, IsWholeLook, is_ahead, IsReturnBy, IsReturn, IsAttach, IsCarried, place}
use Rattle.script_reader.specs.Restarts.{IsReceiverRestart}
use Rattle.script_reader.specs.Steps.{joined, lost, IsCarriedBack, IsDone, LineStep, Overfills}
use Rattle.script_reader.specs.Alone.{PastAlone, IsToldLook, joined_alone, lost_alone, StepAlone}
use Rattle.script_reader.specs.Scripts.{Begun, Whole, Alone, GoesOn, made_coarse, Leads, Stops, Ends}
use Rattle.script_reader.specs.Sessions.{session_number, session_in, event_session, events_of}
use Rattle.script_reader.proofs.Leading.{led}

-- ---- lines of a transcript ----

-- all of these are of the session with this number
abbrev pub AreOf : ℕ → List Event → Type 0
AreOf number printed = AllByRecursion (λ event. event_session event ≡ number) printed

pub of_both : (number : ℕ) (xs ys : List Event) → AreOf number xs → AreOf number ys → AreOf number (xs ++ ys)
of_both number [] ys h k = k
of_both number (x ∷ xs) ys h k = (h.0, of_both number xs ys h.1 k)

-- they are the lines of their session, and no other's
pub own_events : (number : ℕ) (xs : List Event) → AreOf number xs → events_of number xs ≡ xs
own_events number [] h = refl
own_events number (x ∷ xs) h =
    ap (λ (b : Bool). if b then x ∷ events_of number xs else events_of number xs) (eq-eqb (event_session x) number h.0) ∙ ap (λ l. x ∷ l) (own_events number xs h.1)

pub others_events : (number other : ℕ) (xs : List Event) → AreOf other xs → (other ≡ number → ⊥) → events_of number xs ≡ []
others_events number other [] h differs = refl
others_events number other (x ∷ xs) h differs =
    ap (λ (b : Bool). if b then x ∷ events_of number xs else events_of number xs) (ne_eqb (event_session x) number (λ e. differs (sym h.0 ∙ e))) ∙ others_events number other xs h.1 differs

-- ---- what a look prints ----

of_store : (n m : ℕ) (st : Option ℕ) → AreOf n (printed_store n m st)
of_store n m None = tt
of_store n m (Some k) = (refl, tt)

of_feedback : (n m : ℕ) (f : Feedback) → AreOf n (printed_feedback n m f)
of_feedback n m Quiet = tt
of_feedback n m Full = (refl, tt)
of_feedback n m (Passed s) = (refl, tt)
of_feedback n m Released = (refl, tt)
of_feedback n m (Repeat s) = (refl, tt)

of_replies : (n : ℕ) (rs : List Sent) → AreOf n (printed_replies n rs)
of_replies n [] = tt
of_replies n (r ∷ rs) = (refl, of_replies n rs)

of_look : (n m : ℕ) (st : Option ℕ) (f : Feedback) (new : List Sent) → AreOf n (printed_store n m st ++ (printed_feedback n m f ++ printed_replies n new))
of_look n m st f new = of_both n (printed_store n m st) _ (of_store n m st) (of_both n (printed_feedback n m f) _ (of_feedback n m f) (of_replies n new))

-- what is printed is of the row's session
abbrev pub Names : SessionRow → List Event → Type 0
Names s printed = AreOf s.id printed

names : (s : SessionRow) (printed lines : List Event) → printed ≡ lines → Names s lines → Names s printed
names s printed lines e h = subst (Names s) (sym e) h

names_both : (s : SessionRow) (first second printed : List Event) → printed ≡ first ++ second → Names s first → Names s second → Names s printed
names_both s first second printed e h k = names s printed (first ++ second) e (of_both s.id first second h k)

look_names : (s : SessionRow) (p : Past) (x : Look) (q : Past) (printed : List Event) → IsLook s p x q printed → Names s printed
look_names s p x q printed i = names s printed _ i.printed_is (of_look s.id x.moment _ x.feedback i.new)

-- ---- what high looks and carried packets print ----

of_removal : (session m n : ℕ) (time : Option ℕ) (b : Bool) → AreOf session (if b then prints.Removed session m n time ∷ [] else [])
of_removal session m n time true = (refl, tt)
of_removal session m n time false = tt

of_sending : (session m : ℕ) (o : Option ℕ) (b : Bool) → AreOf session (if b then printed_sending session m o else [])
of_sending session m None true = tt
of_sending session m (Some n) true = (refl, tt)
of_sending session m o false = tt

of_carry : (session n : ℕ) (b : Bool) → AreOf session ((if b then prints.Again session n else prints.Took session n) ∷ [])
of_carry session n true = (refl, tt)
of_carry session n false = (refl, tt)

removal_names : (s : SessionRow) (p : Past) (m : ℕ) (back : Option ℕ) (q : Past) (printed : List Event) → IsRemoval s p m back q printed → Names s printed
removal_names s p m back q printed r =
    names s printed _ r.printed_is (of_removal s.id m r.look.answered.removed r.look.time (has_removed r.look.answered q.world))

sending_names : (s : SessionRow) (attaches : Bool) (p : Past) (m : ℕ) (q : Past) (printed : List Event) → IsSending s attaches p m q printed → Names s printed
sending_names s attaches p m q printed r = names s printed _ r.printed_is (of_sending s.id m r.look.taken.high_hand r.look.is_sent)

pub high_names : (s : SessionRow) (attaches : Bool) (p : Past) (m : ℕ) (back : Option ℕ) (q : Past) (printed : List Event) → IsWholeLook s attaches p m back q printed → Names s printed
high_names s attaches p m back q printed (mid, first, second, r, t, e) =
    names_both s first second printed e (removal_names s p m back mid first r) (sending_names s attaches mid m q second t)

return_by_names : (b : Bool) (s : SessionRow) (attaches : Bool) (p : Past) (m n : ℕ) (q : Past) (printed : List Event) → IsReturnBy b s attaches p m n q printed → Names s printed
return_by_names true s attaches p m n q printed h = names s printed [] h.1 tt
return_by_names false s attaches p m n q printed h = high_names s attaches p m (Some n) q printed h

return_names : (s : SessionRow) (p : Past) (m n : ℕ) (q : Past) (printed : List Event) → IsReturn s p m n q printed → Names s printed
return_names s p m n q printed h = return_by_names (is_ahead p.world n) s false p m n q printed h

attach_names : (s : SessionRow) (p : Past) (m count : ℕ) (q : Past) (printed : List Event) → IsAttach s p m count q printed → Names s printed
attach_names s p m zero q printed h = high_names s true p m None q printed h
attach_names s p m (suc n) q printed (k, at, h) = return_by_names (is_ahead p.world k) s true p m k q printed h

pub carry_names : (s : SessionRow) (p : Past) (back : ℕ) (q : Past) (printed : List Event) → IsCarried s p back q printed → Names s printed
carry_names s p back q printed r = names s printed _ r.printed_is (of_carry s.id r.packet.number (nat_lt r.packet.number (length p.world.received)))

goes_names : (s : SessionRow) (hand : Option ℕ) (p : Past) (m : ℕ) (q : Past) (printed : List Event) → IsCarriedBack s hand p m q printed → Names s printed
goes_names s None p m q printed (e, f) = names s printed [] f tt
goes_names s (Some n) p m q printed (mid, first, second, c, h, e) =
    names_both s first second printed e (carry_names s p 0 mid first c) (return_names s mid m (place mid.world.returned 0) q second h)

done_names : (s : SessionRow) (p : Past) (m t : ℕ) (q : Past) (printed : List Event) → IsDone s p m t q printed → Names s printed
done_names s p m t q printed (mid, first, second, h, g, e) =
    names_both s first second printed e (high_names s false p m None mid first h) (goes_names s mid.world.high_hand mid (m + t) q second g)

receiver_names : (s : SessionRow) (p : Past) (m : ℕ) (q : Past) (printed : List Event) → IsReceiverRestart s p m q printed → Names s printed
receiver_names s p m q printed (mid, h, (more, t, e)) =
    names_both s (prints.Attach s.id m (length mid.world.received) ∷ []) more printed e (refl, tt) (attach_names s mid m (length mid.world.received) q more t)

-- ---- what a line prints ----

pub step_names : (s : SessionRow) (p : Past) (line : Line) (q : Past) (printed : List Event) → LineStep s p line q printed → Names s printed
step_names s p lines.Skip q printed h = absurd h
step_names s p (lines.Session row) q printed h = absurd h
step_names s p (lines.LowSession row next held) q printed h = absurd h
step_names s p (lines.Coarse session) q printed h = absurd h
step_names s p (lines.Told session m w fault told a) q printed h = absurd h
step_names s p (lines.Step session m w) q printed h = absurd h
step_names s p (lines.Look session m w a) q printed (c, comes, (few, (f, i))) = look_names s (joined p c) _ q printed i
step_names s p (lines.Gone session m) q printed (f, i) = look_names s (lost p) _ q printed i
step_names s p (lines.High session m) q printed h = high_names s false p m None q printed h
step_names s p (lines.Carry session back) q printed h = carry_names s p back q printed h
step_names s p (lines.Return session m back) q printed h = return_names s p m (place p.world.returned back) q printed h
step_names s p (lines.Done session m t) q printed h = done_names s p m t q printed h
step_names s p (lines.Restart session m) q printed h = names s printed _ h.2 (refl, tt)
step_names s p (lines.ReceiverRestart session m) q printed h = receiver_names s p m q printed h

told_names : (s : SessionRow) (p : PastAlone) (t : _) (x : Look) (q : PastAlone) (printed : List Event) → IsToldLook s p t x q printed → Names s printed
told_names s p t x q printed i = names s printed _ i.printed_is (of_look s.id x.moment _ x.feedback i.new)

pub step_low_names : (s : SessionRow) (p : PastAlone) (line : Line) (is_fault : Bool) (q : PastAlone) (printed : List Event) → StepAlone s p line is_fault q printed → Names s printed
step_low_names s p (lines.Told session m w fault told a) is_fault q printed (c, comes, (few, (f, i))) = told_names s (joined_alone p fault c) told _ q printed i
step_low_names s p (lines.Gone session m) is_fault q printed (f, i) = told_names s (lost_alone p) _ _ q printed i
step_low_names s p lines.Skip is_fault q printed h = absurd h
step_low_names s p (lines.Session row) is_fault q printed h = absurd h
step_low_names s p (lines.LowSession row next held) is_fault q printed h = absurd h
step_low_names s p (lines.Coarse session) is_fault q printed h = absurd h
step_low_names s p (lines.Look session m w a) is_fault q printed h = absurd h
step_low_names s p (lines.High session m) is_fault q printed h = absurd h
step_low_names s p (lines.Carry session back) is_fault q printed h = absurd h
step_low_names s p (lines.Return session m back) is_fault q printed h = absurd h
step_low_names s p (lines.Done session m t) is_fault q printed h = absurd h
step_low_names s p (lines.Restart session m) is_fault q printed h = absurd h
step_low_names s p (lines.ReceiverRestart session m) is_fault q printed h = absurd h
step_low_names s p (lines.Step session m w) is_fault q printed h = absurd h

overfills_names : (s : SessionRow) (p : Past) (line : Line) (q : Past) (printed : List Event) (end n size : ℕ) → Overfills s p line q printed end n size → Names s printed
overfills_names s p (lines.Carry session back) q printed end n size (o, e, f) = names s printed [] f tt
overfills_names s p (lines.Done session m t) q printed end n size (h, hand, o) = high_names s false p m None q printed h
overfills_names s p lines.Skip q printed end n size h = absurd h
overfills_names s p (lines.Session row) q printed end n size h = absurd h
overfills_names s p (lines.LowSession row next held) q printed end n size h = absurd h
overfills_names s p (lines.Coarse session) q printed end n size h = absurd h
overfills_names s p (lines.Look session m w z) q printed end n size h = absurd h
overfills_names s p (lines.Told session m w fault told z) q printed end n size h = absurd h
overfills_names s p (lines.Step session m w) q printed end n size h = absurd h
overfills_names s p (lines.Gone session m) q printed end n size h = absurd h
overfills_names s p (lines.High session m) q printed end n size h = absurd h
overfills_names s p (lines.Return session m back) q printed end n size h = absurd h
overfills_names s p (lines.Restart session m) q printed end n size h = absurd h
overfills_names s p (lines.ReceiverRestart session m) q printed end n size h = absurd h

-- ---- a line that the device of a disk cuts short ----

-- ---- what a line leads its session to ----

-- the session has this number
abbrev pub HasNumber : ℕ → Option Begun → Type 0
HasNumber number None = Unit {0}
HasNumber number (Some s) = session_number s ≡ number

-- a line leads the session of this number to `after`, which has it too, and prints this of it
pub record IsOf (number : ℕ) (after : Option Begun) (printed : List Event) : Type 0 where
  pub session : HasNumber number after
  pub events : AreOf number printed

-- of a session that runs
goes_of : (s : Begun) (line : Line) (after : Option Begun) (printed : List Event) → GoesOn s line after printed → IsOf (session_number s) after printed
goes_of (Whole s) line after printed (timely, (q, step, e)) =
    record { session = subst (HasNumber s.row.id) (sym e) refl; events = step_names s.row s.past line q printed step }
goes_of (Alone s) line after printed (timely, (q, step, e)) =
    record { session = subst (HasNumber s.row.id) (sym e) refl; events = step_low_names s.row s.past line false q printed step }

-- a session that is made coarse keeps its number
coarse_number : (s : Begun) → session_number (made_coarse s) ≡ session_number s
coarse_number (Whole s) = refl
coarse_number (Alone s) = refl

runs_of : (o : Openings) (s : Begun) (line : Line) (number : ℕ) (after : Option Begun) (printed : List Event) → session_in line ≡ Some number → session_number s ≡ number
    → Leads o (Some s) line after printed → IsOf number after printed
runs_of o s line number after printed names same h =
    led o (Some s) line after printed h
    (λ skip e f. let none : None ≡ Some number = sym (ap session_in skip) ∙ names in absurd (cc))
    (λ r none new e f. absurd (cc))
    (λ r some goes. let is : s ≡ r = same_Some s r some in
    subst (λ (n : ℕ). IsOf n after printed) (ap session_number (sym is) ∙ same) (goes_of r line after printed goes))
    (λ r session some is new again e f. record {
      session = subst (HasNumber number) (sym e) (coarse_number r ∙ ap session_number (sym (same_Some s r some)) ∙ same);
      events = subst (AreOf number) (sym f) tt;
    })

-- of one that begins
begins_of : (row : SessionRow) (s : Begun) (number : ℕ) (after : Option Begun) (printed : List Event) → Some row.id ≡ Some number → session_number s ≡ row.id → after ≡ Some s → printed ≡ [] → IsOf number after printed
begins_of row s number after printed names same e f =
    record { session = subst (HasNumber number) (sym e) (same ∙ same_Some row.id number names); events = subst (AreOf number) (sym f) tt }

pub leads_of : (o : Openings) (running : Option Begun) (line : Line) (number : ℕ) (after : Option Begun) (printed : List Event) → session_in line ≡ Some number → HasNumber number running
    → Leads o running line after printed → IsOf number after printed
leads_of o (Some s) line number after printed names same h = runs_of o s line number after printed names same h
leads_of o None (lines.Session row) number after printed names same h = begins_of row _ number after printed names refl h.0.2 h.1
leads_of o None (lines.LowSession row next held) number after printed names same h = begins_of row _ number after printed names refl h.0.1 h.1
leads_of o None lines.Skip number after printed names same h = absurd (cc)
leads_of o None (lines.Coarse session) number after printed names same h = absurd h
leads_of o None (lines.Look session m w z) number after printed names same h = absurd h
leads_of o None (lines.Told session m w fault told z) number after printed names same h = absurd h
leads_of o None (lines.Step session m w) number after printed names same h = absurd h
leads_of o None (lines.Gone session m) number after printed names same h = absurd h
leads_of o None (lines.High session m) number after printed names same h = absurd h
leads_of o None (lines.Carry session back) number after printed names same h = absurd h
leads_of o None (lines.Return session m back) number after printed names same h = absurd h
leads_of o None (lines.Done session m t) number after printed names same h = absurd h
leads_of o None (lines.Restart session m) number after printed names same h = absurd h
leads_of o None (lines.ReceiverRestart session m) number after printed names same h = absurd h

pub stops_of : (running : Option Begun) (line : Line) (number : ℕ) (after : Option Begun) (printed : List Event) (fault : Fault) → HasNumber number running
    → Stops running line after printed fault → IsOf number after printed
stops_of None line number after printed fault same h = absurd h
stops_of (Some (Whole s)) line number after printed fault same (timely, (q, end, n, size, o, f, e)) =
    subst (λ (n : ℕ). IsOf n after printed) same
    (record { session = subst (HasNumber s.row.id) (sym e) refl; events = overfills_names s.row s.past line q printed end n size o })
stops_of (Some (Alone s)) line number after printed fault same (timely, (q, step, f, e)) =
    subst (λ (n : ℕ). IsOf n after printed) same
    (record { session = subst (HasNumber s.row.id) (sym e) refl; events = step_low_names s.row s.past line true q printed step })

-- what the end of a script prints of a session is of its number
pub ends_of : (s : Begun) (printed : List Event) → Ends (Some s) printed → AreOf (session_number s) printed
ends_of (Whole s) printed h = subst (AreOf s.row.id) (sym h) (refl, tt)
ends_of (Alone s) printed (event, (parts, cut, e), f) = subst (AreOf s.row.id) (sym (f ∙ ap (λ (x : Event). x ∷ []) e)) (refl, tt)

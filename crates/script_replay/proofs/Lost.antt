-- Where the device of a disk cuts a line short, what Low was told and whether its store failed decide the `low` lines.
use Rattle.std.proofs.Common.{◌≡◌, ℕ, ◌+◌, Bool, true, false, nat_lt, List, [], ◌∷◌, ◌++◌, map, length, Option, Some, None, inl, inr, refl, sym, ap, ◌∙◌, append-nil}
use Rattle.std.specs.Prelude.{◌==◌, if◌then◌else◌, filter, filter_map}
use Rattle.std.specs.List.{cons_option}
use Rattle.std.proofs.lemmas.Bool.{eqb-true}
use Rattle.std.proofs.lemmas.List.Elements.{filter-append}
use Rattle.disk_model.specs.declared.name.Role.{Role}
use Rattle.disk_model.specs.declared.name.Role.TheVariants as roles
use Rattle.pump_frame.specs.declared.frame.Kind.TheVariants.{Refuse}
use Rattle.pump_frame.specs.declared.row.SessionRow.{SessionRow}
use Rattle.pump_core.specs.HighLooks.{has_removed}
use Rattle.pump_core.specs.Replies.{Sent, refusal}
use Rattle.script_reader.specs.declared.event.Event.{Event}
use Rattle.script_reader.specs.declared.event.Event.TheVariants as prints
use Rattle.script_reader.specs.declared.line.Line.{Line}
use Rattle.script_reader.specs.declared.line.Line.TheVariants as lines
use Rattle.script_reader.specs.declared.line.Arriving.{Arriving}
use Rattle.script_reader.specs.Breaks.{Breaks, BreaksOff, IsLost}
use Rattle.script_reader.specs.Highs.{printed_sending, IsRemoval, IsSending, IsWholeLook}
use Rattle.script_reader.specs.Openings.{Openings}
use Rattle.script_reader.specs.Past.{Past}
use Rattle.script_reader.specs.Readouts.{low_line, low_lines}
use Rattle.script_reader.specs.Sessions.{Sessions, event_session, events_of, ScriptComesTo}
use Rattle.script_reader.specs.Sides.{told_to_low, full_moments, averages, restarts_in}
use Rattle.script_reader.proofs.LowAside.{high_aside}
use Rattle.script_reader.proofs.Replying.{low-append}
use Rattle.script_reader.proofs.Telling.{Said, said, said_to_low, said-append, plain, full_said, average_said, restart_said, told_is_said, full_is_said, average_is_said, restart_is_said}
use Rattle.script_replay.specs.Replays.{lost_look, ComesOrBreaks, DecideLowLost, DecideLostByMoments}
use Rattle.script_replay.proofs.Broken.{carry_is_silent}
use Rattle.script_replay.proofs.Kept.{keep_laws}

-- the replies of a look of this session whose store failed
abbrev lost_replies : ℕ → List Line → List Sent
lost_replies number (lines.Look session m w a ∷ []) = record { moment = m; reply = record { kind = Refuse; session = number; number = 0; payload = 5 ∷ [] } } ∷ []
lost_replies number _ = []

-- ---- what a session's lines are without others' ----

cons_none : (o : Option Said) (xs : List Said) → cons_option o xs ≡ [] → (o ≡ None) × (xs ≡ [])
cons_none None xs h = (refl, h)
cons_none (Some y) xs h = absurd (cc)

append_none : (xs ys : List Sent) → xs ++ ys ≡ [] → (xs ≡ []) × (ys ≡ [])
append_none [] ys h = (refl, h)
append_none (x ∷ xs) ys h = absurd (cc)

module _ (p : Event → Bool) where
  kept_said : (b : Bool) (x : Event) (xs : List Event) → said x ≡ None → said_to_low xs ≡ [] → said_to_low (if b then x ∷ xs else xs) ≡ []
  kept_said true x xs none h = ap (λ o. cons_option o (said_to_low xs)) none ∙ h
  kept_said false x xs none h = h

  nothing_said : (xs : List Event) → said_to_low xs ≡ [] → said_to_low (filter p xs) ≡ []
  nothing_said [] h = refl
  nothing_said (x ∷ xs) h =
      let parts = cons_none (said x) (said_to_low xs) h in
      kept_said (p x) x (filter p xs) parts.0 (nothing_said xs parts.1)

  kept_low : (b : Bool) (x : Event) (xs : List Event) → low_line x ≡ [] → low_lines xs ≡ [] → low_lines (if b then x ∷ xs else xs) ≡ []
  kept_low true x xs none h = ap (λ l. l ++ low_lines xs) none ∙ h
  kept_low false x xs none h = h

  no_low : (xs : List Event) → low_lines xs ≡ [] → low_lines (filter p xs) ≡ []
  no_low [] h = refl
  no_low (x ∷ xs) h =
      let parts = append_none (low_line x) (low_lines xs) h in
      kept_low (p x) x (filter p xs) parts.0 (no_low xs parts.1)

-- ---- what such a line prints ----

-- it says nothing to Low, and its one `low` line is the refusal of a look whose store failed
record Prints (s : SessionRow) (lost : List Line) (printed : List Event) : Type 0 where
  said : said_to_low printed ≡ []
  low : (number : ℕ) → low_lines (events_of number printed) ≡ lost_replies number (if s.id == number then lost else [])

no_replies : (number : ℕ) (b : Bool) → lost_replies number (if b then [] else []) ≡ []
no_replies number true = refl
no_replies number false = refl

silent : (s : SessionRow) (printed : List Event) → said_to_low printed ≡ [] → low_lines printed ≡ [] → Prints s [] printed
silent s printed said low = record { said = said; low = λ number. no_low (λ event. event_session event == number) printed low ∙ sym (no_replies number (s.id == number)) }

one_refusal : (s : SessionRow) (number m w session : ℕ) (a : Arriving) (b : Bool) → (s.id == number) ≡ b
    → low_lines (if b then prints.Low s.id m (refusal s 5 0) ∷ [] else []) ≡ lost_replies number (if b then lines.Look session m w a ∷ [] else [])
one_refusal s number m w session a true is = ap (λ (id : ℕ). (record { moment = m; reply = record { kind = Refuse; session = id; number = 0; payload = 5 ∷ [] } }) ∷ []) (eqb-true s.id number is)
one_refusal s number m w session a false is = refl

lost_prints : (s : SessionRow) (p : Past) (m w session : ℕ) (a : Arriving) (q : Past) (printed : List Event) → IsLost s p m w q printed → Prints s (lines.Look session m w a ∷ []) printed
lost_prints s p m w session a q printed lost = record {
  said = ap said_to_low lost.printed_is;
  low = λ number. ap (λ (l : List Event). low_lines (events_of number l)) lost.printed_is ∙ one_refusal s number m w session a (s.id == number) refl;
}

of_removal : (session m n : ℕ) (time : Option ℕ) (b : Bool) → low_lines (if b then prints.Removed session m n time ∷ [] else []) ≡ []
of_removal session m n time true = refl
of_removal session m n time false = refl

of_sending : (session m : ℕ) (o : Option ℕ) (b : Bool) → low_lines (if b then printed_sending session m o else []) ≡ []
of_sending session m None true = refl
of_sending session m (Some n) true = refl
of_sending session m o false = refl

removal_is_silent : (s : SessionRow) (p : Past) (m : ℕ) (back : Option ℕ) (q : Past) (printed : List Event) → IsRemoval s p m back q printed → low_lines printed ≡ []
removal_is_silent s p m back q printed r = ap low_lines r.printed_is ∙ of_removal s.id m r.look.answered.removed r.look.time (has_removed r.look.answered q.world)

sending_is_silent : (s : SessionRow) (attaches : Bool) (p : Past) (m : ℕ) (q : Past) (printed : List Event) → IsSending s attaches p m q printed → low_lines printed ≡ []
sending_is_silent s attaches p m q printed r = ap low_lines r.printed_is ∙ of_sending s.id m r.look.taken.high_hand r.look.is_sent

look_is_silent : (s : SessionRow) (attaches : Bool) (p : Past) (m : ℕ) (back : Option ℕ) (q : Past) (printed : List Event) → IsWholeLook s attaches p m back q printed → low_lines printed ≡ []
look_is_silent s attaches p m back q printed (mid, first, second, r, t, e) =
    ap low_lines e ∙ low-append first second ∙ ap (λ l. l ++ low_lines second) (removal_is_silent s p m back mid first r) ∙ sending_is_silent s attaches mid m q second t

carry_says_nothing : (session n : ℕ) (b : Bool) → said_to_low ((if b then prints.Again session n else prints.Took session n) ∷ []) ≡ []
carry_says_nothing session n true = refl
carry_says_nothing session n false = refl

-- what comes behind the high look of `done`
off_is_silent : (s : SessionRow) (mid : Past) (m : ℕ) (role : Role) (q : Past) (printed : List Event) → BreaksOff s mid m role q printed → (said_to_low printed ≡ []) × (low_lines printed ≡ [])
off_is_silent s mid m roles.Low q printed h = absurd h
off_is_silent s mid m roles.Recv q printed (untaken, e) = (ap said_to_low e, ap low_lines e)
off_is_silent s mid m roles.High q printed (far, carried, unremoved) = (
  ap said_to_low carried.printed_is ∙ carry_says_nothing s.id carried.packet.number (nat_lt carried.packet.number (length mid.world.received)),
  carry_is_silent s.id mid.world carried.packet printed carried.printed_is,
)

breaks_print : (s : SessionRow) (p : Past) (line : Line) (role : Role) (q : Past) (printed : List Event) → Breaks s p line role q printed → Prints s (lost_look line role) printed
breaks_print s p lines.Skip role q printed h = absurd h
breaks_print s p (lines.Session other) role q printed h = absurd h
breaks_print s p (lines.LowSession other next held) role q printed h = absurd h
breaks_print s p (lines.Coarse session) role q printed h = absurd h
breaks_print s p (lines.Told session m w fault told a) role q printed h = absurd h
breaks_print s p (lines.Step session m w) role q printed h = absurd h
breaks_print s p (lines.Gone session m) role q printed h = absurd h
breaks_print s p (lines.High session m) role q printed h = absurd h
breaks_print s p (lines.Look session m w a) roles.Low q printed (c, comes, few, lost) = lost_prints s _ m w session a q printed lost
breaks_print s p (lines.Look session m w a) roles.High q printed h = absurd h
breaks_print s p (lines.Look session m w a) roles.Recv q printed h = absurd h
breaks_print s p (lines.Carry session back) roles.Recv q printed (untaken, e) = silent s printed (ap said_to_low e) (ap low_lines e)
breaks_print s p (lines.Carry session back) roles.Low q printed h = absurd h
breaks_print s p (lines.Carry session back) roles.High q printed h = absurd h
breaks_print s p (lines.Return session m back) roles.High q printed (unremoved, e) = silent s printed (ap said_to_low e) (ap low_lines e)
breaks_print s p (lines.Return session m back) roles.Low q printed h = absurd h
breaks_print s p (lines.Return session m back) roles.Recv q printed h = absurd h
breaks_print s p (lines.Done session m t) role q printed (mid, n, first, second, high, hand, off, e) =
    let more = off_is_silent s mid (m + t) role q second off in
    silent s printed (ap said_to_low e ∙ said-append first second ∙ ap (λ l. l ++ said_to_low second) (high_aside s false p m None mid first high).said ∙ more.0)
    (ap low_lines e ∙ low-append first second ∙ ap (λ l. l ++ low_lines second) (look_is_silent s false p m None mid first high) ∙ more.1)
breaks_print s p (lines.Restart session m) roles.Low q printed (e, f) = silent s printed (ap said_to_low f) (ap low_lines f)
breaks_print s p (lines.Restart session m) roles.High q printed (e, f) = silent s printed (ap said_to_low f) (ap low_lines f)
breaks_print s p (lines.Restart session m) roles.Recv q printed h = absurd h
breaks_print s p (lines.ReceiverRestart session m) roles.Recv q printed (e, f) = silent s printed (ap said_to_low f) (ap low_lines f)
breaks_print s p (lines.ReceiverRestart session m) roles.High q printed (mid, reopened, unattached, f) = silent s printed (ap said_to_low f) (ap low_lines f)
breaks_print s p (lines.ReceiverRestart session m) roles.Low q printed h = absurd h

-- ---- a script of which a disk may have cut the last line short ----

-- the lines before it came to this; it says nothing more to Low, and one reply more where a store failed
record Came (o : Openings) (script : List Line) (printed : List Event) (lost : List Line) (number : ℕ) : Type 0 where
  after : Sessions
  first : List Event
  comes : ScriptComesTo o script after first
  said : said_to_low (events_of number printed) ≡ said_to_low (events_of number first)
  low : low_lines (events_of number printed) ≡ low_lines (events_of number first) ++ lost_replies number lost

parts_of : (number : ℕ) (events last : List Event) → events_of number (events ++ last) ≡ events_of number events ++ events_of number last
parts_of number events last = filter-append (λ event. event_session event == number) events last

came : (o : Openings) (script : List Line) (printed : List Event) (lost : ℕ → List Line) (number : ℕ) → ComesOrBreaks o script printed lost → Came o script printed (lost number) number
came o script printed lost number (inl (after, comes, none)) = record {
  after = after;
  first = printed;
  comes = comes;
  said = refl;
  low = sym (append-nil (low_lines (events_of number printed))) ∙ ap (λ (l : List Line). low_lines (events_of number printed) ++ lost_replies number l) (sym (none number));
}
came o script printed lost number (inr (t, events, leads, line, last, off, printed_is, lost_is)) =
    let prints = breaks_print off.session.row off.session.past line off.role off.past last off.breaks in
    let mine = events_of number events in
    record {
      after = t;
      first = events;
      comes = inl leads;
      said =
          ap (λ (l : List Event). said_to_low (events_of number l)) printed_is ∙ ap said_to_low (parts_of number events last) ∙ said-append mine (events_of number last)
          ∙ ap (λ (l : List Said). said_to_low mine ++ l) (nothing_said (λ event. event_session event == number) last prints.said) ∙ append-nil (said_to_low mine);
      low =
          ap (λ (l : List Event). low_lines (events_of number l)) printed_is ∙ ap low_lines (parts_of number events last) ∙ low-append mine (events_of number last)
          ∙ ap (λ (l : List Sent). low_lines mine ++ l) (prints.low number) ∙ ap (λ (l : List Line). low_lines mine ++ lost_replies number l) (sym (lost_is number));
    }

-- what is read off of what is said
module _ {o : Openings} {script : List Line} {printed : List Event} {lost : List Line} {number : ℕ} (c : Came o script printed lost number) where
  told_of : told_to_low (events_of number printed) ≡ told_to_low (events_of number c.first)
  told_of = told_is_said (events_of number printed) ∙ ap (map plain) c.said ∙ sym (told_is_said (events_of number c.first))

  full_of : full_moments (events_of number printed) ≡ full_moments (events_of number c.first)
  full_of = full_is_said (events_of number printed) ∙ ap (filter_map full_said) c.said ∙ sym (full_is_said (events_of number c.first))

  restarts_of : restarts_in (events_of number printed) ≡ restarts_in (events_of number c.first)
  restarts_of = restart_is_said (events_of number printed) ∙ ap (filter_map restart_said) c.said ∙ sym (restart_is_said (events_of number c.first))

  averages_of : averages (events_of number printed) ≡ averages (events_of number c.first)
  averages_of = average_is_said (events_of number printed) ∙ ap (filter_map average_said) c.said ∙ sym (average_is_said (events_of number c.first))

module _ (o : Openings) (script : List Line) (printed : List Event) (lost : ℕ → List Line) (breaks : ComesOrBreaks o script printed lost) where
  pub lost_decides : DecideLowLost o script printed lost
  lost_decides = λ p others events lost_there h number opens side same told.
      let a = came o script printed lost number breaks in
      let b = came p others events lost_there number h in
      a.low ∙ ap (λ (l : List Sent). l ++ lost_replies number (lost number))
      ((keep_laws o script a.after a.first a.comes).low p others b.after b.first b.comes number opens side (sym (told_of a) ∙ told ∙ told_of b))
      ∙ ap (λ (l : List Line). low_lines (events_of number b.first) ++ lost_replies number l) same ∙ sym b.low

  pub moments_decide : DecideLostByMoments o script printed lost
  moments_decide = λ p others events lost_there h number opens side same own full restarts averages.
      let a = came o script printed lost number breaks in
      let b = came p others events lost_there number h in
      a.low ∙ ap (λ (l : List Sent). l ++ lost_replies number (lost number))
      ((keep_laws o script a.after a.first a.comes).by_moments p others b.after b.first b.comes number opens side own
      (sym (full_of a) ∙ full ∙ full_of b) (sym (restarts_of a) ∙ restarts ∙ restarts_of b) (sym (averages_of a) ∙ averages ∙ averages_of b))
      ∙ ap (λ (l : List Line). low_lines (events_of number b.first) ++ lost_replies number l) same ∙ sym b.low

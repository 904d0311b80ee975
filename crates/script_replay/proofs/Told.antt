-- What the lines of a script make of a low side alone, whatever the shelf and its disks tell.
use Rattle.std.proofs.Common.{◌≡◌, ◌≢◌, ℕ, Bool, true, false, not, List, [], ◌∷◌, ◌++◌, Option, None, Some, inl, inr, refl, sym, ap, ◌∙◌, subst, append-nil, append_assoc}
use Rattle.std.proofs.lemmas.Bool.{ne_eqb}
use Rattle.std.proofs.lemmas.List.Elements.{filter-append}
use Rattle.std.proofs.lemmas.Option.{same_Some}
use Rattle.disk_model.specs.Disk.{Meaning}
use Rattle.disk_model.specs.declared.disk.Disk.{Ghosts}
use Rattle.disk_model.specs.declared.name.Role.{Role}
use Rattle.disk_model.specs.declared.name.Role.TheVariants as roles
use Rattle.pump_frame.specs.Rows.{IsLawfulRow}
use Rattle.pump_frame.specs.declared.row.SessionRow.{SessionRow}
use Rattle.script_reader.specs.declared.event.Event.{Event}
use Rattle.script_reader.specs.declared.fault.Fault.TheVariants as faults
use Rattle.script_reader.specs.declared.line.Line.{Line}
use Rattle.script_reader.specs.declared.line.Line.TheVariants as kinds
use Rattle.script_reader.specs.Alone.{fresh_alone}
use Rattle.script_reader.specs.Lines.{AreLines}
use Rattle.script_reader.specs.Openings.{Openings, new_disks}
use Rattle.script_reader.specs.Scripts.{RunningAlone, Begun, Alone, coarsened, made_coarse, Leads, LeadTo, Stops}
use Rattle.script_reader.specs.Sessions.{session_in, is_number, lines_of}
use Rattle.script_reader.proofs.Beside.{own_line, other_line}
use Rattle.two_worlds.specs.declared.applied.Stop.{Stop}
use Rattle.two_worlds.specs.declared.applied.Stop.TheVariants as stops
use Rattle.two_worlds.specs.declared.pump.Pump.{Pump}
use Rattle.script_replay.specs.declared.session.Session.{Session}
use Rattle.script_replay.specs.declared.session.Session.TheVariants as sessions
use Rattle.script_replay.specs.declared.sessions.Sessions.{Sessions}
use Rattle.script_replay.specs.declared.outcome.LineOutcome.{LineOutcome}
use Rattle.script_replay.specs.declared.outcome.LineOutcome.TheVariants as outcomes
use Rattle.script_replay.specs.Replays.{IsNear}
use Rattle.script_replay.specs.Runners.{outcome_of, GoesSo, IsDeviceOutcomeOf}
use Rattle.script_replay.specs.Sessions.{id_of, is_coarse, StandsFor, StandsForRunning, SessionApplies, GoesOnWith, found_at, with_begun}
use Rattle.script_replay.specs.Told.{StopsAsTold, TellsFault, IsLedBy, IsMadeBy, AllAreMadeBy, IfAlone, GoesAsTold}
use Rattle.script_replay.proofs.Coarse.{may_so}
use Rattle.script_replay.proofs.Going.{leads_from}
use Rattle.script_replay.proofs.Numbered.{found_put, same_number}
use Rattle.script_replay.proofs.Turns.{at_put, same_id}

-- ---- one more line ----

lead_more : (o : Openings) (running mid after : Option Begun) (lines : List Line) (line : Line) (first second : List Event) → LeadTo o running lines mid first → Leads o mid line after second → LeadTo o running (lines ++ line ∷ []) after (first ++ second)
lead_more o running mid after [] line first second h step =
    (after, second, [], subst (λ (r : Option Begun). Leads o r line after second) h.0 step, (refl, refl), ap (λ z. z ++ second) h.1 ∙ sym (append-nil second))
lead_more o running mid after (x ∷ lines) line first second h step =
    (h.0, h.1, h.2 ++ second, h.3, lead_more o h.0 mid after lines line h.2 second h.4 step, ap (λ z. z ++ second) h.5 ∙ append_assoc h.1 h.2 second)

lines_more : (number : ℕ) (lines : List Line) (line : Line) → lines_of number (lines ++ line ∷ []) ≡ lines_of number lines ++ lines_of number (line ∷ [])
lines_more number lines line = filter-append (λ (l : Line). is_number number (session_in l)) lines (line ∷ [])

-- it names the session
own_more : (number : ℕ) (lines : List Line) (line : Line) → session_in line ≡ Some number → lines_of number (lines ++ line ∷ []) ≡ lines_of number lines ++ line ∷ []
own_more number lines line named = lines_more number lines line ∙ ap (λ (ls : List Line). lines_of number lines ++ ls) (own_line number line [] named)

-- or it doesn't
unnamed_more : (number : ℕ) (lines : List Line) (line : Line) → is_number number (session_in line) ≡ false → lines_of number (lines ++ line ∷ []) ≡ lines_of number lines
unnamed_more number lines line unnamed = lines_more number lines line ∙ ap (λ (ls : List Line). lines_of number lines ++ ls) (other_line number line [] unnamed) ∙ append-nil (lines_of number lines)

other_more : (k number : ℕ) (lines : List Line) (line : Line) → session_in line ≡ Some number → (k ≡ number → ⊥) → lines_of k (lines ++ line ∷ []) ≡ lines_of k lines
other_more k number lines line named apart = unnamed_more k lines line (ap (is_number k) named ∙ ne_eqb number k (λ e. apart (sym e)))

-- ---- if it is a low side alone ----

pub alone_more : {D : Type 0} {g : Ghosts D} (x : Option (Session D g)) (P Q : Type 0) → (P → Q) → IfAlone x P → IfAlone x Q
alone_more None P Q f h = tt
alone_more (Some (sessions.Whole id p)) P Q f h = tt
alone_more (Some (sessions.Alone id p)) P Q f h = f h

pub alone_none : {D : Type 0} {g : Ghosts D} (x : Option (Session D g)) (P : Type 0) → x ≡ None → IfAlone x P
alone_none None P none = tt
alone_none (Some s) P none = absurd (cc)

pub alone_so : {D : Type 0} {g : Ghosts D} (x : Option (Session D g)) (P : Type 0) (id : ℕ) (p : _) → x ≡ Some (sessions.Alone id p) → IfAlone x P → P
alone_so {D} {g} x P id p is h = subst (λ (y : Option (Session D g)). IfAlone y P) is h

-- ---- a session ----

module _ {D : Type 0} {g : Ghosts D} (d : Meaning D) where
  pub whole_alone : (x : Session D g) (id : ℕ) (p : Pump D g) → x ≡ sessions.Whole id p → (s : RunningAlone) → StandsFor d x (Alone s) → ⊥
  whole_alone x id p is s h = never (subst (λ (y : Session D g). StandsFor d y (Alone s)) is h)
    where
      never : StandsFor d (sessions.Whole id p) (Alone s) → ⊥
      never h = h.is_of

  made_of : (way : Bool) (t : Session D g) (lines : List Line) → IsLedBy d way t lines → IsMadeBy d way (Some t) lines
  made_of way (sessions.Whole id p) lines h = tt
  made_of way (sessions.Alone id p) lines h = h

  made_on : (was way : Bool) (x : Option (Session D g)) (lines : List Line) → (way ≡ false → was ≡ false) → IsMadeBy d was x lines → IsMadeBy d way x lines
  made_on was way None lines back h = h
  made_on was way (Some (sessions.Whole id p)) lines back h = tt
  made_on was way (Some (sessions.Alone id p)) lines back h = record { alone = h.alone; printed = h.printed; stands = h.stands; leads = h.leads; is_new = λ e. h.is_new (back e) }

  -- the line that begins it
  pub alone_made : (row : SessionRow) (next : ℕ) (held : Bool) (t : Session D g) → IsLawfulRow row → StandsFor d t (Alone (record { row = row; past = fresh_alone next held })) → IsMadeBy d false (Some t) (kinds.LowSession row next held ∷ [])
  alone_made row next held t lawful stands =
      made_of false t (kinds.LowSession row next held ∷ []) (record {
        alone = record { row = row; past = fresh_alone next held };
        printed = [];
        stands = stands;
        leads = (Some (Alone (record { row = row; past = fresh_alone next held })), [], [], ((lawful, refl), refl), (refl, refl), refl);
        is_new = λ e. (next, held, refl);
      })

  -- ---- all sessions ----

  pub none_made : (s : Sessions D g) → s.begun.items ≡ [] → AllAreMadeBy d s []
  none_made s none = subst (λ (l : List (Session D g)). (number : ℕ) → IsMadeBy d s.is_under_way (found_at number l) (lines_of number [])) (sym none) (λ number. refl)

  -- a line that names none
  pub skip_made : (s : Sessions D g) (lines : List Line) (line : Line) → session_in line ≡ None → AllAreMadeBy d s lines → GoesAsTold d s lines line outcomes.Applied
  skip_made s lines line none all = record {
    applied = λ e number. subst (λ (ls : List Line). IsMadeBy d s.is_under_way (found_at number s.begun.items) ls) (sym (unnamed_more number lines line (ap (is_number number) none))) (all number);
    stopped = λ number role h. absurd h;
  }

  -- one is put in the place of its number
  put_made : (first last : Sessions D g) (t : Session D g) (lines : List Line) (line : Line) → last.begun.items ≡ with_begun t first.begun.items → session_in line ≡ Some (id_of t) → (last.is_under_way ≡ false → first.is_under_way ≡ false)
      → IsMadeBy d last.is_under_way (Some t) (lines_of (id_of t) lines ++ line ∷ []) → AllAreMadeBy d first lines → AllAreMadeBy d last (lines ++ line ∷ [])
  put_made first last t lines line items named back own all =
      subst (λ (l : List (Session D g)). (k : ℕ) → IsMadeBy d last.is_under_way (found_at k l) (lines_of k (lines ++ line ∷ []))) (sym items)
      (at_put d (λ k y. IsMadeBy d last.is_under_way y (lines_of k (lines ++ line ∷ []))) t first.begun.items
      (subst (λ (ls : List Line). IsMadeBy d last.is_under_way (Some t) ls) (sym (own_more (id_of t) lines line named)) own)
      (λ k apart. subst (λ (ls : List Line). IsMadeBy d last.is_under_way (found_at k first.begun.items) ls) (sym (other_more k (id_of t) lines line named apart))
      (made_on first.is_under_way last.is_under_way (found_at k first.begun.items) (lines_of k lines) back (all k))))

  -- a session begins
  pub begun_made : (first last : Sessions D g) (t : Session D g) (line : Line) → last.begun.items ≡ with_begun t first.begun.items → session_in line ≡ Some (id_of t) → (last.is_under_way ≡ false → first.is_under_way ≡ false)
      → found_at (id_of t) first.begun.items ≡ None → IsMadeBy d false (Some t) (line ∷ []) → (lines : List Line) → AllAreMadeBy d first lines → GoesAsTold d last lines line outcomes.Applied
  begun_made first last t line items named back absent own lines all =
      let none : lines_of (id_of t) lines ≡ [] = subst (λ (x : Option (Session D g)). IsMadeBy d first.is_under_way x (lines_of (id_of t) lines)) absent (all (id_of t)) in
      record {
        applied = λ e. put_made first last t lines line items named back
            (subst (λ (ls : List Line). IsMadeBy d last.is_under_way (Some t) (ls ++ line ∷ [])) (sym none) (made_on false last.is_under_way (Some t) (line ∷ []) (λ f. refl) own)) all;
        stopped = λ number role h. absurd h;
      }

  -- none begins
  pub unbegun_made : (s : Sessions D g) (lines : List Line) (line : Line) (outcome : LineOutcome) → (outcome ≡ outcomes.Applied → ⊥) → ((number : ℕ) (role : Role) → IsDeviceOutcomeOf number role outcome → found_at number s.begun.items ≡ None)
      → GoesAsTold d s lines line outcome
  unbegun_made s lines line outcome apart none = record {
    applied = λ e. absurd (apart e);
    stopped = λ number role h. alone_none (found_at number s.begun.items) (StopsAsTold lines line number) (none number role h);
  }

  -- nor does a line that can't be applied do anything
  pub refused_made : (s : Sessions D g) (lines : List Line) (line : Line) → GoesAsTold d s lines line outcomes.Refused
  refused_made s lines line = record { applied = λ e. absurd (cc); stopped = λ number role h. absurd h }

  -- one is made coarse
  coarse_one : (was way : Bool) (x t : Session D g) (session : ℕ) (lines : List Line) → was ≡ false → session ≡ id_of x → is_coarse x ≡ false → GoesOnWith d x t → ((r : Begun) → StandsFor d x r → StandsFor d t (made_coarse r))
      → IsMadeBy d was (Some x) lines → IsMadeBy d way (Some t) (lines ++ kinds.Coarse session ∷ [])
  coarse_one was way (sessions.Whole id p) (sessions.Whole other q) session lines new mine plain goes made h = tt
  coarse_one was way (sessions.Whole id p) (sessions.Alone other q) session lines new mine plain goes made h = absurd goes
  coarse_one was way (sessions.Alone id p) (sessions.Whole other q) session lines new mine plain goes made h = absurd goes
  coarse_one was way (sessions.Alone id p) (sessions.Alone other q) session lines new mine plain goes made h =
      let x : Session D g = sessions.Alone id p in
      let r = Alone h.alone in
      let after : RunningAlone = record { row = coarsened h.alone.row; past = h.alone.past } in
      let may = may_so d x r session (mine ∙ same_number d x r h.stands) h.stands ∙ ap not plain in
      record {
        alone = after;
        printed = h.printed ++ [];
        stands = made r h.stands;
        leads = lead_more new_disks None (Some r) (Some (Alone after)) lines (kinds.Coarse session) h.printed [] h.leads ((may, h.is_new new, refl), refl);
        is_new = λ e. h.is_new new;
      }

  pub coarse_made : (first last : Sessions D g) (x t : Session D g) (line : Line) (session : ℕ) → line ≡ kinds.Coarse session → is_coarse x ≡ false → GoesOnWith d x t → ((r : Begun) → StandsFor d x r → StandsFor d t (made_coarse r))
      → found_at (id_of x) first.begun.items ≡ Some x → last.begun.items ≡ with_begun t first.begun.items → session_in line ≡ Some (id_of x) → first.is_under_way ≡ false
      → (lines : List Line) → AllAreMadeBy d first lines → GoesAsTold d last lines line outcomes.Applied
  coarse_made first last x t line session is plain goes made there items named new lines all =
      let same : id_of t ≡ id_of x = same_id d x t goes in
      let mine : session ≡ id_of x = same_Some session (id_of x) (sym (ap session_in is) ∙ named) in
      let old : IsMadeBy d first.is_under_way (Some x) (lines_of (id_of x) lines) = subst (λ (y : Option (Session D g)). IsMadeBy d first.is_under_way y (lines_of (id_of x) lines)) there (all (id_of x)) in
      let own : IsMadeBy d last.is_under_way (Some t) (lines_of (id_of x) lines ++ kinds.Coarse session ∷ []) = coarse_one first.is_under_way last.is_under_way x t session (lines_of (id_of x) lines) new mine plain goes made old in
      record {
        applied = λ e. put_made first last t lines line items (named ∙ ap (λ (k : ℕ). Some k) (sym same)) (λ f. new)
            (subst (λ (k : ℕ). IsMadeBy d last.is_under_way (Some t) (lines_of k lines ++ line ∷ [])) (sym same)
            (subst (λ (l : Line). IsMadeBy d last.is_under_way (Some t) (lines_of (id_of x) lines ++ l ∷ [])) (sym is) own)) all;
        stopped = λ number role h. absurd h;
      }

  -- ---- a line of one that runs ----

  module _ (line : Line) (some : line ≢ kinds.Skip) (held later : List ℕ) (old new : Option (List ℕ)) (outcome : LineOutcome) where
    -- it leads on
    goes_on : (way : Bool) (s : RunningAlone) (t : Session D g) (lines : List Line) (printed : List Event) → way ≡ true → LeadTo new_disks None lines (Some (Alone s)) printed
        → (more : List Event) (stop : Option Stop) → SessionApplies d (Alone s) line t more stop → outcome ≡ outcome_of (id_of t) stop → outcome ≡ outcomes.Applied → IsMadeBy d way (Some t) (lines ++ line ∷ [])
    goes_on way s t lines printed under leads more None (after, (apt, (q, step, is)), stands) e applied =
        let next : RunningAlone = record { row = s.row; past = q } in
        made_of way t (lines ++ line ∷ []) (record {
          alone = next;
          printed = printed ++ more;
          stands = subst (λ (a : Option Begun). StandsForRunning d (Some t) a) is stands;
          leads = lead_more new_disks None (Some (Alone s)) (Some (Alone next)) lines line printed more leads (leads_from new_disks (Alone s) line (Some (Alone next)) more some (apt, (q, step, refl)));
          is_new = λ f. absurd (cc (sym under ∙ f));
        })
    goes_on way s t lines printed under leads more (Some stops.Line) applies e applied = absurd (cc)
    goes_on way s t lines printed under leads more (Some (stops.Device role count)) applies e applied = absurd (cc)
    goes_on way s t lines printed under leads more (Some (stops.Full end n size)) applies e applied = absurd (cc)
    goes_on way s t lines printed under leads more (Some (stops.Disk role why)) applies e applied = absurd applies

    goes_so : (way : Bool) (s : RunningAlone) (t : Session D g) (lines : List Line) (printed : List Event) → way ≡ true → LeadTo new_disks None lines (Some (Alone s)) printed
        → GoesSo d (Alone s) line t held later old new outcome → outcome ≡ outcomes.Applied → IsMadeBy d way (Some t) (lines ++ line ∷ [])
    goes_so way s t lines printed under leads (more, stop, applies, inl (e, w)) applied = goes_on way s t lines printed under leads more stop applies e applied
    goes_so way s t lines printed under leads (more, stop, applies, inr (e, w)) applied = absurd (cc)

    -- or it stops, as it is told
    stops_on : (s : RunningAlone) (t : Session D g) (lines : List Line) (printed : List Event) → LeadTo new_disks None (lines_of (id_of t) lines) (Some (Alone s)) printed
        → (more : List Event) (stop : Option Stop) → SessionApplies d (Alone s) line t more stop → outcome ≡ outcome_of (id_of t) stop → (number : ℕ) (role : Role) → IsDeviceOutcomeOf number role outcome → StopsAsTold lines line (id_of t)
    stops_on s t lines printed leads more None applies e number role h = absurd (subst (IsDeviceOutcomeOf number role) e h)
    stops_on s t lines printed leads more (Some stops.Line) applies e number role h = absurd (subst (IsDeviceOutcomeOf number role) e h)
    stops_on s t lines printed leads more (Some (stops.Full end n size)) applies e number role h = absurd (subst (IsDeviceOutcomeOf number role) e h)
    stops_on s t lines printed leads more (Some (stops.Disk other why)) applies e number role h = absurd applies
    stops_on s t lines printed leads more (Some (stops.Device other count)) (after, (apt, (q, step, is, led)), come) e number role h =
        let low : other ≡ roles.Low = cc in
        record {
          alone = s;
          printed = printed;
          leads = leads;
          after = after;
          last = more;
          stops = subst (λ (r : Role). Stops (Some (Alone s)) line after more (faults.Device (id_of t) r)) low (apt, (q, step, is, led));
        }

    stops_so : (s : RunningAlone) (t : Session D g) (lines : List Line) (printed : List Event) → LeadTo new_disks None (lines_of (id_of t) lines) (Some (Alone s)) printed
        → GoesSo d (Alone s) line t held later old new outcome → (number : ℕ) (role : Role) → IsDeviceOutcomeOf number role outcome → StopsAsTold lines line (id_of t)
    stops_so s t lines printed leads (more, stop, applies, inl (e, w)) number role h = stops_on s t lines printed leads more stop applies e number role h
    stops_so s t lines printed leads (more, stop, applies, inr (e, w)) number role h = absurd (subst (IsDeviceOutcomeOf number role) e h)

    module _ (way : Bool) (lines : List Line) where
      one_applied : (was : Bool) (x t : Session D g) → GoesOnWith d x t → way ≡ true → IsMadeBy d was (Some x) (lines_of (id_of t) lines) → ((s : RunningAlone) → StandsFor d x (Alone s) → GoesSo d (Alone s) line t held later old new outcome)
          → outcome ≡ outcomes.Applied → IsMadeBy d way (Some t) (lines_of (id_of t) lines ++ line ∷ [])
      one_applied was (sessions.Whole id p) (sessions.Whole other q) goes under h does applied = tt
      one_applied was (sessions.Whole id p) (sessions.Alone other q) goes under h does applied = absurd goes
      one_applied was (sessions.Alone id p) t goes under h does applied = goes_so way h.alone t (lines_of (id_of t) lines) h.printed under h.leads (does h.alone h.stands) applied

      one_stopped : (was : Bool) (x t : Session D g) → GoesOnWith d x t → IsMadeBy d was (Some x) (lines_of (id_of t) lines) → ((s : RunningAlone) → StandsFor d x (Alone s) → GoesSo d (Alone s) line t held later old new outcome)
          → (number : ℕ) (role : Role) → IsDeviceOutcomeOf number role outcome → IfAlone (Some t) (StopsAsTold lines line (id_of t))
      one_stopped was (sessions.Whole id p) (sessions.Whole other q) goes h does number role failed = tt
      one_stopped was (sessions.Whole id p) (sessions.Alone other q) goes h does number role failed = absurd goes
      one_stopped was (sessions.Alone id p) (sessions.Whole other q) goes h does number role failed = absurd goes
      one_stopped was (sessions.Alone id p) (sessions.Alone other q) goes h does number role failed = stops_so h.alone (sessions.Alone other q) lines h.printed h.leads (does h.alone h.stands) number role failed

    pub goes_made : (first last : Sessions D g) (x t : Session D g) → GoesOnWith d x t → found_at (id_of x) first.begun.items ≡ Some x → last.begun.items ≡ with_begun t first.begun.items → session_in line ≡ Some (id_of x)
        → (outcome ≡ outcomes.Applied → last.is_under_way ≡ true) → ((s : RunningAlone) → StandsFor d x (Alone s) → GoesSo d (Alone s) line t held later old new outcome)
        → ((number : ℕ) (role : Role) → IsDeviceOutcomeOf number role outcome → id_of t ≡ number)
        → (lines : List Line) → AllAreMadeBy d first lines → GoesAsTold d last lines line outcome
    goes_made first last x t goes there items named under does device lines all =
        let same : id_of t ≡ id_of x = same_id d x t goes in
        let was : IsMadeBy d first.is_under_way (Some x) (lines_of (id_of t) lines) =
        subst (λ (k : ℕ). IsMadeBy d first.is_under_way (Some x) (lines_of k lines)) (sym same) (subst (λ (y : Option (Session D g)). IsMadeBy d first.is_under_way y (lines_of (id_of x) lines)) there (all (id_of x))) in
        let here : found_at (id_of t) last.begun.items ≡ Some t = ap (λ (l : List (Session D g)). found_at (id_of t) l) items ∙ found_put t first.begun.items in
        record {
          applied = λ e. put_made first last t lines line items (named ∙ ap (λ (k : ℕ). Some k) (sym same)) (λ f. absurd (cc (sym (under e) ∙ f)))
              (one_applied last.is_under_way lines first.is_under_way x t goes (under e) was does e) all;
          stopped = λ number role h. subst (λ (k : ℕ). IfAlone (found_at k last.begun.items) (StopsAsTold lines line k)) (device number role h)
              (subst (λ (y : Option (Session D g)). IfAlone y (StopsAsTold lines line (id_of t))) (sym here) (one_stopped last.is_under_way lines first.is_under_way x t goes was does number role h));
        }

-- ---- a script ----

-- these lines were read, and make the sessions what they are; what is left of the script is `rest`
pub record MadeSoFar {D : Type 0} {g : Ghosts D} (d : Meaning D) (s : Sessions D g) (all rest : Option (List ℕ)) : Type 0 where
  pub lines : List Line
  pub spelled : AreLines all lines rest
  pub made : AllAreMadeBy d s lines

-- the next line tells the fault
pub tells_so : {D : Type 0} {g : Ghosts D} (d : Meaning D) (s : Sessions D g) (all from rest left : Option (List ℕ)) (line : Line) → (m : MadeSoFar d s all from) → AreLines from (line ∷ []) rest → IsNear from left → (number : ℕ)
    → StopsAsTold m.lines line number → TellsFault all left
tells_so d s all from rest left line m next taken number told = record { lines = m.lines; from = from; spelled = m.spelled; line = line; rest = rest; next = next; taken = taken; session = number; told = told }

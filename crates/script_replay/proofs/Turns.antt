-- What becomes of a line of a script: it is skipped, it begins a session, or a session goes on by it.
use Rattle.std.proofs.Common.{◌≡◌, ◌≢◌, ℕ, ◌==◌, max, length, Bool, true, false, not, List, [], ◌++◌, slice_get, set, Option, None, Some, Ok, Err, inl, inr, refl, sym, ap, ◌∙◌, subst}
use Rattle.std.specs.Prelude.{◌⊎◌, ◌||◌}
use Rattle.std.specs.List.{insert}
use Rattle.std.proofs.lemmas.Bool.{eqb-true, eqb-false}
use Rattle.std.proofs.lemmas.Option.{same_Some}
use Rattle.disk_model.specs.Disk.{Meaning}
use Rattle.disk_model.specs.Shelf.{Holdings, IsOut}
use Rattle.disk_model.specs.declared.disk.Disk.{Ghosts}
use Rattle.disk_model.specs.declared.name.Role.{Role}
use Rattle.disk_model.specs.declared.name.Role.TheVariants as roles
use Rattle.pump_frame.specs.Rows.{IsLawfulRow}
use Rattle.pump_frame.specs.declared.row.SessionRow.{SessionRow}
use Rattle.pump_link.specs.Causes.{AppendsPrefix}
use Rattle.script_reader.specs.declared.event.Event.{Event}
use Rattle.script_reader.specs.declared.fault.Fault.{Fault}
use Rattle.script_reader.specs.declared.fault.Fault.TheVariants as faults
use Rattle.script_reader.specs.declared.line.Line.{Line}
use Rattle.script_reader.specs.declared.line.Line.TheVariants as lines
use Rattle.script_reader.specs.Transcript.{text}
use Rattle.script_reader.specs.Openings.{Openings, new_disks}
use Rattle.script_reader.specs.Alone.{fresh_alone}
use Rattle.script_reader.specs.Scripts.{Running, RunningAlone, Begun, Whole, Alone, GoesOn, made_coarse, may_coarsen, IsRefused, Stops}
use Rattle.script_reader.specs.Sessions.{Sessions as Script, session_number, session_in, begins_session, stands_first, moment_of, session_at, with_session, led_to, is_in_turn, RefusesOne, ScriptRefuses, StopsOne, ScriptStops}
use Rattle.script_reader.proofs.Apart.{session_at-own, session_at-other, found_number}
use Rattle.two_worlds.specs.declared.applied.Stop.{Stop}
use Rattle.two_worlds.specs.declared.applied.Stop.TheVariants as stops
use Rattle.script_replay.specs.declared.session.Session.{Session}
use Rattle.script_replay.specs.declared.session.Session.TheVariants as sessions
use Rattle.script_replay.specs.declared.sessions.Sessions.{Sessions}
use Rattle.script_replay.specs.declared.outcome.LineOutcome.{LineOutcome}
use Rattle.script_replay.specs.declared.outcome.LineOutcome.TheVariants as outcomes
use Rattle.script_replay.specs.Failing.{FailsAt}
use Rattle.script_replay.specs.Lending.{IsOutAt}
use Rattle.script_replay.specs.Shelves.{Places, disk_name, reading_in, reading_at, HasFound, IsRefusedFor, LeavesSession, LeavesOtherSessions, SparesSession, ReadiesSession, AllAreBack}
use Rattle.script_replay.specs.Sessions.{id_of, is_coarse, IsUp, StandsFor, StandsForRunning, HasComeTo, IsCutShort, SessionApplies, LendsNew, Lends, GoesOnWith, FailedWith, HasFailed, found_at, with_begun, place_in, is_of_number, IsPlaced, Rise, EachStandsFor, AllStandFor, AllHaveComeTo, AllLend}
use Rattle.script_replay.specs.Outputs.{Gathers}
use Rattle.script_replay.specs.Runners.{AreUp, AllAreUp, outcome_of, Finds, LeadsFrom, OneLeadsFrom, IsNotOpened, Begins, GoesSo, BeginsNone, TurnGoes, TurnStops, IsInStep, BeginDoes, TurnDoes, HandsOver, AllHandOver, IsDeviceOutcomeOf, DeviceFails}
use Rattle.script_replay.proofs.Coarse.{coarse_leads, may_so}
use Rattle.script_replay.proofs.Gathered.{gathers_none}
use Rattle.script_replay.proofs.Going.{leads_from}
use Rattle.script_replay.proofs.Numbered.{found_id, found_put, others_put, rise_put, found_there, none_there, set_there, insert_there, same_number, stands_at, each_put, each_same}
use Rattle.script_replay.proofs.Shelving.{out_still, rose_more}
use Rattle.script_replay.proofs.Stops.{came_all, stop_number}

-- ---- a session goes on ----

finds_same : (before : Places) (s : Begun) (line : Line) (after : Option Begun) (printed : List Event) (o : Openings) → GoesOn s line after printed → Finds before o (Some s) → Finds before o after
finds_same before (Whole s) line after printed o (timely, (q, step, is)) h = subst (λ (a : Option Begun). Finds before o a) (sym is) h
finds_same before (Alone s) line after printed o (timely, (q, step, is)) h = subst (λ (a : Option Begun). Finds before o a) (sym is) tt

leads_on : (before : Places) (line : Line) → line ≢ lines.Skip → (s : Begun) (after : Option Begun) (printed : List Event) → GoesOn s line after printed → LeadsFrom before (Some s) line after printed
leads_on before line some s after printed h = λ o found new. (leads_from o s line after printed some h, finds_same before s line after printed o h found)

pub gone_on : {D : Type 0} {g : Ghosts D} (d : Meaning D) (t : Session D g) (s : Begun) (line : Line) (printed : List Event) (stop : Option Stop) (held later : List ℕ) (old new : Option (List ℕ)) (outcome : LineOutcome) (id : ℕ)
    → SessionApplies d s line t printed stop → Gathers held later old new (text printed) → id ≡ id_of t → outcome ≡ outcome_of id stop → GoesSo d s line t held later old new outcome
gone_on d t s line printed stop held later old new outcome id h w same is =
    (printed, stop, h, inl (is ∙ ap (λ (i : ℕ). outcome_of i stop) same, w))

-- it could not be written
pub not_written : {D : Type 0} {g : Ghosts D} (d : Meaning D) (t : Session D g) (s : Begun) (line : Line) (printed : List Event) (stop : Option Stop) (held : List ℕ) (later : List ℕ) (old new : Option (List ℕ))
    → SessionApplies d s line t printed stop → AppendsPrefix old new (held ++ text printed) → GoesSo d s line t held later old new outcomes.Unwritten
not_written d t s line printed stop held later old new h p = (printed, stop, h, inr (refl, p))

-- it is up unless it stops
pub up_so : {D : Type 0} {g : Ghosts D} (t : Session D g) (id : ℕ) (stop : Option Stop) (outcome : LineOutcome) → (stop ≡ None → IsUp t) → outcome ≡ outcome_of id stop → outcome ≡ outcomes.Applied → IsUp t
up_so t id None outcome up is e = up refl
up_so t id (Some stops.Line) outcome up is e = cc
up_so t id (Some (stops.Device role count)) outcome up is e = cc
up_so t id (Some (stops.Full end length size)) outcome up is e = cc
up_so t id (Some (stops.Disk role why)) outcome up is e = cc

-- memory is not wanting
pub remembers : (id : ℕ) (stop : Option Stop) (outcome : LineOutcome) → outcome ≡ outcome_of id stop → outcome ≡ outcomes.Memory → ⊥
remembers id None outcome is e = cc
remembers id (Some stops.Line) outcome is e = cc
remembers id (Some (stops.Device role count)) outcome is e = cc
remembers id (Some (stops.Full end length size)) outcome is e = cc
remembers id (Some (stops.Disk role why)) outcome is e = cc

-- it stops for a device
pub failed_so : {D : Type 0} {g : Ghosts D} (d : Meaning D) (s t : Session D g) (id : ℕ) (stop : Option Stop) (outcome : LineOutcome) → ((role : Role) (count : ℕ) → stop ≡ Some (stops.Device role count) → FailedWith d s t role)
    → id ≡ id_of t → outcome ≡ outcome_of id stop → (number : ℕ) (role : Role) → IsDeviceOutcomeOf number role outcome → (id_of t ≡ number) × FailedWith d s t role
failed_so d s t id None outcome failed same is number role h = absurd (subst (IsDeviceOutcomeOf number role) is h)
failed_so d s t id (Some stops.Line) outcome failed same is number role h = absurd (subst (IsDeviceOutcomeOf number role) is h)
failed_so d s t id (Some (stops.Device other count)) outcome failed same is number role h =
    let of = subst (IsDeviceOutcomeOf number role) is h in (sym same ∙ of.0, subst (FailedWith d s t) of.1 (failed other count refl))
failed_so d s t id (Some (stops.Full end length size)) outcome failed same is number role h = absurd (subst (IsDeviceOutcomeOf number role) is h)
failed_so d s t id (Some (stops.Disk other why)) outcome failed same is number role h = absurd (subst (IsDeviceOutcomeOf number role) is h)

-- ---- the line that begins one ----

pub begins_alone : {D : Type 0} {g : Ghosts D} (d : Meaning D) (before : Places) (row : SessionRow) (next : ℕ) (held : Bool) (t : Session D g) → IsLawfulRow row
    → StandsFor d t (Alone (record { row = row; past = fresh_alone next held })) → Begins d before before (lines.LowSession row next held) (Ok t)
begins_alone d before row next held t lawful stands = (Alone (record { row = row; past = fresh_alone next held }), (new_disks, ((lawful, refl), refl), tt), stands)

-- ---- all sessions ----

-- a line that names a session, on one that is there
refuses_named : (t : Script) (line : Line) (number : ℕ) → session_in line ≡ Some number → (is_in_turn t line ≡ false) ⊎ IsRefused (session_at number t.begun) line → ScriptRefuses t line
refuses_named t line number named h = subst (λ (at : Option ℕ). RefusesOne t line at) (sym named) h

stops_named : (t : Script) (line : Line) (number : ℕ) (u : Script) (printed : List Event) (fault : Fault) → session_in line ≡ Some number → StopsOne t line (Some number) u printed fault → ScriptStops t line u printed fault
stops_named t line number u printed fault named h = subst (λ (at : Option ℕ). StopsOne t line at u printed fault) (sym named) h

leads_named : (before : Places) (t : Script) (line : Line) (number : ℕ) (u : Script) (printed : List Event) → session_in line ≡ Some number → OneLeadsFrom before t line (Some number) u printed → OneLeadsFrom before t line (session_in line) u printed
leads_named before t line number u printed named h = subst (λ (at : Option ℕ). OneLeadsFrom before t line at u printed) (sym named) h

none_running : {D : Type 0} (g : Ghosts D) (d : Meaning D) (running : Option Begun) → StandsForRunning {g = g} d None running → running ≡ None
none_running g d None h = refl
none_running g d (Some r) h = absurd h

module _ {D : Type 0} {g : Ghosts D} (d : Meaning D) where
  -- the disks of one that goes on
  lends_on : (before now : Places) (number : ℕ) (s t : Session D g) → GoesOnWith d s t → Lends d before now number (Some s) → Lends d before now number (Some t)
  lends_on before now number (sessions.Whole id p) (sessions.Whole other q) h l =
      subst (λ (i : ℕ). Lends d before now number (Some (sessions.Whole i q))) (sym h.0) (λ role. out_still now id role _ _ (h.1 role) (l role))
  lends_on before now number (sessions.Alone id p) (sessions.Alone other q) h l = l
  lends_on before now number (sessions.Whole id p) (sessions.Alone other q) h l = absurd h
  lends_on before now number (sessions.Alone id p) (sessions.Whole other q) h l = absurd h

  failed_on : (before now : Places) (number : ℕ) (s t : Session D g) (role : Role) → GoesOnWith d s t → FailedWith d s t role → Lends d before now number (Some s) → HasFailed d now role (Some t)
  failed_on before now number (sessions.Whole id p) (sessions.Whole other q) role h f l =
      let out : IsOutAt now id role _ = l role in
      subst (λ (i : ℕ). HasFailed d now role (Some (sessions.Whole i q))) (sym h.0) (out.0, out.1, rose_more out.0 _ _ out.2 f)
  failed_on before now number (sessions.Alone id p) (sessions.Alone other q) role h f l = tt
  failed_on before now number (sessions.Whole id p) (sessions.Alone other q) role h f l = absurd h
  failed_on before now number (sessions.Alone id p) (sessions.Whole other q) role h f l = absurd h

  pub same_id : (s t : Session D g) → GoesOnWith d s t → id_of t ≡ id_of s
  same_id (sessions.Whole id p) (sessions.Whole other q) h = h.0
  same_id (sessions.Alone id p) (sessions.Alone other q) h = h
  same_id (sessions.Whole id p) (sessions.Alone other q) h = absurd h
  same_id (sessions.Alone id p) (sessions.Whole other q) h = absurd h

  -- what the script has, where a session is there
  running_there : (s : Session D g) (running : Option Begun) → StandsForRunning d (Some s) running → (r : Begun) × (running ≡ Some r) × StandsFor d s r
  running_there s (Some r) h = (r, refl, h)
  running_there s None h = absurd h

  -- one is put in the place of its number: of each number this holds still, where it holds of the one
  pub at_put : (P : ℕ → Option (Session D g) → Type 0) (t : Session D g) (xs : List (Session D g)) → P (id_of t) (Some t) → ((k : ℕ) → (k ≡ id_of t → ⊥) → P k (found_at k xs)) → (k : ℕ) → P k (found_at k (with_begun t xs))
  at_put P t xs own others k = elim (k == id_of t) as (λ b. (k == id_of t) ≡ b → P k (found_at k (with_begun t xs))) [
    | true ↦ λ e.
        let is = sym (eqb-true k (id_of t) e) in
        subst (λ (n : ℕ). P n (found_at n (with_begun t xs))) is (subst (λ (x : Option (Session D g)). P (id_of t) x) (sym (found_put t xs)) own)
    | false ↦ λ e.
        let apart = eqb-false k (id_of t) e in
        subst (λ (x : Option (Session D g)). P k x) (sym (others_put k t xs apart)) (others k apart)
  ] refl

  -- .. and of what the script has
  both_put : (P : Option (Session D g) → Option Begun → Type 0) (t : Session D g) (s : Begun) (xs : List (Session D g)) (ys : List Begun) → id_of t ≡ session_number s → P (Some t) (Some s)
      → ((k : ℕ) → P (found_at k xs) (session_at k ys)) → (k : ℕ) → P (found_at k (with_begun t xs)) (session_at k (with_session s ys))
  both_put P t s xs ys same own others = at_put (λ k x. P x (session_at k (with_session s ys))) t xs
      (subst (λ (y : Option Begun). P (Some t) y) (sym (session_at-own (id_of t) s ys (sym same))) own)
      (λ k apart. subst (λ (y : Option Begun). P (found_at k xs) y) (sym (session_at-other k s ys (λ e. apart (sym e ∙ sym same)))) (others k))

-- ---- a line of a session that is there ----

pub up_there : {D : Type 0} {g : Ghosts D} (number place : ℕ) (x : Session D g) (begun : List (Session D g)) → IsPlaced number place begun true → slice_get begun place ≡ Some x → AllAreUp begun → IsUp x
up_there {D} {g} number place x begun placed at ups =
    let there = found_there number begun (subst (λ (k : ℕ). is_of_number number (slice_get begun k) ≡ true) placed.0 placed.1) ∙ ap (λ (k : ℕ). slice_get begun k) (sym placed.0) ∙ at in
    subst (λ (o : Option (Session D g)). AreUp o) there (ups number)

module _ {D : Type 0} {g : Ghosts D} (d : Meaning D) (line : Line) (number place : ℕ) (named : session_in line ≡ Some number) (x : Session D g) (t : Session D g) (goes : GoesOnWith d x t) (first : Sessions D g)
    (placed : IsPlaced number place first.begun.items true) (at : slice_get first.begun.items place ≡ Some x) (rise : Rise first.begun.items) where
  abbrev xs : List (Session D g)
  xs = first.begun.items

  pub id_x : id_of x ≡ number
  id_x = eqb-true (id_of x) number (subst (λ (o : Option (Session D g)). is_of_number number o ≡ true) at placed.1)

  id_t : id_of t ≡ number
  id_t = same_id d x t goes ∙ id_x

  there : found_at number first.begun.items ≡ Some x
  there = found_there number first.begun.items (subst (λ (k : ℕ). is_of_number number (slice_get first.begun.items k) ≡ true) placed.0 placed.1)
      ∙ ap (λ (k : ℕ). slice_get first.begun.items k) (sym placed.0) ∙ at

  there_t : found_at (id_of t) first.begun.items ≡ Some x
  there_t = ap (λ (k : ℕ). found_at k first.begun.items) id_t ∙ there

  pub there_own : found_at (id_of x) first.begun.items ≡ Some x
  there_own = ap (λ (k : ℕ). found_at k first.begun.items) id_x ∙ there

  pub is_put : set first.begun.items place t ≡ with_begun t first.begun.items
  is_put =
      let here : place ≡ place_in (id_of t) first.begun.items = placed.0 ∙ ap (λ (k : ℕ). place_in k first.begun.items) (sym id_t) in
      ap (λ (k : ℕ). set first.begun.items k t) here
      ∙ set_there t first.begun.items (subst (λ (k : ℕ). is_of_number k (slice_get first.begun.items (place_in k first.begun.items)) ≡ true) (sym id_t)
      (subst (λ (k : ℕ). is_of_number number (slice_get first.begun.items k) ≡ true) placed.0 placed.1))

  lends_put : (before now : Places) → AllLend d before now first.begun.items → AllLend d before now (with_begun t first.begun.items)
  lends_put before now lends = at_put d (λ k y. Lends d before now k y) t first.begun.items
      (subst (λ (k : ℕ). Lends d before now k (Some t)) (sym id_t) (lends_on d before now number x t goes (subst (λ (o : Option (Session D g)). Lends d before now number o) there (lends number))))
      (λ k apart. lends k)

  up_put : IsUp t → AllAreUp first.begun.items → AllAreUp (with_begun t first.begun.items)
  up_put up ups = at_put d (λ k y. AreUp y) t first.begun.items up (λ k apart. ups k)

  failed_put : (before now : Places) → AllLend d before now first.begun.items → (k : ℕ) (role : Role) → (id_of t ≡ k) × FailedWith d x t role → HasFailed d now role (found_at k (with_begun t first.begun.items))
  failed_put before now lends k role (is, failed) =
      subst (λ (n : ℕ). HasFailed d now role (found_at n (with_begun t first.begun.items))) is
      (subst (λ (o : Option (Session D g)). HasFailed d now role o) (sym (found_put t first.begun.items))
      (failed_on d before now number x t role goes failed (subst (λ (o : Option (Session D g)). Lends d before now number o) there (lends number))))

  module _ (last : Sessions D g) (items : last.begun.items ≡ with_begun t first.begun.items) where
    pub lends_last : (before now : Places) → AllLend d before now first.begun.items → AllLend d before now last.begun.items
    lends_last before now lends = subst (λ (l : List (Session D g)). AllLend d before now l) (sym items) (lends_put before now lends)

    pub up_last : IsUp t → AllAreUp first.begun.items → AllAreUp last.begun.items
    up_last up ups = subst (λ (l : List (Session D g)). AllAreUp l) (sym items) (up_put up ups)

    pub failed_last : (before now : Places) → AllLend d before now first.begun.items → (k : ℕ) (role : Role) → (id_of t ≡ k) × FailedWith d x t role → HasFailed d now role (found_at k last.begun.items)
    failed_last before now lends k role h = subst (λ (l : List (Session D g)). HasFailed d now role (found_at k l)) (sym items) (failed_put before now lends k role h)

    pub rise_last : Rise last.begun.items
    rise_last = subst (λ (l : List (Session D g)). Rise l) (sym items) (rise_put t first.begun.items rise)

    module _ (before now : Places) (lends : AllLend d before now first.begun.items) (script : Script) (stand : AllStandFor d first script) (turn : is_in_turn script line ≡ true) (some : line ≢ lines.Skip)
        (r : Begun) (running : session_at number script.begun ≡ Some r) where
      id_r : session_number r ≡ number
      id_r = found_number number script.begun r running

      come_put : (s : Begun) → session_number s ≡ number → HasComeTo d (Some t) (Some s) → AllHaveComeTo d last.begun.items (with_session s script.begun)
      come_put s same come =
          subst (λ (l : List (Session D g)). AllHaveComeTo d l (with_session s script.begun)) (sym items)
          (both_put d (HasComeTo d) t s first.begun.items script.begun (id_t ∙ sym same) come (came_all d first.begun.items script.begun stand.each))

      stops_so : (printed : List Event) (fault : Fault) (after : Option Begun) → Stops (Some r) line after printed fault → HasComeTo d (Some t) after → TurnStops d before now script line last.begun.items printed fault
      stops_so printed fault None h come = absurd come
      stops_so printed fault (Some s) h come =
          let stops : Stops (session_at number script.begun) line (Some s) printed fault = subst (λ (y : Option Begun). Stops y line (Some s) printed fault) (sym running) h in
          inl (
            led_to script line s,
            stops_named script line number (led_to script line s) printed fault named (turn, (s, stops, refl)),
            come_put s (stop_number number script line s printed fault stops) come,
            lends_last before now lends,
          )

      cut_so : (y : Begun) (printed : List Event) (role : Role) → r ≡ y → IsCutShort d y line t printed role → TurnStops d before now script line last.begun.items printed (faults.Device (id_of t) role)
      cut_so (Whole s) printed role is (timely, (q, breaks, id, come)) =
          let mine : s.row.id ≡ number = ap session_number (sym is) ∙ id_r in
          inr (inl (
            record {
              in_turn = turn;
              session = s;
              named = named ∙ ap (λ (k : ℕ). Some k) (sym mine);
              there = ap (λ (k : ℕ). session_at k script.begun) mine ∙ running ∙ ap (λ (z : Begun). Some z) is;
              timely = timely;
              role = role;
              past = q;
              breaks = breaks;
            },
            ap (λ (i : ℕ). faults.Device i role) id,
            come_put (Whole (record { row = s.row; past = q })) mine come,
            lends_last before now lends,
          ))
      cut_so (Alone s) printed role is (after, stops, come) = stops_so printed (faults.Device (id_of t) role) after (subst (λ (y : Begun). Stops (Some y) line after printed (faults.Device (id_of t) role)) (sym is) stops) come

      applied_so : (printed : List Event) (s : Begun) → LeadsFrom before (Some r) line (Some s) printed → StandsFor d t s → TurnGoes d before now script line last.begun.items printed outcomes.Applied
      applied_so printed s leads h =
          let there : LeadsFrom before (session_at number script.begun) line (Some s) printed =
          subst (λ (y : Option Begun). LeadsFrom before y line (Some s) printed) (sym running) leads in (
            led_to script line s,
            leads_named before script line number (led_to script line s) printed named (turn, (s, there, refl)),
            subst (λ (l : List (Session D g)). EachStandsFor d l (with_session s script.begun)) (sym items) (each_put d t s first.begun.items script.begun h stand.each),
            lends_last before now lends,
          )

      in_step : (s : Begun) → StandsFor d t s → ((s : Begun) → StandsFor d t s → last.moment ≡ max first.moment (moment_of s)) → last.is_under_way ≡ (first.is_under_way || not (stands_first line)) → IsInStep last (led_to script line s)
      in_step s h moment under_way = (moment s h ∙ ap (λ (m : ℕ). max m (moment_of s)) stand.moment, under_way ∙ ap (λ (b : Bool). b || not (stands_first line)) stand.under_way)

      refused_so : (printed : List Event) → IsRefused (Some r) line → printed ≡ [] → StandsFor d t r → TurnGoes d before now script line last.begun.items printed outcomes.Refused
      refused_so printed h silent stands = (
        refuses_named script line number named (inr (subst (λ (y : Option Begun). IsRefused y line) (sym running) h)),
        silent,
        subst (λ (l : List (Session D g)). EachStandsFor d l script.begun) (sym items)
            (each_same d t r first.begun.items script.begun x rise there_t (ap (λ (k : ℕ). session_at k script.begun) id_t ∙ running) stands stand.each),
        lends_last before now lends,
      )

      goes_so : (printed : List Event) (stop : Option Stop) → SessionApplies d r line t printed stop → TurnGoes d before now script line last.begun.items printed (outcome_of (id_of t) stop)
      goes_so printed None (None, goes, h) = absurd h
      goes_so printed None (Some s, goes, h) = applied_so printed s (leads_on before line some r (Some s) printed goes) h
      goes_so printed (Some stops.Line) h = refused_so printed h.0 h.1 h.2
      goes_so printed (Some (stops.Device role count)) h = cut_so r printed role refl h
      goes_so printed (Some (stops.Disk role why)) h = absurd h
      goes_so printed (Some (stops.Full end n size)) h = stops_so printed (faults.Full (id_of t) end n size) h.0 h.1 h.2

      -- what this line leads on is kept in step
      abbrev Moves : LineOutcome → Type 0
      Moves outcome = outcome ≡ outcomes.Applied → ((s : Begun) → StandsFor d t s → last.moment ≡ max first.moment (moment_of s)) × (last.is_under_way ≡ (first.is_under_way || not (stands_first line)))

      does_stop : (held later : List ℕ) (old new : Option (List ℕ)) (printed : List Event) (stop : Option Stop) → SessionApplies d r line t printed stop → Gathers held later old new (text printed)
          → Moves (outcome_of (id_of t) stop) → TurnDoes d before now script line last held later old new (outcome_of (id_of t) stop)
      unfolding applied_so
      does_stop held later old new printed None (None, goes, h) w moves = absurd h
      does_stop held later old new printed None (Some s, goes, h) w moves = let m = moves refl in ((printed, applied_so printed s (leads_on before line some r (Some s) printed goes) h, w), in_step s h m.0 m.1)
      does_stop held later old new printed (Some stops.Line) h w moves = (printed, goes_so printed (Some stops.Line) h, w)
      does_stop held later old new printed (Some (stops.Device role count)) h w moves = (printed, goes_so printed (Some (stops.Device role count)) h, w)
      does_stop held later old new printed (Some (stops.Disk role why)) h w moves = absurd h
      does_stop held later old new printed (Some (stops.Full end n size)) h w moves = (printed, goes_so printed (Some (stops.Full end n size)) h, w)

      does_so : (held later : List ℕ) (old new : Option (List ℕ)) (outcome : LineOutcome) → Moves outcome → GoesSo d r line t held later old new outcome → TurnDoes d before now script line last held later old new outcome
      does_so held later old new outcome moves (printed, stop, h, inl (is, w)) =
          subst (λ (o : LineOutcome). TurnDoes d before now script line last held later old new o) (sym is)
          (does_stop held later old new printed stop h w (subst Moves is moves))
      does_so held later old new outcome moves (printed, stop, h, inr (is, p)) =
          subst (λ (o : LineOutcome). TurnDoes d before now script line last held later old new o) (sym is) (printed, outcome_of (id_of t) stop, goes_so printed stop h, p)

      -- the line makes it coarse
      coarsens : (session : ℕ) → line ≡ lines.Coarse session → is_coarse x ≡ false → StandsFor d x r → LeadsFrom before (Some r) line (Some (made_coarse r)) []
      coarsens session is plain stands =
          let mine : session ≡ number = same_Some session number (sym (ap session_in is) ∙ named) in
          let may = may_so d x r session (mine ∙ sym id_r) stands ∙ ap not plain in
          subst (λ (l : Line). LeadsFrom before (Some r) l (Some (made_coarse r)) []) (sym is) (coarse_leads before r session may)

      coarse_so : LeadsFrom before (Some r) line (Some (made_coarse r)) [] → StandsFor d t (made_coarse r) → ((s : Begun) → StandsFor d t s → last.moment ≡ max first.moment (moment_of s))
          → last.is_under_way ≡ (first.is_under_way || not (stands_first line)) → BeginDoes d before now script line last outcomes.Applied
      unfolding applied_so
      coarse_so leads h moment under_way = (applied_so [] (made_coarse r) leads h, in_step (made_coarse r) h moment under_way)

    -- so of a line that makes it coarse, which it was not
    pub coarse_does : (session : ℕ) → line ≡ lines.Coarse session → is_coarse x ≡ false → ((r : Begun) → StandsFor d x r → StandsFor d t (made_coarse r))
        → ((s : Begun) → StandsFor d t s → last.moment ≡ max first.moment (moment_of s)) → last.is_under_way ≡ (first.is_under_way || not (stands_first line))
        → (before now : Places) → AllLend d before now first.begun.items → (script : Script) → AllStandFor d first script → is_in_turn script line ≡ true → BeginDoes d before now script line last outcomes.Applied
    coarse_does session is plain made moment under_way before now lends script stand turn =
        let h = stands_at d number first.begun.items script.begun stand.each in
        let r = running_there d x (session_at number script.begun) (subst (λ (o : Option (Session D g)). StandsForRunning d o (session_at number script.begun)) there h) in
        let some : line ≢ lines.Skip = λ e. cc (sym e ∙ is) in
        coarse_so before now lends script stand turn some r.0 r.1 (coarsens before now lends script stand turn some r.0 r.1 session is plain r.2) (made r.0 r.2) moment under_way

    -- what the line does
    module _ (before now : Places) (lends : AllLend d before now first.begun.items) (script : Script) (stand : AllStandFor d first script) (turn : is_in_turn script line ≡ true) (some : line ≢ lines.Skip) where
      pub line_does : (held later : List ℕ) (old new : Option (List ℕ)) (outcome : LineOutcome)
          → (outcome ≡ outcomes.Applied → ((s : Begun) → StandsFor d t s → last.moment ≡ max first.moment (moment_of s)) × (last.is_under_way ≡ (first.is_under_way || not (stands_first line))))
          → ((r : Begun) → StandsFor d x r → GoesSo d r line t held later old new outcome) → TurnDoes d before now script line last held later old new outcome
      line_does held later old new outcome moves goes_on =
          let h = stands_at d number first.begun.items script.begun stand.each in
          let r = running_there d x (session_at number script.begun) (subst (λ (o : Option (Session D g)). StandsForRunning d o (session_at number script.begun)) there h) in
          does_so before now lends script stand turn some r.0 r.1 held later old new outcome moves (goes_on r.0 r.2)

-- a line that is to begin a session that is there
refuses_whole : (s : Running) (line : Line) → begins_session line ≡ true → IsRefused (Some (Whole s)) line
refuses_whole s (lines.Session row) e = inl refl
refuses_whole s (lines.LowSession row next held) e = inl refl
refuses_whole s (lines.Coarse session) e = cc
refuses_whole s lines.Skip e = cc
refuses_whole s (lines.Look session m w z) e = cc
refuses_whole s (lines.Told session m w fault told z) e = cc
refuses_whole s (lines.Step session m w) e = cc
refuses_whole s (lines.Gone session m) e = cc
refuses_whole s (lines.High session m) e = cc
refuses_whole s (lines.Carry session back) e = cc
refuses_whole s (lines.Return session m back) e = cc
refuses_whole s (lines.Done session m t) e = cc
refuses_whole s (lines.Restart session m) e = cc
refuses_whole s (lines.ReceiverRestart session m) e = cc

refuses_alone : (s : RunningAlone) (line : Line) → begins_session line ≡ true → IsRefused (Some (Alone s)) line
refuses_alone s (lines.Session row) e = inl refl
refuses_alone s (lines.LowSession row next held) e = inl refl
refuses_alone s (lines.Coarse session) e = cc
refuses_alone s lines.Skip e = cc
refuses_alone s (lines.Look session m w z) e = cc
refuses_alone s (lines.Told session m w fault told z) e = cc
refuses_alone s (lines.Step session m w) e = cc
refuses_alone s (lines.Gone session m) e = cc
refuses_alone s (lines.High session m) e = cc
refuses_alone s (lines.Carry session back) e = cc
refuses_alone s (lines.Return session m back) e = cc
refuses_alone s (lines.Done session m t) e = cc
refuses_alone s (lines.Restart session m) e = cc
refuses_alone s (lines.ReceiverRestart session m) e = cc

refuses_there : (r : Begun) (line : Line) → begins_session line ≡ true → IsRefused (Some r) line
refuses_there (Whole s) line e = refuses_whole s line e
refuses_there (Alone s) line e = refuses_alone s line e

-- its session is there, and refuses it
refused_there : {D : Type 0} {g : Ghosts D} (d : Meaning D) (t : Script) (line : Line) (number place : ℕ) (s : Sessions D g) → session_in line ≡ Some number → IsPlaced number place s.begun.items true → AllStandFor d s t
    → ((x : Session D g) (r : Begun) → slice_get s.begun.items place ≡ Some x → session_number r ≡ number → StandsFor d x r → IsRefused (Some r) line) → ScriptRefuses t line
refused_there {D} {g} d t line number place s named placed stand refuses =
    let found = found_there number s.begun.items (subst (λ (k : ℕ). is_of_number number (slice_get s.begun.items k) ≡ true) placed.0 placed.1) in
    of (slice_get s.begun.items (place_in number s.begun.items)) found (ap (λ (k : ℕ). slice_get s.begun.items k) placed.0)
    (subst (λ (k : ℕ). is_of_number number (slice_get s.begun.items k) ≡ true) placed.0 placed.1)
  where
    of : (o : Option (Session D g)) → found_at number s.begun.items ≡ o → slice_get s.begun.items place ≡ o → is_of_number number o ≡ true → ScriptRefuses t line
    of None found at is = cc
    of (Some x) found at is =
        let r = running_there d x (session_at number t.begun) (subst (λ (y : Option (Session D g)). StandsForRunning d y (session_at number t.begun)) found (stands_at d number s.begun.items t.begun stand.each)) in
        refuses_named t line number named (inr (subst (λ (y : Option Begun). IsRefused y line) (sym r.1) (refuses x r.0 at (found_number number t.begun r.0 r.1) r.2)))

pub refused_begun : {D : Type 0} {g : Ghosts D} (d : Meaning D) (t : Script) (line : Line) (number place : ℕ) (s : Sessions D g) → session_in line ≡ Some number → begins_session line ≡ true → IsPlaced number place s.begun.items true → AllStandFor d s t → ScriptRefuses t line
refused_begun d t line number place s named begins placed stand = refused_there d t line number place s named placed stand (λ x r at mine stands. refuses_there r line begins)

-- a line that would make coarse what is coarse
pub refused_coarse : {D : Type 0} {g : Ghosts D} (d : Meaning D) (t : Script) (line : Line) (number place : ℕ) (s : Sessions D g) (x : Session D g) (session : ℕ) → line ≡ lines.Coarse session → is_coarse x ≡ true → slice_get s.begun.items place ≡ Some x
    → session_in line ≡ Some number → IsPlaced number place s.begun.items true → AllStandFor d s t → ScriptRefuses t line
refused_coarse {D} {g} d t line number place s x session is coarse here named placed stand =
    let mine : session ≡ number = same_Some session number (sym (ap session_in is) ∙ named) in
    refused_there d t line number place s named placed stand (λ y r at of stands.
    let same : x ≡ y = same_Some x y (sym here ∙ at) in
    let may : may_coarsen session r ≡ false = may_so d y r session (mine ∙ sym of) stands ∙ ap (λ (z : Session D g). not (is_coarse z)) (sym same) ∙ ap not coarse in
    subst (λ (l : Line). IsRefused (Some r) l) (sym is) (inl may))

-- a skipped line
pub skips : {D : Type 0} {g : Ghosts D} (d : Meaning D) (before now : Places) (t : Script) (line : Line) (s : Sessions D g) (held : List ℕ) (a : Option (List ℕ)) → session_in line ≡ None → AllLend d before now s.begun.items → AllStandFor d s t
    → TurnDoes d before now t line s held held a a outcomes.Applied
skips d before now t line s held a none lends stand =
    (([], (t, subst (λ (at : Option ℕ). OneLeadsFrom before t line at t []) (sym none) (refl, refl), stand.each, lends), gathers_none held a), (stand.moment, stand.under_way))

-- ---- a line of a session that isn't there ----

-- there is none of its number
pub none_of : {D : Type 0} {g : Ghosts D} (number place : ℕ) (begun : List (Session D g)) → IsPlaced number place begun false → Rise begun → found_at number begun ≡ None
none_of number place begun placed rise = none_there number begun rise (subst (λ (k : ℕ). is_of_number number (slice_get begun k) ≡ false) placed.0 placed.1)

-- so the disks of the number were where they were at first, and what failed of them failed between then and now
pub fails_from : {S D : Type 0} {g : Ghosts D} (m : Holdings S) (d : Meaning D) (before : Places) (old new : S) (first last : List (Session D g)) (number : ℕ) (role : Role)
    → found_at number first ≡ None → found_at number last ≡ None → AllLend d before (m.disk old) first → FailsAt m d old new number role → DeviceFails m d before old new last number role
fails_from {S} {D} {g} m d before old new first last number role was none lends (rose, fails) =
    let home : LeavesSession before (m.disk old) number = subst (λ (o : Option (Session D g)). Lends d before (m.disk old) number o) was (lends number) in
    inl (
      none,
      rose,
      elim fails [
        | inl given ↦ inl (record { asked = given.asked; answered = given.answered; still = given.still; rose = given.rose; taken = given.taken; there = λ other later. given.there other later ∙ home other })
        | inr back ↦ inr back
      ],
    )

reads_same : (before mid : Places) (id : ℕ) → LeavesSession before mid id → (role : Role) → reading_at mid id role ≡ reading_at before id role
reads_same before mid id same role = ap reading_in (same role)

module _ (before mid : Places) (row : SessionRow) (same : LeavesSession before mid row.id) where
  found_before : (f : _) → HasFound mid row f → HasFound before row f
  found_before f h = rw (← reads_same before mid row.id same roles.Low, ← reads_same before mid row.id same roles.High, ← reads_same before mid row.id same roles.Recv) h

  refused_before : (role : Role) (why : _) → IsRefusedFor mid row role why → IsRefusedFor before row role why
  refused_before role why h = rw (← reads_same before mid row.id same roles.Low, ← reads_same before mid row.id same roles.High, ← reads_same before mid row.id same roles.Recv) h

  module _ (now : Places) where
    spares_before : SparesSession mid now row.id → SparesSession before now row.id
    spares_before h role some = h role (λ none. some (sym (reads_same before mid row.id same role) ∙ none)) ∙ reads_same before mid row.id same role

    readies_before : ReadiesSession mid now row → ReadiesSession before now row
    readies_before h role = elim (h role) [
      | inl kept ↦ inl (kept ∙ reads_same before mid row.id same role)
      | inr fresh ↦ inr (sym (reads_same before mid row.id same role) ∙ fresh.0, fresh.1)
    ]

    not_opened_before : (fault : Fault) → IsNotOpened mid now row fault → IsNotOpened before now row fault
    not_opened_before fault (inl (role, is, spares)) = inl (role, is, spares_before spares)
    not_opened_before fault (inr (role, why, is, refused, readies)) = inr (role, why, is, refused_before role why refused, readies_before readies)

finds_before : (before mid : Places) (o : Openings) (s : Begun) → LeavesSession before mid (session_number s) → Finds mid o (Some s) → Finds before o (Some s)
finds_before before mid o (Whole s) same h = found_before before mid s.row same (o s.row.id) h
finds_before before mid o (Alone s) same h = tt

module _ {D : Type 0} {g : Ghosts D} (d : Meaning D) (line : Line) (number place : ℕ) (named : session_in line ≡ Some number) (first : Sessions D g) (placed : IsPlaced number place first.begun.items false) (rise : Rise first.begun.items)
    (before mid now : Places) (returned : LeavesOtherSessions mid now number) where
  absent : found_at number first.begun.items ≡ None
  absent = none_there number first.begun.items rise (subst (λ (k : ℕ). is_of_number number (slice_get first.begun.items k) ≡ false) placed.0 placed.1)

  module _ (lends : AllLend d before mid first.begun.items) where
    home : LeavesSession before mid number
    home = subst (λ (o : Option (Session D g)). Lends d before mid number o) absent (lends number)

    lends_later : (k : ℕ) (y : Option (Session D g)) → ((z : Session D g) → y ≡ Some z → id_of z ≡ k) → (k ≡ number → ⊥) → Lends d before mid k y → Lends d before now k y
    lends_later k None of apart l = λ role. returned (disk_name k role) apart ∙ l role
    lends_later k (Some (sessions.Alone id p)) of apart l = λ role. returned (disk_name k role) apart ∙ l role
    lends_later k (Some (sessions.Whole id p)) of apart l = λ role.
        let out = l role in
        (out.0, returned (disk_name id role) (λ e. apart (sym (of (sessions.Whole id p) refl) ∙ e)) ∙ out.1, out.2)

    pub others_later : (k : ℕ) → (k ≡ number → ⊥) → Lends d before now k (found_at k first.begun.items)
    others_later k apart = lends_later k (found_at k first.begun.items) (λ z e. found_id k first.begun.items z e) apart (lends k)

    -- it is not begun
    hands_one : (told : Type 0) → (told → AllAreBack mid now) → (k : ℕ) → HandsOver told d before now k (found_at k first.begun.items)
    hands_one told back k = elim (k == number) as (λ b. (k == number) ≡ b → HandsOver told d before now k (found_at k first.begun.items)) [
      | true ↦ λ e.
          let is = sym (eqb-true k number e) in
          subst (λ (n : ℕ). HandsOver told d before now n (found_at n first.begun.items)) is
          (subst (λ (o : Option (Session D g)). HandsOver told d before now number o) (sym absent) (λ t role out. subst IsOut (home role) (back t (disk_name number role) out)))
      | false ↦ λ e. hands_lent told before now k (found_at k first.begun.items) (others_later k (eqb-false k number e))
    ] refl
      where
        hands_lent : (told : Type 0) (before now : Places) (k : ℕ) (y : Option (Session D g)) → Lends d before now k y → HandsOver told d before now k y
        hands_lent told before now k None l = λ t role out. subst IsOut (l role) out
        hands_lent told before now k (Some s) l = l

    pub hands_none : (told : Type 0) → (told → AllAreBack mid now) → AllHandOver told d before now first.begun.items
    hands_none told back = hands_one told back

    module _ (script : Script) (stand : AllStandFor d first script) (turn : is_in_turn script line ≡ true) where
      not_running : session_at number script.begun ≡ None
      not_running = none_running g d (session_at number script.begun) (subst (λ (o : Option (Session D g)). StandsForRunning d o (session_at number script.begun)) absent (stands_at d number first.begun.items script.begun stand.each))

      -- the disks are not opened
      stops_begin : (fault : Fault) (row : SessionRow) → line ≡ lines.Session row → IsLawfulRow row → IsNotOpened mid now row fault → BeginsNone d before now script line first.begun.items [] fault
      stops_begin fault row is lawful cause =
          let id : row.id ≡ number = same_Some row.id number (sym (ap session_in is) ∙ named) in
          record {
            row = row;
            line_is = is;
            in_turn = subst (λ (l : Line). is_in_turn script l ≡ true) is turn;
            none = ap (λ (k : ℕ). session_at k script.begun) id ∙ not_running;
            lawful = lawful;
            silent = refl;
            come = came_all d first.begun.items script.begun stand.each;
            others = λ k apart. others_later k (λ e. apart (e ∙ sym id));
            cause = not_opened_before before mid row (subst (λ (k : ℕ). LeavesSession before mid k) (sym id) home) now fault cause;
          }

      pub not_begun : (outcome : LineOutcome) → Begins {g = g} d mid now line (Err outcome) → (outcome ≡ outcomes.Refused → now ≡ mid) → BeginDoes d before now script line first outcome
      not_begun outcomes.Applied h same = absurd h
      not_begun outcomes.Unwritten h same = absurd h
      not_begun outcomes.Memory h same = stand.each
      not_begun outcomes.Refused h same = (
        refuses_named script line number named (inr (subst (λ (y : Option Begun). IsRefused y line) (sym not_running) h)),
        refl,
        stand.each,
        subst (λ (p : Places). AllLend d before p first.begun.items) (sym (same refl)) lends,
      )
      not_begun (outcomes.Stopped fault) (row, is, lawful, cause) same = inr (inr (stops_begin fault row is lawful cause))

  -- it is begun
  module _ (s : Session D g) (last : Sessions D g) (id_s : session_in line ≡ Some (id_of s)) (items : last.begun.items ≡ insert first.begun.items place s) (new : LendsNew d mid now s) where
    id_is : id_of s ≡ number
    id_is = same_Some (id_of s) number (sym id_s ∙ named)

    pub put_is : last.begun.items ≡ with_begun s first.begun.items
    put_is =
        let here : place ≡ place_in (id_of s) first.begun.items = placed.0 ∙ ap (λ (k : ℕ). place_in k first.begun.items) (sym id_is) in
        items ∙ ap (λ (k : ℕ). insert first.begun.items k s) here
        ∙ insert_there s first.begun.items (subst (λ (k : ℕ). is_of_number k (slice_get first.begun.items (place_in k first.begun.items)) ≡ false) (sym id_is)
        (subst (λ (k : ℕ). is_of_number number (slice_get first.begun.items k) ≡ false) placed.0 placed.1))

    new_one : (x : Session D g) → id_of x ≡ number → LendsNew d mid now x → LeavesSession before mid number → Lends d before now (id_of x) (Some x)
    new_one (sessions.Whole id p) e h same = h.out
    new_one (sessions.Alone id p) e h same = λ role. ap (λ (p : Places). p (disk_name id role)) h ∙ subst (λ (k : ℕ). LeavesSession before mid k) (sym e) same role

    pub lends_begun : AllLend d before mid first.begun.items → AllLend d before now last.begun.items
    lends_begun lends = subst (λ (l : List (Session D g)). AllLend d before now l) (sym put_is)
        (at_put d (λ k y. Lends d before now k y) s first.begun.items (new_one s id_is new (home lends)) (λ k apart. others_later lends k (λ e. apart (e ∙ sym id_is))))

    pub up_begun : IsUp s → AllAreUp first.begun.items → AllAreUp last.begun.items
    up_begun up ups = subst (λ (l : List (Session D g)). AllAreUp l) (sym put_is) (at_put d (λ k y. AreUp y) s first.begun.items up (λ k apart. ups k))

    pub rise_begun : Rise last.begun.items
    rise_begun = subst (λ (l : List (Session D g)). Rise l) (sym put_is) (rise_put s first.begun.items rise)

    leads_before : (after : Begun) → LeavesSession before mid (session_number after) → LeadsFrom mid None line (Some after) [] → LeadsFrom before None line (Some after) []
    leads_before after same (o, leads, finds) = (o, leads, finds_before before mid o after same finds)

    pub begun_does : (lends : AllLend d before mid first.begun.items) (script : Script) (stand : AllStandFor d first script) → is_in_turn script line ≡ true → Begins d mid now line (Ok s)
        → ((r : Begun) → StandsFor d s r → last.moment ≡ max first.moment (moment_of r)) → last.is_under_way ≡ (first.is_under_way || not (stands_first line))
        → BeginDoes d before now script line last outcomes.Applied
    begun_does lends script stand turn (after, leads, stands) moment under_way =
        let mine : session_number after ≡ number = sym (same_number d s after stands) ∙ id_is in
        let from : LeadsFrom before (session_at number script.begun) line (Some after) [] =
        subst (λ (y : Option Begun). LeadsFrom before y line (Some after) []) (sym (not_running lends script stand turn))
        (leads_before after (subst (λ (k : ℕ). LeavesSession before mid k) (sym mine) (home lends)) leads) in (
          (
            led_to script line after,
            leads_named before script line number (led_to script line after) [] named (turn, (after, from, refl)),
            subst (λ (l : List (Session D g)). EachStandsFor d l (with_session after script.begun)) (sym put_is) (each_put d s after first.begun.items script.begun stands stand.each),
            lends_begun lends,
          ),
          (moment after stands ∙ ap (λ (m : ℕ). max m (moment_of after)) stand.moment, under_way ∙ ap (λ (b : Bool). b || not (stands_first line)) stand.under_way),
        )

-- nothing was printed
pub begin_turn : {D : Type 0} {g : Ghosts D} (d : Meaning D) (before now : Places) (t : Script) (line : Line) (s : Sessions D g) (held : List ℕ) (a : Option (List ℕ)) (outcome : LineOutcome) → BeginDoes d before now t line s outcome
    → TurnDoes d before now t line s held held a a outcome
begin_turn d before now t line s held a outcomes.Applied h = (([], h.0, gathers_none held a), h.1)
begin_turn d before now t line s held a outcomes.Refused h = ([], h, gathers_none held a)
begin_turn d before now t line s held a outcomes.Memory h = h
begin_turn d before now t line s held a outcomes.Unwritten h = absurd h
begin_turn d before now t line s held a (outcomes.Stopped fault) h = ([], h, gathers_none held a)

-- what was taken off is handed on
hands_one_on : {D : Type 0} {g : Ghosts D} (told : Type 0) (d : Meaning D) (before now : Places) (number : ℕ) (session : Option (Session D g)) → Lends d before now number session → HandsOver told d before now number session
hands_one_on told d before now number (Some s) l = l
hands_one_on told d before now number None l = λ t role out. subst IsOut (l role) out

pub hands_of : {D : Type 0} {g : Ghosts D} (told : Type 0) (d : Meaning D) (before now : Places) (begun : List (Session D g)) → AllLend d before now begun → AllHandOver told d before now begun
hands_of told d before now begun lends number = hands_one_on told d before now number (found_at number begun) (lends number)

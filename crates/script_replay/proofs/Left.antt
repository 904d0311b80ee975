-- The disks of a session are back on the shelf, and are read there.
use Rattle.std.proofs.Common.{◌≡◌, ◌≤◌, ℕ, ◌+◌, ◌^◌, ◌==◌, Bool, true, false, List, [], ◌∷◌, ◌++◌, Option, None, Some, inl, inr, refl, sym, ap, ◌∙◌, subst, arith, length, drop}
use Rattle.std.specs.Prelude.{◌&&◌, if◌then◌else◌}
use Rattle.std.proofs.lemmas.Bool.{eqb-true, eqb-false}
use Rattle.pump_frame.specs.Counts.{Rose}
use Rattle.std.specs.List.{AllByRecursion}
use Rattle.disk_model.specs.Disk.{Meaning}
use Rattle.disk_model.specs.declared.disk.Disk.{Ghosts}
use Rattle.disk_model.specs.declared.name.Role.{Role}
use Rattle.disk_model.specs.declared.name.Role.TheVariants as roles
use Rattle.disk_model.specs.Shelf.{OnShelf, IsOut}
use Rattle.pump_frame.specs.declared.row.SessionRow.{SessionRow}
use Rattle.pump_frame.specs.declared.payload.Payload.{Payload}
use Rattle.pump_core.specs.Events.{with_kept}
use Rattle.pump_core.specs.Replies.{Sent}
use Rattle.pump_core.specs.World.{World}
use Rattle.pump_core.specs.Lawful.{IsLawful}
use Rattle.stable_buffer.specs.Stands.{LowStands, HighStands}
use Rattle.stable_buffer.specs.Log.{RecvStands}
use Rattle.script_reader.specs.Highs.{log_end, receiver_size}
use Rattle.script_reader.specs.Past.{Past}
use Rattle.script_reader.specs.Openings.{Openings}
use Rattle.script_reader.specs.declared.event.Event.{Event}
use Rattle.script_reader.specs.Readouts.{low_lines, Sound}
use Rattle.script_reader.specs.Scripts.{Running, Begun, Whole, Alone}
use Rattle.world_laws.specs.Disks.{StandFor, StandForLeft}
use Rattle.world_laws.specs.Laws.{KeepMessages, AckOutlives}
use Rattle.two_worlds.specs.Pumps as pump
use Rattle.world_laws.specs.Timelines.{IsAtRest}
use Rattle.two_worlds.specs.declared.pump.Pump.{Pump}
use Rattle.two_worlds.specs.States.{StandsIn}
use Rattle.two_worlds.specs.declared.pump.state.PumpState.{PumpState}
use Rattle.two_worlds.specs.declared.pump.state.PumpState.TheVariants.{Open, Shut}
use Rattle.world_laws.proofs.Runs.Outliving.{keeps_messages, run_keeps}
use Rattle.world_laws.proofs.Runs.Worlds.{leads_lawfully}
use Rattle.world_laws.proofs.Timeline.Scripts.{HasRun}
use Rattle.script_replay.specs.Lending.{RisesAt, AreOnShelf}
use Rattle.script_replay.specs.Shelves.{Places, disk_name, reading_in, reading_at, OfDisks, LeavesSession, LeavesOtherSessions, KeepsSession, BreaksSession, IsKept}
use Rattle.script_replay.specs.Sessions.{id_of, found_at, Rise, HasComeTo, HasFailed}
use Rattle.script_replay.specs.Runners.{Finds, LentAt, AreOut, AllAreOut, LeftAs, AllLeftAs, IsAloneOr}
use Rattle.script_replay.specs.declared.session.Session.{Session}
use Rattle.script_replay.specs.declared.session.Session.TheVariants as sessions
use Rattle.script_replay.proofs.Numbered.{found_id, without_last, rise_without, last_alone, found_last}

-- ---- they are put back ----

module _ {D : Type 0} {g : Ghosts D} (d : Meaning D) (told : Type 0) (mid now : Places) (session : Session D g) (id : ℕ) (p : Pump D g) (is : session ≡ sessions.Whole id p) where
  pub out_of : AreOut mid (Some session) → (role : Role) → IsOut (mid (disk_name id role))
  out_of out = subst (λ (s : Session D g). AreOut mid (Some s)) is out

  pub others_of : LeavesOtherSessions mid now id → LeavesOtherSessions mid now (id_of session)
  others_of h = subst (λ (n : ℕ). LeavesOtherSessions mid now n) (sym (ap id_of is)) h

  on_shelf_at : (low high recv : D) → low ≡ pump.disk_at roles.Low p → high ≡ pump.disk_at roles.High p → recv ≡ pump.disk_at roles.Recv p → AreOnShelf now id (d.reading low) (d.reading high) (d.reading recv)
      → (role : Role) → now (disk_name id role) ≡ OnShelf (d.reading (pump.disk_at role p))
  on_shelf_at low high recv e f h on roles.Low = on.low_on ∙ ap (λ (x : D). OnShelf (d.reading x)) e
  on_shelf_at low high recv e f h on roles.High = on.high_on ∙ ap (λ (x : D). OnShelf (d.reading x)) f
  on_shelf_at low high recv e f h on roles.Recv = on.recv_on ∙ ap (λ (x : D). OnShelf (d.reading x)) h

  pub left_of : (low high recv : D) → low ≡ pump.disk_at roles.Low p → high ≡ pump.disk_at roles.High p → recv ≡ pump.disk_at roles.Recv p → (told → AreOnShelf now id (d.reading low) (d.reading high) (d.reading recv))
      → (d.tells → (q : Past) → pump.StandsOrFails d p q → StandForLeft (pump.row_of p) q.world (d.reading low) (d.reading high) (d.reading recv))
      → LeftAs told d mid now (id_of session) (Some session)
  left_of low high recv low_is high_is recv_is on left =
      subst (λ (s : Session D g). LeftAs told d mid now (id_of s) (Some s)) (sym is) (
        λ t. on_shelf_at low high recv low_is high_is recv_is (on t),
        λ t tells q stands. let h = on t in rw (ap reading_in h.low_on, ap reading_in h.high_on, ap reading_in h.recv_on) (left tells q stands),
      )

  pub failed_of : (first last : ℕ) (low high recv : ℕ) → low ≡ d.count (pump.disk_at roles.Low p) → high ≡ d.count (pump.disk_at roles.High p) → recv ≡ d.count (pump.disk_at roles.Recv p)
      → RisesAt mid id roles.Low low first last → RisesAt mid id roles.High high first last → RisesAt mid id roles.Recv recv first last
      → (role : Role) → HasFailed d mid role (Some session) → IsAloneOr (Some session) (Rose first last)
  failed_of first last low high recv e f h low_rises high_rises recv_rises role failed =
      subst (λ (s : Session D g). IsAloneOr (Some s) (Rose first last)) (sym is) (rises role (subst (λ (s : Session D g). HasFailed d mid role (Some s)) is failed))
    where
      rises : (at : Role) → HasFailed d mid at (Some (sessions.Whole id p)) → Rose first last
      rises roles.Low (given, out, rose) = low_rises given out (subst (λ (n : ℕ). Rose given n) (sym e) rose)
      rises roles.High (given, out, rose) = high_rises given out (subst (λ (n : ℕ). Rose given n) (sym f) rose)
      rises roles.Recv (given, out, rose) = recv_rises given out (subst (λ (n : ℕ). Rose given n) (sym h) rose)

-- ---- one after another ----

-- of a session that is still to be left nothing has changed; one that has been left is left so
abbrev pub StillOr : {D : Type 0} {g : Ghosts D} → Type 0 → Meaning D → Places → Places → ℕ → Option (Session D g) → Option (Session D g) → Type 0
StillOr told d mid now number session (Some s) = (session ≡ Some s) × LeavesSession mid now number
StillOr told d mid now number session None = LeftAs told d mid now number session

pub record LeftSoFar {D : Type 0} {g : Ghosts D} (told : Type 0) (d : Meaning D) (mid now : Places) (first last : ℕ) (all rest : List (Session D g)) : Type 0 where
  pub rise : Rise rest
  pub each : (number : ℕ) → StillOr told d mid now number (found_at number all) (found_at number rest)
  pub failed : (number : ℕ) (role : Role) → found_at number rest ≡ None → HasFailed d mid role (found_at number all) → IsAloneOr (found_at number all) (Rose first last)
  pub later : first ≤ last

left_same : (mid now gone : Places) (number other : ℕ) → (number ≡ other → ⊥) → LeavesOtherSessions now gone other → LeavesSession mid now number → LeavesSession mid gone number
left_same mid now gone number other apart returned h role = returned (disk_name number role) apart ∙ h role

module _ {D : Type 0} {g : Ghosts D} (told : Type 0) (d : Meaning D) (mid : Places) (first : ℕ) (all : List (Session D g)) where
  pub none_left : Rise all → LeftSoFar told d mid mid first first all all
  none_left rise = record {
    rise = rise;
    each = λ number. still number (found_at number all);
    failed = λ number role none failed. absurd (subst (λ (x : Option (Session D g)). HasFailed d mid role x) none failed);
    later = omega arith;
  }
    where
      still : (number : ℕ) (x : Option (Session D g)) → StillOr told d mid mid number x x
      still number None = λ role. refl
      still number (Some s) = (refl, λ role. refl)

  module _ (now gone : Places) (last end : ℕ) (rest : List (Session D g)) (s : Session D g) (h : LeftSoFar told d mid now first last all (rest ++ s ∷ [])) where
    its_own : (found_at (id_of s) all ≡ Some s) × LeavesSession mid now (id_of s)
    its_own = subst (λ (x : Option (Session D g)). StillOr told d mid now (id_of s) (found_at (id_of s) all) x) (found_last rest s h.rise) (h.each (id_of s))

    out_one : (x : Session D g) → LeavesSession mid now (id_of x) → AreOut mid (Some x) → AreOut now (Some x)
    out_one (sessions.Whole id p) same out = λ role. subst IsOut (sym (same role)) (out role)
    out_one (sessions.Alone id p) same out = tt

    pub is_out_now : AllAreOut mid all → AreOut now (Some s)
    is_out_now out = out_one s its_own.1 (subst (λ (x : Option (Session D g)). AreOut mid x) its_own.0 (out (id_of s)))

    module _ (returned : LeavesOtherSessions now gone (id_of s)) (left : LeftAs told d now gone (id_of s) (Some s)) (rises : (role : Role) → HasFailed d now role (Some s) → IsAloneOr (Some s) (Rose last end)) (more : last ≤ end) where
      own_left : (x : Session D g) → LeavesSession mid now (id_of x) → LeftAs told d now gone (id_of x) (Some x) → LeftAs told d mid gone (id_of x) (Some x)
      own_left (sessions.Whole id p) same h = h
      own_left (sessions.Alone id p) same h = λ role. h role ∙ same role

      other_left : (number : ℕ) (x : Option (Session D g)) → ((y : Session D g) → x ≡ Some y → id_of y ≡ number) → (number ≡ id_of s → ⊥) → LeftAs told d mid now number x → LeftAs told d mid gone number x
      other_left number None of apart h = left_same mid now gone number (id_of s) apart returned h
      other_left number (Some (sessions.Alone id p)) of apart h = left_same mid now gone number (id_of s) apart returned h
      other_left number (Some (sessions.Whole id p)) of apart h =
          let same : (role : Role) → gone (disk_name id role) ≡ now (disk_name id role) = λ role. returned (disk_name id role) (λ e. apart (sym (of (sessions.Whole id p) refl) ∙ e)) in (
            λ t role. same role ∙ h.0 t role,
            λ t tells q stands. rw (ap reading_in (same roles.Low), ap reading_in (same roles.High), ap reading_in (same roles.Recv)) (h.1 t tells q stands),
          )

      other_still : (number : ℕ) (x y : Option (Session D g)) → ((z : Session D g) → x ≡ Some z → id_of z ≡ number) → (number ≡ id_of s → ⊥) → StillOr told d mid now number x y → StillOr told d mid gone number x y
      other_still number x (Some y) of apart h = (h.0, left_same mid now gone number (id_of s) apart returned h.1)
      other_still number x None of apart h = other_left number x of apart h

      each_left : (number : ℕ) → StillOr told d mid gone number (found_at number all) (found_at number rest)
      each_left number = elim (number == id_of s) as (λ b. (number == id_of s) ≡ b → StillOr told d mid gone number (found_at number all) (found_at number rest)) [
        | true ↦ λ e.
            let is = sym (eqb-true number (id_of s) e) in
            subst (λ (n : ℕ). StillOr told d mid gone n (found_at n all) (found_at n rest)) is
            (subst (λ (x : Option (Session D g)). StillOr told d mid gone (id_of s) (found_at (id_of s) all) x) (sym (last_alone rest s h.rise))
            (subst (λ (x : Option (Session D g)). LeftAs told d mid gone (id_of s) x) (sym its_own.0) (own_left s its_own.1 left)))
        | false ↦ λ e.
            let apart = eqb-false number (id_of s) e in
            other_still number (found_at number all) (found_at number rest) (λ z is. found_id number all z is) apart
            (subst (λ (x : Option (Session D g)). StillOr told d mid now number (found_at number all) x) (without_last number rest s apart) (h.each number))
      ] refl

      same_failed : (role : Role) (x : Session D g) → LeavesSession mid now (id_of x) → HasFailed d mid role (Some x) → HasFailed d now role (Some x)
      same_failed role (sessions.Whole id p) same (given, out, rose) = (given, same role ∙ out, rose)
      same_failed role (sessions.Alone id p) same f = tt

      rose_from : (x : Session D g) → IsAloneOr (Some x) (Rose last end) → IsAloneOr (Some x) (Rose first end)
      rose_from (sessions.Whole id p) rose = let low = h.later in omega (arith, low, rose)
      rose_from (sessions.Alone id p) rose = tt

      rose_on : (x : Option (Session D g)) → IsAloneOr x (Rose first last) → IsAloneOr x (Rose first end)
      rose_on (Some (sessions.Whole id p)) rose = omega (arith, rose, more)
      rose_on (Some (sessions.Alone id p)) rose = tt
      rose_on None rose = omega (arith, rose, more)

      failed_left : (number : ℕ) (role : Role) → found_at number rest ≡ None → HasFailed d mid role (found_at number all) → IsAloneOr (found_at number all) (Rose first end)
      failed_left number role none failed = elim (number == id_of s) as (λ b. (number == id_of s) ≡ b → IsAloneOr (found_at number all) (Rose first end)) [
        | true ↦ λ e.
            let is = eqb-true number (id_of s) e in
            let at : found_at number all ≡ Some s = ap (λ (n : ℕ). found_at n all) is ∙ its_own.0 in
            subst (λ (x : Option (Session D g)). IsAloneOr x (Rose first end)) (sym at)
            (rose_from s (rises role (same_failed role s its_own.1 (subst (λ (x : Option (Session D g)). HasFailed d mid role x) at failed))))
        | false ↦ λ e.
            let apart = eqb-false number (id_of s) e in
            rose_on (found_at number all) (h.failed number role (without_last number rest s apart ∙ none) failed)
      ] refl

      pub one_left : LeftSoFar told d mid gone first end all rest
      one_left = record { rise = rise_without rest s h.rise; each = each_left; failed = failed_left; later = let low = h.later in omega (arith, low, more) }

  -- and none is left out
  pub all_left : (now : Places) (last : ℕ) (rest : List (Session D g)) → rest ≡ [] → LeftSoFar told d mid now first last all rest
      → AllLeftAs told d mid now all × ((number : ℕ) (role : Role) → HasFailed d mid role (found_at number all) → IsAloneOr (found_at number all) (Rose first last))
  all_left now last rest none h = (
    λ number. subst (λ (l : List (Session D g)). StillOr told d mid now number (found_at number all) (found_at number l)) none (h.each number),
    λ number role failed. h.failed number role (ap (λ (l : List (Session D g)). found_at number l) none) failed,
  )

-- ---- what is read gone ----

kept_none : (b : Bool) (p : Option Payload) (ps : List Payload) → p ≡ None → with_kept b p ps ≡ ps
kept_none false p ps e = refl
kept_none true p ps e = ap (λ (x : Option Payload). with_kept true x ps) e

removed_none : (b x : Bool) (n : ℕ) → x ≡ false → (if b && x then n + 1 else n) ≡ n
removed_none false x n e = refl
removed_none true x n e = ap (λ (y : Bool). if y then n + 1 else n) e

module _ (row : SessionRow) (w : World) (rest : IsAtRest w) (lawful : IsLawful w) (low high recv : List ℕ) where
  pub stand_at_rest : StandForLeft row w low high recv → StandFor row w low high recv
  stand_at_rest (a, b, c, s) =
      let acc : with_kept a w.storing w.accepted ≡ w.accepted = kept_none a w.storing w.accepted rest.storing in
      let rem : (if b && w.removing then w.removed + 1 else w.removed) ≡ w.removed = removed_none b w.removing w.removed rest.removing in
      let rec : with_kept (c && w.taking) w.packet w.received ≡ w.received = kept_none (c && w.taking) w.packet w.received rest.packet in
      record {
        lawful = lawful;
        capacity = s.capacity;
        count = subst (λ (x : List Payload). length x ≤ 2 ^ 48) acc s.count;
        end = subst (λ (x : List Payload). log_end x ≤ receiver_size) rec s.end;
        low_is = subst (λ (n : ℕ). LowStands row (length w.accepted) n (drop n w.accepted) low) rem
            (subst (λ (x : List Payload). LowStands row (length x) (if b && w.removing then w.removed + 1 else w.removed) (drop (if b && w.removing then w.removed + 1 else w.removed) x) low) acc s.low_is);
        high_is = subst (λ (n : ℕ). HighStands row n high) rem s.high_is;
        recv_is = subst (λ (x : List Payload). RecvStands row x recv) rec s.recv_is;
      }

-- the messages of a world, and those that were acknowledged
abbrev Kept : SessionRow → World → List ℕ → List ℕ → List ℕ → List Sent → Type 0
Kept row w low high recv replies = (kept : KeepMessages row w low high recv) × AllByRecursion (λ (x : Sent). AckOutlives row w.accepted kept.received low high x.reply) replies

read_for : {D : Type 0} {g : Ghosts D} (now : Places) (id : ℕ) (p : Pump D g) (s : Running) → id ≡ s.row.id → pump.row_of p ≡ s.row → OfDisks now id (StandForLeft (pump.row_of p) s.past.world) → OfDisks now s.row.id (StandForLeft s.row s.past.world)
read_for now id p s id_is row_is h = subst (λ (i : ℕ). OfDisks now i (StandForLeft s.row s.past.world)) id_is (subst (λ (r : SessionRow). OfDisks now id (StandForLeft r s.past.world)) row_is h)

lawful_in : {D : Type 0} (d : Meaning D) (s : PumpState D) (q : Past) → StandsIn d s q → IsLawful q.world
lawful_in d (Open c) q h = h.sound.lawful
lawful_in d (Shut disks) q h = absurd h

came_lawfully : {D : Type 0} {g : Ghosts D} (d : Meaning D) (p : Pump D g) (q : Past) → pump.StandsOrFails d p q → IsLawful q.world
came_lawfully d p q (inl h) = lawful_in d _ q h
came_lawfully d p q (inr (role, faults, failed)) = failed.1.lawful

module _ {D : Type 0} {g : Ghosts D} (d : Meaning D) (told : Type 0) (is_told : told) (tells : d.tells) (before mid now : Places) where
  module _ (number : ℕ) (session : Option (Session D g)) (left : LeftAs told d mid now number session) where
    pub keeps_one : (o : Openings) (running : Option Begun) (printed : List Event) → HasRun running → Sound running printed → LentAt d before mid number session o running → IsKept before now number o running printed
    keeps_one o None printed timed sound lent = nowhere session left lent.come
      where
        nowhere : (x : Option (Session D g)) → LeftAs told d mid now number x → HasComeTo d x None → LeavesSession before now number
        nowhere None l c = λ role. l role ∙ lent.at role
        nowhere (Some s) l c = absurd c
    keeps_one o (Some (Alone s)) printed timed sound lent = alone session left lent.come
      where
        alone : (x : Option (Session D g)) → LeftAs told d mid now number x → HasComeTo d x (Some (Alone s)) → LeavesSession before now number
        alone None l c = absurd c
        alone (Some (sessions.Whole id p)) l c = absurd c
        alone (Some (sessions.Alone id p)) l c = λ role. l role ∙ lent.at role
    keeps_one o (Some (Whole s)) printed (steps, t, line) sound lent = whole session left lent.come
      where
        whole : (x : Option (Session D g)) → LeftAs told d mid now number x → HasComeTo d x (Some (Whole s)) → KeepsSession before now s (o s.row.id) printed
        whole None l c = absurd c
        whole (Some (sessions.Alone id p)) l c = absurd c
        whole (Some (sessions.Whole id p)) l (id_is, row_is, stands) =
            let stand : OfDisks now s.row.id (StandForLeft s.row s.past.world) = read_for now id p s id_is row_is (l.1 is_told tells s.past stands) in
            let world : t.world ≡ s.past.world = line.world in
            let lawful : IsLawful s.past.world = subst IsLawful world (leads_lawfully s.row steps t line.run.leads) in
            let low = reading_at now s.row.id roles.Low in
            let high = reading_at now s.row.id roles.High in
            let recv = reading_at now s.row.id roles.Recv in
            let kept = subst (λ (w : World). Kept s.row w low high recv (low_lines printed)) world
            (run_keeps s.row steps t s.past.history (low_lines printed) low high recv line.run sound.replies (subst (λ (w : World). StandForLeft s.row w low high recv) (sym world) stand)) in
            record {
              found = lent.found;
              holds = stand_at_rest s.row s.past.world line.rest lawful _ _ _ stand;
              prefix = kept.0;
              outlives = kept.1;
            }

    pub breaks_one : (o : Openings) (s : Running) → Finds before o (Some (Whole s)) → HasComeTo d session (Some (Whole s)) → BreaksSession before now s (o s.row.id)
    breaks_one o s found come = whole session left come
      where
        whole : (x : Option (Session D g)) → LeftAs told d mid now number x → HasComeTo d x (Some (Whole s)) → BreaksSession before now s (o s.row.id)
        whole None l c = absurd c
        whole (Some (sessions.Alone id p)) l c = absurd c
        whole (Some (sessions.Whole id p)) l (id_is, row_is, stands) =
            let stand : OfDisks now s.row.id (StandForLeft s.row s.past.world) = read_for now id p s id_is row_is (l.1 is_told tells s.past stands) in
            record {
              found = found;
              holds = stand;
              lawful = came_lawfully d p s.past stands;
              prefix = keeps_messages s.row s.past.world _ _ _ (came_lawfully d p s.past stands) stand;
            }

-- How a replay ends, once the disks are back.
use Rattle.std.proofs.Common.{◌≡◌, ◌≤◌, ◌==◌, arith, ℕ, true, false, List, [], ◌∷◌, ◌++◌, Option, None, Some, inl, inr, refl, sym, ap, ◌∙◌, subst, append-nil}
use Rattle.std.specs.Prelude.{◌⊎◌, nat_le}
use Rattle.std.proofs.lemmas.Bool.{and_parts, eqb-true, eqb-false}
use Rattle.disk_model.specs.Disk.{Meaning}
use Rattle.disk_model.specs.Shelf.{Holdings, IsOut}
use Rattle.disk_model.specs.declared.disk.Disk.{Ghosts}
use Rattle.disk_model.specs.declared.name.Role.{Role}
use Rattle.pump_frame.specs.Counts.{Rose}
use Rattle.pump_frame.specs.declared.row.SessionRow.{SessionRow}
use Rattle.script_reader.specs.declared.line.Line.{Line}
use Rattle.script_reader.specs.declared.line.Line.TheVariants as lines
use Rattle.script_reader.specs.declared.event.Event.{Event}
use Rattle.script_reader.specs.declared.fault.Fault.{Fault}
use Rattle.script_reader.specs.declared.fault.Fault.TheVariants as faults
use Rattle.script_reader.specs.Openings.{Openings, new_disks}
use Rattle.script_reader.specs.Past.{Past}
use Rattle.script_reader.specs.Steps.{is_timely, Overfills}
use Rattle.script_reader.specs.Scripts.{Running, Begun, Whole, Alone, Stops}
use Rattle.world_laws.proofs.Timeline.Scripts.{HasRun, script_runs}
use Rattle.script_reader.specs.Sessions.{Sessions as Script, session_in, session_at, events_of, StopsOne}
use Rattle.script_replay.specs.Shelves.{Places, disk_name, reading_in, reading_at, Shelved, shelved, LeavesSession, SparesSession, ReadiesSession, AreKept, AreOthersKept, AllAreBack}
use Rattle.script_replay.specs.Failing.{CameBackFailed, FailsBetween, FailsAt}
use Rattle.script_replay.specs.Sessions.{id_of, found_at, HasComeTo, HasFailed}
use Rattle.two_worlds.specs.Pumps as pump
use Rattle.script_replay.specs.Runners.{lent, AllLent, OthersLent, HandsOver, AllHandOver, AreOut, AllAreOut, LeftAs, AllLeftAs, IsAloneOr, EndsAs, DeviceFails}
use Rattle.script_replay.specs.Replays.{IsEachSound, IsTimed, Replayed, IsFinished, IsUnread, IsFaulted, IsStopped, IsFailedAt, IsFailed, IsOverfilled, IsBroken, IsUnopened, IsBarred, IsDiskDown, IsDownAt, IsDown, IsOutput, Wrote}
use Rattle.script_replay.specs.declared.session.Session.{Session}
use Rattle.script_replay.specs.declared.session.Session.TheVariants as sessions
use Rattle.script_replay.specs.declared.ended.Ended.{Ended}
use Rattle.script_replay.specs.declared.ended.Ended.TheVariants as ended
use Rattle.script_replay.proofs.Fresh.{readied_all}
use Rattle.script_replay.proofs.Left.{keeps_one, breaks_one}
use Rattle.script_replay.proofs.Numbered.{found_id}
use Rattle.script_replay.proofs.Stops.{stop_number}
use Rattle.script_replay.proofs.Widened.{led_there, led_beside}

-- ---- the timed run of a session that stops ----

run_of : (running : Option Begun) → IsTimed running → HasRun running
run_of None h = tt
run_of (Some (Whole s)) h = h
run_of (Some (Alone s)) h = tt

over_runs : (s : Running) (line : Line) (q : Past) (printed : List Event) (end n size : ℕ) → is_timely s.row s.past line ≡ true → Overfills s.row s.past line q printed end n size
    → HasRun (Some (Whole s)) → HasRun (Some (Whole (record { row = s.row; past = q })))
over_runs s lines.Skip q printed end n size timely h run = absurd h
over_runs s (lines.Session row) q printed end n size timely h run = absurd h
over_runs s (lines.LowSession row next held) q printed end n size timely h run = absurd h
over_runs s (lines.Coarse session) q printed end n size timely h run = absurd h
over_runs s (lines.Look session m w a) q printed end n size timely h run = absurd h
over_runs s (lines.Told session m w fault feedback a) q printed end n size timely h run = absurd h
over_runs s (lines.Step session m w) q printed end n size timely h run = absurd h
over_runs s (lines.Gone session m) q printed end n size timely h run = absurd h
over_runs s (lines.High session m) q printed end n size timely h run = absurd h
over_runs s (lines.Carry session back) q printed end n size timely (full, same, silent) run = subst (λ (x : Past). HasRun (Some (Whole (record { row = s.row; past = x })))) (sym same) run
over_runs s (lines.Return session m back) q printed end n size timely h run = absurd h
over_runs s (lines.Done session m t) q printed end n size timely (look, hand, full) run =
    let a = and_parts (session == s.row.id) _ timely in
    let b = and_parts (nat_le s.past.moment m) _ a.1 in
    let high : is_timely s.row s.past (lines.High session m) ≡ true = rw (a.0, b.0) refl in
    let after : Option Begun = Some (Whole (record { row = s.row; past = q })) in
    script_runs new_disks (Some (Whole s)) (lines.High session m ∷ []) after printed (after, printed, [], (high, (q, look, refl)), (refl, refl), sym (append-nil printed)) run
over_runs s (lines.Restart session m) q printed end n size timely h run = absurd h
over_runs s (lines.ReceiverRestart session m) q printed end n size timely h run = absurd h

stop_runs : (running : Option Begun) (line : Line) (after : Option Begun) (printed : List Event) (fault : Fault) → Stops running line after printed fault → HasRun running → HasRun after
stop_runs None line after printed fault h run = absurd h
stop_runs (Some (Whole s)) line after printed fault (timely, (q, end, n, size, over, e, f)) run = subst HasRun (sym f) (over_runs s line q printed end n size timely over run)
stop_runs (Some (Alone s)) line after printed fault (timely, (q, step, e, f)) run = subst HasRun (sym f) tt

-- ---- each end ----

-- so of each session of a script
stop_runs_all : (t : Script) (line : Line) (at : Option ℕ) (u : Script) (printed : List Event) (fault : Fault) → StopsOne t line at u printed fault → ((number : ℕ) → HasRun (session_at number t.begun)) → (number : ℕ) → HasRun (session_at number u.begun)
stop_runs_all t line None u printed fault h runs = absurd h
stop_runs_all t line (Some n) u printed fault (turn, (s, stops, e)) runs = λ k.
    let mine = stop_number n t line s printed fault stops in
    elim (k == n) as (λ b. (k == n) ≡ b → HasRun (session_at k u.begun)) [
      | true ↦ λ is. subst HasRun (sym (led_there k t line s u e (mine ∙ sym (eqb-true k n is)))) (stop_runs (session_at n t.begun) line (Some s) printed fault stops (runs n))
      | false ↦ λ is. subst HasRun (sym (led_beside k n t line s u e mine (eqb-false k n is))) (runs k)
    ] refl

module _ {D : Type 0} {g : Ghosts D} (d : Meaning D) (told : Type 0) (is_told : told) (tells : d.tells) (before mid now : Places) (begun : List (Session D g)) (left : AllLeftAs told d mid now begun) where
  abbrev from : Shelved
  from = lent d before mid begun

  abbrev to : Shelved
  to = shelved before now

  keeps_to : (o : Openings) (running : List Begun) (printed : List Event) → ((number : ℕ) → HasRun (session_at number running)) → IsEachSound running printed → AllLent d before mid begun o running → AreKept before now o running printed
  keeps_to o running printed runs sound lent number =
      keeps_one d told is_told tells before mid now number (found_at number begun) (left number) o (session_at number running) (events_of number printed) (runs number) (sound number) (lent number)

  others_to : (one : ℕ) (o : Openings) (running : List Begun) (printed : List Event) → ((number : ℕ) → HasRun (session_at number running)) → IsEachSound running printed → OthersLent d before mid one begun o running → AreOthersKept before now one o running printed
  others_to one o running printed runs sound lent number apart =
      keeps_one d told is_told tells before mid now number (found_at number begun) (left number) o (session_at number running) (events_of number printed) (runs number) (sound number) (lent number apart)

  -- where no session was the disks are where they were
  none_there : (number : ℕ) → found_at number begun ≡ None → LeavesSession mid now number
  none_there number none = subst (λ (s : Option (Session D g)). LeftAs told d mid now number s) none (left number)

  same_reading : (number : ℕ) → found_at number begun ≡ None → (role : Role) → reading_at now number role ≡ reading_at mid number role
  same_reading number none role = ap reading_in (none_there number none role)

  spares_to : (number : ℕ) → found_at number begun ≡ None → SparesSession before mid number → SparesSession before now number
  spares_to number none h role some = same_reading number none role ∙ h role some

  readies_to : (row : SessionRow) → found_at row.id begun ≡ None → ReadiesSession before mid row → ReadiesSession before now row
  readies_to row none h role = elim (h role) [
    | inl same ↦ inl (same_reading row.id none role ∙ same)
    | inr fresh ↦ inr (fresh.0, same_reading row.id none role ∙ fresh.1)
  ]

  module _ {all : Option (List ℕ)} (rest : Option (List ℕ)) (first last : ℕ) (r : Replayed all) (output : List ℕ) where
    runs : (number : ℕ) → HasRun (session_at number r.sessions.begun)
    runs number = run_of (session_at number r.sessions.begun) (r.timed number)

    kept : from.keeps r.openings r.sessions.begun r.events → to.keeps r.openings r.sessions.begun r.events
    kept h = keeps_to r.openings r.sessions.begun r.events runs r.laws.sound h

    finished_to : IsFinished from r output → IsFinished to r output
    finished_to h = record {
      ended = h.ended;
      printed = h.printed;
      transcript = h.transcript;
      sound = h.sound;
      alone = h.alone;
      output_is = h.output_is;
      disks = keeps_to r.openings r.sessions.begun h.printed runs h.sound h.disks;
    }

    unread_to : IsUnread from rest first last r output → IsUnread to rest first last r output
    unread_to h = record { rose = h.rose; taken = h.taken; output_is = h.output_is; disks = kept h.disks }

    faulted_to : IsFaulted from rest r output → IsFaulted to rest r output
    faulted_to h = record { faulty = h.faulty; taken = h.taken; output_is = h.output_is; disks = kept h.disks }

    stopped_to : (fault : Fault) → IsStopped from rest fault r output → IsStopped to rest fault r output
    stopped_to fault h = record {
      next = h.next;
      laws = h.laws;
      taken = h.taken;
      output_is = h.output_is;
      disks = keeps_to r.openings h.next.after.begun (r.events ++ h.next.printed)
          (stop_runs_all r.sessions h.next.line (session_in h.next.line) h.next.after h.next.printed fault h.next.stops runs) h.laws.sound h.disks;
    }

    overfilled_to : IsOverfilled from rest r output → IsOverfilled to rest r output
    overfilled_to (s, end, n, size, h) = (s, end, n, size, stopped_to (faults.Full s end n size) h)

    failed_to : (session : ℕ) → IsFailedAt from rest session r output → IsFailedAt to rest session r output
    failed_to session h = stopped_to _ h

    broken_to : (session : ℕ) (role : Role) → IsBroken from rest session role r output → IsBroken to rest session role r output
    broken_to session role h =
        let id = h.next.off.session.row.id in
        record {
          next = h.next;
          session_is = h.session_is;
          role_is = h.role_is;
          taken = h.taken;
          output_is = h.output_is;
          replies = h.replies;
          low = h.low;
          by_moments = h.by_moments;
          disks = (
            breaks_one d told is_told tells before mid now id (found_at id begun) (left id) r.openings (record { row = h.next.off.session.row; past = h.next.off.past }) h.disks.0 h.disks.1,
            others_to id r.openings r.sessions.begun r.events runs r.laws.sound h.disks.2,
          );
        }

    unopened_to : (session : ℕ) (role : Role) → IsUnopened from rest session role r output → IsUnopened to rest session role r output
    unopened_to session role h = record {
      row = h.row;
      next = h.next;
      session_is = h.session_is;
      taken = h.taken;
      output_is = h.output_is;
      disks = (spares_to h.row.id h.disks.0 h.disks.1, others_to h.row.id r.openings r.sessions.begun r.events runs r.laws.sound h.disks.2);
    }

    barred_to : IsBarred from rest r output → IsBarred to rest r output
    barred_to h = record {
      row = h.row;
      next = h.next;
      taken = h.taken;
      role = h.role;
      why = h.why;
      output_is = h.output_is;
      disks = (h.disks.1, readies_to h.row h.disks.0 h.disks.2, others_to h.row.id r.openings r.sessions.begun r.events runs r.laws.sound h.disks.3);
    }

    disk_down_to : (session : ℕ) (role : Role) → IsDiskDown from rest session role r output → IsDiskDown to rest session role r output
    disk_down_to session role (inl h) = inl (broken_to session role h)
    disk_down_to session role (inr h) = inr (unopened_to session role h)

    down_to : (session : ℕ) (role : Role) → IsDownAt from rest session role r output → IsDownAt to rest session role r output
    down_to session role (inl h) = inl (failed_to session h)
    down_to session role (inr h) = inr (disk_down_to session role h)

    output_to : IsOutput from rest first last r output → IsOutput to rest first last r output
    output_to (inl (e, h)) = inl (e, kept h)
    output_to (inr (inl h)) = inr (inl (finished_to h))
    output_to (inr (inr (inl h))) = inr (inr (inl (faulted_to h)))
    output_to (inr (inr (inr (inl h)))) = inr (inr (inr (inl (unread_to h))))
    output_to (inr (inr (inr (inr (inl h))))) = inr (inr (inr (inr (inl (overfilled_to h)))))
    output_to (inr (inr (inr (inr (inr (inl (session, role, h))))))) = inr (inr (inr (inr (inr (inl (session, role, down_to session role h))))))
    output_to (inr (inr (inr (inr (inr (inr h)))))) = inr (inr (inr (inr (inr (inr (barred_to h))))))

  module _ (all rest old new : Option (List ℕ)) (first last : ℕ) where
    pub ends_to : (result : Ended) → EndsAs from all rest old new first last result → EndsAs to all rest old new first last result
    ends_to ended.Done (r, o, h, w) = (r, o, finished_to rest first last r o h, w)
    ends_to ended.Memory (r, o, h, w) =
        (r, o, record { taken = h.taken; output_is = h.output_is; disks = readied_all d told is_told before mid now begun left r.sessions.begun h.disks.1 h.disks.0 }, w)
    ends_to ended.Write (r, o, (near, h), w) = (r, o, (near, output_to rest first last r o h), w)
    ends_to (ended.Stopped faults.Words) h = absurd h
    ends_to (ended.Stopped faults.Read) (r, o, h, w) = (r, o, unread_to rest first last r o h, w)
    ends_to (ended.Stopped (faults.Script number)) (r, o, h, w) = (r, o, faulted_to rest first last r o h, w)
    ends_to (ended.Stopped (faults.Device s role)) (r, o, h, w) = (r, o, down_to rest first last r o s role h, w)
    ends_to (ended.Stopped (faults.Disk s role number a b)) (r, o, h, w) = (r, o, barred_to rest first last r o h, w)
    ends_to (ended.Stopped (faults.Full s end n size)) (r, o, h, w) = (r, o, overfilled_to rest first last r o h, w)

    -- no disk of a low side alone fails
    alone_no_disk : (number id : ℕ) (role : Role) (p : _) → found_at number begun ≡ Some (sessions.Alone id p) → (r : Replayed all) (output : List ℕ) → IsDiskDown from rest number role r output → ⊥
    alone_no_disk number id role p e r output (inl h) =
        absurd (subst (λ (s : Option (Session D g)). HasComeTo d s (Some (Whole (record { row = h.next.off.session.row; past = h.next.off.past })))) (ap (λ (n : ℕ). found_at n begun) (sym h.session_is) ∙ e) h.disks.1)
    alone_no_disk number id role p e r output (inr h) = let none = h.disks.0 in cc (sym e ∙ ap (λ (n : ℕ). found_at n begun) h.session_is ∙ none)

    -- a low side alone fails only where a line tells so
    alone_failed : (number id : ℕ) (role : Role) (p : _) → found_at number begun ≡ Some (sessions.Alone id p) → (r : Replayed all) (output : List ℕ) → IsDownAt from rest number role r output → IsFailed to rest r output
    alone_failed number id role p e r output (inl h) = (number, failed_to rest first last r output number h)
    alone_failed number id role p e r output (inr h) = absurd (alone_no_disk number id role p e r output h)

    pub told_to_fail : (number id : ℕ) (role : Role) (p : _) → found_at number begun ≡ Some (sessions.Alone id p) → (result : Ended) → result ≡ ended.Stopped (faults.Device number role) → EndsAs from all rest old new first last result
        → Wrote all old new (λ r output. IsFailed to rest r output)
    told_to_fail number id role p e result is h =
        let (r, o, down, w) = subst (EndsAs from all rest old new first last) is h in (r, o, alone_failed number id role p e r o down, w)

    -- the fault names the disk that failed, unless a line told it of a low side alone
    down_one : (fails : ℕ → Role → Type 0) (number : ℕ) (role : Role) → fails number role ⊎ ((id : ℕ) × (p : _) × (found_at number begun ≡ Some (sessions.Alone id p)))
        → (r : Replayed all) (output : List ℕ) → IsDownAt from rest number role r output → IsDown to fails rest r output
    down_one fails number role cause r output (inl h) = inl (number, failed_to rest first last r output number h)
    down_one fails number role (inl failed) r output (inr h) = inr (number, role, disk_down_to rest first last r output number role h, failed)
    down_one fails number role (inr (id, p, e)) r output (inr h) = absurd (alone_no_disk number id role p e r output h)

    pub downs : (fails : ℕ → Role → Type 0) (number : ℕ) (role : Role) → fails number role ⊎ ((id : ℕ) × (p : _) × (found_at number begun ≡ Some (sessions.Alone id p)))
        → (result : Ended) → result ≡ ended.Stopped (faults.Device number role) → EndsAs from all rest old new first last result → Wrote all old new (λ r output. IsDown to fails rest r output)
    downs fails number role cause result is h =
        let (r, o, down, w) = subst (EndsAs from all rest old new first last) is h in (r, o, down_one fails number role cause r o down, w)

-- ---- the cause of status 7 ----

-- the disk failed while it was out, or when its session was to begin; or the session is a low side alone
pub named_so : {S D : Type 0} {g : Ghosts D} (m : Holdings S) (d : Meaning D) (before : Places) (first middle last : S) (begun : List (Session D g)) (number : ℕ) (role : Role) → before ≡ m.disk first
    → DeviceFails m d before first middle begun number role → m.disk_faults first ≤ m.disk_faults middle → m.disk_faults middle ≤ m.disk_faults last → AllLeftAs m.tells d (m.disk middle) (m.disk last) begun
    → (HasFailed d (m.disk middle) role (found_at number begun) → IsAloneOr (found_at number begun) (Rose (m.disk_faults middle) (m.disk_faults last)))
    → FailsAt m d first last number role ⊎ ((id : ℕ) × (p : _) × (found_at number begun ≡ Some (sessions.Alone id p)))
named_so {S} {D} {g} m d before first middle last begun number role is h low high left back = elim h [
  | inl (none, rose, fails) ↦
      let same : LeavesSession (m.disk middle) (m.disk last) number = subst (λ (s : Option (Session D g)). LeftAs m.tells d (m.disk middle) (m.disk last) number s) none (left number) in
      inl (
        omega (arith, rose, high),
        subst (λ (p : Places). FailsBetween m d p (m.disk last) number role) is (elim fails [
          | inl given ↦ inl given
          | inr out ↦ inr (record { lent = out.lent; given = out.given; disk = out.disk; out = out.out; rose = out.rose; back = λ told. same role ∙ out.back told })
        ]),
      )
  | inr failed ↦ of (found_at number begun) refl failed (back failed) (left number)
]
  where
    of : (s : Option (Session D g)) → found_at number begun ≡ s → HasFailed d (m.disk middle) role (found_at number begun) → IsAloneOr (found_at number begun) (Rose (m.disk_faults middle) (m.disk_faults last))
        → LeftAs m.tells d (m.disk middle) (m.disk last) number (found_at number begun) → FailsAt m d first last number role ⊎ ((id : ℕ) × (p : _) × (found_at number begun ≡ Some (sessions.Alone id p)))
    of None e failed rose left = absurd (subst (λ (s : Option (Session D g)). HasFailed d (m.disk middle) role s) e failed)
    of (Some (sessions.Alone id p)) e failed rose left = inr (id, p, e)
    of (Some (sessions.Whole id p)) e failed rose left =
        let mine : id ≡ number = found_id number begun (sessions.Whole id p) e in
        let (given, out, risen) = subst (λ (s : Option (Session D g)). HasFailed d (m.disk middle) role s) e failed in
        let later = subst (λ (s : Option (Session D g)). IsAloneOr s (Rose (m.disk_faults middle) (m.disk_faults last))) e rose in
        let on = (subst (λ (s : Option (Session D g)). LeftAs m.tells d (m.disk middle) (m.disk last) number s) e left).0 in
        let there : CameBackFailed m d (m.disk last) id role = record { lent = middle; given = given; disk = pump.disk_at role p; out = out; rose = risen; back = λ told. on told role } in
        inl (omega (arith, low, later), inr (subst (λ (n : ℕ). CameBackFailed m d (m.disk last) n role) mine there))

-- ---- the disks are back ----

back_one : {D : Type 0} {g : Ghosts D} (d : Meaning D) (told : Type 0) (before mid now : Places) (number : ℕ) (session : Option (Session D g)) → told → ((s : Session D g) → session ≡ Some s → id_of s ≡ number)
    → HandsOver told d before mid number session → LeftAs told d mid now number session → (role : Role) → IsOut (now (disk_name number role)) → IsOut (before (disk_name number role))
back_one d told before mid now number None t of hands left role out = hands t role (subst IsOut (left role) out)
back_one d told before mid now number (Some (sessions.Alone id p)) t of hands left role out = subst IsOut (left role ∙ hands role) out
back_one d told before mid now number (Some (sessions.Whole id p)) t of hands left role out =
    absurd (subst IsOut (left.0 t role) (subst (λ (n : ℕ). IsOut (now (disk_name n role))) (sym (of (sessions.Whole id p) refl)) out))

pub all_are_back : {D : Type 0} {g : Ghosts D} (d : Meaning D) (told : Type 0) (before mid now : Places) (begun : List (Session D g)) → told → AllHandOver told d before mid begun → AllLeftAs told d mid now begun → AllAreBack before now
all_are_back d told before mid now begun t hands left = λ name out.
    back_one d told before mid now name.session (found_at name.session begun) t (λ s is. found_id name.session begun s is) (hands name.session) (left name.session) name.role out

-- they were out
out_one : {D : Type 0} {g : Ghosts D} (d : Meaning D) (told : Type 0) (before mid : Places) (number : ℕ) (session : Option (Session D g)) → HandsOver told d before mid number session → AreOut mid session
out_one d told before mid number None hands = tt
out_one d told before mid number (Some (sessions.Alone id p)) hands = tt
out_one d told before mid number (Some (sessions.Whole id p)) hands = λ role. let h = hands role in subst IsOut (sym h.1) tt

pub all_are_out : {D : Type 0} {g : Ghosts D} (d : Meaning D) (told : Type 0) (before mid : Places) (begun : List (Session D g)) → AllHandOver told d before mid begun → AllAreOut mid begun
all_are_out d told before mid begun hands number = out_one d told before mid number (found_at number begun) (hands number)

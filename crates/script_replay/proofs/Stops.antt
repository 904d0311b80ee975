-- What becomes of a replay at a line, while its disks are with the sessions.
use Rattle.std.proofs.Common.{◌≡◌, ℕ, ◌+◌, ◌^◌, ◌<◌, ◌≤◌, ◌==◌, true, false, arith, length, List, [], ◌∷◌, ◌++◌, Option, None, Some, inl, inr, refl, sym, ap, ◌∙◌, subst, append-nil, append_assoc}
use Rattle.std.proofs.lemmas.Bool.{eqb-true, eqb-false}
use Rattle.disk_model.specs.Disk.{Meaning}
use Rattle.disk_model.specs.Shelf.{Holdings}
use Rattle.disk_model.specs.declared.disk.Disk.{Ghosts}
use Rattle.pump_link.specs.Causes.{AppendsPrefix}
use Rattle.disk_model.specs.declared.name.Role.{Role}
use Rattle.disk_model.specs.declared.name.Role.TheVariants as roles
use Rattle.recovery.specs.Faults.{why_number, why_values}
use Rattle.script_reader.specs.declared.line.Line.{Line}
use Rattle.script_reader.specs.declared.event.Event.{Event}
use Rattle.script_reader.specs.declared.fault.Fault.{Fault}
use Rattle.script_reader.specs.declared.fault.Fault.TheVariants.{Words, Read, Script as Faulty, Device, Disk, Full}
use Rattle.script_reader.specs.declared.lines.Lined.TheVariants as lined
use Rattle.script_reader.specs.Lines.{LineReading, to_come, AreLines, IsNextLine}
use Rattle.script_reader.specs.Openings.{Openings}
use Rattle.script_reader.specs.Scripts.{Begun, Whole, Alone, Stops}
use Rattle.script_reader.specs.Sessions.{Sessions as Script, session_number, session_in, session_at, with_session, events_of, StopsOne, ScriptStops}
use Rattle.script_reader.specs.Transcript.{text, fault_line}
use Rattle.pump_core.specs.Replies.{LowReplies}
use Rattle.script_reader.specs.Readouts.{low_lines, Sound}
use Rattle.script_reader.proofs.Apart.{session_at-own, session_at-other}
use Rattle.script_reader.proofs.Beside.{has_number}
use Rattle.script_reader.proofs.Named.{stops_of}
use Rattle.script_reader.proofs.Replying.{low-append}
use Rattle.script_replay.proofs.Lost.{lost_decides, moments_decide}
use Rattle.script_replay.proofs.Broken.{breaks_grows}
use Rattle.script_replay.specs.Outputs.{Gathers}
use Rattle.script_replay.specs.Shelves.{Places, Shelved}
use Rattle.script_replay.specs.Sessions.{StandsForRunning, HasComeTo, Lends, found_at, EachStandsFor, AllHaveComeTo, AllLend}
use Rattle.script_replay.specs.Runners.{Finds, AllFind, IsWhere, LentAt, AllLent, OthersLent, lent, TurnGoes, TurnStops, Closes, EndsAs, IsDeviceFaultAt, IsDeviceFaultOf, DeviceFails, IsLineFault}
use Rattle.script_replay.specs.declared.session.Session.{Session}
use Rattle.script_replay.specs.declared.session.Session.TheVariants as sessions
use Rattle.script_replay.specs.declared.outcome.LineOutcome.{LineOutcome}
use Rattle.script_replay.specs.declared.outcome.LineOutcome.TheVariants as outcomes
use Rattle.script_replay.specs.declared.ended.Ended.{Ended}
use Rattle.script_replay.specs.declared.ended.Ended.TheVariants as ended
use Rattle.script_replay.proofs.Gathered.{appends_then, prefix_then, prefix_more}
use Rattle.script_replay.proofs.Kept.{each_sound, laws_at_stop}
use Rattle.script_replay.proofs.Numbered.{stands_at}
use Rattle.script_replay.proofs.SoFar.{replayed, next_line, near_next, shown, wrote, wrote_prefix, unshown, unprinted, stopped_text}
use Rattle.script_replay.proofs.Widened.{advance, led_there, led_beside}
use Rattle.script_replay.specs.Replays.{Replayed, IsSoFar, Stopping, BreaksLine, Beginning, IsNear, IsStopped, IsOverfilled, IsBroken, IsBarred, IsDownAt, IsOutput, IsCutOff, Wrote, WrotePrefix, lost_in}

-- ---- the disks ----

module _ {D : Type 0} {g : Ghosts D} (d : Meaning D) where
  came_one : (session : Option (Session D g)) (running : Option Begun) → StandsForRunning d session running → HasComeTo d session running
  came_one None None h = tt
  came_one (Some (sessions.Whole id p)) (Some (Whole s)) h = (h.is_of.0, h.is_of.1, inl h.is_of.2)
  came_one (Some (sessions.Alone id p)) (Some (Alone s)) h = tt
  came_one (Some (sessions.Whole id p)) (Some (Alone s)) h = absurd h.is_of
  came_one (Some (sessions.Alone id p)) (Some (Whole s)) h = absurd h.is_of
  came_one None (Some s) h = absurd h
  came_one (Some t) None h = absurd h

  pub came_all : (begun : List (Session D g)) (running : List Begun) → EachStandsFor d begun running → AllHaveComeTo d begun running
  came_all begun running each number = came_one (found_at number begun) (session_at number running) (stands_at d number begun running each)

  where_one : (before now : Places) (number : ℕ) (session : Option (Session D g)) (running : Option Begun) → Lends d before now number session → HasComeTo d session running → IsWhere before now number running
  where_one before now number None None l h = l
  where_one before now number (Some (sessions.Whole id p)) (Some (Whole s)) l h = tt
  where_one before now number (Some (sessions.Alone id p)) (Some (Alone s)) l h = l
  where_one before now number (Some (sessions.Whole id p)) (Some (Alone s)) l h = absurd h
  where_one before now number (Some (sessions.Alone id p)) (Some (Whole s)) l h = absurd h
  where_one before now number None (Some s) l h = absurd h
  where_one before now number (Some t) None l h = absurd h

  pub lent_one : (before now : Places) (number : ℕ) (session : Option (Session D g)) (o : Openings) (running : Option Begun) → Lends d before now number session → Finds before o running → HasComeTo d session running → LentAt d before now number session o running
  lent_one before now number session o running l found come = record { found = found; come = come; at = where_one before now number session running l come }

  lent_all : (before now : Places) (begun : List (Session D g)) (o : Openings) (running : List Begun) → AllLend d before now begun → AllFind before o running → AllHaveComeTo d begun running → AllLent d before now begun o running
  lent_all before now begun o running l found come number = lent_one before now number (found_at number begun) o (session_at number running) (l number) (found number) (come number)

  -- what is known of them, at each line
  pub keeps_so : (before now : Places) (begun : List (Session D g)) (o : Openings) (t : Script) (printed : List Event)
      → AllLend d before now begun → AllFind before o t.begun → EachStandsFor d begun t.begun → (lent d before now begun).keeps o t.begun printed
  keeps_so before now begun o t printed l found h = lent_all before now begun o t.begun l found (came_all begun t.begun h)

  none_come : (session : Option (Session D g)) → HasComeTo d session None → session ≡ None
  none_come None h = refl
  none_come (Some s) h = absurd h

-- ---- the line that stops ----

-- how the output ends, by the fault
abbrev EndOf : Shelved → {all : Option (List ℕ)} → Option (List ℕ) → Fault → Replayed all → List ℕ → Type 0
EndOf shelf left Words r output = ⊥
EndOf shelf left Read r output = ⊥
EndOf shelf left (Faulty number) r output = ⊥
EndOf shelf left (Device session role) r output = IsDownAt shelf left session role r output
EndOf shelf left (Disk session role number first second) r output = IsBarred shelf left r output
EndOf shelf left (Full session end size_of_message size) r output = IsOverfilled shelf left r output

end_wrote : (shelf : Shelved) (all left old new : Option (List ℕ)) (before after : ℕ) (fault : Fault) → Wrote all old new (λ r output. EndOf shelf left fault r output) → EndsAs shelf all left old new before after (ended.Stopped fault)
end_wrote shelf all left old new before after Words h = h.2
end_wrote shelf all left old new before after Read h = absurd h.2
end_wrote shelf all left old new before after (Faulty number) h = absurd h.2
end_wrote shelf all left old new before after (Device session role) h = h
end_wrote shelf all left old new before after (Disk session role number first second) h = h
end_wrote shelf all left old new before after (Full session end size_of_message size) h = h

end_output : (shelf : Shelved) (all left : Option (List ℕ)) (before after : ℕ) (fault : Fault) (r : Replayed all) (output : List ℕ) → EndOf shelf left fault r output → IsOutput shelf left before after r output
end_output shelf all left before after Words r output h = absurd h
end_output shelf all left before after Read r output h = absurd h
end_output shelf all left before after (Faulty number) r output h = absurd h
end_output shelf all left before after (Device session role) r output h = inr (inr (inr (inr (inr (inl (session, role, h))))))
end_output shelf all left before after (Disk session role number first second) r output h = inr (inr (inr (inr (inr (inr h)))))
end_output shelf all left before after (Full session end size_of_message size) r output h = inr (inr (inr (inr (inl h))))

-- only these two faults stop a script at a line that can be applied
stop_of : (shelf : Shelved) (all left : Option (List ℕ)) (running : Option Begun) (line : Line) (end : Option Begun) (printed : List Event) (fault : Fault) (r : Replayed all) (output : List ℕ)
    → Stops running line end printed fault → IsStopped shelf left fault r output → EndOf shelf left fault r output
stop_of shelf all left None line end printed fault r output h k = absurd h
stop_of shelf all left (Some (Whole s)) line end printed (Full session at n size) r output h k = (session, at, n, size, k)
stop_of shelf all left (Some (Whole s)) line end printed (Device session role) r output (timely, (q, at, n, size, over, e, f)) k = cc
stop_of shelf all left (Some (Whole s)) line end printed (Disk session role number first second) r output (timely, (q, at, n, size, over, e, f)) k = cc
stop_of shelf all left (Some (Whole s)) line end printed Words r output (timely, (q, at, n, size, over, e, f)) k = cc
stop_of shelf all left (Some (Whole s)) line end printed Read r output (timely, (q, at, n, size, over, e, f)) k = cc
stop_of shelf all left (Some (Whole s)) line end printed (Faulty number) r output (timely, (q, at, n, size, over, e, f)) k = cc
stop_of shelf all left (Some (Alone s)) line end printed (Device session role) r output (timely, (q, step, e, f)) k =
    let is_low : role ≡ roles.Low = cc in
    inl (subst (λ (x : Role). IsStopped shelf left (Device session x) r output) is_low k)
stop_of shelf all left (Some (Alone s)) line end printed (Full session at n size) r output (timely, (q, step, e, f)) k = cc
stop_of shelf all left (Some (Alone s)) line end printed (Disk session role number first second) r output (timely, (q, step, e, f)) k = cc
stop_of shelf all left (Some (Alone s)) line end printed Words r output (timely, (q, step, e, f)) k = cc
stop_of shelf all left (Some (Alone s)) line end printed Read r output (timely, (q, step, e, f)) k = cc
stop_of shelf all left (Some (Alone s)) line end printed (Faulty number) r output (timely, (q, step, e, f)) k = cc

-- nothing is printed
silent_gathers : (held later : List ℕ) (a b : Option (List ℕ)) (printed : List Event) → printed ≡ [] → Gathers held later a b (text printed) → Gathers held later a b []
silent_gathers held later a b printed e w = subst (λ (x : List Event). Gathers held later a b (text x)) e w

-- .. which is added to what was printed
pub barred : (old now mid : Option (List ℕ)) (held later : List ℕ) (events printed : List Event) → Gathers [] held old now (text events) → printed ≡ [] → Gathers held later now mid (text printed)
    → Gathers [] later old mid (text events)
barred old now mid held later events printed w e more = shown held later old now mid (text events) w (silent_gathers held later now mid printed e more)

silent_prefix : (held : List ℕ) (a b : Option (List ℕ)) (printed : List Event) → printed ≡ [] → AppendsPrefix a b (held ++ text printed) → AppendsPrefix a b held
silent_prefix held a b printed e p =
    let is : held ++ text printed ≡ held = ap (λ (x : List Event). held ++ text x) e ∙ append-nil held in
    subst (λ (x : List ℕ). AppendsPrefix a b x) is p

-- where a session that has begun stops, its disks were found to hold the same
finds_stop : (before : Places) (o : Openings) (running : Option Begun) (line : Line) (end : Option Begun) (printed : List Event) (fault : Fault) → Stops running line end printed fault → Finds before o running → Finds before o end
finds_stop before o None line end printed fault h found = absurd h
finds_stop before o (Some (Whole s)) line end printed fault (timely, (q, at, n, size, over, e, f)) found = subst (λ (x : Option Begun). Finds before o x) (sym f) found
finds_stop before o (Some (Alone s)) line end printed fault (timely, (q, step, e, f)) found = subst (λ (x : Option Begun). Finds before o x) (sym f) tt

-- the session that a line stops has the number that it names
pub stop_number : (number : ℕ) (t : Script) (line : Line) (s : Begun) (printed : List Event) (fault : Fault) → Stops (session_at number t.begun) line (Some s) printed fault → session_number s ≡ number
stop_number number t line s printed fault h = (stops_of (session_at number t.begun) line number (Some s) printed fault (has_number number t.begun (session_at number t.begun) refl) h).session

finds_stop_all : (before : Places) (o : Openings) (t : Script) (line : Line) (at : Option ℕ) (u : Script) (printed : List Event) (fault : Fault) → StopsOne t line at u printed fault → AllFind before o t.begun → AllFind before o u.begun
finds_stop_all before o t line None u printed fault h found = absurd h
finds_stop_all before o t line (Some n) u printed fault (turn, (s, stops, e)) found = λ k.
    let mine = stop_number n t line s printed fault stops in
    elim (k == n) as (λ b. (k == n) ≡ b → Finds before o (session_at k u.begun)) [
      | true ↦ λ is. subst (λ (x : Option Begun). Finds before o x) (sym (led_there k t line s u e (mine ∙ sym (eqb-true k n is))))
          (finds_stop before o (session_at n t.begun) line (Some s) printed fault stops (found n))
      | false ↦ λ is. subst (λ (x : Option Begun). Finds before o x) (sym (led_beside k n t line s u e mine (eqb-false k n is))) (found k)
    ] refl

-- how the output ends where a line of a script stops it
stop_of_all : (shelf : Shelved) (all left : Option (List ℕ)) (t : Script) (line : Line) (at : Option ℕ) (u : Script) (printed : List Event) (fault : Fault) (r : Replayed all) (output : List ℕ)
    → StopsOne t line at u printed fault → IsStopped shelf left fault r output → EndOf shelf left fault r output
stop_of_all shelf all left t line None u printed fault r output h k = absurd h
stop_of_all shelf all left t line (Some n) u printed fault r output (turn, (s, stops, e)) k = stop_of shelf all left (session_at n t.begun) line (Some s) printed fault r output stops k

-- after these lines this one was read
module _ {D : Type 0} (g : Ghosts D) (d : Meaning D) (bef mid : Places) (begun : List (Session D g)) (o : Openings) (all left rest old now : Option (List ℕ)) (before after : ℕ) (from to : LineReading) (line : Line) (n : IsNextLine from to left rest (lined.Line line))
    (lines : List Line) (events : List Event) (t : Script) (s : IsSoFar o all (to_come from left) lines events t) (few : length lines + 1 < 2 ^ 32)
    (held : List ℕ) (w : Gathers [] held old now (text events)) (found : AllFind bef o t.begun) where
  abbrev shelf : Shelved
  shelf = lent d bef mid begun

  near : IsNear (to_come from left) rest
  near = near_next from to left rest line n

  counted : length lines < 2 ^ 32
  counted = omega (arith, few)

  abbrev before_it : Replayed all
  before_it = replayed o all (to_come from left) lines events t s counted

  spelled : AreLines (to_come from left) (line ∷ []) (to_come to rest)
  spelled = next_line from to left rest line n

  abbrev stopping : (end : Script) (printed : List Event) (fault : Fault) → ScriptStops t line end printed fault → Stopping (to_come from left) (length lines) t fault
  stopping end printed fault h = record { few = few; line = line; left = to_come to rest; spelled = spelled; after = end; printed = printed; stops = h }

  abbrev output_of : List Event → Fault → List ℕ
  output_of printed fault = text events ++ (text printed ++ fault_line fault)

  broken_of : (printed : List Event) (b : BreaksLine t line printed) → AllHaveComeTo d begun (with_session (Whole (record { row = b.session.row; past = b.past })) t.begun) → AllLend d bef mid begun
      → IsBroken shelf rest b.session.row.id b.role before_it (output_of printed (Device b.session.row.id b.role))
  broken_of printed b come lends =
      let id = b.session.row.id in
      let last : Begun = Whole (record { row = b.session.row; past = b.past }) in
      record {
        next = record { few = few; line = line; left = to_come to rest; spelled = spelled; printed = printed; off = b };
        session_is = refl;
        role_is = refl;
        taken = near;
        output_is = sym (stopped_text events printed (Device id b.role));
        replies = subst (LowReplies b.session.row b.past.history) (sym (low-append (events_of id events) printed))
            (breaks_grows b.session.row b.session.past line b.role b.past printed b.breaks (low_lines (events_of id events))
            (subst (λ (x : Option Begun). Sound x (events_of id events)) b.there (each_sound o lines t events (inl s.leads) id)).replies);
        low = lost_decides o lines (events ++ printed) (λ number. lost_in number b) (inr (t, events, s.leads, line, printed, b, refl, λ number. refl));
        by_moments = moments_decide o lines (events ++ printed) (λ number. lost_in number b) (inr (t, events, s.leads, line, printed, b, refl, λ number. refl));
        disks = (
          subst (λ (x : Option Begun). Finds bef o x) b.there (found id),
          subst (λ (x : Option Begun). HasComeTo d (found_at id begun) x) (session_at-own id last t.begun refl) (come id),
          λ k apart. lent_one d bef mid k (found_at k begun) o (session_at k t.begun) (lends k) (found k)
              (subst (λ (x : Option Begun). HasComeTo d (found_at k begun) x) (session_at-other k last t.begun (λ e. apart (sym e))) (come k)),
        );
      }

  end_of : (printed : List Event) (fault : Fault) → TurnStops d bef mid t line begun printed fault → EndOf shelf rest fault before_it (output_of printed fault)
  end_of printed fault (inl (end, h, come, lends)) =
      stop_of_all shelf all rest t line (session_in line) end printed fault before_it (output_of printed fault) h (record {
        next = stopping end printed fault h;
        laws = laws_at_stop o lines t events line end printed fault s.leads h;
        taken = near;
        output_is = sym (stopped_text events printed fault);
        disks = lent_all d bef mid begun o end.begun lends (finds_stop_all bef o t line (session_in line) end printed fault h found) come;
      })
  end_of printed fault (inr (inl (b, is, come, lends))) =
      subst (λ (x : Fault). EndOf shelf rest x before_it (output_of printed x)) (sym is) (inr (inl (broken_of printed b come lends)))
  end_of printed fault (inr (inr b)) =
      let next : Beginning (to_come from left) (length lines) t b.row =
      record { few = few; left = to_come to rest; spelled = subst (λ (x : Line). AreLines (to_come from left) (x ∷ []) (to_come to rest)) b.line_is spelled; in_turn = b.in_turn; none = b.none; lawful = b.lawful } in
      let quiet : (f : Fault) → text events ++ (text printed ++ fault_line f) ≡ text events ++ fault_line f = λ f. ap (λ (x : List Event). text events ++ (text x ++ fault_line f)) b.silent in
      let absent : found_at b.row.id begun ≡ None = none_come d (found_at b.row.id begun) (subst (λ (x : Option Begun). HasComeTo d (found_at b.row.id begun) x) b.none (b.come b.row.id)) in
      let others : OthersLent d bef mid b.row.id begun o t.begun =
      λ k apart. lent_one d bef mid k (found_at k begun) o (session_at k t.begun) (b.others k apart) (found k) (b.come k) in
      elim b.cause [
        | inl c ↦ subst (λ (x : Fault). EndOf shelf rest x before_it (output_of printed x)) (sym c.1)
            (inr (inr (record { row = b.row; next = next; session_is = refl; taken = near; output_is = quiet (Device b.row.id c.0); disks = (absent, c.2, others) })))
        | inr c ↦ subst (λ (x : Fault). EndOf shelf rest x before_it (output_of printed x)) (sym c.2)
            (record { row = b.row; next = next; taken = near; role = c.0; why = c.1; output_is = quiet (Disk b.row.id c.0 (why_number c.1) (why_values c.1).0 (why_values c.1).1); disks = (absent, c.3, c.4, others) })
      ]

  -- it stops the script
  pub stops : (later : List ℕ) (mid_out new : Option (List ℕ)) (rose risen : ℕ) (printed : List Event) (fault : Fault) (result : Ended) → TurnStops d bef mid t line begun printed fault
      → Gathers held later now mid_out (text printed) → Closes mid_out new rose risen (later ++ fault_line fault) (ended.Stopped fault) result → EndsAs shelf all rest old new before after result
  stops later mid_out new rose risen printed fault result h more c =
      elim c [
        | inl is ↦ rw is.0 (end_wrote shelf all rest old new before after fault
            (wrote shelf o all (to_come from left) rest old now new before after lines events t s counted held w (λ r output. EndOf shelf rest fault r output) (text printed ++ fault_line fault) (end_of printed fault h)
            (appends_then held later now mid_out new (text printed) (fault_line fault) more is.1)))
        | inr is ↦ rw is.0 (wrote_prefix shelf o all (to_come from left) rest old now new before after lines events t s counted held w (text printed ++ fault_line fault) (inr (inl near))
            (end_output shelf all rest before after fault before_it (output_of printed fault) (end_of printed fault h))
            (prefix_then held later now mid_out new (text printed) (fault_line fault) more is.1))
      ]

  -- what it prints could not be written
  pub cut_off : (new : Option (List ℕ)) (printed : List Event) (outcome : LineOutcome) → TurnGoes d bef mid t line begun printed outcome → AppendsPrefix now new (held ++ text printed) → WrotePrefix all old new (IsCutOff shelf rest before after)
  cut_off new printed outcomes.Applied (u, leads, stand, lends) p =
      let a = advance bef o all (to_come from left) lines events t line u printed s found leads in
      unprinted shelf a.openings all (to_come from left) (to_come to rest) rest old now new before after lines events printed t u line n.0 held a.so_far few n.1 n.2 n.3 a.leads
      (keeps_so d bef mid begun a.openings u (events ++ printed) lends a.found stand) near w p
  cut_off new printed outcomes.Refused (refuses, silent, stand, lends) p =
      unshown shelf o all (to_come from left) rest old now new before after lines events t s counted held w (keeps_so d bef mid begun o t events lends found stand) near (silent_prefix held now new printed silent p)
  cut_off new printed outcomes.Memory h p = absurd h
  cut_off new printed outcomes.Unwritten h p = absurd h
  cut_off new printed (outcomes.Stopped fault) h p =
      wrote_prefix shelf o all (to_come from left) rest old now new before after lines events t s counted held w (text printed ++ fault_line fault) (inr (inl near))
      (end_output shelf all rest before after fault before_it (output_of printed fault) (end_of printed fault h))
      (rw (← append_assoc held (text printed) (fault_line fault)) (prefix_more now new (held ++ text printed) (fault_line fault) p))

-- ---- the cause of a failed device ----

pub closed_device : (old new : Option (List ℕ)) (before now : ℕ) (bytes : List ℕ) (fault : Fault) (result : Ended) (number : ℕ) (role : Role) → Closes old new before now bytes (ended.Stopped fault) result → IsDeviceFaultOf number role result → IsDeviceFaultAt number role fault
closed_device old new before now bytes fault result number role c h = elim c [
  | inl is ↦ subst (IsDeviceFaultOf number role) is.0 h
  | inr is ↦ absurd (subst (IsDeviceFaultOf number role) is.0 h)
]

pub stop_device : {S D : Type 0} {g : Ghosts D} (m : Holdings S) (d : Meaning D) (before : Places) (first mid last : S) (begun : List (Session D g)) (number : ℕ) (role : Role)
    → m.disk_faults first ≤ m.disk_faults mid → DeviceFails m d before mid last begun number role → DeviceFails m d before first last begun number role
stop_device m d before first mid last begun number role low (inl (none, rose, fails)) = inl (none, omega (arith, low, rose), fails)
stop_device m d before first mid last begun number role low (inr failed) = inr failed

-- ---- the other faults ----

-- the end is this fault, or a failed write
pub closed_not : (old new : Option (List ℕ)) (before now : ℕ) (bytes : List ℕ) (fault other : Fault) (result : Ended) → Closes old new before now bytes (ended.Stopped fault) result → (fault ≡ other → ⊥) → result ≡ ended.Stopped other → ⊥
closed_not old new before now bytes fault other result c apart e = elim c [ inl is ↦ apart (same fault other (sym is.0 ∙ e)) | inr is ↦ cc (sym is.0 ∙ e) ]
  where
    same : (a b : Fault) → ended.Stopped a ≡ ended.Stopped b → a ≡ b
    same a b e = cc

pub line_fault : (fault other : Fault) → IsLineFault fault → (IsLineFault other → ⊥) → fault ≡ other → ⊥
line_fault fault other line none e = none (subst IsLineFault e line)

-- A script whose lines can all be applied is replayed to its end, unless something outside it fails.
use Rattle.std.proofs.Common.{◌≡◌, ◌⊎◌, inl, inr, ℕ, ◌^◌, ◌<◌, ◌==◌, true, false, List, [], ◌∷◌, Option, None, Some, length, refl, sym, ap, ◌∙◌, subst}
use Rattle.std.specs.List.{AllByRecursion}
use Rattle.std.proofs.lemmas.Bool.{eqb-true, eqb-false}
use Rattle.disk_model.specs.declared.name.Role.{Role}
use Rattle.disk_model.specs.declared.name.Role.TheVariants as roles
use Rattle.pump_frame.specs.Counts.{Rose}
use Rattle.pump_frame.specs.declared.row.SessionRow.{SessionRow}
use Rattle.script_reader.specs.Grammar.{IsLine}
use Rattle.script_reader.specs.declared.event.Event.{Event}
use Rattle.script_reader.specs.declared.fault.Fault.{Fault}
use Rattle.script_reader.specs.declared.fault.Fault.TheVariants as faults
use Rattle.script_reader.specs.declared.line.Line.{Line}
use Rattle.script_reader.specs.declared.line.Line.TheVariants as lines
use Rattle.script_reader.specs.Lines.{AreLines}
use Rattle.script_reader.specs.Openings.{Openings}
use Rattle.script_reader.specs.Scripts.{Begun, Whole, Alone, Stops}
use Rattle.script_reader.specs.Sessions.{Sessions, no_sessions, session_at, events_of, StopsOne}
use Rattle.script_reader.proofs.LineEnds.{one_prefix}
use Rattle.script_reader.proofs.LineLaws.{one_line}
use Rattle.script_reader.proofs.OneReading.{taken}
use Rattle.script_replay.specs.Ends.{end_status}
use Rattle.script_replay.specs.Replays.{IsSoFar, Replayed, IsFaultyAt, fault_after, Stopping, IsFaulted, IsStopped, IsBarred, IsDown, Wrote}
use Rattle.script_replay.specs.Runners.{EndsAs, Finds, AllFind}
use Rattle.script_replay.specs.Shelves.{Places, shelved, IsKept, AreKept}
use Rattle.script_replay.specs.Statuses.{CanFinish, IsEnd, IsFoundFor}
use Rattle.script_replay.specs.declared.ended.Ended.{Ended}
use Rattle.script_replay.specs.declared.ended.Ended.TheVariants as ended
use Rattle.script_replay.proofs.Alike.{lead_alike}
use Rattle.script_replay.proofs.Compared.{no_line, same_line, told_rest}
use Rattle.script_replay.proofs.OneStatus.{ends_at}
use Rattle.script_replay.proofs.SoFar.{Keeps-same}
use Rattle.script_replay.proofs.Stops.{stop_number}
use Rattle.script_replay.proofs.Widened.{led_there, led_beside}
use Rattle.two_worlds.proofs.Opening.Refusing.{never_refused}

-- ---- lines of one script ----

-- what holds of all lines of a script holds of each that it begins with, and of the next one
record Prefix (P : Line → Type 0) (rest : List ℕ) (read : List Line) : Type 0 where
  all : AllByRecursion P read
  next : (line : Line) (left : Option (List ℕ)) → AreLines (Some rest) (line ∷ []) left → P line

prefix : (P : Line → Type 0) (all none rest : List ℕ) (script read : List Line) → AreLines (Some all) script (Some none) → none ≡ [] → AreLines (Some all) read (Some rest) → AllByRecursion P script → Prefix P rest read
prefix P all none rest [] [] p empty q h = record { all = tt; next = λ line left k. absurd (no_line rest line left k (q ∙ sym p ∙ empty)) }
prefix P all none rest (x ∷ xs) [] p empty q h = record {
  all = tt;
  next = λ line left k. subst P (same_line all x line p.1 left (p.0, p.1, p.2, p.3, p.4, Keeps-same p.1) (subst (λ (r : List ℕ). AreLines (Some r) (line ∷ []) left) q k)) h.0;
}
prefix P all none rest [] (y ∷ ys) p empty q h = absurd (no_line all y q.1 (q.0, q.1, q.2, q.3, q.4, Keeps-same q.1) (sym p ∙ empty))
prefix P all none rest (x ∷ xs) (y ∷ ys) p empty q h =
    let t = taken all p.0 p.1 p.4 in
    let u = taken all q.0 q.1 q.4 in
    let one = one_prefix p.0 q.0 t.0 u.0 p.2 q.2 (sym t.2 ∙ u.2) in
    let line : x ≡ y = one_line q.0 x y (subst (IsLine x) one.0 p.3) q.3 in
    let left : AreLines (Some u.0) xs (Some none) = subst (λ (r : Option (List ℕ)). AreLines r xs (Some none)) (t.1 ∙ ap Some one.1) p.5 in
    let right : AreLines (Some u.0) ys (Some rest) = subst (λ (r : Option (List ℕ)). AreLines r ys (Some rest)) u.1 q.5 in
    let later = prefix P u.0 none rest xs ys left empty right h.1 in
    record { all = (subst P line h.0, later.all); next = later.next }

-- ---- what was found ----

module _ (before after : Places) (o : Openings) where
  kept_found : (number : ℕ) (running : Option Begun) (printed : List Event) → IsKept before after number o running printed → Finds before o running
  kept_found number None printed h = tt
  kept_found number (Some (Whole s)) printed h = h.found
  kept_found number (Some (Alone s)) printed h = tt

  all_kept : (begun : List Begun) (printed : List Event) → AreKept before after o begun printed → AllFind before o begun
  all_kept begun printed h = λ k. kept_found k (session_at k begun) (events_of k printed) (h k)

  stop_back : (running : Option Begun) (line : Line) (end : Option Begun) (printed : List Event) (fault : Fault) → Stops running line end printed fault → Finds before o end → Finds before o running
  stop_back None line end printed fault h found = absurd h
  stop_back (Some (Whole s)) line end printed fault (timely, (q, at, n, size, over, e, f)) found = subst (λ (x : Option Begun). Finds before o x) f found
  stop_back (Some (Alone s)) line end printed fault h found = tt

  -- what was found before a line that stops the script
  stops_back : (t : Sessions) (line : Line) (at : Option ℕ) (u : Sessions) (printed : List Event) (fault : Fault) → StopsOne t line at u printed fault → AllFind before o u.begun → AllFind before o t.begun
  stops_back t line None u printed fault h found = absurd h
  stops_back t line (Some n) u printed fault (turn, (s, stops, e)) found = λ k.
      let mine = stop_number n t line s printed fault stops in
      elim (k == n) as (λ b. (k == n) ≡ b → Finds before o (session_at k t.begun)) [
        | true ↦ λ is.
            let same : k ≡ n = eqb-true k n is in
            subst (λ (j : ℕ). Finds before o (session_at j t.begun)) (sym same)
            (stop_back (session_at n t.begun) line (Some s) printed fault stops (subst (λ (x : Option Begun). Finds before o x) (led_there n t line s u e mine) (found n)))
        | false ↦ λ is. subst (λ (x : Option Begun). Finds before o x) (led_beside k n t line s u e mine (eqb-false k n is)) (found k)
      ] refl

-- ---- a script that can finish ----

module _ (before after : Places) (bytes : List ℕ) (can : CanFinish before bytes) (r : Replayed (Some bytes)) (found : AllFind before r.openings r.sessions.begun) where
  abbrev o : Openings
  o = can.openings

  -- the lines that were replayed go the same way on what it begins on
  record Same : Type 0 where
    rest : List ℕ
    rest_is : r.rest ≡ Some rest
    so_far : IsSoFar o (Some bytes) (Some rest) r.lines r.events r.sessions
    next : (line : Line) (left : Option (List ℕ)) → AreLines (Some rest) (line ∷ []) left → IsFoundFor before o line

  same : Same
  same =
      let told = told_rest bytes r.lines r.rest r.so_far.spelled in
      let spelled = subst (λ (x : Option (List ℕ)). AreLines (Some bytes) r.lines x) told.1 r.so_far.spelled in
      let f = prefix (IsFoundFor before o) bytes can.ends.rest told.0 can.ends.lines r.lines can.ends.so_far.spelled can.ends.is_end spelled can.found in
      record {
        rest = told.0;
        rest_is = told.1;
        so_far = record { spelled = spelled; leads = lead_alike before r.openings o no_sessions r.lines r.sessions r.events r.so_far.leads (λ k. tt) found f.all };
        next = f.next;
      }

  -- so it has no other end where they come to
  no_end : (fault : Fault) → (IsFaultyAt (length r.lines) r.rest r.sessions × (fault ≡ fault_after (length r.lines))) ⊎ Stopping r.rest (length r.lines) r.sessions fault → ⊥
  no_end fault ends =
      let s = same in
      let at : IsEnd s.rest (length r.lines) r.sessions (Some fault) =
      subst (λ (x : Option (List ℕ)). (IsFaultyAt (length r.lines) x r.sessions × (fault ≡ fault_after (length r.lines))) ⊎ Stopping x (length r.lines) r.sessions fault) s.rest_is ends in
      let same_end : None ≡ Some fault = ends_at o bytes None can.ends r.lines r.events r.sessions s.rest (Some fault) s.so_far r.few at in
      cc

session_small : (row : SessionRow) (bytes : List ℕ) → IsLine (lines.Session row) bytes → row.id < 2 ^ 32
session_small row bytes h = elim h.1 [
  | inl s ↦ absurd (cc)
  | inr s ↦ s.1.0.id
]

module _ (before after : Places) (bytes : List ℕ) (can : CanFinish before bytes) (r : Replayed (Some bytes)) (left : Option (List ℕ)) (output : List ℕ) where
  not_faulted : IsFaulted (shelved before after) left r output → ⊥
  not_faulted h = no_end before after bytes can r (all_kept before after r.openings r.sessions.begun r.events h.disks) (fault_after (length r.lines)) (inl (h.faulty, refl))

  not_stopped : (fault : Fault) → IsStopped (shelved before after) left fault r output → ⊥
  not_stopped fault h =
      no_end before after bytes can r
      (stops_back before after r.openings r.sessions h.next.line _ h.next.after h.next.printed fault h.next.stops (all_kept before after r.openings h.next.after.begun _ h.disks))
      fault (inr h.next)

  not_barred : IsBarred (shelved before after) left r output → ⊥
  not_barred h =
      let found : AllFind before r.openings r.sessions.begun = λ k.
      elim (k == h.row.id) as (λ b. (k == h.row.id) ≡ b → Finds before r.openings (session_at k r.sessions.begun)) [
        | true ↦ λ is. subst (λ (x : Option Begun). Finds before r.openings x) (sym (ap (λ (j : ℕ). session_at j r.sessions.begun) (eqb-true k h.row.id is) ∙ h.next.none)) tt
        | false ↦ λ is. kept_found before after r.openings k (session_at k r.sessions.begun) (events_of k r.events) (h.disks.2 k (eqb-false k h.row.id is))
      ] refl in
      let s = same before after bytes can r found in
      let spelled = subst (λ (x : Option (List ℕ)). AreLines x (lines.Session h.row ∷ []) h.next.left) s.rest_is h.next.spelled in
      never_refused h.row h.next.lawful (session_small h.row spelled.0 spelled.3) (can.openings h.row.id) _ _ _ (s.next (lines.Session h.row) h.next.left spelled) h.role h.why h.disks.0

-- ---- its status ----

module _ (before after : Places) (fails : ℕ → Role → Type 0) (all left old new : Option (List ℕ)) (was now : ℕ) (bytes : List ℕ) (told : all ≡ Some bytes) (can : CanFinish before bytes) where
  abbrev Ends : Ended → Type 0
  Ends end = EndsAs (shelved before after) all left old new was now end

  -- an end that no such script has
  never : (End : (a : Option (List ℕ)) → Replayed a → List ℕ → Type 0) → ((r : Replayed (Some bytes)) (output : List ℕ) → End (Some bytes) r output → ⊥) → Wrote all old new (End all) → ⊥
  never End nowhere (r, output, is, wrote) = subst (λ (a : Option (List ℕ)). (r : Replayed a) → End a r output → ⊥) (sym told) (λ r is. nowhere r output is) r is

  pub completes : (end : Ended) → Ends end → ((session : ℕ) (role : Role) → end ≡ ended.Stopped (faults.Device session role) → Wrote all old new (IsDown (shelved before after) fails left))
      → (Rose was now → ⊥) → (end_status end ≡ 4 → ⊥) → ((session : ℕ) (role : Role) → fails session role → ⊥) → (end_status end ≡ 0) ⊎ (end_status end ≡ 1)
  completes ended.Done ends downs read write disk = inl refl
  completes ended.Memory ends downs read write disk = inr refl
  completes ended.Write ends downs read write disk = absurd (write refl)
  completes (ended.Stopped faults.Words) ends downs read write disk = absurd ends
  completes (ended.Stopped faults.Read) (r, output, is, wrote) downs read write disk = absurd (read is.rose)
  completes (ended.Stopped (faults.Script line)) ends downs read write disk =
      absurd (never (λ a r output. IsFaulted (shelved before after) left r output) (λ r output is. not_faulted before after bytes can r left output is) ends)
  completes (ended.Stopped (faults.Device session role)) ends downs read write disk =
      absurd (never (λ a r output. IsDown (shelved before after) fails left r output) (λ r output is. elim is [
        | inl told ↦ not_stopped before after bytes can r left output (faults.Device told.0 roles.Low) told.1
        | inr down ↦ disk down.0 down.1 down.3
      ]) (downs session role refl))
  completes (ended.Stopped (faults.Disk session role number first second)) ends downs read write disk =
      absurd (never (λ a r output. IsBarred (shelved before after) left r output) (λ r output is. not_barred before after bytes can r left output is) ends)
  completes (ended.Stopped (faults.Full session at length size)) ends downs read write disk =
      absurd (never (λ a r output. (s at n size : ℕ) × IsStopped (shelved before after) left (faults.Full s at n size) r output) (λ r output is. not_stopped before after bytes can r left output (faults.Full is.0 is.1 is.2 is.3) is.4) ends)

-- A script that tells its bytes has one status.
use Rattle.std.proofs.Common.{◌≡◌, inl, inr, ℕ, ◌+◌, ◌^◌, ◌<◌, List, [], Option, None, Some, length, refl, sym, ap, ◌∙◌, subst, arith}
use Rattle.std.specs.Io.KnownBytes.{IsAtEnd}
use Rattle.disk_model.specs.declared.name.Role.{Role}
use Rattle.disk_model.specs.declared.name.Role.TheVariants as roles
use Rattle.script_reader.specs.declared.line.Line.{Line}
use Rattle.script_reader.specs.declared.event.Event.{Event}
use Rattle.script_reader.specs.declared.fault.Fault.{Fault}
use Rattle.script_reader.specs.declared.fault.Fault.TheVariants.{Device, Full}
use Rattle.script_reader.specs.Faults.{IsScriptFaulty}
use Rattle.script_reader.specs.Openings.{Openings}
use Rattle.script_reader.specs.Sessions.{Sessions, no_sessions, ScriptRefuses, ScriptStops}
use Rattle.script_reader.proofs.OneWhole.{script_refused_leads, script_stops_leads, script_stops_one}
use Rattle.script_replay.specs.Replays.{IsSoFar, Replayed, IsFaultyAt, fault_after, Stopping, IsFinished, IsFaulted, IsStopped, IsOverfilled, IsFailed, IsDown, Wrote}
use Rattle.script_replay.specs.Shelves.{Shelved}
use Rattle.script_replay.specs.Statuses.{IsEnd, EndsWith, status_of, HasStatus}
use Rattle.script_replay.proofs.Stopping.{script_stops_refused}
use Rattle.script_replay.proofs.Compared.{GoesOn, no_line, good_line, same_line, told_rest, compare}

-- ---- one place ----

refused_goes : (o : Openings) (rest : List ℕ) (running : Sessions) → IsScriptFaulty (Some rest) running → GoesOn o rest running → ⊥
refused_goes o rest running f g =
    elim f [
      | inl bad ↦ good_line rest g.line g.left g.spelled bad
      | inr r ↦
          let same = same_line rest g.line r.0 g.left r.1 g.spelled r.2 in
          script_refused_leads o running g.line g.after g.printed (subst (λ (l : Line). ScriptRefuses running l) (sym same) r.3) g.leads
    ]

stopping_goes : (o : Openings) (rest : List ℕ) (number : ℕ) (running : Sessions) (fault : Fault) → Stopping (Some rest) number running fault → GoesOn o rest running → ⊥
stopping_goes o rest number running fault h g =
    let same = same_line rest g.line h.line g.left h.left g.spelled h.spelled in
    script_stops_leads o running g.line h.after h.printed fault g.after g.printed (subst (λ (l : Line). ScriptStops running l h.after h.printed fault) (sym same) h.stops) g.leads

refused_stopping : (rest : List ℕ) (number : ℕ) (running : Sessions) (fault : Fault) → IsScriptFaulty (Some rest) running → Stopping (Some rest) number running fault → ⊥
refused_stopping rest number running fault f h =
    elim f [
      | inl bad ↦ good_line rest h.line h.left h.spelled bad
      | inr r ↦
          let same = same_line rest h.line r.0 h.left r.1 h.spelled r.2 in
          script_stops_refused running h.line h.after h.printed fault h.stops (subst (λ (l : Line). ScriptRefuses running l) (sym same) r.3)
    ]

stopping_one : (rest : List ℕ) (number : ℕ) (running : Sessions) (fault stop : Fault) → Stopping (Some rest) number running fault → Stopping (Some rest) number running stop → fault ≡ stop
stopping_one rest number running fault stop h k =
    let same = same_line rest h.line k.line h.left k.left h.spelled k.spelled in
    let one = script_stops_one running h.line h.after k.after h.printed k.printed fault stop h.stops (subst (λ (l : Line). ScriptStops running l k.after k.printed stop) (sym same) k.stops) in
    one.fault_is

nothing_faulty : (rest : List ℕ) (number : ℕ) (running : Sessions) → rest ≡ [] → IsFaultyAt number (Some rest) running → ⊥
nothing_faulty rest number running none (inl (inl bad)) = bad.some none
nothing_faulty rest number running none (inl (inr r)) = no_line rest r.0 r.1 r.2 none
nothing_faulty rest number running none (inr (last, some)) = some none

faulty_stopping : (rest : List ℕ) (number : ℕ) (running : Sessions) (fault : Fault) → IsFaultyAt number (Some rest) running → Stopping (Some rest) number running fault → ⊥
faulty_stopping rest number running fault (inl f) h = refused_stopping rest number running fault f h
faulty_stopping rest number running fault (inr (last, some)) h = let few = h.few in omega (arith, few, last)

-- a script does not go on at its end
end_goes : (o : Openings) (rest : List ℕ) (number : ℕ) (running : Sessions) (end : Option Fault) → IsEnd rest number running end → number + 1 < 2 ^ 32 → GoesOn o rest running → ⊥
end_goes o rest number running None h few g = no_line rest g.line g.left g.spelled h
end_goes o rest number running (Some fault) (inl (inl f, e)) few g = refused_goes o rest running f g
end_goes o rest number running (Some fault) (inl (inr (last, some), e)) few g = omega (arith, few, last)
end_goes o rest number running (Some fault) (inr h) few g = stopping_goes o rest number running fault h g

-- and has one end at one place
one_end : (rest : List ℕ) (number : ℕ) (running : Sessions) (a b : Option Fault) → IsEnd rest number running a → IsEnd rest number running b → a ≡ b
one_end rest number running None None h k = refl
one_end rest number running None (Some y) h (inl k) = absurd (nothing_faulty rest number running h k.0)
one_end rest number running None (Some y) h (inr k) = absurd (no_line rest k.line k.left k.spelled h)
one_end rest number running (Some x) None (inl h) k = absurd (nothing_faulty rest number running k h.0)
one_end rest number running (Some x) None (inr h) k = absurd (no_line rest h.line h.left h.spelled k)
one_end rest number running (Some x) (Some y) (inl h) (inl k) = ap Some (h.1 ∙ sym k.1)
one_end rest number running (Some x) (Some y) (inl h) (inr k) = absurd (faulty_stopping rest number running y h.0 k)
one_end rest number running (Some x) (Some y) (inr h) (inl k) = absurd (faulty_stopping rest number running x k.0 h)
one_end rest number running (Some x) (Some y) (inr h) (inr k) = ap Some (stopping_one rest number running x y h k)

-- ---- one script ----

module _ (o : Openings) (bytes : List ℕ) (end : Option Fault) (e : EndsWith o bytes end) where
  pub ends_at : (lines : List Line) (events : List Event) (running : Sessions) (rest : List ℕ) (other : Option Fault) → IsSoFar o (Some bytes) (Some rest) lines events running → length lines < 2 ^ 32
      → IsEnd rest (length lines) running other → end ≡ other
  ends_at lines events running rest other s few is =
      let fewer = e.few in
      compare o bytes e.rest rest e.lines lines no_sessions e.sessions running e.events events e.so_far.spelled e.so_far.leads s.spelled s.leads
      (λ same after number. one_end rest (length lines) running end other
      (subst (λ (n : ℕ). IsEnd rest n running end) number (subst (λ (b : Sessions). IsEnd rest (length e.lines) b end) after (subst (λ (r : List ℕ). IsEnd r (length e.lines) e.sessions end) same e.is_end))) is)
      (λ goes less. absurd (end_goes o e.rest (length e.lines) e.sessions end e.is_end (omega (arith, less, few)) goes))
      (λ goes less. absurd (end_goes o rest (length lines) running other is (omega (arith, less, fewer)) goes))

  -- what was replayed, whose rest is told
  told_so_far : (r : Replayed (Some bytes)) → r.openings ≡ o → (rest : List ℕ) × (r.rest ≡ Some rest) × IsSoFar o (Some bytes) (Some rest) r.lines r.events r.sessions
  told_so_far r same =
      let told = told_rest bytes r.lines r.rest r.so_far.spelled in (
        told.0,
        told.1,
        subst (λ (p : Openings). IsSoFar p (Some bytes) (Some told.0) r.lines r.events r.sessions) same
            (subst (λ (rest : Option (List ℕ)). IsSoFar r.openings (Some bytes) rest r.lines r.events r.sessions) told.1 r.so_far),
      )

  done_so : (shelf : Shelved) (r : Replayed (Some bytes)) (output : List ℕ) → r.openings ≡ o → IsFinished shelf r output → end ≡ None
  done_so shelf r output same d =
      let told = told_so_far r same in
      ends_at r.lines r.events r.sessions told.0 None told.2 r.few (subst IsAtEnd told.1 d.ended)

  faulted_so : (shelf : Shelved) (left : Option (List ℕ)) (r : Replayed (Some bytes)) (output : List ℕ) → r.openings ≡ o → IsFaulted shelf left r output → end ≡ Some (fault_after (length r.lines))
  faulted_so shelf left r output same d =
      let told = told_so_far r same in
      ends_at r.lines r.events r.sessions told.0 (Some (fault_after (length r.lines))) told.2 r.few
      (inl (subst (λ (rest : Option (List ℕ)). IsFaultyAt (length r.lines) rest r.sessions) told.1 d.faulty, refl))

  stopped_so : (shelf : Shelved) (left : Option (List ℕ)) (fault : Fault) (r : Replayed (Some bytes)) (output : List ℕ) → r.openings ≡ o → IsStopped shelf left fault r output → end ≡ Some fault
  stopped_so shelf left fault r output same d =
      let told = told_so_far r same in
      ends_at r.lines r.events r.sessions told.0 (Some fault) told.2 r.few (inr (subst (λ (rest : Option (List ℕ)). Stopping rest (length r.lines) r.sessions fault) told.1 d.next))

-- ---- the statuses ----

module _ (shelf : Shelved) (all old new : Option (List ℕ)) where
  done_at : (r : Replayed all) (output : List ℕ) → IsFinished shelf r output → HasStatus 0 r output
  done_at r output is = λ bytes end told e.
      subst (λ (a : Option (List ℕ)). (r : Replayed a) → IsFinished shelf r output → EndsWith r.openings bytes end → 0 ≡ status_of end) (sym told)
      (λ r is e. sym (ap status_of (done_so r.openings bytes end e shelf r output refl is))) r is e

  faulted_at : (left : Option (List ℕ)) (r : Replayed all) (output : List ℕ) → IsFaulted shelf left r output → HasStatus 5 r output
  faulted_at left r output is = λ bytes end told e.
      subst (λ (a : Option (List ℕ)). (r : Replayed a) → IsFaulted shelf left r output → EndsWith r.openings bytes end → 5 ≡ status_of end) (sym told)
      (λ r is e. sym (ap status_of (faulted_so r.openings bytes end e shelf left r output refl is))) r is e

  stopped_at : (left : Option (List ℕ)) (fault : Fault) (r : Replayed all) (output : List ℕ) → IsStopped shelf left fault r output → HasStatus (status_of (Some fault)) r output
  stopped_at left fault r output is = λ bytes end told e.
      subst (λ (a : Option (List ℕ)). (r : Replayed a) → IsStopped shelf left fault r output → EndsWith r.openings bytes end → status_of (Some fault) ≡ status_of end) (sym told)
      (λ r is e. sym (ap status_of (stopped_so r.openings bytes end e shelf left fault r output refl is))) r is e

  pub done_only : Wrote all old new (IsFinished shelf) → Wrote all old new (λ r output. IsFinished shelf r output × HasStatus 0 r output)
  done_only (r, output, is, wrote) = (r, output, (is, done_at r output is), wrote)

  pub faulted_only : (left : Option (List ℕ)) → Wrote all old new (IsFaulted shelf left) → Wrote all old new (λ r output. IsFaulted shelf left r output × HasStatus 5 r output)
  faulted_only left (r, output, is, wrote) = (r, output, (is, faulted_at left r output is), wrote)

  pub full_only : (left : Option (List ℕ)) → Wrote all old new (IsOverfilled shelf left) → Wrote all old new (λ r output. IsOverfilled shelf left r output × HasStatus 10 r output)
  full_only left (r, output, (s, at, n, size, is), wrote) = (r, output, ((s, at, n, size, is), stopped_at left (Full s at n size) r output is), wrote)

  -- where a line tells that a device fails
  pub told_only : (left : Option (List ℕ)) (fails : ℕ → Role → Type 0) → Wrote all old new (IsDown shelf fails left)
      → Wrote all old new (λ r output. IsDown shelf fails left r output × (IsFailed shelf left r output → HasStatus 7 r output))
  told_only left fails (r, output, is, wrote) = (r, output, (is, λ failed. stopped_at left (Device failed.0 roles.Low) r output failed.1), wrote)

-- The headline's sentences on the disks, from what a replay says of them by how it ends.
use Rattle.std.proofs.Common.{◌≡◌, ℕ, ◌==◌, true, false, List, ◌++◌, Option, Some, None, inl, inr, refl, sym, ap, ◌∙◌, subst}
use Rattle.std.proofs.lemmas.Bool.{eqb-true, eqb-false}
use Rattle.disk_model.specs.declared.name.Role.{Role}
use Rattle.script_reader.specs.declared.event.Event.{Event}
use Rattle.script_reader.specs.Openings.{Openings}
use Rattle.script_reader.specs.Readouts.{Sound}
use Rattle.script_reader.specs.Scripts.{Begun, Whole, Alone}
use Rattle.script_reader.specs.Sessions.{Sessions, session_at, with_session, events_of, led_to}
use Rattle.script_reader.proofs.Apart.{session_at-own, session_at-other}
use Rattle.script_replay.specs.Shelves.{Places, IsKept, AreKept, AreOthersKept, AcknowledgedOutlive, ReceiverHasPrefix, shelved}
use Rattle.script_replay.specs.Replays.{Replayed, IsTimed, IsNearLast, IsFinished, IsUnread, IsFaulted, IsOverfilled, IsBarred, IsBroken, IsDownAt, IsCutOff, Wrote, WrotePrefix, EndsBy, EndsCutOff, EndedWith, HaveOutlived, HaveReceived}
use Rattle.script_replay.proofs.Acknowledged.{HaveNoAck, breaks_no_ack, outlives_more, outlives_break}

kept_outlives : (before after : Places) (number : ℕ) (o : Openings) (running : Option Begun) (printed : List Event) → IsKept before after number o running printed → AcknowledgedOutlive after running printed
kept_outlives before after number o (Some (Whole s)) printed k = (k.prefix.received, k.prefix.recv_is, k.outlives)
kept_outlives before after number o (Some (Alone s)) printed k = tt
kept_outlives before after number o None printed k = tt

kept_prefix : (before after : Places) (number : ℕ) (o : Openings) (running : Option Begun) (printed : List Event) → IsKept before after number o running printed → ReceiverHasPrefix after running
kept_prefix before after number o (Some (Whole s)) printed k = (k.prefix.received, k.prefix.recv_is, k.prefix.prefix)
kept_prefix before after number o (Some (Alone s)) printed k = tt
kept_prefix before after number o None printed k = tt

-- of each session of these, whose disks are kept
each_outlives : (before after : Places) (o : Openings) (t : Sessions) (printed : List Event) → AreKept before after o t.begun printed → HaveOutlived after t printed
each_outlives before after o t printed kept = λ number. kept_outlives before after number o (session_at number t.begun) (events_of number printed) (kept number)

each_prefix : (before after : Places) (o : Openings) (t : Sessions) (printed : List Event) → AreKept before after o t.begun printed → HaveReceived after t printed
each_prefix before after o t printed kept = λ number. kept_prefix before after number o (session_at number t.begun) (events_of number printed) (kept number)

-- where one of them is not begun, of all others
others_outlive : (before after : Places) (o : Openings) (one : ℕ) (t : Sessions) (printed : List Event) → session_at one t.begun ≡ None → AreOthersKept before after one o t.begun printed → HaveOutlived after t printed
others_outlive before after o one t printed none others = λ number.
    elim (number == one) as (λ b. (number == one) ≡ b → AcknowledgedOutlive after (session_at number t.begun) (events_of number printed)) [
      | true ↦ λ e. subst (λ (x : Option Begun). AcknowledgedOutlive after x (events_of number printed)) (sym (ap (λ (n : ℕ). session_at n t.begun) (eqb-true number one e) ∙ none)) tt
      | false ↦ λ e. kept_outlives before after number o (session_at number t.begun) (events_of number printed) (others number (eqb-false number one e))
    ] refl

others_prefix : (before after : Places) (o : Openings) (one : ℕ) (t : Sessions) (printed : List Event) → session_at one t.begun ≡ None → AreOthersKept before after one o t.begun printed → HaveReceived after t printed
others_prefix before after o one t printed none others = λ number.
    elim (number == one) as (λ b. (number == one) ≡ b → ReceiverHasPrefix after (session_at number t.begun)) [
      | true ↦ λ e. subst (λ (x : Option Begun). ReceiverHasPrefix after x) (sym (ap (λ (n : ℕ). session_at n t.begun) (eqb-true number one e) ∙ none)) tt
      | false ↦ λ e. kept_prefix before after number o (session_at number t.begun) (events_of number printed) (others number (eqb-false number one e))
    ] refl

-- where a line of one was cut short by the device of a disk, of all
broken_prefix : (before after : Places) (all left : Option (List ℕ)) (session : ℕ) (role : Role) (r : Replayed all) (output : List ℕ) (end : IsBroken (shelved before after) left session role r output)
    → HaveReceived after (led_to r.sessions end.next.line (Whole (record { row = end.next.off.session.row; past = end.next.off.past }))) (r.events ++ end.next.printed)
broken_prefix before after all left session role r output end =
    let one = end.next.off.session.row.id in
    let last : Begun = Whole (record { row = end.next.off.session.row; past = end.next.off.past }) in
    let kept = end.disks.0.prefix in
    λ number. elim (number == one) as (λ b. (number == one) ≡ b → ReceiverHasPrefix after (session_at number (with_session last r.sessions.begun))) [
      | true ↦ λ e. subst (λ (x : Option Begun). ReceiverHasPrefix after x) (sym (session_at-own number last r.sessions.begun (sym (eqb-true number one e)))) (kept.received, kept.recv_is, kept.prefix)
      | false ↦ λ e.
          let apart = eqb-false number one e in
          subst (λ (x : Option Begun). ReceiverHasPrefix after x) (sym (session_at-other number last r.sessions.begun (λ is. apart (sym is))))
          (kept_prefix before after number r.openings (session_at number r.sessions.begun) (events_of number r.events) (end.disks.1 number apart))
    ] refl

broken_outlives : (before after : Places) (all left : Option (List ℕ)) (session : ℕ) (role : Role) (r : Replayed all) (output : List ℕ) (end : IsBroken (shelved before after) left session role r output)
    → HaveOutlived after (led_to r.sessions end.next.line (Whole (record { row = end.next.off.session.row; past = end.next.off.past }))) (r.events ++ end.next.printed)
broken_outlives before after all left session role r output end =
    let off = end.next.off in
    let one = off.session.row.id in
    let last : Begun = Whole (record { row = off.session.row; past = off.past }) in
    let none : HaveNoAck end.next.printed = breaks_no_ack off.session.row off.session.past end.next.line off.role off.past end.next.printed off.breaks in
    let own : AcknowledgedOutlive after (Some last) (events_of one r.events) =
    outlives_break after off.session end.next.line off.role off.past end.next.printed (events_of one r.events) end.disks.0.prefix
    (subst IsTimed off.there (r.timed one)) (subst (λ (x : Option Begun). Sound x (events_of one r.events)) off.there (r.laws.sound one)) off.breaks in
    λ number. outlives_more after number (session_at number (with_session last r.sessions.begun)) r.events end.next.printed none
    (elim (number == one) as (λ b. (number == one) ≡ b → AcknowledgedOutlive after (session_at number (with_session last r.sessions.begun)) (events_of number r.events)) [
      | true ↦ λ e.
          let same = eqb-true number one e in
          subst (λ (t : Option Begun × ℕ). AcknowledgedOutlive after t.0 (events_of t.1 r.events))
          (λ i. (sym (session_at-own number last r.sessions.begun (sym same)) i, sym same i)) own
      | false ↦ λ e.
          let apart = eqb-false number one e in
          subst (λ (x : Option Begun). AcknowledgedOutlive after x (events_of number r.events)) (sym (session_at-other number last r.sessions.begun (λ is. apart (sym is))))
          (kept_outlives before after number r.openings (session_at number r.sessions.begun) (events_of number r.events) (end.disks.1 number apart))
    ] refl)

-- what holds of all sessions whose disks are kept; of all others, where those of one are not; and where a line of one was
-- cut short by the device of a disk
pub record HoldsAtEnds (before after : Places) (Holds : Sessions → List Event → Type 0) : Type 0 where
  pub kept : (o : Openings) (t : Sessions) (printed : List Event) → AreKept before after o t.begun printed → Holds t printed
  pub others : (o : Openings) (one : ℕ) (t : Sessions) (printed : List Event) → session_at one t.begun ≡ None → AreOthersKept before after one o t.begun printed → Holds t printed
  pub broken : (all left : Option (List ℕ)) (session : ℕ) (role : Role) (r : Replayed all) (output : List ℕ) (end : IsBroken (shelved before after) left session role r output)
      → Holds (led_to r.sessions end.next.line (Whole (record { row = end.next.off.session.row; past = end.next.off.past }))) (r.events ++ end.next.printed)

pub outlives : (before after : Places) → HoldsAtEnds before after (HaveOutlived after)
outlives before after = record { kept = each_outlives before after; others = others_outlive before after; broken = broken_outlives before after }

pub prefixes : (before after : Places) → HoldsAtEnds before after (HaveReceived after)
prefixes before after = record { kept = each_prefix before after; others = others_prefix before after; broken = broken_prefix before after }

module _ (before after : Places) (all left : Option (List ℕ)) (was now : ℕ) (Holds : Sessions → List Event → Type 0) (h : HoldsAtEnds before after Holds) where
  -- the sessions to which it came, and what it printed
  abbrev Ends : ℕ → Replayed all → List ℕ → Type 0
  Ends status r output = (t : Sessions) × (printed : List Event) × EndsBy status (shelved before after) left was now r output t printed × Holds t printed

  finished : (r : Replayed all) (output : List ℕ) → IsFinished (shelved before after) r output → Ends 0 r output
  finished r output end = (r.sessions, end.printed, inl (refl, (end, refl, refl)), h.kept r.openings r.sessions end.printed end.disks)

  unread : (r : Replayed all) (output : List ℕ) → IsUnread (shelved before after) left was now r output → Ends 3 r output
  unread r output end = (r.sessions, r.events, inr (inl (refl, end, refl, refl)), h.kept r.openings r.sessions r.events end.disks)

  faulted : (r : Replayed all) (output : List ℕ) → IsFaulted (shelved before after) left r output → Ends 5 r output
  faulted r output end = (r.sessions, r.events, inr (inr (inl (refl, end, refl, refl))), h.kept r.openings r.sessions r.events end.disks)

  down : (session : ℕ) (role : Role) (r : Replayed all) (output : List ℕ) → IsDownAt (shelved before after) left session role r output → Ends 7 r output
  down session role r output (inl end) = (
    end.next.after,
    r.events ++ end.next.printed,
    inr (inr (inr (inl (refl, inl (session, end, refl, refl))))),
    h.kept r.openings end.next.after (r.events ++ end.next.printed) end.disks,
  )
  down session role r output (inr (inl end)) = (
    led_to r.sessions end.next.line (Whole (record { row = end.next.off.session.row; past = end.next.off.past })),
    r.events ++ end.next.printed,
    inr (inr (inr (inl (refl, inr (inl (session, role, end, refl, refl)))))),
    h.broken all left session role r output end,
  )
  down session role r output (inr (inr end)) =
      (r.sessions, r.events, inr (inr (inr (inl (refl, inr (inr (session, role, end, refl, refl)))))), h.others r.openings end.row.id r.sessions r.events end.next.none end.disks.1)

  barred : (r : Replayed all) (output : List ℕ) → IsBarred (shelved before after) left r output → Ends 8 r output
  barred r output end = (r.sessions, r.events, inr (inr (inr (inr (inl (refl, end, refl, refl))))), h.others r.openings end.row.id r.sessions r.events end.next.none end.disks.2)

  full : (r : Replayed all) (output : List ℕ) → IsOverfilled (shelved before after) left r output → Ends 10 r output
  full r output (session, at, length, size, end) = (
    end.next.after,
    r.events ++ end.next.printed,
    inr (inr (inr (inr (inr (refl, (session, at, length, size, end, refl, refl)))))),
    h.kept r.openings end.next.after (r.events ++ end.next.printed) end.disks,
  )

  -- .. where its output could not be written
  abbrev EndsShort : Replayed all → List ℕ → Type 0
  EndsShort r output = (t : Sessions) × (printed : List Event) × EndsCutOff (shelved before after) left was now r output t printed × Holds t printed

  short : (r : Replayed all) (output : List ℕ) → IsNearLast r.rest left → (other : ℕ) → Ends other r output → EndsShort r output
  short r output near other (t, printed, end, holds) = (t, printed, (near, inr (other, end)), holds)

  cut_off : (r : Replayed all) (output : List ℕ) → IsCutOff (shelved before after) left was now r output → EndsShort r output
  cut_off r output (near, inl (is, kept)) = (r.sessions, r.events, (near, inl (is, kept, refl, refl)), h.kept r.openings r.sessions r.events kept)
  cut_off r output (near, inr (inl end)) = short r output near 0 (finished r output end)
  cut_off r output (near, inr (inr (inl end))) = short r output near 5 (faulted r output end)
  cut_off r output (near, inr (inr (inr (inl end)))) = short r output near 3 (unread r output end)
  cut_off r output (near, inr (inr (inr (inr (inl end))))) = short r output near 10 (full r output end)
  cut_off r output (near, inr (inr (inr (inr (inr (inl (session, role, end))))))) = short r output near 7 (down session role r output end)
  cut_off r output (near, inr (inr (inr (inr (inr (inr end)))))) = short r output near 8 (barred r output end)

  -- ---- what was written ----

  module _ (old new : Option (List ℕ)) where
    abbrev Ended : ℕ → Type 0
    Ended status = EndedWith status (shelved before after) all left old new was now Holds

    written : (status : ℕ) (End : Replayed all → List ℕ → Type 0) → ((r : Replayed all) (output : List ℕ) → End r output → Ends status r output) → Wrote all old new End → Ended status
    written status End ends (r, output, end, appends) = let (t, printed, by, holds) = ends r output end in (r, output, t, printed, holds, inl (by, appends))

    pub wrote_finished : Wrote all old new (IsFinished (shelved before after)) → Ended 0
    wrote_finished = written 0 (IsFinished (shelved before after)) finished

    pub wrote_unread : Wrote all old new (IsUnread (shelved before after) left was now) → Ended 3
    wrote_unread = written 3 (IsUnread (shelved before after) left was now) unread

    pub wrote_prefix : WrotePrefix all old new (IsCutOff (shelved before after) left was now) → Ended 4
    wrote_prefix (r, output, end, prefix) = let (t, printed, by, holds) = cut_off r output end in (r, output, t, printed, holds, inr (refl, by, prefix))

    pub wrote_faulted : Wrote all old new (IsFaulted (shelved before after) left) → Ended 5
    wrote_faulted = written 5 (IsFaulted (shelved before after) left) faulted

    pub wrote_down : (session : ℕ) (role : Role) → Wrote all old new (IsDownAt (shelved before after) left session role) → Ended 7
    wrote_down session role = written 7 (IsDownAt (shelved before after) left session role) (down session role)

    pub wrote_barred : Wrote all old new (IsBarred (shelved before after) left) → Ended 8
    wrote_barred = written 8 (IsBarred (shelved before after) left) barred

    pub wrote_full : Wrote all old new (IsOverfilled (shelved before after) left) → Ended 10
    wrote_full = written 10 (IsOverfilled (shelved before after) left) full

-- Where the device of a disk cuts a line short: no message is accepted in it and none acknowledged, so that each
-- acknowledgement that was printed is of a message that is on the disks.
use Rattle.std.proofs.Common.{◌≡◌, ℕ, ◌+◌, ◌==◌, Bool, true, false, cond, List, [], ◌∷◌, ◌++◌, length, Option, Some, None, refl, sym, ap, ◌∙◌, subst}
use Rattle.std.specs.Prelude.{get_or, if◌then◌else◌}
use Rattle.std.specs.List.{AllByRecursion}
use Rattle.std.proofs.lemmas.Bool.{cond_both}
use Rattle.std.proofs.lemmas.List.Elements.{filter-append}
use Rattle.std.proofs.lemmas.Option.{slice_get-get_or}
use Rattle.disk_model.specs.declared.name.Role.{Role}
use Rattle.disk_model.specs.declared.name.Role.TheVariants as roles
use Rattle.pump_frame.specs.declared.frame.Kind.TheVariants.{Ack}
use Rattle.pump_frame.specs.declared.payload.Payload.{Payload}
use Rattle.pump_frame.specs.declared.row.SessionRow.{SessionRow}
use Rattle.pump_core.specs.declared.event.Event.TheVariants.{CarryData, TakeBegin}
use Rattle.pump_core.specs.Events.{Run}
use Rattle.pump_core.specs.HighLooks.{has_removed}
use Rattle.pump_core.specs.Replies.{Sent, LowReplies}
use Rattle.pump_core.specs.World.{World}
use Rattle.script_reader.specs.declared.event.Event.{Event}
use Rattle.script_reader.specs.declared.line.Line.{Line}
use Rattle.script_reader.specs.declared.line.Line.TheVariants as lines
use Rattle.script_reader.specs.Breaks.{Breaks, BreaksOff, IsUnremoved, IsUntaken}
use Rattle.script_reader.specs.Highs.{IsWholeLook, IsCarried, printed_removal, printed_sending, place}
use Rattle.script_reader.specs.Past.{Past}
use Rattle.script_reader.specs.Readouts.{low_line, low_lines, Sound}
use Rattle.script_reader.specs.Scripts.{Running, Begun, Whole, Alone}
use Rattle.script_reader.specs.Sessions.{event_session, events_of}
use Rattle.script_reader.proofs.Accepting.{Leaves, returns_leave, removes_leave, takes_up_leave, sends_leave, carries_leave, takes_leave}
use Rattle.script_reader.proofs.Replying.{low-append}
use Rattle.world_laws.specs.Laws.{KeepMessages, IsAckBelow, AcksBelow, AckOutlives}
use Rattle.world_laws.proofs.Runs.Acknowledged.{run_acks}
use Rattle.script_replay.specs.Replays.{IsTimed}
use Rattle.script_replay.specs.Shelves.{Places, reading_at, OfDisks, AcknowledgedOutlive}
use Rattle.script_replay.proofs.Broken.{carry_is_silent}

-- ---- nothing is accepted ----

abbrev messages : World → List Payload
messages w = w.accepted

whole_leaves : (s : SessionRow) (attaches : Bool) (p : Past) (m : ℕ) (back : Option ℕ) (q : Past) (printed : List Event) → IsWholeLook s attaches p m back q printed → Leaves p.world q.world
whole_leaves s attaches p m back q printed (mid, first, second, r, t, e) =
    sends_leave t.look.is_sent t.look.taken q.world t.look.sent ∙ takes_up_leave mid.world t.look.taken t.look.takes_up
    ∙ removes_leave r.look.answered mid.world r.look.removes ∙ returns_leave p.world back r.look.answered r.look.returns

carried_leaves : (s : SessionRow) (p : Past) (back : ℕ) (q : Past) (printed : List Event) → IsCarried s p back q printed → Leaves p.world q.world
carried_leaves s p back q printed c = takes_leave c.carried q.world c.takes ∙ carries_leave p.world (place p.world.sent back) c.carried c.carries

unremoved_leaves : (p : Past) (m : ℕ) (back : Option ℕ) (q : Past) → IsUnremoved p m back q → Leaves p.world q.world
unremoved_leaves p m back q u = ap messages u.begins.2 ∙ returns_leave p.world back u.answered u.returns

begun_leaves : (w : World) (k : ℕ) (v : World) → Run w (CarryData k ∷ TakeBegin ∷ []) v → Leaves w v
begun_leaves w k v (carried, carries, (begun, begins, e)) = ap messages e ∙ ap messages begins.3 ∙ carries_leave w k carried carries

untaken_leaves : (p : Past) (back : ℕ) (q : Past) → IsUntaken p back q → Leaves p.world q.world
untaken_leaves p back q u = begun_leaves p.world (place p.world.sent back) q.world u.begins

off_leaves : (s : SessionRow) (mid : Past) (m : ℕ) (role : Role) (q : Past) (printed : List Event) → BreaksOff s mid m role q printed → Leaves mid.world q.world
off_leaves s mid m roles.Low q printed h = absurd h
off_leaves s mid m roles.Recv q printed (untaken, e) = untaken_leaves mid 0 q untaken
off_leaves s mid m roles.High q printed (far, carried, unremoved) =
    unremoved_leaves far m (Some (place far.world.returned 0)) q unremoved ∙ carried_leaves s mid 0 far printed carried

pub breaks_leave : (s : SessionRow) (p : Past) (line : Line) (role : Role) (q : Past) (printed : List Event) → Breaks s p line role q printed → Leaves p.world q.world
breaks_leave s p lines.Skip role q printed h = absurd h
breaks_leave s p (lines.Session other) role q printed h = absurd h
breaks_leave s p (lines.LowSession other next held) role q printed h = absurd h
breaks_leave s p (lines.Coarse session) role q printed h = absurd h
breaks_leave s p (lines.Told session m w fault told a) role q printed h = absurd h
breaks_leave s p (lines.Step session m w) role q printed h = absurd h
breaks_leave s p (lines.Gone session m) role q printed h = absurd h
breaks_leave s p (lines.High session m) role q printed h = absurd h
breaks_leave s p (lines.Look session m w a) roles.Low q printed (c, comes, few, lost) = ap messages lost.begins.2
breaks_leave s p (lines.Look session m w a) roles.High q printed h = absurd h
breaks_leave s p (lines.Look session m w a) roles.Recv q printed h = absurd h
breaks_leave s p (lines.Carry session back) roles.Recv q printed (untaken, e) = untaken_leaves p back q untaken
breaks_leave s p (lines.Carry session back) roles.Low q printed h = absurd h
breaks_leave s p (lines.Carry session back) roles.High q printed h = absurd h
breaks_leave s p (lines.Return session m back) roles.High q printed (unremoved, e) = unremoved_leaves p m (Some (place p.world.returned back)) q unremoved
breaks_leave s p (lines.Return session m back) roles.Low q printed h = absurd h
breaks_leave s p (lines.Return session m back) roles.Recv q printed h = absurd h
breaks_leave s p (lines.Done session m t) role q printed (mid, n, first, second, high, hand, off, e) =
    off_leaves s mid (m + t) role q second off ∙ whole_leaves s false p m None mid first high
breaks_leave s p (lines.Restart session m) roles.Low q printed (e, f) = ap (λ (t : Past). t.world.accepted) e
breaks_leave s p (lines.Restart session m) roles.High q printed (e, f) = ap (λ (t : Past). t.world.accepted) e
breaks_leave s p (lines.Restart session m) roles.Recv q printed h = absurd h
breaks_leave s p (lines.ReceiverRestart session m) roles.Recv q printed (e, f) = ap (λ (t : Past). t.world.accepted) e
breaks_leave s p (lines.ReceiverRestart session m) roles.High q printed (mid, reopened, unattached, f) =
    unremoved_leaves mid m (Some unattached.at) q unattached.unremoved ∙ ap messages reopened.0
breaks_leave s p (lines.ReceiverRestart session m) roles.Low q printed h = absurd h

-- ---- nothing is acknowledged ----

abbrev IsNoAck : Sent → Type 0
IsNoAck x = x.reply.kind ≡ Ack → ⊥

-- none of these is an acknowledgement
abbrev pub HaveNoAck : List Event → Type 0
HaveNoAck printed = AllByRecursion IsNoAck (low_lines printed)

silent : (printed : List Event) → low_lines printed ≡ [] → HaveNoAck printed
silent printed none = subst (AllByRecursion IsNoAck) (sym none) tt

removal_is_silent : (session m : ℕ) (w v : World) (time : Option ℕ) → low_lines (printed_removal session m w v time) ≡ []
removal_is_silent session m w v time = cond_both (has_removed w v) _ _ (λ (xs : List Event). low_lines xs ≡ []) (λ _. refl) (λ _. refl)

hand_is_silent : (session m : ℕ) (hand : Option ℕ) → low_lines (printed_sending session m hand) ≡ []
hand_is_silent session m None = refl
hand_is_silent session m (Some n) = refl

sending_is_silent : (session m : ℕ) (hand : Option ℕ) (b : Bool) → low_lines (if b then printed_sending session m hand else []) ≡ []
sending_is_silent session m hand true = hand_is_silent session m hand
sending_is_silent session m hand false = refl

whole_is_silent : (s : SessionRow) (attaches : Bool) (p : Past) (m : ℕ) (back : Option ℕ) (q : Past) (printed : List Event) → IsWholeLook s attaches p m back q printed → low_lines printed ≡ []
whole_is_silent s attaches p m back q printed (mid, first, second, r, t, e) =
    ap low_lines e ∙ low-append first second
    ∙ ap (λ (l : List Sent). l ++ low_lines second) (ap low_lines r.printed_is ∙ removal_is_silent s.id m r.look.answered mid.world r.look.time)
    ∙ ap low_lines t.printed_is ∙ sending_is_silent s.id m t.look.taken.high_hand t.look.is_sent

off_is_silent : (s : SessionRow) (mid : Past) (m : ℕ) (role : Role) (q : Past) (printed : List Event) → BreaksOff s mid m role q printed → low_lines printed ≡ []
off_is_silent s mid m roles.Low q printed h = absurd h
off_is_silent s mid m roles.Recv q printed (untaken, e) = ap low_lines e
off_is_silent s mid m roles.High q printed (far, carried, unremoved) = carry_is_silent s.id mid.world carried.packet printed carried.printed_is

pub breaks_no_ack : (s : SessionRow) (p : Past) (line : Line) (role : Role) (q : Past) (printed : List Event) → Breaks s p line role q printed → HaveNoAck printed
breaks_no_ack s p lines.Skip role q printed h = absurd h
breaks_no_ack s p (lines.Session other) role q printed h = absurd h
breaks_no_ack s p (lines.LowSession other next held) role q printed h = absurd h
breaks_no_ack s p (lines.Coarse session) role q printed h = absurd h
breaks_no_ack s p (lines.Told session m w fault told a) role q printed h = absurd h
breaks_no_ack s p (lines.Step session m w) role q printed h = absurd h
breaks_no_ack s p (lines.Gone session m) role q printed h = absurd h
breaks_no_ack s p (lines.High session m) role q printed h = absurd h
breaks_no_ack s p (lines.Look session m w a) roles.Low q printed (c, comes, few, lost) = subst HaveNoAck (sym lost.printed_is) (λ is. absurd (cc is), tt)
breaks_no_ack s p (lines.Look session m w a) roles.High q printed h = absurd h
breaks_no_ack s p (lines.Look session m w a) roles.Recv q printed h = absurd h
breaks_no_ack s p (lines.Carry session back) roles.Recv q printed (untaken, e) = silent printed (ap low_lines e)
breaks_no_ack s p (lines.Carry session back) roles.Low q printed h = absurd h
breaks_no_ack s p (lines.Carry session back) roles.High q printed h = absurd h
breaks_no_ack s p (lines.Return session m back) roles.High q printed (unremoved, e) = silent printed (ap low_lines e)
breaks_no_ack s p (lines.Return session m back) roles.Low q printed h = absurd h
breaks_no_ack s p (lines.Return session m back) roles.Recv q printed h = absurd h
breaks_no_ack s p (lines.Done session m t) role q printed (mid, n, first, second, high, hand, off, e) =
    silent printed (ap low_lines e ∙ low-append first second ∙ ap (λ (l : List Sent). l ++ low_lines second) (whole_is_silent s false p m None mid first high)
    ∙ off_is_silent s mid (m + t) role q second off)
breaks_no_ack s p (lines.Restart session m) roles.Low q printed (e, f) = silent printed (ap low_lines f)
breaks_no_ack s p (lines.Restart session m) roles.High q printed (e, f) = silent printed (ap low_lines f)
breaks_no_ack s p (lines.Restart session m) roles.Recv q printed h = absurd h
breaks_no_ack s p (lines.ReceiverRestart session m) roles.Recv q printed (e, f) = silent printed (ap low_lines f)
breaks_no_ack s p (lines.ReceiverRestart session m) roles.High q printed (mid, reopened, unattached, f) = silent printed (ap low_lines f)
breaks_no_ack s p (lines.ReceiverRestart session m) roles.Low q printed h = absurd h

-- ---- what was acknowledged before ----

module _ {X : Type 0} (P : X → Type 0) where
  all_append : (xs ys : List X) → AllByRecursion P xs → AllByRecursion P ys → AllByRecursion P (xs ++ ys)
  all_append [] ys a b = b
  all_append (x ∷ xs) ys a b = (a.0, all_append xs ys a.1 b)

  all_prefix : (xs ys : List X) → AllByRecursion P (xs ++ ys) → AllByRecursion P xs
  all_prefix [] ys a = tt
  all_prefix (x ∷ xs) ys a = (a.0, all_prefix xs ys a.1)

  all_rest : (xs ys : List X) → AllByRecursion P (xs ++ ys) → AllByRecursion P ys
  all_rest [] ys a = a
  all_rest (x ∷ xs) ys a = all_rest xs ys a.1

all_so : {X : Type 0} (P Q : X → Type 0) → ((x : X) → P x → Q x) → (xs : List X) → AllByRecursion P xs → AllByRecursion Q xs
all_so P Q so [] a = tt
all_so P Q so (x ∷ xs) a = (so x a.0, all_so P Q so xs a.1)

-- nor among those of one session
none_of : (number : ℕ) (printed : List Event) → HaveNoAck printed → HaveNoAck (events_of number printed)
none_of number [] none = tt
none_of number (x ∷ printed) none =
    let later = none_of number printed (all_rest IsNoAck (low_line x) (low_lines printed) none) in
    elim (event_session x == number) as (λ b. HaveNoAck (cond b (x ∷ events_of number printed) (events_of number printed))) [
      | true ↦ all_append IsNoAck (low_line x) (low_lines (events_of number printed)) (all_prefix IsNoAck (low_line x) (low_lines printed) none) later
      | false ↦ later
    ]

-- it outlives the return, if it is an acknowledgement
abbrev OutlivesIn : Places → Running → List Payload → Sent → Type 0
OutlivesIn after s received x = AckOutlives s.row s.past.world.accepted received (reading_at after s.row.id roles.Low) (reading_at after s.row.id roles.High) x.reply

-- what was acknowledged outlives still where no more is
pub outlives_more : (after : Places) (number : ℕ) (running : Option Begun) (events printed : List Event) → HaveNoAck printed → AcknowledgedOutlive after running (events_of number events)
    → AcknowledgedOutlive after running (events_of number (events ++ printed))
outlives_more after number (Some (Whole s)) events printed none (received, stands, acks) =
    let before = low_lines (events_of number events) in
    let later = low_lines (events_of number printed) in
    let are : low_lines (events_of number (events ++ printed)) ≡ before ++ later =
    ap low_lines (filter-append (λ event. event_session event == number) events printed) ∙ low-append (events_of number events) (events_of number printed) in
    let more : AllByRecursion (OutlivesIn after s received) later =
    all_so IsNoAck (OutlivesIn after s received) (λ x no ack. absurd (no ack)) later (none_of number printed none) in
    (received, stands, subst (AllByRecursion (OutlivesIn after s received)) (sym are) (all_append (OutlivesIn after s received) before later acks more))
outlives_more after number (Some (Alone s)) events printed none h = tt
outlives_more after number None events printed none h = tt

-- what a session acknowledged until a line was cut short is among what it has accepted then
acks_before : (s : Running) (line : Line) (role : Role) (q : Past) (printed : List Event) (replies : List Sent) → IsTimed (Some (Whole s)) → LowReplies s.row s.past.history replies
    → Breaks s.row s.past line role q printed → AcksBelow (length q.world.accepted) replies
acks_before s line role q printed replies (steps, t, run) are breaks =
    subst (λ (ps : List Payload). AcksBelow (length ps) replies) (ap messages run.world ∙ sym (breaks_leave s.row s.past line role q printed breaks))
    (run_acks s.row steps t s.past.history replies run.run are)

-- .. so it outlives the return, where the disks keep the messages of that world
pub outlives_break : (after : Places) (s : Running) (line : Line) (role : Role) (q : Past) (printed events : List Event) → OfDisks after s.row.id (KeepMessages s.row q.world) → IsTimed (Some (Whole s))
    → Sound (Some (Whole s)) events → Breaks s.row s.past line role q printed → AcknowledgedOutlive after (Some (Whole (record { row = s.row; past = q }))) events
outlives_break after s line role q printed events kept timed sound breaks =
    let stopped : Running = record { row = s.row; past = q } in (
      kept.received,
      kept.recv_is,
      all_so (λ (x : Sent). IsAckBelow (length q.world.accepted) x.reply) (OutlivesIn after stopped kept.received)
          (λ x below ack.
          let at = slice_get-get_or q.world.accepted x.reply.number [] (below ack) in
          (get_or q.world.accepted x.reply.number [], at, kept.accepted x.reply.number (get_or q.world.accepted x.reply.number []) at))
          (low_lines events) (acks_before s line role q printed (low_lines events) timed sound.replies breaks),
    )

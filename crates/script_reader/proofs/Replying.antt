-- The low lines of a transcript are the replies of its low history.
use Rattle.std.proofs.Common.{◌≡◌, ℕ, ◌+◌, zero, suc, Bool, true, false, nat_lt, List, [], ◌∷◌, ◌++◌, length, Option, Some, None, refl, sym, ap, ◌∙◌, subst, append_assoc, append-nil}
use Rattle.std.specs.Prelude.{if◌then◌else◌}
use Rattle.pump_frame.specs.declared.row.SessionRow.{SessionRow}
use Rattle.pump_core.specs.declared.feedback.Feedback.{Feedback}
use Rattle.pump_core.specs.declared.feedback.Feedback.TheVariants.{Quiet, Full, Passed, Released, Repeat}
use Rattle.pump_core.specs.History.{Look, Opening, History, first_life, looked}
use Rattle.pump_core.specs.Timed.{opening_in}
use Rattle.pump_core.specs.Replies.{Sent, LowReplies}
use Rattle.pump_core.proofs.Runs.{one_list_of_lives}
use Rattle.script_reader.specs.declared.line.Line.{Line}
use Rattle.script_reader.specs.declared.line.Line.TheVariants as lines
use Rattle.script_reader.specs.declared.line.ToldFeedback.{ToldFeedback}
use Rattle.script_reader.specs.declared.line.ToldFeedback.TheVariants.{Quiet as Silent}
use Rattle.script_reader.specs.declared.event.Event.{Event}
use Rattle.script_reader.specs.declared.event.Event.TheVariants as prints
use Rattle.pump_core.specs.HighLooks.{has_removed}
use Rattle.script_reader.specs.Past.{Past}
use Rattle.script_reader.specs.Lows.{printed_store, printed_feedback, printed_replies, IsLook}
use Rattle.script_reader.specs.Highs.{printed_sending, IsRemoval, IsSending, IsWholeLook, is_ahead, IsReturnBy, IsReturn, IsAttach, IsCarried, place}
use Rattle.script_reader.specs.Openings.{Openings, opened_world}
use Rattle.script_reader.specs.Restarts.{IsRestart, IsReceiverRestart}
use Rattle.script_reader.specs.Steps.{joined, lost, IsCarriedBack, IsDone, LineStep}
use Rattle.script_reader.specs.Alone.{PastAlone, IsToldLook, joined_alone, lost_alone, StepAlone}
use Rattle.script_reader.specs.Scripts.{Begun, Whole, Alone, GoesOn, made_coarse, Leads, LeadTo}
use Rattle.script_reader.specs.Readouts.{low_line, low_lines, row_of, history_of}
use Rattle.script_reader.proofs.Leading.{IsNew, led}

pub low-append : (xs ys : List Event) → low_lines (xs ++ ys) ≡ low_lines xs ++ low_lines ys
low-append [] ys = refl
low-append (x ∷ xs) ys = ap (λ l. low_line x ++ l) (low-append xs ys) ∙ sym (append_assoc (low_line x) (low_lines xs) (low_lines ys))

of_store : (n m : ℕ) (st : Option ℕ) (later : List Event) → low_lines (printed_store n m st ++ later) ≡ low_lines later
of_store n m None later = refl
of_store n m (Some k) later = refl

of_feedback : (n m : ℕ) (f : Feedback) (later : List Event) → low_lines (printed_feedback n m f ++ later) ≡ low_lines later
of_feedback n m Quiet later = refl
of_feedback n m Full later = refl
of_feedback n m (Passed t) later = refl
of_feedback n m Released later = refl
of_feedback n m (Repeat t) later = refl

of_replies : (n : ℕ) (rs : List Sent) → low_lines (printed_replies n rs) ≡ rs
of_replies n [] = refl
of_replies n (r ∷ rs) = ap (λ l. r ∷ l) (of_replies n rs)

of_look : (n m : ℕ) (st : Option ℕ) (f : Feedback) (new : List Sent) → low_lines (printed_store n m st ++ (printed_feedback n m f ++ printed_replies n new)) ≡ new
of_look n m st f new = of_store n m st (printed_feedback n m f ++ printed_replies n new) ∙ of_feedback n m f (printed_replies n new) ∙ of_replies n new

of_removal : (session m n : ℕ) (time : Option ℕ) (b : Bool) → low_lines (if b then prints.Removed session m n time ∷ [] else []) ≡ []
of_removal session m n time true = refl
of_removal session m n time false = refl

of_sending : (session m : ℕ) (o : Option ℕ) (b : Bool) → low_lines (if b then printed_sending session m o else []) ≡ []
of_sending session m None true = refl
of_sending session m (Some n) true = refl
of_sending session m o false = refl

of_carry : (session n : ℕ) (b : Bool) → low_lines ((if b then prints.Again session n else prints.Took session n) ∷ []) ≡ []
of_carry session n true = refl
of_carry session n false = refl

-- the history stays, and nothing of it is printed
pub record Aside (p q : Past) (printed : List Event) : Type 0 where
  history : q.history ≡ p.history
  low : low_lines printed ≡ []

both : (p mid q : Past) (first second printed : List Event) → Aside p mid first → Aside mid q second → printed ≡ first ++ second → Aside p q printed
both p mid q first second printed a b e = record {
  history = b.history ∙ a.history;
  low = ap low_lines e ∙ low-append first second ∙ ap (λ l. l ++ low_lines second) a.low ∙ b.low;
}

removal_aside : (s : SessionRow) (p : Past) (m : ℕ) (back : Option ℕ) (q : Past) (printed : List Event) → IsRemoval s p m back q printed → Aside p q printed
removal_aside s p m back q printed r = record {
  history = ap (λ (t : Past). t.history) r.rest;
  low = ap low_lines r.printed_is ∙ of_removal s.id m r.look.answered.removed r.look.time (has_removed r.look.answered q.world);
}

sending_aside : (s : SessionRow) (attaches : Bool) (p : Past) (m : ℕ) (q : Past) (printed : List Event) → IsSending s attaches p m q printed → Aside p q printed
sending_aside s attaches p m q printed r = record {
  history = ap (λ (t : Past). t.history) r.rest;
  low = ap low_lines r.printed_is ∙ of_sending s.id m r.look.taken.high_hand r.look.is_sent;
}

pub high_aside : (s : SessionRow) (attaches : Bool) (p : Past) (m : ℕ) (back : Option ℕ) (q : Past) (printed : List Event) → IsWholeLook s attaches p m back q printed → Aside p q printed
high_aside s attaches p m back q printed (mid, first, second, r, t, e) = both p mid q first second printed (removal_aside s p m back mid first r) (sending_aside s attaches mid m q second t) e

return_by_aside : (b : Bool) (s : SessionRow) (attaches : Bool) (p : Past) (m n : ℕ) (q : Past) (printed : List Event) → IsReturnBy b s attaches p m n q printed → Aside p q printed
return_by_aside true s attaches p m n q printed h = record { history = ap (λ (t : Past). t.history) h.0; low = ap low_lines h.1 }
return_by_aside false s attaches p m n q printed h = high_aside s attaches p m (Some n) q printed h

return_aside : (s : SessionRow) (p : Past) (m n : ℕ) (q : Past) (printed : List Event) → IsReturn s p m n q printed → Aside p q printed
return_aside s p m n q printed h = return_by_aside (is_ahead p.world n) s false p m n q printed h

attach_aside : (s : SessionRow) (p : Past) (m count : ℕ) (q : Past) (printed : List Event) → IsAttach s p m count q printed → Aside p q printed
attach_aside s p m zero q printed h = high_aside s true p m None q printed h
attach_aside s p m (suc n) q printed (k, at, h) = return_by_aside (is_ahead p.world k) s true p m k q printed h

carry_aside : (s : SessionRow) (p : Past) (back : ℕ) (q : Past) (printed : List Event) → IsCarried s p back q printed → Aside p q printed
carry_aside s p back q printed r = record {
  history = ap (λ (t : Past). t.history) r.rest;
  low = ap low_lines r.printed_is ∙ of_carry s.id r.packet.number (nat_lt r.packet.number (length p.world.received));
}

goes_aside : (s : SessionRow) (hand : Option ℕ) (p : Past) (m : ℕ) (q : Past) (printed : List Event) → IsCarriedBack s hand p m q printed → Aside p q printed
goes_aside s None p m q printed (e, f) = record { history = ap (λ (t : Past). t.history) e; low = ap low_lines f }
goes_aside s (Some n) p m q printed (mid, first, second, c, h, e) =
    both p mid q first second printed (carry_aside s p 0 mid first c) (return_aside s mid m (place mid.world.returned 0) q second h) e

done_aside : (s : SessionRow) (p : Past) (m t : ℕ) (q : Past) (printed : List Event) → IsDone s p m t q printed → Aside p q printed
done_aside s p m t q printed (mid, first, second, h, g, e) =
    both p mid q first second printed (high_aside s false p m None mid first h) (goes_aside s mid.world.high_hand mid (m + t) q second g) e

receiver_aside : (s : SessionRow) (p : Past) (m : ℕ) (q : Past) (printed : List Event) → IsReceiverRestart s p m q printed → Aside p q printed
receiver_aside s p m q printed (mid, h, (more, t, e)) =
    both p mid q (prints.Attach s.id m (length mid.world.received) ∷ []) more printed
    (record { history = ap (λ (u : Past). u.history) h.1; low = refl })
    (attach_aside s mid m (length mid.world.received) q more t) e

-- what is kept by a line: the replies of the history
abbrev pub Grows : SessionRow → History → History → List Event → Type 0
Grows s h g printed = (rs : List Sent) → LowReplies s h rs → LowReplies s g (rs ++ low_lines printed)

pub aside_grows : (s : SessionRow) (p q : Past) (printed : List Event) → Aside p q printed → Grows s p.history q.history printed
aside_grows s p q printed a rs h =
    subst (λ (t : History × List Sent). LowReplies s t.0 (rs ++ t.1)) (λ i. (sym a.history i, sym a.low i)) (subst (LowReplies s p.history) (sym (append-nil rs)) h)

-- the replies of a history with one more look are those before it and the new ones
new_grows : (s : SessionRow) (h : History) (x : Look) (g : History) (old new : List Sent) (printed : List Event) → LowReplies s h old → LowReplies s (looked h x) (old ++ new)
    → g ≡ looked h x → low_lines printed ≡ new → Grows s h g printed
new_grows s h x g old new printed before after is low rs k =
    let same : rs ≡ old = one_list_of_lives s (h.life ∷ h.earlier) rs old k before in
    subst (λ (t : History × List Sent × List Sent). LowReplies s t.0 (t.1 ++ t.2)) (λ j. (sym is j, sym same j, sym low j)) after

look_grows : (s : SessionRow) (p : Past) (x : Look) (q : Past) (printed : List Event) → IsLook s p x q printed → Grows s p.history q.history printed
look_grows s p x q printed i =
    new_grows s p.history x q.history i.replies i.new printed i.are_replies i.are_replies_with i.history (ap low_lines i.printed_is ∙ of_look s.id x.moment _ x.feedback i.new)

-- a new life has no replies yet
restart_grows : (s : SessionRow) (p : Past) (m : ℕ) (q : Past) (printed : List Event) → IsRestart s p m q printed → Grows s p.history q.history printed
restart_grows s p m q printed (h, e, f) rs k =
    subst (λ (t : Past × List Event). LowReplies s t.0.history (rs ++ low_lines t.1)) (λ i. (sym e i, sym f i))
    (rs, [], k, ([], record { are_parts = tt; looks = refl }, refl), refl)

step_grows : (s : SessionRow) (p : Past) (line : Line) (q : Past) (printed : List Event) → LineStep s p line q printed → Grows s p.history q.history printed
step_grows s p lines.Skip q printed h = absurd h
step_grows s p (lines.Session row) q printed h = absurd h
step_grows s p (lines.LowSession row next held) q printed h = absurd h
step_grows s p (lines.Coarse session) q printed h = absurd h
step_grows s p (lines.Told session m w fault told a) q printed h = absurd h
step_grows s p (lines.Step session m w) q printed h = absurd h
step_grows s p (lines.Look session m w a) q printed (c, comes, (few, (f, i))) = look_grows s (joined p c) _ q printed i
step_grows s p (lines.Gone session m) q printed (f, i) = look_grows s (lost p) _ q printed i
step_grows s p (lines.High session m) q printed h = aside_grows s p q printed (high_aside s false p m None q printed h)
step_grows s p (lines.Carry session back) q printed h = aside_grows s p q printed (carry_aside s p back q printed h)
step_grows s p (lines.Return session m back) q printed h = aside_grows s p q printed (return_aside s p m (place p.world.returned back) q printed h)
step_grows s p (lines.Done session m t) q printed h = aside_grows s p q printed (done_aside s p m t q printed h)
step_grows s p (lines.Restart session m) q printed h = restart_grows s p m q printed h
step_grows s p (lines.ReceiverRestart session m) q printed h = aside_grows s p q printed (receiver_aside s p m q printed h)

told_grows : (s : SessionRow) (p : PastAlone) (told : ToldFeedback) (x : Look) (q : PastAlone) (printed : List Event) → IsToldLook s p told x q printed → Grows s p.history q.history printed
told_grows s p told x q printed i =
    new_grows s p.history x q.history i.replies i.new printed i.are_replies i.are_replies_with i.history (ap low_lines i.printed_is ∙ of_look s.id x.moment _ x.feedback i.new)

pub step_low_grows : (s : SessionRow) (p : PastAlone) (line : Line) (is_fault : Bool) (q : PastAlone) (printed : List Event) → StepAlone s p line is_fault q printed → Grows s p.history q.history printed
step_low_grows s p (lines.Told session m w fault told z) is_fault q printed (c, comes, (few, (f, i))) = told_grows s (joined_alone p fault c) told _ q printed i
step_low_grows s p (lines.Gone session m) is_fault q printed (f, i) = told_grows s (lost_alone p) Silent _ q printed i
step_low_grows s p lines.Skip is_fault q printed h = absurd h
step_low_grows s p (lines.Session row) is_fault q printed h = absurd h
step_low_grows s p (lines.LowSession row next held) is_fault q printed h = absurd h
step_low_grows s p (lines.Coarse session) is_fault q printed h = absurd h
step_low_grows s p (lines.Look session m w z) is_fault q printed h = absurd h
step_low_grows s p (lines.High session m) is_fault q printed h = absurd h
step_low_grows s p (lines.Carry session back) is_fault q printed h = absurd h
step_low_grows s p (lines.Return session m back) is_fault q printed h = absurd h
step_low_grows s p (lines.Done session m t) is_fault q printed h = absurd h
step_low_grows s p (lines.Restart session m) is_fault q printed h = absurd h
step_low_grows s p (lines.ReceiverRestart session m) is_fault q printed h = absurd h
step_low_grows s p (lines.Step session m w) is_fault q printed h = absurd h

-- the replies of the session that runs
abbrev pub Replies : Option Begun → List Sent → Type 0
Replies None rs = rs ≡ []
Replies (Some s) rs = LowReplies (row_of s) (history_of s) rs

opened_replies : (row : SessionRow) (o : Opening) → LowReplies row (first_life o) []
opened_replies row o = ([], [], refl, ([], record { are_parts = tt; looks = refl }, refl), refl)

new_replies : (o : Openings) (s : Begun) → IsNew o s → Replies (Some s) []
new_replies o (Whole s) new = subst (λ (p : Past). LowReplies s.row p.history []) (sym new.2) (opened_replies s.row (opening_in (opened_world s.row (o s.row.id))))
new_replies o (Alone s) (next, held, e) = subst (λ (p : PastAlone). LowReplies s.row p.history []) (sym e) (opened_replies s.row (record { count = next; is_held = held }))

-- a new session has replied nothing
nothing_yet : (o : Openings) (s : Begun) (rs : List Sent) → IsNew o s → Replies (Some s) rs → rs ≡ []
nothing_yet o s rs new k = one_list_of_lives (row_of s) ((history_of s).life ∷ (history_of s).earlier) rs [] k (new_replies o s new)

stays_so : (running after : Option Begun) (printed : List Event) (rs : List Sent) → after ≡ running → printed ≡ [] → Replies running rs → Replies after (rs ++ low_lines printed)
stays_so running after printed rs e f k =
    subst (λ (t : Option Begun × List Sent). Replies t.0 (rs ++ t.1)) (λ i. (sym e i, sym (ap low_lines f) i)) (subst (Replies running) (sym (append-nil rs)) k)

begins_so : (o : Openings) (s : Begun) (after : Option Begun) (printed : List Event) (rs : List Sent) → IsNew o s → after ≡ Some s → printed ≡ [] → rs ≡ [] → Replies after (rs ++ low_lines printed)
begins_so o s after printed rs new e f k =
    let none : rs ++ low_lines printed ≡ [] = (λ i. k i ++ low_lines (f i)) in
    subst (λ (t : Option Begun × List Sent). Replies t.0 t.1) (λ i. (sym e i, sym none i)) (new_replies o s new)

goes_so : (s : Begun) (line : Line) (after : Option Begun) (printed : List Event) (rs : List Sent) → GoesOn s line after printed → Replies (Some s) rs → Replies after (rs ++ low_lines printed)
goes_so (Whole s) line after printed rs (timely, (q, step, e)) k =
    subst (λ (t : Option Begun). Replies t (rs ++ low_lines printed)) (sym e) (step_grows s.row s.past line q printed step rs k)
goes_so (Alone s) line after printed rs (timely, (q, step, e)) k =
    subst (λ (t : Option Begun). Replies t (rs ++ low_lines printed)) (sym e) (step_low_grows s.row s.past line false q printed step rs k)

leads_so : (o : Openings) (running : Option Begun) (line : Line) (after : Option Begun) (printed : List Event) (rs : List Sent) → Leads o running line after printed → Replies running rs → Replies after (rs ++ low_lines printed)
leads_so o running line after printed rs h k =
    led o running line after printed h
    (λ skip e f. stays_so running after printed rs e f k)
    (λ s none new e f. begins_so o s after printed rs new e f (subst (λ (r : Option Begun). Replies r rs) none k))
    (λ s some goes. goes_so s line after printed rs goes (subst (λ (r : Option Begun). Replies r rs) some k))
    (λ s session some is new again e f. begins_so o (made_coarse s) after printed rs again e f (nothing_yet o s rs new (subst (λ (r : Option Begun). Replies r rs) some k)))

pub lead_so : (o : Openings) (running : Option Begun) (script : List Line) (after : Option Begun) (printed : List Event) (rs : List Sent) → LeadTo o running script after printed → Replies running rs → Replies after (rs ++ low_lines printed)
lead_so o running [] after printed rs (e, f) k = stays_so running after printed rs e f k
lead_so o running (line ∷ script) after printed rs (mid, first, second, h, later, e) k =
    let a = leads_so o running line mid first rs h k in
    let b = lead_so o mid script after second (rs ++ low_lines first) later a in
    let same : (rs ++ low_lines first) ++ low_lines second ≡ rs ++ low_lines printed =
    append_assoc rs (low_lines first) (low_lines second) ∙ ap (λ l. rs ++ l) (sym (ap low_lines e ∙ low-append first second)) in
    subst (Replies after) same b

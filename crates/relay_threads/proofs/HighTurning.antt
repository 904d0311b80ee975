-- One look and one round of the high worker, by what their calls say.
use Rattle.std.proofs.Common.{◌≡◌, ℕ, ◌≤◌, Bool, true, false, List, Option, Some, None, Result, Ok, Err, refl, sym, ap, ◌∙◌, subst, arith}
use Rattle.std.specs.Prelude.{IfSome, if◌then◌else◌, ◌||◌, ◌&&◌, not, is_some}
use Rattle.disk_model.specs.Disk.{Meaning}
use Rattle.stable_buffer.specs.High.{high_disk}
use Rattle.stable_buffer.specs.declared.high.HighStore.{HighStore}
use Rattle.pump_frame.specs.declared.frame.Frame.{Frame}
use Rattle.pump_frame.specs.declared.frame.Item.{Item}
use Rattle.pump_frame.specs.declared.row.SessionRow.{SessionRow}
use Rattle.pump_core.specs.Passage.{Shape, Low, High}
use Rattle.high_process.specs.declared.process.HighProcess.{HighProcess}
use Rattle.high_process.specs.declared.values.HighFault.{HighFault}
use Rattle.high_process.specs.declared.values.HighFault.TheVariants as faults
use Rattle.high_process.specs.declared.values.HighLook.{HighLook}
use Rattle.high_process.specs.declared.values.Task.{Task}
use Rattle.high_process.specs.declared.values.Task.TheVariants.{Refuse, Remove, Keep}
use Rattle.high_process.specs.Tasks.{is_attach, task_of}
use Rattle.high_process.specs.Past.{ProcessPast, begun, removed_in, published_in, taken_up, finished, wants, sent_in}
use Rattle.high_process.specs.States.{row_of, hand_of, last_of, is_down, task_at, attaches_at}
use Rattle.high_process.specs.Ready.{Ready}
use Rattle.high_process.specs.Storing.{GivenBack, Fares, IsAfter, Removing}
use Rattle.high_process.specs.Ends.{TakesUp, told_time}
use Rattle.high_process.specs.Looks.{StandsFor, Looked}
use Rattle.high_process.proofs.Looking.{removal}
use Rattle.pump_frame.specs.Readings.{Reading}
use Rattle.relay_threads.specs.Heards.{Heard}
use Rattle.relay_threads.specs.Heards as heards
use Rattle.relay_threads.specs.declared.high_served.HighWhy.{HighWhy}
use Rattle.relay_threads.specs.declared.high_served.HighWhy.TheVariants.{Gone, Bad, NotAttach, LinkFailed, Device, Ahead, Behind, Looks, Stopped}
use Rattle.relay_threads.specs.declared.high_round.Plan.{Plan}
use Rattle.relay_threads.specs.declared.high_round.Plan.TheVariants.{End, Pass, Look}
use Rattle.relay_threads.specs.Hearings.{Hearing, IsHearing, Leaves, heard_as}
use Rattle.relay_threads.specs.HighRounds.{Made, Round, MakesLook, plan_of, frame_heard, cause, cause_by, cause_look, why_of, is_frame, IsDone, LooksBy, with_hand, past_by}
use Rattle.relay_threads.specs.HighServes.{LookMade, RoundMade, CountsFault, CountsFaultIn, is_device, device_in}

-- what is in the hand after a look tells what was taken up
taken_hand : (u : ProcessPast) (got : Option Item) → taken_up u got ≡ with_hand u (taken_up u got).hand
taken_hand u None = refl
taken_hand u (Some x) = refl

unwanted : (s : Shape) (on_one_thread : Bool) (after : Low → High → Type 0) (l : Low) (h : High) (b : Bool) (n : ℕ) (got : Option Item) (u : ProcessPast) → b ≡ false → TakesUp s on_one_thread after l h b n got → (taken_up u got).hand ≡ u.hand
unwanted s on_one_thread after l h true n got u e t = cc
unwanted s on_one_thread after l h false n got u e t = ap (λ o. (taken_up u o).hand) t.0

-- what comes is the next message
next_hand : (u : ProcessPast) (got : Option Item) → is_some u.hand ≡ false → IfSome (taken_up u got).hand (λ x. x.number ≡ u.removed)
next_hand u (Some x) e = refl
next_hand u None e = none_in u.hand e where
  none_in : (hand : Option Item) → is_some hand ≡ false → IfSome hand (λ x. x.number ≡ u.removed)
  none_in None e = tt
  none_in (Some x) e = absurd (cc)

wanted_empty : (hand : Option Item) (below : Bool) → not (is_some hand) && below ≡ true → is_some hand ≡ false
wanted_empty None below e = refl
wanted_empty (Some x) below e = absurd (cc)

module _ (s : Shape) (on_one_thread : Bool) (after : Low → High → Type 0) (l : Low) (h : High) (p q : HighProcess) (t : ProcessPast) (m : ℕ) (task : Task) (attaches : Bool) (look : HighLook)
    (seen : Looked s on_one_thread after l h p q t m task attaches look) where
  hand_now : (taken_up (begun task t m) seen.got).hand ≡ (hand_of q)
  hand_now = sym seen.stands.holds.hand

  up_now : taken_up (begun task t m) seen.got ≡ with_hand (begun task t m) (hand_of q)
  up_now = taken_hand (begun task t m) seen.got ∙ ap (with_hand (begun task t m)) hand_now

  pub is_done : IsDone p.row t m (hand_of q) task attaches look
  is_done = record {
    stays = λ e. sym hand_now ∙ unwanted s on_one_thread after l (told_time _ h) (wants (begun task t m)) (begun task t m).removed seen.got (begun task t m) e seen.ends;
    next = λ e. subst (λ o. IfSome o (λ x. x.number ≡ (begun task t m).removed)) hand_now (next_hand (begun task t m) seen.got (wanted_empty (begun task t m).hand _ e));
    is = seen.is ∙ ap (λ u. record { removed = removed_in task t; published = published_in task t m; sent = sent_in p.row.resend attaches u m }) up_now;
  }

  pub stands_now : StandsFor q (finished p.row.resend attaches (with_hand (begun task t m) (hand_of q)) m)
  stands_now = subst (λ u. StandsFor q (finished p.row.resend attaches u m)) up_now seen.stands

looks_ok : {D : Type 0} (M : Meaning D) (p q : HighProcess) (old new : HighStore D) (task : Task) (row : SessionRow) (t : ProcessPast) (m : ℕ) (attaches : Bool) (look : HighLook)
    → Fares {T = HighLook} M task p q old new (Ok look) → IsDone row t m (hand_of q) task attaches look → LooksBy row t m (hand_of q) (Ok look) task attaches
looks_ok M p q old new (Refuse e) row t m attaches look f d = absurd (let x = f.0 in cc)
looks_ok M p q old new Keep row t m attaches look f d = d
looks_ok M p q old new Remove row t m attaches look f d = d

looks_err : {D : Type 0} (M : Meaning D) (p q : HighProcess) (old new : HighStore D) (task : Task) (row : SessionRow) (t : ProcessPast) (m : ℕ) (hand : Option Item) (attaches : Bool) (e : HighFault)
    → Fares {T = HighLook} M task p q old new (Err e) → LooksBy row t m hand (Err e) task attaches
looks_err M p q old new (Refuse x) row t m hand attaches e f = f.0
looks_err M p q old new Keep row t m hand attaches e f = absurd f.0
looks_err M p q old new Remove row t m hand attaches e f = (_, f.0.fault)

stands_err : {D : Type 0} (M : Meaning D) (p q : HighProcess) (old new : HighStore D) (task : Task) (t : ProcessPast) (e : HighFault) → Fares {T = HighLook} M task p q old new (Err e) → is_down q ≡ false → StandsFor p t → StandsFor q t
stands_err M p q old new (Refuse x) t e f up st = subst (λ w. StandsFor w t) (sym f.1) st
stands_err M p q old new Keep t e f up st = absurd f.0
stands_err M p q old new Remove t e f up st = absurd (let x = f.1 in cc)

back_by : (session : ℕ) (t : ProcessPast) (frame : Option Frame) (task : Task) (o : Option ℕ) → task_of session t.removed t.hand frame ≡ task → o ≡ removed_in task t → IfSome o (λ b. (b ≡ t.removed) × GivenBack session b frame)
back_by session t frame Remove o is e = subst (λ x. IfSome x (λ b. (b ≡ t.removed) × GivenBack session b frame)) (sym e) (refl, (removal session t.removed t.hand frame is).given)
back_by session t frame Keep o is e = subst (λ x. IfSome x (λ b. (b ≡ t.removed) × GivenBack session b frame)) (sym e) tt
back_by session t frame (Refuse x) o is e = subst (λ x. IfSome x (λ b. (b ≡ t.removed) × GivenBack session b frame)) (sym e) tt

-- the past has the process's count and hand, so a frame asks the same of both
pub same_task : (p : HighProcess) (t : ProcessPast) (frame : Option Frame) → StandsFor p t → task_at p frame ≡ task_of p.row.id t.removed t.hand frame
same_task p t frame st = ap (λ (c : ℕ × Option Item). task_of p.row.id c.0 c.1 frame) (λ i. (st.holds.removed i, st.holds.hand i))

abbrev pub made_ok : HighProcess → Option Frame → HighLook → Made
made_ok q frame look = record { frame = frame; hand = (hand_of q); result = Ok look }

abbrev pub made_err : HighProcess → Option Frame → HighFault → Made
made_err q frame e = record { frame = frame; hand = (hand_of q); result = Err e }

pub look_ok : {D : Type 0} (M : Meaning D) (s : Shape) (on_one_thread : Bool) (after : Low → High → Type 0) (l : Low) (h : High) (p q : HighProcess) (old new : HighStore D) (m : ℕ) (frame : Option Frame) (look : HighLook)
    → row_of q ≡ row_of p → Fares {T = HighLook} M (task_at p frame) p q old new (Ok look)
    → ((t : ProcessPast) → StandsFor p t → Looked s on_one_thread after l h p q t m (task_at p frame) (attaches_at p frame) look)
    → LookMade p q m frame (made_ok q frame look)
look_ok M s on_one_thread after l h p q old new m frame look row fares seen = record {
  row = row;
  given = refl;
  looks = λ t st.
      let d = is_done s on_one_thread after l h p q t m (task_at p frame) (attaches_at p frame) look (seen t st) in
      record {
        looks = subst (λ task. LooksBy p.row t m (hand_of q) (Ok look) task (attaches_at p frame)) (same_task p t frame st)
            (looks_ok M p q old new (task_at p frame) p.row t m (attaches_at p frame) look fares d);
        back = back_by p.row.id t frame (task_of p.row.id t.removed t.hand frame) look.removed refl
            (ap (λ w. w.removed) d.is ∙ ap (λ task. removed_in task t) (same_task p t frame st));
      };
  past = λ up t st. subst (λ task. StandsFor q (past_by p.row t m (hand_of q) (Ok look) task (attaches_at p frame))) (same_task p t frame st)
      (stands_now s on_one_thread after l h p q t m (task_at p frame) (attaches_at p frame) look (seen t st));
}

pub look_err : {D : Type 0} (M : Meaning D) (p q : HighProcess) (old new : HighStore D) (m : ℕ) (frame : Option Frame) (e : HighFault)
    → row_of q ≡ row_of p → Fares {T = HighLook} M (task_at p frame) p q old new (Err e) → LookMade p q m frame (made_err q frame e)
look_err M p q old new m frame e row fares = record {
  row = row;
  given = refl;
  looks = λ t st. record {
    looks = subst (λ task. LooksBy p.row t m (hand_of q) (Err e) task (attaches_at p frame)) (same_task p t frame st)
        (looks_err M p q old new (task_at p frame) p.row t m (hand_of q) (attaches_at p frame) e fares);
    back = tt;
  };
  past = λ up t st. stands_err M p q old new (task_at p frame) t e fares up st;
}

-- after a fault that leaves the process up all is as it was
pub same_err : {D : Type 0} (M : Meaning D) (p q : HighProcess) (old new : HighStore D) (task : Task) (e : HighFault) → Fares {T = HighLook} M task p q old new (Err e) → is_down q ≡ false → (q ≡ p) × (new ≡ old)
same_err M p q old new (Refuse x) e f up = (f.1, f.2)
same_err M p q old new Keep e f up = absurd f.0
same_err M p q old new Remove e f up = absurd (let x = f.1 in cc)

pub ready_again : {D : Type 0} (M : Meaning D) (p q : HighProcess) (old new : HighStore D) (s s' : Low → High → Type 0) → Ready M p old s → q ≡ p → new ≡ old → s' ≡ s → Ready M q new s'
ready_again M p q old new s s' r e f h = subst (λ w. Ready M q w s') (sym f) (subst (λ w. Ready M w old s') (sym e) (subst (λ w. Ready M p old w) (sym h) r))

-- ---- one round ----

look_whole : (r : Result HighLook HighFault) (b : Bool) → cause_look r b ≡ None → b ≡ true
look_whole (Ok look) true e = refl
look_whole (Ok look) false e = cc
look_whole (Err x) b e = cc

-- what was heard decides the plan
pub plan_is : (attached : Bool) (h : Hearing) (heard : Heard) (plan w : Plan) → heard ≡ heard_as h.ending → plan ≡ plan_of attached heard → plan ≡ w → plan_of attached (heard_as h.ending) ≡ w
plan_is attached h heard plan w same is at = ap (plan_of attached) (sym same) ∙ sym is ∙ at

-- .. and the frame that the look is given
pub frame_is : (h : Hearing) (heard : Heard) (frame : Option Frame) → heard ≡ heard_as h.ending → frame ≡ frame_heard heard → frame ≡ frame_heard (heard_as h.ending)
frame_is h heard frame same is = is ∙ ap frame_heard same

pub attached_is : (attached now : Bool) (h : Hearing) (heard : Heard) → heard ≡ heard_as h.ending → now ≡ (attached || is_frame heard) → now ≡ (attached || is_frame (heard_as h.ending))
attached_is attached now h heard same is = is ∙ ap (λ w. attached || is_frame w) same

abbrev pub round_without : ℕ → Hearing → Round
round_without m h = record { moment = m; heard = h; made = None; is_sent = true }

abbrev pub round_with : ℕ → Hearing → Made → Bool → Round
round_with m h x is_sent = record { moment = m; heard = h; made = Some x; is_sent = is_sent }

module _ (p : HighProcess) (held : List ℕ) (now : Reading) (attached : Bool) (m : ℕ) (h : Hearing) (reads : IsHearing held h) (after : Leaves held h.bytes h.ending now) where
  no_look : (plan : Plan) → plan_of attached (heard_as h.ending) ≡ plan → ((t : ProcessPast) → MakesLook p.row t m plan (frame_heard (heard_as h.ending)) None) → RoundMade p p held now attached (round_without m h)
  no_look plan is makes = record {
    row = refl;
    reads = reads;
    leaves = after;
    makes = λ t st. subst (λ w. MakesLook p.row t m w (frame_heard (heard_as h.ending)) None) (sym is) (makes t);
    whole = λ e. refl;
    past = λ up t st. st;
  }

  pub ended_turn : (why : HighWhy) → plan_of attached (heard_as h.ending) ≡ End why → RoundMade p p held now attached (round_without m h)
  ended_turn why is = no_look (End why) is (λ t. refl)

  pub passed_turn : plan_of attached (heard_as h.ending) ≡ Pass → RoundMade p p held now attached (round_without m h)
  passed_turn is = no_look Pass is (λ t. refl)

  pub ended_cause : (why : HighWhy) → plan_of attached (heard_as h.ending) ≡ End why → Some why ≡ cause attached (round_without m h)
  ended_cause why is = ap (λ w. cause_by w None true) (sym is)

  pub passed_cause : plan_of attached (heard_as h.ending) ≡ Pass → None ≡ cause attached (round_without m h)
  passed_cause is = ap (λ w. cause_by w None true) (sym is)

  pub looked_turn : (q : HighProcess) (x : Made) (is_sent : Bool) (frame : Option Frame) → plan_of attached (heard_as h.ending) ≡ Look → frame ≡ frame_heard (heard_as h.ending) → LookMade p q m frame x → RoundMade p q held now attached (round_with m h x is_sent)
  looked_turn q x is_sent frame is came look = record {
    row = look.row;
    reads = reads;
    leaves = after;
    makes = λ t st. subst (λ w. MakesLook p.row t m w (frame_heard (heard_as h.ending)) (Some x)) (sym is) (x, refl, look.given ∙ came, look.looks t st);
    whole = λ e. look_whole x.result is_sent (ap (λ w. cause_by w (Some x) is_sent) (sym is) ∙ e);
    past = look.past;
  }

  pub looked_cause : (x : Made) (is_sent : Bool) → plan_of attached (heard_as h.ending) ≡ Look → cause_look x.result is_sent ≡ cause attached (round_with m h x is_sent)
  looked_cause x is_sent is = ap (λ w. cause_by w (Some x) is_sent) (sym is)

-- ---- what a look's answer says of the disk, and of the process ----

-- the disk's count of faults never falls
pub look_counts : {D T : Type 0} (M : Meaning D) (task : Task) (p q : HighProcess) (old new : HighStore D) (result : Result T HighFault) → Fares M task p q old new result → M.count (high_disk old) ≤ M.count (high_disk new)
look_counts M (Refuse x) p q old new result f = subst (λ s. M.count (high_disk old) ≤ M.count (high_disk s)) (sym f.2) (omega arith)
look_counts M Keep p q old new result f = subst (λ s. M.count (high_disk old) ≤ M.count (high_disk s)) (sym f.1) (omega arith)
look_counts M Remove p q old new result f = f.0.answers.counts

removing_counts : {D : Type 0} (M : Meaning D) (old new : HighStore D) (n : ℕ) → Removing {T = HighLook} M old new (Err (faults.Device n)) → CountsFault (why_of (faults.Device n)) (M.count (high_disk old)) (M.count (high_disk new))
removing_counts M old new n f = (let is = f.fault in cc, f.answers.rose refl)

-- a device fault carries the count, which rose
pub err_counts : {D : Type 0} (M : Meaning D) (task : Task) (p q : HighProcess) (old new : HighStore D) (m : ℕ) (e : HighFault) (why : HighWhy) → why ≡ why_of e → is_down p ≡ false → IsAfter e p q m → Fares {T = HighLook} M task p q old new (Err e) → CountsFault why (M.count (high_disk old)) (M.count (high_disk new))
err_counts M task p q old new m e why is up after f = subst (λ w. CountsFault w (M.count (high_disk old)) (M.count (high_disk new))) (sym is) (by_cases e task after f) where
  by_cases : (e : HighFault) (task : Task) → IsAfter e p q m → Fares {T = HighLook} M task p q old new (Err e) → CountsFault (why_of e) (M.count (high_disk old)) (M.count (high_disk new))
  by_cases (faults.Device n) Remove after f = removing_counts M old new n f.0
  by_cases (faults.Device n) Keep after f = absurd f.0
  by_cases (faults.Device n) (Refuse x) after f = absurd (let down = after.down in let same = ap is_down f.1 in cc)
  by_cases (faults.Ahead n x) task after f = tt
  by_cases (faults.Behind n x) task after f = tt

-- the process is down after a device fault alone
pub err_up : (p q : HighProcess) (m : ℕ) (e : HighFault) (why : HighWhy) → why ≡ why_of e → is_down p ≡ false → IsAfter e p q m → is_device why ≡ false → is_down q ≡ false
err_up p q m e why is up after calm = by_cases e after (ap is_device (sym is) ∙ calm) where
  by_cases : (e : HighFault) → IsAfter e p q m → is_device (why_of e) ≡ false → is_down q ≡ false
  by_cases (faults.Device n) after calm = absurd (cc)
  by_cases (faults.Ahead n x) after calm = ap is_down after ∙ up
  by_cases (faults.Behind n x) after calm = ap is_down after ∙ up

pub err_order : (p q : HighProcess) (m : ℕ) (e : HighFault) → last_of p ≤ m → IsAfter e p q m → last_of q ≤ m
err_order p q m (faults.Device n) le after = omega (arith, after.last)
err_order p q m (faults.Ahead n x) le after = subst (λ w. last_of w ≤ m) (sym after) le
err_order p q m (faults.Behind n x) le after = subst (λ w. last_of w ≤ m) (sym after) le

-- a refused frame, or a fault of the disk, is no failure of the link
pub err_link : {A : Type 0} (e : HighFault) (why : HighWhy) → why ≡ why_of e → Some why ≡ Some LinkFailed → A
err_link (faults.Device n) why is failed = absurd (cc)
err_link (faults.Ahead n x) why is failed = absurd (cc)
err_link (faults.Behind n x) why is failed = absurd (cc)

-- what a send says of the turn is no fault of the disk
pub calm_counts : (why : Option HighWhy) (before now : ℕ) → device_in why ≡ false → CountsFaultIn why before now
calm_counts None before now calm = tt
calm_counts (Some Gone) before now calm = tt
calm_counts (Some Bad) before now calm = tt
calm_counts (Some NotAttach) before now calm = tt
calm_counts (Some LinkFailed) before now calm = tt
calm_counts (Some (Device n)) before now calm = absurd (cc)
calm_counts (Some (Ahead n m)) before now calm = tt
calm_counts (Some (Behind n m)) before now calm = tt
calm_counts (Some Looks) before now calm = tt
calm_counts (Some Stopped) before now calm = tt

-- ---- how a reading ends a connection ----

no_attach : (b : Bool) (why : HighWhy) → (if b then Look else End NotAttach) ≡ End why → (why ≡ LinkFailed → ⊥) × (device_in (Some why) ≡ false)
no_attach true why e = absurd (cc)
no_attach false why e = (let is : NotAttach ≡ why = cc in ((λ failed. cc), ap is_device (sym is)))

no_end : {A : Type 0} (b : Bool) (why : HighWhy) → (if b then Look else Pass) ≡ End why → A
no_end true why e = absurd (cc)
no_end false why e = absurd (cc)

-- as a failure of the link only where the link failed
pub ended_failed : (attached : Bool) (heard : Heard) (plan : Plan) (why : HighWhy) → plan ≡ plan_of attached heard → plan ≡ End why → Some why ≡ Some LinkFailed → heard ≡ heards.Failed
ended_failed attached heard plan why is end failed = by_cases heard (sym is ∙ end) where
  same : why ≡ LinkFailed
  same = cc

  by_cases : (heard : Heard) → plan_of attached heard ≡ End why → heard ≡ heards.Failed
  by_cases heards.Nothing e = no_end attached why e
  by_cases (heards.Frame f) e = absurd ((no_attach (attached || is_attach f.kind) why e).0 same)
  by_cases heards.Bad e = absurd (cc)
  by_cases heards.Ended e = absurd (cc)
  by_cases heards.Failed e = refl

-- never as a fault of the disk
pub ended_calm : (attached : Bool) (heard : Heard) (plan : Plan) (why : HighWhy) → plan ≡ plan_of attached heard → plan ≡ End why → device_in (Some why) ≡ false
ended_calm attached heard plan why is end = by_cases heard (sym is ∙ end) where
  by_cases : (heard : Heard) → plan_of attached heard ≡ End why → device_in (Some why) ≡ false
  by_cases heards.Nothing e = no_end attached why e
  by_cases (heards.Frame f) e = (no_attach (attached || is_attach f.kind) why e).1
  by_cases heards.Bad e = let same : Bad ≡ why = cc in ap is_device (sym same)
  by_cases heards.Ended e = let same : Gone ≡ why = cc in ap is_device (sym same)
  by_cases heards.Failed e = let same : LinkFailed ≡ why = cc in ap is_device (sym same)

pub none_no_link : None ≡ Some LinkFailed → ⊥
none_no_link e = cc

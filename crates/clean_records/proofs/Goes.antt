-- A recorded look, as its line tells it, goes on with the life of the record.
use Rattle.std.proofs.Common.{◌≡◌, ℕ, zero, suc, ◌≤◌, Bool, true, false, List, [], ◌∷◌, ◌++◌, Option, Some, None, refl, sym, ap, ◌∙◌, subst, arith}
use Rattle.std.specs.Prelude.{if◌then◌else◌, ◌&&◌, ◌||◌, ◌==◌, not, nat_le, nat_lt, length, slice_index, is_some, IfSome}
use Rattle.pump_frame.specs.declared.frame.Frame.{Frame}
use Rattle.pump_frame.specs.declared.frame.Kind.{Kind}
use Rattle.pump_frame.specs.declared.frame.Kind.TheVariants.{Hello, Welcome, Data, Ack, Refuse, Attach, Taken}
use Rattle.pump_frame.specs.declared.row.SessionRow.{SessionRow}
use Rattle.pump_core.specs.declared.feedback.Feedback.{Feedback}
use Rattle.pump_core.specs.declared.feedback.Feedback.TheVariants as feedbacks
use Rattle.pump_core.specs.Phases.{Phase}
use Rattle.pump_core.specs.Phases.{Idle, Passing, Waiting as Waits, Down}
use Rattle.pump_core.specs.History.{Arrival, Look, Opening, History, looked}
use Rattle.pump_core.specs.History.{Nothing, Came, Bad, Gone}
use Rattle.pump_core.specs.Exchanges.{is_gone, is_hello, is_data, is_repeat, is_next, permits_frame}
use Rattle.pump_core.specs.Comings.{is_nothing}
use Rattle.pump_core.specs.Replies.{Sent, sent, LowReplies, welcome, refusal, acknowledgement}
use Rattle.pump_core.specs.ReplyFrames.{code_of, frame_of, IsLawfulReply}
use Rattle.pump_core.specs.declared.reply.Refusal.{Refusal}
use Rattle.pump_core.specs.declared.reply.Refusal.TheVariants as refusals
use Rattle.pump_core.specs.declared.reply.Reply.{Reply}
use Rattle.pump_core.specs.declared.reply.Reply.TheVariants as replies
use Rattle.pump_frame.specs.Frames.{IsForm}
use Rattle.pump_core.specs.Step.{after, reply_at, reply_in, takes_at, takes_in, fits_in, FeedbackFits, is_full, is_quiet}
use Rattle.pump_core.specs.Standing.{State, StandsAt, end_of, last_moment}
use Rattle.pump_core.proofs.Standings.{stands_after, replies_after, newest_after}
use Rattle.low_process.specs.Looks.{look_of}
use Rattle.script_reader.proofs.Hearing.{quiet_is}
use Rattle.script_reader.specs.declared.line.Line.TheVariants as lines
use Rattle.script_reader.specs.declared.line.ToldFeedback.{ToldFeedback}
use Rattle.script_reader.specs.declared.line.ToldFeedback.TheVariants as told
use Rattle.script_reader.specs.Alone.{tells_level}
use Rattle.relay_threads.specs.Records.{Made, looks_made, replies_made, history_made, AreMade, passes_on, was_full, is_recorded}
use Rattle.relay_threads.specs.RecordLines.{is_reply_kind, IsReplyFrame, taken_by, tells_fault, told_of, arriving_of, line_of, without_ports, HasLawfulFrame}
use Rattle.relay_threads.specs.Replays.{is_lost}
use Rattle.relay_threads.proofs.Machine.{led, reply_led}
use Rattle.relay_threads.proofs.Kept.{thin_of}
use Rattle.relay_threads.proofs.Alike.{Same, same_gone, same_told, down_after}
use Rattle.relay_threads.proofs.Alike as alike
use Rattle.pump_audit.proofs.Writing.{line_told, IsPlainLook}
use Rattle.pump_audit.specs.Records as audited
use Rattle.pump_audit.specs.Records.{Means, IsNextLook}

-- ---- one look of the machine ----

fault_kind : (k : Kind) → audited.is_refuse k ≡ Rattle.relay_threads.specs.RecordLines.is_refuse k
fault_kind Hello = refl
fault_kind Welcome = refl
fault_kind Data = refl
fault_kind Ack = refl
fault_kind Refuse = refl
fault_kind Attach = refl
fault_kind Taken = refl

pub fault_told : (r : Option Frame) → tells_fault r ≡ audited.tells_fault r
fault_told None = refl
fault_told (Some f) = ap (λ b. b && slice_index f.payload 0 == 5) (sym (fault_kind f.kind))

module _ (row : SessionRow) (s : State) (last : ℕ) (h : History) (x : Look) (stands : StandsAt row s last h) (fits : FeedbackFits row s x) (order : last ≤ x.moment) where
  pub goes_on : audited.is_lost h.life.looks ≡ false → (is_nothing x.arrival ≡ false → takes_at s x ≡ true) → x.is_fault ≡ audited.tells_fault (reply_at row s x) → IsNextLook row h x
  goes_on fine takes outcome =
      let now = stands_after row s last h x fits stands order in
      record {
        order = subst (λ (n : ℕ). n ≤ x.moment) stands.newest order;
        goes_on = fine;
        parts = now.parts;
        cut = now.cut;
        taken = λ n. (newest_after row s last h x fits stands now.parts now.cut).taken ∙ takes n;
        reply = reply_at row s x;
        replies = replies_after row s last h x fits stands;
        outcome = outcome;
      }

-- ---- what a line tells ----

-- the line that a look is told by, as a record has it
line_again : (session : ℕ) (t : ToldFeedback) (m w : ℕ) (d : Bool) (a : Arrival) → is_gone a ≡ false → line_told session t m w d a ≡ lines.Told session m w d t (arriving_of a)
line_again session t m w d Nothing stays = refl
line_again session t m w d (Came f) stays = refl
line_again session t m w d Bad stays = refl
line_again session t m w d Gone stays = absurd (cc)

plain_again : (t : ToldFeedback) (w : ℕ) (d : Bool) (a : Arrival) → is_gone a ≡ false → HasLawfulFrame a → IsPlainLook t w d a
plain_again t w d Nothing stays lawful = tt
plain_again t w d (Came f) stays lawful = lawful
plain_again t w d Bad stays lawful = tt
plain_again t w d Gone stays lawful = absurd (cc)

means_again : (row : SessionRow) (f : Feedback) → tells_level row (told_of row f) ≡ true → Means (without_ports row) (told_of row f) f
means_again row feedbacks.Quiet level = refl
means_again row feedbacks.Full level = refl
means_again row (feedbacks.Passed seen) level = (refl, level)
means_again row feedbacks.Released level = refl
means_again row (feedbacks.Repeat seen) level = (refl, level)

stays_taken : (taken : Bool) (a : Arrival) → is_gone a ≡ false → is_gone (if taken then a else Nothing) ≡ false
stays_taken true a stays = stays
stays_taken false a stays = refl

was_taken : (taken : Bool) (a : Arrival) → is_nothing (if taken then a else Nothing) ≡ false → taken ≡ true
was_taken true a some = refl
was_taken false a some = absurd (cc)

same_sent : (x x' : Look) (r : Option Frame) → x'.moment ≡ x.moment → sent x' r ≡ sent x r
same_sent x x' None e = refl
same_sent x x' (Some f) e = ap (λ m. record { moment = m; reply = f } ∷ []) e

module _ (row : SessionRow) (s : State) (h : History) (rs : List Sent) where
  abbrev bare : SessionRow
  bare = without_ports row

  -- the look of the record does what the one that was made did
  pub record Does (m : Made) (x : Look) : Type 0 where
    pub next : IsNextLook bare h x
    pub stands : StandsAt bare (after row s m.look) m.look.moment (looked h x)
    pub replies : LowReplies bare (looked h x) (rs ++ sent m.look m.reply)

  -- how a line of a record tells it
  pub record Tells (m : Made) : Type 0 where
    pub told_as : ToldFeedback
    pub word : ℕ
    pub is_fault : Bool
    pub arrival : Arrival
    pub line_is : line_told row.id told_as m.look.moment word is_fault arrival ≡ line_of row m
    pub plain : IsPlainLook told_as word is_fault arrival
    pub means : Means bare told_as m.look.feedback
    pub fault : is_fault ≡ tells_fault m.reply
    pub does : Does m (look_of m.look.moment word arrival is_fault m.look.feedback)

  module _ (last m w : ℕ) (d : Bool) (f : Feedback) (stands : StandsAt bare s last h) (order : last ≤ m) (said : LowReplies bare h rs) (fine : audited.is_lost h.life.looks ≡ false) where
    abbrev x : Arrival → Look
    x a = look_of m w a d f

    abbrev mk : Arrival → Made
    mk a = record { look = x a; taken = takes_at s (x a); reply = reply_at row s (x a) }

    does : (a : Arrival) (x' : Look) → x'.moment ≡ m → Same row s m w d f (x a) x' s.phase → (is_nothing x'.arrival ≡ false → takes_at s x' ≡ true) → x'.is_fault ≡ audited.tells_fault (reply_at bare s x') → Does (mk a) x'
    does a x' at same takes outcome =
        let order' : last ≤ x'.moment = subst (λ (n : ℕ). last ≤ n) (sym at) order in
        let sends : sent x' (reply_at bare s x') ≡ sent (x a) (reply_at row s (x a)) = same_sent (x a) x' (reply_at bare s x') at ∙ ap (sent (x a)) same.reply in
        record {
          next = goes_on bare s last h x' stands same.fits order' fine takes outcome;
          stands = subst (λ (z : State × ℕ). StandsAt bare z.0 z.1 (looked h x')) (λ i. (same.after i, at i)) (stands_after bare s last h x' same.fits stands order');
          replies = subst (λ (z : List Sent). LowReplies bare (looked h x') (rs ++ z)) sends (replies_after bare s last h x' same.fits stands rs said);
        }

    tells_come : (a : Arrival) → tells_level row (told_of row f) ≡ true → is_gone a ≡ false → FeedbackFits row s (x a) → HasLawfulFrame (taken_by (mk a)) → Tells (mk a)
    tells_come a level stays fits lawful =
        let came : Arrival = taken_by (mk a) in
        let stay : is_gone came ≡ false = stays_taken (takes_at s (x a)) a stays in
        let fault : Bool = tells_fault (mk a).reply in
        let same = same_told row s m w d f s.phase a stays fits in
        let x' : Look = alike.told row s m w d f a s.phase in
        let done = does a x' refl same (λ some. same.takes ∙ was_taken (takes_at s (x a)) a some) (fault_told (reply_at row s (x a)) ∙ ap audited.tells_fault (sym same.reply)) in
        record {
          told_as = told_of row f;
          word = w;
          is_fault = fault;
          arrival = came;
          line_is = line_again row.id (told_of row f) m w fault came stay ∙ sym (ap (λ b. if b then lines.Gone row.id m else lines.Told row.id m w fault (told_of row f) (arriving_of came)) stays);
          plain = plain_again (told_of row f) w fault came stay lawful;
          means = means_again row f level;
          fault = refl;
          does = done;
        }

    gone_fine : (ph : Phase) → tells_fault (reply_in row s (x Gone) ph) ≡ false
    gone_fine Down = refl
    gone_fine (Waits n at) = refl
    gone_fine (Passing owed) = refl
    gone_fine Idle = refl

    gone_quiet : (ph : Phase) → fits_in row s (x Gone) ph ≡ true → is_quiet f ≡ true
    gone_quiet Down fit = fit
    gone_quiet (Waits n at) fit = fit
    gone_quiet (Passing owed) fit = fit
    gone_quiet Idle fit = fit

    tells_gone : FeedbackFits row s (x Gone) → takes_at s (x Gone) ≡ true → Tells (mk Gone)
    tells_gone fits taken =
        let same = same_gone row s m w d f false s.phase fits in
        let x' : Look = look_of m 0 Gone false f in
        let fault : tells_fault (reply_at row s (x Gone)) ≡ false = gone_fine s.phase in
        record {
          told_as = told.Quiet;
          word = 0;
          is_fault = false;
          arrival = Gone;
          line_is = refl;
          plain = (refl, refl, refl);
          means = subst (λ (z : Feedback). Means bare told.Quiet z) (sym (quiet_is f (gone_quiet s.phase fits))) refl;
          fault = sym fault;
          does = does Gone x' refl same (λ some. same.takes ∙ taken) (sym fault ∙ fault_told (reply_at row s (x Gone)) ∙ ap audited.tells_fault (sym same.reply));
        }

    pub tells : (a : Arrival) → tells_level row (told_of row f) ≡ true → FeedbackFits row s (x a) → (is_gone a ≡ true → takes_at s (x a) ≡ true) → HasLawfulFrame (taken_by (mk a)) → Tells (mk a)
    tells Gone level fits takes lawful = tells_gone fits (takes refl)
    tells Nothing level fits takes lawful = tells_come Nothing level refl fits lawful
    tells Bad level fits takes lawful = tells_come Bad level refl fits lawful
    tells (Came g) level fits takes lawful = tells_come (Came g) level refl fits lawful

-- ---- a reply as a comment tells it ----

coded : (code : ℕ) → 1 ≤ code → code ≤ 5 → (why : Refusal) × (code_of why ≡ code)
coded zero from to = absurd (omega (arith, from))
coded (suc zero) from to = (refusals.Pair, omega arith)
coded (suc (suc zero)) from to = (refusals.Frame, omega arith)
coded (suc (suc (suc zero))) from to = (refusals.Size, omega arith)
coded (suc (suc (suc (suc zero)))) from to = (refusals.Step, omega arith)
coded (suc (suc (suc (suc (suc zero))))) from to = (refusals.Device, omega arith)
coded (suc (suc (suc (suc (suc (suc n)))))) from to = absurd (omega (arith, to))

abbrev IsReplied : Kind → ℕ → ℕ → List ℕ → Type 0
IsReplied k session number payload = (p : Reply) × IsLawfulReply p × (frame_of session p ≡ record { kind = k; session = session; number = number; payload = payload })

replied_by : (k : Kind) (session number : ℕ) (payload : List ℕ) → IsForm k number payload → is_reply_kind k ≡ true → IsReplied k session number payload
replied_by Welcome session number payload form e = (replies.Welcome number, form.0, λ i. record { kind = Welcome; session = session; number = number; payload = sym form.1 i })
replied_by Ack session number payload form e = (replies.Ack number, form.0, λ i. record { kind = Ack; session = session; number = number; payload = sym form.1 i })
replied_by Refuse session number payload (few, (code, from, to, is)) e =
    let why = coded code from to in
    (replies.Refuse why.0 number, few, λ i. record { kind = Refuse; session = session; number = number; payload = (ap (λ c. c ∷ []) why.1 ∙ sym is) i })
replied_by Hello session number payload form e = absurd (cc)
replied_by Data session number payload form e = absurd (cc)
replied_by Attach session number payload form e = absurd (cc)
replied_by Taken session number payload form e = absurd (cc)

pub reply_of : (g : Frame) → IsReplyFrame g → (p : Reply) × IsLawfulReply p × (frame_of g.session p ≡ g)
reply_of g h = replied_by g.kind g.session g.number g.payload h.0.form h.1

module _ (row : SessionRow) (s : State) (x : Look) where
  abbrev IsOwn : Option Frame → Type 0
  IsOwn r = IfSome r (λ g. g.session ≡ row.id)

  own_late : (gone late : Bool) (g : Frame) → g.session ≡ row.id → IsOwn (if gone then None else (if late then Some g else None))
  own_late true late g e = tt
  own_late false true g e = e
  own_late false false g e = tt

  own_taken : (again next d hello permitted early long ahead : Bool) (n : ℕ) → IsOwn (
      if again then None else if next then (if d then Some (refusal row 5 0) else None)
      else if hello then (if permitted then Some (welcome row n) else Some (refusal row 1 0)) else if early then Some (refusal row 2 0) else if long then Some (refusal row 3 0) else if ahead then Some (refusal row 4 n) else None)
  own_taken true next d hello permitted early long ahead n = tt
  own_taken false true true hello permitted early long ahead n = refl
  own_taken false true false hello permitted early long ahead n = tt
  own_taken false false d true true early long ahead n = refl
  own_taken false false d true false early long ahead n = refl
  own_taken false false d false permitted true long ahead n = refl
  own_taken false false d false permitted false true ahead n = refl
  own_taken false false d false permitted false false true n = refl
  own_taken false false d false permitted false false false n = tt

  own_idle : (a : Arrival) → IsOwn (Rattle.pump_core.specs.Step.reply_idle row s x a)
  own_idle Nothing = tt
  own_idle Bad = refl
  own_idle Gone = tt
  own_idle (Came f) = own_taken (is_repeat row s.next s.greeted f) (is_next row s.next s.greeted f) x.is_fault (is_hello f.kind) (permits_frame row f) (not (is_data f.kind) || not s.greeted || not (f.session == row.id)) (nat_lt row.message (length f.payload)) (nat_lt s.next f.number) s.next

  own_in : (ph : Phase) → IsOwn (reply_in row s x ph)
  own_in Down = tt
  own_in (Passing owed) = tt
  own_in (Waits n at) = own_late (is_gone x.arrival) (nat_le at x.moment) (acknowledgement row n) refl
  own_in Idle = own_idle x.arrival

-- ---- a look that was made ----

module _ (row : SessionRow) (o : Opening) where
  -- the look took something, replied, or was told that the passage took a message or was full
  abbrev pub counts : Made → Bool
  counts m = m.taken || (is_some m.reply || (passes_on m.look.feedback || is_full m.look.feedback))

  -- the state after these looks
  abbrev pub state : (made : List Made) → AreMade row o made → State
  state made are = end_of row o (thin_of row o made are).parts

  -- one more look is a step of the machine
  pub record Moves (m : Made) (before : List Made) (are : AreMade row o (m ∷ before)) : Type 0 where
    pub fits : FeedbackFits row (state before are.1) m.look
    pub state_is : state (m ∷ before) are ≡ after row (state before are.1) m.look
    pub taken : m.taken ≡ takes_at (state before are.1) m.look
    pub reply : m.reply ≡ reply_at row (state before are.1) m.look

  pub moves : (m : Made) (before : List Made) (are : AreMade row o (m ∷ before)) → Moves m before are
  moves m before are =
      let t = thin_of row o before are.1 in
      let u = thin_of row o (m ∷ before) are in
      let is = are.0 in
      let one = led row o (looks_made before) m.look t.parts is.parts t.cut is.cut in
      record {
        fits = one.fits;
        state_is = (led row o (looks_made before) m.look t.parts u.parts t.cut u.cut).state;
        taken = is.taken ∙ one.newest.taken;
        reply = reply_led row (end_of row o t.parts) (last_moment (looks_made before)) (history_made o before) m.look m.reply (replies_made before) one.fits t.whole t.replies is.replies;
      }

  -- its reply is one of the session
  pub own_reply : (m : Made) (before : List Made) (are : AreMade row o (m ∷ before)) → IfSome m.reply (λ g. g.session ≡ row.id)
  own_reply m before are =
      subst (λ (r : Option Frame). IfSome r (λ g. g.session ≡ row.id)) (sym (moves m before are).reply) (own_in row (state before are.1) m.look (state before are.1).phase)

  -- a process that is down does nothing that counts
  still : (s : State) (m : Made) → FeedbackFits row s m.look → m.taken ≡ takes_at s m.look → m.reply ≡ reply_at row s m.look → s.phase ≡ Down → counts m ≡ true → ⊥
  still s m fits taken reply down counted =
      let quiet : m.look.feedback ≡ feedbacks.Quiet = quiet_is m.look.feedback (sym (ap (fits_in row s m.look) down) ∙ fits) in
      let taken' : m.taken ≡ false = taken ∙ ap (takes_in m.look) down in
      let reply' : m.reply ≡ None = reply ∙ ap (reply_in row s m.look) down in
      let none : counts m ≡ false = ap (λ (z : Bool × Option Frame × Feedback). z.0 || (is_some z.1 || (passes_on z.2 || is_full z.2))) (λ i. (taken' i, reply' i, quiet i)) in
      cc

  lost_down : (made : List Made) (are : AreMade row o made) → is_lost made ≡ true → (state made are).phase ≡ Down
  lost_down [] are lost = absurd (cc)
  lost_down (m ∷ before) are lost =
      let v = moves m before are in
      let s = state before are.1 in
      ap (λ (z : State). z.phase) v.state_is ∙ down_after row s m.look.moment m.look.word m.look.is_fault m.look.feedback s.phase m.look.arrival (sym (ap tells_fault v.reply) ∙ lost)

  pub not_lost : (m : Made) (before : List Made) (are : AreMade row o (m ∷ before)) → counts m ≡ true → is_lost before ≡ false
  not_lost m before are counted =
      let v = moves m before are in
      elim (is_lost before) as (λ b. is_lost before ≡ b → b ≡ false) [ true ↦ λ e. absurd (still (state before are.1) m v.fits v.taken v.reply (lost_down before are.1 e) counted) | false ↦ λ e. refl ] refl

  idle_gone : (a : Arrival) → is_gone a ≡ true → Rattle.pump_core.specs.Step.takes_idle a ≡ true
  idle_gone Gone e = refl
  idle_gone Nothing e = absurd (cc)
  idle_gone Bad e = absurd (cc)
  idle_gone (Came f) e = absurd (cc)

  gone_taken : (x : Look) (ph : Phase) → (ph ≡ Down → ⊥) → is_gone x.arrival ≡ true → takes_in x ph ≡ true
  gone_taken x Down up gone = absurd (up refl)
  gone_taken x (Waits n at) up gone = gone
  gone_taken x (Passing owed) up gone = gone
  gone_taken x Idle up gone = idle_gone x.arrival gone

  module _ (m : Made) (before : List Made) (are : AreMade row o (m ∷ before)) (h : History) (stands : StandsAt (without_ports row) (state before are.1) (last_moment (looks_made before)) h)
      (said : LowReplies (without_ports row) h (replies_made before)) (fine : audited.is_lost h.life.looks ≡ false) where
    pub tells_made : counts m ≡ true → tells_level row (told_of row m.look.feedback) ≡ true → HasLawfulFrame (taken_by m) → Tells row (state before are.1) h (replies_made before) m
    tells_made counted level lawful =
        let v = moves m before are in
        let s = state before are.1 in
        let x = m.look in
        let up : s.phase ≡ Down → ⊥ = λ down. still s m v.fits v.taken v.reply down counted in
        let is_it : m ≡ record { look = x; taken = takes_at s x; reply = reply_at row s x } = λ i. record { look = x; taken = v.taken i; reply = v.reply i } in
        subst (Tells row s h (replies_made before)) (sym is_it) (
        tells row s h (replies_made before) (last_moment (looks_made before)) x.moment x.word x.is_fault x.feedback stands are.0.order said fine x.arrival level v.fits (gone_taken x s.phase up)
        (subst (λ (z : Made). HasLawfulFrame (taken_by z)) is_it lawful))

-- ---- what holds of the recorded looks ----

by_bools : (a b c d w : Bool) → (a || (b || (c || (d && not w)))) ≡ true → (a || (b || (c || d))) ≡ true
by_bools true b c d w e = refl
by_bools false true c d w e = refl
by_bools false false true d w e = refl
by_bools false false false true w e = refl
by_bools false false false false w e = absurd (cc)

pub counted : (before : List Made) (m : Made) → is_recorded before m ≡ true → (m.taken || (is_some m.reply || (passes_on m.look.feedback || is_full m.look.feedback))) ≡ true
counted before m e = by_bools m.taken (is_some m.reply) (passes_on m.look.feedback) (is_full m.look.feedback) (was_full before) e

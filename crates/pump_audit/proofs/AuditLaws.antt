-- What a line makes of a record that is checked.
use Rattle.std.proofs.Common.{◌≡◌, inl, inr, ℕ, ◌+◌, ◌≤◌, Bool, true, false, List, [], ◌∷◌, ◌++◌, length, Option, None, Some, refl, sym, ap, ◌∙◌, subst, arith, append-nil, length-append}
use Rattle.std.specs.Prelude.{◌==◌, slice_get, MatchOption, MatchBool, option_map, if◌then◌else◌, ◌&&◌, not, nat_le, is_some}
use Rattle.std.proofs.lemmas.List.{append_cancel_left}
use Rattle.std.proofs.lemmas.List.Sums.{sum_by-append}
use Rattle.std.proofs.lemmas.List.Elements.{All-nil}
use Rattle.moving_avg.specs.Windows.{HoldsTimes, averaging_in}
use Rattle.moving_avg.specs.declared.Window.{Window}
use Rattle.pump_frame.specs.declared.averaging.Averaging.{Averaging}
use Rattle.pump_frame.specs.Averages.{averaging_of, average_of}
use Rattle.pump_frame.specs.declared.frame.Frame.{Frame}
use Rattle.pump_frame.specs.declared.row.SessionRow.{SessionRow}
use Rattle.pump_core.specs.declared.feedback.Feedback.{Feedback}
use Rattle.pump_core.specs.declared.reply.Refusal.{Refusal}
use Rattle.pump_core.specs.declared.reply.Refusal.TheVariants as refusals
use Rattle.pump_core.specs.declared.reply.Reply.{Reply}
use Rattle.pump_core.specs.declared.reply.Reply.TheVariants.{Welcome, Ack, Refuse}
use Rattle.pump_core.specs.History.{Arrival, Look, Opening, History}
use Rattle.pump_core.specs.History.{Nothing, Came, Bad, Gone}
use Rattle.pump_core.specs.Exchanges.{is_gone, is_hello, is_repeat, is_next, permits_frame, due, Part, count_after, IsCut}
use Rattle.pump_core.proofs.Cuts.{one_cut}
use Rattle.pump_core.specs.Phases.{Phase}
use Rattle.pump_core.specs.Phases.{Idle, Passing, Waiting, Down}
use Rattle.pump_core.specs.ReplyFrames.{code_of, frame_of}
use Rattle.pump_core.specs.Replies.{Sent, sent, LowReplies}
use Rattle.pump_core.specs.Standing.{State, StandsAt}
use Rattle.pump_core.specs.Step.{after, after_in, after_idle, taken, passed, is_full, reply_at}
use Rattle.pump_core.proofs.Runs.{one_list_of_lives}
use Rattle.pump_core.proofs.Standings.{stands_after, replies_after}
use Rattle.pump_audit.specs.declared.claims.Claim.{Claim}
use Rattle.pump_audit.specs.declared.entry.LookLine.{LookLine}
use Rattle.pump_audit.specs.declared.claims.Claims.{Claims}
use Rattle.pump_audit.specs.declared.entry.Note.{Note}
use Rattle.pump_audit.specs.declared.entry.Note.TheVariants as notes
use Rattle.pump_audit.specs.declared.form.RecordPlace.{RecordPlace}
use Rattle.pump_audit.specs.declared.form.RecordPlace.TheVariants as places
use Rattle.pump_audit.specs.declared.life.Life.{Life}
use Rattle.pump_audit.specs.declared.state.Audit.{Audit}
use Rattle.pump_audit.specs.Auditing.{history_in, owed_in, LivesIn, MeetsAt, Held, Audits, LookIs, NoteIs, EntryIs, TextIs, EndIs, IsEnded, form_of_audit}
use Rattle.pump_audit.specs.declared.entry.Entry.{Entry}
use Rattle.pump_audit.specs.declared.entry.Entry.TheVariants as entries
use Rattle.pump_audit.specs.declared.form.Form.{Form}
use Rattle.pump_audit.specs.declared.verdict.Verdict.TheVariants.{No}
use Rattle.pump_audit.specs.Claims.{has_end, AreRight, IsFirstWrong}
use Rattle.pump_audit.specs.Entries.{IsEntry}
use Rattle.pump_audit.specs.Machine.{state_of, is_down, stores_of, begins_store, Lets}
use Rattle.pump_audit.specs.Pairs.{Keeps, Fell, IsMet, Waits, Meets}
use Rattle.pump_audit.specs.Places.{at_place, takes_looks, takes_times, behind_line, ends_at, has_end_at}
use Rattle.pump_audit.specs.Records.{Record, look_of, GoesOn, AreTold, claims_of, told_by_note, form_of, with_look, with_note}
use Rattle.pump_audit.specs.Verdicts.{is_ack, acknowledgements, IsRightEnd}
use Rattle.pump_audit.proofs.ClaimLaws.{meet_push, met_right, unmet_wrong, risen_right, fall_wrong}
use Rattle.pump_audit.proofs.Lives.{goes, lets_on, fits_of, outcome_of, up_of}

-- ---- the process goes down where a store fails ----

module _ (row : SessionRow) (s : State) (x : Look) where
  down_chosen : (r n d g : Bool) (p q : Phase) (m : ℕ) → is_down p ≡ false → is_down q ≡ false → is_down s.phase ≡ false
      → is_down (if r then record s { phase = p } else if n then (if d then record s { phase = Down } else record s { next = m; phase = q }) else record s { greeted = g }).phase ≡ ((not r && n) && d)
  down_chosen true n d g p q m hp hq hs = hp
  down_chosen false true true g p q m hp hq hs = refl
  down_chosen false true false g p q m hp hq hs = hq
  down_chosen false false d g p q m hp hq hs = hs

  two : (b c : Bool) (p q t : State) → is_down p.phase ≡ false → is_down q.phase ≡ false → is_down t.phase ≡ false → is_down (if b then p else if c then q else t).phase ≡ false
  two true c p q t hp hq ht = hp
  two false true p q t hp hq ht = hq
  two false false p q t hp hq ht = ht

  passed_up : (owed : Option ℕ) → is_down (passed row x owed) ≡ false
  passed_up None = refl
  passed_up (Some n) = refl

  down_idle : (a : Arrival) → s.phase ≡ Idle → is_down (after_idle row s x a).phase ≡ (stores_of row s a && x.is_fault)
  down_idle Nothing e = ap is_down e
  down_idle Bad e = ap is_down e
  down_idle Gone e = ap is_down e
  down_idle (Came f) e =
      down_chosen (is_repeat row s.next s.greeted f) (is_next row s.next s.greeted f) x.is_fault (if is_hello f.kind then permits_frame row f else s.greeted)
      (Waiting f.number (due row x)) (Passing (Some f.number)) (s.next + 1) refl refl (ap is_down e)

  down_in : (ph : Phase) → s.phase ≡ ph → is_down ph ≡ false → is_down (after_in row s x ph).phase ≡ (begins_store row s x.arrival ph && x.is_fault)
  down_in Down e up = absurd (cc)
  down_in (Waiting n at) e up = two (is_gone x.arrival) (nat_le at x.moment) _ _ _ refl refl (ap is_down e)
  down_in (Passing owed) e up = two (is_gone x.arrival) (is_full x.feedback) _ _ _ refl (ap is_down e) (passed_up owed)
  down_in Idle e up = down_idle x.arrival e

-- ---- looks ----

sent_owed : (row : SessionRow) (x : Look) (owed : Option Reply) → sent x (option_map (frame_of row.id) owed) ≡ owed_in row x.moment owed
sent_owed row x None = refl
sent_owed row x (Some reply) = refl

module _ (row : SessionRow) (o : Opening) (looks : List Look) (comments : List Sent) where
  h : History
  h = history_in o looks

  look_lives : (a b : Life) (owed : Option Reply) (l : LookLine) (f : Feedback) → LivesIn a None row o looks comments → Lets row (state_of a) a.last l f
      → state_of b ≡ after row (state_of a) (look_of l f) → b.last ≡ l.moment → b.row ≡ a.row
      → option_map (frame_of row.id) owed ≡ reply_at row (state_of a) (look_of l f) → LivesIn b owed row o (look_of l f ∷ looks) comments
  unfolding h
  look_lives a b owed l f was lets state last own reply =
      let x = look_of l f in
      let s = state_of a in
      let fits = fits_of row s a.last l f lets in
      let stands = stands_after row s a.last h x fits was.stands lets.order in
      let told = replies_after row s a.last h x fits was.stands (comments ++ []) was.replies in
      record {
        own_row = own ∙ was.own_row;
        stands = subst (λ (t : State × ℕ). StandsAt row t.0 t.1 (history_in o (x ∷ looks))) (λ i. (sym state i, sym last i)) stands;
        lost = ap (λ (t : State). is_down t.phase) state ∙ down_in row s x s.phase refl (up_of row s a.last l f lets) ∙ sym (outcome_of row s a.last l f lets);
        replies = subst (LowReplies row (history_in o (x ∷ looks)))
            (ap (λ c. c ++ sent x (reply_at row s x)) (append-nil comments) ∙ ap (λ r. comments ++ sent x r) (sym reply) ∙ ap (λ c. comments ++ c) (sent_owed row x owed) ∙ ap (λ m. comments ++ owed_in row m owed) (sym last)) told;
      }

  -- the comments tell one list of replies
  owed_is : (life : Life) (owed : Option Reply) (more : List Sent) → LivesIn life owed row o looks comments → LowReplies row (history_in o looks) (comments ++ more) → more ≡ owed_in row life.last owed
  owed_is life owed more was told =
      append_cancel_left comments more (owed_in row life.last owed)
      (one_list_of_lives row ((history_in o looks).life ∷ []) _ _ told was.replies)

  pub untold : (life : Life) (owed : Option Reply) → is_some owed ≡ true → LivesIn life owed row o looks comments → LowReplies row (history_in o looks) (comments ++ []) → ⊥
  untold life None e was told = absurd (cc)
  untold life (Some reply) e was told = let none = owed_is life (Some reply) [] was told in absurd (cc)

pub none_owed : (owed : Option Reply) → is_some owed ≡ false → owed ≡ None
none_owed None e = refl
none_owed (Some r) e = absurd (cc)

looks_meet : (p : RecordPlace) (row : SessionRow) (times : List ℕ) (pairs : List Claim) (met : ℕ) → takes_looks p ≡ true → MeetsAt p row times pairs met → (met ≡ 0) × (times ≡ [])
looks_meet places.Opening row times pairs met e h = h
looks_meet places.Looks row times pairs met e h = h
looks_meet places.Times row times pairs met e h = absurd (cc)
looks_meet places.Taken row times pairs met e h = absurd (cc)
looks_meet places.End row times pairs met e h = absurd (cc)

module _ (a : Audit) (r : Record) (was : Audits a r) (l : LookLine) where
  -- of the record's own row
  own : (f : Feedback) → Lets a.life.row (state_of a.life) a.life.last l f → Lets r.row (state_of a.life) a.life.last l f
  own f lets = subst (λ (row : SessionRow). Lets row (state_of a.life) a.life.last l f) was.life.own_row lets

  pub look_goes : (f : Feedback) → Lets a.life.row (state_of a.life) a.life.last l f → GoesOn r l f
  look_goes f lets = goes r.row (state_of a.life) a.life.last (history_in r.opening r.looks) was.life.stands was.life.lost l f (own f lets)

  pub look_broken : ((f : Feedback) → Lets a.life.row (state_of a.life) a.life.last l f → ⊥) → (f : Feedback) → GoesOn r l f → ⊥
  look_broken none f g =
      none f (subst (λ (row : SessionRow). Lets row (state_of a.life) a.life.last l f) (sym was.life.own_row)
      (lets_on r.row (state_of a.life) a.life.last (history_in r.opening r.looks) was.life.stands was.life.lost l f _ was.life.replies g.0 g.1))

  pub look_untold : is_some a.owed ≡ true → AreTold r [] → ⊥
  look_untold e told = untold r.row r.opening r.looks r.comments a.life a.owed e was.life told

  pub look_adds : (b : Audit) (f : Feedback) → is_some a.owed ≡ false → takes_looks a.place ≡ true → Lets a.life.row (state_of a.life) a.life.last l f
      → state_of b.life ≡ after a.life.row (state_of a.life) (look_of l f) → b.life.last ≡ l.moment → b.life.row ≡ a.life.row
      → option_map (frame_of a.life.row.id) b.owed ≡ reply_at a.life.row (state_of a.life) (look_of l f)
      → ((claims : List Claim) → Keeps claims a.claims.pairs.items → Keeps (claims_of f (a.lines + 1) ++ claims) b.claims.pairs.items)
      → ((claims : List Claim) → Fell claims a.claims.greatest a.claims.fall → Fell (claims_of f (a.lines + 1) ++ claims) b.claims.greatest b.claims.fall)
      → b.claims.met ≡ a.claims.met → b.window ≡ a.window → b.place ≡ places.Looks → b.lines ≡ a.lines + 1 → b.looks ≡ a.looks + 1 → b.acks ≡ a.acks
      → b.taken ≡ a.taken → b.accepted ≡ a.accepted → b.removed ≡ a.removed → LookIs r l b None
  look_adds b f none place lets state last row reply keeps fell met window at lines looks acks taken accepted removed =
      let owed = none_owed a.owed none in
      let life : LivesIn a.life None r.row r.opening r.looks r.comments = subst (λ (w : Option Reply). LivesIn a.life w r.row r.opening r.looks r.comments) owed was.life in
      let line : a.lines + 1 ≡ r.lines + 1 = ap (λ n. n + 1) was.counts.lines in
      let claims = subst (λ (n : ℕ). Keeps (claims_of f n ++ r.claims) b.claims.pairs.items) line (keeps r.claims was.held.keeps) in
      let falls = subst (λ (n : ℕ). Fell (claims_of f n ++ r.claims) b.claims.greatest b.claims.fall) line (fell r.claims was.held.fell) in
      let meets = looks_meet a.place r.row r.times a.claims.pairs.items a.claims.met place (subst (λ (p : RecordPlace). MeetsAt p r.row r.times a.claims.pairs.items a.claims.met) (sym was.counts.place) was.held.meets) in (
        f,
        look_goes f lets,
        life.replies,
        record {
          life = look_lives r.row r.opening r.looks r.comments a.life b.life b.owed l f life (own f lets)
              (subst (λ (w : SessionRow). state_of b.life ≡ after w (state_of a.life) (look_of l f)) was.life.own_row state) last row
              (subst (λ (w : SessionRow). option_map (frame_of w.id) b.owed ≡ reply_at w (state_of a.life) (look_of l f)) was.life.own_row reply);
          held = record {
            keeps = claims;
            fell = falls;
            holds = rw window was.held.holds;
            averaging = rw window was.held.averaging;
            meets = (met ∙ meets.0, meets.1);
          };
          counts = record {
            place = at;
            lines = lines ∙ line;
            looks = omega (arith, looks, was.counts.looks);
            acks = acks ∙ was.counts.acks;
            taken = taken ∙ was.counts.taken;
            accepted = accepted ∙ was.counts.accepted;
            removed = removed ∙ was.counts.removed;
          };
          fresh = λ e. absurd (cc);
        },
      )

-- ---- comments ----

refusal_in : ℕ → Refusal
refusal_in code =
    if code == 1 then refusals.Pair
    else if code == 2 then refusals.Frame
    else if code == 3 then refusals.Size
    else if code == 4 then refusals.Step
    else refusals.Device

refusal_back : (why : Refusal) → refusal_in (code_of why) ≡ why
unfolding refusal_in
refusal_back refusals.Pair = refl
refusal_back refusals.Frame = refl
refusal_back refusals.Size = refl
refusal_back refusals.Step = refl
refusal_back refusals.Device = refl

abbrev first_of : List ℕ → ℕ
first_of [] = 0
first_of (b ∷ bytes) = b

-- a reply's frame tells its session and the reply
same_reply : (s t : ℕ) (p q : Reply) → frame_of s p ≡ frame_of t q → (s ≡ t) × (p ≡ q)
same_reply s t (Welcome n) (Welcome m) e = (ap (λ (f : Frame). f.session) e, ap (λ (f : Frame). Welcome f.number) e)
same_reply s t (Ack n) (Ack m) e = (ap (λ (f : Frame). f.session) e, ap (λ (f : Frame). Ack f.number) e)
same_reply s t (Refuse w n) (Refuse v m) e =
    let code : code_of w ≡ code_of v = ap (λ (f : Frame). first_of f.payload) e in
    let why : w ≡ v = sym (refusal_back w) ∙ ap refusal_in code ∙ refusal_back v in
    let number : n ≡ m = ap (λ (f : Frame). f.number) e in
    (ap (λ (f : Frame). f.session) e, ap (λ (x : Refusal × ℕ). Refuse x.0 x.1) (λ i. (why i, number i)))
same_reply s t (Welcome n) (Ack m) e = absurd (let k = ap (λ (f : Frame). f.kind) e in cc)
same_reply s t (Welcome n) (Refuse v m) e = absurd (let k = ap (λ (f : Frame). f.kind) e in cc)
same_reply s t (Ack n) (Welcome m) e = absurd (let k = ap (λ (f : Frame). f.kind) e in cc)
same_reply s t (Ack n) (Refuse v m) e = absurd (let k = ap (λ (f : Frame). f.kind) e in cc)
same_reply s t (Refuse w n) (Welcome m) e = absurd (let k = ap (λ (f : Frame). f.kind) e in cc)
same_reply s t (Refuse w n) (Ack m) e = absurd (let k = ap (λ (f : Frame). f.kind) e in cc)

abbrev comment_of : ℕ → ℕ → Reply → List Sent
comment_of session moment reply = record { moment = moment; reply = frame_of session reply } ∷ []

abbrev first_sent : List Sent → ℕ × Frame → ℕ × Frame
first_sent [] d = d
first_sent (t ∷ ts) d = (t.moment, t.reply)

-- a comment that tells what is owed
same_owed : (row : SessionRow) (last session moment : ℕ) (reply : Reply) (owed : Option Reply) → comment_of session moment reply ≡ owed_in row last owed → (owed ≡ Some reply) × (session ≡ row.id) × (moment ≡ last)
same_owed row last session moment reply None e = absurd (cc)
same_owed row last session moment reply (Some r) e =
    let both : (moment, frame_of session reply) ≡ (last, frame_of row.id r) = ap (λ ts. first_sent ts (0, frame_of session reply)) e in
    let same = same_reply session row.id reply r (ap (λ (x : ℕ × Frame). x.1) both) in
    (ap Some (sym same.1), same.0, ap (λ (x : ℕ × Frame). x.0) both)

module _ (a : Audit) (r : Record) (was : Audits a r) where
  pub note_untold : is_some a.owed ≡ true → AreTold r [] → ⊥
  note_untold e told = untold r.row r.opening r.looks r.comments a.life a.owed e was.life told

  pub told_none : a.owed ≡ None → AreTold r []
  told_none e = (subst (λ (w : Option Reply). LivesIn a.life w r.row r.opening r.looks r.comments) e was.life).replies

  pub low_untold : (session moment : ℕ) (reply : Reply) → (a.owed ≡ Some reply → session ≡ a.life.row.id → moment ≡ a.life.last → ⊥) → AreTold r (comment_of session moment reply) → ⊥
  low_untold session moment reply other told =
      let e = owed_is r.row r.opening r.looks r.comments a.life a.owed (comment_of session moment reply) was.life told in
      let same = same_owed r.row a.life.last session moment reply a.owed e in
      other same.0 (same.1 ∙ ap (λ (w : SessionRow). w.id) (sym was.life.own_row)) same.2

  pub low_told : (session moment : ℕ) (reply : Reply) → a.owed ≡ Some reply → session ≡ a.life.row.id → moment ≡ a.life.last → AreTold r (comment_of session moment reply)
  low_told session moment reply owed s m =
      let life = subst (λ (w : Option Reply). LivesIn a.life w r.row r.opening r.looks r.comments) owed was.life in
      let own : session ≡ r.row.id = s ∙ ap (λ (w : SessionRow). w.id) was.life.own_row in
      let same : comment_of a.life.last r.row.id reply ≡ comment_of a.life.last r.row.id reply = refl in
      subst (LowReplies r.row (history_in r.opening r.looks))
      (ap (λ (x : ℕ × ℕ). r.comments ++ comment_of x.0 x.1 reply) (λ i. (sym own i, sym m i))) life.replies

  pub low_lives : (session moment : ℕ) (reply : Reply) → AreTold r (comment_of session moment reply) → LivesIn a.life None r.row r.opening r.looks (r.comments ++ comment_of session moment reply)
  low_lives session moment reply told = record {
    own_row = was.life.own_row;
    stands = was.life.stands;
    lost = was.life.lost;
    replies = subst (LowReplies r.row (history_in r.opening r.looks)) (sym (append-nil (r.comments ++ comment_of session moment reply))) told;
  }

  pub low_acks : (session moment : ℕ) (reply : Reply) (b : Bool) (n : ℕ) → b ≡ is_ack (frame_of session reply).kind → n ≡ a.acks + (if b then 1 else 0) → n ≡ acknowledgements (r.comments ++ comment_of session moment reply)
  low_acks session moment reply b n e is =
      let all = sum_by-append (λ (s : Sent). if is_ack s.reply.kind then 1 else 0) r.comments (comment_of session moment reply) in
      let one : 0 + (if b then 1 else 0) ≡ (if b then 1 else 0) = omega arith in
      let mine : b ≡ is_ack (frame_of session reply).kind = e in
      is ∙ ap (λ k. k + (if b then 1 else 0)) was.counts.acks ∙ ap (λ k. acknowledgements r.comments + k) (sym one)
      ∙ ap (λ t. acknowledgements r.comments + (0 + (if t then 1 else 0))) mine ∙ sym all

  pub low_held : takes_looks a.place ≡ true → Held a.claims a.window places.Looks r.row r.claims r.times
  low_held place = record {
    keeps = was.held.keeps;
    fell = was.held.fell;
    holds = was.held.holds;
    averaging = was.held.averaging;
    meets = looks_meet a.place r.row r.times a.claims.pairs.items a.claims.met place (subst (λ (p : RecordPlace). MeetsAt p r.row r.times a.claims.pairs.items a.claims.met) (sym was.counts.place) was.held.meets);
  }

  -- ---- times ----

  new_meets : (times : List ℕ) (pairs : List Claim) (met : ℕ) → met ≡ 0 → times ≡ [] → Meets (averaging_of r.row) times (length times) pairs met
  new_meets times pairs met none empty = subst (λ (x : ℕ × List ℕ). Meets (averaging_of r.row) x.1 (length x.1) pairs x.0) (λ i. (sym none i, sym empty i)) (record {
    few = omega arith;
    rises = tt;
    are_met = All-nil (IsMet (averaging_of r.row) []);
    waits = first pairs;
  })
    where
      first : (pairs : List Claim) → Waits (averaging_of r.row) [] 0 [] pairs
      first [] = tt
      first (p ∷ pairs) = inl (omega arith)

  times_meet : (p : RecordPlace) (pairs : List Claim) (met : ℕ) → takes_times p ≡ true → MeetsAt p r.row r.times pairs met → Meets (averaging_of r.row) r.times (length r.times) pairs met
  times_meet places.Opening pairs met e h = new_meets r.times pairs met h.0 h.1
  times_meet places.Looks pairs met e h = new_meets r.times pairs met h.0 h.1
  times_meet places.Times pairs met e h = h
  times_meet places.Taken pairs met e h = absurd (cc)
  times_meet places.End pairs met e h = absurd (cc)

  -- the claims of this count were met
  pub met_now : (count average : ℕ) (b : Claims) → takes_times a.place ≡ true
      → ((times : List ℕ) → HoldsTimes a.window times → count ≡ length times) → ((times : List ℕ) → HoldsTimes a.window times → average ≡ average_of (averaging_in a.window) times)
      → ((v : Averaging) (times : List ℕ) → count ≡ length times → average ≡ average_of v times → Meets v times count a.claims.pairs.items a.claims.met → Meets v times (count + 1) b.pairs.items b.met)
      → Meets (averaging_of r.row) r.times (length r.times + 1) b.pairs.items b.met
  met_now count average b place counted averaged meets =
      let n = counted r.times was.held.holds in
      let v : average ≡ average_of (averaging_of r.row) r.times = averaged r.times was.held.holds ∙ ap (λ w. average_of w r.times) was.held.averaging in
      let now = times_meet a.place a.claims.pairs.items a.claims.met place (subst (λ (p : RecordPlace). MeetsAt p r.row r.times a.claims.pairs.items a.claims.met) (sym was.counts.place) was.held.meets) in
      subst (λ (k : ℕ). Meets (averaging_of r.row) r.times (k + 1) b.pairs.items b.met) n
      (meets (averaging_of r.row) r.times n v (subst (λ (k : ℕ). Meets (averaging_of r.row) r.times k a.claims.pairs.items a.claims.met) (sym n) now))

  pub taken_held : (b : Claims) → Meets (averaging_of r.row) r.times (length r.times + 1) b.pairs.items b.met → b.pairs ≡ a.claims.pairs → b.greatest ≡ a.claims.greatest → b.fall ≡ a.claims.fall
      → Held b a.window places.Taken r.row r.claims r.times
  taken_held b meets pairs greatest fall = record {
    keeps = rw pairs was.held.keeps;
    fell = rw (greatest, fall) was.held.fell;
    holds = was.held.holds;
    averaging = was.held.averaging;
    meets = meets;
  }

  pub time_held : (b : Claims) (w : Window) (micros : ℕ) → Meets (averaging_of r.row) r.times (length r.times + 1) b.pairs.items b.met → b.pairs ≡ a.claims.pairs → b.greatest ≡ a.claims.greatest → b.fall ≡ a.claims.fall
      → ((times : List ℕ) → HoldsTimes a.window times → HoldsTimes w (times ++ micros ∷ [])) → averaging_in w ≡ averaging_in a.window
      → Held b w places.Times r.row r.claims (r.times ++ micros ∷ [])
  time_held b w micros meets pairs greatest fall holds averaging =
      let n : length r.times + 1 ≡ length (r.times ++ micros ∷ []) = omega (arith, length-append r.times (micros ∷ [])) in
      record {
        keeps = rw pairs was.held.keeps;
        fell = rw (greatest, fall) was.held.fell;
        holds = holds r.times was.held.holds;
        averaging = averaging ∙ was.held.averaging;
        meets = subst (λ (k : ℕ). Meets (averaging_of r.row) (r.times ++ micros ∷ []) k b.pairs.items b.met) n (meet_push (averaging_of r.row) r.times b.pairs.items micros (length r.times + 1) b.met meets);
      }

-- the comment tells no reply
pub tells_none : (note : Note) → ((session moment : ℕ) (reply : Reply) → note ≡ notes.Low session moment reply → ⊥) → told_by_note note ≡ []
tells_none (notes.Low session moment reply) other = absurd (other session moment reply refl)
tells_none (notes.Time micros) other = refl
tells_none (notes.Took count) other = refl
tells_none (notes.End accepted removed) other = refl

-- a line that has a place behind it may stand here
pub may_stand : (f : Form) (test : Bool) (p : RecordPlace) → is_some (at_place f test p) ≡ true → test ≡ true
may_stand f true p some = refl
may_stand f false p some = absurd (cc)

-- ---- lines ----

module _ (a : Audit) (r : Record) (was : Audits a r) where
  same_form : form_of_audit a ≡ form_of r
  same_form = λ i. record { session = (was.life.own_row i).id; place = was.counts.place i }

  pub placed : (e : Entry) → is_some (behind_line (form_of_audit a) e) ≡ true → is_some (behind_line (form_of r) e) ≡ true
  placed e h = subst (λ (f : Form). is_some (behind_line f e) ≡ true) same_form h

  pub entry_look : (l : LookLine) (b : Audit) (cause : Option ℕ) → is_some (behind_line (form_of_audit a) (entries.Look l)) ≡ true → LookIs r l b cause → EntryIs r (entries.Look l) b cause
  entry_look l b None h is = (with_look r (look_of l is.0), (placed (entries.Look l) h, is.2, (is.0, is.1, refl)), is.3)
  entry_look l b (Some cause) h (inl is) = inl is
  entry_look l b (Some cause) h (inr is) = inr (is.0, (λ broken. broken is.1 is.2), is.3)

  pub entry_note : (note : Note) (b : Audit) (cause : Option ℕ) → is_some (behind_line (form_of_audit a) (entries.Comment note)) ≡ true → NoteIs r note b cause → EntryIs r (entries.Comment note) b cause
  entry_note note b None h is = (with_note r note, (placed (entries.Comment note) h, is.0, refl), is.1)
  entry_note note b (Some cause) h is = inr (is.0, (λ broken. broken), is.1)

  pub text_is : (e : Entry) (text : List ℕ) (b : Audit) (cause : Option ℕ) → IsEntry e text → is_some (behind_line (form_of_audit a) e) ≡ true → EntryIs r e b cause → TextIs r text b cause
  text_is e text b None is h k = (e, is, k.0, k.1, k.2)
  text_is e text b (Some cause) is h (inl k) = inr (inl (k.0, e, record { is_entry = is; place = placed e h }, k.1))
  text_is e text b (Some cause) is h (inr k) = inr (inr (k.0, e, record { is_entry = is; place = placed e h }, k.1, k.2))

  -- ---- the end ----

  own_end : has_end r ≡ has_end_at a.place
  own_end = ap has_end_at (sym was.counts.place)

  met_at_end : (p : RecordPlace) (pairs : List Claim) (met : ℕ) → has_end_at p ≡ true → MeetsAt p r.row r.times pairs met → Meets (averaging_of r.row) r.times (length r.times + 1) pairs met
  met_at_end places.End pairs met e h = h
  met_at_end places.Opening pairs met e h = absurd (cc)
  met_at_end places.Looks pairs met e h = absurd (cc)
  met_at_end places.Times pairs met e h = absurd (cc)
  met_at_end places.Taken pairs met e h = absurd (cc)

  unmet_is : (found : Option Claim) → slice_get a.claims.pairs.items a.claims.met ≡ found → has_end r ≡ true → MatchOption (option_map (λ (c : Claim). c.line) found) (AreRight r r.claims) (λ line. IsFirstWrong r r.claims line)
  unmet_is None e ends = met_right r r.claims a.claims.pairs.items (length r.times + 1) a.claims.met was.held.keeps (met_at_end r.place a.claims.pairs.items a.claims.met ends was.held.meets) e
  unmet_is (Some c) e ends = unmet_wrong r r.claims a.claims.pairs.items a.claims.met c ends was.held.keeps (met_at_end r.place a.claims.pairs.items a.claims.met ends was.held.meets) e

  pub claims_at_end : (o : Option ℕ) → o ≡ option_map (λ (c : Claim). c.line) (slice_get a.claims.pairs.items a.claims.met) → has_end_at a.place ≡ true → MatchOption o (AreRight r r.claims) (λ line. IsFirstWrong r r.claims line)
  claims_at_end o e ends =
      subst (λ (x : Option ℕ). MatchOption x (AreRight r r.claims) (λ line. IsFirstWrong r r.claims line)) (sym e)
      (unmet_is (slice_get a.claims.pairs.items a.claims.met) refl (own_end ∙ ends))

  fall_is : (o : Option ℕ) (greatest : ℕ) → has_end r ≡ false → Fell r.claims greatest o → MatchOption o (AreRight r r.claims) (λ line. IsFirstWrong r r.claims line)
  fall_is None greatest e f = risen_right r e r.claims f.0
  fall_is (Some line) greatest e f = fall_wrong r e r.claims line f

  pub claims_open : has_end_at a.place ≡ false → MatchOption a.claims.fall (AreRight r r.claims) (λ line. IsFirstWrong r r.claims line)
  claims_open e = fall_is a.claims.fall a.claims.greatest (own_end ∙ e) was.held.fell

  -- as many were accepted as the life stored
  next_is : (parts : List Part) → IsCut r.row (history_in r.opening r.looks).life parts → a.life.next ≡ count_after r.opening parts
  next_is parts cut =
      ap (λ (t : State). t.next) was.life.stands.state
      ∙ ap (count_after r.opening) (one_cut r.row (history_in r.opening r.looks).life was.life.stands.parts parts was.life.stands.cut cut)

  pub right_end : (a.removed ≤ a.taken) × (a.taken ≤ a.accepted) × (a.accepted ≤ a.removed + a.life.row.capacity) × (a.accepted ≡ a.life.next) → IsRightEnd r
  right_end h =
      let capacity : a.life.row.capacity ≡ r.row.capacity = ap (λ (w : SessionRow). w.capacity) was.life.own_row in
      record {
        removed = omega (arith, h.0, was.counts.removed, was.counts.taken);
        taken = omega (arith, h.1, was.counts.taken, was.counts.accepted);
        room = omega (arith, h.2, was.counts.removed, was.counts.accepted, capacity);
        parts = was.life.stands.parts;
        cut = was.life.stands.cut;
        stored = sym was.counts.accepted ∙ h.3 ∙ next_is was.life.stands.parts was.life.stands.cut;
      }

  pub wrong_end : (a.removed ≤ a.taken → a.taken ≤ a.accepted → a.accepted ≤ a.removed + a.life.row.capacity → a.accepted ≡ a.life.next → ⊥) → IsRightEnd r → ⊥
  wrong_end other right =
      let capacity : a.life.row.capacity ≡ r.row.capacity = ap (λ (w : SessionRow). w.capacity) was.life.own_row in
      other (omega (arith, right.removed, was.counts.removed, was.counts.taken)) (omega (arith, right.taken, was.counts.taken, was.counts.accepted))
      (omega (arith, right.room, was.counts.removed, was.counts.accepted, capacity)) (was.counts.accepted ∙ right.stored ∙ sym (next_is right.parts right.cut))

  pub ends_if : (b : Bool) → (b ≡ true → (a.removed ≤ a.taken) × (a.taken ≤ a.accepted) × (a.accepted ≤ a.removed + a.life.row.capacity) × (a.accepted ≡ a.life.next))
      → (b ≡ false → a.removed ≤ a.taken → a.taken ≤ a.accepted → a.accepted ≤ a.removed + a.life.row.capacity → a.accepted ≡ a.life.next → ⊥)
      → has_end_at a.place ≡ true → MatchBool (not b) ((has_end r ≡ true) × (IsRightEnd r → ⊥)) (has_end r ≡ true → IsRightEnd r)
  ends_if true right other e = λ t. right_end (right refl)
  ends_if false right other e = (own_end ∙ e, wrong_end (other refl))

  pub no_end : has_end_at a.place ≡ false → has_end r ≡ true → IsRightEnd r
  no_end e h = absurd (let same = sym (own_end ∙ e) ∙ h in cc)

  pub is_ended : ends_at a.place ≡ true → is_some a.owed ≡ false → IsEnded r
  is_ended e none = record { ends = ap ends_at (sym was.counts.place) ∙ e; told = told_none a r was (none_owed a.owed none) }

  pub uncommented : (line : ℕ) → line ≡ a.lines → ends_at a.place ≡ true → is_some a.owed ≡ true → EndIs r (No (line + 1) 3)
  uncommented line is e some = inl (inr (refl, ap ends_at (sym was.counts.place) ∙ e, note_untold a r was some), ap (λ n. n + 1) (is ∙ was.counts.lines))

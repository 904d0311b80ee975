-- A look goes on with a life just where the machine that stands for the life lets it.
use Rattle.std.proofs.Common.{◌≡◌, ℕ, ◌≤◌, Bool, true, false, List, [], ◌∷◌, Option, Some, None, refl, sym, ap, ◌∙◌, subst}
use Rattle.std.specs.Prelude.{if◌then◌else◌, ◌&&◌, ◌||◌, not, ◌==◌, nat_le, nat_lt, length, option_map}
use Rattle.std.proofs.lemmas.Bool.{and_parts, eqb-true, eq-eqb}
use Rattle.std.proofs.lemmas.List.{append_cancel_left}
use Rattle.std.proofs.lemmas.Option.{cond_some, same_Some}
use Rattle.pump_frame.specs.Averages.{averaging_of, average_of}
use Rattle.pump_frame.specs.declared.frame.Frame.{Frame}
use Rattle.pump_frame.specs.declared.row.SessionRow.{SessionRow}
use Rattle.pump_core.specs.declared.feedback.Seen.{Seen}
use Rattle.pump_core.specs.declared.feedback.Feedback.{Feedback}
use Rattle.pump_core.specs.declared.feedback.Feedback.TheVariants as feedbacks
use Rattle.pump_core.specs.History.{Arrival, Look, History, looked}
use Rattle.pump_core.specs.History.{Nothing, Came, Bad, Gone}
use Rattle.pump_core.specs.Exchanges.{is_gone, is_hello, is_data, is_repeat, is_next, has_average, permits_frame, looks_of}
use Rattle.pump_core.specs.Comings.{is_nothing}
use Rattle.pump_core.specs.Phases.{Phase}
use Rattle.pump_core.specs.Phases.{Idle, Passing, Waiting, Down}
use Rattle.pump_core.specs.Replies.{Sent, sent, LowReplies, welcome, refusal, answer_to}
use Rattle.pump_core.specs.Standing.{State, StandsAt}
use Rattle.pump_core.specs.Step.{reply_at, reply_in, reply_idle, takes_in, FeedbackFits, fits_in, fits_passing, fits_idle, is_quiet}
use Rattle.pump_core.proofs.Runs.{one_list_of_lives}
use Rattle.pump_core.proofs.CutsFit.{cuts_fit}
use Rattle.pump_core.proofs.Standings.{stands_after, replies_after, newest_after}
use Rattle.script_reader.specs.declared.line.ToldFeedback.{ToldFeedback}
use Rattle.script_reader.specs.declared.line.ToldFeedback.TheVariants.{Quiet, Full, Pair}
use Rattle.script_reader.specs.Alone.{tells_level}
use Rattle.pump_audit.specs.declared.entry.LookLine.{LookLine}
use Rattle.pump_audit.specs.Entries.{arrival_of}
use Rattle.pump_audit.specs.Machine.{Lets, is_down, pair_in, of_nothing, of_offer, of_arrival, of_look, takes_all, stores_of, begins_store}
use Rattle.pump_audit.specs.Records.{Means, look_of, is_lost, tells_fault, IsNextLook}

mapped : {A B : Type 0} (g : A → B) (o : Option A) (y : B) → option_map g o ≡ Some y → (x : A) × (o ≡ Some x) × (g x ≡ y)
mapped g None y e = absurd (cc)
mapped g (Some x) y e = (x, refl, same_Some _ y e)

abbrev pair_parts : ToldFeedback → ℕ × ℕ
pair_parts (Pair c a) = (c, a)
pair_parts Quiet = (0, 0)
pair_parts Full = (0, 0)

module _ (row : SessionRow) where
  -- ---- a line's feedback is one of the phase ----

  nothing_told : (t : ToldFeedback) (f : Feedback) → of_nothing t ≡ Some f → Means row t f × (is_quiet f ≡ true)
  nothing_told Quiet f e = subst (λ g. Means row Quiet g × (is_quiet g ≡ true)) (same_Some _ f e) (refl, refl)
  nothing_told Full f e = absurd (cc)
  nothing_told (Pair c a) f e = absurd (cc)

  pair_told : (t : ToldFeedback) (seen : Seen) → pair_in row t ≡ Some seen → (t ≡ Pair seen.count seen.average) × (tells_level row t ≡ true)
  pair_told Quiet seen e = absurd (cc)
  pair_told Full seen e = absurd (cc)
  pair_told (Pair c a) seen e =
      let p = cond_some (tells_level row (Pair c a)) _ seen e in
      (subst (λ (s : Seen). Pair c a ≡ Pair s.count s.average) p.1 refl, p.0)

  offer_told : (owed : Option ℕ) (t : ToldFeedback) (f : Feedback) → of_offer row owed t ≡ Some f → Means row t f × (fits_passing owed f ≡ true)
  offer_told (Some n) Full f e = subst (λ g. Means row Full g × (fits_passing (Some n) g ≡ true)) (same_Some _ f e) (refl, refl)
  offer_told None Full f e = subst (λ g. Means row Full g × (fits_passing None g ≡ true)) (same_Some _ f e) (refl, refl)
  offer_told (Some n) Quiet f e = absurd (cc)
  offer_told None Quiet f e = absurd (cc)
  offer_told (Some n) (Pair c a) f e =
      let p = mapped feedbacks.Passed (pair_in row (Pair c a)) f e in
      subst (λ g. Means row (Pair c a) g × (fits_passing (Some n) g ≡ true)) p.2 (pair_told (Pair c a) p.0 p.1, refl)
  offer_told None (Pair c a) f e =
      let p = cond_some (c == 0 && a == average_of (averaging_of row) []) _ f e in
      let q = and_parts (c == 0) (a == average_of (averaging_of row) []) p.0 in
      let same : Pair c a ≡ Pair 0 (average_of (averaging_of row) []) = ap (λ (x : ℕ × ℕ). Pair x.0 x.1) (λ i. (eqb-true c 0 q.0 i, eqb-true a _ q.1 i)) in
      subst (λ g. Means row (Pair c a) g × (fits_passing None g ≡ true)) p.1 (same, refl)

  repeat_told : (b : Bool) (t : ToldFeedback) (f : Feedback) → (if b then option_map feedbacks.Repeat (pair_in row t) else of_nothing t) ≡ Some f → Means row t f × ((if b then has_average f else is_quiet f) ≡ true)
  repeat_told true t f e =
      let p = mapped feedbacks.Repeat (pair_in row t) f e in
      subst (λ g. Means row t g × (has_average g ≡ true)) p.2 (pair_told t p.0 p.1, refl)
  repeat_told false t f e = nothing_told t f e

  arrival_told : (s : State) (a : Arrival) (t : ToldFeedback) (f : Feedback) → of_arrival row s a t ≡ Some f → Means row t f × (fits_idle row s a f ≡ true)
  arrival_told s (Came frame) t f e = repeat_told (is_repeat row s.next s.greeted frame) t f e
  arrival_told s Nothing t f e = nothing_told t f e
  arrival_told s Bad t f e = nothing_told t f e
  arrival_told s Gone t f e = nothing_told t f e

  gone_told : (g : Bool) (owed : Option ℕ) (t : ToldFeedback) (f : Feedback) → (if g then of_nothing t else of_offer row owed t) ≡ Some f → Means row t f × ((if g then is_quiet f else fits_passing owed f) ≡ true)
  gone_told true owed t f e = nothing_told t f e
  gone_told false owed t f e = offer_told owed t f e

  look_told : (s : State) (l : LookLine) (ph : Phase) (f : Feedback) → of_look row s (arrival_of l.coming) l.told ph ≡ Some f → Means row l.told f × (fits_in row s (look_of l f) ph ≡ true) × (is_down ph ≡ false)
  look_told s l Down f e = absurd (cc)
  look_told s l (Waiting n at) f e = let p = nothing_told l.told f e in (p.0, p.1, refl)
  look_told s l (Passing owed) f e = let p = gone_told (is_gone (arrival_of l.coming)) owed l.told f e in (p.0, p.1, refl)
  look_told s l Idle f e = let p = arrival_told s (arrival_of l.coming) l.told f e in (p.0, p.1, refl)

  -- ---- and a feedback of the phase that a line means is the line's ----

  means_nothing : (t : ToldFeedback) (f : Feedback) → Means row t f → is_quiet f ≡ true → of_nothing t ≡ Some f
  means_nothing t feedbacks.Quiet m q = ap of_nothing m
  means_nothing t feedbacks.Full m q = absurd (cc)
  means_nothing t (feedbacks.Passed seen) m q = absurd (cc)
  means_nothing t feedbacks.Released m q = absurd (cc)
  means_nothing t (feedbacks.Repeat seen) m q = absurd (cc)

  means_pair : (t : ToldFeedback) (seen : Seen) → t ≡ Pair seen.count seen.average → tells_level row t ≡ true → pair_in row t ≡ Some seen
  means_pair Quiet seen e l = absurd (cc)
  means_pair Full seen e l = absurd (cc)
  means_pair (Pair c a) seen e l =
      let parts : (c, a) ≡ (seen.count, seen.average) = ap pair_parts e in
      rw l (ap (λ (x : ℕ × ℕ). Some (record { count = x.0; average = x.1 })) parts)

  means_release : (t : ToldFeedback) → t ≡ Pair 0 (average_of (averaging_of row) []) → of_offer row None t ≡ Some feedbacks.Released
  means_release t e = rw (e, eq-eqb (average_of (averaging_of row) []) (average_of (averaging_of row) []) refl) refl

  means_passed : (n : ℕ) (t : ToldFeedback) (seen : Seen) → t ≡ Pair seen.count seen.average → tells_level row t ≡ true → of_offer row (Some n) t ≡ Some (feedbacks.Passed seen)
  means_passed n Quiet seen e l = absurd (cc)
  means_passed n Full seen e l = absurd (cc)
  means_passed n (Pair c a) seen e l = ap (option_map feedbacks.Passed) (means_pair (Pair c a) seen e l)

  means_full : (owed : Option ℕ) (t : ToldFeedback) → t ≡ Full → of_offer row owed t ≡ Some feedbacks.Full
  means_full None t e = rw e refl
  means_full (Some n) t e = rw e refl

  means_offer : (owed : Option ℕ) (t : ToldFeedback) (f : Feedback) → Means row t f → fits_passing owed f ≡ true → of_offer row owed t ≡ Some f
  means_offer owed t feedbacks.Full m q = means_full owed t m
  means_offer (Some n) t (feedbacks.Passed seen) m q = means_passed n t seen m.0 m.1
  means_offer None t (feedbacks.Passed seen) m q = absurd (cc)
  means_offer None t feedbacks.Released m q = means_release t m
  means_offer (Some n) t feedbacks.Released m q = absurd (cc)
  means_offer None t feedbacks.Quiet m q = absurd (cc)
  means_offer (Some n) t feedbacks.Quiet m q = absurd (cc)
  means_offer None t (feedbacks.Repeat seen) m q = absurd (cc)
  means_offer (Some n) t (feedbacks.Repeat seen) m q = absurd (cc)

  means_average : (t : ToldFeedback) (f : Feedback) → Means row t f → has_average f ≡ true → option_map feedbacks.Repeat (pair_in row t) ≡ Some f
  means_average t (feedbacks.Repeat seen) m q = ap (option_map feedbacks.Repeat) (means_pair t seen m.0 m.1)
  means_average t feedbacks.Quiet m q = absurd (cc)
  means_average t feedbacks.Full m q = absurd (cc)
  means_average t (feedbacks.Passed seen) m q = absurd (cc)
  means_average t feedbacks.Released m q = absurd (cc)

  means_repeat : (b : Bool) (t : ToldFeedback) (f : Feedback) → Means row t f → (if b then has_average f else is_quiet f) ≡ true → (if b then option_map feedbacks.Repeat (pair_in row t) else of_nothing t) ≡ Some f
  means_repeat true t f m q = means_average t f m q
  means_repeat false t f m q = means_nothing t f m q

  means_arrival : (s : State) (a : Arrival) (t : ToldFeedback) (f : Feedback) → Means row t f → fits_idle row s a f ≡ true → of_arrival row s a t ≡ Some f
  means_arrival s (Came frame) t f m q = means_repeat (is_repeat row s.next s.greeted frame) t f m q
  means_arrival s Nothing t f m q = means_nothing t f m q
  means_arrival s Bad t f m q = means_nothing t f m q
  means_arrival s Gone t f m q = means_nothing t f m q

  means_gone : (g : Bool) (owed : Option ℕ) (t : ToldFeedback) (f : Feedback) → Means row t f → (if g then is_quiet f else fits_passing owed f) ≡ true → (if g then of_nothing t else of_offer row owed t) ≡ Some f
  means_gone true owed t f m q = means_nothing t f m q
  means_gone false owed t f m q = means_offer owed t f m q

  pub means_look : (s : State) (l : LookLine) (ph : Phase) (f : Feedback) → is_down ph ≡ false → Means row l.told f → fits_in row s (look_of l f) ph ≡ true → of_look row s (arrival_of l.coming) l.told ph ≡ Some f
  means_look s l Down f up m q = absurd (cc)
  means_look s l (Waiting n at) f up m q = means_nothing l.told f m q
  means_look s l (Passing owed) f up m q = means_gone (is_gone (arrival_of l.coming)) owed l.told f m q
  means_look s l Idle f up m q = means_arrival s (arrival_of l.coming) l.told f m q

  -- ---- what is offered is taken ----

  took : (x : Look) (a : Arrival) → x.arrival ≡ a → (ph : Phase) → is_down ph ≡ false → takes_all a ph ≡ true → is_nothing a ≡ false → takes_in x ph ≡ true
  took x Nothing e ph up t n = absurd (cc)
  took x a e Down up t n = absurd (cc)
  took x (Came f) e Idle up t n = rw e refl
  took x Bad e Idle up t n = rw e refl
  took x Gone e Idle up t n = rw e refl
  took x (Came f) e (Passing owed) up t n = absurd (cc)
  took x Bad e (Passing owed) up t n = absurd (cc)
  took x Gone e (Passing owed) up t n = rw e refl
  took x (Came f) e (Waiting k at) up t n = absurd (cc)
  took x Bad e (Waiting k at) up t n = absurd (cc)
  took x Gone e (Waiting k at) up t n = rw e refl

  taken_all : (x : Look) (a : Arrival) → x.arrival ≡ a → (ph : Phase) → is_down ph ≡ false → (is_nothing a ≡ false → takes_in x ph ≡ true) → takes_all a ph ≡ true
  taken_all x a e Idle up t = refl
  taken_all x a e Down up t = absurd (cc)
  taken_all x Nothing e (Passing owed) up t = refl
  taken_all x (Came f) e (Passing owed) up t = ap is_gone (sym e) ∙ t refl
  taken_all x Bad e (Passing owed) up t = ap is_gone (sym e) ∙ t refl
  taken_all x Gone e (Passing owed) up t = refl
  taken_all x Nothing e (Waiting n at) up t = refl
  taken_all x (Came f) e (Waiting n at) up t = ap is_gone (sym e) ∙ t refl
  taken_all x Bad e (Waiting n at) up t = ap is_gone (sym e) ∙ t refl
  taken_all x Gone e (Waiting n at) up t = refl

  -- ---- a fault is told where a store fails ----

  either : (b : Bool) (x y : Option Frame) → tells_fault x ≡ false → tells_fault y ≡ false → tells_fault (if b then x else y) ≡ false
  either true x y p q = p
  either false x y p q = q

  answers : (h p q m o : Bool) (n : ℕ) → tells_fault (
      if h then (if p then Some (welcome row n) else Some (refusal row 1 0))
      else if q then Some (refusal row 2 0)
      else if m then Some (refusal row 3 0)
      else if o then Some (refusal row 4 n)
      else None) ≡ false
  answers true true q m o n = refl
  answers true false q m o n = refl
  answers false p true m o n = refl
  answers false p false true o n = refl
  answers false p false false true n = refl
  answers false p false false false n = refl

  answer_fault : (n : ℕ) (g : Bool) (f : Frame) → tells_fault (answer_to row n g f) ≡ false
  answer_fault n g f = answers (is_hello f.kind) (permits_frame row f) (not (is_data f.kind) || not g || not (f.session == row.id)) (nat_lt row.message (length f.payload)) (nat_lt n f.number) n

  taken_fault : (r n d : Bool) (y : Option Frame) → tells_fault y ≡ false → tells_fault (if r then None else if n then (if d then Some (refusal row 5 0) else None) else y) ≡ ((not r && n) && d)
  taken_fault true n d y e = refl
  taken_fault false true true y e = refl
  taken_fault false true false y e = refl
  taken_fault false false d y e = e

  idle_fault : (s : State) (x : Look) (a : Arrival) → tells_fault (reply_idle row s x a) ≡ (stores_of row s a && x.is_fault)
  idle_fault s x Nothing = refl
  idle_fault s x Bad = refl
  idle_fault s x Gone = refl
  idle_fault s x (Came f) = taken_fault (is_repeat row s.next s.greeted f) (is_next row s.next s.greeted f) x.is_fault _ (answer_fault s.next s.greeted f)

  fault_in : (s : State) (x : Look) (ph : Phase) → tells_fault (reply_in row s x ph) ≡ (begins_store row s x.arrival ph && x.is_fault)
  fault_in s x Down = refl
  fault_in s x (Passing owed) = refl
  fault_in s x (Waiting n at) = either (is_gone x.arrival) _ _ refl (either (nat_le at x.moment) _ _ refl refl)
  fault_in s x Idle = idle_fault s x x.arrival

  outcome_is : (b d : Bool) → (d ≡ true → b ≡ true) → d ≡ (b && d)
  outcome_is true d h = refl
  outcome_is false true h = absurd (let e = h refl in cc)
  outcome_is false false h = refl

  outcome_was : (b d : Bool) → d ≡ (b && d) → d ≡ true → b ≡ true
  outcome_was true d e h = refl
  outcome_was false d e h = absurd (cc)

-- ---- a look that goes on ----

first_reply : List Sent → Option Frame
first_reply [] = None
first_reply (t ∷ ts) = Some t.reply

replies_first : (x : Look) (a : Option Frame) → first_reply (sent x a) ≡ a
unfolding first_reply
replies_first x None = refl
replies_first x (Some f) = refl

pub same_sent : (x : Look) (a b : Option Frame) → sent x a ≡ sent x b → a ≡ b
same_sent x a b e = sym (replies_first x a) ∙ ap first_reply e ∙ replies_first x b

module _ (row : SessionRow) (s : State) (last : ℕ) (h : History) (stands : StandsAt row s last h) (lost : is_down s.phase ≡ is_lost h.life.looks) (l : LookLine) (f : Feedback) where
  abbrev x : Look
  x = look_of l f

  pub goes : Lets row s last l f → Means row l.told f × IsNextLook row h x
  goes lets =
      let told = look_told row s l s.phase f lets.feedback in
      let fits : FeedbackFits row s x = told.1 in
      let after = stands_after row s last h x fits stands lets.order in
      let newest = newest_after row s last h x fits stands after.parts after.cut in (
        told.0,
        record {
          order = subst (λ (n : ℕ). n ≤ l.moment) stands.newest lets.order;
          goes_on = sym lost ∙ told.2;
          parts = after.parts;
          cut = after.cut;
          taken = λ n. newest.taken ∙ took row x (arrival_of l.coming) refl s.phase told.2 lets.takes n;
          reply = reply_at row s x;
          replies = replies_after row s last h x fits stands;
          outcome = outcome_is row (begins_store row s x.arrival s.phase) l.is_fault lets.outcome ∙ sym (fault_in row s x s.phase);
        },
      )

  pub lets_on : (rs : List Sent) → LowReplies row h rs → Means row l.told f → IsNextLook row h x → Lets row s last l f
  lets_on rs replies means next =
      let up : is_down s.phase ≡ false = lost ∙ next.goes_on in
      let e : looks_of next.parts ≡ x ∷ looks_of stands.parts = sym next.cut.looks ∙ ap (λ r. x ∷ r) stands.cut.looks in
      let fits_end = cuts_fit row h.life.opening x stands.parts next.parts stands.cut.are_parts next.cut.are_parts e in
      let fits : FeedbackFits row s x = subst (λ (t : State). FeedbackFits row t x) (sym stands.state) fits_end in
      let newest = newest_after row s last h x fits stands next.parts next.cut in
      let told = next.replies rs replies in
      let reply : next.reply ≡ reply_at row s x =
      same_sent x next.reply (reply_at row s x)
      (append_cancel_left rs _ _ (one_list_of_lives row ((looked h x).life ∷ (looked h x).earlier) _ _ told (replies_after row s last h x fits stands rs replies))) in
      record {
        feedback = means_look row s l s.phase f up means fits;
        order = subst (λ (n : ℕ). n ≤ l.moment) (sym stands.newest) next.order;
        takes = taken_all row x (arrival_of l.coming) refl s.phase up (λ n. sym newest.taken ∙ next.taken n);
        outcome = outcome_was row (begins_store row s x.arrival s.phase) l.is_fault (next.outcome ∙ ap tells_fault reply ∙ fault_in row s x s.phase);
      }

-- ---- what follows where the machine lets the look go on ----

module _ (row : SessionRow) (s : State) (last : ℕ) (l : LookLine) (f : Feedback) (lets : Lets row s last l f) where
  pub fits_of : FeedbackFits row s (look_of l f)
  fits_of = (look_told row s l s.phase f lets.feedback).1

  pub up_of : is_down s.phase ≡ false
  up_of = (look_told row s l s.phase f lets.feedback).2

  pub outcome_of : l.is_fault ≡ (begins_store row s (arrival_of l.coming) s.phase && l.is_fault)
  outcome_of = outcome_is row (begins_store row s (arrival_of l.coming) s.phase) l.is_fault lets.outcome

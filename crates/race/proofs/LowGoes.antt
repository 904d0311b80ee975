-- A look carries the low racer on.
use Rattle.std.proofs.Common.{◌≡◌, inl, inr, ℕ, ◌+◌, ◌^◌, ◌<◌, ◌≤◌, suc, Bool, true, false, List, [], ◌∷◌, ◌++◌, length, Option, Some, None, refl, sym, ap, ◌∙◌, subst, arith, append-nil, append_assoc}
use Rattle.std.specs.Prelude.{◌||◌, is_some, IfSome}
use Rattle.std.proofs.lemmas.List.{length-append, map-append}
use Rattle.pump_frame.specs.Frames.{IsLawful}
use Rattle.pump_frame.specs.declared.frame.Frame.{Frame}
use Rattle.pump_frame.specs.declared.frame.Item.{Item}
use Rattle.pump_frame.specs.declared.row.SessionRow.{SessionRow}
use Rattle.disk_model.specs.Plain.{plain_meaning}
use Rattle.stable_buffer.specs.Stands.{low_size}
use Rattle.stable_buffer.specs.Low.{low_disk}
use Rattle.pump_core.specs.declared.feedback.Feedback.{Feedback}
use Rattle.pump_core.specs.declared.feedback.Feedback.TheVariants.{Quiet, Full, Passed, Released, Repeat}
use Rattle.pump_core.specs.Phases as phases
use Rattle.pump_core.specs.History.{Arrival, Look, History}
use Rattle.pump_core.specs.History.{Nothing, Came}
use Rattle.pump_core.specs.Exchanges.{Part, count_after}
use Rattle.pump_core.specs.Replies.{LowReplies}
use Rattle.pump_core.specs.Standing.{State, StandsAt, end_of, phase_after}
use Rattle.pump_core.specs.Step.{reply_at, takes_at, stores_at, FeedbackFits, is_full}
use Rattle.pump_core.specs.Passage.{Low, High, Shape, shape_of_row, new_high, forwards, tried, read_pair}
use Rattle.pump_core.proofs.Cuts.{one_cut}
use Rattle.low_process.specs.declared.values.Phase.{Phase}
use Rattle.low_process.specs.declared.values.Phase.TheVariants.{Idle, Passing, Waiting as Waits, Down}
use Rattle.low_process.specs.declared.values.LowLook.{LowLook}
use Rattle.low_process.specs.Looks.{StandsFor, Looks, IsInBounds, row_of, next_of, last_of, is_down_in, is_idle_in, hand_of, hand_in, hand_after, hand_stored, hand_passed, look_of, phase_of, state_of}
use Rattle.low_process.specs.Ends.{StandsFitting, EndStep}
use Rattle.low_process.specs.Whole.{LookStep, HasStore}
use Rattle.relay_threads.specs.PairsRead.{pair_in}
use Rattle.relay_threads.specs.Records.{Made, looks_made, life_made, history_made, replies_made, IsMade}
use Rattle.relay_threads.proofs.Machine.{Led, led, reply_led}
use Rattle.script_reader.specs.Generated.{drawn, generated_row}
use Rattle.relay_threads.specs.RecordLines.{tells_fault}
use Rattle.race.specs.LookWords.{word_after, word_of_look}
use Rattle.race.specs.LowRacers.{LowAt, LowRests, IsOffer, goes_on, owed_in, with_hand, frames_so_far, arrival_in}
use Rattle.race.specs.MadeLooks.{HaveWords, frames_of, frame_in, is_ack, acks_of}
use Rattle.race.specs.Turns.{done_in}
use Rattle.race.specs.Messages.{messages_in, race_items, race_opening, hello_frame, data_frame}
use Rattle.race.specs.declared.low.LowRacer.{LowRacer}
use Rattle.race.proofs.Frames.{is_plain}
use Rattle.race.proofs.HighAsks.{one_if, done_more}
use Rattle.race.proofs.LowLooks.{Hears, Went, IsFine, nothing_comes, hello_comes, data_comes}
use Rattle.race.proofs.LowStores.{StaysCalm, stays_calm}
use Rattle.race.proofs.RaceItems.{items_count, IsNextOf, next_of_race}

-- ---- the hand by the phase ----

idle_hand : (ph : Phase) (n : ℕ) (item : Item) → phase_of ph n ≡ phases.Idle → hand_in ph item ≡ None
idle_hand Idle n item e = refl
idle_hand (Passing is_owed) n item e = absurd (cc)
idle_hand (Waits k due) n item e = refl
idle_hand Down n item e = refl

passing_hand : (ph : Phase) (n : ℕ) (item : Item) (owed : Option ℕ) → phase_of ph n ≡ phases.Passing owed → hand_in ph item ≡ Some item
passing_hand Idle n item owed e = absurd (cc)
passing_hand (Passing is_owed) n item owed e = refl
passing_hand (Waits k due) n item owed e = absurd (cc)
passing_hand Down n item owed e = absurd (cc)

idle_phase : (ph : Phase) (n : ℕ) → is_idle_in ph ≡ true → phase_of ph n ≡ phases.Idle
idle_phase Idle n e = refl
idle_phase (Passing is_owed) n e = absurd (cc)
idle_phase (Waits k due) n e = absurd (cc)
idle_phase Down n e = absurd (cc)

up_phase : (ph : Phase) (n : ℕ) → goes_on (phase_of ph n) ≡ true → is_down_in ph ≡ false
up_phase Idle n e = refl
up_phase (Passing is_owed) n e = refl
up_phase (Waits k due) n e = refl
up_phase Down n e = absurd (cc)

empty_of : (items : List Item) → length items ≡ 0 → items ≡ []
empty_of [] e = refl
empty_of (x ∷ xs) e = absurd (omega (arith, e))

or_false : (b : Bool) → b || false ≡ b
or_false true = refl
or_false false = refl

or_true : (b : Bool) → b || true ≡ true
or_true true = refl
or_true false = refl

no_fault : (reply : Option Frame) → IsFine reply → tells_fault reply ≡ false
no_fault None fine = refl
no_fault (Some f) fine = fine

-- the acknowledgements after one look more
counts_on : (a o n b o' n' a' p p' : ℕ) → a' ≡ b + a → b + o' + n ≡ n' + o → a + o ≡ p → p ≡ n → p' ≡ n' → a' + o' ≡ p'
counts_on a o n b o' n' a' p p' more step is now next = omega (arith, more, step, is, now, next)

-- ---- the end ----

-- what the end did, with the hand
pub record Ended (after : Low → High → Type 0) (items : List Item) (hand : Option Item) (pairs : List (ℕ × ℕ)) (found_full : Bool) (next : ℕ) : Type 0 where
  pub low : Low
  pub stands : after low new_high
  pub items_are : with_hand low.forwarded hand ≡ items
  pub pairs_are : low.pairs ≡ pairs
  pub full : found_full ≡ true → 6 < next

module _ (s : Shape) (on_one_thread : Bool) (after : Low → High → Type 0) (low : Low) (items : List Item) (next : ℕ) (places : s ≡ shape_of_row generated_row) where
  -- in a look that offers no message
  quiet_end : (hand hand' : Option Item) (f : Feedback) → f ≡ Quiet → hand' ≡ hand → with_hand low.forwarded hand ≡ items → EndStep s on_one_thread after low new_high hand f
      → Ended after items hand' (low.pairs ++ pair_in f) (is_full f) next
  quiet_end hand hand' f e same is step = record {
    low = low;
    stands = subst (λ (k : Feedback). EndStep s on_one_thread after low new_high hand k) e step;
    items_are = ap (with_hand low.forwarded) same ∙ is;
    pairs_are = sym (append-nil low.pairs) ∙ ap (λ (k : Feedback). low.pairs ++ pair_in k) (sym e);
    full = λ t. (let no = sym t ∙ ap is_full e in absurd (cc));
  }

  -- in one that offers it
  passing_end : (x : Item) (hand' : Option Item) (f : Feedback) (owed : Option ℕ) → Hears (phases.Passing owed) f → hand' ≡ hand_passed (Some x) f → low.forwarded ++ x ∷ [] ≡ items
      → length items ≡ next → EndStep s on_one_thread after low new_high (Some x) f
      → Ended after items hand' (low.pairs ++ pair_in f) (is_full f) next
  passing_end x hand' Quiet owed h same is len step = absurd h
  passing_end x hand' Released owed h same is len step = absurd h
  passing_end x hand' (Repeat seen) owed h same is len step = absurd h
  passing_end x hand' Full owed h same is len step = record {
    low = tried low step.0;
    stands = step.3;
    items_are = ap (with_hand low.forwarded) same ∙ is;
    pairs_are = sym (append-nil low.pairs);
    full = λ t. omega (arith, step.1, ap (λ (z : Shape). z.places) places, ap length is, length-append low.forwarded (x ∷ []), len);
  }
  passing_end x hand' (Passed seen) owed h same is len step = record {
    low = read_pair (forwards low x) seen.count seen.average;
    stands = step.1.2;
    items_are = ap (with_hand (low.forwarded ++ x ∷ [])) same ∙ is;
    pairs_are = refl;
    full = λ t. absurd (cc);
  }

-- what a look leaves of the racer but its half and its word
pub record Leaves {L : Type 0} (w w' : LowRacer L) (word : ℕ) (frame : Option Frame) : Type 0 where
  pub row : w'.row ≡ w.row
  pub seed : w'.seed ≡ w.seed
  pub count : w'.count ≡ w.count
  pub script : w'.script ≡ w.script
  pub drawn_is : word ≡ drawn w.word
  pub word_is : w'.word ≡ word
  pub greeted : w'.is_greeted ≡ (w.is_greeted || is_some frame)

module _ {L : Type 0} (stands : L → Low → High → Type 0) (shape : L → Shape) (on_one_thread : Bool) (w w' : LowRacer L) (left : List Item) (made : List Made) (a : LowAt stands shape w left made)
    (moment word : ℕ) (frame : Option Frame) (fault : Bool) (l : LowLook)
    (step : LookStep plain_meaning w.half.process w'.half.process w.half.store w'.half.store moment word (arrival_in frame) fault l)
    (store' : HasStore plain_meaning w'.half.process w'.half.store)
    (hand' : hand_of w'.half.process ≡ hand_after (hand_of w.half.process) (arrival_in frame) l)
    (row' : row_of w'.half.process ≡ row_of w.half.process)
    (ends' : (lo : Low) (hi : High) → StandsFitting (stands w.half.ends) w.half.process lo hi → EndStep (shape w.half.ends) on_one_thread (StandsFitting (stands w'.half.ends) w'.half.process) lo hi (hand_of w.half.process) l.feedback)
    (shape' : shape w'.half.ends ≡ shape w.half.ends)
    (order : last_of w.half.process ≤ moment)
    (offer : IsOffer w frame left)
    (leaves : Leaves w w' word frame)
    (lawful : IfSome frame IsLawful)
    (bound : moment ≤ 2 ^ 62)
    (bounds : IsInBounds l.feedback)
  where
    abbrev h : History
    h = history_made race_opening made

    abbrev arrival : Arrival
    arrival = arrival_in frame

    abbrev x : Look
    x = look_of moment word arrival false l.feedback

    abbrev m : Made
    m = record { look = x; taken = l.taken; reply = l.reply }

    -- .. as it is recorded
    abbrev recorded_look : Bool → Made
    recorded_look b = record { look = look_of moment word arrival b l.feedback; taken = l.taken; reply = l.reply }

    abbrev s : State
    s = end_of generated_row race_opening a.parts

    -- what was forwarded, with the hand
    abbrev items : List Item
    items = with_hand a.low.forwarded (hand_of w.half.process)

    -- ---- the store ----

    room : low_size (row_of w.half.process) ≤ (low_disk w.half.store).room
    room = subst (λ (r : SessionRow). low_size r ≤ (low_disk w.half.store).room) (sym a.row) a.free.1

    served : StaysCalm (low_disk w.half.store) (low_disk w'.half.store) fault
    served = stays_calm w.half.process w.half.store w'.half.store fault (a.store a.up) room a.free.0 arrival step.keeps

    free' : ((low_disk w'.half.store).armed ≡ false) × (low_size generated_row ≤ (low_disk w'.half.store).room)
    free' = (served.calm, omega (arith, served.room, a.free.1))

    -- ---- the history ----

    looks : Looks (StandsFor w.half.process) w'.half.process generated_row x l
    looks = subst (λ (z : SessionRow × Bool). Looks (StandsFor w.half.process) w'.half.process z.0 (look_of moment word arrival z.1 l.feedback) l) (λ i. (a.row i, served.fine i)) step.looks

    history' : StandsFor w'.half.process (history_made race_opening (m ∷ made))
    history' = looks.history h a.history

    row_is : row_of w'.half.process ≡ generated_row
    row_is = row' ∙ a.row

    stands' : StandsAt generated_row (state_of w'.half.process) (last_of w'.half.process) (history_made race_opening (m ∷ made))
    stands' = subst (λ (r : SessionRow). StandsAt r (state_of w'.half.process) (last_of w'.half.process) (history_made race_opening (m ∷ made))) row_is history'.stands

    stood : StandsAt generated_row (state_of w.half.process) (last_of w.half.process) h
    stood = subst (λ (r : SessionRow). StandsAt r (state_of w.half.process) (last_of w.half.process) h) a.row a.history.stands

    abbrev parts' : List Part
    parts' = stands'.parts

    state_is : state_of w.half.process ≡ s
    state_is = stood.state ∙ ap (end_of generated_row race_opening) (one_cut generated_row (life_made race_opening made) stood.parts a.parts stood.cut a.cut)

    goes : Led generated_row race_opening a.parts x parts'
    goes = led generated_row race_opening (looks_made made) x a.parts parts' a.cut stands'.cut

    replies' : LowReplies generated_row (history_made race_opening (m ∷ made)) (replies_made (m ∷ made))
    replies' = looks.replies h (replies_made made) a.history a.replies

    is_made : IsMade generated_row race_opening m made
    is_made = record {
      order = subst (λ (n : ℕ). n ≤ moment) stood.newest order;
      parts = parts';
      cut = stands'.cut;
      taken = looks.taken h parts' a.history stands'.cut;
      replies = replies';
    }

    stored_is : l.stored ≡ stores_at generated_row s x
    stored_is = looks.stored h parts' a.history stands'.cut ∙ goes.newest.stored

    taken_is : l.taken ≡ takes_at s x
    taken_is = looks.taken h parts' a.history stands'.cut ∙ goes.newest.taken

    reply_is : l.reply ≡ reply_at generated_row s x
    reply_is = reply_led generated_row s (last_of w.half.process) h x l.reply (replies_made made) goes.fits (subst (λ (q : State). StandsAt generated_row q (last_of w.half.process) h) state_is stood) a.replies replies'

    next_is : next_of w.half.process ≡ s.next
    next_is = ap (λ (q : State). q.next) state_is

    phase_is : phase_of w.half.process.phase w.half.process.hand.number ≡ s.phase
    phase_is = ap (λ (q : State). q.phase) state_is

    abbrev after_end : Low → High → Type 0
    after_end = StandsFitting (stands w'.half.ends) w'.half.process

    the_step : EndStep (shape w.half.ends) on_one_thread after_end a.low new_high (hand_of w.half.process) l.feedback
    the_step = ends' a.low new_high a.fitting

    stored_count : length items ≡ s.next
    stored_count = a.stored ∙ next_is

    -- what is left where nothing was stored
    ended_by : (p : phases.Phase) → s.phase ≡ p → Hears p l.feedback → l.stored ≡ None → Ended after_end items (hand_of w'.half.process) (a.low.pairs ++ pair_in l.feedback) (is_full l.feedback) s.next
    ended_by p e hears none =
        let same : hand_of w'.half.process ≡ hand_passed (hand_of w.half.process) l.feedback = hand' ∙ ap (hand_stored (hand_passed (hand_of w.half.process) l.feedback) arrival) none in
        by_phase p e hears same
      where
        by_quiet : hand_of w'.half.process ≡ hand_passed (hand_of w.half.process) l.feedback → l.feedback ≡ Quiet → Ended after_end items (hand_of w'.half.process) (a.low.pairs ++ pair_in l.feedback) (is_full l.feedback) s.next
        by_quiet same quiet = quiet_end (shape w.half.ends) on_one_thread after_end a.low items s.next a.shape_is (hand_of w.half.process) (hand_of w'.half.process) l.feedback quiet (same ∙ ap (hand_passed (hand_of w.half.process)) quiet) refl the_step

        by_phase : (p : phases.Phase) → s.phase ≡ p → Hears p l.feedback → hand_of w'.half.process ≡ hand_passed (hand_of w.half.process) l.feedback
            → Ended after_end items (hand_of w'.half.process) (a.low.pairs ++ pair_in l.feedback) (is_full l.feedback) s.next
        by_phase phases.Idle e hears same = by_quiet same hears
        by_phase (phases.Waiting n due) e hears same = by_quiet same hears
        by_phase phases.Down e hears same = by_quiet same hears
        by_phase (phases.Passing owed) e hears same =
            let item : Item = w.half.process.hand in
            let at : hand_of w.half.process ≡ Some item = passing_hand w.half.process.phase item.number item owed (phase_is ∙ e) in
            passing_end (shape w.half.ends) on_one_thread after_end a.low items s.next a.shape_is item (hand_of w'.half.process) l.feedback owed hears (same ∙ ap (λ (o : Option Item). hand_passed o l.feedback) at)
            (sym (ap (with_hand a.low.forwarded) at)) stored_count (subst (λ (o : Option Item). EndStep (shape w.half.ends) on_one_thread after_end a.low new_high o l.feedback) at the_step)

    -- .. and where this message was
    ended_stored : (item : Item) → item.number ≡ s.next → s.phase ≡ phases.Idle → l.feedback ≡ Quiet → l.stored ≡ Some s.next → arrival ≡ Came (data_frame item)
        → Ended after_end (items ++ item ∷ []) (hand_of w'.half.process) (a.low.pairs ++ pair_in l.feedback) (is_full l.feedback) (s.next + 1)
    ended_stored item number idle quiet stored came =
        let none : hand_of w.half.process ≡ None = idle_hand w.half.process.phase w.half.process.hand.number w.half.process.hand (phase_is ∙ idle) in
        let hand_now : hand_of w'.half.process ≡ Some item =
        hand' ∙ ap (λ (z : Option Item × Feedback × Arrival × Option ℕ). hand_stored (hand_passed z.0 z.1) z.2 z.3) (λ i. (none i, quiet i, came i, stored i))
        ∙ ap (λ (n : ℕ). Some (record { number = n; payload = item.payload })) (sym number) in
        record {
          low = a.low;
          stands = subst (λ (k : Feedback). EndStep (shape w.half.ends) on_one_thread after_end a.low new_high (hand_of w.half.process) k) quiet the_step;
          items_are = ap (with_hand a.low.forwarded) hand_now ∙ ap (λ (o : Option Item). with_hand a.low.forwarded o ++ item ∷ []) (sym none);
          pairs_are = sym (append-nil a.low.pairs) ∙ ap (λ (k : Feedback). a.low.pairs ++ pair_in k) (sym quiet);
          full = λ t. (let no = sym t ∙ ap is_full quiet in absurd (cc));
        }

    -- ---- after the look ----

    abbrev Carried : Type 0
    Carried = LowRests stands shape w' (recorded_look (tells_fault l.reply) ∷ made)

    finish : (next' : ℕ) (greeted' : Bool) (stored : Option ℕ) (items' : List Item) → Went generated_row s x s.phase next' greeted' stored → w'.is_greeted ≡ greeted'
        → items' ++ messages_in w.script ≡ race_items w.seed w.count → length items' ≡ next'
        → frames_of made ++ frame_in arrival ≡ frames_so_far greeted' items'
        → Ended after_end items' (hand_of w'.half.process) (a.low.pairs ++ pair_in l.feedback) (is_full l.feedback) next' → (greeted' ≡ false → next' ≡ 0) → Carried
    finish next' greeted' stored items' went greeted messages count frames ended none_before =
        let now : next_of w'.half.process ≡ next' = ap (λ (q : State). q.next) stands'.state ∙ ap (λ (q : State). q.next) goes.state ∙ went.next_is in
        let on : goes_on (phase_after generated_row race_opening parts') ≡ true = ap (λ (q : State). goes_on q.phase) goes.state ∙ went.goes in
        let one : length made + 1 ≡ suc (length made) = omega arith in
        let acked_here : one_if (is_ack l.reply) + owed_in (phase_after generated_row race_opening parts') + s.next ≡ next' + owed_in s.phase =
        ap (λ (z : Option Frame × State). one_if (is_ack z.0) + owed_in z.1.phase + s.next) (λ i. (reply_is i, goes.state i)) ∙ went.acked in
        let word_here : word ≡ word_of_look w.seed (length made) = leaves.drawn_is ∙ ap drawn a.word ∙ ap (word_after w.seed) (sym one) in
        let fine : IsFine l.reply = subst IsFine (sym reply_is) went.fine in
        subst (λ (b : Bool). LowRests stands shape w' (recorded_look b ∷ made)) (sym (no_fault l.reply fine))
        (record {
          are_made = (is_made, a.are_made);
          history = history';
          replies = replies';
          parts = parts';
          cut = stands'.cut;
          phase = on;
          greeted = ap (λ (q : State). q.greeted) goes.state ∙ went.greeted_is ∙ sym greeted;
          row = row_is;
          row_too = leaves.row ∙ a.row_too;
          up = up_phase w'.half.process.phase w'.half.process.hand.number (ap (λ (q : State). goes_on q.phase) stands'.state ∙ on);
          store = store';
          free = free';
          some = omega (arith, a.some, leaves.count);
          few = omega (arith, a.few, leaves.count);
          word = leaves.word_is ∙ word_here ∙ ap (λ (z : ℕ × ℕ). word_after z.0 z.1) (λ i. (sym leaves.seed i, one i));
          words = subst (λ (z : ℕ). HaveWords z (m ∷ made)) (sym leaves.seed) (word_here, a.words);
          take_all = (taken_is ∙ went.taken, a.take_all);
          plain = (record { arrival = is_plain frame lawful; fine = no_fault l.reply fine; moment = bound; bounds = bounds }, a.plain);
          full = ((λ t parts c. subst (λ (n : ℕ). 6 < n) (sym went.next_is ∙ sym (ap (λ (q : State). q.next) goes.state) ∙ ap (count_after race_opening) (one_cut generated_row (life_made race_opening (m ∷ made)) parts' parts stands'.cut c)) (ended.full t)), a.full);
          low = ended.low;
          fitting = ended.stands;
          shape_is = shape' ∙ a.shape_is;
          pairs = ended.pairs_are ∙ ap (λ (z : List (ℕ × ℕ)). z ++ pair_in l.feedback) a.pairs;
          messages = ap (λ (z : List Item). z ++ messages_in w'.script) ended.items_are ∙ ap (λ z. items' ++ messages_in z) leaves.script ∙ messages ∙ ap (λ (z : ℕ × ℕ). race_items z.0 z.1) (λ i. (sym leaves.seed i, sym leaves.count i));
          stored = ap length ended.items_are ∙ count ∙ sym now;
          frames = frames ∙ ap (λ (z : Bool × List Item). frames_so_far z.0 z.1) (λ i. (sym greeted i, sym ended.items_are i));
          none_before = λ e. now ∙ none_before (sym greeted ∙ e);
          acked = counts_on (done_in (acks_of made)) (owed_in s.phase) s.next (one_if (is_ack l.reply)) (owed_in (phase_after generated_row race_opening parts')) next'
              (done_in (is_ack l.reply ∷ acks_of made)) (next_of w.half.process) (next_of w'.half.process) (done_more (is_ack l.reply) (acks_of made)) acked_here a.acked next_is now;
        })

    -- ---- by what comes ----

    none_was : w.is_greeted ≡ false → s.next ≡ 0
    none_was e = sym next_is ∙ a.none_before e

    few_here : s.next ≤ w.count
    few_here = omega (arith, stored_count, length-append items left, ap length a.messages, items_count w.seed w.count)

    by_frame : (f : Option Frame) → frame ≡ f → IsOffer w f left → Carried
    by_frame None e left_is =
        let came : arrival ≡ Nothing = ap arrival_in e in
        let went : Went generated_row s x s.phase s.next s.greeted None = subst (λ (z : Arrival). Went generated_row s (look_of moment word z false l.feedback) s.phase s.next s.greeted None) (sym came)
        (nothing_comes s moment word l.feedback a.phase (subst (λ (z : Arrival). FeedbackFits generated_row s (look_of moment word z false l.feedback)) came goes.fits)) in
        let same : w.is_greeted || is_some frame ≡ s.greeted = ap (λ (z : Option Frame). w.is_greeted || is_some z) e ∙ or_false w.is_greeted ∙ sym a.greeted in
        finish s.next s.greeted None items went (leaves.greeted ∙ same)
        (ap (λ (z : List Item). items ++ z) (sym left_is) ∙ a.messages) stored_count
        (ap (λ (z : Arrival). frames_of made ++ frame_in z) came ∙ append-nil (frames_of made) ∙ a.frames ∙ ap (λ (b : Bool). frames_so_far b items) (sym a.greeted))
        (ended_by s.phase refl went.hears (stored_is ∙ went.stored_is)) (λ k. none_was (sym a.greeted ∙ k))
    by_frame (Some f) e (idle, inl (not_greeted, is, left_is)) =
        let came : arrival ≡ Came hello_frame = ap arrival_in e ∙ ap Came is in
        let at : s.phase ≡ phases.Idle = sym phase_is ∙ idle_phase w.half.process.phase w.half.process.hand.number idle in
        let went : Went generated_row s x s.phase s.next true None = subst (λ (z : Arrival). Went generated_row s (look_of moment word z false l.feedback) s.phase s.next true None) (sym came)
        (hello_comes s moment word l.feedback a.phase at (subst (λ (z : Arrival). FeedbackFits generated_row s (look_of moment word z false l.feedback)) came goes.fits)) in
        let zero_is : s.next ≡ 0 = none_was not_greeted in
        let none : items ≡ [] = empty_of items (stored_count ∙ zero_is) in
        finish s.next true None items went (leaves.greeted ∙ ap (λ (z : Option Frame). w.is_greeted || is_some z) e ∙ or_true w.is_greeted)
        (ap (λ (z : List Item). items ++ z) (sym left_is) ∙ a.messages) stored_count
        (ap (λ (z : List Frame × Arrival). z.0 ++ frame_in z.1) (λ i. ((a.frames ∙ ap (λ (b : Bool). frames_so_far b items) not_greeted) i, came i)) ∙ ap (frames_so_far true) (sym none))
        (ended_by s.phase refl went.hears (stored_is ∙ went.stored_is)) (λ k. zero_is)
    by_frame (Some f) e (idle, inr (is_greeted, (item, is, left_is))) =
        let rest = messages_in w.script in
        let whole : items ++ item ∷ rest ≡ race_items w.seed w.count = ap (λ (z : List Item). items ++ z) (sym left_is) ∙ a.messages in
        let next : IsNextOf w.count items item = next_of_race w.seed w.count items item rest whole in
        let number : item.number ≡ s.next = next.number ∙ stored_count in
        let came : arrival ≡ Came (data_frame item) = ap arrival_in e ∙ ap Came is in
        let at : s.phase ≡ phases.Idle = sym phase_is ∙ idle_phase w.half.process.phase w.half.process.hand.number idle in
        let went : Went generated_row s x s.phase (s.next + 1) true (Some s.next) = subst (λ (z : Arrival). Went generated_row s (look_of moment word z false l.feedback) s.phase (s.next + 1) true (Some s.next)) (sym came)
        (data_comes s moment word l.feedback a.phase item number next.short (a.greeted ∙ is_greeted) (omega (arith, few_here, a.few)) at (subst (λ (z : Arrival). FeedbackFits generated_row s (look_of moment word z false l.feedback)) came goes.fits)) in
        let quiet : l.feedback ≡ Quiet = subst (λ (p : phases.Phase). Hears p l.feedback) at went.hears in
        finish (s.next + 1) true (Some s.next) (items ++ item ∷ []) went (leaves.greeted ∙ ap (λ (z : Option Frame). w.is_greeted || is_some z) e ∙ or_true w.is_greeted)
        (append_assoc items (item ∷ []) rest ∙ whole) (omega (arith, length-append items (item ∷ []), stored_count))
        (ap (λ (z : List Frame × Arrival). z.0 ++ frame_in z.1) (λ i. ((a.frames ∙ ap (λ (b : Bool). frames_so_far b items) is_greeted) i, came i)) ∙ ap (λ (z : List Frame). hello_frame ∷ z) (sym (map-append data_frame items (item ∷ []))))
        (ended_stored item number at quiet (stored_is ∙ went.stored_is) came) (λ k. absurd (cc))

    pub carried : Carried
    carried = by_frame frame refl offer

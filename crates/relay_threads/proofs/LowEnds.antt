-- What a low worker does at its end of the passage and stores, in one look, and in looks one after another.
use Rattle.std.proofs.Common.{◌≡◌, inl, inr, ℕ, ◌+◌, ◌≤◌, Bool, true, false, List, [], ◌∷◌, ◌++◌, length, map, Option, Some, None, refl, sym, ap, ◌∙◌, subst, append-nil, append_assoc, arith, length-append}
use Rattle.std.specs.Prelude.{◌⊎◌, ◌||◌, if◌then◌else◌}
use Rattle.std.specs.List.{All}
use Rattle.std.specs.Option.{option_to_list}
use Rattle.std.proofs.lemmas.List.{map-append}
use Rattle.std.proofs.lemmas.List.Elements.{All-append, All-cons, All-nil}
use Rattle.disk_model.specs.Disk.{Meaning}
use Rattle.pump_frame.specs.declared.frame.Frame.{Frame}
use Rattle.pump_frame.specs.declared.frame.Item.{Item}
use Rattle.pump_frame.specs.declared.row.SessionRow.{SessionRow}
use Rattle.pump_core.specs.declared.feedback.Feedback.{Feedback}
use Rattle.pump_core.specs.declared.feedback.Feedback.TheVariants.{Quiet, Full, Passed, Released, Repeat}
use Rattle.pump_core.specs.Exchanges.{Part, IsCut, has_average}
use Rattle.pump_core.specs.Replies.{stores}
use Rattle.pump_core.specs.History.{Arrival, Came, Look, Opening}
use Rattle.pump_core.specs.Phases as phases
use Rattle.pump_core.specs.Passage.{Shape, Low, High, NeverFall, forwards, tried, read_pair}
use Rattle.pump_core.specs.Standing.{State}
use Rattle.pump_core.specs.Step.{FeedbackFits, stores_at}
use Rattle.pump_core.proofs.PassageSteps.{never_fall_snoc}
use Rattle.stable_buffer.specs.Low.{low_disk}
use Rattle.stable_buffer.specs.Stands.{Gains}
use Rattle.stable_buffer.specs.declared.low.LowStore.{LowStore}
use Rattle.low_process.specs.declared.process.LowProcess.{LowProcess}
use Rattle.low_process.specs.declared.values.LowLook.{LowLook}
use Rattle.low_process.specs.Ends.{EndStep}
use Rattle.low_process.specs.Looks.{StandsFor, Looks, row_of, state_of, is_down, hand_of, hand_after, hand_passed, hand_stored, item_of, look_of}
use Rattle.low_process.specs.Storing.{StoreStep, message_in}
use Rattle.low_process.specs.Whole.{HasStore, FallsBy}
use Rattle.relay_threads.specs.LowEnds.{passed_in, full_at, fulls_in, HasAll, HasDone, DoesSo, HasStored, StoresSo}
use Rattle.relay_threads.specs.LowRounds.{Round, with_look, made_after, made_in}
use Rattle.relay_threads.specs.LowServes.{Lives, Serves}
use Rattle.relay_threads.specs.LowStays.{Stay, Alone, With, stay_after, stayed, StaysSo}
use Rattle.relay_threads.specs.PairsRead.{pair_in, pairs_of}
use Rattle.relay_threads.specs.Records.{Made, looks_made, life_made, history_made, passes_on}
use Rattle.relay_threads.specs.StoredMessages.{item_in, stored_in, payloads, StandsForLast}
use Rattle.relay_threads.proofs.LowLives.{look_made}
use Rattle.relay_threads.proofs.Machine.{Led, led}
use Rattle.relay_threads.proofs.StoredMessages.{item_at, stored_grows, TakesNext, stored_or, repeat_idle, idle_hand, stored_is_given, lasts}

-- ---- looks behind others ----

pairs_more : (xs ys : List Made) → pairs_of (xs ++ ys) ≡ pairs_of ys ++ pairs_of xs
pairs_more [] ys = sym (append-nil (pairs_of ys))
pairs_more (x ∷ xs) ys = ap (λ (z : List (ℕ × ℕ)). z ++ pair_in x.look.feedback) (pairs_more xs ys) ∙ append_assoc (pairs_of ys) (pairs_of xs) (pair_in x.look.feedback)

one_more : (b : Bool) (n k i : ℕ) → n ≡ k + i → (if b then n + 1 else n) ≡ k + (if b then i + 1 else i)
one_more true n k i e = omega (arith, e)
one_more false n k i e = e

passed_more : (xs ys : List Made) → passed_in (xs ++ ys) ≡ passed_in ys + passed_in xs
passed_more [] ys = omega arith
passed_more (x ∷ xs) ys = one_more (passes_on x.look.feedback) (passed_in (xs ++ ys)) (passed_in ys) (passed_in xs) (passed_more xs ys)

fulls_more : (n : ℕ) (xs ys : List Made) → fulls_in n (xs ++ ys) ≡ fulls_in n ys ++ fulls_in (n + passed_in ys) xs
fulls_more n [] ys = sym (append-nil (fulls_in n ys))
fulls_more n (x ∷ xs) ys =
    let at : n + passed_in (xs ++ ys) ≡ n + passed_in ys + passed_in xs = omega (arith, passed_more xs ys) in
    ap (λ (z : List ℕ × ℕ). z.0 ++ full_at z.1 x.look.feedback) (λ i. (fulls_more n xs ys i, at i))
    ∙ append_assoc (fulls_in n ys) (fulls_in (n + passed_in ys) xs) (full_at (n + passed_in ys + passed_in xs) x.look.feedback)

-- ---- one look ----

-- what one look does at the end
record Stepped (s : Shape) (now : Low → High → Type 0) (l : Low) (h : High) (hand : Option Item) (f : Feedback) : Type 0 where
  low : Low
  stands : now low h
  pairs_are : low.pairs ≡ l.pairs ++ pair_in f
  falls : NeverFall l.pairs → NeverFall low.pairs
  passed : length low.forwarded ≡ length l.forwarded + (if passes_on f then 0 + 1 else 0)
  tries : List (ℕ × ℕ)
  tries_are : low.tries ≡ l.tries ++ tries
  fulls : map (λ t. t.0) tries ≡ full_at (length l.forwarded + 0) f
  full : All (λ t. t.0 ≡ t.1 + s.places) tries
  held : (has_average f ≡ true → hand ≡ None) → low.forwarded ++ option_to_list (hand_passed hand f) ≡ l.forwarded ++ option_to_list hand

module _ (s : Shape) (on_one_thread : Bool) (now : Low → High → Type 0) (l : Low) (h : High) where
  stepped : (hand : Option Item) (f : Feedback) → EndStep s on_one_thread now l h hand f → Stepped s now l h hand f
  stepped hand Quiet step = record { low = l; stands = step; pairs_are = sym (append-nil l.pairs); falls = λ n. n; passed = omega arith; tries = []; tries_are = sym (append-nil l.tries); fulls = refl; full = All-nil _; held = λ e. refl }
  stepped hand Full step = record {
    low = tried l step.0;
    stands = step.3;
    pairs_are = sym (append-nil l.pairs);
    falls = λ n. n;
    passed = omega arith;
    tries = (length l.forwarded, step.0) ∷ [];
    tries_are = refl;
    fulls = ap (λ (n : ℕ). n ∷ []) (let e : length l.forwarded ≡ length l.forwarded + 0 = omega arith in e);
    full = All-cons (λ t. t.0 ≡ t.1 + s.places) (length l.forwarded, step.0) [] step.1 (All-nil _);
    held = λ e. refl;
  }
  stepped (Some item) (Passed seen) step = record {
    low = read_pair (forwards l item) seen.count seen.average;
    stands = step.1.2;
    pairs_are = refl;
    falls = λ n. never_fall_snoc l.pairs (seen.count, seen.average) n step.1.0;
    passed = omega (arith, length-append l.forwarded (item ∷ []));
    tries = [];
    tries_are = sym (append-nil l.tries);
    fulls = refl;
    full = All-nil _;
    held = λ e. append-nil (l.forwarded ++ item ∷ []);
  }
  stepped None (Passed seen) step = absurd step
  stepped (Some item) Released step = record {
    low = forwards l item;
    stands = step.1;
    pairs_are = sym (append-nil l.pairs);
    falls = λ n. n;
    passed = omega (arith, length-append l.forwarded (item ∷ []));
    tries = [];
    tries_are = sym (append-nil l.tries);
    fulls = refl;
    full = All-nil _;
    held = λ e. append-nil (l.forwarded ++ item ∷ []);
  }
  stepped None Released step = absurd step
  stepped hand (Repeat seen) step = record {
    low = read_pair l seen.count seen.average;
    stands = step.2;
    pairs_are = refl;
    falls = λ n. never_fall_snoc l.pairs (seen.count, seen.average) n step.0;
    passed = omega arith;
    tries = [];
    tries_are = sym (append-nil l.tries);
    fulls = refl;
    full = All-nil _;
    held = λ e. ap (λ (o : Option Item). l.forwarded ++ option_to_list o) (sym (e refl));
  }

-- what is held after a look that stored this or nothing
item_stored : (a : Arrival) (f : Frame) (x : Look) → a ≡ Came f → x.arrival ≡ a → option_to_list (item_of a f.number) ≡ item_in x ∷ []
item_stored a f x e same = rw (same, e)

module _ (p q : LowProcess) (m w : ℕ) (a : Arrival) (d : Bool) (l : LowLook) (row : row_of q ≡ row_of p) (looks : Looks (StandsFor p) q (row_of p) (look_of m w a d l.feedback) l) where
  abbrev x : Look
  x = look_of m w a d l.feedback

  abbrev made : Made
  made = look_made p q m w a d l

  -- what a look tells of the lives that it goes on with
  record Told (o : Opening) (before : List Made) (parts' : List Part) : Type 0 where
    parts : List Part
    cut : IsCut (row_of p) (life_made o before) parts
    fits : FeedbackFits (row_of p) (state_of p) x
    grows : stored_in parts' ≡ stored_in parts ++ item_at l.stored x
    stored : l.stored ≡ stores_at (row_of p) (state_of p) x

  told : (o : Opening) (before : List Made) (parts' : List Part) → Lives p o before → IsCut (row_of q) (life_made o (made ∷ before)) parts' → Told o before parts'
  told o before parts' lives cut' =
      let c' : IsCut (row_of p) (life_made o (made ∷ before)) parts' = subst (λ (r : SessionRow). IsCut r (life_made o (made ∷ before)) parts') row cut' in
      let st = lives.stands.stands in
      let goes : Led (row_of p) o st.parts x parts' = led (row_of p) o (looks_made before) x st.parts parts' st.cut c' in
      let is : l.stored ≡ stores parts' = looks.stored (history_made o before) parts' lives.stands c' in
      record {
        parts = st.parts;
        cut = st.cut;
        fits = subst (λ (z : State). FeedbackFits (row_of p) z x) (sym st.state) goes.fits;
        grows = stored_grows (row_of p) o x (looks_made before) st.parts parts' st.cut c' ∙ ap (λ (n : Option ℕ). stored_in st.parts ++ item_at n x) (sym is);
        stored = is ∙ goes.newest.stored ∙ ap (λ (z : State). stores_at (row_of p) z x) (sym st.state);
      }

  module _ (hand : hand_of q ≡ hand_after (hand_of p) a l) (s : Shape) (on_one_thread : Bool) (now : Low → High → Type 0) (low : Low) (h : High) (step : EndStep s on_one_thread now low h (hand_of p) l.feedback) where
    abbrev did : Stepped s now low h (hand_of p) l.feedback
    did = stepped s on_one_thread now low h (hand_of p) l.feedback step

    empty : (state_of p).phase ≡ phases.Idle → hand_of p ≡ None
    empty idle = idle_hand p.phase p.hand.number p.hand idle

    keeps : FeedbackFits (row_of p) (state_of p) x → did.low.forwarded ++ option_to_list (hand_passed (hand_of p) l.feedback) ≡ low.forwarded ++ option_to_list (hand_of p)
    keeps fits = did.held (λ again. empty (repeat_idle (row_of p) (state_of p) x fits again))

    has_all : (o : Opening) (before : List Made) (first : List Item) → Lives p o before → HasAll (row_of p) o before first low.forwarded (hand_of p) → HasAll (row_of q) o (made ∷ before) first did.low.forwarded (hand_of q)
    has_all o before first lives has parts' cut' = of (stored_or (row_of p) (state_of p) x t.fits) where
      t : Told o before parts'
      t = told o before parts' lives cut'

      was : low.forwarded ++ option_to_list (hand_of p) ≡ first ++ stored_in t.parts
      was = has t.parts t.cut

      of : (stores_at (row_of p) (state_of p) x ≡ None) ⊎ TakesNext (state_of p) x (stores_at (row_of p) (state_of p) x) → did.low.forwarded ++ option_to_list (hand_of q) ≡ first ++ stored_in parts'
      of (inl nothing) =
          let none : l.stored ≡ None = t.stored ∙ nothing in
          ap (λ (o : Option Item). did.low.forwarded ++ option_to_list o) (hand ∙ ap (hand_stored (hand_passed (hand_of p) l.feedback) a) none)
          ∙ keeps t.fits
          ∙ was
          ∙ ap (λ (z : List Item). first ++ z) (sym (append-nil (stored_in t.parts)) ∙ ap (λ (n : Option ℕ). stored_in t.parts ++ item_at n x) (sym none) ∙ sym t.grows)
      of (inr next) =
          let some : l.stored ≡ Some next.frame.number = t.stored ∙ next.stored_is in
          let none : hand_of p ≡ None = empty next.idle in
          let passed : hand_passed (hand_of p) l.feedback ≡ None = ap (λ (z : Option Item × Feedback). hand_passed z.0 z.1) (λ i. (none i, next.quiet i)) in
          let same : did.low.forwarded ≡ low.forwarded =
          sym (append-nil did.low.forwarded) ∙ ap (λ (o : Option Item). did.low.forwarded ++ option_to_list o) (sym passed) ∙ keeps t.fits ∙ ap (λ (o : Option Item). low.forwarded ++ option_to_list o) none ∙ append-nil low.forwarded in
          let all : low.forwarded ≡ first ++ stored_in t.parts = sym (append-nil low.forwarded) ∙ ap (λ (o : Option Item). low.forwarded ++ option_to_list o) (sym none) ∙ was in
          let in_hand : option_to_list (hand_of q) ≡ item_in x ∷ [] = ap option_to_list (hand ∙ ap (hand_stored (hand_passed (hand_of p) l.feedback) a) some) ∙ item_stored a next.frame x next.came refl in
          ap (λ (z : List Item × List Item). z.0 ++ z.1) (λ i. ((same ∙ all) i, in_hand i))
          ∙ append_assoc first (stored_in t.parts) (item_in x ∷ [])
          ∙ ap (λ (z : List Item). first ++ z) (ap (λ (n : Option ℕ). stored_in t.parts ++ item_at n x) (sym some) ∙ sym t.grows)

    pub look_does : HasDone s now p q low h (made ∷ [])
    look_does = record { low = did.low; stands = did.stands; pairs_are = did.pairs_are; falls = did.falls; passed = did.passed; tries = did.tries; tries_are = did.tries_are; fulls = did.fulls; full = did.full; all = has_all }

-- ---- one after another ----

join_rounds : (x : Option Made) (before : List Made) → with_look x [] ++ before ≡ with_look x before
join_rounds None before = refl
join_rounds (Some m) before = refl

pub rounds_behind : (before : List Made) (rounds : List Round) → made_after before rounds ≡ made_in rounds ++ before
rounds_behind before [] = refl
rounds_behind before (r ∷ past) = sym (join_rounds r.made (made_after before past)) ∙ ap (λ (z : List Made). with_look r.made [] ++ z) (rounds_behind before past)
    ∙ sym (append_assoc (with_look r.made []) (made_in past) before) ∙ ap (λ (z : List Made). z ++ before) (join_rounds r.made (made_in past))

stay_behind : {L : Type 0} (before : List Made) (x : Stay L) → stay_after before x ≡ stay_after [] x ++ before
stay_behind before (Alone m answer) = refl
stay_behind before (With m v) = sym (join_rounds v.gone (made_after before v.rounds)) ∙ ap (λ (z : List Made). with_look v.gone [] ++ z) (rounds_behind before v.rounds)
    ∙ sym (append_assoc (with_look v.gone []) (made_in v.rounds) before) ∙ ap (λ (z : List Made). z ++ before) (join_rounds v.gone (made_in v.rounds))

stays_behind : {L : Type 0} (before : List Made) (stays : List (Stay L)) → stayed before stays ≡ stayed [] stays ++ before
stays_behind before [] = refl
stays_behind before (x ∷ past) = stay_behind (stayed before past) x ∙ ap (λ (z : List Made). stay_after [] x ++ z) (stays_behind before past)
    ∙ sym (append_assoc (stay_after [] x) (stayed [] past) before) ∙ ap (λ (z : List Made). z ++ before) (sym (stay_behind (stayed [] past) x))

-- these looks go on with the life of the process
abbrev GoesOn : LowProcess → LowProcess → List Made → Type 0
GoesOn p q made = (o : Opening) (before : List Made) → Lives p o before → Lives q o (made ++ before)

rounds_go : (p q : LowProcess) (rounds : List Round) → Serves p q rounds → GoesOn p q (made_in rounds)
rounds_go p q rounds serves o before lives = subst (Lives q o) (rounds_behind before rounds) (serves.lives o before lives)

stays_go : {L : Type 0} (p q : LowProcess) (stays : List (Stay L)) → StaysSo p q stays → GoesOn p q (stayed [] stays)
stays_go p q stays so o before lives = subst (Lives q o) (stays_behind before stays) (so.lives o before lives)

module _ {E : Type 0} (stands : E → Low → High → Type 0) (shape : E → Shape) where
  pub does_none : (end : E) (p : LowProcess) → DoesSo stands shape end end p p []
  does_none end p l h fits = record { low = l; stands = fits; pairs_are = sym (append-nil l.pairs); falls = λ n. n; passed = omega arith; tries = []; tries_are = sym (append-nil l.tries); fulls = refl; full = All-nil _; all = λ o before first lives has. has }

  module _ (end end' end'' : E) (p q r : LowProcess) (same : shape end' ≡ shape end) where
    does_then : (one two : List Made) → GoesOn p q one → DoesSo stands shape end end' p q one → DoesSo stands shape end' end'' q r two → DoesSo stands shape end end'' p r (two ++ one)
    does_then one two on was more l h fits =
        let a = was l h fits in
        let b = more a.low h a.stands in
        let n = length l.forwarded in
        record {
          low = b.low;
          stands = b.stands;
          pairs_are = b.pairs_are ∙ ap (λ (z : List (ℕ × ℕ)). z ++ pairs_of two) a.pairs_are ∙ append_assoc l.pairs (pairs_of one) (pairs_of two) ∙ ap (λ (z : List (ℕ × ℕ)). l.pairs ++ z) (sym (pairs_more two one));
          falls = λ k. b.falls (a.falls k);
          passed = omega (arith, a.passed, b.passed, passed_more two one);
          tries = a.tries ++ b.tries;
          tries_are = b.tries_are ∙ ap (λ (z : List (ℕ × ℕ)). z ++ b.tries) a.tries_are ∙ append_assoc l.tries a.tries b.tries;
          fulls = map-append (λ t. t.0) a.tries b.tries ∙ ap (λ (z : List ℕ × List ℕ). z.0 ++ z.1) (λ i. (a.fulls i, (b.fulls ∙ ap (λ (k : ℕ). fulls_in k two) a.passed) i)) ∙ sym (fulls_more n two one);
          full = All-append (λ t. t.0 ≡ t.1 + (shape end).places) a.tries b.tries a.full (subst (λ (z : Shape). All (λ t. t.0 ≡ t.1 + z.places) b.tries) same b.full);
          all = λ o before first lives has. subst (λ (z : List Made). HasAll (row_of r) o z first b.low.forwarded (hand_of r)) (sym (append_assoc two one before)) (b.all o (one ++ before) first (on o before lives) (a.all o before first lives has));
        }

    pub does_rounds : (x : Option Made) (rounds : List Round) → Serves p q rounds → DoesSo stands shape end end' p q (made_in rounds) → DoesSo stands shape end' end'' q r (with_look x []) → DoesSo stands shape end end'' p r (with_look x (made_in rounds))
    does_rounds x rounds serves was more = subst (DoesSo stands shape end end'' p r) (join_rounds x (made_in rounds)) (does_then (made_in rounds) (with_look x []) (rounds_go p q rounds serves) was more)

    pub does_stays : {L : Type 0} (x : Stay L) (past : List (Stay L)) → StaysSo p q past → DoesSo stands shape end end' p q (stayed [] past) → DoesSo stands shape end' end'' q r (stay_after [] x) → DoesSo stands shape end end'' p r (stayed [] (x ∷ past))
    does_stays x past so was more = subst (DoesSo stands shape end end'' p r) (sym (stay_behind (stayed [] past) x)) (does_then (stayed [] past) (stay_after [] x) (stays_go p q past so) was more)

-- ---- the disk ----

or_left : (b c : Bool) → (b || c) ≡ false → c ≡ false
or_left true c e = absurd (cc)
or_left false c e = e

module _ {D : Type 0} (M : Meaning D) where
  pub stores_none : (store : LowStore D) (p : LowProcess) → StoresSo M store store p p []
  stores_none store p tells up o before first found lives has = has

  -- one look
  module _ (p q : LowProcess) (m w : ℕ) (a : Arrival) (d : Bool) (l : LowLook) (row : row_of q ≡ row_of p) (looks : Looks (StandsFor p) q (row_of p) (look_of m w a d l.feedback) l)
      (old new : LowStore D) (up : is_down p ≡ false) (has_store : HasStore M p old) (keeps : StoreStep M (message_in p a) old new d) (falls : FallsBy d p q) where
    stored_by : (message : Option (List ℕ)) → StoreStep M message old new d → d ≡ false → M.tells → (first : ℕ) (all : List (List ℕ)) → StandsForLast (row_of p) first all (M.reading (low_disk old))
        → StandsForLast (row_of p) first (all ++ option_to_list message) (M.reading (low_disk new))
    stored_by None step fine tells first all was =
        subst (λ (z : List (List ℕ) × LowStore D). StandsForLast (row_of p) first z.0 (M.reading (low_disk z.1))) (λ i. (sym (append-nil all) i, sym step.1 i)) was
    stored_by (Some message) step fine tells first all was =
        let store = has_store up in
        let gains : Gains (row_of p) message (M.reading (low_disk old)) (M.reading (low_disk new)) = subst (λ (r : SessionRow). Gains r message (M.reading (low_disk old)) (M.reading (low_disk new))) store.row (step.gained fine tells) in
        let some : 1 ≤ (row_of p).capacity = subst (λ (r : SessionRow). 1 ≤ r.capacity) store.row store.ready.ranges.some in
        lasts (row_of p) first all message (M.reading (low_disk old)) (M.reading (low_disk new)) some gains was

    pub look_stores : StoresSo M old new p q (look_made p q m w a d l ∷ [])
    look_stores tells up_now o before first found lives has parts' cut' =
        let t = told p q m w a d l row looks o before parts' lives cut' in
        let fine : d ≡ false = or_left (is_down p) d (sym falls ∙ up_now) in
        let same : payloads (item_at l.stored (look_of m w a d l.feedback)) ≡ option_to_list (message_in p a) =
        ap (λ (z : Option ℕ). payloads (item_at z (look_of m w a d l.feedback))) t.stored
        ∙ ap (λ (b : Bool). payloads (item_at (stores_at (row_of p) (state_of p) (look_of m w a b l.feedback)) (look_of m w a b l.feedback))) fine
        ∙ stored_is_given p m w a l.feedback in
        let all : found ++ payloads (stored_in t.parts) ++ option_to_list (message_in p a) ≡ found ++ payloads (stored_in parts') =
        append_assoc found (payloads (stored_in t.parts)) (option_to_list (message_in p a))
        ∙ ap (λ (z : List (List ℕ)). found ++ z) (ap (λ (z : List (List ℕ)). payloads (stored_in t.parts) ++ z) (sym same) ∙ sym (map-append (λ (z : Item). z.payload) (stored_in t.parts) (item_at l.stored (look_of m w a d l.feedback))) ∙ ap payloads (sym t.grows)) in
        subst (λ (z : SessionRow × List (List ℕ)). StandsForLast z.0 first z.1 (M.reading (low_disk new))) (λ i. (sym row i, all i))
        (stored_by (message_in p a) keeps fine tells first (found ++ payloads (stored_in t.parts)) (has t.parts t.cut))

  module _ (old mid new : LowStore D) (p q r : LowProcess) (up : is_down q ≡ false) where
    stores_then : (one two : List Made) → GoesOn p q one → StoresSo M old mid p q one → StoresSo M mid new q r two → StoresSo M old new p r (two ++ one)
    stores_then one two on was more tells up_now o before first found lives has =
        subst (λ (z : List Made). HasStored (row_of r) o z first found (M.reading (low_disk new))) (sym (append_assoc two one before))
        (more tells up_now o (one ++ before) first found (on o before lives) (was tells up o before first found lives has))

    pub stores_rounds : (x : Option Made) (rounds : List Round) → Serves p q rounds → StoresSo M old mid p q (made_in rounds) → StoresSo M mid new q r (with_look x []) → StoresSo M old new p r (with_look x (made_in rounds))
    stores_rounds x rounds serves was more = subst (StoresSo M old new p r) (join_rounds x (made_in rounds)) (stores_then (made_in rounds) (with_look x []) (rounds_go p q rounds serves) was more)

    pub stores_stays : {L : Type 0} (x : Stay L) (past : List (Stay L)) → StaysSo p q past → StoresSo M old mid p q (stayed [] past) → StoresSo M mid new q r (stay_after [] x) → StoresSo M old new p r (stayed [] (x ∷ past))
    stores_stays x past so was more = subst (StoresSo M old new p r) (sym (stay_behind (stayed [] past) x)) (stores_then (stayed [] past) (stay_after [] x) (stays_go p q past so) was more)

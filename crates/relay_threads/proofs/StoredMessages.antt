-- How the messages that a life stored grow look by look, and what the disk stands for with them.
use Rattle.std.proofs.Common.{◌≡◌, inl, inr, ℕ, ◌+◌, ◌-◌, ◌<◌, ◌≤◌, Bool, true, false, List, [], ◌∷◌, ◌++◌, length, drop, Option, Some, None, refl, sym, ap, ◌∙◌, subst, append-nil, arith, length-append}
use Rattle.std.specs.Prelude.{◌⊎◌, if◌then◌else◌}
use Rattle.std.specs.Option.{option_to_list}
use Rattle.std.proofs.lemmas.Bool.{cases_lt}
use Rattle.std.proofs.lemmas.List.{drop_all, drop-append-le, get_or-drop, length-drop}
use Rattle.pump_frame.specs.declared.frame.Frame.{Frame}
use Rattle.pump_frame.specs.declared.frame.Item.{Item}
use Rattle.pump_frame.specs.declared.row.SessionRow.{SessionRow}
use Rattle.stable_buffer.specs.Stands.{LowStands, InSlot, Gains}
use Rattle.pump_core.specs.declared.feedback.Feedback.{Feedback}
use Rattle.pump_core.specs.declared.feedback.Feedback.TheVariants.{Quiet, Full, Passed, Released, Repeat}
use Rattle.pump_core.specs.Phases as phases
use Rattle.pump_core.specs.History.{Arrival, Nothing, Came, Bad, Gone, Look, Opening}
use Rattle.pump_core.specs.Exchanges.{is_gone, is_repeat, is_next, is_passed, has_average, due, Waiting, Over, Part, Holding, Release, Empty, Leaving, Answer, Repeated, Offering, Dropped, Delivery, Loss, looks_of, IsCut}
use Rattle.pump_core.specs.Replies.{stores}
use Rattle.pump_core.specs.Standing.{State}
use Rattle.pump_core.specs.Step.{FeedbackFits, fits_in, fits_idle, fits_passing, is_quiet, stores_at, stores_in, stores_idle}
use Rattle.pump_core.proofs.Cuts.{begun, begun_held, is_released, wait_with, grow, following, cut_of, is_the_cut}
use Rattle.pump_core.proofs.Runs.{not_repeat}
use Rattle.low_process.specs.declared.process.LowProcess.{LowProcess}
use Rattle.low_process.specs.declared.values.Phase.{Phase}
use Rattle.low_process.specs.declared.values.Phase.TheVariants.{Idle, Passing, Waiting as Waits, Down}
use Rattle.low_process.specs.Looks.{row_of, state_of, phase_of, look_of, hand_in}
use Rattle.low_process.specs.Storing.{message_in, message_of, wants_in}
use Rattle.relay_threads.specs.StoredMessages.{item_in, message_stored, stored_in, payloads, StandsForLast}
use Rattle.relay_threads.proofs.Machine.{life}

-- ---- what a look adds ----

-- what a look stored, where it stored this number
abbrev pub item_at : Option ℕ → Look → List Item
item_at None x = []
item_at (Some n) x = item_in x ∷ []

-- the part that the look begins has just this
abbrev Fresh : Look → Part → Type 0
Fresh x p = (before : List Part) → message_stored p ≡ item_at (stores (p ∷ before)) x

fresh_if : (x : Look) (b : Bool) (p q : Part) → Fresh x p → Fresh x q → Fresh x (if b then p else q)
fresh_if x true p q f g = f
fresh_if x false p q f g = g

fresh_held : (x : Look) → Fresh x (begun_held x)
fresh_held x = fresh_if x (is_released x.feedback) (Release [] x) (Holding x []) (λ before. refl) (λ before. refl)

fresh_begun : (row : SessionRow) (n : ℕ) (g : Bool) (x : Look) (a : Arrival) → Fresh x (begun row n g x a)
fresh_begun row n g x Nothing = λ before. refl
fresh_begun row n g x Gone = λ before. refl
fresh_begun row n g x Bad = λ before. refl
fresh_begun row n g x (Came f) =
    fresh_if x (is_repeat row n g f) (Repeated x (Waiting [])) _ (λ before. refl)
    (fresh_if x (is_next row n g f) _ (Answer x) (fresh_if x x.is_fault (Loss x []) (Offering x []) (λ before. refl) (λ before. refl)) (λ before. refl))

-- a part that goes on stores no more
abbrev GoesOn : Part → Part → Type 0
GoesOn p q = (message_stored q ≡ message_stored p) × ((before : List Part) → stores (q ∷ before) ≡ None)

goes_if : (b : Bool) (p q q' : Part) → GoesOn p q → GoesOn p q' → GoesOn p (if b then q else q')
goes_if true p q q' g g' = g
goes_if false p q q' g g' = g'

abbrev Grown : Look → List Part → List Part → Type 0
Grown x parts parts' = stored_in parts' ≡ stored_in parts ++ item_at (stores parts') x

grown_on : (x : Look) (p q : Part) (before : List Part) → GoesOn p q → Grown x (p ∷ before) (q ∷ before)
grown_on x p q before g =
    ap (λ (z : List Item). stored_in before ++ z) g.0
    ∙ sym (append-nil (stored_in (p ∷ before)))
    ∙ ap (λ (n : Option ℕ). stored_in (p ∷ before) ++ item_at n x) (sym (g.1 before))

module _ (row : SessionRow) (o : Opening) (x : Look) where
  grown_new : (parts : List Part) (b : Bool) (p q : Part) → Fresh x p → Fresh x q → Grown x parts ((if b then p else q) ∷ parts)
  grown_new parts true p q f g = ap (λ (z : List Item). stored_in parts ++ z) (f parts)
  grown_new parts false p q f g = ap (λ (z : List Item). stored_in parts ++ z) (g parts)

  grown_after : (parts : List Part) → Grown x parts (following row o parts x)
  grown_after parts = grown_new parts _ (begun_held x) _ (fresh_held x) (fresh_begun row _ _ x x.arrival)

  grown : (parts : List Part) → Grown x parts (grow row o parts x)
  grown [] = grown_after []
  grown (Holding y ys ∷ before) = grown_on x (Holding y ys) _ before (goes_if (is_released x.feedback) (Holding y ys) (Release (y ∷ ys) x) (Holding x (y ∷ ys)) (refl, λ _. refl) (refl, λ _. refl))
  grown (Release ys last ∷ before) = grown_after (Release ys last ∷ before)
  grown (Empty y ∷ before) = grown_after (Empty y ∷ before)
  grown (Leaving y ∷ before) = grown_after (Leaving y ∷ before)
  grown (Answer y ∷ before) = grown_after (Answer y ∷ before)
  grown (Repeated first (Waiting quiet) ∷ before) = grown_on x (Repeated first (Waiting quiet)) (Repeated first (wait_with (due row first) quiet x)) before (refl, λ _. refl)
  grown (Repeated first (Over quiet last) ∷ before) = grown_after (Repeated first (Over quiet last) ∷ before)
  grown (Offering first full ∷ before) = grown_on x (Offering first full) _ before
      (goes_if (is_gone x.arrival) (Offering first full) (Dropped first full x) _ (refl, λ _. refl)
      (goes_if (is_passed x.feedback) (Offering first full) (Delivery first full x (Waiting [])) (Offering first (x ∷ full)) (refl, λ _. refl) (refl, λ _. refl)))
  grown (Dropped first full gone ∷ before) = grown_after (Dropped first full gone ∷ before)
  grown (Delivery first full y (Waiting quiet) ∷ before) = grown_on x (Delivery first full y (Waiting quiet)) (Delivery first full y (wait_with (due row y) quiet x)) before (refl, λ _. refl)
  grown (Delivery first full y (Over quiet last) ∷ before) = grown_after (Delivery first full y (Over quiet last) ∷ before)
  grown (Loss first rest ∷ before) = grown_on x (Loss first rest) (Loss first (x ∷ rest)) before (refl, λ _. refl)

  -- .. in any cuts
  pub stored_grows : (looks : List Look) (parts parts' : List Part) → IsCut row (life o looks) parts → IsCut row (life o (x ∷ looks)) parts' → stored_in parts' ≡ stored_in parts ++ item_at (stores parts') x
  stored_grows looks parts parts' c c' =
      let e : looks_of parts' ≡ x ∷ looks_of parts = sym c'.looks ∙ ap (λ l. x ∷ l) c.looks in
      let same : grow row o parts x ≡ parts' = sym (ap (λ z. grow row o z x) (is_the_cut row o parts c.are_parts)) ∙ sym (ap (cut_of row o) e) ∙ is_the_cut row o parts' c'.are_parts in
      subst (Grown x parts) same (grown parts)

-- ---- what the process does in it ----

quiet_is : (k : Feedback) → is_quiet k ≡ true → k ≡ Quiet
quiet_is Quiet e = refl
quiet_is Full e = absurd (cc)
quiet_is (Passed seen) e = absurd (cc)
quiet_is Released e = absurd (cc)
quiet_is (Repeat seen) e = absurd (cc)

-- it takes the next message, with an empty hand
pub record TakesNext (s : State) (x : Look) (stored : Option ℕ) : Type 0 where
  pub frame : Frame
  pub came : x.arrival ≡ Came frame
  pub stored_is : stored ≡ Some frame.number
  pub idle : s.phase ≡ phases.Idle
  pub quiet : x.feedback ≡ Quiet

by_bools : (r n d : Bool) (k : Feedback) (number : ℕ) → (if r then has_average k else is_quiet k) ≡ true
    → ((if r then None else if n then (if d then None else Some number) else None) ≡ None) ⊎ (((if r then None else if n then (if d then None else Some number) else None) ≡ Some number) × (k ≡ Quiet))
by_bools true n d k number fit = inl refl
by_bools false true true k number fit = inl refl
by_bools false true false k number fit = inr (refl, quiet_is k fit)
by_bools false false d k number fit = inl refl

module _ (row : SessionRow) (s : State) (x : Look) where
  by_arrival : (a : Arrival) → x.arrival ≡ a → s.phase ≡ phases.Idle → fits_idle row s a x.feedback ≡ true → (stores_idle row s x a ≡ None) ⊎ TakesNext s x (stores_idle row s x a)
  by_arrival Nothing e idle fit = inl refl
  by_arrival Bad e idle fit = inl refl
  by_arrival Gone e idle fit = inl refl
  by_arrival (Came f) e idle fit = of (by_bools (is_repeat row s.next s.greeted f) (is_next row s.next s.greeted f) x.is_fault x.feedback f.number fit) where
    of : (stores_idle row s x (Came f) ≡ None) ⊎ ((stores_idle row s x (Came f) ≡ Some f.number) × (x.feedback ≡ Quiet)) → (stores_idle row s x (Came f) ≡ None) ⊎ TakesNext s x (stores_idle row s x (Came f))
    of (inl none) = inl none
    of (inr (some, quiet)) = inr (record { frame = f; came = e; stored_is = some; idle = idle; quiet = quiet })

  by_phase : (ph : phases.Phase) → s.phase ≡ ph → fits_in row s x ph ≡ true → (stores_in row s x ph ≡ None) ⊎ TakesNext s x (stores_in row s x ph)
  by_phase phases.Idle e fit = by_arrival x.arrival refl e fit
  by_phase phases.Down e fit = inl refl
  by_phase (phases.Waiting n at) e fit = inl refl
  by_phase (phases.Passing owed) e fit = inl refl

  pub stored_or : FeedbackFits row s x → (stores_at row s x ≡ None) ⊎ TakesNext s x (stores_at row s x)
  stored_or fit = by_phase s.phase refl fit

  no_average : (k : Feedback) → is_quiet k ≡ true → has_average k ≡ true → ⊥
  no_average Quiet q h = cc
  no_average Full q h = cc
  no_average (Passed seen) q h = cc
  no_average Released q h = cc
  no_average (Repeat seen) q h = cc

  no_repeat : (owed : Option ℕ) (gone : Bool) (k : Feedback) → (if gone then is_quiet k else fits_passing owed k) ≡ true → has_average k ≡ true → ⊥
  no_repeat owed true k fit h = no_average k fit h
  no_repeat None false (Repeat seen) fit h = cc
  no_repeat (Some n) false (Repeat seen) fit h = cc
  no_repeat owed false Quiet fit h = cc
  no_repeat owed false Full fit h = cc
  no_repeat owed false (Passed seen) fit h = cc
  no_repeat owed false Released fit h = cc

  idle_by : (ph : phases.Phase) → s.phase ≡ ph → fits_in row s x ph ≡ true → has_average x.feedback ≡ true → s.phase ≡ phases.Idle
  idle_by phases.Idle e fit h = e
  idle_by phases.Down e fit h = absurd (no_average x.feedback fit h)
  idle_by (phases.Waiting n at) e fit h = absurd (no_average x.feedback fit h)
  idle_by (phases.Passing owed) e fit h = absurd (no_repeat owed (is_gone x.arrival) x.feedback fit h)

  -- a message comes once more to a process that has nothing in its hand
  pub repeat_idle : FeedbackFits row s x → has_average x.feedback ≡ true → s.phase ≡ phases.Idle
  repeat_idle fit h = idle_by s.phase refl fit h

pub idle_hand : (ph : Phase) (n : ℕ) (item : Item) → phase_of ph n ≡ phases.Idle → hand_in ph item ≡ None
idle_hand Idle n item e = refl
idle_hand (Passing is_owed) n item e = absurd (cc)
idle_hand (Waits k due) n item e = refl
idle_hand Down n item e = refl

-- ---- what it gives the store ----

chosen : (x : Look) (f : Frame) (r n : Bool) → x.is_fault ≡ false → x.arrival ≡ Came f → (n ≡ true → r ≡ false)
    → payloads (item_at (if r then None else if n then (if x.is_fault then None else Some f.number) else None) x) ≡ option_to_list (message_of n (Came f))
chosen x f true true fine came apart = absurd (let e = apart refl in cc)
chosen x f true false fine came apart = refl
chosen x f false true fine came apart = rw (fine, came)
chosen x f false false fine came apart = refl

given_idle : (row : SessionRow) (s : State) (x : Look) (a : Arrival) → x.is_fault ≡ false → x.arrival ≡ a → payloads (item_at (stores_idle row s x a) x) ≡ option_to_list (message_of (wants_in row s.next s.greeted Idle a) a)
given_idle row s x Nothing fine came = refl
given_idle row s x Bad fine came = refl
given_idle row s x Gone fine came = refl
given_idle row s x (Came f) fine came = chosen x f (is_repeat row s.next s.greeted f) (is_next row s.next s.greeted f) fine came (not_repeat row (record { count = 0; is_held = false }) s.next s.greeted f)

given_in : (row : SessionRow) (s : State) (x : Look) (ph : Phase) (hand : ℕ) → x.is_fault ≡ false → payloads (item_at (stores_in row s x (phase_of ph hand)) x) ≡ option_to_list (message_of (wants_in row s.next s.greeted ph x.arrival) x.arrival)
given_in row s x Idle hand fine = given_idle row s x x.arrival fine refl
given_in row s x (Passing owed) hand fine = refl
given_in row s x (Waits n due) hand fine = refl
given_in row s x Down hand fine = refl

-- what the look stored is what it gave the store
pub stored_is_given : (p : LowProcess) (m w : ℕ) (a : Arrival) (k : Feedback) → payloads (item_at (stores_at (row_of p) (state_of p) (look_of m w a false k)) (look_of m w a false k)) ≡ option_to_list (message_in p a)
stored_is_given p m w a k = given_in p.row (state_of p) (look_of m w a false k) p.phase p.hand.number refl

-- ---- what the disk stands for ----

-- .. stands for no message, too
emptied : (row : SessionRow) (E b : ℕ) (messages : List (List ℕ)) (disk : List ℕ) → LowStands row E b messages disk → LowStands row E E [] disk
emptied row E b messages disk s = record { header = s.header; size = s.size; value = s.value; kept = omega arith; count = omega arith; slots = λ i lt. absurd (omega (arith, lt)) }

module _ (row : SessionRow) (first : ℕ) (all : List (List ℕ)) (x old new : List ℕ) (some : 1 ≤ row.capacity) (gains : Gains row x old new) (was : StandsForLast row first all old) where
  abbrev E : ℕ
  E = first + length all

  one : first + length (all ++ x ∷ []) ≡ E + 1
  one = omega (arith, length-append all (x ∷ []))

  gained : (b : ℕ) → first ≤ b → b ≤ E → E + 1 ≤ b + row.capacity → LowStands row (E + 1) b (drop (b - first) all ++ x ∷ []) new
  gained b from to room = gains.more E b (drop (b - first) all) room (was b from to (omega (arith, room)))

  -- one message more
  pub lasts : StandsForLast row first (all ++ x ∷ []) new
  lasts b from to room = of (cases_lt E b) where
    of : (E < b) ⊎ (b ≤ E) → LowStands row (first + length (all ++ x ∷ [])) b (drop (b - first) (all ++ x ∷ [])) new
    of (inr le) =
        let messages : drop (b - first) (all ++ x ∷ []) ≡ drop (b - first) all ++ x ∷ [] = drop-append-le (b - first) all (x ∷ []) (omega (arith, le, from)) in
        subst (λ (z : ℕ × List (List ℕ)). LowStands row z.0 b z.1 new) (λ i. (sym one i, sym messages i)) (gained b from le (omega (arith, room, one)))
    of (inl lt) =
        let at : E + 1 ≡ b = omega (arith, lt, to, one) in
        let none : drop (b - first) (all ++ x ∷ []) ≡ [] = drop_all (b - first) (all ++ x ∷ []) (omega (arith, lt, length-append all (x ∷ []))) in
        let before = gained E (omega arith) (omega arith) (omega (arith, some)) in
        subst (λ (z : ℕ × ℕ × List (List ℕ)). LowStands row z.0 z.1 z.2 new) (λ i. (sym one i, at i, sym none i)) (emptied row (E + 1) E _ new before)

-- .. for fewer messages, the last
stands_later : (row : SessionRow) (E b c : ℕ) (messages : List (List ℕ)) (disk : List ℕ) → LowStands row E b messages disk → b ≤ c → c ≤ E → LowStands row E c (drop (c - b) messages) disk
stands_later row E b c messages disk s from to = record {
  header = s.header;
  size = s.size;
  value = s.value;
  kept = omega (arith, s.kept, from);
  count = omega (arith, length-drop (c - b) messages, s.count, from, to);
  slots = λ i lt.
      let at : b + (c - b + i) ≡ c + i = omega (arith, from) in
      subst (λ (z : ℕ × List ℕ). InSlot row z.0 z.1 disk) (λ i'. (at i', sym (get_or-drop (c - b) messages i []) i')) (s.slots (c - b + i) (omega (arith, lt, length-drop (c - b) messages)));
}

-- a disk stands for the last of the messages that it stands for
pub stands_for_last : (row : SessionRow) (E first : ℕ) (all : List (List ℕ)) (disk : List ℕ) → first + length all ≡ E → LowStands row E first all disk → StandsForLast row first all disk
stands_for_last row E first all disk count s b from to room =
    subst (λ (n : ℕ). LowStands row n b (drop (b - first) all) disk) (sym count) (stands_later row E first b all disk s from (omega (arith, to, count)))

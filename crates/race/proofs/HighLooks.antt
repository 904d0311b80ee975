-- What a look of the high process does to the hand, the sendings and the end.
use Rattle.std.proofs.Common.{◌≡◌, ℕ, ◌+◌, ◌-◌, ◌^◌, ◌<◌, ◌≤◌, Bool, true, false, zero, suc, ◌%◌, List, [], ◌∷◌, ◌++◌, length, Option, Some, None, refl, sym, ap, ◌∙◌, subst, arith, eq-eqb, ne_eqb}
use Rattle.std.specs.Prelude.{◌&&◌, ◌||◌, ◌==◌, not, nat_lt, nat_le, if◌then◌else◌, is_some}
use Rattle.std.proofs.Math.Nat.{mod-lt}
use Rattle.std.proofs.lemmas.List.{length-append}
use Rattle.std.proofs.lemmas.List.Elements.{All-cons}
use Rattle.pump_frame.specs.declared.frame.Item.{Item}
use Rattle.pump_frame.specs.declared.frame.Frame.{Frame}
use Rattle.pump_frame.specs.declared.frame.Kind.{Kind}
use Rattle.pump_frame.specs.declared.frame.Kind.TheVariants.{Taken}
use Rattle.pump_frame.specs.declared.row.SessionRow.{SessionRow}
use Rattle.pump_core.specs.Passage.{Shape, Low, High, new_low, takes, sought}
use Rattle.pump_core.specs.Sendings.{Sending, last_sending, first_sending, or_else, time_since, is_due, expected}
use Rattle.pump_core.proofs.PassageSteps.{all_weaken, all_head, all_tail}
use Rattle.high_process.specs.declared.values.HighFault.TheVariants.{Ahead}
use Rattle.high_process.specs.declared.values.Task.TheVariants.{Refuse, Remove, Keep}
use Rattle.high_process.specs.declared.process.HighProcess.{HighProcess}
use Rattle.high_process.specs.States.{row_of, removed_of, hand_of, task_at, attaches_at}
use Rattle.high_process.specs.Tasks.{is_attach, task_in}
use Rattle.high_process.specs.Past.{ProcessPast, next_time, wants, taken_up, is_sent, finished}
use Rattle.high_process.specs.Ends.{TakesUp}
use Rattle.script_reader.specs.Generated.{generated_row}
use Rattle.race.specs.Turns.{turn, turns, CanTurn}
use Rattle.race.specs.HighRacers.{SentBelow, IsNext, HandAt}
use Rattle.race.proofs.HighNumbers.{is_below, not_below, not_at_most}

-- ---- sendings ----

abbrev sending : ℕ → ℕ → Sending
sending n m = record { number = n; moment = m }

not_sent_last : (n : ℕ) (sends : List Sending) → SentBelow n sends → last_sending n sends ≡ None
not_sent_last n [] h = refl
not_sent_last n (x ∷ sends) h =
    let lt : x.number < n = all_head (λ (s : Sending). s.number < n) x sends h in
    let e : (x.number == n) ≡ false = ne_eqb x.number n (λ e. omega (arith, lt, e)) in
    ap (λ (b : Bool). if b then Some x.moment else last_sending n sends) e ∙ not_sent_last n sends (all_tail (λ (s : Sending). s.number < n) x sends h)

not_sent_first : (n : ℕ) (sends : List Sending) → SentBelow n sends → first_sending n sends ≡ None
not_sent_first n [] h = refl
not_sent_first n (x ∷ sends) h =
    let lt : x.number < n = all_head (λ (s : Sending). s.number < n) x sends h in
    let e : (x.number == n) ≡ false = ne_eqb x.number n (λ e. omega (arith, lt, e)) in
    ap (λ (z : Option ℕ × Bool). or_else z.0 (if z.1 then Some x.moment else None)) (λ i. (not_sent_first n sends (all_tail (λ (s : Sending). s.number < n) x sends h) i, e i))

-- a message that was sent once was last sent then, and first
sent_last : (n m : ℕ) (older : List Sending) → last_sending n (sending n m ∷ older) ≡ Some m
sent_last n m older = ap (λ (b : Bool). if b then Some m else last_sending n older) (eq-eqb n n refl)

sent_first : (n m : ℕ) (older : List Sending) → SentBelow n older → first_sending n (sending n m ∷ older) ≡ Some m
sent_first n m older h = ap (λ (z : Option ℕ × Bool). or_else z.0 (if z.1 then Some m else None)) (λ i. (not_sent_first n older h i, eq-eqb n n refl i))

pub sent_below_next : (n m : ℕ) (sends older : List Sending) → sends ≡ sending n m ∷ older → SentBelow n older → SentBelow (n + 1) sends
sent_below_next n m sends older is below =
    subst (SentBelow (n + 1)) (sym is)
    (All-cons (λ (s : Sending). s.number < n + 1) (sending n m) older (omega arith) (all_weaken (λ (s : Sending). s.number < n) (λ s. s.number < n + 1) older (λ s lt. omega (arith, lt)) below))

-- ---- a look at a moment ----

-- what the look leaves of the end and the hand, where no more was removed
pub record Leaves (after : Low → High → Type 0) (before : List Item) (n : ℕ) (times past_times : List ℕ) (past : ProcessPast) (m : ℕ) : Type 0 where
  pub high : High
  pub stands : after new_low high
  pub times_are : high.times ≡ times
  pub past_times_are : past.times ≡ past_times
  pub removed_is : past.removed ≡ n
  pub hand : HandAt before past.removed past.sends high.taken m past.hand

module _ (s : Shape) (on_one_thread : Bool) (after : Low → High → Type 0) (resend : ℕ) (past : ProcessPast) (high : High) (before : List Item) (m : ℕ) where
  abbrev sends_after : Bool → List Sending
  sends_after b = if b then sending past.removed m ∷ past.sends else past.sends

  -- with an empty hand: the next message is asked for, and sent where it comes
  seeks : (got : Option Item) → past.hand ≡ None → high.taken ≡ before → SentBelow past.removed past.sends → TakesUp s on_one_thread after new_low high true past.removed got
      → Leaves after before past.removed high.times past.times (finished resend false (taken_up past got) m) m
  seeks None none is below t = record {
    high = sought high (length high.taken);
    stands = t.1;
    times_are = refl;
    past_times_are = refl;
    removed_is = refl;
    hand =
        let b : is_sent resend false past m ≡ false = ap (λ (h : Option Item). is_some h && (false || is_due resend (last_sending past.removed past.sends) m)) none in
        subst (λ (z : Bool × Option Item). HandAt before past.removed (sends_after z.0) high.taken m z.1) (λ i. (sym b i, sym none i)) (is, below);
  }
  seeks (Some x) none is below t = record {
    high = takes high x past.removed;
    stands = t.1;
    times_are = refl;
    past_times_are = refl;
    removed_is = refl;
    hand =
        let b : is_due resend (last_sending past.removed past.sends) m ≡ true = ap (λ (o : Option ℕ). is_due resend o m) (not_sent_last past.removed past.sends below) in
        let next : IsNext before past.removed (sending past.removed m ∷ past.sends) (high.taken ++ x ∷ []) m (record { number = past.removed; payload = x.payload }) = record {
          number = refl;
          given = x;
          taken_is = ap (λ (l : List Item). l ++ x ∷ []) is;
          payload = refl;
          older = past.sends;
          sends_are = refl;
          older_below = below;
        } in
        subst (λ (z : Bool). IsNext before past.removed (sends_after z) (high.taken ++ x ∷ []) m (record { number = past.removed; payload = x.payload })) (sym b) next;
  }

  -- with a message in the hand that was sent at this very moment: nothing is sent
  stays : (x : Item) (got : Option Item) → 0 < resend → past.hand ≡ Some x → IsNext before past.removed past.sends high.taken m x → TakesUp s on_one_thread after new_low high false past.removed got
      → Leaves after before past.removed high.times past.times (finished resend false (taken_up past got) m) m
  stays x (Some y) some hand h t = absurd (cc)
  stays x None some hand h t =
      let last : last_sending past.removed past.sends ≡ Some m = ap (last_sending past.removed) h.sends_are ∙ sent_last past.removed m h.older in
      let early : nat_le (m + resend) m ≡ false = not_at_most (m + resend) m (omega (arith, some)) in
      let b : is_sent resend false past m ≡ false = ap (λ (z : Option Item × Option ℕ). is_some z.0 && (false || is_due resend z.1 m)) (λ i. (hand i, last i)) ∙ early in
      record {
        high = high;
        stands = t.1;
        times_are = refl;
        past_times_are = refl;
        removed_is = refl;
        hand = subst (λ (z : Bool × Option Item). HandAt before past.removed (sends_after z.0) high.taken m z.1) (λ i. (sym b i, sym hand i)) h;
      }

  leaves_of : (hand : Option Item) (got : Option Item) → 0 < resend → past.removed < 2 ^ 48 → past.hand ≡ hand → HandAt before past.removed past.sends high.taken m hand
      → TakesUp s on_one_thread after new_low high (wants past) past.removed got
      → Leaves after before past.removed high.times past.times (finished resend false (taken_up past got) m) m
  leaves_of None got some small e h t =
      let w : wants past ≡ true = ap (λ (z : Option Item × Bool). not (is_some z.0) && z.1) (λ i. (e i, is_below past.removed (2 ^ 48) small i)) in
      seeks got e h.0 h.1 (subst (λ (b : Bool). TakesUp s on_one_thread after new_low high b past.removed got) w t)
  leaves_of (Some x) got some small e h t =
      let w : wants past ≡ false = ap (λ (z : Option Item). not (is_some z) && nat_lt past.removed (2 ^ 48)) e in
      stays x got some e h (subst (λ (b : Bool). TakesUp s on_one_thread after new_low high b past.removed got) w t)

  pub leaves : (got : Option Item) → 0 < resend → past.removed < 2 ^ 48 → HandAt before past.removed past.sends high.taken m past.hand
      → TakesUp s on_one_thread after new_low high (wants past) past.removed got
      → Leaves after before past.removed high.times past.times (finished resend false (taken_up past got) m) m
  leaves got some small h t = leaves_of past.hand got some small refl h t

-- ---- a look with the TAKEN of the message in the hand ----

-- it publishes the time since the sending
pub time_is : (past : ProcessPast) (m later time : ℕ) (older : List Sending) → later ≡ m + time → time ≤ 10 ^ 9 → length past.times < 2 ^ 32 - 1
    → past.sends ≡ sending past.removed m ∷ older → SentBelow past.removed older → next_time past later ≡ Some time
time_is past m later time older e short few is below =
    let first : first_sending past.removed past.sends ≡ Some m = ap (first_sending past.removed) is ∙ sent_first past.removed m older below in
    ap (λ (z : Bool × Option ℕ). if z.0 then time_since z.1 later else None) (λ i. (is_below (length past.times) (2 ^ 32 - 1) few i, first i))
    ∙ ap Some (omega (arith, e, short))

and_false : (b : Bool) → b && false ≡ false
and_false true = refl
and_false false = refl

pub attaches_nobody : (p : HighProcess) (f : Frame) → f.kind ≡ Taken → attaches_at p (Some f) ≡ false
attaches_nobody p f k = ap (λ (z : Kind). (f.session == (row_of p).id) && is_attach z) k ∙ and_false (f.session == (row_of p).id)

pub removes_hand : (p : HighProcess) (f : Frame) (x : Item) → row_of p ≡ generated_row → f.session ≡ 1 → f.kind ≡ Taken → f.number ≡ removed_of p → hand_of p ≡ Some x → task_at p (Some f) ≡ Remove
removes_hand p f x row session kind number hand =
    let n = removed_of p in
    let same : (f.session == (row_of p).id) ≡ true = eq-eqb f.session (row_of p).id (session ∙ sym (ap (λ (r : SessionRow). r.id) row)) in
    let not_before : nat_lt f.number n ≡ false = not_below f.number n (omega (arith, number)) in
    let next : expected n (hand_of p) ≡ n + 1 = ap (λ (o : Option Item). if is_some o then n + 1 else n) hand in
    let not_after : nat_le (expected n (hand_of p)) f.number ≡ false = not_at_most (expected n (hand_of p)) f.number (omega (arith, number, next)) in
    ap (λ (b : Bool). if b then task_in f.kind f.number n (expected n (hand_of p)) else Keep) same
    ∙ ap (λ (k : Kind). task_in k f.number n (expected n (hand_of p))) kind
    ∙ ap (λ (z : Bool × Bool). if z.0 then Keep else if z.1 then Refuse (Ahead f.number (expected n (hand_of p))) else Remove) (λ i. (not_before i, not_after i))

-- ---- times in turn ----

pub turns_length : (times : List ℕ) (n : ℕ) → length (turns times n) ≡ n
turns_length times zero = refl
turns_length times (suc n) = omega (arith, length-append (turns times n) (turn times n ∷ []), turns_length times n)

suc_is : (n : ℕ) → suc n ≡ n + 1
suc_is n = omega arith

pub turns_more : (times : List ℕ) (n : ℕ) → turns times n ++ turn times n ∷ [] ≡ turns times (n + 1)
turns_more times n = ap (turns times) (suc_is n)

pub turn_is_short : (times : List ℕ) (count n : ℕ) → CanTurn times count → turn times n ≤ 10 ^ 9
turn_is_short times count n can = can.short (n % length times) 0 (mod-lt n can.some)

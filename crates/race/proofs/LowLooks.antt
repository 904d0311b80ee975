-- What one look of the low process does in a race: the state after it, by the state before it.
use Rattle.std.proofs.Common.{◌≡◌, ℕ, ◌+◌, ◌^◌, ◌<◌, ◌≤◌, Bool, true, false, length, Option, Some, None, refl, sym, ap, ◌∙◌, subst, arith, eq-eqb}
use Rattle.std.specs.Prelude.{◌&&◌, not, nat_le, if◌then◌else◌}
use Rattle.pump_frame.specs.declared.frame.Frame.{Frame}
use Rattle.pump_frame.specs.declared.row.SessionRow.{SessionRow}
use Rattle.pump_core.specs.declared.feedback.Feedback.{Feedback}
use Rattle.pump_core.specs.declared.feedback.Feedback.TheVariants.{Quiet, Full, Passed, Released, Repeat}
use Rattle.pump_core.specs.Phases.{Phase}
use Rattle.pump_core.specs.Phases.{Idle, Passing, Waiting as Waits, Down}
use Rattle.pump_core.specs.History.{Look}
use Rattle.pump_core.specs.History.{Nothing, Came}
use Rattle.pump_core.specs.Comings.{is_nothing}
use Rattle.pump_core.specs.Exchanges.{is_repeat, is_next, is_fit, has_average, due}
use Rattle.pump_core.specs.Replies.{acknowledgement, answer}
use Rattle.pump_core.specs.Step.{after_in, reply_in, takes_in, stores_in, FeedbackFits, fits_in, is_quiet, fits_passing, is_full, passed}
use Rattle.pump_core.specs.Standing.{State}
use Rattle.low_process.specs.Looks.{look_of}
use Rattle.pump_frame.specs.declared.frame.Item.{Item}
use Rattle.script_reader.specs.Generated.{generated_row}
use Rattle.race.specs.Messages.{hello_frame, data_frame}
use Rattle.relay_threads.specs.RecordLines.{tells_fault}
use Rattle.race.specs.LowRacers.{goes_on, owed_in}
use Rattle.race.specs.MadeLooks.{is_ack}
use Rattle.race.proofs.HighAsks.{one_if}
use Rattle.race.proofs.Comparisons.{is_below, not_below, is_past}

-- the feedback that a look in this phase has
abbrev pub Hears : Phase → Feedback → Type 0
Hears (Passing owed) Full = Unit {0}
Hears (Passing owed) (Passed seen) = Unit {0}
Hears (Passing owed) _ = ⊥
Hears Idle f = f ≡ Quiet
Hears (Waits n due) f = f ≡ Quiet
Hears Down f = f ≡ Quiet

-- the reply is not of a device that failed
abbrev pub IsFine : Option Frame → Type 0
IsFine None = Unit {0}
IsFine (Some f) = tells_fault (Some f) ≡ false

pub record Went (row : SessionRow) (s : State) (x : Look) (p : Phase) (next : ℕ) (greeted : Bool) (stored : Option ℕ) : Type 0 where
  pub goes : goes_on (after_in row s x p).phase ≡ true
  pub next_is : (after_in row s x p).next ≡ next
  pub greeted_is : (after_in row s x p).greeted ≡ greeted
  pub taken : takes_in x p ≡ not (is_nothing x.arrival)
  pub stored_is : stores_in row s x p ≡ stored
  pub hears : Hears p x.feedback
  pub fine : IsFine (reply_in row s x p)
  pub acked : one_if (is_ack (reply_in row s x p)) + owed_in (after_in row s x p).phase + s.next ≡ next + owed_in p

quiet_is : (f : Feedback) → is_quiet f ≡ true → f ≡ Quiet
quiet_is Quiet e = refl
quiet_is Full e = absurd (cc)
quiet_is (Passed seen) e = absurd (cc)
quiet_is Released e = absurd (cc)
quiet_is (Repeat seen) e = absurd (cc)

-- ---- nothing comes ----

waits_on : (s : State) (b : Bool) → goes_on s.phase ≡ true → (goes_on (if b then record s { phase = Idle } else s).phase ≡ true) × ((if b then record s { phase = Idle } else s).next ≡ s.next) × ((if b then record s { phase = Idle } else s).greeted ≡ s.greeted)
waits_on s true g = (refl, refl, refl)
waits_on s false g = (g, refl, refl)

waits_acked : (s : State) (n : ℕ) (b : Bool) → owed_in s.phase ≡ 1
    → one_if (is_ack (if b then Some (acknowledgement generated_row n) else None)) + owed_in (if b then record s { phase = Idle } else s).phase + s.next ≡ s.next + 1
waits_acked s n true e = omega arith
waits_acked s n false e = omega (arith, e)

acknowledges : (n : ℕ) (b : Bool) → IsFine (if b then Some (acknowledgement generated_row n) else None)
acknowledges n true = refl
acknowledges n false = tt

module _ (s : State) (m w : ℕ) (f : Feedback) (g : goes_on s.phase ≡ true) where
  abbrev nothing : Look
  nothing = look_of m w Nothing false f

  passing : (n : ℕ) (k : Feedback) → s.phase ≡ Passing (Some n) → f ≡ k → fits_passing (Some n) k ≡ true → Went generated_row s nothing (Passing (Some n)) s.next s.greeted None
  passing n Full at e fit =
      let same : after_in generated_row s nothing (Passing (Some n)) ≡ s = ap (λ (k : Feedback). if is_full k then s else record s { phase = passed generated_row nothing (Some n) }) e in
      record {
        goes = ap (λ (q : State). goes_on q.phase) same ∙ g;
        next_is = ap (λ (q : State). q.next) same;
        greeted_is = ap (λ (q : State). q.greeted) same;
        taken = refl;
        stored_is = refl;
        hears = subst (Hears (Passing (Some n))) (sym e) tt;
        fine = tt;
        acked =
            let still : owed_in (after_in generated_row s nothing (Passing (Some n))).phase ≡ 1 = ap (λ (q : State). owed_in q.phase) same ∙ ap owed_in at in
            omega (arith, still);
      }
  passing n (Passed seen) at e fit =
      let same : after_in generated_row s nothing (Passing (Some n)) ≡ record s { phase = passed generated_row nothing (Some n) } = ap (λ (k : Feedback). if is_full k then s else record s { phase = passed generated_row nothing (Some n) }) e in
      record {
        goes = ap (λ (q : State). goes_on q.phase) same;
        next_is = ap (λ (q : State). q.next) same;
        greeted_is = ap (λ (q : State). q.greeted) same;
        taken = refl;
        stored_is = refl;
        hears = subst (Hears (Passing (Some n))) (sym e) tt;
        fine = tt;
        acked =
            let still : owed_in (after_in generated_row s nothing (Passing (Some n))).phase ≡ 1 = ap (λ (q : State). owed_in q.phase) same in
            omega (arith, still);
      }
  passing n Quiet at e fit = absurd (cc)
  passing n Released at e fit = absurd (cc)
  passing n (Repeat seen) at e fit = absurd (cc)

  nothing_in : (p : Phase) → s.phase ≡ p → goes_on p ≡ true → fits_in generated_row s nothing p ≡ true → Went generated_row s nothing p s.next s.greeted None
  nothing_in Idle at on fit =
      let none : owed_in s.phase ≡ 0 = ap owed_in at in
      record { goes = g; next_is = refl; greeted_is = refl; taken = refl; stored_is = refl; hears = quiet_is f fit; fine = tt; acked = omega (arith, none) }
  nothing_in (Passing None) at on fit = absurd (cc)
  nothing_in (Passing (Some n)) at on fit = passing n f at refl fit
  nothing_in (Waits n at) here on fit =
      let k = waits_on s (nat_le at m) g in
      record { goes = k.0; next_is = k.1; greeted_is = k.2; taken = refl; stored_is = refl; hears = quiet_is f fit; fine = acknowledges n (nat_le at m); acked = waits_acked s n (nat_le at m) (ap owed_in here) }
  nothing_in Down at on fit = absurd (cc)

  pub nothing_comes : FeedbackFits generated_row s nothing → Went generated_row s nothing s.phase s.next s.greeted None
  nothing_comes fit = nothing_in s.phase refl g fit

  -- ---- the HELLO comes ----

  abbrev hello : Look
  hello = look_of m w (Came hello_frame) false f

  pub hello_comes : s.phase ≡ Idle → FeedbackFits generated_row s hello → Went generated_row s hello s.phase s.next true None
  hello_comes idle fit =
      let fit' : is_quiet f ≡ true = subst (λ (p : Phase). fits_in generated_row s hello p ≡ true) idle fit in
      let none : owed_in s.phase ≡ 0 = ap owed_in idle in
      subst (λ (p : Phase). Went generated_row s hello p s.next true None) (sym idle)
      (record { goes = g; next_is = refl; greeted_is = refl; taken = refl; stored_is = refl; hears = quiet_is f fit'; fine = refl; acked = omega (arith, none) })

  -- ---- the next message comes ----

  module _ (item : Item) (number : item.number ≡ s.next) (short : length item.payload ≤ 64) (greeted : s.greeted ≡ true) (small : s.next < 2 ^ 48) where
    abbrev data_look : Look
    data_look = look_of m w (Came (data_frame item)) false f

    fit_is : is_fit generated_row s.greeted (data_frame item) ≡ true
    fit_is = ap (λ (z : Bool × Bool). ((true && z.0) && true) && z.1) (λ i. (greeted i, is_past (length item.payload) 64 short i))

    repeat_is : is_repeat generated_row s.next s.greeted (data_frame item) ≡ false
    repeat_is = ap (λ (z : Bool × Bool). z.0 && z.1) (λ i. (fit_is i, not_below item.number s.next (omega (arith, number)) i))

    next_is : is_next generated_row s.next s.greeted (data_frame item) ≡ true
    next_is = ap (λ (z : Bool × Bool × Bool). (z.0 && z.1) && z.2) (λ i. (fit_is i, eq-eqb item.number s.next number i, is_below s.next (2 ^ 48) small i))

    abbrev after_by : Bool → Bool → State
    after_by r t = if r then record s { phase = Waits item.number (due generated_row data_look) } else if t then record s { next = s.next + 1; phase = Passing (Some item.number) } else record s { greeted = s.greeted }

    abbrev stores_by : Bool → Bool → Option ℕ
    stores_by r t = if r then None else if t then Some item.number else None

    abbrev reply_by : Bool → Bool → Option Frame
    reply_by r t = if r then None else if t then None else answer generated_row s.next s.greeted (Came (data_frame item))

    pub data_comes : s.phase ≡ Idle → FeedbackFits generated_row s data_look → Went generated_row s data_look s.phase (s.next + 1) true (Some s.next)
    data_comes idle fit =
        let fit' : (if is_repeat generated_row s.next s.greeted (data_frame item) then has_average f else is_quiet f) ≡ true = subst (λ (p : Phase). fits_in generated_row s data_look p ≡ true) idle fit in
        let quiet : is_quiet f ≡ true = sym (ap (λ (r : Bool). if r then has_average f else is_quiet f) repeat_is) ∙ fit' in
        let same : after_in generated_row s data_look Idle ≡ after_by false true = ap (λ (z : Bool × Bool). after_by z.0 z.1) (λ i. (repeat_is i, next_is i)) in
        subst (λ (p : Phase). Went generated_row s data_look p (s.next + 1) true (Some s.next)) (sym idle)
        (record {
          goes = ap (λ (q : State). goes_on q.phase) same;
          next_is = ap (λ (q : State). q.next) same;
          greeted_is = ap (λ (q : State). q.greeted) same ∙ greeted;
          taken = refl;
          stored_is = ap (λ (z : Bool × Bool). stores_by z.0 z.1) (λ i. (repeat_is i, next_is i)) ∙ ap Some number;
          hears = quiet_is f quiet;
          fine = subst (λ (z : Bool × Bool). IsFine (reply_by z.0 z.1)) (λ i. (sym repeat_is i, sym next_is i)) tt;
          acked =
              let one : owed_in (after_in generated_row s data_look Idle).phase ≡ 1 = ap (λ (q : State). owed_in q.phase) same in
              let none : one_if (is_ack (reply_in generated_row s data_look Idle)) ≡ 0 = ap (λ (z : Bool × Bool). one_if (is_ack (reply_by z.0 z.1))) (λ i. (repeat_is i, next_is i)) in
              omega (arith, one, none);
        })

-- What a step of the low process does with its count, and when it goes down, acknowledges and refuses.
use Rattle.std.proofs.Common.{◌≡◌, ℕ, ◌+◌, ◌<◌, Bool, true, false, cond, List, ◌∷◌, Option, Some, None, refl, sym, ap, ◌∙◌, subst, arith}
use Rattle.std.specs.Prelude.{◌||◌, ◌&&◌, not, ◌==◌, nat_lt, nat_le, if◌then◌else◌, IsTrue, length}
use Rattle.std.proofs.lemmas.Bool.{ltb-true}
use Rattle.pump_frame.specs.declared.row.SessionRow.{SessionRow}
use Rattle.pump_frame.specs.declared.frame.Frame.{Frame}
use Rattle.pump_frame.specs.declared.frame.Kind.{Kind}
use Rattle.pump_frame.specs.declared.frame.Kind.TheVariants.{Ack, Refuse}
use Rattle.pump_core.specs.Phases as phases
use Rattle.pump_core.specs.History.{Arrival, Look}
use Rattle.pump_core.specs.History.{Nothing, Came, Bad, Gone}
use Rattle.pump_core.specs.Exchanges.{is_gone, is_hello, is_data, is_repeat, is_next, permits_frame, due, IsFrame}
use Rattle.pump_core.specs.Replies.{welcome, acknowledgement, refusal, answer_to}
use Rattle.pump_core.specs.Standing.{State}
use Rattle.pump_core.specs.Step.{after, after_idle, passed, is_full, reply_at, reply_idle}
use Rattle.pump_core.proofs.Runs.{not_repeat}
use Rattle.low_process.specs.declared.values.Phase.{Phase}
use Rattle.low_process.specs.declared.values.Phase.TheVariants.{Idle, Passing, Waiting, Down}
use Rattle.low_process.specs.declared.values.Ask.{Ask}
use Rattle.low_process.specs.declared.values.Ask.TheVariants.{Done, Forward, Average}
use Rattle.low_process.specs.declared.process.LowProcess.{LowProcess}
use Rattle.low_process.specs.Hands.{is_hand_of}
use Rattle.low_process.specs.Looks.{phase_of, state_of, look_of, is_down, is_down_in}
use Rattle.low_process.specs.Steps.{StepBegins}
use Rattle.low_process.specs.Storing.{wants, wants_in, wants_idle}
use Rattle.low_process.specs.Whole.{reply_in}

abbrev at : ℕ → Bool → phases.Phase → State
at n g p = record { next = n; greeted = g; phase = p }

abbrev is_down_at : phases.Phase → Bool
is_down_at phases.Down = true
is_down_at _ = false

down_at : (ph : Phase) (hand : ℕ) → is_down_at (phase_of ph hand) ≡ is_down_in ph
down_at Idle hand = refl
down_at (Passing owed) hand = refl
down_at (Waiting n at') hand = refl
down_at Down hand = refl

-- ---- the count ----

-- what follows where a store was wanted, and failed or not
record Tied (n : ℕ) (down w d : Bool) (q : State) : Type 0 where
  pub none : w ≡ false → q.next ≡ n
  pub one : w ≡ true → d ≡ false → q.next ≡ n + 1
  pub lost : d ≡ true → q.next ≡ n
  pub falls : is_down_at q.phase ≡ (down || (w && d))

tied_chosen : (r s d : Bool) (a b c e : State) (n : ℕ) → (s ≡ true → r ≡ false) → a.next ≡ n → is_down_at a.phase ≡ false → b.next ≡ n → is_down_at b.phase ≡ true → c.next ≡ n + 1 → is_down_at c.phase ≡ false → e.next ≡ n → is_down_at e.phase ≡ false → Tied n false s d (cond r a (cond s (cond d b c) e))
tied_chosen true true d a b c e n h ea da eb db ec dc ee de = let f : true ≡ false = h refl in absurd (cc)
tied_chosen true false d a b c e n h ea da eb db ec dc ee de = record { none = λ _. ea; one = λ f. absurd (cc); lost = λ _. ea; falls = da }
tied_chosen false true true a b c e n h ea da eb db ec dc ee de = record { none = λ f. absurd (cc); one = λ _ f. absurd (cc); lost = λ _. eb; falls = db }
tied_chosen false true false a b c e n h ea da eb db ec dc ee de = record { none = λ f. absurd (cc); one = λ _ _. ec; lost = λ f. absurd (cc); falls = dc }
tied_chosen false false d a b c e n h ea da eb db ec dc ee de = record { none = λ _. ee; one = λ f. absurd (cc); lost = λ _. ee; falls = de }

record Stays (n : ℕ) (q : State) : Type 0 where
  next : q.next ≡ n
  up : is_down_at q.phase ≡ false

stays_tied : (n : ℕ) (d : Bool) (q : State) → Stays n q → Tied n false false d q
stays_tied n d q s = record { none = λ _. s.next; one = λ f. absurd (cc); lost = λ _. s.next; falls = s.up }

two : (b c : Bool) (s t u : State) (n : ℕ) → Stays n s → Stays n t → Stays n u → Stays n (cond b s (cond c t u))
two true c s t u n es et eu = es
two false true s t u n es et eu = et
two false false s t u n es et eu = eu

passed_up : (row : SessionRow) (x : Look) (owed : Option ℕ) → is_down_at (passed row x owed) ≡ false
passed_up row x None = refl
passed_up row x (Some k) = refl

module _ (row : SessionRow) (n : ℕ) (g : Bool) (x : Look) where
  tied_idle : (a : Arrival) → Tied n false (wants_idle row n g a) x.is_fault (after_idle row (at n g phases.Idle) x a)
  tied_idle Nothing = stays_tied n x.is_fault (at n g phases.Idle) (record { next = refl; up = refl })
  tied_idle Bad = stays_tied n x.is_fault (at n false phases.Idle) (record { next = refl; up = refl })
  tied_idle Gone = stays_tied n x.is_fault (at n false phases.Idle) (record { next = refl; up = refl })
  tied_idle (Came f) =
      tied_chosen (is_repeat row n g f) (is_next row n g f) x.is_fault
      (at n g (phases.Waiting f.number (due row x))) (at n g phases.Down) (at (n + 1) g (phases.Passing (Some f.number)))
      (at n (cond (is_hello f.kind) (permits_frame row f) g) phases.Idle)
      n (not_repeat row (record { count = 0; is_held = false }) n g f) refl refl refl refl refl refl refl refl

  tied : (ph : Phase) (hand : ℕ) → Tied n (is_down_in ph) (wants_in row n g ph x.arrival) x.is_fault (after row (at n g (phase_of ph hand)) x)
  tied Idle hand = tied_idle x.arrival
  tied Down hand = record { none = λ _. refl; one = λ f. absurd (cc); lost = λ _. refl; falls = refl }
  tied (Waiting k at') hand = stays_tied n x.is_fault _ (two (is_gone x.arrival) (nat_le at' x.moment) (at n false phases.Idle) (at n g phases.Idle) (at n g (phases.Waiting k at')) n (record { next = refl; up = refl }) (record { next = refl; up = refl }) (record { next = refl; up = refl }))
  tied (Passing owed) hand =
      let number : Option ℕ = if owed then Some hand else None in
      stays_tied n x.is_fault _ (two (is_gone x.arrival) (is_full x.feedback) (at n false (phases.Passing None)) (at n g (phases.Passing number)) (at n g (passed row x number)) n (record { next = refl; up = refl }) (record { next = refl; up = refl }) (record { next = refl; up = passed_up row x number }))

-- a repeat begins no store
not_next : (row : SessionRow) (n : ℕ) (g : Bool) (f : Frame) → is_repeat row n g f ≡ true → is_next row n g f ≡ false
not_next row n g f r = elim (is_next row n g f) as (λ b. is_next row n g f ≡ b → is_next row n g f ≡ false) [
  | true ↦ λ e. let no : is_repeat row n g f ≡ false = not_repeat row (record { count = 0; is_held = false }) n g f e in absurd (cc)
  | false ↦ λ e. e
] refl

repeat_wants : (row : SessionRow) (n : ℕ) (g : Bool) (ph : Phase) (hand : ℕ) (a : Arrival) → phase_of ph hand ≡ phases.Idle → IsFrame (is_repeat row n g) a → wants_in row n g ph a ≡ false
repeat_wants row n g Idle hand (Came f) e h = not_next row n g f h
repeat_wants row n g Idle hand Nothing e h = absurd h
repeat_wants row n g Idle hand Bad e h = absurd h
repeat_wants row n g Idle hand Gone e h = absurd h
repeat_wants row n g Down hand a e h = refl
repeat_wants row n g (Waiting k at') hand a e h = refl
repeat_wants row n g (Passing owed) hand a e h = refl

passing_wants : (row : SessionRow) (n : ℕ) (g : Bool) (ph : Phase) (hand : ℕ) (owed : Option ℕ) (a : Arrival) → phase_of ph hand ≡ phases.Passing owed → wants_in row n g ph a ≡ false
passing_wants row n g Idle hand owed a e = absurd (cc)
passing_wants row n g Down hand owed a e = refl
passing_wants row n g (Waiting k at') hand owed a e = refl
passing_wants row n g (Passing o) hand owed a e = refl

asks_tied : (p q : LowProcess) (w d : Bool) → state_of q ≡ state_of p → w ≡ false → Tied p.next (is_down p) w d (state_of q)
asks_tied p q w d same none = record {
  none = λ _. ap (λ t. t.next) same;
  one = λ f. absurd (cc);
  lost = λ _. ap (λ t. t.next) same;
  falls = ap (λ (t : State). is_down_at t.phase) same ∙ down_at p.phase p.hand.number ∙ or_none (is_down p) w d none;
}
  where
    or_none : (b c e : Bool) → c ≡ false → b ≡ (b || (c && e))
    or_none true c e h = refl
    or_none false true e h = absurd (cc)
    or_none false false e h = refl

-- the first half of a look
begin_tied : (p q : LowProcess) (m w : ℕ) (a : Arrival) (d : Bool) (r : Ask) → StepBegins p q m w a d r → Tied p.next (is_down p) (wants p a) d (state_of q)
begin_tied p q m w a d (Done l) step =
    subst (Tied p.next (is_down p) (wants p a) d) (sym step.1.state) (tied p.row p.next p.greeted (look_of m w a d l.feedback) p.phase p.hand.number)
begin_tied p q m w a d (Forward item) step = asks_tied p q (wants p a) d step.1 (passing_wants p.row p.next p.greeted p.phase p.hand.number step.2.0.0 a step.2.0.1)
begin_tied p q m w a d Average step = asks_tied p q (wants p a) d step.0 (repeat_wants p.row p.next p.greeted p.phase p.hand.number a step.1.2.0 step.1.2.1)

-- the count, and whether the process is down, after the first half
pub record Begun (p q : LowProcess) (a : Arrival) (d : Bool) : Type 0 where
  pub none : wants p a ≡ false → q.next ≡ p.next
  pub one : wants p a ≡ true → d ≡ false → q.next ≡ p.next + 1
  pub lost : d ≡ true → q.next ≡ p.next
  pub falls : is_down q ≡ (is_down p || (wants p a && d))

pub begun_so : (p q : LowProcess) (m w : ℕ) (a : Arrival) (d : Bool) (r : Ask) → StepBegins p q m w a d r → Begun p q a d
begun_so p q m w a d r step = let t = begin_tied p q m w a d r step in record { none = t.none; one = t.one; lost = t.lost; falls = sym (down_at q.phase q.hand.number) ∙ t.falls }

-- ---- the replies ----

abbrev is_ack_kind : Kind → Bool
is_ack_kind Ack = true
is_ack_kind _ = false

abbrev is_ack : Option Frame → Bool
is_ack None = false
is_ack (Some f) = is_ack_kind f.kind

-- the code of a refusal, and 0 where there is none
abbrev code_in : Kind → List ℕ → ℕ
code_in Refuse (c ∷ rest) = c
code_in _ _ = 0

abbrev code_of : Option Frame → ℕ
code_of None = 0
code_of (Some f) = code_in f.kind f.payload

-- neither an acknowledgement nor the refusal of a failed store
record Plain (o : Option Frame) : Type 0 where
  no_ack : is_ack o ≡ false
  other : code_of o ≡ 5 → ⊥

plain_if : (b : Bool) (x y : Option Frame) → Plain x → Plain y → Plain (cond b x y)
plain_if true x y hx hy = hx
plain_if false x y hx hy = hy

plain_none : Plain None
plain_none = record { no_ack = refl; other = λ e. absurd (omega (arith, e)) }

module _ (row : SessionRow) (n : ℕ) (g : Bool) where
  plain_welcome : Plain (Some (welcome row n))
  plain_welcome = record { no_ack = refl; other = λ e. absurd (omega (arith, e)) }

  plain_refusal : (code number : ℕ) → (code ≡ 5 → ⊥) → Plain (Some (refusal row code number))
  plain_refusal code number h = record { no_ack = refl; other = h }

  plain_answer : (f : Frame) → Plain (answer_to row n g f)
  plain_answer f =
      plain_if (is_hello f.kind) _ _ (plain_if (permits_frame row f) (Some (welcome row n)) (Some (refusal row 1 0)) plain_welcome (plain_refusal 1 0 (λ e. absurd (omega (arith, e)))))
      (plain_if (not (is_data f.kind) || not g || not (f.session == row.id)) (Some (refusal row 2 0)) _ (plain_refusal 2 0 (λ e. absurd (omega (arith, e))))
      (plain_if (nat_lt row.message (length f.payload)) (Some (refusal row 3 0)) _ (plain_refusal 3 0 (λ e. absurd (omega (arith, e))))
      (plain_if (nat_lt n f.number) (Some (refusal row 4 n)) None (plain_refusal 4 n (λ e. absurd (omega (arith, e)))) plain_none)))

-- a reply in Idle: no acknowledgement, and code 5 only where the device failed
record Idly (d : Bool) (o : Option Frame) : Type 0 where
  no_ack : is_ack o ≡ false
  five : code_of o ≡ 5 → d ≡ true

idly_if : (d b : Bool) (x y : Option Frame) → Idly d x → Idly d y → Idly d (cond b x y)
idly_if d true x y hx hy = hx
idly_if d false x y hx hy = hy

idly : (d : Bool) (o : Option Frame) → Plain o → Idly d o
idly d o p = record { no_ack = p.no_ack; five = λ e. absurd (p.other e) }

idly_lost : (row : SessionRow) (d : Bool) → Idly d (cond d (Some (refusal row 5 0)) None)
idly_lost row true = record { no_ack = refl; five = λ _. refl }
idly_lost row false = idly false None plain_none

idly_replies : (row : SessionRow) (n : ℕ) (g : Bool) (x : Look) (a : Arrival) → Idly x.is_fault (reply_idle row (at n g phases.Idle) x a)
idly_replies row n g x Nothing = idly x.is_fault None plain_none
idly_replies row n g x Bad = idly x.is_fault (Some (refusal row 2 0)) (plain_refusal row n g 2 0 (λ e. absurd (omega (arith, e))))
idly_replies row n g x Gone = idly x.is_fault None plain_none
idly_replies row n g x (Came f) =
    idly_if x.is_fault (is_repeat row n g f) None _ (idly x.is_fault None plain_none)
    (idly_if x.is_fault (is_next row n g f) _ _ (idly_lost row x.is_fault) (idly x.is_fault (answer_to row n g f) (plain_answer row n g f)))

abbrev number_of : Option Frame → ℕ
number_of None = 0
number_of (Some f) = f.number

-- what is acknowledged was stored, and the process is up and counts on
pub record Acknowledges (j n : ℕ) (q : State) : Type 0 where
  pub below : j < n
  pub next : q.next ≡ n
  pub up : is_down_at q.phase ≡ false

waited : (row : SessionRow) (b c : Bool) (k j n at' : ℕ) (g : Bool) → k < n → cond b None (cond c (Some (acknowledgement row k)) None) ≡ Some (acknowledgement row j)
    → Acknowledges j n (cond b (at n false phases.Idle) (cond c (at n g phases.Idle) (at n g (phases.Waiting k at'))))
waited row true c k j n at' g lt e = absurd (cc)
waited row false false k j n at' g lt e = absurd (cc)
waited row false true k j n at' g lt e = let same : k ≡ j = ap number_of e in record { below = omega (arith, lt, same); next = refl; up = refl }

acknowledges : (row : SessionRow) (n : ℕ) (g : Bool) (ph : Phase) (hand : ℕ) (x : Look) (j : ℕ) → IsTrue (is_hand_of n ph hand) → reply_at row (at n g (phase_of ph hand)) x ≡ Some (acknowledgement row j) → Acknowledges j n (after row (at n g (phase_of ph hand)) x)
acknowledges row n g Idle hand x j h e =
    let no : is_ack (reply_idle row (at n g phases.Idle) x x.arrival) ≡ false = (idly_replies row n g x x.arrival).no_ack in
    let yes : is_ack (reply_idle row (at n g phases.Idle) x x.arrival) ≡ true = ap is_ack e in absurd (cc)
acknowledges row n g Down hand x j h e = absurd (cc)
acknowledges row n g (Passing owed) hand x j h e = absurd (cc)
acknowledges row n g (Waiting k at') hand x j h e = waited row (is_gone x.arrival) (nat_le at' x.moment) k j n at' g (ltb-true k n h) e

-- an acknowledgement of the first half of a look
pub acknowledges_so : (p q : LowProcess) (m w : ℕ) (a : Arrival) (d : Bool) (r : Ask) (j : ℕ) → StepBegins p q m w a d r → reply_in r ≡ Some (acknowledgement p.row j) → (j < q.next) × (is_down q ≡ false)
acknowledges_so p q m w a d (Forward item) j step e = absurd (cc)
acknowledges_so p q m w a d Average j step e = absurd (cc)
acknowledges_so p q m w a d (Done l) j step e =
    let s = step.1 in
    let k = acknowledges p.row p.next p.greeted p.phase p.hand.number (look_of m w a d l.feedback) j p.in_hand (sym s.reply ∙ e) in
    (omega (arith, k.below, k.next, ap (λ (t : State). t.next) s.state), sym (down_at q.phase q.hand.number) ∙ ap (λ (t : State). is_down_at t.phase) s.state ∙ k.up)

waiting_five : (row : SessionRow) (b c d : Bool) (k : ℕ) → cond b None (cond c (Some (acknowledgement row k)) None) ≡ Some (refusal row 5 0) → d ≡ true
waiting_five row true c d k e = absurd (cc)
waiting_five row false true d k e = let no : is_ack (Some (acknowledgement row k)) ≡ is_ack (Some (refusal row 5 0)) = ap is_ack e in absurd (cc)
waiting_five row false false d k e = absurd (cc)

fives : (row : SessionRow) (n : ℕ) (g : Bool) (ph : Phase) (hand : ℕ) (x : Look) → reply_at row (at n g (phase_of ph hand)) x ≡ Some (refusal row 5 0) → x.is_fault ≡ true
fives row n g Idle hand x e = (idly_replies row n g x x.arrival).five (ap code_of e)
fives row n g Down hand x e = absurd (cc)
fives row n g (Passing owed) hand x e = absurd (cc)
fives row n g (Waiting k at') hand x e = waiting_five row (is_gone x.arrival) (nat_le at' x.moment) x.is_fault k e

-- a refusal with code 5 in the first half of a look
pub refuses_so : (p q : LowProcess) (m w : ℕ) (a : Arrival) (d : Bool) (r : Ask) → StepBegins p q m w a d r → reply_in r ≡ Some (refusal p.row 5 0) → d ≡ true
refuses_so p q m w a d (Forward item) step e = absurd (cc)
refuses_so p q m w a d Average step e = absurd (cc)
refuses_so p q m w a d (Done l) step e = fives p.row p.next p.greeted p.phase p.hand.number (look_of m w a d l.feedback) (sym step.1.reply ∙ e)

silent : (row : SessionRow) (n : ℕ) (g : Bool) (ph : Phase) (hand : ℕ) (x : Look) → is_down_in ph ≡ true → reply_at row (at n g (phase_of ph hand)) x ≡ None
silent row n g Down hand x e = refl
silent row n g Idle hand x e = absurd (cc)
silent row n g (Passing owed) hand x e = absurd (cc)
silent row n g (Waiting k at') hand x e = absurd (cc)

-- A low look that begins to store a message.
use Rattle.std.proofs.Common.{◌≡◌, ℕ, ◌≤◌, Bool, true, false, cond, List, length, Some, None, refl, sym, ap, ◌∙◌, subst}
use Rattle.std.specs.Prelude.{◌==◌, ◌&&◌, ◌^◌, nat_lt, nat_le, option_to_list}
use Rattle.std.proofs.lemmas.Bool.{and_parts, leb-true}
use Rattle.pump_frame.specs.declared.row.SessionRow.{SessionRow}
use Rattle.pump_frame.specs.declared.frame.Frame.{Frame}
use Rattle.pump_frame.specs.declared.frame.Item.{Item}
use Rattle.pump_core.specs.declared.feedback.Feedback.{Feedback}
use Rattle.pump_core.specs.Phases as phases
use Rattle.pump_core.specs.History.{Arrival}
use Rattle.pump_core.specs.History.{Nothing, Came, Bad, Gone}
use Rattle.pump_core.specs.Exchanges.{is_data, is_fit, is_repeat, is_next, has_average}
use Rattle.pump_core.specs.Replies.{refusal}
use Rattle.pump_core.specs.Step.{FeedbackFits, is_quiet, reply_at, stores_at}
use Rattle.pump_core.proofs.Runs.{not_repeat}
use Rattle.low_process.specs.declared.values.Phase.{Phase}
use Rattle.low_process.specs.declared.values.Phase.TheVariants.{Idle, Passing, Waiting as Waits, Down}
use Rattle.low_process.specs.declared.process.LowProcess.{LowProcess}
use Rattle.low_process.specs.Looks.{row_of, state_of, phase_of, hand_of, hand_in, look_of}
use Rattle.low_process.specs.Storing.{wants, wants_in, message_of, message_in}
use Rattle.two_worlds.proofs.Low.Sorts.{at}
use Rattle.two_worlds.proofs.Low.Grows.{payloads}

-- a message that is to be stored came in a frame
pub record Taking (p : LowProcess) (a : Arrival) (message : List ℕ) : Type 0 where
  pub frame : Frame
  pub comes : a ≡ Came frame
  pub is_message : message ≡ frame.payload
  pub wanted : wants p (Came frame) ≡ true

some_is : (xs ys : List ℕ) → Some xs ≡ Some ys → ys ≡ xs
some_is xs ys e = cc

taking_by : (p : LowProcess) (a : Arrival) (b : Bool) (message : List ℕ) → wants p a ≡ b → message_of b a ≡ Some message → Taking p a message
taking_by p a false message w e = absurd (cc)
taking_by p (Came f) true message w e = record { frame = f; comes = refl; is_message = some_is f.payload message e; wanted = w }
taking_by p Nothing true message w e = absurd (cc)
taking_by p Bad true message w e = absurd (cc)
taking_by p Gone true message w e = absurd (cc)

pub taking : (p : LowProcess) (a : Arrival) (message : List ℕ) → message_in p a ≡ Some message → Taking p a message
taking p a message e = taking_by p a (wants p a) message refl e

-- ---- by the phase ----

-- the process is idle, and the frame the next one
idle_next : (row : SessionRow) (n : ℕ) (g : Bool) (ph : Phase) (hand : ℕ) (f : Frame) → wants_in row n g ph (Came f) ≡ true → (phase_of ph hand ≡ phases.Idle) × (is_next row n g f ≡ true)
idle_next row n g Idle hand f e = (refl, e)
idle_next row n g Down hand f e = absurd (cc)
idle_next row n g (Waits k due) hand f e = absurd (cc)
idle_next row n g (Passing owed) hand f e = absurd (cc)

empty_in : (row : SessionRow) (n : ℕ) (g : Bool) (ph : Phase) (hand : Item) (f : Frame) → wants_in row n g ph (Came f) ≡ true → hand_in ph hand ≡ None
empty_in row n g Idle hand f e = refl
empty_in row n g Down hand f e = absurd (cc)
empty_in row n g (Waits k due) hand f e = absurd (cc)
empty_in row n g (Passing owed) hand f e = absurd (cc)

-- what a look stores, where the device is fine
chosen_payloads : (r s : Bool) (f : Frame) → (s ≡ true → r ≡ false) → payloads (cond r None (cond s (Some f.number) None)) (Came f) ≡ option_to_list (message_of s (Came f))
chosen_payloads true true f other = let x = other refl in absurd (cc)
chosen_payloads true false f other = refl
chosen_payloads false true f other = refl
chosen_payloads false false f other = refl

stored_in : (row : SessionRow) (n : ℕ) (g : Bool) (ph : Phase) (hand m w : ℕ) (a : Arrival) (b : Feedback)
    → payloads (stores_at row (at n g (phase_of ph hand)) (look_of m w a false b)) a ≡ option_to_list (message_of (wants_in row n g ph a) a)
stored_in row n g Idle hand m w (Came f) b = chosen_payloads (is_repeat row n g f) (is_next row n g f) f (not_repeat row (record { count = 0; is_held = false }) n g f)
stored_in row n g Idle hand m w Nothing b = refl
stored_in row n g Idle hand m w Bad b = refl
stored_in row n g Idle hand m w Gone b = refl
stored_in row n g Down hand m w a b = refl
stored_in row n g (Waits k due) hand m w a b = refl
stored_in row n g (Passing owed) hand m w a b = refl

-- a look whose device failed says this
pub record Refuses (row : SessionRow) (p : LowProcess) (m w : ℕ) (f : Frame) (b : Feedback) : Type 0 where
  pub quiet : is_quiet b ≡ true
  pub stored : stores_at row (state_of p) (look_of m w (Came f) true b) ≡ None
  pub reply : reply_at row (state_of p) (look_of m w (Came f) true b) ≡ Some (refusal row 5 0)

abbrev Says : SessionRow → ℕ → Bool → phases.Phase → ℕ → ℕ → Frame → Feedback → Type 0
Says row n g ph m w f b =
    FeedbackFits row (at n g ph) (look_of m w (Came f) true b)
    → (is_quiet b ≡ true)
    × (stores_at row (at n g ph) (look_of m w (Came f) true b) ≡ None)
    × (reply_at row (at n g ph) (look_of m w (Came f) true b) ≡ Some (refusal row 5 0))

says_idle : (row : SessionRow) (n : ℕ) (g : Bool) (m w : ℕ) (f : Frame) (b : Feedback) → is_next row n g f ≡ true → Says row n g phases.Idle m w f b
says_idle row n g m w f b e fit =
    let r : is_repeat row n g f ≡ false = not_repeat row (record { count = 0; is_held = false }) n g f e in
    (sym (ap (λ (t : Bool). cond t (has_average b) (is_quiet b)) r) ∙ fit, rw r (rw e refl), rw (r, e) refl)

says_in : (row : SessionRow) (n : ℕ) (g : Bool) (ph : Phase) (hand m w : ℕ) (f : Frame) (b : Feedback) → wants_in row n g ph (Came f) ≡ true → Says row n g (phase_of ph hand) m w f b
says_in row n g Idle hand m w f b e = says_idle row n g m w f b e
says_in row n g Down hand m w f b e = absurd (cc)
says_in row n g (Waits k due) hand m w f b e = absurd (cc)
says_in row n g (Passing owed) hand m w f b e = absurd (cc)

-- ---- of a process ----

pub stored_is : (p : LowProcess) (m w : ℕ) (a : Arrival) (b : Feedback) → payloads (stores_at (row_of p) (state_of p) (look_of m w a false b)) a ≡ option_to_list (message_in p a)
stored_is p m w a b = stored_in p.row p.next p.greeted p.phase p.hand.number m w a b

module _ (p : LowProcess) (a : Arrival) (message : List ℕ) (t : Taking p a message) where
  pub hand_is_empty : hand_of p ≡ None
  hand_is_empty = empty_in p.row p.next p.greeted p.phase p.hand t.frame t.wanted

  pub is_idle_now : (state_of p).phase ≡ phases.Idle
  is_idle_now = (idle_next p.row p.next p.greeted p.phase p.hand.number t.frame t.wanted).0

  pub comes_next : is_next (row_of p) (state_of p).next (state_of p).greeted t.frame ≡ true
  comes_next = (idle_next p.row p.next p.greeted p.phase p.hand.number t.frame t.wanted).1

  -- it is no longer than the row's messages
  pub is_short : length message ≤ (row_of p).message
  is_short =
      let row = row_of p in
      let f = t.frame in
      let n = (state_of p).next in
      let fit = (and_parts (is_fit row (state_of p).greeted f) (f.number == n) (and_parts (is_fit row (state_of p).greeted f && f.number == n) (nat_lt n (2 ^ 48)) comes_next).0).0 in
      subst (λ (k : List ℕ). length k ≤ row.message) (sym t.is_message)
      (leb-true (length f.payload) row.message (and_parts (is_data f.kind && (state_of p).greeted && f.session == row.id) (nat_le (length f.payload) row.message) fit).1)

  pub refuses : (m w : ℕ) (b : Feedback) → FeedbackFits (row_of p) (state_of p) (look_of m w (Came t.frame) true b) → Refuses (row_of p) p m w t.frame b
  refuses m w b fit =
      let r = says_in p.row p.next p.greeted p.phase p.hand.number m w t.frame b t.wanted fit in
      record { quiet = r.0; stored = r.1; reply = r.2 }

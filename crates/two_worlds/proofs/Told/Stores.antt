-- What becomes of a disk in memory in a low look: its call fails exactly where it is armed.
use Rattle.std.proofs.Common.{◌≡◌, ℕ, ◌+◌, ◌≤◌, Bool, true, false, List, length, refl, sym, ap, ◌∙◌, subst, arith}
use Rattle.std.specs.Prelude.{◌==◌, ◌&&◌, ◌^◌, nat_lt, nat_le, not, IsOk, IsErr}
use Rattle.std.proofs.lemmas.Bool.{and_parts, leb-true}
use Rattle.disk_model.specs.Plain.{Plain, plain_meaning}
use Rattle.pump_frame.specs.declared.frame.Frame.{Frame}
use Rattle.pump_frame.specs.declared.row.SessionRow.{SessionRow}
use Rattle.pump_core.specs.History.{Arrival}
use Rattle.pump_core.specs.History.{Nothing, Came, Bad, Gone}
use Rattle.pump_core.specs.History.{Opening}
use Rattle.pump_core.specs.Exchanges.{is_data, is_fit, is_next, Part, count_after, greeted_after}
use Rattle.pump_core.specs.Standing.{State, end_of}
use Rattle.stable_buffer.specs.Low.{low_disk, low_count, low_row}
use Rattle.stable_buffer.specs.Stands.{low_size, slot_of, slot_end}
use Rattle.stable_buffer.specs.declared.low.LowStore.{LowStore}
use Rattle.stable_buffer.proofs.Slots.{slot_within_low}
use Rattle.low_process.specs.declared.values.Phase.{Phase}
use Rattle.low_process.specs.declared.values.Phase.TheVariants.{Idle, Passing, Waiting as Waits, Down}
use Rattle.low_process.specs.declared.process.LowProcess.{LowProcess}
use Rattle.low_process.specs.Looks.{row_of, state_of, phase_of}
use Rattle.low_process.specs.Storing.{wants, wants_in, message_of, message_in, outcome, Storing, StoreStep}
use Rattle.low_process.specs.Whole.{IsStoreOf}
use Rattle.script_reader.specs.Alone.{comes_next, begins_store}
use Rattle.pump_core.proofs.MayTake.{is_idle, may_take_is}

-- ---- a look that begins to store ----

wants_in_is : (row : SessionRow) (n : ℕ) (g : Bool) (ph : Phase) (hand : ℕ) (a : Arrival) → wants_in row n g ph a ≡ (is_idle (phase_of ph hand) && comes_next row n g a)
wants_in_is row n g Idle hand Nothing = refl
wants_in_is row n g Idle hand Bad = refl
wants_in_is row n g Idle hand Gone = refl
wants_in_is row n g Idle hand (Came f) = refl
wants_in_is row n g (Passing owed) hand a = refl
wants_in_is row n g (Waits k due) hand a = refl
wants_in_is row n g Down hand a = refl

abbrev stores_in : SessionRow → Arrival → State → Bool
stores_in row a s = is_idle s.phase && comes_next row s.next s.greeted a

-- the process begins to store exactly where its past says so
pub begins_is : (p : LowProcess) (o : Opening) (before : List Part) (a : Arrival) → state_of p ≡ end_of (row_of p) o before → begins_store (row_of p) o before a ≡ wants p a
begins_is p o before a same =
    ap (λ b. b && comes_next (row_of p) (count_after o before) (greeted_after (row_of p) before) a) (may_take_is (row_of p) o before)
    ∙ ap (stores_in (row_of p) a) (sym same)
    ∙ sym (wants_in_is p.row p.next p.greeted p.phase p.hand.number a)

-- what is stored is no longer than the row's messages
next_is_short : (row : SessionRow) (n : ℕ) (g : Bool) (f : Frame) → is_next row n g f ≡ true → length f.payload ≤ row.message
next_is_short row n g f e =
    let fit = (and_parts (is_fit row g f) (f.number == n) (and_parts (is_fit row g f && f.number == n) (nat_lt n (2 ^ 48)) e).0).0 in
    leb-true (length f.payload) row.message (and_parts (is_data f.kind && g && f.session == row.id) (nat_le (length f.payload) row.message) fit).1

wanted_is_short : (row : SessionRow) (n : ℕ) (g : Bool) (ph : Phase) (f : Frame) → wants_in row n g ph (Came f) ≡ true → length f.payload ≤ row.message
wanted_is_short row n g Idle f e = next_is_short row n g f e
wanted_is_short row n g (Passing owed) f e = absurd (cc)
wanted_is_short row n g (Waits k due) f e = absurd (cc)
wanted_is_short row n g Down f e = absurd (cc)

never_wanted : (row : SessionRow) (n : ℕ) (g : Bool) (ph : Phase) (a : Arrival) → comes_next row n g a ≡ false → wants_in row n g ph a ≡ false
never_wanted row n g Idle a e = wants_in_is row n g Idle 0 a ∙ e
never_wanted row n g (Passing owed) a e = refl
never_wanted row n g (Waits k due) a e = refl
never_wanted row n g Down a e = refl

-- ---- its outcome ----

-- a call was made or not, and failed exactly where the disk was armed
pub record Serves (called : Bool) (old new : Plain) (is_fault : Bool) : Type 0 where
  pub outcome_is : is_fault ≡ (called && old.armed)
  pub armed : new.armed ≡ (not called && old.armed)
  pub room : new.room ≡ old.room

failed : (is_fault : Bool) → IsErr (outcome is_fault) → is_fault ≡ true
failed true e = refl
failed false e = absurd (cc)

went : (is_fault : Bool) → IsOk (outcome is_fault) → is_fault ≡ false
went false e = refl
went true e = absurd (cc)

module _ (p : LowProcess) (old new : LowStore Plain) (is_fault : Bool) (of : IsStoreOf plain_meaning p old) (room : low_size (row_of p) ≤ (low_disk old).room) where
  -- a message that is no longer than the row's fits
  fits : (message : List ℕ) → length message ≤ (row_of p).message → slot_end (low_row old) (low_count old) message ≤ (low_disk old).room
  fits message short =
      let row = low_row old in
      let r : low_row old ≡ row_of p = of.row in
      let within : slot_of row (low_count old) + (2 + row.message) ≤ low_size row = slot_within_low row (low_count old) of.ready.ranges.some in
      let short' : length message ≤ row.message = subst (λ (t : SessionRow). length message ≤ t.message) (sym r) short in
      let room' : low_size row ≤ (low_disk old).room = subst (λ (t : SessionRow). low_size t ≤ (low_disk old).room) (sym r) room in
      omega (arith, within, short', room')

  outcome_by : (armed : Bool) → (low_disk old).armed ≡ armed → (message : List ℕ) → length message ≤ (row_of p).message → Storing plain_meaning message old new is_fault → is_fault ≡ armed
  outcome_by true e message short s = failed is_fault (s.answers.always tt e)
  outcome_by false e message short s = went is_fault (s.answers.never tt e (fits message short))

  serves_in : (a : Arrival) (b : Bool) → wants p a ≡ b → StoreStep plain_meaning (message_of b a) old new is_fault → Serves b (low_disk old) (low_disk new) is_fault
  serves_in a false e keeps = record {
    outcome_is = keeps.0;
    armed = ap (λ (s : LowStore Plain). (low_disk s).armed) keeps.1;
    room = ap (λ (s : LowStore Plain). (low_disk s).room) keeps.1;
  }
  serves_in (Came f) true e keeps = record {
    outcome_is = outcome_by (low_disk old).armed refl f.payload (wanted_is_short p.row p.next p.greeted p.phase f e) keeps;
    armed = keeps.answers.disarmed tt;
    room = keeps.answers.room tt;
  }
  serves_in Nothing true e keeps = let no = never_wanted p.row p.next p.greeted p.phase Nothing refl in absurd (cc)
  serves_in Bad true e keeps = let no = never_wanted p.row p.next p.greeted p.phase Bad refl in absurd (cc)
  serves_in Gone true e keeps = let no = never_wanted p.row p.next p.greeted p.phase Gone refl in absurd (cc)

  pub serves : (a : Arrival) → StoreStep plain_meaning (message_in p a) old new is_fault → Serves (wants p a) (low_disk old) (low_disk new) is_fault
  serves a keeps = serves_in a (wants p a) refl keeps

-- A low look over a disk in memory that cannot fail.
use Rattle.std.proofs.Common.{◌≡◌, ℕ, ◌+◌, ◌≤◌, Bool, true, false, List, length, Option, Some, None, refl, sym, ap, ◌∙◌, subst, arith}
use Rattle.std.specs.Prelude.{◌==◌, ◌&&◌, ◌^◌, nat_lt, nat_le, IsOk}
use Rattle.std.proofs.lemmas.Bool.{and_parts, leb-true}
use Rattle.disk_model.specs.Plain.{Plain, plain_meaning}
use Rattle.pump_frame.specs.declared.frame.Frame.{Frame}
use Rattle.pump_frame.specs.declared.row.SessionRow.{SessionRow}
use Rattle.pump_core.specs.History.{Arrival}
use Rattle.pump_core.specs.History.{Nothing, Came, Bad, Gone}
use Rattle.pump_core.specs.Exchanges.{is_data, is_fit, is_next}
use Rattle.stable_buffer.specs.Low.{low_disk, low_count, low_row}
use Rattle.stable_buffer.specs.Stands.{low_size, slot_of, slot_end}
use Rattle.stable_buffer.specs.declared.low.LowStore.{LowStore}
use Rattle.stable_buffer.proofs.Slots.{slot_within_low}
use Rattle.low_process.specs.declared.values.Phase.{Phase}
use Rattle.low_process.specs.declared.values.Phase.TheVariants.{Idle, Passing, Waiting as Waits, Down}
use Rattle.low_process.specs.declared.process.LowProcess.{LowProcess}
use Rattle.low_process.specs.Looks.{row_of}
use Rattle.low_process.specs.Storing.{wants, wants_in, message_of, message_in, outcome, StoreStep}
use Rattle.low_process.specs.Whole.{IsStoreOf}

-- what is stored is no longer than the row's messages
next_is_short : (row : SessionRow) (n : ℕ) (g : Bool) (f : Frame) → is_next row n g f ≡ true → length f.payload ≤ row.message
next_is_short row n g f e =
    let fit = (and_parts (is_fit row g f) (f.number == n) (and_parts (is_fit row g f && f.number == n) (nat_lt n (2 ^ 48)) e).0).0 in
    leb-true (length f.payload) row.message (and_parts (is_data f.kind && g && f.session == row.id) (nat_le (length f.payload) row.message) fit).1

abbrev payload_or : List ℕ → Option (List ℕ) → List ℕ
payload_or other None = other
payload_or other (Some message) = message

message_is_short : (row : SessionRow) (n : ℕ) (g : Bool) (ph : Phase) (a : Arrival) (b : Bool) (message : List ℕ) → wants_in row n g ph a ≡ b → message_of b a ≡ Some message → length message ≤ row.message
message_is_short row n g Idle (Came f) true message e is = subst (λ (o : Option (List ℕ)). length (payload_or f.payload o) ≤ row.message) is (next_is_short row n g f e)
message_is_short row n g Idle (Came f) false message e is = absurd (cc)
message_is_short row n g Idle Nothing true message e is = absurd (cc)
message_is_short row n g Idle Nothing false message e is = absurd (cc)
message_is_short row n g Idle Bad true message e is = absurd (cc)
message_is_short row n g Idle Bad false message e is = absurd (cc)
message_is_short row n g Idle Gone true message e is = absurd (cc)
message_is_short row n g Idle Gone false message e is = absurd (cc)
message_is_short row n g (Passing owed) a true message e is = absurd (cc)
message_is_short row n g (Passing owed) a false message e is = absurd (cc)
message_is_short row n g (Waits k due) a true message e is = absurd (cc)
message_is_short row n g (Waits k due) a false message e is = absurd (cc)
message_is_short row n g Down a true message e is = absurd (cc)
message_is_short row n g Down a false message e is = absurd (cc)

-- no call failed, and none can fail from here on
pub record StaysCalm (old new : Plain) (is_fault : Bool) : Type 0 where
  pub fine : is_fault ≡ false
  pub calm : new.armed ≡ false
  pub room : new.room ≡ old.room

went : (is_fault : Bool) → IsOk (outcome is_fault) → is_fault ≡ false
went false e = refl
went true e = absurd (cc)

module _ (p : LowProcess) (old new : LowStore Plain) (is_fault : Bool) (of : IsStoreOf plain_meaning p old) (room : low_size (row_of p) ≤ (low_disk old).room) (calm : (low_disk old).armed ≡ false) where
  -- a message that is no longer than the row's fits
  fits : (message : List ℕ) → length message ≤ (row_of p).message → slot_end (low_row old) (low_count old) message ≤ (low_disk old).room
  fits message short =
      let row = low_row old in
      let r : low_row old ≡ row_of p = of.row in
      let within : slot_of row (low_count old) + (2 + row.message) ≤ low_size row = slot_within_low row (low_count old) of.ready.ranges.some in
      let short' : length message ≤ row.message = subst (λ (t : SessionRow). length message ≤ t.message) (sym r) short in
      let room' : low_size row ≤ (low_disk old).room = subst (λ (t : SessionRow). low_size t ≤ (low_disk old).room) (sym r) room in
      omega (arith, within, short', room')

  by_message : (message : Option (List ℕ)) → ((bytes : List ℕ) → message ≡ Some bytes → length bytes ≤ (row_of p).message) → StoreStep plain_meaning message old new is_fault → StaysCalm (low_disk old) (low_disk new) is_fault
  by_message None short step = record {
    fine = step.0;
    calm = ap (λ (s : LowStore Plain). (low_disk s).armed) step.1 ∙ calm;
    room = ap (λ (s : LowStore Plain). (low_disk s).room) step.1;
  }
  by_message (Some message) short step = record {
    fine = went is_fault (step.answers.never tt calm (fits message (short message refl)));
    calm = step.answers.disarmed tt;
    room = step.answers.room tt;
  }

  pub stays_calm : (a : Arrival) → StoreStep plain_meaning (message_in p a) old new is_fault → StaysCalm (low_disk old) (low_disk new) is_fault
  stays_calm a step = by_message (message_in p a) (λ bytes e. message_is_short p.row p.next p.greeted p.phase a (wants p a) bytes refl e) step

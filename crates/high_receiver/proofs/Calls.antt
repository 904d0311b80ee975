-- The calls of a receiver, one after another.
use Rattle.std.proofs.Common.{◌≡◌, inl, ℕ, ◌+◌, ◌≤◌, List, length}
use Rattle.disk_model.specs.Disk.{Meaning, Moves, Each, Settled, Leaves}
use Rattle.disk_model.proofs.Run.{weaker, goes_on, each_settled, each_both, leaves}
use Rattle.pump_frame.specs.declared.row.SessionRow.{SessionRow}
use Rattle.stable_buffer.specs.Log.{RecvStands}
use Rattle.stable_buffer.specs.Register.{SameOutside, value_of, KeepsValue, MayTurnTo, Selects}
use Rattle.stable_buffer.proofs.Cells.{value-selects}
use Rattle.high_receiver.specs.Steps.{LogStandsOn, MayTake, TakesMessage, StandsOrTakes}
use Rattle.high_receiver.proofs.Appends.{StandsAt, register_on, register_takes, at_stays, turn_takes}

module _ {D : Type 0} (m : Meaning D) (row : SessionRow) (message : List ℕ) where
  nothing : (d : D) → Each m (λ c. Unit {0}) d
  nothing d = record { reading = λ told. tt; images = λ told c is. tt }

  on_takes : (c d : List ℕ) → LogStandsOn row c d → MayTake row message c d
  on_takes c d on = record { either = λ messages stands. inl (on.same messages stands) }

  pub so_far : (old new : D) → Moves m (LogStandsOn row) old new → Moves m (MayTake row message) old new
  so_far old new moved = weaker m (λ c. Unit {0}) (LogStandsOn row) (MayTake row message) old new (nothing old) (λ c d _ on. on_takes c d on) moved

  pub staged : (old mid new : D) → Moves m (LogStandsOn row) old mid → Moves m KeepsValue mid new → Moves m (LogStandsOn row) old new
  staged old mid new wrote stage =
      goes_on m (λ c. Unit {0}) (LogStandsOn row) KeepsValue (LogStandsOn row) old mid new (nothing old) (λ c d _ on. on)
      (λ c d e _ on keeps. record { same = λ messages stands. (register_on row d e keeps).same messages (on.same messages stands) })
      wrote stage

  -- the record is on the disk once the cell is
  pub at_settled : (at : ℕ) (mid new : D) → 80 ≤ at → (m.tells → StandsAt at message (m.reading mid)) → Moves m KeepsValue mid new → Settled m new → Each m (StandsAt at message) new
  at_settled at mid new le has stage settled = each_settled m (StandsAt at message) new settled
      (λ told. at_stays at message (m.reading mid) (m.reading new) le (let keeps = stage.reads told in keeps.outside) (has told))

  pub turned : (parity first second : ℕ) (mid new : D) → length message ≤ row.message → row.message ≤ 1024 → Each m (Selects parity first second) mid → Each m (StandsAt second message) mid
      → Moves m (MayTurnTo (first + 1, second + 2 + length message)) mid new → Moves m (MayTake row message) mid new
  turned parity first second mid new fits short selects has moved =
      weaker m (λ d. Selects parity first second d × StandsAt second message d) (MayTurnTo (first + 1, second + 2 + length message)) (MayTake row message) mid new
      (each_both m (Selects parity first second) (StandsAt second message) mid selects has)
      (λ a b is turn. turn_takes row parity first second message a b fits short is.0 is.1 turn) moved

  pub stored : (old mid new : D) → Moves m (LogStandsOn row) old mid → Moves m (MayTake row message) mid new → Moves m (MayTake row message) old new
  stored old mid new first second =
      goes_on m (λ c. Unit {0}) (LogStandsOn row) (MayTake row message) (MayTake row message) old mid new (nothing old)
      (λ c d _ on. on_takes c d on) (λ c d e _ on may. record { either = λ messages stands. may.either messages (on.same messages stands) }) first second

  -- the reading once all is written
  pub taken : (parity first second : ℕ) (old mid new : List ℕ) → length message ≤ row.message → row.message ≤ 1024 → Selects parity first second mid → LogStandsOn row old mid → StandsAt second message mid
      → SameOutside mid new → value_of new ≡ (first + 1, second + 2 + length message) → TakesMessage row message old new
  taken parity first second old mid new fits short selects on has outside value = record {
    more = λ messages stands. register_takes row messages first second message mid new fits short (value-selects parity first second mid selects) outside value has (on.same messages stands);
  }

  -- what a crash at any moment since the start leaves
  pub stored_during : (messages : List (List ℕ)) (old new : D) → Settled m old → RecvStands row messages (m.reading old)
      → Moves m (MayTake row message) old new → Leaves m old new (StandsOrTakes row messages message)
  stored_during messages old new settled stands moved =
      leaves m (RecvStands row messages) (StandsOrTakes row messages message) (MayTake row message) old new
      (each_settled m (RecvStands row messages) old settled (λ told. stands)) (λ c is. inl is) (λ c d is step. step.either messages is) moved

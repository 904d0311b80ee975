-- The calls of a store, one after another.
use Rattle.std.proofs.Common.{◌≡◌, inl, ℕ, ◌+◌, ◌≤◌, List, [], ◌∷◌, ◌++◌, sym, ◌∙◌, ap, subst}
use Rattle.disk_model.specs.Disk.{Meaning, Moves, Each, Settled, Leaves}
use Rattle.disk_model.proofs.Run.{weaker, goes_on, each_settled, each_both, leaves}
use Rattle.stable_buffer.specs.Register.{SameOutside, value_of, KeepsValue, MayTurnTo, Selects}
use Rattle.stable_buffer.specs.Stands.{InSlot, LowStands, CellStandsOn, MayGain, Gains, StandsOrGains, HighStands, MayRemove, StandsOrRemoves}
use Rattle.pump_frame.specs.declared.row.SessionRow.{SessionRow}
use Rattle.stable_buffer.proofs.Slots.{register_stands_on, on_after, gain_after, on_gains, turn_gains, slot_stays, register_gains, with_room}
use Rattle.stable_buffer.specs.Low.{StandsForCount}
use Rattle.stable_buffer.proofs.Cells.{value-selects}

module _ {D : Type 0} (m : Meaning D) (row : SessionRow) (message : List ℕ) where
  nothing : (d : D) → Each m (λ c. Unit {0}) d
  nothing d = record { reading = λ told. tt; images = λ told c is. tt }

  pub so_far : (old new : D) → Moves m (CellStandsOn row) old new → Moves m (MayGain row message) old new
  so_far old new moved = weaker m (λ c. Unit {0}) (CellStandsOn row) (MayGain row message) old new (nothing old) (λ c d _ on. on_gains row message c d on) moved

  pub staged : (old mid new : D) → Moves m (CellStandsOn row) old mid → Moves m KeepsValue mid new → Moves m (CellStandsOn row) old new
  staged old mid new wrote stage =
      goes_on m (λ c. Unit {0}) (CellStandsOn row) KeepsValue (CellStandsOn row) old mid new (nothing old) (λ c d _ on. on) (λ c d e _ on keeps. on_after row c d e on (register_stands_on row d e keeps))
      wrote stage

  -- the slot is on the disk once the cell is
  pub slot_settled : (n : ℕ) (mid new : D) → (m.tells → InSlot row n message (m.reading mid)) → Moves m KeepsValue mid new → Settled m new → Each m (InSlot row n message) new
  slot_settled n mid new has stage settled = each_settled m (InSlot row n message) new settled
      (λ told. slot_stays row n message (m.reading mid) (m.reading new) (let keeps = stage.reads told in keeps.outside) (has told))

  pub turned : (parity first : ℕ) (second : ℕ) (mid new : D) → Each m (Selects parity first second) mid → Each m (InSlot row first message) mid
      → Moves m (MayTurnTo (first + 1, 0)) mid new → Moves m (MayGain row message) mid new
  turned parity first second mid new selects has moved =
      weaker m (λ d. Selects parity first second d × InSlot row first message d) (MayTurnTo (first + 1, 0)) (MayGain row message) mid new
      (each_both m (Selects parity first second) (InSlot row first message) mid selects has)
      (λ a b is turn. turn_gains row parity first second message a b is.0 is.1 turn) moved

  pub stored : (old mid new : D) → Moves m (CellStandsOn row) old mid → Moves m (MayGain row message) mid new → Moves m (MayGain row message) old new
  stored old mid new first second =
      goes_on m (λ c. Unit {0}) (CellStandsOn row) (MayGain row message) (MayGain row message) old mid new (nothing old)
      (λ c d _ on. on_gains row message c d on) (λ c d e _ on gain. gain_after row message c d e on gain) first second

  -- the reading once all is written
  pub gained : (parity first second : ℕ) (old mid new : List ℕ) → Selects parity first second old → CellStandsOn row old mid → InSlot row first message mid → SameOutside mid new
      → value_of new ≡ (first + 1, 0) → Gains row message old new
  gained parity first second old mid new selects on has outside value = record {
    more = λ E b messages free stands.
        let e : first ≡ E = ap (λ (v : ℕ × ℕ). v.0) (sym (value-selects parity first second old selects) ∙ stands.value) in
        register_gains row E b messages message mid new free outside (subst (λ f. value_of new ≡ (f + 1, 0)) e value) (subst (λ f. InSlot row f message mid) e has) (on.same E b messages free stands);
  }

  pub stands_after : (first : ℕ) (old new : List ℕ) → 1 ≤ row.capacity → Gains row message old new → StandsForCount row first old → StandsForCount row (first + 1) new
  stands_after first old new some gains stands =
      let free = with_room row first stands.0 stands.1 old some stands.2 in (free.b, free.messages ++ message ∷ [], gains.more first free.b free.messages free.free free.stands)

  -- what a crash at any moment since the start leaves
  pub stored_during : (E b : ℕ) (messages : List (List ℕ)) (old new : D) → Settled m old → E + 1 ≤ b + row.capacity → LowStands row E b messages (m.reading old)
      → Moves m (MayGain row message) old new → Leaves m old new (StandsOrGains row E b messages message)
  stored_during E b messages old new settled free stands moved =
      leaves m (LowStands row E b messages) (StandsOrGains row E b messages message) (MayGain row message) old new
      (each_settled m (LowStands row E b messages) old settled (λ told. stands)) (λ c is. inl is) (λ c d is gain. gain.either E b messages free is) moved

pub removed_during : {D : Type 0} (m : Meaning D) (row : SessionRow) (B : ℕ) (old new : D) → Settled m old → HighStands row B (m.reading old) → Moves m MayRemove old new
    → Leaves m old new (StandsOrRemoves row B)
removed_during m row B old new settled stands moved =
    leaves m (HighStands row B) (StandsOrRemoves row B) MayRemove old new
    (each_settled m (HighStands row B) old settled (λ told. stands)) (λ c is. inl is) (λ c d is step. step.either row B is) moved

-- What the gate of a low worker is asked: the messages acknowledged are those whose looks replied so.
use Rattle.std.proofs.Common.{◌≡◌, ℕ, ◌+◌, ◌-◌, Bool, true, false, List, refl, sym, ap, ◌∙◌, subst, arith}
use Rattle.pump_frame.specs.declared.frame.Item.{Item}
use Rattle.pump_frame.specs.declared.row.SessionRow.{SessionRow}
use Rattle.pump_core.specs.Passage.{Low, High, Shape}
use Rattle.pump_core.specs.Standing.{StandsAt, end_of, phase_after, State}
use Rattle.pump_core.proofs.Cuts.{one_cut}
use Rattle.low_process.specs.declared.values.Phase.{Phase}
use Rattle.low_process.specs.declared.values.Phase.TheVariants.{Idle, Passing, Waiting as Waits, Down}
use Rattle.low_process.specs.Looks.{next_of, last_of, is_idle, is_idle_in, phase_of, state_of}
use Rattle.relay_threads.specs.Records.{Made, life_made, history_made}
use Rattle.script_reader.specs.Generated.{generated_row}
use Rattle.race.specs.LowRacers.{LowAt, owed_in}
use Rattle.race.specs.MadeLooks.{acks_of}
use Rattle.race.specs.Messages.{race_opening}
use Rattle.race.specs.Turns.{done_in}
use Rattle.race.specs.declared.low.LowRacer.{LowRacer}

idle_owes : (ph : Phase) (n : ℕ) → is_idle_in ph ≡ true → owed_in (phase_of ph n) ≡ 0
idle_owes Idle n e = refl
idle_owes (Passing is_owed) n e = absurd (cc)
idle_owes (Waits k due) n e = absurd (cc)
idle_owes Down n e = absurd (cc)

busy_owes : (ph : Phase) (n : ℕ) → is_idle_in ph ≡ false → owed_in (phase_of ph n) ≡ 1
busy_owes Idle n e = absurd (cc)
busy_owes (Passing is_owed) n e = refl
busy_owes (Waits k due) n e = refl
busy_owes Down n e = refl

by_phase : (idle : Bool) (b : Bool) (acks owed next n : ℕ) → idle ≡ b → (idle ≡ true → owed ≡ 0) → (idle ≡ false → owed ≡ 1) → (idle ≡ true → n ≡ next) → (idle ≡ false → n ≡ next - 1)
    → acks + owed ≡ next → n ≡ acks
by_phase idle true acks owed next n e zero one all less is = omega (arith, zero e, all e, is)
by_phase idle false acks owed next n e zero one all less is = omega (arith, one e, less e, is)

module _ {L : Type 0} (stands : L → Low → High → Type 0) (shape : L → Shape) (w : LowRacer L) (left : List Item) (made : List Made) (a : LowAt stands shape w left made) where
  stood : StandsAt generated_row (state_of w.half.process) (last_of w.half.process) (history_made race_opening made)
  stood = subst (λ (r : SessionRow). StandsAt r (state_of w.half.process) (last_of w.half.process) (history_made race_opening made)) a.row a.history.stands

  state_is : state_of w.half.process ≡ end_of generated_row race_opening a.parts
  state_is = stood.state ∙ ap (end_of generated_row race_opening) (one_cut generated_row (life_made race_opening made) stood.parts a.parts stood.cut a.cut)

  owed_is : owed_in (phase_of w.half.process.phase w.half.process.hand.number) ≡ owed_in (phase_after generated_row race_opening a.parts)
  owed_is = ap (λ (q : State). owed_in q.phase) state_is

  -- all that are stored are acknowledged, but one that is passed on or waits
  pub acks_are : (n : ℕ) → (is_idle w.half.process ≡ true → n ≡ next_of w.half.process) → (is_idle w.half.process ≡ false → n ≡ next_of w.half.process - 1) → n ≡ done_in (acks_of made)
  acks_are n all less = by_phase (is_idle w.half.process) (is_idle w.half.process) (done_in (acks_of made)) (owed_in (phase_after generated_row race_opening a.parts)) (next_of w.half.process) n refl
      (λ e. sym owed_is ∙ idle_owes w.half.process.phase w.half.process.hand.number e) (λ e. sym owed_is ∙ busy_owes w.half.process.phase w.half.process.hand.number e) all less a.acked

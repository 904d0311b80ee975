use Rattle.std.proofs.Common.{ℕ, List, refl, ap, ◌∙◌, subst}
use Rattle.std.proofs.lemmas.Result.{IfOk-from_err}
use Rattle.pump_frame.specs.Counts.{Rose}
use Rattle.pump_core.specs.Passage.{new_low, new_high, shape_of_row}
use Rattle.race.specs.Messages.{messages_in}
use Rattle.race.specs.Race.{IsRaceRecord, IsStoppedRecord, AreRaceDisks}
use Rattle.race.specs.Turns.{AsksHigh}
use Rattle.race.proofs.Tapes.{failed_of}
use Rattle.race.proofs.Unstarted.{of_end, of_both, onerr_always}
use Rattle.race.proofs.racing.race_with.Goals as goal

pub returns-in_err-passage : goal.returns-in_err-passage
returns-in_err-passage g c = record {
  «record» = IfOk-from_err c.from_residual.result _ c.from_residual.ensures.0;
  cut_short = IfOk-from_err c.from_residual.result _ c.from_residual.ensures.0;
  disks = IfOk-from_err c.from_residual.result _ c.from_residual.ensures.0;
  failed = IfOk-from_err c.from_residual.result _ c.from_residual.ensures.0;
  low_stopped = IfOk-from_err c.from_residual.result _ c.from_residual.ensures.0;
  high_stopped = IfOk-from_err c.from_residual.result _ c.from_residual.ensures.0;
  asked_high = IfOk-from_err c.from_residual.result _ c.from_residual.ensures.0;
  nothing = onerr_always c.from_residual.result refl;
}

pub returns-in_err-disks : goal.returns-in_err-disks
returns-in_err-disks g c = record {
  «record» = IfOk-from_err c.from_residual-in_err-disks.result _ c.from_residual-in_err-disks.ensures.0;
  cut_short = IfOk-from_err c.from_residual-in_err-disks.result _ c.from_residual-in_err-disks.ensures.0;
  disks = IfOk-from_err c.from_residual-in_err-disks.result _ c.from_residual-in_err-disks.ensures.0;
  failed = IfOk-from_err c.from_residual-in_err-disks.result _ c.from_residual-in_err-disks.ensures.0;
  low_stopped = IfOk-from_err c.from_residual-in_err-disks.result _ c.from_residual-in_err-disks.ensures.0;
  high_stopped = IfOk-from_err c.from_residual-in_err-disks.result _ c.from_residual-in_err-disks.ensures.0;
  asked_high = IfOk-from_err c.from_residual-in_err-disks.result _ c.from_residual-in_err-disks.ensures.0;
  nothing = onerr_always c.from_residual-in_err-disks.result refl;
}

pub start-low-requires : goal.start-low-requires
start-low-requires g c = record {
  row = c.generated_row-row.ensures;
  stands = c.ends-low_end.ensures.low new_high;
  shape = c.ends-low_end.ensures.low_shape ∙ c.in_ok-passage.ensures.shape ∙ ap shape_of_row c.generated_row-row.ensures;
  store = c.in_ok-disks.ensures.low;
  script = ap messages_in c.new-script.ensures;
  some = c.requires.some;
  few = c.requires.turn.few;
}

pub start-high-requires : goal.start-high-requires
start-high-requires g c = record {
  row = c.generated_row-row.ensures;
  stands = c.ends-low_end.ensures.high new_low;
  store = c.in_ok-disks.ensures.high;
  receiver = c.in_ok-disks.ensures.receiver;
  turn = c.requires.turn;
}

pub returns : goal.returns
returns g c = record {
  «record» =
      of_end c.race_sides.result c.race_sides.ensures.record (λ end is low_on high_on.
      let (bytes, readings, asks, written, draws, asked, record_is) = is low_on high_on in
      let high = c.start-high.ensures in
      (bytes, readings, asks, written, draws, asked, subst (λ (z : ℕ × ℕ × List ℕ). IsRaceRecord z.0 z.1 z.2 readings asks bytes) (λ i. (c.start-low.ensures.seed i, high.count i, high.times i)) record_is));
  cut_short =
      of_end c.race_sides.result c.race_sides.ensures.cut_short (λ end is stopped.
      let (bytes, readings, asks, written, draws, asked, record_is) = is stopped in
      (bytes, readings, asks, written, draws, asked, subst (λ (z : ℕ × ℕ). IsStoppedRecord z.0 z.1 end.low_stopped readings asks bytes) (λ i. (c.start-low.ensures.seed i, c.start-low.ensures.count i)) record_is));
  disks =
      of_end c.race_sides.result c.race_sides.ensures.disks (λ end are low_on high_on.
      subst (λ (z : ℕ × ℕ). AreRaceDisks z.0 z.1 end.low.bytes end.high.bytes end.recv.bytes) (λ i. (c.start-low.ensures.seed i, c.start-high.ensures.count i)) (are low_on high_on));
  failed =
      of_both c.race_sides.result c.race_sides.ensures.record c.race_sides.ensures.cut_short (λ end whole cut.
      let O = g.O.Sink in
      failed_of end.low_stopped end.high_stopped end.write_failed (Rose (O.faults c.args.out.now) (O.faults c.race_sides.new.out))
      (λ low_on high_on. (whole low_on high_on).3.cause) (λ stopped. (cut stopped).3.cause));
  low_stopped = c.race_sides.ensures.low_stopped;
  high_stopped = c.race_sides.ensures.high_stopped;
  asked_high =
      of_end c.race_sides.result c.race_sides.ensures.asked_high (λ end asked.
      let H = g.H.Gate in
      subst (λ (n : ℕ). AsksHigh n end.high_stopped (H.asked c.args.high_gate.now) (H.asked c.race_sides.new.high_gate) end.recv.bytes) c.start-high.ensures.count asked);
  nothing = c.race_sides.ensures.nothing;
}

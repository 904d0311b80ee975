use Rattle.std.proofs.Common.{rules, sym, subst}
use Rattle.std.proofs.lemmas.Result.{IfOk-from_err}
use Rattle.high_receiver.specs.Receiving.{recv_disk}
use Rattle.race.specs.HighRacers.{HighStays}
use Rattle.race.specs.HighWorks.{HighEnds}
use Rattle.race.specs.LowRacers.{LowStays}
use Rattle.race.specs.LowWorks.{IsLowDone}
use Rattle.race.specs.Turns.{AsksHigh, CountsStop}
use Rattle.race.specs.declared.high.HighRacer.{HighRacer}
use Rattle.race.specs.declared.low.LowRacer.{LowRacer}
use Rattle.race.proofs.Unstarted.{onerr_always}
use Rattle.race.proofs.LowReturns.{low_ran}
use Rattle.race.proofs.running.run_sides.Goals as goal

pub returns-in_err-try_run_pair : goal.returns-in_err-try_run_pair
returns-in_err-try_run_pair g c = record {
  low = IfOk-from_err c.from_residual.result _ c.from_residual.ensures.0;
  low_ends = IfOk-from_err c.from_residual.result _ c.from_residual.ensures.0;
  low_stays = IfOk-from_err c.from_residual.result _ c.from_residual.ensures.0;
  high_ends = IfOk-from_err c.from_residual.result _ c.from_residual.ensures.0;
  high_asks = IfOk-from_err c.from_residual.result _ c.from_residual.ensures.0;
  high_stays = IfOk-from_err c.from_residual.result _ c.from_residual.ensures.0;
  nothing = onerr_always c.from_residual.result (search rules);
}

pub returns : goal.returns
returns g c =
    let d = c.in_ok-try_run_pair.ensures in
    let so_far = d.low.so_far in
    -- what the works borrowed is back, as they left it
    let low = c.low-2-1.given.1 (sym so_far.keeps.racer) in
    let clock = c.low_clock-2-1.given.1 (sym so_far.keeps.clock) in
    let out = c.out-2-1.given.1 (sym so_far.keeps.out) in
    let tape = c.tape-2-1.given.1 (sym so_far.keeps.tape) in
    let low_gate = c.low_gate-2-1.given.1 (sym so_far.keeps.gate) in
    let high = c.high-2-1.given.1 (sym d.high.keeps.racer) in
    let high_gate = c.high_gate-2-1.given.1 (sym d.high.keeps.gate) in
    record {
      low = low_ran g.K.Clock.reads g.K.Clock.floor g.O.Sink.written g.O.Sink.faults g.L.LowSide.stands g.L.LowSide.place g.L.LowSide.shape g.G.Gate.asked g.G.Gate.stops
          _ c.try_run_pair.new.low _ _ _ _ _ low clock out tape low_gate d.low;
      low_ends = record {
        done = λ on. subst (λ (x : LowRacer g.row.L.Denot). IsLowDone x) (sym low) (d.low.ended on);
        stops = subst (λ (x : g.row.G.Denot). CountsStop c.try_run_pair.new.low.is_stopped (g.G.Gate.stops c.args.low_gate.now) (g.G.Gate.stops x)) (sym low_gate) so_far.stops_so;
      };
      low_stays = subst (λ (x : LowRacer g.row.L.Denot). LowStays g.L.LowSide.place g.L.LowSide.shape c.args.low.now x) (sym low) so_far.keeps.stays;
      high_ends = subst (λ (z : HighRacer g.row.H.Denot × g.row.I.Denot). HighEnds g.H.HighSide.stands z.0 c.try_run_pair.new.high.is_stopped (g.I.Gate.stops c.args.high_gate.now) (g.I.Gate.stops z.1)) (λ i. (sym high i, sym high_gate i)) d.high.ends;
      high_asks = subst (λ (z : HighRacer g.row.H.Denot × g.row.I.Denot). AsksHigh z.0.count c.try_run_pair.new.high.is_stopped (g.I.Gate.asked c.args.high_gate.now) (g.I.Gate.asked z.1) (recv_disk z.0.receiver).bytes) (λ i. (sym high i, sym high_gate i)) d.high.asks;
      high_stays = subst (λ (x : HighRacer g.row.H.Denot). HighStays g.H.HighSide.place g.H.HighSide.shape c.args.high.now x) (sym high) d.high.keeps.stays;
      nothing = tt;
    }

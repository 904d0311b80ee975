use Rattle.std.proofs.Common.{ℕ, ◌≤◌, List, sym, ap, ◌∙◌, subst}
use Rattle.std.specs.List.{All}
use Rattle.pump_frame.specs.declared.averaging.Averaging.{Averaging}
use Rattle.pump_core.specs.Passage.{Low, read_pair}
use Rattle.pump_core.proofs.PassageSteps.{all_snoc}
use Rattle.relay_ring.specs.PairRule.{IsAveraged}
use Rattle.relay_ring.specs.declared.pairs.PairView.{PairView}
use Rattle.relay_ring.proofs.ends.RingLowLowEnd.average.Goals as goal

pub returns-clause-step : goal.returns-clause-step
returns-clause-step c = λ l h stands.
    let e = c.args.self.now in
    let is = stands.0 in
    let q = c.read_pair.ensures in
    let v = e.reader.me.0 in
    let count = c.read_pair.result.count in
    let average = c.read_pair.result.average in
    let averaged : IsAveraged e.averaging average = subst (λ (a : Averaging). IsAveraged a average) is.read_as q.averaged in
    let P : ℕ × ℕ → Type 0 = λ p. IsAveraged e.averaging p.1 in (
      subst (λ (ps : List (ℕ × ℕ)). All (λ p. p.0 ≤ count) ps) (sym (ap (λ (z : Low). z.pairs) stands.1)) q.up_to,
      (λ one. absurd (cc)),
      (
        record {
          ring = is.ring;
          table = is.table;
          role = is.role;
          count = is.count;
          limit = is.limit;
          below = is.below;
          small = is.small;
          holds = is.holds;
          pairs = q.table ∙ is.pairs;
          width = ap (λ z. z.words) q.table ∙ is.width;
          reads = (ap (λ (z : PairView). z.writes) q.pair ∙ is.reads.0, ap (λ (z : PairView). z.reads) q.pair ∙ is.reads.1, q.bare);
          read_as = ap (λ (z : PairView). z.read_as) q.pair ∙ is.read_as;
          averaged = subst (λ (z : PairView). All P z.pairs) (sym q.pair) (all_snoc P v.pairs (count, average) is.averaged averaged);
        },
        ap (λ (z : Low). read_pair z count average) stands.1
            ∙ ap (λ (z : PairView). record { forwarded = e.seat.me.0.forwarded; tries = e.seat.me.0.low_tries; pairs = z.pairs }) (sym q.pair),
      ),
    )

use Rattle.std.proofs.Common.{◌≡◌, ◌∙◌, ◌+◌, ℕ, length, inl, inr, sym, ap, subst, arith}
use Rattle.pump_frame.specs.Averages.{average_of}
use Rattle.pump_audit.specs.declared.claims.Claims.{Claims}
use Rattle.pump_audit.specs.Pairs.{Meets}
use Rattle.pump_audit.proofs.ClaimLaws.{meet_step, meet_stop, meet_end}
use Rattle.pump_audit.proofs.claims.Claims.meet.Goals as goal
use Rattle.pump_audit.proofs.claims.Claims.meet.Goals.{then-pair-count-via-then-pair-count, then-pair-count-via-else-pair-count+then-pair-average}

pub loop-self-preserved : goal.loop-self-preserved
loop-self-preserved c =
    let was = c.loop-self.invariant in
    let pairs = c.loop-self.self.pairs.items in
    let met = c.loop-self.self.met in
    record {
      meets = λ a times n m h.
          let now = subst (λ (k : ℕ). Meets a times k pairs met) n (was.meets a times n m h) in
          subst (λ (k : ℕ). Meets a times k pairs (met + 1)) (sym n)
          (meet_step a times pairs met c.index-pair.result.now (omega arith) c.index-pair.ensures (c.if-pair-count.false ∙ n) (c.if-pair-average.false ∙ m) now);
      pairs = was.pairs;
      few = omega arith;
      greatest = was.greatest;
      fall = was.fall;
    }

pub returns-then-pair-count : goal.returns-then-pair-count
returns-then-pair-count c =
    let was = c.loop-self.invariant in
    let now = c.loop-self.self in
    let here = c.then-pair-count.self in
    let kept : (here.pairs ≡ now.pairs) × (here.met ≡ now.met) × (here.greatest ≡ now.greatest) × (here.fall ≡ now.fall) =
    elim c.then-pair-count.branch [
      | then-pair-count-via-then-pair-count w ↦ (ap (λ (x : Claims). x.pairs) w.self-is, ap (λ (x : Claims). x.met) w.self-is, ap (λ (x : Claims). x.greatest) w.self-is, ap (λ (x : Claims). x.fall) w.self-is)
      | then-pair-count-via-else-pair-count+then-pair-average w ↦ (ap (λ (x : Claims). x.pairs) w.self-is, ap (λ (x : Claims). x.met) w.self-is, ap (λ (x : Claims). x.greatest) w.self-is, ap (λ (x : Claims). x.fall) w.self-is)
    ] in
    record {
      meets = λ a times n m h.
          let pair = c.index-pair.result.now in
          let other : pair.count ≡ length times → pair.average ≡ average_of a times → ⊥ =
          λ count average. elim c.then-pair-count.either [ inl unlike ↦ unlike (count ∙ sym n) | inr unlike ↦ unlike.1 (average ∙ sym m) ] in
          rw (kept.0, kept.1) (subst (λ (k : ℕ). Meets a times (k + 1) now.pairs.items now.met) (sym n)
          (meet_stop a times now.pairs.items now.met pair (omega arith) c.index-pair.ensures other (subst (λ (k : ℕ). Meets a times k now.pairs.items now.met) n (was.meets a times n m h))));
      pairs = kept.0 ∙ was.pairs;
      greatest = kept.2 ∙ was.greatest;
      fall = kept.3 ∙ was.fall;
    }

pub returns : goal.returns
returns c =
    let was = c.loop-self.invariant in
    record {
      meets = λ a times n m h. meet_end a times c.loop-self.self.pairs.items c.loop-self.self.met c.args.count (c.args.count + 1) (omega arith) (was.meets a times n m h);
      pairs = was.pairs;
      greatest = was.greatest;
      fall = was.fall;
    }

use Rattle.std.proofs.Common.{◌+◌, refl, ap}
use Rattle.pump_audit.proofs.AuditLaws.{met_now, taken_held}
use Rattle.pump_audit.proofs.state.Audit.add_taken.Goals as goal

pub returns-clause-is : goal.returns-clause-is
returns-clause-is c r was =
    let a = c.args.self.now in
    let meets = met_now a r was c.count.result c.average.result c.meet.new.self c.requires.place c.count.ensures.times c.average.ensures.average c.meet.ensures.meets in
    record {
      life = was.life;
      held = taken_held a r was c.meet.new.self meets c.meet.ensures.pairs c.meet.ensures.greatest c.meet.ensures.fall;
      counts = record {
        place = refl;
        lines = ap (λ n. n + 1) was.counts.lines;
        looks = was.counts.looks;
        acks = was.counts.acks;
        taken = refl;
        accepted = was.counts.accepted;
        removed = was.counts.removed;
      };
      fresh = λ e. absurd (cc);
    }

use Rattle.std.proofs.Common.{◌+◌, refl, sym, ap, ◌∙◌, arith, true, false}
use Rattle.pump_audit.proofs.AuditLaws.{low_untold, low_told, low_lives, low_acks, low_held}
use Rattle.pump_audit.proofs.state.Audit.add_low.Goals as goal

pub returns-then-not-is_owed-clause-is : goal.returns-then-not-is_owed-clause-is
returns-then-not-is_owed-clause-is c r was = (refl, low_untold c.args.self.now r was c.args.session c.args.moment c.args.reply.now (c.is_owed.ensures.no c.if-not-is_owed.true))

pub returns-then-is_ack-clause-is : goal.returns-then-is_ack-clause-is
returns-then-is_ack-clause-is c r was =
    let a = c.args.self.now in
    let yes = c.is_owed.ensures.yes c.if-not-is_owed.false in
    let told = low_told a r was c.args.session c.args.moment c.args.reply.now yes.0 yes.1 yes.2 in (
      told,
      record {
        life = low_lives a r was c.args.session c.args.moment c.args.reply.now told;
        held = low_held a r was c.requires.place;
        counts = record {
          place = refl;
          lines = ap (λ n. n + 1) was.counts.lines;
          looks = was.counts.looks;
          acks = low_acks a r was c.args.session c.args.moment c.args.reply.now true (a.acks + 1) (sym c.if-is_ack.true ∙ c.is_ack.ensures c.args.session) refl;
          taken = was.counts.taken;
          accepted = was.counts.accepted;
          removed = was.counts.removed;
        };
        fresh = λ e. absurd (cc);
      },
    )

pub returns-else-is_ack-clause-is : goal.returns-else-is_ack-clause-is
returns-else-is_ack-clause-is c r was =
    let a = c.args.self.now in
    let yes = c.is_owed.ensures.yes c.if-not-is_owed.false in
    let told = low_told a r was c.args.session c.args.moment c.args.reply.now yes.0 yes.1 yes.2 in (
      told,
      record {
        life = low_lives a r was c.args.session c.args.moment c.args.reply.now told;
        held = low_held a r was c.requires.place;
        counts = record {
          place = refl;
          lines = ap (λ n. n + 1) was.counts.lines;
          looks = was.counts.looks;
          acks = low_acks a r was c.args.session c.args.moment c.args.reply.now false a.acks (sym c.if-is_ack.false ∙ c.is_ack.ensures c.args.session) (omega arith);
          taken = was.counts.taken;
          accepted = was.counts.accepted;
          removed = was.counts.removed;
        };
        fresh = λ e. absurd (cc);
      },
    )

use Rattle.std.proofs.Common.{rules, ◌∷◌, [], inl, inr, refl, sym, ap₂, ◌∙◌, subst}
use Rattle.std.specs.Io.KnownBytes.{Appends}
use Rattle.pump_link.specs.Causes.{AppendsPrefix}
use Rattle.pump_link.specs.Ports.{Connected, BackToPorts}
use Rattle.pump_link.proofs.Grown.{Grows-nil, Grows-then}
use Rattle.transfer.specs.Collecting.{lost_line}
use Rattle.command_ends.specs.Causes.{IsTransferCaused}
use Rattle.transfer.proofs.Told.{told_in_part, told_whole, rose_before, collector_caused}
use Rattle.transfer.proofs.collecting.collect_over.Goals as goal

pub returns-then-not-tell_lost-clause-collects : goal.returns-then-not-tell_lost-clause-collects
returns-then-not-tell_lost-clause-collects g c =
    let line = ap₂ (lost_line c.args.row.now.id) c.taken.ensures c.lost.ensures in (
      c.args.collector,
      c.closed.ensures.inbox,
      inl (c.closed.ensures.end, refl, Grows-nil _, subst (AppendsPrefix (g.O.Sink.written c.args.out.now) (g.O.Sink.written c.tell_lost.new.out)) line (told_in_part _ _ _ _ c.tell_lost.ensures.printed)),
    )

pub returns-in-Err-clause-collects : goal.returns-in-Err-clause-collects
returns-in-Err-clause-collects g c =
    let line = ap₂ (lost_line c.args.row.now.id) c.taken.ensures c.lost.ensures in (
      c.args.collector,
      c.closed-in-Err.ensures.inbox,
      inr (inl (c.closed-in-Err.ensures.end, refl, c.in-Err.ensures.did, subst (Appends (g.O.Sink.written c.args.out.now) (g.O.Sink.written c.tell_lost.new.out)) line (told_whole _ _ _ _ c.tell_lost.ensures.printed (search rules)))),
    )

pub returns-clause-collects : goal.returns-clause-collects
returns-clause-collects g c =
    let line = ap₂ (lost_line c.args.row.now.id) c.taken.ensures c.lost.ensures in
    let e = c.collect_with-end in (
      e.new.collector,
      c.closed-2.ensures.inbox,
      inr (inr (
        e.result,
        c.closed-2.ensures.end ∙ c.end_of_collector.ensures,
        record {
          came = c.in-Ok.link;
          back = e.new.link;
          over = Grows-then _ _ _ (Connected c.args.row.now.high_port c.in-Ok.link ∷ []) (BackToPorts e.new.link ∷ []) c.in-Ok.ensures.did c.back.ensures.did;
          told = g.O.Sink.written c.tell_lost.new.out;
          told_faults = g.O.Sink.faults c.tell_lost.new.out;
          later = c.tell_lost.ensures.later;
          tells = subst (Appends (g.O.Sink.written c.args.out.now) (g.O.Sink.written c.tell_lost.new.out)) line (told_whole _ _ _ _ c.tell_lost.ensures.printed (search rules));
          collects = e.ensures.collects;
        },
      )),
    )

pub returns-clause-cause : goal.returns-clause-cause
returns-clause-cause g c =
    let e = c.collect_with-end in
    subst (IsTransferCaused _)
    (sym (c.closed-2.ensures.end ∙ c.end_of_collector.ensures))
    (collector_caused _ e.result (λ is. rose_before _ _ _ c.tell_lost.ensures.later (e.ensures.unwritten is)))

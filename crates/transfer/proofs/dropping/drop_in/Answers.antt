use Rattle.std.proofs.Common.{◌∷◌, [], inr, sym, ap, ◌∙◌, subst}
use Rattle.pump_link.specs.Ports.{Connected, BackToPorts}
use Rattle.pump_link.proofs.Grown.{Grows-then}
use Rattle.command_ends.specs.Causes.{IsTransferCaused}
use Rattle.file_peers.specs.Dropping.{Drops}
use Rattle.file_peers.specs.declared.drop.DropEnd.{DropEnd}
use Rattle.transfer.proofs.Told.{dropper_caused, visit_unwritten}
use Rattle.transfer.proofs.dropping.drop_in.Goals as goal

pub returns-clause-drops : goal.returns-clause-drops
returns-clause-drops g c =
    let e = c.drop_with-end in
    let (visit, left, drops, used, gave, sent, printed, behind, keeps) = e.ensures.drops in
    inr (
      e.result,
      c.end_of_dropper.ensures,
      record {
        first = c.open-dropper.result;
        is_new = c.open-dropper.ensures;
        came = c.in-Ok.link;
        given = e.new.link;
        over = Grows-then _ _ _ (Connected c.args.row.now.low_port c.in-Ok.link ∷ []) (BackToPorts e.new.link ∷ []) c.in-Ok.ensures.did c.back.ensures.did;
        visit = visit;
        looks_left = left;
        drops = drops;
        used = used;
        gave = gave;
        sent = sent;
        printed = printed;
        behind = ap (λ d. d.outbox) behind ∙ sym c.close.ensures;
        keeps = keeps;
      },
    )

pub returns-clause-cause : goal.returns-clause-cause
returns-clause-cause g c =
    let e = c.drop_with-end in
    subst (IsTransferCaused _)
    (sym c.end_of_dropper.ensures)
    (dropper_caused _ e.result (λ is. visit_unwritten g.F.Outbox.told g.F.File.Source.faults _ c.args.row.now e.ensures.drops.1 c.open-dropper.result e.ensures.drops.0 (subst (λ (end : DropEnd). Drops g.F.Outbox.told g.F.File.Source.faults c.args.row.now e.ensures.drops.1 c.open-dropper.result e.ensures.drops.0 (record { link = g.P.Link.Link.faults c.in-Ok.link; now_link = g.P.Link.Link.faults e.new.link; out = g.O.Sink.faults c.args.out.now; now_out = g.O.Sink.faults e.new.out; other = 0; now_other = 0 }) end) is e.ensures.drops.2)))

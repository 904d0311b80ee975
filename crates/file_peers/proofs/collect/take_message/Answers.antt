use Rattle.std.proofs.Common.{◌∙◌, [], refl, sym, ap, subst}
use Rattle.pump_frame.specs.Counts.{Rose}
use Rattle.stable_buffer.specs.Register.{register_disk}
use Rattle.std.proofs.KnownBytes.{Appends-nil}
use Rattle.peers.proofs.Outgoing.{whole_printed}
use Rattle.file_peers.specs.Collecting.{placed_line}
use Rattle.file_peers.proofs.Stepping.{passes_step, passes_then}
use Rattle.file_peers.proofs.Taking.{count_is, why_not, made}
use Rattle.file_peers.proofs.collect.take_message.Goals as goal

pub returns-in-Err-Device-clause-takes : goal.returns-in-Err-Device-clause-takes
returns-in-Err-Device-clause-takes g c = λ row before id wanted has.
    let f = c.args.frame.now in
    let e = c.in-Err-Device.ensures in
    let places = e.does before has in (
      [],
      (
        record {
          wanted = wanted;
          next = c.requires.next ∙ count_is _ _ row before f _ has;
          closed = e.closed;
          cause = why_not g.I.Inbox.told g.I.Disk.Disk.told row before f c.args.collector.now c.place.new.self _ _ c.in-Err-Device.field-0-is places.why_not;
          passes = passes_step _ _ _ _ _ (e.fits before has);
        },
        refl,
      ),
      Appends-nil _,
    )

pub returns-in-Err-NameTaken-clause-takes : goal.returns-in-Err-NameTaken-clause-takes
returns-in-Err-NameTaken-clause-takes g c = λ row before id wanted has.
    let f = c.args.frame.now in
    let e = c.in-Err-NameTaken.ensures in
    let places = e.does before has in (
      [],
      (
        record {
          wanted = wanted;
          next = c.requires.next ∙ count_is _ _ row before f _ has;
          closed = e.closed;
          cause = why_not g.I.Inbox.told g.I.Disk.Disk.told row before f c.args.collector.now c.place.new.self _ _ c.in-Err-NameTaken.field-0-is places.why_not;
          passes = passes_step _ _ _ _ _ (e.fits before has);
        },
        refl,
        refl,
      ),
      Appends-nil _,
    )

pub returns-in-Err-clause-takes : goal.returns-in-Err-clause-takes
returns-in-Err-clause-takes g c = λ row before id wanted has.
    let f = c.args.frame.now in
    let p = c.in-Ok.ensures in
    let e = c.in-Err.ensures in
    let placed = p.placed before has in (
      [],
      (
        record {
          wanted = wanted;
          next = c.requires.next ∙ count_is _ _ row before f _ has;
          closed = e.closed;
          cause = (e.device, subst (λ r. Rose (g.I.Disk.Disk.told.count (register_disk r)) (g.I.Disk.Disk.told.count (register_disk c.count.new.self.register))) p.register (e.rose refl));
          passes = passes_then _ _ _ _ _ _ (passes_step _ _ _ _ _ (p.fits before has)) (passes_step _ _ _ _ _ (e.fits before f.payload placed));
        },
        refl,
      ),
      Appends-nil _,
    )

pub returns-then-print_placed-clause-takes : goal.returns-then-print_placed-clause-takes
returns-then-print_placed-clause-takes g c = λ row before id wanted has.
    let f = c.args.frame.now in
    let p = c.in-Ok.ensures in
    let e = c.in_default.ensures in
    let placed = p.placed before has in (
      placed_line c.args.session f c.in-Ok.placed,
      (
        c.in-Ok.placed,
        made _ _ row before f _ _ _ c.in-Ok.placed wanted (c.requires.next ∙ count_is _ _ row before f _ has) (p.does before has) e.inbox p.register e.counts (e.counted before f.payload placed) (p.fits before has) (e.fits before f.payload placed),
        ap (λ s. placed_line s f c.in-Ok.placed) (sym id),
      ),
      whole_printed _ _ _ _ c.if-print_placed.true c.print_placed.ensures.printed,
    )

pub returns-else-print_placed-clause-takes : goal.returns-else-print_placed-clause-takes
returns-else-print_placed-clause-takes g c = λ row before id wanted has.
    let f = c.args.frame.now in
    let p = c.in-Ok.ensures in
    let e = c.in_default.ensures in
    let placed = p.placed before has in
    let printed = c.print_placed.ensures.printed in (
      printed.0,
      (
        c.in-Ok.placed,
        made _ _ row before f _ _ _ c.in-Ok.placed wanted (c.requires.next ∙ count_is _ _ row before f _ has) (p.does before has) e.inbox p.register e.counts (e.counted before f.payload placed) (p.fits before has) (e.fits before f.payload placed),
        (printed.1.0, ap (λ s. placed_line s f c.in-Ok.placed) id ∙ printed.1.1),
        c.print_placed.ensures.failed c.if-print_placed.false,
      ),
      printed.3,
    )

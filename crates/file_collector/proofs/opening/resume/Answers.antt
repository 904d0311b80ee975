use Rattle.file_collector.proofs.Resumes.{still_durable, there_same}
use Rattle.std.proofs.Common.{inr, option_map, IfSome, refl, ◌∙◌, sym, ap, subst}
use Rattle.disk_model.specs.Disk.{Settled}
use Rattle.file_collector.proofs.opening.resume.Goals as goal

pub returns-in-Ok-clause-durable : goal.returns-in-Ok-clause-durable
returns-in-Ok-clause-durable g c = λ durable.
    let mi = g.I.Inbox.told in
    let md = g.I.Disk.Disk.told in
    let e = c.in-Ok-Some.ensures in
    still_durable mi c.args.inbox.now c.resume.new.self durable e.turns e.shown
    (λ told. there_same md.reading mi.tells c.in-Ok-Some.field-0 c.args.count (mi.part c.args.inbox.now) (mi.part c.resume.new.self) told (e.found told) e.given e.left)

pub returns-in-Ok-None-clause-durable : goal.returns-in-Ok-None-clause-durable
returns-in-Ok-None-clause-durable g c = λ durable.
    let mi = g.I.Inbox.told in
    let md = g.I.Disk.Disk.told in
    let e = c.in-Ok-None.ensures in
    still_durable mi c.args.inbox.now c.resume.new.self durable e.turns e.shown
    (λ told. there_same md.reading mi.tells c.in-Ok-None.field-0 c.args.count (mi.part c.args.inbox.now) (mi.part c.resume.new.self) told (e.found told) e.given e.left)

pub returns-in-Err-feed-clause-cause : goal.returns-in-Err-feed-clause-cause
returns-in-Err-feed-clause-cause g c =
    let md = g.I.Disk.Disk.told in
    let e = c.in-Ok-Some.ensures in
    inr (record {
      left = c.feed.new.part;
      taken = record {
        given = c.in-Ok-Some.part;
        reads = λ told. sym (e.found told) ∙ ap (option_map md.reading) c.in-Ok-Some.field-0-is;
        settled = subst (λ p. IfSome p (λ d. Settled md d)) c.in-Ok-Some.field-0-is e.settled;
        moves = c.feed.ensures.moves;
      };
      device = (c.faults.ensures, c.in-Err-feed.ensures.rose refl);
    })

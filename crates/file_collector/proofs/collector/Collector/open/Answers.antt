use Rattle.std.proofs.Common.{◌≡◌, ◌≤◌, true, false, ◌+◌, take, None, Some, sym, subst}
use Rattle.file_collector.specs.Collecting.{HasTaken}
use Rattle.file_collector.specs.Reopening.{TakesUp}
use Rattle.file_collector.specs.declared.gathering.Gatherer.{Gatherer}
use Rattle.file_collector.proofs.Opens.{opens_here, opened_as}
use Rattle.file_messages.specs.Files.{Between, Inside}
use Rattle.folders.specs.Placing.{Turns}
use Rattle.file_collector.specs.Gathering.{IsGathering}
use Rattle.stable_buffer.specs.Register.{register_disk}
use Rattle.file_collector.specs.Closed.{IsLeftOf}
use Rattle.file_collector.proofs.Causes.{called_by}
use Rattle.file_collector.proofs.collector.Collector.open.Goals as goal

pub returns-in-Ok-clause-here : goal.returns-in-Ok-clause-here
returns-in-Ok-clause-here g c = λ told tells messages on.
    let mi = g.I.Inbox.told in
    let md = g.I.Disk.Disk.told in
    let f = c.in-Ok.found in
    let e = c.in-Ok.ensures in
    subst (λ (gatherer : Gatherer _ _). HasTaken mi md (record { gatherer = gatherer; register = f.register; is_placed = false; is_open = true; lost = f.lost }) (take f.register.first messages)
    × (on.fits.count ≤ f.register.first) × (f.lost ≡ None)) (sym c.over.ensures)
    (opens_here mi md c.args.inbox c.find.new.inbox f e.shown told tells messages on (e.here told tells) (e.ahead told tells))

pub returns-in-Ok-clause-new : goal.returns-in-Ok-clause-new
returns-in-Ok-clause-new g c = λ told tells reads.
    let at = c.in-Ok.ensures.new told tells reads in
    record {
      gathering = subst (λ (gatherer : Gatherer _ _). IsGathering g.I.Inbox.told g.I.Disk.Disk.told gatherer Between) (sym c.over.ensures) at.gathering;
      kept = at.kept;
      lost = at.lost;
    }

pub returns-in-Err-clause-called : goal.returns-in-Err-clause-called
returns-in-Err-clause-called g c = called_by g.I.Inbox.told g.I.Disk.Disk.told c.args.inbox c.find.new.inbox c.in-Err.fault c.in-Err.ensures.cause

pub returns-in-Ok-clause-turns : goal.returns-in-Ok-clause-turns
returns-in-Ok-clause-turns g c = subst (λ (gatherer : Gatherer _ _). Turns g.I.Inbox.told (λ names. ⊥) c.args.inbox gatherer.inbox) (sym c.over.ensures) c.in-Ok.ensures.turns

pub returns-in-Ok-clause-lost : goal.returns-in-Ok-clause-lost
returns-in-Ok-clause-lost g c = λ told tells count name size held reads begun.
    let mi = g.I.Inbox.told in
    let md = g.I.Disk.Disk.told in
    let e = c.in-Ok.ensures in
    subst (λ (gatherer : Gatherer _ _). TakesUp mi md (record { gatherer = gatherer; register = c.in-Ok.found.register; is_placed = false; is_open = true; lost = c.in-Ok.found.lost }) count name size held (mi.part c.args.inbox))
    (sym c.over.ensures)
    (record {
      here = λ stands. opened_as mi md c.find.new.inbox c.in-Ok.found count (Inside name size held) None (e.here told tells count (Inside name size held) reads.bytes reads.reads reads.holds begun stands);
      shown = λ few whole. opened_as mi md c.find.new.inbox c.in-Ok.found (count + 1) Between None (e.ahead told tells count name size held reads.bytes reads.reads reads.holds begun few whole);
      lost = λ few some. opened_as mi md c.find.new.inbox c.in-Ok.found count Between (Some name) (e.lost told tells count name size held reads.bytes reads.reads reads.holds begun few some);
    })

pub returns-in-Ok-clause-during : goal.returns-in-Ok-clause-during
returns-in-Ok-clause-during g c =
    let mi = g.I.Inbox.told in
    let md = g.I.Disk.Disk.told in
    subst (λ (gatherer : Gatherer _ _). IsLeftOf mi md c.args.inbox (register_disk c.in-Ok.found.register) gatherer.part) (sym c.over.ensures) c.in-Ok.ensures.during

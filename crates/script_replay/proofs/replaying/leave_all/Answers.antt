use Rattle.std.proofs.Common.{sym, ◌∙◌, subst}
use Rattle.script_replay.proofs.Left.{LeftSoFar, none_left, is_out_now, one_left, all_left}
use Rattle.script_replay.proofs.Listed.{nothing_left}
use Rattle.script_replay.proofs.replaying.leave_all.Goals as goal

pub sessions-init : goal.sessions-init
sessions-init g c = none_left g.S.Shelf.told.tells g.S.Disk.Disk.told (g.S.Shelf.told.disk c.args.shelf.now) (g.S.Shelf.told.disk_faults c.args.shelf.now) c.args.sessions.begun.items c.requires.rise

pub leave-requires : goal.leave-requires
leave-requires g c =
    is_out_now g.S.Shelf.told.tells g.S.Disk.Disk.told (g.S.Shelf.told.disk c.args.shelf.now) (g.S.Shelf.told.disk_faults c.args.shelf.now) c.args.sessions.begun.items (g.S.Shelf.told.disk c.sessions.shelf) (g.S.Shelf.told.disk c.sessions.shelf) (g.S.Shelf.told.disk_faults c.sessions.shelf) (g.S.Shelf.told.disk_faults c.sessions.shelf) c.pop.new.self.items c.in-Some.session
    (subst (λ l. LeftSoFar g.S.Shelf.told.tells g.S.Disk.Disk.told (g.S.Shelf.told.disk c.args.shelf.now) (g.S.Shelf.told.disk c.sessions.shelf) (g.S.Shelf.told.disk_faults c.args.shelf.now) (g.S.Shelf.told.disk_faults c.sessions.shelf) c.args.sessions.begun.items l) c.in-Some.ensures.items c.sessions.invariant) c.requires.out

pub sessions-preserved : goal.sessions-preserved
sessions-preserved g c =
    one_left g.S.Shelf.told.tells g.S.Disk.Disk.told (g.S.Shelf.told.disk c.args.shelf.now) (g.S.Shelf.told.disk_faults c.args.shelf.now) c.args.sessions.begun.items (g.S.Shelf.told.disk c.sessions.shelf) (g.S.Shelf.told.disk c.leave.new.shelf) (g.S.Shelf.told.disk_faults c.sessions.shelf) (g.S.Shelf.told.disk_faults c.leave.new.shelf) c.pop.new.self.items c.in-Some.session
    (subst (λ l. LeftSoFar g.S.Shelf.told.tells g.S.Disk.Disk.told (g.S.Shelf.told.disk c.args.shelf.now) (g.S.Shelf.told.disk c.sessions.shelf) (g.S.Shelf.told.disk_faults c.args.shelf.now) (g.S.Shelf.told.disk_faults c.sessions.shelf) c.args.sessions.begun.items l) c.in-Some.ensures.items c.sessions.invariant)
    c.leave.ensures.others c.leave.ensures.left c.leave.ensures.failed c.leave.ensures.later

pub returns : goal.returns
returns g c =
    let none = nothing_left c.sessions.begun.items (sym c.sessions.begun.ok.0 ∙ c.in_default.ensures.cases.0) in
    let all = all_left g.S.Shelf.told.tells g.S.Disk.Disk.told (g.S.Shelf.told.disk c.args.shelf.now) (g.S.Shelf.told.disk_faults c.args.shelf.now) c.args.sessions.begun.items (g.S.Shelf.told.disk c.sessions.shelf) (g.S.Shelf.told.disk_faults c.sessions.shelf) c.sessions.begun.items none c.sessions.invariant in
    record { left = all.0; failed = all.1; later = c.sessions.invariant.later }

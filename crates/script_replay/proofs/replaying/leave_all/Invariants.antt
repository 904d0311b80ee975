use Rattle.std.proofs.Common.{vec_len}
use Rattle.script_replay.proofs.Left.{LeftSoFar}
use Rattle.script_replay.proofs.replaying.leave_all.Given as goal

abbrev pub invariant-sessions : goal.invariant-sessions
invariant-sessions g l = LeftSoFar g.S.Shelf.told.tells g.S.Disk.Disk.told (g.S.Shelf.told.disk l.fn.shelf) (g.S.Shelf.told.disk l.shelf) (g.S.Shelf.told.disk_faults l.fn.shelf) (g.S.Shelf.told.disk_faults l.shelf) l.fn.sessions.begun.items l.begun.items

abbrev pub decreases-sessions : goal.decreases-sessions
decreases-sessions g l = vec_len l.begun

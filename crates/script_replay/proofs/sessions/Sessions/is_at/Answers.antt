use Rattle.script_replay.proofs.Listed.{is_at_so, is_at_not}
use Rattle.script_replay.proofs.sessions.Sessions.is_at.Goals as goal

pub returns-then-place-begun : goal.returns-then-place-begun
returns-then-place-begun g c =
    is_at_so c.args.number c.args.place c.id.result c.as_slice-begun.result.now c.args.self.now.begun.items c.index-begun-place.result c.as_slice-begun.ensures.value c.if-place-begun.true c.index-begun-place.is c.id.ensures

pub returns-else-place-begun : goal.returns-else-place-begun
returns-else-place-begun g c = is_at_not c.args.number c.args.place c.as_slice-begun.result.now c.args.self.now.begun.items c.as_slice-begun.ensures.value c.if-place-begun.false

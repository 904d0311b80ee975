use Rattle.script_replay.proofs.Gathered.{gathers_behind, on_err}
use Rattle.script_replay.proofs.output.Output.print.Goals as goal

pub returns-in_err-make_room-clause-err : goal.returns-in_err-make_room-clause-err
returns-in_err-make_room-clause-err g c = on_err _ _ c.in_err-make_room.ensures.err

pub returns-clause-ok : goal.returns-clause-ok
returns-clause-ok g c = gathers_behind _ _ _ _ _ _ c.in_ok-make_room.ensures.ok c.append_head.ensures.line

pub returns-clause-cause : goal.returns-clause-cause
returns-clause-cause g c = c.in_ok-make_room.ensures.cause

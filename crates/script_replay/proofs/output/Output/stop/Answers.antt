use Rattle.script_replay.proofs.Gathered.{all_behind, cause_then, prefix_more, prefix_behind, on_err}
use Rattle.script_replay.proofs.output.Output.stop.Goals as goal

pub returns-in_err-make_room-clause-err : goal.returns-in_err-make_room-clause-err
returns-in_err-make_room-clause-err g c = on_err _ _ (prefix_more _ _ _ _ c.in_err-make_room.ensures.err)

pub returns-clause-err : goal.returns-clause-err
returns-clause-err g c = prefix_behind c.flush.result _ _ _ _ _ _ _ c.in_ok-make_room.ensures.ok c.append_fault.ensures.line c.flush.ensures.err

pub returns-clause-ok : goal.returns-clause-ok
returns-clause-ok g c = all_behind c.flush.result _ _ _ _ _ _ _ c.in_ok-make_room.ensures.ok c.append_fault.ensures.line c.flush.ensures.ok

pub returns-clause-cause : goal.returns-clause-cause
returns-clause-cause g c = cause_then c.flush.result _ _ _ c.in_ok-make_room.ensures.cause.later c.flush.ensures.cause

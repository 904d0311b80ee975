use Rattle.dispatch.proofs.Raced.{never_stopped, wrote_whole, wrote_prefix}
use Rattle.dispatch.proofs.live_commands.run_race.Goals as goal

pub returns-then-end-clause-ends : goal.returns-then-end-clause-ends
returns-then-end-clause-ends g c =
    let e = c.in-Ok.ensures in
    let (bytes, readings, asks, written, draws, asked, race) = e.record (never_stopped _ e.low_stopped) (never_stopped _ e.high_stopped) in
    wrote_prefix _ _ _ _ _ _ _ _ _ c.in-Ok.end.write_failed (bytes, readings, asks, written, draws, race)

pub returns-in-Ok-clause-ends : goal.returns-in-Ok-clause-ends
returns-in-Ok-clause-ends g c =
    let e = c.in-Ok.ensures in
    let (bytes, readings, asks, written, draws, asked, race) = e.record (never_stopped _ e.low_stopped) (never_stopped _ e.high_stopped) in
    wrote_whole _ _ _ _ _ _ _ _ _ c.in-Ok.end.write_failed c.if-end.false (bytes, readings, asks, written, draws, race)

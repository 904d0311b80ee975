use Rattle.script_replay.proofs.Told.{alone_made}
use Rattle.script_replay.proofs.Turns.{begins_alone}
use Rattle.script_replay.proofs.applying.begin_alone.Goals as goal

pub returns-in-Ok-clause-begins : goal.returns-in-Ok-clause-begins
returns-in-Ok-clause-begins g c = λ before. begins_alone g.D.Disk.told before c.args.row.now c.args.next c.args.held c.in-Ok.session c.requires.lawful c.in-Ok.ensures.stands

pub returns-in-Ok-clause-made : goal.returns-in-Ok-clause-made
returns-in-Ok-clause-made g c = alone_made g.D.Disk.told c.args.row.now c.args.next c.args.held c.in-Ok.session c.requires.lawful c.in-Ok.ensures.stands

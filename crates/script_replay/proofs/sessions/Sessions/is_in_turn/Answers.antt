use Rattle.std.proofs.Common.{sym, ◌∙◌}
use Rattle.script_reader.specs.Heads.{line_with}
use Rattle.script_replay.proofs.Listed.{in_turn_first}
use Rattle.script_replay.proofs.sessions.Sessions.is_in_turn.Goals as goal

pub returns-then-not-self-clause-may : goal.returns-then-not-self-clause-may
returns-then-not-self-clause-may g c = λ bytes t stand.
    in_turn_first g.D.Disk.told c.args.self.now t (line_with bytes c.args.line.now) stand (c.stands_first.ensures bytes ∙ c.if-stands_first.true) c.if-not-self.true
    ∙ sym (c.has_room_for.ensures bytes)

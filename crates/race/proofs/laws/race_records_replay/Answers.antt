use Rattle.std.proofs.Common.{[], append-nil, sym, ◌∙◌}
use Rattle.race.proofs.Replayable.{replays_to_itself}
use Rattle.race.specs.Race.{end_lines}
use Rattle.race.specs.Turns.{turns}
use Rattle.race.proofs.laws.race_records_replay.Goals as goal

pub returns-clause-whole : goal.returns-clause-whole
returns-clause-whole c = λ seed count times readings asks bytes opens is.
    replays_to_itself opens seed is.made bytes (end_lines (turns times count) count count count) is.looks is.readable is.bytes_are

pub returns-clause-stopped : goal.returns-clause-stopped
returns-clause-stopped c = λ seed count is_low_stopped readings asks bytes opens is.
    replays_to_itself opens seed is.made bytes [] is.looks is.readable (is.bytes_are ∙ sym (append-nil _))

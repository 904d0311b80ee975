use Rattle.std.proofs.Common.{◌^◌, ◌-◌, ◌<◌, ◌≤◌, ℕ, List, [], Option}
use Rattle.chain_replay.specs.Private.{HasRead}
use Rattle.chain_replay.specs.Scripts.{Begun, LacksPump}
use Rattle.script_reader.specs.Lines.{to_come}
use Rattle.script_reader.specs.Openings.{Openings}
use Rattle.chain_replay.proofs.rows.next_row.Given as goal

abbrev pub invariant-turns : goal.invariant-turns
invariant-turns g l =
    ((o : Openings) (all : Option (List ℕ)) (begun : Begun) → LacksPump begun
    → HasRead o all (to_come l.fn.lines (g.I.Source.left l.fn.script)) l.fn.lines.number begun []
    → HasRead o all (to_come l.lines (g.I.Source.left l.script)) l.lines.number begun [])
    × (l.lines.number < 2 ^ 32)
    × (g.I.Source.faults l.fn.script ≤ g.I.Source.faults l.script)

abbrev pub decreases-turns : goal.decreases-turns
decreases-turns g l = 2 ^ 32 - l.lines.number

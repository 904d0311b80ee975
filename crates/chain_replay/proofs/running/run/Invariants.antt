use Rattle.std.proofs.Common.{◌≡◌, ◌^◌, ◌-◌, ◌<◌, ◌≤◌, false, ℕ, List, [], Option, length}
use Rattle.chain_replay.specs.Private.{AreOf, HasRead}
use Rattle.chain_replay.specs.Scripts.{BothPumps}
use Rattle.pump_chain.specs.Chained.{Chained}
use Rattle.pump_chain.specs.Failing.{FailNoLess}
use Rattle.pump_chain.specs.Standing.{ChainStands, chain_is_down}
use Rattle.pump_frame.specs.declared.row.SessionRow.{SessionRow}
use Rattle.script_reader.specs.declared.event.Event.{Event}
use Rattle.script_reader.specs.Lines.{to_come}
use Rattle.script_reader.specs.Openings.{Openings}
use Rattle.script_reader.specs.Transcript.{text}
use Rattle.script_replay.specs.Outputs.{held_of, Gathers}
use Rattle.chain_replay.proofs.running.run.Given as goal

abbrev pub invariant-turns : goal.invariant-turns
invariant-turns g l =
    (g.D.Disk.told.tells → (o : Openings) (all : Option (List ℕ)) (one two : SessionRow) (c : Chained) → l.fn.first ≡ one.id → ChainStands g.D.Disk.told l.fn.chain c → AreOf one two c
    → HasRead o all (to_come l.fn.lines (g.I.Source.left l.fn.script)) l.fn.lines.number (BothPumps one two c) []
    → (d : Chained) × (events : List Event) × HasRead o all (to_come l.lines (g.I.Source.left l.script)) l.lines.number (BothPumps one two d) events
    × ChainStands g.D.Disk.told l.chain d × AreOf one two d × Gathers [] (held_of l.output) (g.O.Sink.written l.fn.out) (g.O.Sink.written l.out) (text events))
    × (chain_is_down l.chain ≡ false)
    × (l.lines.number < 2 ^ 32)
    × (g.I.Source.faults l.fn.script ≤ g.I.Source.faults l.script)
    × (g.O.Sink.faults l.fn.out ≤ g.O.Sink.faults l.out)
    × FailNoLess g.D.Disk.told l.fn.chain l.chain
    × (length l.lines.held ≤ 4096)

abbrev pub decreases-turns : goal.decreases-turns
decreases-turns g l = 2 ^ 32 - l.lines.number

use Rattle.std.proofs.Common.{◌≡◌, ◌^◌, ◌-◌, ◌<◌, ◌≤◌, false, List, [], length}
use Rattle.std.specs.Io.KnownBytes.{Appends}
use Rattle.script_reader.specs.declared.line.Line.{Line}
use Rattle.script_reader.specs.declared.event.Event.{Event}
use Rattle.script_reader.specs.Lines.{to_come}
use Rattle.script_reader.specs.Openings.{Openings}
use Rattle.script_reader.specs.Sessions.{Sessions as Script}
use Rattle.script_reader.specs.Transcript.{text}
use Rattle.script_replay.specs.Outputs.{held_of, Gathers}
use Rattle.script_replay.specs.Replays.{IsSoFar}
use Rattle.script_replay.specs.Runners.{AllAreUp, AllFind, AllFresh}
use Rattle.script_replay.specs.Sessions.{AllStandFor, AllLend, AreInOrder}
use Rattle.script_replay.proofs.Told.{MadeSoFar}
use Rattle.script_replay.proofs.replaying.run.Given as goal

abbrev pub invariant-turns : goal.invariant-turns
invariant-turns g l =
    (g.S.Shelf.told.tells → g.S.Disk.Disk.told.tells → (lines : List Line) × (events : List Event) × (t : Script) × (o : Openings)
    × IsSoFar o (g.I.Source.left l.fn.script) (to_come l.lines (g.I.Source.left l.script)) lines events t
    × Gathers [] (held_of l.replaying.output) (g.O.Sink.written l.fn.out) (g.O.Sink.written l.out) (text events)
    × AllStandFor g.S.Disk.Disk.told l.replaying.sessions t
    × AllFind (g.S.Shelf.told.disk l.fn.shelf) o t.begun
    × (length lines ≡ l.lines.number))
    × (AllLend g.S.Disk.Disk.told (g.S.Shelf.told.disk l.fn.shelf) (g.S.Shelf.told.disk l.shelf) l.replaying.sessions.begun.items × AllAreUp l.replaying.sessions.begun.items)
    × (length l.lines.held ≤ 4096)
    × (l.lines.number < 2 ^ 32)
    × (g.I.Source.faults l.fn.script ≤ g.I.Source.faults l.script)
    × (g.O.Sink.faults l.fn.out ≤ g.O.Sink.faults l.out)
    × (g.S.Shelf.told.disk_faults l.fn.shelf ≤ g.S.Shelf.told.disk_faults l.shelf)
    × AreInOrder l.replaying.sessions
    × (l.replaying.sessions.is_under_way ≡ false → (held_of l.replaying.output ≡ []) × Appends (g.O.Sink.written l.fn.out) (g.O.Sink.written l.out) [])
    × (g.S.Shelf.told.tells → g.S.Disk.Disk.told.tells → l.replaying.sessions.is_under_way ≡ false → AllFresh g.S.Disk.Disk.told (g.S.Shelf.told.disk l.fn.shelf) (g.S.Shelf.told.disk l.shelf) l.replaying.sessions.begun.items)
    × MadeSoFar g.S.Disk.Disk.told l.replaying.sessions (g.I.Source.left l.fn.script) (to_come l.lines (g.I.Source.left l.script))

abbrev pub decreases-turns : goal.decreases-turns
decreases-turns g l = 2 ^ 32 - l.lines.number

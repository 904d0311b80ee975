use Rattle.std.proofs.Common.{◌≡◌, List, take, length}
use Rattle.script_reader.specs.Scripts.{Begun}
use Rattle.script_reader.specs.Sessions.{AllEnd}
use Rattle.two_worlds.specs.Printing.{lines_in}
use Rattle.script_replay.specs.Sessions.{EachStandsFor}
use Rattle.script_replay.proofs.sessions.Sessions.ends.Given as goal

abbrev pub invariant-ends : goal.invariant-ends
invariant-ends g l = (length l.ends.items ≡ l.session-index)
    × ((running : List Begun) → EachStandsFor g.D.Disk.told (take l.session-index l.session-items) running → AllEnd running (lines_in l.ends.items))

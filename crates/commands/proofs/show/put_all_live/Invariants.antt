use Rattle.std.proofs.Common.{◌≡◌, ◌++◌, take}
use Rattle.script_reader.specs.Transcript.{text}
use Rattle.commands.specs.Showing.{live_messages}
use Rattle.commands.proofs.show.put_all_live.Given as goal

abbrev pub invariant-loop-index : goal.invariant-loop-index
invariant-loop-index l = l.into.items ≡ l.fn.into.items ++ text (live_messages l.session l.first (take l.index l.live))

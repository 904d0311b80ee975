use Rattle.std.proofs.Common.{◌≡◌, take}
use Rattle.two_worlds.specs.Printing.{lines_in}
use Rattle.two_worlds.proofs.printing.events_of.Given as goal

abbrev pub invariant-loop-head : goal.invariant-loop-head
invariant-loop-head l = l.events.items ≡ lines_in (take l.head-index l.heads.items)

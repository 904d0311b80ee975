use Rattle.std.proofs.Common.{◌≡◌, length}
use Rattle.race.specs.Messages.{messages_in}
use Rattle.race.proofs.messages.next_message.Given as goal

abbrev pub invariant-lines : goal.invariant-lines
invariant-lines l = messages_in l.fn.script ≡ messages_in l.script

abbrev pub decreases-lines : goal.decreases-lines
decreases-lines l = length l.script

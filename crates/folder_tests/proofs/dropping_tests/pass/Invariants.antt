use Rattle.file_dropper.specs.Works.{MayAsk}
use Rattle.folder_tests.proofs.dropping_tests.pass.Given as goal

abbrev pub invariant-loop : goal.invariant-loop
invariant-loop g l = MayAsk g.O.Outbox.told l.dropper

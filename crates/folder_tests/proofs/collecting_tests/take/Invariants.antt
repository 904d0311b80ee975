use Rattle.file_collector.specs.Collecting.{IsCollecting}
use Rattle.folder_tests.proofs.collecting_tests.take.Given as goal

abbrev pub invariant-loop : goal.invariant-loop
invariant-loop g l = IsCollecting g.I.Inbox.told g.I.Disk.Disk.told l.collector

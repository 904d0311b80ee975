use Rattle.folders.specs.Outboxes.{IsLawfulFound}
use Rattle.folder_adapters.proofs.file_outbox.find_marked.Given as goal

abbrev pub invariant-loop-entry : goal.invariant-loop-entry
invariant-loop-entry g l = IsLawfulFound l.found

use Rattle.std.proofs.Common.{◌≡◌, ◌++◌, List, subst, sym}
use Rattle.file_messages.specs.Files.{File}
use Rattle.folders.specs.Outboxes.{files_in}
use Rattle.file_peers.specs.Collecting.{messages}
use Rattle.relay_laws.proofs.Prefixes.{carried, collects_prefix}
use Rattle.relay_laws.proofs.laws.files_are_carried.Goals as goal

pub returns : goal.returns
returns g c row earlier stored sent past pairs start turns folder collector is are heard prefix fits taken tells disk_tells =
    subst (λ (shown : List File). (rest : List File) × (folder.removed ++ files_in folder.marked ≡ shown ++ rest)) (sym (taken.shown tells disk_tells))
    (carried (start ++ messages turns) (earlier ++ stored) folder (collects_prefix row earlier stored sent is.data_are start turns are heard prefix) fits)

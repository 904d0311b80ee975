-- Why calls of a dropper fail.
use Rattle.std.proofs.Common.{ℕ, ◌≤◌, inl, inr, arith}
use Rattle.folders.specs.Outboxes.{Dropping}
use Rattle.file_dropper.specs.Works.{HasFolderFault}
use Rattle.file_dropper.specs.declared.answers.DropFault.{DropFault}
use Rattle.file_dropper.specs.declared.answers.DropFault.TheVariants.{Folder, Marks, Step, TooLong, Full}
use Rattle.file_dropper.specs.declared.dropper.Dropper.{Dropper}

-- a fault of a later call is one since before
pub fault_since : {O F : Type 0} (m : Dropping O) (faults : F → ℕ) (before now : ℕ) (new : Dropper O F) (fault : DropFault) → before ≤ now → HasFolderFault now m faults new fault → HasFolderFault before m faults new fault
fault_since m faults before now new Folder le (inl rose) = inl (omega (arith, le, rose))
fault_since m faults before now new Folder le (inr read) = inr read
fault_since m faults before now new Marks le is = is
fault_since m faults before now new (Step start accepted) le is = is
fault_since m faults before now new TooLong le is = is
fault_since m faults before now new Full le is = is

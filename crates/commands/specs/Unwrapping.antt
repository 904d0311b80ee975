-- What writing the file of a session writes, by how it ends. `before` and `after` say where each disk is.
use Rattle.std.specs.Prelude.{◌≡◌, ◌⊎◌, ℕ, ◌<◌, ◌≤◌, if◌then◌else◌, List, [], Option, None, Result, Ok, Err}
use Rattle.std.specs.Io.KnownBytes.{Appends}
use Rattle.disk_model.specs.declared.name.Role.{Role}
use Rattle.disk_model.specs.declared.name.Role.TheVariants as roles
use Rattle.pump_frame.specs.declared.row.SessionRow.{SessionRow}
use Rattle.pump_wrapper.specs.Gathers.{Gathers}
use Rattle.pump_wrapper.specs.declared.gathered.Gathered.{Gathered}
use Rattle.pump_wrapper.specs.declared.gathered.GatherFault.{GatherFault}
use Rattle.pump_wrapper.specs.declared.gathered.GatherFault.TheVariants as gathers
use Rattle.recovery.specs.Refusals.{refused_receiver}
use Rattle.script_replay.specs.Shelves.{Places, reading_at, ReadsAlike}
use Rattle.stable_buffer.specs.Format.{receiver_size}
use Rattle.stable_buffer.specs.Log.{RecvStands}
use Rattle.command_ends.specs.CommandEnds.{NamesFailed, end_status}
use Rattle.command_ends.specs.Tables.{StopsAtTable, HasRow}
use Rattle.commands.specs.LentDisks.{StopsAtDisk}
use Rattle.command_ends.specs.declared.command_end.CommandEnd.{CommandEnd}
use Rattle.command_ends.specs.declared.command_end.CommandEnd.TheVariants.{Done, NoRow, Failed, Unwritten, NotWrapped}
use Rattle.command_ends.specs.declared.command_end.CommandEnd.TheVariants.{PartOfFile}
use Rattle.command_ends.specs.declared.no_row.NoRow.TheVariants.{Short}

-- how the command ends where the messages were gathered so
abbrev pub end_of_gather : Result Gathered GatherFault → CommandEnd
end_of_gather (Ok gathered) = if gathered.whole then Done else PartOfFile
end_of_gather (Err (gathers.NotWrapped number)) = NotWrapped number
end_of_gather (Err (gathers.Device faults)) = Failed roles.Recv
end_of_gather (Err gathers.Write) = Unwritten

-- Of the sink the second value is that at the end; `found` is what the receiver's disk reads. The disk could not be
-- taken or not be opened, and nothing was written; or the messages that it stands for were gathered.
abbrev pub UnwrapsOn : SessionRow → List ℕ → Option (List ℕ) → Option (List ℕ) → CommandEnd → Type 0
UnwrapsOn row found old new end =
    (StopsAtDisk found row end × Appends old new [])
    ⊎ ((refused_receiver row receiver_size found ≡ None)
    × ((messages : List (List ℕ)) × RecvStands row messages found × (gathered : Result Gathered GatherFault)
    × (end ≡ end_of_gather gathered) × Gathers row.message messages old new gathered))

-- the row's messages are too short for a length
abbrev pub UnwrapsFrom : SessionRow → List ℕ → Option (List ℕ) → Option (List ℕ) → CommandEnd → Type 0
UnwrapsFrom row found old new end =
    ((row.message < 9) × (end ≡ NoRow (Short row.id)) × Appends old new [])
    ⊎ ((9 ≤ row.message) × UnwrapsOn row found old new end)

-- With the row of the session, if the table has one; `file` is the table's. Every disk reads as it did, and the disk
-- that failed is named, where `fails` says which did.
abbrev pub Unwraps : Option (List ℕ) → Places → Places → (ℕ → Role → Type 0) → ℕ → Option (List ℕ) → Option (List ℕ)
    → CommandEnd → Type 0
Unwraps file before after fails session old new end =
    ReadsAlike before after × NamesFailed fails session end
    × ((StopsAtTable file session end × Appends old new [])
    ⊎ ((row : SessionRow) × HasRow file session row
    × UnwrapsFrom row (reading_at before row.id roles.Recv) old new end))

-- .. with this status
abbrev pub EndsUnwrap : Option (List ℕ) → Places → Places → (ℕ → Role → Type 0) → ℕ → Option (List ℕ) → Option (List ℕ)
    → ℕ → Type 0
EndsUnwrap file before after fails session old new status = (end : CommandEnd) × (end_status end ≡ status)
    × Unwraps file before after fails session old new end

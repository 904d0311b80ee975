-- How writing the file of a session ends.
use Rattle.std.proofs.Common.{◌≡◌, ℕ, Bool, true, false, List, Option, None, Result, Ok, Err, inr, refl, subst}
use Rattle.std.specs.Prelude.{if◌then◌else◌}
use Rattle.disk_model.specs.declared.name.Role.{Role}
use Rattle.disk_model.specs.declared.name.Role.TheVariants as roles
use Rattle.pump_frame.specs.declared.row.SessionRow.{SessionRow}
use Rattle.pump_wrapper.specs.Gathers.{Gathers}
use Rattle.pump_wrapper.specs.declared.gathered.Gathered.{Gathered}
use Rattle.pump_wrapper.specs.declared.gathered.GatherFault.{GatherFault}
use Rattle.pump_wrapper.specs.declared.gathered.GatherFault.TheVariants.{Device, NotWrapped, Write}
use Rattle.script_replay.specs.Shelves.{Places, reading_at, ReadsAlike}
use Rattle.recovery.specs.Refusals.{refused_receiver}
use Rattle.stable_buffer.specs.Format.{receiver_size}
use Rattle.stable_buffer.specs.Log.{RecvStands}
use Rattle.command_ends.specs.CommandEnds.{IsUnwrapEnd, NamesFailed}
use Rattle.commands.specs.Formatting.{IsDiskEnd}
use Rattle.commands.specs.Unwrapping.{end_of_gather, UnwrapsOn, UnwrapsFrom, Unwraps}
use Rattle.command_ends.specs.Tables.{HasRow, IsTableEnd}
use Rattle.command_ends.specs.declared.command_end.CommandEnd.{CommandEnd}
use Rattle.command_ends.specs.declared.command_end.CommandEnd.TheVariants.{Done, Memory, Unread, NoRow, Failed, Refused, PartOfFile}

whole_only : (whole : Bool) → IsUnwrapEnd (if whole then Done else PartOfFile)
whole_only true = tt
whole_only false = tt

pub gather_only : (r : Result Gathered GatherFault) → IsUnwrapEnd (end_of_gather r)
gather_only (Ok gathered) = whole_only gathered.whole
gather_only (Err (Device faults)) = tt
gather_only (Err (NotWrapped n)) = tt
gather_only (Err Write) = tt

pub unwrap_table_only : (end : CommandEnd) → IsTableEnd end → IsUnwrapEnd end
unwrap_table_only Memory is = tt
unwrap_table_only Unread is = tt
unwrap_table_only (NoRow why) is = tt
unwrap_table_only end is = absurd is

pub unwrap_disk_only : (end : CommandEnd) → IsDiskEnd end → IsUnwrapEnd end
unwrap_disk_only Memory is = tt
unwrap_disk_only (Failed role) is = tt
unwrap_disk_only (Refused role why) is = tt
unwrap_disk_only end is = absurd is

-- the messages of an open receiver were gathered
pub unwraps_gathered : (row : SessionRow) (found : List ℕ) (old new : Option (List ℕ)) (gathered : Result Gathered GatherFault) → refused_receiver row receiver_size found ≡ None
    → (messages : List (List ℕ)) → RecvStands row messages found → Gathers row.message messages old new gathered → UnwrapsOn row found old new (end_of_gather gathered)
unwraps_gathered row found old new gathered fine messages stands gathers = inr (fine, (messages, stands, gathered, refl, gathers))

pub unwraps_row : (file : Option (List ℕ)) (before between after : Places) (fails : ℕ → Role → Type 0) (session : ℕ) (row : SessionRow) (old new : Option (List ℕ)) (end : CommandEnd) → HasRow file session row → between ≡ before
    → ReadsAlike between after → NamesFailed fails session end → UnwrapsFrom row (reading_at between row.id roles.Recv) old new end → Unwraps file before after fails session old new end
unwraps_row file before between after fails session row old new end has same alike named h =
    (subst (λ (places : Places). ReadsAlike places after) same alike, named, inr (row, has, subst (λ (places : Places). UnwrapsFrom row (reading_at places row.id roles.Recv) old new end) same h))

-- messages that were not gathered name no other disk than the receiver's
whole_names : (whole : Bool) (role : Role) → (if whole then Done else PartOfFile) ≡ Failed role → ⊥
whole_names true role e = cc
whole_names false role e = cc

pub gather_role : (r : Result Gathered GatherFault) (role : Role) → end_of_gather r ≡ Failed role → role ≡ roles.Recv
gather_role (Ok gathered) role e = absurd (whole_names gathered.whole role e)
gather_role (Err (Device faults)) role e = cc
gather_role (Err (NotWrapped n)) role e = cc
gather_role (Err Write) role e = cc

-- What moving a session to the disks of another one leaves, by how it ends. `before` and `after` say where each disk
-- is; `file` and `new_file` are those of the two tables.
use Rattle.std.specs.Prelude.{◌≡◌, ◌⊎◌, ℕ, Bool, true, false, if◌then◌else◌, List, [], ◌∷◌, length, Option, None, Some}
use Rattle.std.specs.Prelude.{Result, Ok, Err, codes, decimal, drop}
use Rattle.disk_model.specs.Disk.{Meaning}
use Rattle.disk_model.specs.declared.name.DiskName.{DiskName}
use Rattle.disk_model.specs.declared.name.Role.{Role}
use Rattle.pump_frame.specs.declared.row.SessionRow.{SessionRow}
use Rattle.recovery.specs.declared.trio.MoveFault.{MoveFault}
use Rattle.recovery.specs.declared.trio.Trio.{Trio}
use Rattle.recovery.specs.Calls.{is_device}
use Rattle.disk_model.specs.declared.name.Role.TheVariants as roles
use Rattle.recovery.specs.Moves.{AreWritten, IsMoveRefused, first_full, high_bytes, low_bytes}
use Rattle.recovery.specs.declared.why.Why.{Why}
use Rattle.script_reader.specs.Openings.{Found, accepted_in}
use Rattle.script_reader.specs.Transcript.{line_with_end}
use Rattle.script_replay.specs.Shelves.{Places, OfDisks, reading_at, reading_in, ReadsAlike, SparesSession}
use Rattle.stable_buffer.specs.Format.{receiver_size}
use Rattle.two_worlds.specs.Openings.{StandForFound}
use Rattle.command_ends.specs.CommandEnds.{end_line}
use Rattle.command_ends.specs.NoRows.{table_line}
use Rattle.commands.specs.Showing.{end_at}
use Rattle.command_ends.specs.Tables.{HasRow, HasNoRow}
use Rattle.commands.specs.TakenDisks.{RoseAt, ReadOn}
use Rattle.command_ends.specs.declared.command_end.CommandEnd.{CommandEnd}
use Rattle.command_ends.specs.declared.command_end.CommandEnd.TheVariants.{Done, Memory, Unread, NoRow, Failed, Refused}
use Rattle.command_ends.specs.declared.no_row.NoRow.{NoRow as NoRowCause}
use Rattle.command_ends.specs.declared.no_row.NoRow.TheVariants.{Same}
use Rattle.commands.specs.declared.migrate.Counts.{Counts}
use Rattle.commands.specs.declared.migrate.Halt.{Halt}

-- ---- the rows ----

-- the tables give these rows for the two sessions
pub record AreRows (file new_file : Option (List ℕ)) (session new_session : ℕ) (row new_row : SessionRow) : Type 0 where
  pub has : HasRow file session row
  pub has_new : HasRow new_file new_session new_row
  pub id : row.id ≡ session
  pub new_id : new_row.id ≡ new_session
  pub two : session ≡ new_session → ⊥

-- the first that gives none, for this cause; or both do, for one session
abbrev pub HasNoRows : Option (List ℕ) → Option (List ℕ) → ℕ → ℕ → NoRowCause → Type 0
HasNoRows file new_file session new_session why =
    HasNoRow file session why
    ⊎ (((row : SessionRow) × HasRow file session row × HasNoRow new_file new_session why)
    ⊎ ((row : SessionRow) × (new_row : SessionRow) × HasRow file session row × HasRow new_file new_session new_row
    × (session ≡ new_session) × (why ≡ Same new_session)))

-- ---- the disks ----

-- every disk reads as it did, but for those of this session
abbrev pub ReadsOthersAlike : Places → Places → ℕ → Type 0
ReadsOthersAlike before after session = (name : DiskName) → (name.session ≡ session → ⊥) → reading_in (after name)
    ≡ reading_in (before name)

-- the low disk that a move writes: the messages in their slots, and zeros wherever none stands
abbrev pub moved_low : SessionRow → Found → List ℕ
moved_low row f = low_bytes row (length (accepted_in f)) f.removed (drop f.removed (accepted_in f))

-- three readings are what a move writes, byte by byte, where the old receiver's disk reads this
abbrev pub AreMoved : SessionRow → Found → List ℕ → List ℕ → List ℕ → List ℕ → Type 0
AreMoved row f old_recv low high recv = AreWritten row (length (accepted_in f)) f.removed (length f.received)
    (drop f.removed (accepted_in f)) old_recv low high recv

-- the row's disks stand for what was found; those of the new row were empty, and stand for just that now. Every other
-- disk reads as it did, the row's too
pub record IsMigrated (before after : Places) (row new_row : SessionRow) (f : Found) : Type 0 where
  pub stand : OfDisks before row.id (StandForFound row f)
  pub empty : OfDisks before new_row.id (λ low high recv. first_full low high recv ≡ None)
  pub new : OfDisks after new_row.id (StandForFound new_row f)
  pub written : OfDisks after new_row.id (AreMoved new_row f (reading_at before row.id roles.Recv))
  pub alike : ReadsOthersAlike before after new_row.id

-- the first cause for which they are not moved, by the readings of the six
abbrev pub IsRefusedMove : Places → SessionRow → SessionRow → Bool → Role → Why → Type 0
IsRefusedMove places row new_row is_new role why =
    OfDisks places row.id (λ low high recv. OfDisks places new_row.id (λ new_low new_high new_recv.
    IsMoveRefused row new_row receiver_size low high recv new_low new_high new_recv
    (record { new = is_new; role = role; why = why })))

-- What is read of the new disks before a move and after it, where the disk of this role failed. They are written in
-- turn, low's, high's and the receiver's: one only where those before it are whole, and none after the one that
-- failed
pub record AreInTurn (row : SessionRow) (f : Found) (role : Role) (low_was high_was recv_was low_now high_now recv_now :
    List ℕ) : Type 0 where
  pub at_low : role ≡ roles.Low → (high_now ≡ high_was) × (recv_now ≡ recv_was)
  pub at_high : role ≡ roles.High → recv_now ≡ recv_was
  pub high : (high_now ≡ high_was) ⊎ (low_now ≡ moved_low row f)
  pub recv : (recv_now ≡ recv_was) ⊎ ((low_now ≡ moved_low row f) × (high_now ≡ high_bytes row f.removed))

-- .. of the new row's disks, where the row's stood for what was found
abbrev pub AreTurned : Places → Places → SessionRow → SessionRow → Role → Type 0
AreTurned before after row new_row role = (f : Found) → OfDisks before row.id (StandForFound row f)
    → OfDisks before new_row.id (λ low high recv. OfDisks after new_row.id (AreInTurn new_row f role low high recv))

-- What is said of the disks where they were not moved. After a failed device call some of the new ones may be
-- written; none that was not empty is touched
abbrev pub MigrateStops : Places → Places → SessionRow → SessionRow → Bool → CommandEnd → Type 0
MigrateStops before after row new_row is_new Memory = ReadsAlike before after
MigrateStops before after row new_row is_new (Failed role) =
    ReadsOthersAlike before after new_row.id × SparesSession before after new_row.id
    × AreTurned before after row new_row role
MigrateStops before after row new_row is_new (Refused role why) = IsRefusedMove before row new_row is_new role why
    × ReadsAlike before after
MigrateStops before after row new_row is_new end = ⊥

-- the session that the fault line of a disk names
abbrev pub session_at : ℕ → ℕ → Bool → ℕ
session_at session new_session is_new = if is_new then new_session else session

-- ---- how it ends ----

abbrev pub migrated_line : ℕ → ℕ → Found → List ℕ
migrated_line session new_session f =
    line_with_end (codes "migrated" ∷ decimal session ∷ decimal new_session ∷ decimal (length (accepted_in f)) ∷ decimal
    f.removed ∷ decimal (length f.received) ∷ [])

-- the disks are not moved, and this holds of the session that the fault names
abbrev pub StopsSo : Option (List ℕ) → Option (List ℕ) → Places → Places → (ℕ → Type 0) → ℕ → ℕ → CommandEnd → List ℕ
    → Type 0
StopsSo file new_file before after Named session new_session end output =
    (row : SessionRow) × (new_row : SessionRow) × (is_new : Bool)
    × AreRows file new_file session new_session row new_row
    × Named (session_at session new_session is_new) × MigrateStops before after row new_row is_new end
    × (output ≡ end_line (session_at session new_session is_new) end)

-- what moving a session is to write, and what it leaves, by how it ends. `fails` says which disk failed
abbrev pub Migrates : Option (List ℕ) → Option (List ℕ) → Places → Places → (ℕ → Role → Type 0) → ℕ → ℕ → CommandEnd
    → List ℕ → Type 0
Migrates file new_file before after fails session new_session Done output =
    (row : SessionRow) × (new_row : SessionRow) × (f : Found) × AreRows file new_file session new_session row new_row
    × IsMigrated before after row new_row f × (output ≡ migrated_line session new_session f)
Migrates file new_file before after fails session new_session Memory output = ReadsAlike before after × (output ≡ [])
Migrates file new_file before after fails session new_session Unread output = (after ≡ before)
    × (output ≡ end_line session Unread)
Migrates file new_file before after fails session new_session (NoRow why) output =
    HasNoRows file new_file session new_session why × (after ≡ before) × (output ≡ table_line why)
Migrates file new_file before after fails session new_session (Failed role) output = StopsSo file new_file before after
    (λ named. fails named role) session new_session (Failed role) output
Migrates file new_file before after fails session new_session (Refused role why) output = StopsSo file new_file before
    after (λ named. Unit {0}) session new_session (Refused role why) output
Migrates file new_file before after fails session new_session end output = ⊥

-- ---- for the private functions and the proofs ----

-- the counts of what was found
abbrev pub AreCounts : Found → Counts → Type 0
AreCounts f counts = (counts.accepted ≡ length (accepted_in f)) × (counts.removed ≡ f.removed)
    × (counts.received ≡ length f.received)

abbrev pub counted_line : ℕ → ℕ → Counts → List ℕ
counted_line session new_session counts =
    line_with_end (codes "migrated" ∷ decimal session ∷ decimal new_session ∷ decimal counts.accepted ∷ decimal
    counts.removed ∷ decimal counts.received ∷ [])

abbrev pub MigratesTo : Places → Places → SessionRow → SessionRow → Counts → Type 0
MigratesTo before after row new_row counts = (f : Found) × IsMigrated before after row new_row f × AreCounts f counts

-- the disks are not moved, and this session's is the cause
abbrev pub HaltsSo : Places → Places → SessionRow → SessionRow → Halt → Type 0
HaltsSo before after row new_row halt =
    (is_new : Bool) × (halt.session ≡ session_at row.id new_row.id is_new)
    × MigrateStops before after row new_row is_new halt.end

-- the counts as they are told
abbrev pub counted : Result (ℕ × ℕ × ℕ) MoveFault → Result Counts MoveFault
counted (Ok n) = Ok (record { accepted = n.0; removed = n.1; received = n.2 })
counted (Err fault) = Err fault

-- the end of a move, with the session that a fault line names
abbrev pub halt_of : ℕ → ℕ → MoveFault → Halt
halt_of session new_session fault = record {
  session = session_at session new_session fault.new;
  end = end_at fault.role
      (Some fault.why);
}

abbrev pub halted : ℕ → ℕ → Result Counts MoveFault → Result Counts Halt
halted session new_session (Ok counts) = Ok counts
halted session new_session (Err fault) = Err (halt_of session new_session fault)

-- off the shelf: three disks stood for what was found, and three empty ones stand for it now
pub record MovesTo {D : Type 0} (d : Meaning D) (row new_row : SessionRow) (old new now : Trio D)
    (counts : Counts) : Type 0 where
  pub found : Found
  pub stand : StandForFound row found (d.reading old.low) (d.reading old.high) (d.reading old.recv)
  pub empty : first_full (d.reading new.low) (d.reading new.high) (d.reading new.recv) ≡ None
  pub moved : StandForFound new_row found (d.reading now.low) (d.reading now.high) (d.reading now.recv)
  pub written : AreMoved new_row found (d.reading old.recv) (d.reading now.low) (d.reading now.high)
      (d.reading now.recv)
  pub counted : AreCounts found counts

-- .. the disk of this role failed
abbrev pub FailsAt : {D : Type 0} → Meaning D → Bool → Role → Trio D → Trio D → Trio D → Trio D
    → Type 0
FailsAt d true role old old_now new new_now = RoseAt d role new new_now
FailsAt d false role old old_now new new_now = RoseAt d role old old_now

-- .. or it is refused, and nothing was written
pub record StopsMove {D : Type 0} (d : Meaning D) (row new_row : SessionRow) (old old_now new new_now : Trio D)
    (fault : MoveFault) : Type 0 where
  pub failed : is_device fault.why ≡ true → FailsAt d fault.new fault.role old old_now new new_now
  pub turn : d.tells → (f : Found) → StandForFound row f (d.reading old.low) (d.reading old.high) (d.reading old.recv)
      → AreInTurn new_row f fault.role (d.reading new.low) (d.reading new.high) (d.reading new.recv)
      (d.reading new_now.low) (d.reading new_now.high) (d.reading new_now.recv)
  pub unwritten : is_device fault.why ≡ false → ReadOn d new new_now
  pub refused : is_device fault.why ≡ false → d.tells
      → IsMoveRefused row new_row receiver_size (d.reading old.low) (d.reading old.high) (d.reading old.recv)
      (d.reading new.low) (d.reading new.high) (d.reading new.recv) fault

-- before anything is written
abbrev pub MigratesSo : Option (List ℕ) → Option (List ℕ) → Places → Places → (ℕ → Role → Type 0) → ℕ → ℕ
    → Result Counts Halt → Type 0
MigratesSo file new_file before after fails session new_session (Ok counts) =
    Migrates file new_file before after fails session new_session Done (counted_line session new_session counts)
MigratesSo file new_file before after fails session new_session (Err halt) =
    Migrates file new_file before after fails session new_session halt.end (end_line halt.session halt.end)

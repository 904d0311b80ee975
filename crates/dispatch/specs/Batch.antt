-- What `batch` promises of each command.
use Rattle.std.specs.Prelude.{◌≡◌, ◌⊎◌, ℕ, List, [], Option, IfSome}
use Rattle.std.specs.Io.KnownBytes.{Appends}
use Rattle.command_line.specs.declared.command.Command.{Command}
use Rattle.command_line.specs.declared.command.Command.TheVariants.{Replay, Chain, Format, Show, Migrate, Wrap, Unwrap}
use Rattle.command_line.specs.declared.command.Command.TheVariants.{Messages, Status, Exercise, Audit, Compare}
use Rattle.disk_model.specs.Disk.{Meaning}
use Rattle.disk_model.specs.Shelf.{Holdings}
use Rattle.disk_model.specs.declared.name.Role.TheVariants.{Recv}
use Rattle.pump_frame.specs.Counts.{Rose}
use Rattle.script_replay.specs.Ends.{EndsReplay}
use Rattle.script_replay.specs.Failing.{FailsAt}
use Rattle.script_replay.specs.Replays.{IsFailed, Wrote}
use Rattle.script_replay.specs.Shelves.{shelved}
use Rattle.script_replay.specs.Told.{TellsFault}
use Rattle.command_ends.specs.CommandEnds.{EndsWithStatus}
use Rattle.commands.specs.Auditing.{EndsAudit, EndsComparison}
use Rattle.commands.specs.Formatting.{Formats}
use Rattle.commands.specs.LentDisks.{RecvFailsAt}
use Rattle.commands.specs.Messages.{PrintsMessages}
use Rattle.commands.specs.Migrating.{Migrates}
use Rattle.commands.specs.ReadDisks.{disk_file}
use Rattle.commands.specs.Showing.{Shows}
use Rattle.commands.specs.Telling.{TellsStatus}
use Rattle.commands.specs.Unwrapping.{EndsUnwrap}
use Rattle.commands.specs.Wrapping.{WrapsAll}
use Rattle.exercises.specs.Exercises.{EndsExercise}
use Rattle.dispatch.specs.Chains.{EndsChainWith}
use Rattle.dispatch.specs.Servings.{SourceTells}

-- What the status of a command tells: what is so where memory was wanting, a read failed, or a disk did. It never
-- tells that the words are no command.
pub record HasBatchCause (Memory Read Disk : Type 0) (status : ℕ) : Type 0 where
  pub memory : status ≡ 1 → Memory
  pub words : status ≡ 2 → ⊥
  pub read : status ≡ 3 → Read
  pub disk : status ≡ 7 → Disk

-- `m` is what the shelf tells, `d` what its disks do. Of the shelf and of what is written the second value is that at
-- the end.
module _ {H D : Type 0} (m : Holdings H) (d : Meaning D) (shelf now_shelf : H) (script : SourceTells)
    (written now_written : Option (List ℕ)) (status : ℕ) where
  -- ---- by which cause ----

  -- a disk failed, a file of the shelf was not read, the script was not, and nothing was written
  abbrev pub DiskFailed : Type 0
  DiskFailed = Rose (m.disk_faults shelf) (m.disk_faults now_shelf)

  abbrev pub FileFailed : Type 0
  FileFailed = Rose (m.faults shelf) (m.faults now_shelf)

  abbrev pub ScriptFailed : Type 0
  ScriptFailed = Rose script.faults script.now_faults

  abbrev pub WroteNothing : Type 0
  WroteNothing = Appends written now_written []

  -- a line of the script tells that the disk of a low side alone fails, whatever the shelf tells
  abbrev pub IsTold : Type 0
  IsTold = TellsFault script.left script.now_left
      × (m.tells → d.tells → Wrote script.left written now_written
      (IsFailed (shelved (m.disk shelf) (m.disk now_shelf)) script.now_left))

  -- A command that reads the script has written nothing where memory was wanting. To the commands beside a relay a
  -- file of a disk that is not read is a disk that failed.
  abbrev pub BatchCause : Command → Type 0
  BatchCause Replay = HasBatchCause WroteNothing ScriptFailed (DiskFailed ⊎ IsTold) status
  BatchCause Chain = HasBatchCause WroteNothing ScriptFailed DiskFailed status
  BatchCause Audit = HasBatchCause WroteNothing ScriptFailed DiskFailed status
  BatchCause Compare = HasBatchCause WroteNothing ScriptFailed DiskFailed status
  BatchCause (Wrap table session) = HasBatchCause Unit (FileFailed ⊎ ScriptFailed) DiskFailed status
  BatchCause (Messages table session from) = HasBatchCause Unit FileFailed FileFailed status
  BatchCause (Status table session) = HasBatchCause Unit FileFailed FileFailed status
  BatchCause _ = HasBatchCause Unit FileFailed DiskFailed status

  -- ---- how it ends ----

  -- The commands beside a relay take no disk off the shelf, and those over records and an exercise leave it.
  abbrev pub BatchEnds : Command → Type 0
  BatchEnds Replay = m.tells → d.tells
      → EndsReplay status (m.disk shelf) (m.disk now_shelf) (FailsAt m d shelf now_shelf) script.left script.now_left
      written now_written script.faults script.now_faults
  BatchEnds Chain = m.tells → d.tells
      → EndsChainWith status (m.disk shelf) (m.disk now_shelf) (FailsAt m d shelf now_shelf) script.left
      script.now_left written now_written script.faults script.now_faults
  BatchEnds (Format table session) = m.tells → d.tells
      → EndsWithStatus (Formats (m.file shelf table) (m.disk shelf) (m.disk now_shelf) (FailsAt m d shelf now_shelf)
      session) written now_written status
  BatchEnds (Show table session) = m.tells → d.tells
      → EndsWithStatus (Shows (m.file shelf table) (m.disk shelf) (m.disk now_shelf) (FailsAt m d shelf now_shelf)
      session) written now_written status
  BatchEnds (Migrate table session new_table new_session) = m.tells → d.tells
      → EndsWithStatus (Migrates (m.file shelf table) (m.file shelf new_table) (m.disk shelf) (m.disk now_shelf)
      (FailsAt m d shelf now_shelf) session new_session) written now_written status
  BatchEnds (Wrap table session) = m.tells → d.tells
      → EndsWithStatus (WrapsAll (m.faults shelf) (m.faults now_shelf) (m.file shelf table) (m.disk shelf)
      (m.disk now_shelf) (FailsAt m d shelf now_shelf) session script.left script.now_left) written now_written status
  BatchEnds (Unwrap table session) = m.tells → d.tells
      → EndsUnwrap (m.file shelf table) (m.disk shelf) (m.disk now_shelf) (RecvFailsAt m d shelf now_shelf) session
      written now_written status
  BatchEnds (Messages table session from) = (m.disk now_shelf ≡ m.disk shelf) × (m.tells
      → EndsWithStatus (PrintsMessages (m.file shelf table) (disk_file (m.file shelf) session Recv) session from)
      written now_written status)
  BatchEnds (Status table session) = (m.disk now_shelf ≡ m.disk shelf) × (m.tells
      → EndsWithStatus (TellsStatus (m.file shelf table) (disk_file (m.file shelf) session) FileFailed session)
      written now_written status)
  BatchEnds (Exercise seed count) = (now_shelf ≡ shelf) × EndsExercise seed count written now_written status
  BatchEnds Audit = (now_shelf ≡ shelf)
      × IfSome script.left (λ bytes. EndsAudit bytes ScriptFailed written now_written status)
  BatchEnds Compare = (now_shelf ≡ shelf)
      × IfSome script.left (λ bytes. EndsComparison bytes ScriptFailed written now_written status)
  BatchEnds _ = Unit {0}

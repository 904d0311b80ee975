-- What the record of a session that is served is replayed to.
use Rattle.std.specs.Prelude.{◌≡◌, true, false, List, [], Some}
use Rattle.pump_frame.specs.declared.row.SessionRow.{SessionRow}
use Rattle.pump_core.specs.History.{Opening}
use Rattle.script_reader.specs.Lines.{AreLines}
use Rattle.script_reader.specs.Openings.{Openings}
use Rattle.relay_threads.specs.Records.{Made, record_of}
use Rattle.relay_threads.specs.RecordLines.{record_text, record_script}
use Rattle.relay_threads.specs.Replays.{Replays, StopsAtLast, is_lost}

-- The bytes of the record are a script, which has a transcript whatever any disks are found to hold. The
-- `low` lines of that are the replies that the comments between its lines tell. Where the last recorded
-- look lost its message, that look stops the script, and the `low` lines up to and with it are the replies.
pub record ReplaysToItself (opens : Openings) (row : SessionRow) (o : Opening) (made : List Made) : Type 0 where
  pub lines : AreLines (Some (record_text row o made)) (record_script row o made) (Some [])
  pub whole : is_lost (record_of made) ≡ false → Replays opens row o made
  pub stopped : is_lost (record_of made) ≡ true → StopsAtLast opens row o made

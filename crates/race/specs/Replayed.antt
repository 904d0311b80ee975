-- What the record of a race is replayed to.
use Rattle.std.specs.Prelude.{◌≡◌, ℕ, List, [], ◌++◌, Some}
use Rattle.script_reader.specs.Generated.{generated_row}
use Rattle.script_reader.specs.Lines.{AreLines}
use Rattle.script_reader.specs.Openings.{Openings}
use Rattle.relay_threads.specs.Records.{Made}
use Rattle.relay_threads.specs.RecordLines.{record_text, record_script}
use Rattle.relay_threads.specs.Replays.{Replays}
use Rattle.race.specs.Messages.{race_opening}

-- The bytes, but for the comments at their end, are a script, which has a transcript whatever any disks are
-- found to hold. The `low` lines of that are the replies that the comments between its lines tell.
pub record ReplaysToItself (opens : Openings) (bytes : List ℕ) : Type 0 where
  pub made : List Made
  pub comments : List ℕ
  pub bytes_are : bytes ≡ record_text generated_row race_opening made ++ comments
  pub lines : AreLines (Some (record_text generated_row race_opening made)) (record_script generated_row race_opening
      made) (Some [])
  pub replays : Replays opens generated_row race_opening made

-- What the low worker of a session does.
use Rattle.std.specs.Prelude.{◌≡◌, ℕ, ◌+◌, ◌-◌, true, false, Bool, List, [], ◌++◌, length, map, Option, Some}
use Rattle.std.specs.List.{All, AllByRecursion}
use Rattle.std.specs.Option.{option_to_list}
use Rattle.std.specs.Io.KnownBytes.{Appends}
use Rattle.rand_chacha.specs.ChaCha.{key_of}
use Rattle.delay_table.specs.Streams.{AreWords}
use Rattle.disk_model.specs.Disk.{Meaning}
use Rattle.pump_frame.specs.declared.frame.Item.{Item}
use Rattle.pump_frame.specs.declared.row.SessionRow.{SessionRow}
use Rattle.pump_link.specs.Tells.{Draws}
use Rattle.pump_core.specs.Exchanges.{Part, IsCut, count_after}
use Rattle.pump_core.specs.Passage.{Low, NeverFall}
use Rattle.pump_core.specs.Phases.{Phase, Down}
use Rattle.pump_core.specs.Standing.{phase_after}
use Rattle.stable_buffer.specs.Low.{StandsForCount}
use Rattle.relay_threads.specs.LowEnds.{HasAll, passed_in, fulls_in}
use Rattle.relay_threads.specs.LowStays.{Stay, AreStays, TellsVisit, is_kept_by, stayed, steps, answers, moments_in}
use Rattle.relay_threads.specs.LowStays.{words_in}
use Rattle.relay_threads.specs.PairsRead.{pairs_of}
use Rattle.relay_threads.specs.Reaching.{Reaches}
use Rattle.relay_threads.specs.Records.{Made, AreMade, life_made}
use Rattle.relay_threads.specs.RecordLines.{record_text}
use Rattle.relay_threads.specs.Replays.{AreReadable, TellLevels}
use Rattle.relay_threads.specs.StoredMessages.{stored_in, payloads, StandsForLast}
use Rattle.relay_threads.specs.Workers.{CountsEnd}
use Rattle.relay_threads.specs.declared.rounds_end.RoundsEnd.{RoundsEnd}
use Rattle.serving.specs.Doors.{DoorsTell, AtDoor}
use Rattle.serving.specs.Finding.{AtOpening, between_hands, low_opening}
use Rattle.serving.specs.LowEnds.{EndsLow}
use Rattle.relay_side.specs.Sides.{SideTells}

-- What a low end did from the opening on, by the looks that were made, the newest first.
pub record DidLow (row : SessionRow) (o : AtOpening) (made : List Made) (l : Low) : Type 0 where
  -- a message was forwarded for each look that passed it on
  pub passed : length l.forwarded ≡ length (between_hands row o) + passed_in made
  -- with at most one in the hand, what was forwarded is what the opening found behind the high hand, and all that
  -- was stored since, each message in its turn
  pub items : (hand : Option Item) × HasAll row (low_opening o) made (between_hands row o ++ option_to_list o.low_hand)
      l.forwarded hand
  -- a try was in vain for each look that found the passage full, and all places were
  pub fulls : map (λ t. t.0) l.tries ≡ fulls_in (length (between_hands row o)) made
  pub full : All (λ t. t.0 ≡ t.1 + (row.capacity - 2)) l.tries
  -- the pairs that were read are those that the looks tell
  pub pairs : l.pairs ≡ pairs_of made

-- the low disk has failed
abbrev pub is_lost : Phase → Bool
is_lost Down = true
is_lost _ = false

-- The low worker made its rounds, or ended before: from this opening on, at a door of the row's low port, by the
-- readings of the low side's clock, with the words of the key, over the low disk. `l` is what was done at its end of
-- the passage.
pub record LowServed {D L S : Type 0} (t : DoorsTell D L) (m : Meaning S) (row : SessionRow) (rounds : ℕ) (key : List ℕ)
    (side : SideTells D L)
    (written now_written : Option (List ℕ)) (faults now_faults : ℕ) (o : AtOpening) (l : Low) (disk now_disk : S)
    (end : RoundsEnd) : Type 0 where
  -- the stays, whose looks are the life of the low process from the opening on, each with the reply that is due
  pub is_opened : Bool
  pub stays : List (Stay L)
  pub are : AreStays row (low_opening o) [] stays
  pub made : AreMade row (low_opening o) (stayed [] stays)
  pub ends : EndsLow is_opened stays rounds end
  pub at : AtDoor t side.ports row.low_port (steps stays) (answers stays)
  pub links : AllByRecursion (TellsVisit t.links.gives t.links.sent t.links.faults) stays
  pub moments : Draws side.reads side.now_reads (moments_in stays)
  pub words : AreWords (key_of key) 0 0 (words_in stays)
  -- the record of these looks was written, or a prefix of it
  pub tape : Reaches (Appends written now_written) faults now_faults (is_kept_by (Some end))
      (record_text row (low_opening o) (stayed [] stays))
  -- a reader of scripts reads each line of it
  pub readable : AreReadable row (low_opening o) (stayed [] stays)
  -- .. and each average that it tells is a level, where the session is coarse
  pub levels : TellLevels row (stayed [] stays)
  -- the counts that the looks tell never fall
  pub rising : NeverFall (pairs_of (stayed [] stays))
  -- what the looks did at the end of the passage
  pub did : DidLow row o (stayed [] stays) l
  -- the disk counts what the life stored, and has the last of the messages that were found and stored, unless it
  -- failed
  pub left : m.tells → (parts : List Part) × IsCut row (life_made (low_opening o) (stayed [] stays)) parts
      × (is_lost (phase_after row (low_opening o) parts) ≡ false
      → StandsForCount row (count_after (low_opening o) parts) (m.reading now_disk)
      × StandsForLast row o.removed (o.messages ++ payloads (stored_in parts)) (m.reading now_disk))
  pub device : CountsEnd (Some end) (m.count disk) (m.count now_disk)

-- What a session has been through, when a script has run so far.
use Rattle.std.specs.Prelude.{ℕ, Bool, List, length}
use Rattle.pump_frame.specs.Averages.{averaging_of, average_of}
use Rattle.pump_frame.specs.Readings.{Reading}
use Rattle.pump_frame.specs.declared.row.SessionRow.{SessionRow}
use Rattle.pump_core.specs.declared.feedback.Seen.{Seen}
use Rattle.pump_core.specs.History.{Arrival, History}
use Rattle.pump_core.specs.HighLooks.{HighPast}
use Rattle.pump_core.specs.Sendings.{Sending}
use Rattle.pump_core.specs.World.{World}

pub record Past : Type 0 where
  -- the low history, each look with its arrival and its feedback
  pub history : History
  -- what came on the low connection and was not taken, the oldest first; bad bytes stand in it once
  pub waits : List Arrival
  -- bad bytes were taken on this connection: what waits is behind them
  pub is_broken : Bool
  -- what the reader of the connection holds: the bytes since the last whole frame, or the place where
  -- it met bad bytes
  pub reading : Reading
  -- what was accepted, the hands and what is held, the receiver's list, the packets
  pub world : World
  -- so many TAKEN were sent before the session began
  pub returned_before : ℕ
  -- the times that were published since the opening, the oldest first
  pub times : List ℕ
  -- the sendings since the opening, the newest first
  pub sends : List Sending
  -- the moment of the last line that had one
  pub moment : ℕ

-- what a read of High's times gives: how many were published, and their average
abbrev pub pair : SessionRow → Past → Seen
pair row p = record { count = length p.times; average = average_of (averaging_of row) p.times }

-- what its high side has come to
abbrev pub high_of : Past → HighPast
high_of p = record { world = p.world; times = p.times; sends = p.sends }

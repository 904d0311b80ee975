-- The low side of a script, and what its transcript says that was told to Low.
use Rattle.std.specs.Prelude.{◌≡◌, ◌≢◌, ℕ, Bool, true, false, List, filter, filter_map, AllPairs, Option, Some, None}
use Rattle.std.specs.List.{All}
use Rattle.pump_core.specs.Timed.{opening_in}
use Rattle.script_reader.specs.Openings.{Openings, opened_world}
use Rattle.script_reader.specs.declared.line.Line.{Line}
use Rattle.script_reader.specs.declared.line.Line.TheVariants as lines
use Rattle.script_reader.specs.declared.event.Event.{Event}
use Rattle.script_reader.specs.declared.event.Event.TheVariants as prints

-- a line is low's own: it begins the session, makes it coarse, makes a low look, says that low's connection is
-- gone, or opens both processes again. The others are High's, the network's and the receiver's, or are skipped
abbrev pub is_lows : Line → Bool
is_lows (lines.Session row) = true
is_lows (lines.LowSession row next held) = true
is_lows (lines.Coarse session) = true
is_lows (lines.Look session m w a) = true
is_lows (lines.Told session m w fault told a) = true
is_lows (lines.Step session m w) = true
is_lows (lines.Gone session m) = true
is_lows (lines.Restart session m) = true
is_lows _ = false

-- low's own lines of a script, in their order
abbrev pub low_side_of : List Line → List Line
low_side_of script = filter is_lows script

-- what comes down to Low: the buffer is full, it has taken a message that nobody waits for any more, the
-- average of an exchange, or at a restart whether the buffer is found full
pub data Told : Type 0 where
  Full : Told
  Released : Told
  Average : (average : ℕ) → Told
  Restarted : (is_held : Bool) → Told

-- what a printed line says that Low was told; its moment and its counts are left out
abbrev pub told : Event → Option Told
told (prints.Full session m) = Some Full
told (prints.Released session m) = Some Released
told (prints.Passed session m seen) = Some (Average seen.average)
told (prints.Repeat session m seen) = Some (Average seen.average)
told (prints.Restart session m accepted removed held) = Some (Restarted held)
told _ = None

-- what these lines say that Low was told, in their order
abbrev pub told_to_low : List Event → List Told
told_to_low printed = filter_map told printed

-- ---- the same without the messages that nobody waits for ----

-- the moments at which a transcript says that the buffer was full
abbrev pub full_at : Event → Option ℕ
full_at (prints.Full session m) = Some m
full_at _ = None

abbrev pub full_moments : List Event → List ℕ
full_moments printed = filter_map full_at printed

-- the averages in a transcript, one for each exchange that read one
abbrev pub average_in : Event → Option ℕ
average_in (prints.Passed session m seen) = Some seen.average
average_in (prints.Repeat session m seen) = Some seen.average
average_in _ = None

abbrev pub averages : List Event → List ℕ
averages printed = filter_map average_in printed

-- whether the buffer is found full, at each restart in their order
abbrev pub found_full : Event → Option Bool
found_full (prints.Restart session m accepted removed held) = Some held
found_full _ = None

abbrev pub restarts_in : List Event → List Bool
restarts_in printed = filter_map found_full printed

-- the moment of a low look
abbrev pub look_moment : Line → Option ℕ
look_moment (lines.Look session m w a) = Some m
look_moment (lines.Told session m w fault told a) = Some m
look_moment (lines.Step session m w) = Some m
look_moment (lines.Gone session m) = Some m
look_moment _ = None

-- no two of these lines are low looks at one moment
abbrev pub HaveOwnMoments : List Line → Type 0
HaveOwnMoments script = AllPairs (λ a b. a ≢ b) (filter_map look_moment script)

-- ---- what the sessions begin with ----

-- the session of such a line finds as many messages in both openings, and the buffer full in both or in
-- none
abbrev pub OpensAlike : Openings → Openings → Line → Type 0
OpensAlike o other (lines.Session row) =
    opening_in (opened_world row (o row.id)) ≡ opening_in (opened_world row (other row.id))
OpensAlike o other line = Unit {0}

-- .. each of a script's sessions
abbrev pub OpenAlike : Openings → Openings → List Line → Type 0
OpenAlike o other script = All (OpensAlike o other) script

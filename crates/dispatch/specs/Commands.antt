-- Which commands `batch` runs and which `live` does, and what each of these uses.
use Rattle.std.specs.Prelude.{◌≡◌, ℕ, Bool, true, false, List}
use Rattle.command_line.specs.Commands.{AreWordsOf}
use Rattle.command_line.specs.declared.command.Command.{Command}
use Rattle.command_line.specs.declared.command.Command.TheVariants.{Replay, Race, Serve, Receive, Send, Append, Wrap}
use Rattle.command_line.specs.declared.command.Command.TheVariants.{Audit, Compare, Chain, DropFiles, CollectFiles}

-- a command with threads or over a socket is for `live`
abbrev pub is_live : Command → Bool
is_live (Race seed count times) = true
is_live (Serve table session looks) = true
is_live (Receive table session looks) = true
is_live (Send table session looks) = true
is_live (Append table session looks) = true
is_live _ = false

-- one that needs neither, nor a folder of files, is for `batch`
abbrev pub is_batch : Command → Bool
is_batch (Race seed count times) = false
is_batch (Serve table session looks) = false
is_batch (Receive table session looks) = false
is_batch (Send table session looks) = false
is_batch (Append table session looks) = false
is_batch (DropFiles table session looks folder) = false
is_batch (CollectFiles table session looks folder) = false
is_batch _ = true

-- the words are no command of which this holds
abbrev pub IsNoneThat : (Command → Bool) → List (List ℕ) → Type 0
IsNoneThat holds words = (c : Command) → holds c ≡ true → AreWordsOf words c → ⊥

-- .. none that `batch` runs
abbrev pub IsNoCommand : List (List ℕ) → Type 0
IsNoCommand words = IsNoneThat is_batch words

-- .. that `live` runs
abbrev pub IsNoLiveCommand : List (List ℕ) → Type 0
IsNoLiveCommand words = IsNoneThat is_live words

-- ---- what a command uses ----

-- of those of `batch` these read the script; a file that is sent is read in its place
abbrev pub reads_script : Command → Bool
reads_script Replay = true
reads_script Chain = true
reads_script Audit = true
reads_script Compare = true
reads_script (Wrap table session) = true
reads_script _ = false

-- of those of `live` these do
abbrev pub sends_script : Command → Bool
sends_script (Send table session looks) = true
sends_script (Append table session looks) = true
sends_script _ = false

-- .. and these are for a session of a table
abbrev pub is_over_table : Command → Bool
is_over_table (Serve table session looks) = true
is_over_table (Receive table session looks) = true
is_over_table (Send table session looks) = true
is_over_table (Append table session looks) = true
is_over_table _ = false

-- .. at the ports of the low side, and of the high side
abbrev pub is_at_low : Command → Bool
is_at_low (Serve table session looks) = true
is_at_low (Send table session looks) = true
is_at_low (Append table session looks) = true
is_at_low _ = false

abbrev pub is_at_high : Command → Bool
is_at_high (Serve table session looks) = true
is_at_high (Receive table session looks) = true
is_at_high _ = false

-- .. and these read the low clock, and the keys with the high clock
abbrev pub is_timed : Command → Bool
is_timed (Race seed count times) = true
is_timed (Serve table session looks) = true
is_timed _ = false

abbrev pub reads_keys : Command → Bool
reads_keys (Serve table session looks) = true
reads_keys _ = false

-- What clap finds in the words of a command.
use Rattle.std.specs.Prelude.{◌≡◌, ℕ, List, codes, decimal, Option, Some, None}
use Rattle.clap.specs.Walk.{Row, first_of}
use Rattle.clap.specs.Simple.{subcommand_rows_of}
use Rattle.clap.specs.declared.parser.matches.ArgMatches.{ArgMatches}
use Rattle.command_line.specs.TimeLists.{times_word}
use Rattle.command_line.specs.declared.command.Command.{Command}
use Rattle.command_line.specs.declared.command.Command.TheVariants.{Replay, Format, Show, Exercise, Race, Serve}
use Rattle.command_line.specs.declared.command.Command.TheVariants.{Receive, Send, Append, Migrate, Wrap, Unwrap}
use Rattle.command_line.specs.declared.command.Command.TheVariants.{Messages, Status, Audit, Compare, Chain}
use Rattle.command_line.specs.declared.command.Command.TheVariants.{DropFiles, CollectFiles}

-- the values that were found are this session of the table
abbrev pub GivesSession : List ℕ → ℕ → List Row → Type 0
GivesSession table session rows = (first_of (codes "TABLE") rows ≡ Some table)
    × (first_of (codes "S") rows ≡ Some (decimal session))

-- .. this session of the new table
abbrev pub GivesNewSession : List ℕ → ℕ → List Row → Type 0
GivesNewSession table session rows = (first_of (codes "NEWTABLE") rows ≡ Some table)
    × (first_of (codes "T") rows ≡ Some (decimal session))

-- .. this session of the table and this number of looks
abbrev pub GivesLooks : List ℕ → ℕ → ℕ → List Row → Type 0
GivesLooks table session looks rows = (first_of (codes "TABLE") rows ≡ Some table)
    × (first_of (codes "S") rows ≡ Some (decimal session)) × (first_of (codes "LOOKS") rows ≡ Some (decimal looks))

-- .. this session of the table, this number of looks and this folder
abbrev pub GivesFolder : List ℕ → ℕ → ℕ → List ℕ → List Row → Type 0
GivesFolder table session looks folder rows = GivesLooks table session looks rows
    × (first_of (codes "FOLDER") rows ≡ Some folder)

-- .. this session of the table and this number of a message
abbrev pub GivesFrom : List ℕ → ℕ → ℕ → List Row → Type 0
GivesFrom table session from rows = (first_of (codes "TABLE") rows ≡ Some table)
    × (first_of (codes "S") rows ≡ Some (decimal session)) × (first_of (codes "FROM") rows ≡ Some (decimal from))

-- the name and the values that were found are those of this command
abbrev pub Gives : Command → List ℕ → List Row → Type 0
Gives Replay name rows = name ≡ codes "replay"
Gives (Format table session) name rows = (name ≡ codes "format") × GivesSession table session rows
Gives (Show table session) name rows = (name ≡ codes "show") × GivesSession table session rows
Gives (Exercise seed count) name rows = (name ≡ codes "exercise") × (first_of (codes "SEED") rows ≡ Some (decimal seed))
    × (first_of (codes "COUNT") rows ≡ Some (decimal count))
Gives (Race seed count times) name rows = (name ≡ codes "race") × (first_of (codes "SEED") rows ≡ Some (decimal seed))
    × (first_of (codes "COUNT") rows ≡ Some (decimal count))
    × (first_of (codes "TIMES") rows ≡ Some (times_word times.items))
Gives (Serve table session looks) name rows = (name ≡ codes "serve") × GivesLooks table session looks rows
Gives (Receive table session looks) name rows = (name ≡ codes "receive") × GivesLooks table session looks rows
Gives (Send table session looks) name rows = (name ≡ codes "send") × GivesLooks table session looks rows
Gives (Append table session looks) name rows = (name ≡ codes "append") × GivesLooks table session looks rows
Gives (DropFiles table session looks folder) name rows = (name ≡ codes "drop")
    × GivesFolder table session looks folder rows
Gives (CollectFiles table session looks folder) name rows = (name ≡ codes "collect")
    × GivesFolder table session looks folder rows
Gives (Migrate table session new_table new_session) name rows = (name ≡ codes "migrate")
    × GivesSession table session rows × GivesNewSession new_table new_session rows
Gives (Wrap table session) name rows = (name ≡ codes "wrap") × GivesSession table session rows
Gives (Unwrap table session) name rows = (name ≡ codes "unwrap") × GivesSession table session rows
Gives (Messages table session from) name rows = (name ≡ codes "messages") × GivesFrom table session from rows
Gives (Status table session) name rows = (name ≡ codes "status") × GivesSession table session rows
Gives Audit name rows = name ≡ codes "audit"
Gives Compare name rows = name ≡ codes "compare"
Gives Chain name rows = name ≡ codes "chain"

-- it looks at a link
abbrev pub HasLooks : Command → Type 0
HasLooks (Serve table session looks) = Unit {0}
HasLooks (Receive table session looks) = Unit {0}
HasLooks (Send table session looks) = Unit {0}
HasLooks (Append table session looks) = Unit {0}
HasLooks (DropFiles table session looks folder) = Unit {0}
HasLooks (CollectFiles table session looks folder) = Unit {0}
HasLooks other = ⊥

abbrev pub GivesIn : Command → Option (List ℕ × List Row) → Type 0
GivesIn command None = ⊥
GivesIn command (Some found) = Gives command found.0 found.1

-- clap found the command and its values
abbrev pub Finds : Command → ArgMatches → Type 0
Finds command matches = GivesIn command (subcommand_rows_of matches)

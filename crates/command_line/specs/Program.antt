-- What clap is told of the commands.
use Rattle.std.specs.Prelude.{codes, true, List, fold}
use Rattle.std.specs.Borrow.{Bor}
use Rattle.clap.specs.Walk.{Rule, Text}
use Rattle.clap.specs.Simple.{App, new_app, new_rule, with_rule, with_subcommand}
use Rattle.command_line.specs.declared.command.Command.{Command}
use Rattle.command_line.specs.declared.command.Command.TheVariants.{Replay, Format, Show, Exercise, Race, Serve}
use Rattle.command_line.specs.declared.command.Command.TheVariants.{Receive, Send, Append, Migrate, Wrap, Unwrap}
use Rattle.command_line.specs.declared.command.Command.TheVariants.{Messages, Status, Audit, Compare, Chain}
use Rattle.command_line.specs.declared.command.Command.TheVariants.{DropFiles, CollectFiles}

-- a value that has to be there
abbrev pub value_rule : Text → Rule
value_rule id = record (new_rule id) { required = true }

-- a command of its name alone, and ones with two, three and four values
abbrev pub leaf_none : Text → App
leaf_none name = new_app name

abbrev pub leaf_two : Text → Text → Text → App
leaf_two name a b = with_rule (with_rule (leaf_none name) (value_rule a)) (value_rule b)

abbrev pub leaf_three : Text → Text → Text → Text → App
leaf_three name a b c = with_rule (leaf_two name a b) (value_rule c)

abbrev pub leaf_four : Text → Text → Text → Text → Text → App
leaf_four name a b c d = with_rule (leaf_three name a b c) (value_rule d)

-- a command of its name and these values, in their order, as the code holds them
abbrev pub with_id : App → Bor Text → App
with_id command id = with_rule command (value_rule id.now)

abbrev pub leaf : Text → List (Bor Text) → App
leaf name ids = fold with_id (leaf_none name) ids

-- the program without its commands
abbrev pub bare : App
bare = let a = new_app (codes "netpump") in record a
    { top = record a.top { no_binary_name = true; disable_help_flag = true; disable_help_subcommand = true } }

-- with one command alone
abbrev pub alone : App → App
alone command = with_subcommand bare command.top

-- the commands that have the same values, by their name
abbrev pub leaf_session : Text → App
leaf_session name = leaf_two name (codes "TABLE") (codes "S")

abbrev pub leaf_looks : Text → App
leaf_looks name = leaf_three name (codes "TABLE") (codes "S") (codes "LOOKS")

abbrev pub leaf_folder : Text → App
leaf_folder name = leaf_four name (codes "TABLE") (codes "S") (codes "LOOKS") (codes "FOLDER")

-- what clap is told of each command
abbrev pub leaf_of : Command → App
leaf_of Replay = leaf_none (codes "replay")
leaf_of (Format table session) = leaf_session (codes "format")
leaf_of (Show table session) = leaf_session (codes "show")
leaf_of (Exercise seed count) = leaf_two (codes "exercise") (codes "SEED") (codes "COUNT")
leaf_of (Race seed count times) = leaf_three (codes "race") (codes "SEED") (codes "COUNT") (codes "TIMES")
leaf_of (Serve table session looks) = leaf_looks (codes "serve")
leaf_of (Receive table session looks) = leaf_looks (codes "receive")
leaf_of (Send table session looks) = leaf_looks (codes "send")
leaf_of (Append table session looks) = leaf_looks (codes "append")
leaf_of (DropFiles table session looks folder) = leaf_folder (codes "drop")
leaf_of (CollectFiles table session looks folder) = leaf_folder (codes "collect")
leaf_of (Migrate table session new_table new_session) =
    leaf_four (codes "migrate") (codes "TABLE") (codes "S") (codes "NEWTABLE") (codes "T")
leaf_of (Wrap table session) = leaf_session (codes "wrap")
leaf_of (Unwrap table session) = leaf_session (codes "unwrap")
leaf_of (Messages table session from) =
    leaf_three (codes "messages") (codes "TABLE") (codes "S") (codes "FROM")
leaf_of (Status table session) = leaf_session (codes "status")
leaf_of Audit = leaf_none (codes "audit")
leaf_of Compare = leaf_none (codes "compare")
leaf_of Chain = leaf_none (codes "chain")

-- the program of the words of this command
abbrev pub program_of : Command → App
program_of command = alone (leaf_of command)

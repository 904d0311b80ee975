-- Which words are which command.
use Rattle.std.specs.Prelude.{◌≡◌, ℕ, ◌≤◌, ◌<◌, ◌^◌, true, List, [], ◌∷◌, codes, decimal, get_or}
use Rattle.command_line.specs.TableNames.{is_table_name}
use Rattle.command_line.specs.TimeLists.{AreTimes, times_word}
use Rattle.command_line.specs.declared.command.Command.{Command}
use Rattle.command_line.specs.declared.command.Command.TheVariants.{Replay, Format, Show, Exercise, Race, Serve}
use Rattle.command_line.specs.declared.command.Command.TheVariants.{Receive, Send, Append, Migrate, Wrap, Unwrap}
use Rattle.command_line.specs.declared.command.Command.TheVariants.{Messages, Status, Audit, Compare, Chain}
use Rattle.command_line.specs.declared.command.Command.TheVariants.{DropFiles, CollectFiles}

-- a session of a table
abbrev pub IsSession : List ℕ → ℕ → Type 0
IsSession table session = (is_table_name table ≡ true) × (session < 2 ^ 32)

-- .. and a number of looks
abbrev pub IsLooking : List ℕ → ℕ → ℕ → Type 0
IsLooking table session looks = (is_table_name table ≡ true) × (session < 2 ^ 32) × (1 ≤ looks) × (looks < 2 ^ 32)

-- .. and a folder
abbrev pub IsCarrying : List ℕ → ℕ → ℕ → List ℕ → Type 0
IsCarrying table session looks folder = IsLooking table session looks × (is_table_name folder ≡ true)

-- a command: its name and its numbers are in their ranges
abbrev pub IsCommand : Command → Type 0
IsCommand Replay = Unit {0}
IsCommand (Format table session) = IsSession table session
IsCommand (Show table session) = IsSession table session
IsCommand (Exercise seed count) = (seed < 2 ^ 32) × (1 ≤ count) × (count ≤ 100000)
IsCommand (Race seed count times) = (seed < 2 ^ 32) × (1 ≤ count) × (count ≤ 100000) × AreTimes times.items
IsCommand (Serve table session looks) = IsLooking table session looks
IsCommand (Receive table session looks) = IsLooking table session looks
IsCommand (Send table session looks) = IsLooking table session looks
IsCommand (Append table session looks) = IsLooking table session looks
IsCommand (DropFiles table session looks folder) = IsCarrying table session looks folder
IsCommand (CollectFiles table session looks folder) = IsCarrying table session looks folder
IsCommand (Migrate table session new_table new_session) = IsSession table session × IsSession new_table new_session
IsCommand (Wrap table session) = IsSession table session
IsCommand (Unwrap table session) = IsSession table session
IsCommand (Messages table session from) = IsSession table session × (from < 2 ^ 32)
IsCommand (Status table session) = IsSession table session
IsCommand Audit = Unit {0}
IsCommand Compare = Unit {0}
IsCommand Chain = Unit {0}

-- its words, each as its bytes
abbrev pub words_of : Command → List (List ℕ)
words_of Replay = codes "replay" ∷ []
words_of (Format table session) = codes "format" ∷ table ∷ decimal session ∷ []
words_of (Show table session) = codes "show" ∷ table ∷ decimal session ∷ []
words_of (Exercise seed count) = codes "exercise" ∷ decimal seed ∷ decimal count ∷ []
words_of (Race seed count times) = codes "race" ∷ decimal seed ∷ decimal count ∷ times_word times.items ∷ []
words_of (Serve table session looks) = codes "serve" ∷ table ∷ decimal session ∷ decimal looks ∷ []
words_of (Receive table session looks) = codes "receive" ∷ table ∷ decimal session ∷ decimal looks ∷ []
words_of (Send table session looks) = codes "send" ∷ table ∷ decimal session ∷ decimal looks ∷ []
words_of (Append table session looks) = codes "append" ∷ table ∷ decimal session ∷ decimal looks ∷ []
words_of (DropFiles table session looks folder) =
    codes "drop" ∷ table ∷ decimal session ∷ decimal looks ∷ folder ∷ []
words_of (CollectFiles table session looks folder) =
    codes "collect" ∷ table ∷ decimal session ∷ decimal looks ∷ folder ∷ []
words_of (Migrate table session new_table new_session) = codes "migrate" ∷ table ∷ decimal session ∷ new_table ∷ decimal
    new_session ∷ []
words_of (Wrap table session) = codes "wrap" ∷ table ∷ decimal session ∷ []
words_of (Unwrap table session) = codes "unwrap" ∷ table ∷ decimal session ∷ []
words_of (Messages table session from) = codes "messages" ∷ table ∷ decimal session ∷ decimal from ∷ []
words_of (Status table session) = codes "status" ∷ table ∷ decimal session ∷ []
words_of Audit = codes "audit" ∷ []
words_of Compare = codes "compare" ∷ []
words_of Chain = codes "chain" ∷ []

-- the first of them
abbrev pub name_of : Command → List ℕ
name_of command = get_or (words_of command) 0 []

-- the words are this command
abbrev pub AreWordsOf : List (List ℕ) → Command → Type 0
AreWordsOf words command = IsCommand command × (words ≡ words_of command)

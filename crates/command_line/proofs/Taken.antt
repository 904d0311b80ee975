-- clap takes the words of each command, and finds its values. A command whose words have the shape of another one's needs two
-- lemmas of its own: what clap finds (`met`), and that it takes the words (`taken`).
use Rattle.std.proofs.Common.{◌≡◌, ℕ, ◌≤◌, ◌<◌, ◌^◌, ◌==◌, true, false, List, [], ◌∷◌, Some, None, codes, decimal, ◌&&◌, ap, ap₂, ◌∙◌, sym, subst, arith, refl}
use Rattle.std.specs.List.{list_all}
use Rattle.clap.specs.Walk.{Rule, Text, Row, Walk, rows_after, first_of, nothing_held, finished}
use Rattle.clap.specs.Simple.{Shape, subcommand_of, is_simple, filled_from, built_leaf, inherited}
use Rattle.clap.specs.Takes.{takes, level_passes, settle_passes, default_passes, is_valid}
use Rattle.clap.specs.declared.parser.matches.ValueSource.TheVariants.{CommandLine}
use Rattle.clap.specs.declared.builder.value_parser.Reading.TheVariants.{AsWritten}
use Rattle.clap.proofs.OnLiterals.{clap_on_literals}
use Rattle.command_line.specs.Commands.{IsSession, IsLooking, IsCarrying, IsCommand, AreWordsOf}
use Rattle.command_line.specs.TimeLists.{AreTimes, times_word}
use Rattle.command_line.specs.Found.{GivesSession, GivesLooks, GivesFrom, GivesFolder, GivesNewSession, Gives, GivesIn}
use Rattle.command_line.specs.Program.{bare, leaf_two, leaf_three, leaf_four, leaf_none, leaf_session, leaf_looks, leaf_folder, alone, program_of, value_rule}
use Rattle.command_line.specs.declared.command.Command.{Command}
use Rattle.command_line.specs.declared.command.Command.TheVariants.{Replay, Format, Show, Exercise, Race, Serve, Receive, Send, Append, Migrate, Wrap, Unwrap, Messages, Status, Audit, Compare, Chain, DropFiles, CollectFiles}
use Rattle.command_line.proofs.PlainWalks.{behind, walks_on, passes_on, passed}
use Rattle.command_line.proofs.Plain.{plain_decimal, plain_table, plain_times}

pub simple : (c : Command) → is_simple (program_of c) ≡ true
unfolding clap_on_literals
simple Replay = refl
simple (Format t n) = refl
simple (Show t n) = refl
simple (Exercise m n) = refl
simple (Race m n ts) = refl
simple (Serve t n k) = refl
simple (Receive t n k) = refl
simple (Send t n k) = refl
simple (Append t n k) = refl
simple (DropFiles t n k u) = refl
simple (CollectFiles t n k u) = refl
simple (Migrate t n u m) = refl
simple (Wrap t n) = refl
simple (Unwrap t n) = refl
simple (Messages t n k) = refl
simple (Status t n) = refl
simple Audit = refl
simple Compare = refl
simple Chain = refl

abbrev row : Text → Text → Row
row id v = record { id = id; values = v ∷ []; count = None; source = Some CommandLine; reading = AsWritten }

-- replay

replay_taken : takes (alone (leaf_none (codes "replay"))) (codes "replay" ∷ []) ≡ true
unfolding clap_on_literals
replay_taken = refl

replay_met : subcommand_of (alone (leaf_none (codes "replay"))) (codes "replay" ∷ []) ≡ Some (codes "replay", [])
unfolding clap_on_literals
replay_met = refl

-- a table and a session

abbrev pub table_rules : List Rule
table_rules = filled_from 1 (value_rule (codes "TABLE") ∷ value_rule (codes "S") ∷ [])

table_rows : (x y : ℕ) (xs ys : Text) → (x == 45) ≡ false → (y == 45) ≡ false
    → rows_after table_rules [] ((x ∷ xs) ∷ (y ∷ ys) ∷ []) ≡ row (codes "TABLE") (x ∷ xs) ∷ row (codes "S") (y ∷ ys) ∷ []
unfolding clap_on_literals
table_rows x y xs ys h k = simp (h, k)

session_taken : (name t : Text) (n : ℕ) → IsSession t n
    → ((x y : ℕ) (xs ys : Text) → (x == 45) ≡ false → (y == 45) ≡ false → takes (alone (leaf_session name)) (name ∷ (x ∷ xs) ∷ (y ∷ ys) ∷ []) ≡ true)
    → takes (alone (leaf_session name)) (name ∷ t ∷ decimal n ∷ []) ≡ true
session_taken name t n h taken =
    let p = plain_table t h.0 in
    let q = plain_decimal n (omega (arith, h.1)) in
    rw (p.whole, q.whole) (taken p.first q.first p.rest q.rest p.undashed q.undashed)

session_given : (t : Text) (n : ℕ) → IsSession t n → GivesSession t n (rows_after table_rules [] (t ∷ decimal n ∷ []))
session_given t n h =
    let p = plain_table t h.0 in
    let q = plain_decimal n (omega (arith, h.1)) in
    rw (p.whole, q.whole, table_rows p.first q.first p.rest q.rest p.undashed q.undashed) (refl, refl)

-- what clap makes of a command, by its name: that it takes the words is shown once for all that have the same values

abbrev session_shape : Text → Shape
session_shape name = built_leaf (inherited bare.top (leaf_two name (codes "TABLE") (codes "S")).top)

session_passes : (name : Text) (x y : ℕ) (xs ys : Text) → (x == 45) ≡ false → (y == 45) ≡ false
    → level_passes (session_shape name) [] nothing_held ((x ∷ xs) ∷ (y ∷ ys) ∷ []) false ≡ true
unfolding clap_on_literals
session_passes name x y xs ys h k = simp (h, k)

format_met : (t s : Text) → subcommand_of (alone (leaf_session (codes "format"))) (codes "format" ∷ t ∷ s ∷ []) ≡ Some (codes "format", rows_after table_rules [] (t ∷ s ∷ []))
unfolding clap_on_literals
format_met t s = refl

format_taken : (x y : ℕ) (xs ys : Text) → (x == 45) ≡ false → (y == 45) ≡ false → takes (alone (leaf_session (codes "format"))) (codes "format" ∷ (x ∷ xs) ∷ (y ∷ ys) ∷ []) ≡ true
unfolding clap_on_literals
format_taken x y xs ys h k = ap (λ b. b && true) (session_passes (codes "format") x y xs ys h k)

show_met : (t s : Text) → subcommand_of (alone (leaf_session (codes "show"))) (codes "show" ∷ t ∷ s ∷ []) ≡ Some (codes "show", rows_after table_rules [] (t ∷ s ∷ []))
unfolding clap_on_literals
show_met t s = refl

show_taken : (x y : ℕ) (xs ys : Text) → (x == 45) ≡ false → (y == 45) ≡ false → takes (alone (leaf_session (codes "show"))) (codes "show" ∷ (x ∷ xs) ∷ (y ∷ ys) ∷ []) ≡ true
unfolding clap_on_literals
show_taken x y xs ys h k = ap (λ b. b && true) (session_passes (codes "show") x y xs ys h k)

wrap_met : (t s : Text) → subcommand_of (alone (leaf_session (codes "wrap"))) (codes "wrap" ∷ t ∷ s ∷ []) ≡ Some (codes "wrap", rows_after table_rules [] (t ∷ s ∷ []))
unfolding clap_on_literals
wrap_met t s = refl

wrap_taken : (x y : ℕ) (xs ys : Text) → (x == 45) ≡ false → (y == 45) ≡ false → takes (alone (leaf_session (codes "wrap"))) (codes "wrap" ∷ (x ∷ xs) ∷ (y ∷ ys) ∷ []) ≡ true
unfolding clap_on_literals
wrap_taken x y xs ys h k = ap (λ b. b && true) (session_passes (codes "wrap") x y xs ys h k)

unwrap_met : (t s : Text) → subcommand_of (alone (leaf_session (codes "unwrap"))) (codes "unwrap" ∷ t ∷ s ∷ []) ≡ Some (codes "unwrap", rows_after table_rules [] (t ∷ s ∷ []))
unfolding clap_on_literals
unwrap_met t s = refl

unwrap_taken : (x y : ℕ) (xs ys : Text) → (x == 45) ≡ false → (y == 45) ≡ false → takes (alone (leaf_session (codes "unwrap"))) (codes "unwrap" ∷ (x ∷ xs) ∷ (y ∷ ys) ∷ []) ≡ true
unfolding clap_on_literals
unwrap_taken x y xs ys h k = ap (λ b. b && true) (session_passes (codes "unwrap") x y xs ys h k)

status_met : (t s : Text) → subcommand_of (alone (leaf_session (codes "status"))) (codes "status" ∷ t ∷ s ∷ []) ≡ Some (codes "status", rows_after table_rules [] (t ∷ s ∷ []))
unfolding clap_on_literals
status_met t s = refl

status_taken : (x y : ℕ) (xs ys : Text) → (x == 45) ≡ false → (y == 45) ≡ false → takes (alone (leaf_session (codes "status"))) (codes "status" ∷ (x ∷ xs) ∷ (y ∷ ys) ∷ []) ≡ true
unfolding clap_on_literals
status_taken x y xs ys h k = ap (λ b. b && true) (session_passes (codes "status") x y xs ys h k)

-- the two that read records

audit_taken : takes (alone (leaf_none (codes "audit"))) (codes "audit" ∷ []) ≡ true
unfolding clap_on_literals
audit_taken = refl

audit_met : subcommand_of (alone (leaf_none (codes "audit"))) (codes "audit" ∷ []) ≡ Some (codes "audit", [])
unfolding clap_on_literals
audit_met = refl

compare_taken : takes (alone (leaf_none (codes "compare"))) (codes "compare" ∷ []) ≡ true
unfolding clap_on_literals
compare_taken = refl

compare_met : subcommand_of (alone (leaf_none (codes "compare"))) (codes "compare" ∷ []) ≡ Some (codes "compare", [])
unfolding clap_on_literals
compare_met = refl

chain_taken : takes (alone (leaf_none (codes "chain"))) (codes "chain" ∷ []) ≡ true
unfolding clap_on_literals
chain_taken = refl

chain_met : subcommand_of (alone (leaf_none (codes "chain"))) (codes "chain" ∷ []) ≡ Some (codes "chain", [])
unfolding clap_on_literals
chain_met = refl

-- a seed and a count

abbrev pub number_rules : List Rule
number_rules = filled_from 1 (value_rule (codes "SEED") ∷ value_rule (codes "COUNT") ∷ [])

number_rows : (x y : ℕ) (xs ys : Text) → (x == 45) ≡ false → (y == 45) ≡ false
    → rows_after number_rules [] ((x ∷ xs) ∷ (y ∷ ys) ∷ []) ≡ row (codes "SEED") (x ∷ xs) ∷ row (codes "COUNT") (y ∷ ys) ∷ []
unfolding clap_on_literals
number_rows x y xs ys h k = simp (h, k)

abbrev number_shape : Text → Shape
number_shape name = built_leaf (inherited bare.top (leaf_two name (codes "SEED") (codes "COUNT")).top)

number_passes : (name : Text) (x y : ℕ) (xs ys : Text) → (x == 45) ≡ false → (y == 45) ≡ false
    → level_passes (number_shape name) [] nothing_held ((x ∷ xs) ∷ (y ∷ ys) ∷ []) false ≡ true
unfolding clap_on_literals
number_passes name x y xs ys h k = simp (h, k)

exercise_met : (t s : Text) → subcommand_of (alone (leaf_two (codes "exercise") (codes "SEED") (codes "COUNT"))) (codes "exercise" ∷ t ∷ s ∷ []) ≡ Some (codes "exercise", rows_after number_rules [] (t ∷ s ∷ []))
unfolding clap_on_literals
exercise_met t s = refl

exercise_taken : (x y : ℕ) (xs ys : Text) → (x == 45) ≡ false → (y == 45) ≡ false → takes (alone (leaf_two (codes "exercise") (codes "SEED") (codes "COUNT"))) (codes "exercise" ∷ (x ∷ xs) ∷ (y ∷ ys) ∷ []) ≡ true
unfolding clap_on_literals
exercise_taken x y xs ys h k = ap (λ b. b && true) (number_passes (codes "exercise") x y xs ys h k)

-- a seed, a count and times

abbrev pub race_rules : List Rule
race_rules = filled_from 1 (value_rule (codes "SEED") ∷ value_rule (codes "COUNT") ∷ value_rule (codes "TIMES") ∷ [])

race_rows : (x y z : ℕ) (xs ys zs : Text) → (x == 45) ≡ false → (y == 45) ≡ false → (z == 45) ≡ false
    → rows_after race_rules [] ((x ∷ xs) ∷ (y ∷ ys) ∷ (z ∷ zs) ∷ []) ≡ row (codes "SEED") (x ∷ xs) ∷ row (codes "COUNT") (y ∷ ys) ∷ row (codes "TIMES") (z ∷ zs) ∷ []
unfolding clap_on_literals
race_rows x y z xs ys zs h k m = simp (h, k, m)

abbrev race_shape : Text → Shape
race_shape name = built_leaf (inherited bare.top (leaf_three name (codes "SEED") (codes "COUNT") (codes "TIMES")).top)

race_passes : (name : Text) (x y z : ℕ) (xs ys zs : Text) → (x == 45) ≡ false → (y == 45) ≡ false → (z == 45) ≡ false
    → level_passes (race_shape name) [] nothing_held ((x ∷ xs) ∷ (y ∷ ys) ∷ (z ∷ zs) ∷ []) false ≡ true
unfolding clap_on_literals
race_passes name x y z xs ys zs h k m = simp (h, k, m)

race_met : (t s u : Text) → subcommand_of (alone (leaf_three (codes "race") (codes "SEED") (codes "COUNT") (codes "TIMES"))) (codes "race" ∷ t ∷ s ∷ u ∷ []) ≡ Some (codes "race", rows_after race_rules [] (t ∷ s ∷ u ∷ []))
unfolding clap_on_literals
race_met t s u = refl

race_taken : (x y z : ℕ) (xs ys zs : Text) → (x == 45) ≡ false → (y == 45) ≡ false → (z == 45) ≡ false → takes (alone (leaf_three (codes "race") (codes "SEED") (codes "COUNT") (codes "TIMES"))) (codes "race" ∷ (x ∷ xs) ∷ (y ∷ ys) ∷ (z ∷ zs) ∷ []) ≡ true
unfolding clap_on_literals
race_taken x y z xs ys zs h k m = ap (λ b. b && true) (race_passes (codes "race") x y z xs ys zs h k m)

-- a table, a session and looks

abbrev pub looks_rules : List Rule
looks_rules = filled_from 1 (value_rule (codes "TABLE") ∷ value_rule (codes "S") ∷ value_rule (codes "LOOKS") ∷ [])

looks_rows : (x y z : ℕ) (xs ys zs : Text) → (x == 45) ≡ false → (y == 45) ≡ false → (z == 45) ≡ false
    → rows_after looks_rules [] ((x ∷ xs) ∷ (y ∷ ys) ∷ (z ∷ zs) ∷ []) ≡ row (codes "TABLE") (x ∷ xs) ∷ row (codes "S") (y ∷ ys) ∷ row (codes "LOOKS") (z ∷ zs) ∷ []
unfolding clap_on_literals
looks_rows x y z xs ys zs h k m = simp (h, k, m)

looks_taken : (name t : Text) (n k : ℕ) → IsLooking t n k
    → ((x y z : ℕ) (xs ys zs : Text) → (x == 45) ≡ false → (y == 45) ≡ false → (z == 45) ≡ false → takes (alone (leaf_looks name)) (name ∷ (x ∷ xs) ∷ (y ∷ ys) ∷ (z ∷ zs) ∷ []) ≡ true)
    → takes (alone (leaf_looks name)) (name ∷ t ∷ decimal n ∷ decimal k ∷ []) ≡ true
looks_taken name t n k h taken =
    let p = plain_table t h.0 in
    let q = plain_decimal n (omega (arith, h.1)) in
    let r = plain_decimal k (omega (arith, h.3)) in
    rw (p.whole, q.whole, r.whole) (taken p.first q.first r.first p.rest q.rest r.rest p.undashed q.undashed r.undashed)

looks_given : (t : Text) (n k : ℕ) → IsLooking t n k → GivesLooks t n k (rows_after looks_rules [] (t ∷ decimal n ∷ decimal k ∷ []))
looks_given t n k h =
    let p = plain_table t h.0 in
    let q = plain_decimal n (omega (arith, h.1)) in
    let r = plain_decimal k (omega (arith, h.3)) in
    rw (p.whole, q.whole, r.whole, looks_rows p.first q.first r.first p.rest q.rest r.rest p.undashed q.undashed r.undashed) (refl, refl, refl)

abbrev looks_shape : Text → Shape
looks_shape name = built_leaf (inherited bare.top (leaf_three name (codes "TABLE") (codes "S") (codes "LOOKS")).top)

looks_passes : (name : Text) (x y z : ℕ) (xs ys zs : Text) → (x == 45) ≡ false → (y == 45) ≡ false → (z == 45) ≡ false
    → level_passes (looks_shape name) [] nothing_held ((x ∷ xs) ∷ (y ∷ ys) ∷ (z ∷ zs) ∷ []) false ≡ true
unfolding clap_on_literals
looks_passes name x y z xs ys zs h k m = simp (h, k, m)

serve_met : (t s u : Text) → subcommand_of (alone (leaf_looks (codes "serve"))) (codes "serve" ∷ t ∷ s ∷ u ∷ []) ≡ Some (codes "serve", rows_after looks_rules [] (t ∷ s ∷ u ∷ []))
unfolding clap_on_literals
serve_met t s u = refl

serve_taken : (x y z : ℕ) (xs ys zs : Text) → (x == 45) ≡ false → (y == 45) ≡ false → (z == 45) ≡ false → takes (alone (leaf_looks (codes "serve"))) (codes "serve" ∷ (x ∷ xs) ∷ (y ∷ ys) ∷ (z ∷ zs) ∷ []) ≡ true
unfolding clap_on_literals
serve_taken x y z xs ys zs h k m = ap (λ b. b && true) (looks_passes (codes "serve") x y z xs ys zs h k m)

receive_met : (t s u : Text) → subcommand_of (alone (leaf_looks (codes "receive"))) (codes "receive" ∷ t ∷ s ∷ u ∷ []) ≡ Some (codes "receive", rows_after looks_rules [] (t ∷ s ∷ u ∷ []))
unfolding clap_on_literals
receive_met t s u = refl

receive_taken : (x y z : ℕ) (xs ys zs : Text) → (x == 45) ≡ false → (y == 45) ≡ false → (z == 45) ≡ false → takes (alone (leaf_looks (codes "receive"))) (codes "receive" ∷ (x ∷ xs) ∷ (y ∷ ys) ∷ (z ∷ zs) ∷ []) ≡ true
unfolding clap_on_literals
receive_taken x y z xs ys zs h k m = ap (λ b. b && true) (looks_passes (codes "receive") x y z xs ys zs h k m)

send_met : (t s u : Text) → subcommand_of (alone (leaf_looks (codes "send"))) (codes "send" ∷ t ∷ s ∷ u ∷ []) ≡ Some (codes "send", rows_after looks_rules [] (t ∷ s ∷ u ∷ []))
unfolding clap_on_literals
send_met t s u = refl

send_taken : (x y z : ℕ) (xs ys zs : Text) → (x == 45) ≡ false → (y == 45) ≡ false → (z == 45) ≡ false → takes (alone (leaf_looks (codes "send"))) (codes "send" ∷ (x ∷ xs) ∷ (y ∷ ys) ∷ (z ∷ zs) ∷ []) ≡ true
unfolding clap_on_literals
send_taken x y z xs ys zs h k m = ap (λ b. b && true) (looks_passes (codes "send") x y z xs ys zs h k m)

append_met : (t s u : Text) → subcommand_of (alone (leaf_looks (codes "append"))) (codes "append" ∷ t ∷ s ∷ u ∷ []) ≡ Some (codes "append", rows_after looks_rules [] (t ∷ s ∷ u ∷ []))
unfolding clap_on_literals
append_met t s u = refl

append_taken : (x y z : ℕ) (xs ys zs : Text) → (x == 45) ≡ false → (y == 45) ≡ false → (z == 45) ≡ false → takes (alone (leaf_looks (codes "append"))) (codes "append" ∷ (x ∷ xs) ∷ (y ∷ ys) ∷ (z ∷ zs) ∷ []) ≡ true
unfolding clap_on_literals
append_taken x y z xs ys zs h k m = ap (λ b. b && true) (looks_passes (codes "append") x y z xs ys zs h k m)

-- a table, a session and the number of a message

abbrev pub from_rules : List Rule
from_rules = filled_from 1 (value_rule (codes "TABLE") ∷ value_rule (codes "S") ∷ value_rule (codes "FROM") ∷ [])

from_rows : (x y z : ℕ) (xs ys zs : Text) → (x == 45) ≡ false → (y == 45) ≡ false → (z == 45) ≡ false
    → rows_after from_rules [] ((x ∷ xs) ∷ (y ∷ ys) ∷ (z ∷ zs) ∷ []) ≡ row (codes "TABLE") (x ∷ xs) ∷ row (codes "S") (y ∷ ys) ∷ row (codes "FROM") (z ∷ zs) ∷ []
unfolding clap_on_literals
from_rows x y z xs ys zs h k m = simp (h, k, m)

from_given : (t : Text) (n k : ℕ) → IsSession t n → k < 2 ^ 32 → GivesFrom t n k (rows_after from_rules [] (t ∷ decimal n ∷ decimal k ∷ []))
from_given t n k h small =
    let p = plain_table t h.0 in
    let q = plain_decimal n (omega (arith, h.1)) in
    let r = plain_decimal k (omega (arith, small)) in
    rw (p.whole, q.whole, r.whole, from_rows p.first q.first r.first p.rest q.rest r.rest p.undashed q.undashed r.undashed) (refl, refl, refl)

abbrev from_shape : Text → Shape
from_shape name = built_leaf (inherited bare.top (leaf_three name (codes "TABLE") (codes "S") (codes "FROM")).top)

from_passes : (name : Text) (x y z : ℕ) (xs ys zs : Text) → (x == 45) ≡ false → (y == 45) ≡ false → (z == 45) ≡ false
    → level_passes (from_shape name) [] nothing_held ((x ∷ xs) ∷ (y ∷ ys) ∷ (z ∷ zs) ∷ []) false ≡ true
unfolding clap_on_literals
from_passes name x y z xs ys zs h k m = simp (h, k, m)

messages_met : (t s u : Text) → subcommand_of (alone (leaf_three (codes "messages") (codes "TABLE") (codes "S") (codes "FROM"))) (codes "messages" ∷ t ∷ s ∷ u ∷ []) ≡ Some (codes "messages", rows_after from_rules [] (t ∷ s ∷ u ∷ []))
unfolding clap_on_literals
messages_met t s u = refl

messages_taken : (x y z : ℕ) (xs ys zs : Text) → (x == 45) ≡ false → (y == 45) ≡ false → (z == 45) ≡ false → takes (alone (leaf_three (codes "messages") (codes "TABLE") (codes "S") (codes "FROM"))) (codes "messages" ∷ (x ∷ xs) ∷ (y ∷ ys) ∷ (z ∷ zs) ∷ []) ≡ true
unfolding clap_on_literals
messages_taken x y z xs ys zs h k m = ap (λ b. b && true) (from_passes (codes "messages") x y z xs ys zs h k m)

-- a session of one table and one of another

abbrev pub migrate_rules : List Rule
migrate_rules = filled_from 1 (value_rule (codes "TABLE") ∷ value_rule (codes "S") ∷ value_rule (codes "NEWTABLE") ∷ value_rule (codes "T") ∷ [])

migrate_rows : (x y z w : ℕ) (xs ys zs ws : Text) → (x == 45) ≡ false → (y == 45) ≡ false → (z == 45) ≡ false → (w == 45) ≡ false
    → rows_after migrate_rules [] ((x ∷ xs) ∷ (y ∷ ys) ∷ (z ∷ zs) ∷ (w ∷ ws) ∷ [])
    ≡ row (codes "TABLE") (x ∷ xs) ∷ row (codes "S") (y ∷ ys) ∷ row (codes "NEWTABLE") (z ∷ zs) ∷ row (codes "T") (w ∷ ws) ∷ []
unfolding clap_on_literals
migrate_rows x y z w xs ys zs ws h k m n = simp (h, k, m, n)

migrate_met : (t s u v : Text) → subcommand_of (alone (leaf_four (codes "migrate") (codes "TABLE") (codes "S") (codes "NEWTABLE") (codes "T"))) (codes "migrate" ∷ t ∷ s ∷ u ∷ v ∷ []) ≡ Some (codes "migrate", rows_after migrate_rules [] (t ∷ s ∷ u ∷ v ∷ []))
unfolding clap_on_literals
migrate_met t s u v = refl

-- the command by itself, since the whole program with four words is more than `simp` looks through
abbrev migrate_shape : Shape
migrate_shape = built_leaf (inherited bare.top (leaf_four (codes "migrate") (codes "TABLE") (codes "S") (codes "NEWTABLE") (codes "T")).top)

migrate_entered : (t s u v : Text) → takes (alone (leaf_four (codes "migrate") (codes "TABLE") (codes "S") (codes "NEWTABLE") (codes "T"))) (codes "migrate" ∷ t ∷ s ∷ u ∷ v ∷ []) ≡ (level_passes migrate_shape [] nothing_held (t ∷ s ∷ u ∷ v ∷ []) false && true)
unfolding clap_on_literals
migrate_entered t s u v = refl

migrate_passes : (x y z w : ℕ) (xs ys zs ws : Text) → (x == 45) ≡ false → (y == 45) ≡ false → (z == 45) ≡ false → (w == 45) ≡ false
    → level_passes migrate_shape [] nothing_held ((x ∷ xs) ∷ (y ∷ ys) ∷ (z ∷ zs) ∷ (w ∷ ws) ∷ []) false ≡ true
migrate_passes x y z w xs ys zs ws h k m n =
    let s = migrate_shape in
    let one = (behind s.rules nothing_held 1 (x ∷ xs)).held in
    let two = (behind s.rules one 2 (y ∷ ys)).held in
    let three = (behind s.rules two 3 (z ∷ zs)).held in
    let after_one = (y ∷ ys) ∷ (z ∷ zs) ∷ (w ∷ ws) ∷ [] in
    let after_two = (z ∷ zs) ∷ (w ∷ ws) ∷ [] in
    let after_three = (w ∷ ws) ∷ [] in
    let walk = walks_on nothing_held 1 x xs h s.rules after_one ∙ walks_on one 2 y ys k s.rules after_two ∙ walks_on two 3 z zs m s.rules after_three ∙ walks_on three 4 w ws n s.rules [] in
    let words = passes_on nothing_held 1 x xs h s after_one ∙ passes_on one 2 y ys k s after_two ∙ passes_on two 3 z zs m s after_three ∙ passes_on three 4 w ws n s [] ∙ passed s _ in
    ap₂ (λ b (end : Walk). b && (settle_passes s.rules s.args_override_self end.held && (list_all default_passes s.rules && is_valid s (finished s.rules end.held) false))) words walk

migrate_taken : (x y z w : ℕ) (xs ys zs ws : Text) → (x == 45) ≡ false → (y == 45) ≡ false → (z == 45) ≡ false → (w == 45) ≡ false
    → takes (alone (leaf_four (codes "migrate") (codes "TABLE") (codes "S") (codes "NEWTABLE") (codes "T"))) (codes "migrate" ∷ (x ∷ xs) ∷ (y ∷ ys) ∷ (z ∷ zs) ∷ (w ∷ ws) ∷ []) ≡ true
migrate_taken x y z w xs ys zs ws h k m n = migrate_entered _ _ _ _ ∙ ap (λ b. b && true) (migrate_passes x y z w xs ys zs ws h k m n)

migrate_given : (t u : Text) (n m : ℕ) → IsSession t n → IsSession u m → (rows : List Row) → rows ≡ rows_after migrate_rules [] (t ∷ decimal n ∷ u ∷ decimal m ∷ [])
    → GivesSession t n rows × GivesNewSession u m rows
migrate_given t u n m h k rows e =
    let p = plain_table t h.0 in
    let q = plain_decimal n (omega (arith, h.1)) in
    let r = plain_table u k.0 in
    let s = plain_decimal m (omega (arith, k.1)) in
    rw (e, p.whole, q.whole, r.whole, s.whole, migrate_rows p.first q.first r.first s.first p.rest q.rest r.rest s.rest p.undashed q.undashed r.undashed s.undashed)
    ((refl, refl), (refl, refl))

-- a session of a table, a number of looks and a folder

abbrev pub folder_rules : List Rule
folder_rules = filled_from 1 (value_rule (codes "TABLE") ∷ value_rule (codes "S") ∷ value_rule (codes "LOOKS") ∷ value_rule (codes "FOLDER") ∷ [])

folder_rows : (x y z w : ℕ) (xs ys zs ws : Text) → (x == 45) ≡ false → (y == 45) ≡ false → (z == 45) ≡ false → (w == 45) ≡ false
    → rows_after folder_rules [] ((x ∷ xs) ∷ (y ∷ ys) ∷ (z ∷ zs) ∷ (w ∷ ws) ∷ [])
    ≡ row (codes "TABLE") (x ∷ xs) ∷ row (codes "S") (y ∷ ys) ∷ row (codes "LOOKS") (z ∷ zs) ∷ row (codes "FOLDER") (w ∷ ws) ∷ []
unfolding clap_on_literals
folder_rows x y z w xs ys zs ws h k m n = simp (h, k, m, n)

abbrev folder_shape : Text → Shape
folder_shape name = built_leaf (inherited bare.top (leaf_four name (codes "TABLE") (codes "S") (codes "LOOKS") (codes "FOLDER")).top)

folder_passes : (name : Text) (x y z w : ℕ) (xs ys zs ws : Text) → (x == 45) ≡ false → (y == 45) ≡ false → (z == 45) ≡ false → (w == 45) ≡ false
    → level_passes (folder_shape name) [] nothing_held ((x ∷ xs) ∷ (y ∷ ys) ∷ (z ∷ zs) ∷ (w ∷ ws) ∷ []) false ≡ true
folder_passes name x y z w xs ys zs ws h k m n =
    let s = folder_shape name in
    let one = (behind s.rules nothing_held 1 (x ∷ xs)).held in
    let two = (behind s.rules one 2 (y ∷ ys)).held in
    let three = (behind s.rules two 3 (z ∷ zs)).held in
    let after_one = (y ∷ ys) ∷ (z ∷ zs) ∷ (w ∷ ws) ∷ [] in
    let after_two = (z ∷ zs) ∷ (w ∷ ws) ∷ [] in
    let after_three = (w ∷ ws) ∷ [] in
    let walk = walks_on nothing_held 1 x xs h s.rules after_one ∙ walks_on one 2 y ys k s.rules after_two ∙ walks_on two 3 z zs m s.rules after_three ∙ walks_on three 4 w ws n s.rules [] in
    let words = passes_on nothing_held 1 x xs h s after_one ∙ passes_on one 2 y ys k s after_two ∙ passes_on two 3 z zs m s after_three ∙ passes_on three 4 w ws n s [] ∙ passed s _ in
    ap₂ (λ b (end : Walk). b && (settle_passes s.rules s.args_override_self end.held && (list_all default_passes s.rules && is_valid s (finished s.rules end.held) false))) words walk

drop_met : (t s u v : Text) → subcommand_of (alone (leaf_folder (codes "drop"))) (codes "drop" ∷ t ∷ s ∷ u ∷ v ∷ []) ≡ Some (codes "drop", rows_after folder_rules [] (t ∷ s ∷ u ∷ v ∷ []))
unfolding clap_on_literals
drop_met t s u v = refl

drop_entered : (t s u v : Text) → takes (alone (leaf_folder (codes "drop"))) (codes "drop" ∷ t ∷ s ∷ u ∷ v ∷ []) ≡ (level_passes (folder_shape (codes "drop")) [] nothing_held (t ∷ s ∷ u ∷ v ∷ []) false && true)
unfolding clap_on_literals
drop_entered t s u v = refl

drop_taken : (x y z w : ℕ) (xs ys zs ws : Text) → (x == 45) ≡ false → (y == 45) ≡ false → (z == 45) ≡ false → (w == 45) ≡ false
    → takes (alone (leaf_folder (codes "drop"))) (codes "drop" ∷ (x ∷ xs) ∷ (y ∷ ys) ∷ (z ∷ zs) ∷ (w ∷ ws) ∷ []) ≡ true
drop_taken x y z w xs ys zs ws h k m n = drop_entered _ _ _ _ ∙ ap (λ b. b && true) (folder_passes (codes "drop") x y z w xs ys zs ws h k m n)

collect_met : (t s u v : Text) → subcommand_of (alone (leaf_folder (codes "collect"))) (codes "collect" ∷ t ∷ s ∷ u ∷ v ∷ []) ≡ Some (codes "collect", rows_after folder_rules [] (t ∷ s ∷ u ∷ v ∷ []))
unfolding clap_on_literals
collect_met t s u v = refl

collect_entered : (t s u v : Text) → takes (alone (leaf_folder (codes "collect"))) (codes "collect" ∷ t ∷ s ∷ u ∷ v ∷ []) ≡ (level_passes (folder_shape (codes "collect")) [] nothing_held (t ∷ s ∷ u ∷ v ∷ []) false && true)
unfolding clap_on_literals
collect_entered t s u v = refl

collect_taken : (x y z w : ℕ) (xs ys zs ws : Text) → (x == 45) ≡ false → (y == 45) ≡ false → (z == 45) ≡ false → (w == 45) ≡ false
    → takes (alone (leaf_folder (codes "collect"))) (codes "collect" ∷ (x ∷ xs) ∷ (y ∷ ys) ∷ (z ∷ zs) ∷ (w ∷ ws) ∷ []) ≡ true
collect_taken x y z w xs ys zs ws h k m n = collect_entered _ _ _ _ ∙ ap (λ b. b && true) (folder_passes (codes "collect") x y z w xs ys zs ws h k m n)

folder_taken : (name t u : Text) (n k : ℕ) → IsCarrying t n k u
    → ((x y z w : ℕ) (xs ys zs ws : Text) → (x == 45) ≡ false → (y == 45) ≡ false → (z == 45) ≡ false → (w == 45) ≡ false
    → takes (alone (leaf_folder name)) (name ∷ (x ∷ xs) ∷ (y ∷ ys) ∷ (z ∷ zs) ∷ (w ∷ ws) ∷ []) ≡ true)
    → takes (alone (leaf_folder name)) (name ∷ t ∷ decimal n ∷ decimal k ∷ u ∷ []) ≡ true
folder_taken name t u n k h taken =
    let p = plain_table t h.0.0 in
    let q = plain_decimal n (omega (arith, h.0.1)) in
    let r = plain_decimal k (omega (arith, h.0.3)) in
    let s = plain_table u h.1 in
    rw (p.whole, q.whole, r.whole, s.whole)
    (taken p.first q.first r.first s.first p.rest q.rest r.rest s.rest p.undashed q.undashed r.undashed s.undashed)

folder_given : (t u : Text) (n k : ℕ) → IsCarrying t n k u → (rows : List Row) → rows ≡ rows_after folder_rules [] (t ∷ decimal n ∷ decimal k ∷ u ∷ [])
    → GivesFolder t n k u rows
folder_given t u n k h rows e =
    let p = plain_table t h.0.0 in
    let q = plain_decimal n (omega (arith, h.0.1)) in
    let r = plain_decimal k (omega (arith, h.0.3)) in
    let s = plain_table u h.1 in
    rw (e, p.whole, q.whole, r.whole, s.whole, folder_rows p.first q.first r.first s.first p.rest q.rest r.rest s.rest p.undashed q.undashed r.undashed s.undashed)
    ((refl, refl, refl), refl)

-- clap takes the words of each command
pub words_taken : (words : List Text) (c : Command) → AreWordsOf words c → takes (program_of c) words ≡ true
words_taken words Replay h = ap (takes (program_of Replay)) h.1 ∙ replay_taken
words_taken words (Format t n) h = ap (takes (program_of (Format t n))) h.1 ∙ session_taken (codes "format") t n h.0 format_taken
words_taken words (Show t n) h = ap (takes (program_of (Show t n))) h.1 ∙ session_taken (codes "show") t n h.0 show_taken
words_taken words (Exercise m n) h =
    let p = plain_decimal m (omega (arith, h.0.0)) in
    let q = plain_decimal n (omega (arith, h.0.2)) in
    rw (h.1, p.whole, q.whole) (exercise_taken p.first q.first p.rest q.rest p.undashed q.undashed)
words_taken words (Race m n ts) h =
    let p = plain_decimal m (omega (arith, h.0.0)) in
    let q = plain_decimal n (omega (arith, h.0.2)) in
    let r = plain_times ts.items h.0.3 in
    rw (h.1, p.whole, q.whole, r.whole) (race_taken p.first q.first r.first p.rest q.rest r.rest p.undashed q.undashed r.undashed)
words_taken words (Serve t n k) h = ap (takes (program_of (Serve t n k))) h.1 ∙ looks_taken (codes "serve") t n k h.0 serve_taken
words_taken words (Receive t n k) h = ap (takes (program_of (Receive t n k))) h.1 ∙ looks_taken (codes "receive") t n k h.0 receive_taken
words_taken words (Send t n k) h = ap (takes (program_of (Send t n k))) h.1 ∙ looks_taken (codes "send") t n k h.0 send_taken
words_taken words (Append t n k) h = ap (takes (program_of (Append t n k))) h.1 ∙ looks_taken (codes "append") t n k h.0 append_taken
words_taken words (DropFiles t n k u) h = ap (takes (program_of (DropFiles t n k u))) h.1 ∙ folder_taken (codes "drop") t u n k h.0 drop_taken
words_taken words (CollectFiles t n k u) h = ap (takes (program_of (CollectFiles t n k u))) h.1 ∙ folder_taken (codes "collect") t u n k h.0 collect_taken
words_taken words (Migrate t n u m) h =
    let p = plain_table t h.0.0.0 in
    let q = plain_decimal n (omega (arith, h.0.0.1)) in
    let r = plain_table u h.0.1.0 in
    let s = plain_decimal m (omega (arith, h.0.1.1)) in
    rw (h.1, p.whole, q.whole, r.whole, s.whole)
    (migrate_taken p.first q.first r.first s.first p.rest q.rest r.rest s.rest p.undashed q.undashed r.undashed s.undashed)
words_taken words (Wrap t n) h = ap (takes (program_of (Wrap t n))) h.1 ∙ session_taken (codes "wrap") t n h.0 wrap_taken
words_taken words (Unwrap t n) h = ap (takes (program_of (Unwrap t n))) h.1 ∙ session_taken (codes "unwrap") t n h.0 unwrap_taken
words_taken words (Messages t n k) h =
    let p = plain_table t h.0.0.0 in
    let q = plain_decimal n (omega (arith, h.0.0.1)) in
    let r = plain_decimal k (omega (arith, h.0.1)) in
    rw (h.1, p.whole, q.whole, r.whole) (messages_taken p.first q.first r.first p.rest q.rest r.rest p.undashed q.undashed r.undashed)
words_taken words (Status t n) h = ap (takes (program_of (Status t n))) h.1 ∙ session_taken (codes "status") t n h.0 status_taken
words_taken words Audit h = ap (takes (program_of Audit)) h.1 ∙ audit_taken
words_taken words Compare h = ap (takes (program_of Compare)) h.1 ∙ compare_taken
words_taken words Chain h = ap (takes (program_of Chain)) h.1 ∙ chain_taken

exercise_given : (m n : ℕ) → IsCommand (Exercise m n) → Gives (Exercise m n) (codes "exercise") (rows_after number_rules [] (decimal m ∷ decimal n ∷ []))
exercise_given m n h =
    let p = plain_decimal m (omega (arith, h.0)) in
    let q = plain_decimal n (omega (arith, h.2)) in
    rw (p.whole, q.whole, number_rows p.first q.first p.rest q.rest p.undashed q.undashed) (refl, refl, refl)

race_given : (m n : ℕ) (times : List ℕ) → m < 2 ^ 32 → n ≤ 100000 → AreTimes times
    → (rows : List Row) → rows ≡ rows_after race_rules [] (decimal m ∷ decimal n ∷ times_word times ∷ [])
    → (first_of (codes "SEED") rows ≡ Some (decimal m)) × (first_of (codes "COUNT") rows ≡ Some (decimal n)) × (first_of (codes "TIMES") rows ≡ Some (times_word times))
race_given m n times seed count all rows e =
    let p = plain_decimal m (omega (arith, seed)) in
    let q = plain_decimal n (omega (arith, count)) in
    let r = plain_times times all in
    rw (e, p.whole, q.whole, r.whole, race_rows p.first q.first r.first p.rest q.rest r.rest p.undashed q.undashed r.undashed) (refl, refl, refl)

found_as : {words given : List Text} {name : Text} {rows : List Row} (c : Command) → words ≡ given → subcommand_of (program_of c) given ≡ Some (name, rows)
    → Gives c name rows → GivesIn c (subcommand_of (program_of c) words)
found_as c same met gives = subst (GivesIn c) (sym (ap (subcommand_of (program_of c)) same ∙ met)) gives

-- and finds its values
pub values_found : (words : List Text) (c : Command) → AreWordsOf words c → GivesIn c (subcommand_of (program_of c) words)
values_found words Replay h = found_as Replay h.1 replay_met refl
values_found words (Format t n) h = found_as (Format t n) h.1 (format_met _ _) (refl, session_given t n h.0)
values_found words (Show t n) h = found_as (Show t n) h.1 (show_met _ _) (refl, session_given t n h.0)
values_found words (Exercise m n) h = found_as (Exercise m n) h.1 (exercise_met _ _) (exercise_given m n h.0)
values_found words (Race m n ts) h =
    let given = race_given m n ts.items h.0.0 h.0.2 h.0.3 _ refl in
    found_as (Race m n ts) h.1 (race_met _ _ _) (refl, given.0, given.1, given.2)
values_found words (Serve t n k) h = found_as (Serve t n k) h.1 (serve_met _ _ _) (refl, looks_given t n k h.0)
values_found words (Receive t n k) h = found_as (Receive t n k) h.1 (receive_met _ _ _) (refl, looks_given t n k h.0)
values_found words (Send t n k) h = found_as (Send t n k) h.1 (send_met _ _ _) (refl, looks_given t n k h.0)
values_found words (Append t n k) h = found_as (Append t n k) h.1 (append_met _ _ _) (refl, looks_given t n k h.0)
values_found words (DropFiles t n k u) h = found_as (DropFiles t n k u) h.1 (drop_met _ _ _ _) (refl, folder_given t u n k h.0 _ refl)
values_found words (CollectFiles t n k u) h = found_as (CollectFiles t n k u) h.1 (collect_met _ _ _ _) (refl, folder_given t u n k h.0 _ refl)
values_found words (Migrate t n u m) h =
    let given = migrate_given t u n m h.0.0 h.0.1 _ refl in
    found_as (Migrate t n u m) h.1 (migrate_met _ _ _ _) (refl, given.0, given.1)
values_found words (Wrap t n) h = found_as (Wrap t n) h.1 (wrap_met _ _) (refl, session_given t n h.0)
values_found words (Unwrap t n) h = found_as (Unwrap t n) h.1 (unwrap_met _ _) (refl, session_given t n h.0)
values_found words (Messages t n k) h = found_as (Messages t n k) h.1 (messages_met _ _ _) (refl, from_given t n k h.0.0 h.0.1)
values_found words (Status t n) h = found_as (Status t n) h.1 (status_met _ _) (refl, session_given t n h.0)
values_found words Audit h = found_as Audit h.1 audit_met refl
values_found words Compare h = found_as Compare h.1 compare_met refl
values_found words Chain h = found_as Chain h.1 chain_met refl

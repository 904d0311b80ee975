-- The script that a seed makes, as a whole list of lines: a session, a HELLO, and so many messages.
use Rattle.std.specs.Prelude.{ℕ, ◌+◌, ◌*◌, ◌/◌, ◌%◌, ◌^◌, ◌==◌, Bool, false, if◌then◌else◌, List, [], ◌∷◌, ◌++◌, zero}
use Rattle.std.specs.Prelude.{suc, codes}
use Rattle.pump_frame.specs.declared.row.SessionRow.{SessionRow}
use Rattle.script_reader.specs.declared.line.Line.{Line}
use Rattle.script_reader.specs.declared.line.Line.TheVariants.{Session, Look, Done}
use Rattle.script_reader.specs.declared.line.Arriving.TheVariants.{Nothing, Hello, Data}

-- ---- draws ----

-- the draw that follows this one, or the seed
abbrev pub drawn : ℕ → ℕ
drawn x = (x * 1664525 + 1013904223) % 2 ^ 32

-- the time that a receiver takes, of a draw's highest 12 bits: below 4096 microseconds
abbrev pub taking_time : ℕ → ℕ
taking_time draw = draw / 2 ^ 20

-- so many bytes that count up from this number
abbrev pub counting : ℕ → ℕ → List ℕ
counting zero from = []
counting (suc n) from = from % 256 ∷ counting n (from + 1)

-- the payload of a message, of the highest 8 bits of a draw: at most 64 bytes
abbrev pub payload_of : ℕ → ℕ → List ℕ
payload_of number draw = counting (draw / 2 ^ 24 % 65) number

-- ---- a message ----

-- between two lines: the last draw, and the moment of what comes
pub record Mark : Type 0 where
  pub draw : ℕ
  pub moment : ℕ

abbrev pub later : ℕ → Mark → Mark
later time at = record { draw = at.draw; moment = at.moment + time }

-- a time is drawn, and passes
abbrev pub timed : Mark → Mark
timed at = record { draw = drawn at.draw; moment = at.moment + taking_time (drawn at.draw) }

-- so many times one after another
abbrev pub timed_by : ℕ → Mark → Mark
timed_by zero at = at
timed_by (suc n) at = timed_by n (timed at)

-- the receiver takes so many messages, each after a time that is drawn
abbrev pub takings : ℕ → Mark → List Line
takings zero at = []
takings (suc n) at = Done 1 at.moment (taking_time (drawn at.draw)) ∷ takings n (timed at)

-- a look to which nothing comes
abbrev pub empty_look : ℕ → ℕ → Line
empty_look moment word = Look 1 moment word Nothing

-- the last of seven messages
abbrev pub is_seventh : ℕ → Bool
is_seventh number = number % 7 == 6

-- with each seventh message the receiver takes one before the acknowledgement is due, and six after it
abbrev pub early_lines : ℕ → ℕ → Mark → List Line
early_lines number word at = if is_seventh number then takings 1 at ++ empty_look (timed at).moment word ∷ [] else []

abbrev pub early : ℕ → Mark → Mark
early number at = if is_seventh number then timed at else at

abbrev pub late_count : ℕ → ℕ
late_count number = if is_seventh number then 6 else 0

-- the word of a message's looks is the next draw, and its payload is of the one after that
abbrev pub message_word : Mark → ℕ
message_word at = drawn at.draw

abbrev pub after_draws : Mark → Mark
after_draws at = record { draw = drawn (message_word at); moment = at.moment }

-- 100000 microseconds after it was passed on its acknowledgement is due
abbrev pub due_at : ℕ → Mark → Mark
due_at number at = later 100000 (early number (after_draws at))

abbrev pub message_lines : ℕ → Mark → List Line
message_lines number at =
    Look 1 at.moment (message_word at) (Data number (payload_of number (after_draws at).draw))
    ∷ empty_look at.moment (message_word at)
    ∷ (early_lines number (message_word at) (after_draws at)
    ++ empty_look (due_at number at).moment (message_word at) ∷ takings (late_count number) (due_at number at))

-- where the next message begins
abbrev pub after_message : ℕ → Mark → Mark
after_message number at = later 1000 (timed_by (late_count number) (due_at number at))

-- ---- the script ----

-- so many messages from this number on
abbrev pub messages_from : ℕ → ℕ → Mark → List Line
messages_from zero number at = []
messages_from (suc n) number at = message_lines number at ++ messages_from n (number + 1) (after_message number at)

abbrev pub generated_row : SessionRow
generated_row = record {
  id = 1;
  low = codes "weather";
  high = codes "watch";
  capacity = 8;
  message = 64;
  window = 4;
  start = 20000;
  longest = 100000;
  resend = 500000;
  low_port = 0;
  high_port = 0;
  coarse = false;
}

abbrev pub first_hello : Line
first_hello = Look 1 0 0 (Hello (codes "weather") (codes "watch"))

abbrev pub first_mark : ℕ → Mark
first_mark seed = record { draw = seed; moment = 1000 }

-- the whole script
abbrev pub generated : ℕ → ℕ → List Line
generated seed count = Session generated_row ∷ first_hello ∷ messages_from count 0 (first_mark seed)

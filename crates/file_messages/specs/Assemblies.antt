-- What an assembly stands for, and what it answers to a message.
use Rattle.std.specs.Prelude.{◌≡◌, ℕ, ◌+◌, nat_le, ◌==◌, if◌then◌else◌, List, length, Option, Some, None}
use Rattle.sha2.specs.Hashers.{Holds256}
use Rattle.file_messages.specs.Messages.{Message, Start, Piece, End, Abandon, Other}
use Rattle.file_messages.specs.Files.{State, Between, Inside, is_whole, after}
use Rattle.file_messages.specs.declared.assembly.Assembly.{Assembly}
use Rattle.file_messages.specs.declared.assembly.Part.{Part}
use Rattle.file_messages.specs.declared.assembly.Progress.{Progress}
use Rattle.file_messages.specs.declared.assembly.Cause.{Cause}
use Rattle.file_messages.specs.declared.assembly.Cause.TheVariants.{Abandoned, Begun, TooLong, TooShort, Digest}
use Rattle.file_messages.specs.declared.assembly.Cause.TheVariants.{Unknown}
use Rattle.file_messages.specs.declared.assembly.Step.{Step}
use Rattle.file_messages.specs.declared.assembly.Step.TheVariants.{Started, Grown, Whole, Dropped, Odd}

-- the file that has begun: its bytes are counted, and their digest is under way
pub record IsPart (part : Part) (name : List ℕ) (size : ℕ) (bytes : List ℕ) : Type 0 where
  pub named : part.name ≡ name
  pub sized : part.size ≡ size
  pub counted : part.count ≡ length bytes
  pub hashed : Holds256 part.hasher bytes

abbrev pub PartStandsFor : Option Part → State → Type 0
PartStandsFor None Between = Unit {0}
PartStandsFor None (Inside name size bytes) = ⊥
PartStandsFor (Some part) Between = ⊥
PartStandsFor (Some part) (Inside name size bytes) = IsPart part name size bytes

-- an assembly keeps what it has to know of a state
abbrev pub StandsFor : Assembly → State → Type 0
StandsFor assembly state = PartStandsFor assembly.part state

-- a file that has begun is dropped
abbrev pub dropped : State → Cause → Step
dropped Between cause = Odd
dropped (Inside name size bytes) cause = Dropped cause

-- the answer to a message
abbrev pub answer : State → Message → Step
answer Between (Start name size) = Started
answer Between message = Odd
answer (Inside name size bytes) (Start name' size') = Dropped Begun
answer (Inside name size bytes) (Piece piece) =
    if nat_le (length bytes + length piece) size then Grown else Dropped TooLong
answer (Inside name size bytes) (End digest) =
    if is_whole size bytes digest then Whole
    else if length bytes == size then Dropped Digest else Dropped TooShort
answer (Inside name size bytes) Abandon = Dropped Abandoned
answer (Inside name size bytes) Other = Dropped Unknown

-- an assembly goes from the state that it stands for to the one after a message, and answers so
abbrev pub TakesMessage : Assembly → Assembly → Message → Step → Type 0
TakesMessage old new message result =
    (state : State) → StandsFor old state → StandsFor new (after state message) × (result ≡ answer state message)

-- how far the file is that has begun
abbrev pub progress_of : State → Option Progress
progress_of Between = None
progress_of (Inside name size bytes) = Some (record { name = name; size = size; bytes = length bytes })

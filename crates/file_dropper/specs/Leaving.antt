-- What was accepted of the files of a folder, beside what the folder tells.
use Rattle.std.specs.Prelude.{◌≡◌, ◌⊎◌, ℕ, ◌+◌, ◌-◌, ◌/◌, ◌<◌, ◌≤◌, List, ◌∷◌, ◌++◌, length, map, Option, None, Some}
use Rattle.file_messages.specs.Messages.{start_message, piece_message}
use Rattle.file_messages.specs.Files.{File, IsLawfulFile, Between, files, state_after}
use Rattle.file_messages.specs.Cuts.{pieces, cut}
use Rattle.folders.specs.Outboxes.{Dropping, Standing, Marked}
use Rattle.folders.specs.declared.mark.Stage.{Stage}
use Rattle.folders.specs.declared.mark.Stage.TheVariants.{Fresh, Sending, Stopped}

-- how many messages a file of this size is
abbrev pub cut_length : ℕ → ℕ → ℕ
cut_length message size = (size + (message - 2)) / (message - 1) + 2

-- a file of this name as it is sent, before its end, where its start tells this size
abbrev pub sending : ℕ → List ℕ → ℕ → List ℕ → List (List ℕ)
sending message name size bytes = start_message name size ∷ map piece_message (pieces (message - 1) bytes)

-- the file is accepted in part, and is none of those that all messages give; or it is accepted whole
abbrev pub IsSoFar : ℕ → ℕ → File → List File → List (List ℕ) → List (List ℕ) → Type 0
IsSoFar message size file removed accepted part =
    ((files accepted ≡ removed) × (length part < cut_length message size))
    ⊎ ((part ≡ cut message file) × (length file.bytes ≡ size) × IsLawfulFile file)

-- the messages accepted end with some of a file that is being sent, of which the first has this number; those before
-- it give the files that were removed
pub record IsUnderWay (message start size : ℕ) (file : File) (gone : List File)
    (accepted : List (List ℕ)) : Type 0 where
  pub before : List (List ℕ)
  pub part : List (List ℕ)
  pub all : accepted ≡ before ++ part
  pub number : length before ≡ start
  pub between : state_after Between before ≡ Between
  pub given : files before ≡ gone
  pub room : 138 ≤ message
  pub so_far : IsSoFar message size file gone accepted part

abbrev pub FitsStage : Stage → File → List File → List (List ℕ) → Type 0
FitsStage Fresh file removed accepted = files accepted ≡ removed
FitsStage (Sending start message size digest) file removed accepted =
    IsUnderWay message start size file removed accepted
FitsStage (Stopped start) file removed accepted = files accepted ≡ removed

abbrev pub FitsMarked : Option Marked → List File → List (List ℕ) → Type 0
FitsMarked None removed accepted = files accepted ≡ removed
FitsMarked (Some marked) removed accepted =
    FitsStage marked.mark.stage (record { name = marked.mark.name; bytes = marked.bytes }) removed accepted

-- All messages that were ever accepted give just the files that were removed, or one more, the marked one; and of the
-- marked one, where it is being sent, they have some of its messages at their end.
abbrev pub Fits : List (List ℕ) → Standing → Type 0
Fits accepted s = FitsMarked s.marked s.removed accepted

-- every standing that a crash may leave from old to new is one that it might have left before, or fits
pub record Leaves {O : Type 0} (m : Dropping O) (accepted : List (List ℕ)) (old new : O) : Type 0 where
  pub later : m.moment old ≤ m.moment new
  pub each : (t : ℕ) (s : Standing) → t ≤ m.moment old → m.since new t s → m.since old t s ⊎ Fits accepted s

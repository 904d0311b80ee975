-- What a folder that files go out of tells of itself, and how its calls move that.
use Rattle.std.specs.Prelude.{◌≡◌, ◌⊎◌, ℕ, ◌≤◌, List, [], ◌∷◌, ◌++◌, Option, None, Some}
use Rattle.file_messages.specs.Files.{File}
use Rattle.folders.specs.Marks.{HasNumbers}
use Rattle.folders.specs.declared.mark.Mark.{Mark}
use Rattle.folders.specs.declared.mark.Stage.TheVariants.{Fresh}
use Rattle.folders.specs.declared.outbox.Found.{Found}
use Rattle.folders.specs.declared.outbox.Found.TheVariants.{Nothing, One, Several}

-- the marked file: its mark, and the bytes that its last opening gave
pub record Marked : Type 0 where
  pub mark : Mark
  pub bytes : List ℕ

-- the marked file, if there is one, and the files that were removed, in order
pub record Standing : Type 0 where
  pub marked : Option Marked
  pub removed : List File

-- What a type of folder tells. Where `tells` has no proof it tells nothing but its count.
pub record Dropping (O : Type 0) : Type 1 where
  pub tells : Type 0
  pub stands : O → Standing
  -- what a crash now may leave, and what a crash at some moment from a given one on may have left
  pub images : O → Standing → Type 0
  pub moment : O → ℕ
  pub since : O → ℕ → Standing → Type 0
  -- more than one file is marked
  pub several : O → Type 0
  -- the failed calls, counted up to the greatest u64
  pub count : O → ℕ
  -- laws
  pub stands_image : tells → (o : O) → images o (stands o)
  pub counts_now : tells → (o : O) (t : ℕ) (s : Standing) → t ≤ moment o → images o s → since o t s
  pub only_now : tells → (o : O) (s : Standing) → since o (moment o) s → images o s

-- ---- what calls make of a standing ----

abbrev pub bytes_in : Option Marked → List ℕ
bytes_in None = []
bytes_in (Some marked) = marked.bytes

-- a file is marked afresh, and was not opened
abbrev pub taken : List ℕ → Standing → Standing
taken name s = record s { marked = Some (record { mark = record { stage = Fresh; name = name }; bytes = [] }) }

abbrev pub with_mark : Mark → Standing → Standing
with_mark mark s = record s { marked = Some (record { mark = mark; bytes = bytes_in s.marked }) }

abbrev pub marked_opened : List ℕ → Option Marked → Option Marked
marked_opened bytes None = None
marked_opened bytes (Some marked) = Some (record marked { bytes = bytes })

-- the marked file was opened, and these are its bytes
abbrev pub opened : List ℕ → Standing → Standing
opened bytes s = record s { marked = marked_opened bytes s.marked }

-- the file that is marked, with the bytes that its last opening gave
abbrev pub files_in : Option Marked → List File
files_in None = []
files_in (Some marked) = record { name = marked.mark.name; bytes = marked.bytes } ∷ []

-- the marked file is removed
abbrev pub without_marked : Standing → Standing
without_marked s = record { marked = None; removed = s.removed ++ files_in s.marked }

-- ---- how calls move ----

-- the two are the same
abbrev pub Same : Standing → Standing → Type 0
Same old new = new ≡ old

-- the change is made, or not
abbrev pub MayBe : (Standing → Standing) → Standing → Standing → Type 0
MayBe change old new = (new ≡ old) ⊎ (new ≡ change old)

abbrev pub Is : (Standing → Standing) → Standing → Standing → Type 0
Is change old new = new ≡ change old

-- What stands, and each image at any moment from old to new, comes from one at old by the step.
pub record Moves {O : Type 0} (m : Dropping O) (step : Standing → Standing → Type 0) (old new : O) : Type 0 where
  pub stands : m.tells → step (m.stands old) (m.stands new)
  pub later : m.moment old ≤ m.moment new
  pub now : m.tells → (s : Standing) → m.images new s → (d : Standing) × m.images old d × step d s
  pub each : m.tells → (t : ℕ) (s : Standing) → t ≤ m.moment old → m.since new t s
      → m.since old t s ⊎ ((d : Standing) × m.images old d × step d s)
  pub keeps : m.tells → (t : ℕ) (s : Standing) → t ≤ m.moment old → m.since old t s → m.since new t s

-- a crash leaves what stands
abbrev pub Settled : {O : Type 0} → Dropping O → O → Type 0
Settled m o = m.tells → (s : Standing) → m.images o s → s ≡ m.stands o

-- a call made a change, and it is durable
pub record Makes {O : Type 0} (m : Dropping O) (change : Standing → Standing) (old new : O) : Type 0 where
  pub stands : m.tells → m.stands new ≡ change (m.stands old)
  pub settled : Settled m new

-- ---- what is there ----

abbrev pub found_in : Option Marked → Found
found_in None = Nothing
found_in (Some marked) = One marked.mark

-- the numbers of a mark that is found are in their ranges
abbrev pub IsLawfulFound : Found → Type 0
IsLawfulFound Nothing = Unit {0}
IsLawfulFound (One mark) = HasNumbers mark.stage
IsLawfulFound Several = Unit {0}

-- no file is marked
abbrev pub IsFree : Option Marked → Type 0
IsFree None = Unit {0}
IsFree (Some marked) = ⊥

-- a file of this name is marked
abbrev pub HasName : List ℕ → Option Marked → Type 0
HasName name None = ⊥
HasName name (Some marked) = marked.mark.name ≡ name

-- some file is marked
abbrev pub IsTaken : Option Marked → Type 0
IsTaken None = ⊥
IsTaken (Some marked) = Unit {0}

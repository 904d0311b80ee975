-- The names that tell how far a file was sent.
use Rattle.std.specs.Prelude.{◌≡◌, ℕ, ◌^◌, ◌<◌, ◌≤◌, List, [], ◌∷◌, ◌++◌, length, codes, decimal}
use Rattle.hex.specs.Hex.{encode_lower, IsBytes}
use Rattle.file_messages.specs.FileNames.{IsFileName}
use Rattle.folders.specs.declared.mark.Mark.{Mark}
use Rattle.folders.specs.declared.mark.Stage.{Stage}
use Rattle.folders.specs.declared.mark.Stage.TheVariants.{Fresh, Sending, Stopped}

-- the ranges of a mark's numbers
abbrev pub HasNumbers : Stage → Type 0
HasNumbers Fresh = Unit {0}
HasNumbers (Sending start message size digest) = (start < 2 ^ 48) × (message ≤ 1024) × (size < 2 ^ 48)
HasNumbers (Stopped start) = start < 2 ^ 48

-- a digest is 32 bytes
abbrev pub HasDigest : Stage → Type 0
HasDigest Fresh = Unit {0}
HasDigest (Sending start message size digest) = (length digest ≡ 32) × IsBytes digest
HasDigest (Stopped start) = Unit {0}

-- what a mark may be
pub record IsMark (mark : Mark) : Type 0 where
  pub numbers : HasNumbers mark.stage
  pub digest : HasDigest mark.stage
  pub name : IsFileName mark.name

-- a letter for how far the file is, and what is told of it
abbrev pub stage_fields : Stage → List (List ℕ)
stage_fields Fresh = codes "f" ∷ []
stage_fields (Sending start message size digest) =
    codes "s" ∷ decimal start ∷ decimal message ∷ decimal size ∷ encode_lower digest ∷ []
stage_fields (Stopped start) = codes "a" ∷ decimal start ∷ []

-- fields with a dash behind each, and then a name
abbrev pub dashed : List (List ℕ) → List ℕ → List ℕ
dashed [] name = name
dashed (field ∷ fields) name = field ++ 45 ∷ dashed fields name

-- the name that a marked file has in a session
abbrev pub hidden_name : ℕ → Mark → List ℕ
hidden_name session mark = dashed (codes ".np" ∷ decimal session ∷ stage_fields mark.stage) mark.name
